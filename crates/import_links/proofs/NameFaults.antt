-- Names that have no number.
use Rattle.std.proofs.Common.{◌≡◌, ◌≢◌, ℕ, ◌<◌, ◌≤◌, Bool, true, false, not, List, [], ◌∷◌, length, nat_lt, Result, Ok, Err, refl, arith, if◌then◌else◌}
use Rattle.std.proofs.lemmas.Bool.{ltb-true, ltb-false}
use Rattle.std.proofs.lemmas.List.{length-append}
use Rattle.net_names.specs.declared.fault.NamesFault.{NamesFault}
use Rattle.net_names.specs.declared.fault.NamesFault.TheVariants.{BadName, TooManyNames, Memory}
use Rattle.net_names.specs.Naming.{is_name, has_name, place_in, with_name, number_in}
use Rattle.net_names.proofs.Refusals.{bad_when, full_when}
use Rattle.net_names.proofs.Names.{place_of_new}
use Rattle.import_links.specs.Refusals.{IsNameFault, at_line}

abbrev number_if : Bool → Bool → ℕ → Result ℕ NamesFault
number_if a b i = if not a then Err BadName else if b then Ok i else Err TooManyNames

ok_when : (a b : Bool) (i k : ℕ) → number_if a b i ≡ Ok k → k ≡ i
ok_when true true i k h = grind (arith, h)
ok_when true false i k h = grind (arith, h)
ok_when false b i k h = grind (arith, h)

ok_low : (a b : Bool) (i k : ℕ) → number_if a b i ≡ Ok k → b ≡ true
ok_low true true i k h = refl
ok_low true false i k h = cc
ok_low false b i k h = cc

module _ (most : ℕ) (names : List (List ℕ)) (name : List ℕ) where
  -- a number is a place
  pub number_place : (k : ℕ) → number_in most names name ≡ Ok k → k ≡ place_in names name
  number_place k is = ok_when (is_name name) (nat_lt (place_in names name) most) (place_in names name) k is

  -- a name that finds no room is one too many
  one_too_many : nat_lt (place_in names name) most ≡ false → most < length (with_name names name)
  one_too_many past = at (has_name names name) refl where
    high : most ≤ place_in names name
    high = ltb-false (place_in names name) most past

    at : (has : Bool) → has_name names name ≡ has → most < length (with_name names name)
    at true has = (let low = ltb-true (place_in names name) (length names) has in rw has (omega (arith, low, high)))
    at false new = (let end = place_of_new names name new in rw new (omega (arith, end, high, length-append names (name ∷ []))))

  -- with a name that has a number there are no more names than there may be
  pub few_with : (k : ℕ) → number_in most names name ≡ Ok k → length names ≤ most → length (with_name names name) ≤ most
  few_with k is few = at (has_name names name) refl where
    low : place_in names name < most
    low = ltb-true (place_in names name) most (ok_low (is_name name) (nat_lt (place_in names name) most) (place_in names name) k is)

    at : (has : Bool) → has_name names name ≡ has → length (with_name names name) ≤ most
    at true has = rw has few
    at false new = (let end = place_of_new names name new in rw new (omega (arith, end, low, length-append names (name ∷ []))))

  pub refused_at : (line : ℕ) (fault : NamesFault) → (fault ≢ Memory → number_in most names name ≡ Err fault) → IsNameFault most names name line (at_line line fault)
  refused_at line BadName why = (refl, bad_when (is_name name) (nat_lt (place_in names name) most) (place_in names name) (why (λ e. cc)))
  refused_at line TooManyNames why = (refl, one_too_many (full_when (is_name name) (nat_lt (place_in names name) most) (place_in names name) (why (λ e. cc))).1)
  refused_at line Memory why = tt
