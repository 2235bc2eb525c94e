-- Lines that give no new name.
use Rattle.std.proofs.Common.{◌≡◌, ◌≢◌, ℕ, ◌+◌, Bool, true, false, not, List, length, nat_lt, nat_le, ◌&&◌, None, Ok, Err, refl, arith, if◌then◌else◌}
use Rattle.std.specs.List.{position}
use Rattle.std.specs.Str.{bytes_eq}
use Rattle.std.specs.List.{list_any}
use Rattle.std.specs.Str.{is_utf8, IsUtf8}
use Rattle.std.proofs.lemmas.Bool.{ltb-false, and_left, and_right, false_from_ne_true}
use Rattle.std.proofs.lemmas.Str.{IsUtf8-from_is_utf8}
use Rattle.link_net.specs.Limits.{most_rows}
use Rattle.net_names.specs.declared.fault.NamesFault.{NamesFault}
use Rattle.net_names.specs.declared.fault.NamesFault.TheVariants.{BadName, TooManyNames, Memory}
use Rattle.net_names.specs.Naming.{AreNames, is_control, most_name_bytes, is_name, place_in, number_in}
use Rattle.net_names.specs.NamesFiles.{IsLineFault, at_line}
use Rattle.net_names.proofs.Names.{is_new, place_of_new}

-- bytes that are no text are no name
pub not_text : (bytes : List ℕ) → (IsUtf8 bytes → ⊥) → is_name bytes ≡ false
not_text bytes no-text =
    and_right (nat_lt 0 (length bytes) && nat_le (length bytes) most_name_bytes) (is_utf8 bytes && not (list_any is_control bytes))
    (and_left (is_utf8 bytes) (not (list_any is_control bytes)) (false_from_ne_true (is_utf8 bytes) (λ text. no-text (IsUtf8-from_is_utf8 bytes text))))

pub bad_when : (a b : Bool) (i : ℕ) → (if not a then Err BadName else if b then Ok i else Err TooManyNames) ≡ Err BadName → a ≡ false
bad_when true true i h = grind (arith, h)
bad_when true false i h = grind (arith, h)
bad_when false b i h = refl

pub full_when : (a b : Bool) (i : ℕ) → (if not a then Err BadName else if b then Ok i else Err TooManyNames) ≡ Err TooManyNames → (a ≡ true) × (b ≡ false)
full_when true true i h = grind (arith, h)
full_when true false i h = (refl, refl)
full_when false b i h = grind (arith, h)

module _ (earlier : List (List ℕ)) (here : List ℕ) (line : ℕ) (at : line ≡ length earlier + 1) (are : AreNames earlier) (none : None ≡ position (bytes_eq here) earlier) where
  -- a name that has no number refuses its line
  pub refused_at : (fault : NamesFault) → (fault ≢ Memory → number_in most_rows earlier here ≡ Err fault) → IsLineFault earlier here (at_line line fault)
  refused_at BadName why = (at, bad_when (is_name here) (nat_lt (place_in earlier here) most_rows) (place_in earlier here) (why (λ e. cc)))
  refused_at TooManyNames why =
      let full = full_when (is_name here) (nat_lt (place_in earlier here) most_rows) (place_in earlier here) (why (λ e. cc)) in
      let new = is_new earlier here none in
      let few = are.few in
      let most = ltb-false (place_in earlier here) most_rows full.1 in
      (at, full.0, new, omega (arith, place_of_new earlier here new))
  refused_at Memory why = tt
