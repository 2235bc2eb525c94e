-- Entries, read line by line.
use Rattle.std.proofs.Common.{◌≡◌, inl, inr, ◌≤◌, ℕ, zero, suc, ◌+◌, ◌-◌, true, false, ◌==◌, nat_lt, List, [], ◌∷◌, ◌++◌, length, take, drop, map, refl, sym, ap, arith, Result, Ok, Err}
use Rattle.std.specs.Prelude.{if◌then◌else◌, MatchResult}
use Rattle.std.specs.Result.{IsErrAnd}
use Rattle.std.proofs.lemmas.Bool.{cases_Bool, ne_eqb, eq-eqb}
use Rattle.import_links.specs.declared.placed.PlacedLink.{PlacedLink}
use Rattle.import_formats.specs.declared.matrix_market.entry.EntryForm.{EntryForm}
use Rattle.import_formats.specs.declared.matrix_market.fault.MatrixFault.{MatrixFault}
use Rattle.import_formats.specs.declared.matrix_market.fault.MatrixFault.TheVariants.{TooManyEntries, TooFewEntries}
use Rattle.import_formats.specs.matrix_market.Steps.{and_then, all_of}
use Rattle.import_formats.specs.matrix_market.Matrices.{link_of, counted, links_in}

-- the link of a line before which so many were found
abbrev pub next_of : EntryForm → ℕ → ℕ → ℕ × List ℕ → Result PlacedLink MatrixFault
next_of form said found l = if found == said then Err (TooManyEntries l.0 said) else link_of form l

-- the links of the lines that are left, where so many were found
abbrev pub rest_of : EntryForm → ℕ → ℕ → List (ℕ × List ℕ) → Result (List PlacedLink) MatrixFault
rest_of form said found [] = if nat_lt found said then Err (TooFewEntries said found) else Ok []
rest_of form said found (l ∷ ls) = and_then (next_of form said found l) (λ x. and_then (rest_of form said (found + 1) ls) (λ xs. Ok (x ∷ xs)))

-- ---- the definition, line by line

counted_more : (said found : ℕ) (beyond : List (ℕ × List ℕ)) (x : PlacedLink) (xs : List PlacedLink) → and_then (counted said found beyond xs) (λ ys. Ok (x ∷ ys)) ≡ counted said found beyond (x ∷ xs)
counted_more said found [] x xs =
    elim (cases_Bool (nat_lt found said)) [
      | inl less ↦ rw less refl
      | inr other ↦ rw other refl
    ]
counted_more said found (l ∷ beyond) x xs = refl

both_more : (said found : ℕ) (beyond : List (ℕ × List ℕ)) (x : PlacedLink) (read : Result (List PlacedLink) MatrixFault) → and_then (and_then read (counted said found beyond)) (λ ys. Ok (x ∷ ys)) ≡ and_then (and_then read (λ xs. Ok (x ∷ xs))) (counted said found beyond)
both_more said found beyond x (Ok xs) = counted_more said found beyond x xs
both_more said found beyond x (Err fault) = refl

step_more : (said found : ℕ) (beyond : List (ℕ × List ℕ)) (first : Result PlacedLink MatrixFault) (read : Result (List PlacedLink) MatrixFault) → and_then first (λ x. and_then (and_then read (counted said found beyond)) (λ ys. Ok (x ∷ ys))) ≡ and_then (and_then first (λ x. and_then read (λ xs. Ok (x ∷ xs)))) (counted said found beyond)
step_more said found beyond (Ok x) read = both_more said found beyond x read
step_more said found beyond (Err fault) read = refl

none_more : (n : ℕ) → n + 0 ≡ n
none_more n = omega arith

rest_is : (form : EntryForm) (said found k : ℕ) (lines : List (ℕ × List ℕ)) → said ≡ found + k → rest_of form said found lines ≡ and_then (all_of (map (link_of form) (take k lines))) (counted said (found + length lines) (drop k lines))
rest_is form said found zero [] is = ap (λ n. counted said n [] []) (sym (none_more found))
rest_is form said found (suc k) [] is = ap (λ n. counted said n [] []) (sym (none_more found))
rest_is form said found zero (l ∷ ls) is = (let same : (found == said) ≡ true = eq-eqb found said (omega (arith, is)) in rw same refl)
rest_is form said found (suc k) (l ∷ ls) is =
    let other : (found == said) ≡ false = ne_eqb found said (λ (e : found ≡ said). omega (arith, e, is)) in
    let later = rest_is form said (found + 1) k ls (omega (arith, is)) in
    let total : found + 1 + length ls ≡ found + suc (length ls) = omega arith in
    rw (other, later, total) (step_more said (found + suc (length ls)) (drop k ls) (link_of form l) (all_of (map (link_of form) (take k ls))))

-- what the definition says of the lines that are left
left_is : (form : EntryForm) (said found : ℕ) (lines : List (ℕ × List ℕ)) → found ≤ said → links_in form said found lines ≡ rest_of form said found lines
left_is form said found lines most = sym (rest_is form said found (said - found) lines (omega (arith, most)))

-- ---- the next line

module _ (form : EntryForm) (said found : ℕ) (lines : List (ℕ × List ℕ)) (most : found ≤ said) where
  -- it is bad
  pub next_bad : (l : ℕ × List ℕ) (rest : List (ℕ × List ℕ)) (fault : MatrixFault) → lines ≡ l ∷ rest → next_of form said found l ≡ Err fault → links_in form said found lines ≡ Err fault
  next_bad l rest fault shape said_so = rw (left_is form said found lines most, shape, said_so) refl

-- ---- links, one after another

-- the links so far before those that are left
abbrev pub with_front : List PlacedLink → Result (List PlacedLink) MatrixFault → Result (List PlacedLink) MatrixFault
with_front front read = and_then read (λ links. Ok (front ++ links))

-- whether links are left aside
abbrev pub checked : Result (List PlacedLink) MatrixFault → Result (Unit {0}) MatrixFault
checked read = and_then read (λ _. Ok tt)

-- a fault that is passed on
pub passed_on : {A : Type 0} (r : Result A MatrixFault) (fault : MatrixFault) (P : A → Type 0) (defined : Result (List PlacedLink) MatrixFault) → IsErrAnd r (λ e. e ≡ fault) → defined ≡ Err fault → MatchResult r P (λ e. defined ≡ Err e)
passed_on (Ok x) fault P defined is h = absurd is
passed_on (Err e) fault P defined is h = rw is h
