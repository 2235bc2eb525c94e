-- Turns of the loop that picks the operations that can be cut.
use Rattle.std.proofs.Common.{◌≡◌, ℕ, ◌+◌, ◌<◌, List, [], ◌∷◌, ◌++◌, map, length, take, get_or, sym, ap, ◌∙◌, true, false, arith, append-nil}
use Rattle.std.specs.Prelude.{Bool, zip, cond, min}
use Rattle.std.specs.List.{filter}
use Rattle.std.proofs.lemmas.List.{map-append, take_all}
use Rattle.std.proofs.lemmas.List.Elements.{filter_more}
use Rattle.std.proofs.lemmas.Slice.Zip.{get_or-zip, length-zip}
use Rattle.rule_cuts.specs.declared.operations.Operation.{Operation}
use Rattle.rule_cuts.specs.declared.cuttable.Cuttable.{Cuttable}
use Rattle.rule_cuts.specs.Cuttable.{placed_of}

module _ (test : Operation × ℕ → Bool) (all : List Operation) (at : List ℕ) (n : ℕ) (o : Operation) (a : ℕ)
    (inside : n < length all) (within : n < length at) (first : o ≡ get_or all n o) (second : a ≡ get_or at n a) where
  taken : filter test (take (n + 1) (zip all at)) ≡ filter test (take n (zip all at)) ++ cond (test (o, a)) ((o, a) ∷ []) []
  taken =
      let same : get_or (zip all at) n (o, a) ≡ (o, a) = get_or-zip all at n (o, a) inside within ∙ ap (λ x. (x, get_or at n a)) (sym first) ∙ ap (λ x. (o, x)) (sym second) in
      filter_more test (zip all at) n (o, a) (omega (arith, length-zip all at, inside, within))
      ∙ ap (λ p. filter test (take n (zip all at)) ++ cond (test p) (p ∷ []) []) same

  pub picked : (before after : List Cuttable) (c : Cuttable) → placed_of c ≡ (o, a) → test (o, a) ≡ true → after ≡ before ++ c ∷ []
      → map placed_of before ≡ filter test (take n (zip all at)) → map placed_of after ≡ filter test (take (n + 1) (zip all at))
  picked before after c is pass pushed h =
      ap (map placed_of) pushed
      ∙ map-append placed_of before (c ∷ [])
      ∙ ap (λ ps. ps ++ placed_of c ∷ []) h
      ∙ ap (λ p. filter test (take n (zip all at)) ++ p ∷ []) is
      ∙ ap (λ b. filter test (take n (zip all at)) ++ cond b ((o, a) ∷ []) []) (sym pass)
      ∙ sym taken

  pub passed_over : (before : List Cuttable) → test (o, a) ≡ false
      → map placed_of before ≡ filter test (take n (zip all at)) → map placed_of before ≡ filter test (take (n + 1) (zip all at))
  passed_over before pass h =
      h
      ∙ sym (append-nil (filter test (take n (zip all at))))
      ∙ ap (λ b. filter test (take n (zip all at)) ++ cond b ((o, a) ∷ []) []) (sym pass)
      ∙ sym taken

pub all_picked : (test : Operation × ℕ → Bool) (all : List Operation) (at : List ℕ) (n : ℕ) → n ≡ min (length all) (length at) → filter test (take n (zip all at)) ≡ filter test (zip all at)
all_picked test all at n end = ap (filter test) (take_all n (zip all at) (omega (arith, length-zip all at, end)))
