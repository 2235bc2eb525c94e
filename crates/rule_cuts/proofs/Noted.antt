-- What is noted of a program's operations.
use Rattle.std.proofs.Common.{◌≡◌, ◌⊎◌, inl, inr, ℕ, zero, suc, ◌<◌, ◌≤◌, ◌*◌, List, [], ◌∷◌, length, map, refl, sym, ap, subst, ◌∙◌, true, false, arith, get_or}
use Rattle.std.specs.Prelude.{Bool, All, Contains, zip, cond}
use Rattle.std.specs.List.{filter}
use Rattle.std.proofs.lemmas.Bool.{ltb-false}
use Rattle.std.proofs.lemmas.Nat.{mul-le}
use Rattle.std.proofs.lemmas.List.{length-map}
use Rattle.std.proofs.lemmas.Slice.Zip.{get_or-zip, length-zip}
use Rattle.rule_lang.specs.Tree.{Tree, ItemTree}
use Rattle.rule_lang.specs.View.{tree_of}
use Rattle.rule_check.specs.Table.{M}
use Rattle.rule_check.specs.Value.{value}
use Rattle.rule_cuts.specs.declared.limits.Limits.{Limits}
use Rattle.rule_cuts.specs.declared.operations.Operation.{Operation}
use Rattle.rule_cuts.specs.declared.operations.Operation.TheVariants as operation
use Rattle.rule_cuts.specs.declared.cuttable.Cuttable.{Cuttable}
use Rattle.rule_ranges.specs.declared.range.Range.{Range}
use Rattle.rule_cuts.specs.Operations.{ProductTree, HasRanges, IsNeverCut, LiesIn, can_pass, operation_of, operations_of}
use Rattle.rule_cuts.specs.Cuttable.{AreCuttable, noted_places, placed_of}
use Rattle.rule_cuts.specs.Places.{AreOperationPlaces}
use Rattle.rule_cuts.proofs.Uncut.{total_uncut}

-- a product of values that lie in ranges whose greatest ones multiplied are no more than the greatest value there is
product_uncut : (limits : Limits) (a b : Tree) (left right : Range) → left.most * right.most ≤ M → LiesIn limits a left → LiesIn limits b right → IsNeverCut limits (ProductTree a b)
product_uncut limits a b left right small of_a of_b = λ here near inside beside.
    let v : ℕ = value here a near in
    let w : ℕ = value here b near in
    let one : v ≤ left.most = (of_a here near inside beside).to in
    let other : w ≤ right.most = (of_b here near inside beside).to in
    omega (arith, mul-le v w left.most right.most one other, small)

pub uncut : (limits : Limits) (o : Operation) → can_pass limits o ≡ false → HasRanges limits o → IsNeverCut limits (operation_of o)
uncut limits (operation.Product a b) small ranges =
    product_uncut limits (tree_of a.expr.now) (tree_of b.expr.now) a.range b.range (ltb-false M (a.range.most * b.range.most) small) ranges.0 ranges.1
uncut limits (operation.Total a) small ranges = total_uncut limits (tree_of a.expr.now) a.range (ltb-false M (a.range.most * limits.bounds.degree) small) ranges

-- what passes a test is among those that do
module _ {X : Type 0} (test : X → Bool) (f : X → ℕ) where
  first_kept : (x : X) (xs : List X) (b : Bool) → b ≡ true → Contains (map f (cond b (x ∷ xs) xs)) (f x)
  first_kept x xs true pass = (0, omega arith, refl)
  first_kept x xs false pass = absurd (cc)

  later_kept : (x : X) (xs : List X) (b : Bool) (v : ℕ) → Contains (map f xs) v → Contains (map f (cond b (x ∷ xs) xs)) v
  later_kept x xs true v there = (suc there.0, (let inside = there.1 in omega arith), there.2)
  later_kept x xs false v there = there

  pub kept : (xs : List X) (k : ℕ) (d : X) → k < length xs → test (get_or xs k d) ≡ true → Contains (map f (filter test xs)) (f (get_or xs k d))
  kept [] k d inside pass = absurd (omega arith)
  kept (x ∷ xs) zero d inside pass = first_kept x (filter test xs) (test x) pass
  kept (x ∷ xs) (suc k) d inside pass = later_kept x (filter test xs) (test x) (f (get_or xs k d)) (kept xs k d (omega arith) pass)

-- the places of what is noted
places_of : (noted : List Cuttable) → map (λ p. p.1) (map placed_of noted) ≡ noted_places noted
places_of [] = refl
places_of (c ∷ noted) = ap (λ ats. c.at ∷ ats) (places_of noted)

-- an operation whose place is not noted is never cut
module _ (limits : Limits) (all : List Operation) (at : List ℕ) (noted : List Cuttable) where
  pub never_cut : map placed_of noted ≡ filter (λ p. can_pass limits p.0) (zip all at) → All (HasRanges limits) all
      → All (λ (p : Operation × ℕ). Contains (noted_places noted) p.1 ⊎ IsNeverCut limits (operation_of p.0)) (zip all at)
  never_cut is ranges = λ k d inside. by_test k d inside (can_pass limits (get_or (zip all at) k d).0) refl where
    by_test : (k : ℕ) (d : Operation × ℕ) → k < length (zip all at) → (b : Bool) → can_pass limits (get_or (zip all at) k d).0 ≡ b
        → Contains (noted_places noted) (get_or (zip all at) k d).1 ⊎ IsNeverCut limits (operation_of (get_or (zip all at) k d).0)
    by_test k d inside true pass =
        inl (subst (λ ats. Contains ats (get_or (zip all at) k d).1) (ap (map (λ p. p.1)) (sym is) ∙ places_of noted)
        (kept (λ p. can_pass limits p.0) (λ p. p.1) (zip all at) k d inside pass))
    by_test k d inside false pass =
        let pair = get_or-zip all at k d (omega (arith, length-zip all at, inside)) (omega (arith, length-zip all at, inside)) in
        inr (uncut limits (get_or (zip all at) k d).0 pass
        (subst (λ (p : Operation × ℕ). HasRanges limits p.0) (sym pair) (ranges k d.0 (omega (arith, length-zip all at, inside)))))

pub are_cuttable : (limits : Limits) (text : List ℕ) (items : List ItemTree) (all : List Operation) (at : List ℕ) (noted : List Cuttable)
    → map operation_of all ≡ operations_of items → All (HasRanges limits) all → AreOperationPlaces text at → length at ≡ length (operations_of items)
    → map placed_of noted ≡ filter (λ p. can_pass limits p.0) (zip all at) → AreCuttable limits text items noted
are_cuttable limits text items all at noted program ranges places each is = record {
  all = all;
  program = program;
  ranges = ranges;
  at = at;
  places = places;
  one_each = each ∙ ap length (sym program) ∙ length-map all operation_of;
  passing = is;
  never = never_cut limits all at noted is ranges;
}
