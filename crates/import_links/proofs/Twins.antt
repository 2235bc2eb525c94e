-- Links that join the same two nodes.
use Rattle.std.proofs.Common.{◌≡◌, ℕ, Bool, true, false, ◌==◌, ◌&&◌, ◌||◌, not, List, [], ◌∷◌, refl, sym, ap, ◌∙◌, inl, inr, arith}
use Rattle.std.proofs.lemmas.Bool.{cases_Bool, and_parts}
use Rattle.std.proofs.lemmas.Bool.Decides.{nat_tests}
use Rattle.std.specs.Prelude.{min, max}
use Rattle.std.specs.Cmp.{nat_eq_equiv}
use Rattle.std.specs.List.{filter}
use Rattle.net_text.specs.Listing.{Link}
use Rattle.import_links.specs.declared.kept.Kept.{Kept}
use Rattle.import_links.specs.Merging.{are_parallel, parallel_to, others_than, with_kept, merged}
use Rattle.import_links.specs.Puts.{ends, are_same}

same_numbers : (a b c d : ℕ) → ((a == c && b == d) || (a == d && b == c)) ≡ true → (min c d == min a b && max c d == max a b) ≡ true
same_numbers a b c d h = grind (arith, nat_tests)

other_numbers : (a b c d : ℕ) → ((a == c && b == d) || (a == d && b == c)) ≡ false → (min c d == min a b && max c d == max a b) ≡ false
other_numbers a b c d h = grind (arith, nat_tests)

pub parallel_same : (l m : Link) → are_parallel l m ≡ are_same (ends m) (ends l)
parallel_same l m =
    elim (cases_Bool (are_parallel l m)) [
      | inl near ↦ near ∙ sym (same_numbers l.0 l.1 m.0 m.1 near)
      | inr far ↦ far ∙ sym (other_numbers l.0 l.1 m.0 m.1 far)
    ]

same_number : (a b : ℕ) → (a == b) ≡ true → a ≡ b
same_number a b h = grind (arith, nat_tests)

same_parts : (a b c d : ℕ) → a ≡ c → b ≡ d → ◌≡◌ {A = ℕ × ℕ} (a, b) (c, d)
same_parts a b c d h g = rw (h, g) refl

same_pair : (p q : ℕ × ℕ) → are_same p q ≡ true → p ≡ q
same_pair p q h = let parts = and_parts (p.0 == q.0) (p.1 == q.1) h in same_parts p.0 p.1 q.0 q.1 (same_number p.0 q.0 parts.0) (same_number p.1 q.1 parts.1)

same_turned : (p q : ℕ × ℕ) → are_same p q ≡ are_same q p
same_turned p q = rw (nat_eq_equiv.symm p.0 q.0, nat_eq_equiv.symm p.1 q.1) refl

parallel_turned : (l m : Link) → are_parallel l m ≡ are_parallel m l
parallel_turned l m = parallel_same l m ∙ same_turned (ends m) (ends l) ∙ sym (parallel_same m l)

-- what is parallel to one of two parallel links is parallel to the other
parallel_like : (l x y : Link) → are_parallel l x ≡ true → are_parallel l y ≡ are_parallel x y
parallel_like l x y h =
    let same : ends x ≡ ends l = same_pair (ends x) (ends l) (sym (parallel_same l x) ∙ h) in
    parallel_same l y ∙ ap (λ p. are_same (ends y) p) (sym same) ∙ sym (parallel_same x y)

-- a test after a weaker one
filter_weaker : {X : Type 0} (p q : X → Bool) → ((x : X) → p x ≡ true → q x ≡ true) → (xs : List X) → filter p (filter q xs) ≡ filter p xs
filter_weaker p q h [] = refl
filter_weaker p q h (x ∷ xs) =
    elim (cases_Bool (p x)) [
      | inl here ↦ rw (h x here) (rw here (ap (λ r. x ∷ r) (filter_weaker p q h xs)))
      | inr gone ↦ elim (cases_Bool (q x)) [
        | inl there ↦ rw there (rw gone (filter_weaker p q h xs))
        | inr none ↦ rw (none, gone) (filter_weaker p q h xs)
      ]
    ]

filter_swap : {X : Type 0} (p q : X → Bool) (xs : List X) → filter p (filter q xs) ≡ filter q (filter p xs)
filter_swap p q [] = refl
filter_swap p q (x ∷ xs) =
    elim (cases_Bool (p x)) [
      | inl here ↦ elim (cases_Bool (q x)) [
        | inl both ↦ rw (here, both) (rw here (ap (λ r. x ∷ r) (filter_swap p q xs)))
        | inr none ↦ rw (here, none) (filter_swap p q xs)
      ]
      | inr gone ↦ elim (cases_Bool (q x)) [
        | inl both ↦ rw (gone, both) (rw gone (filter_swap p q xs))
        | inr none ↦ rw (gone, none) (filter_swap p q xs)
      ]
    ]

not_parallel : (l x y : Link) → are_parallel l x ≡ false → are_parallel x y ≡ true → not (are_parallel l y) ≡ true
not_parallel l x y apart h =
    elim (cases_Bool (are_parallel l y)) [
      | inl near ↦
          let back : are_parallel l x ≡ true = parallel_like l y x near ∙ parallel_turned y x ∙ h in
          cc
      | inr far ↦ rw far refl
    ]

others_like : (l x : Link) → are_parallel l x ≡ true → (y : Link) → not (are_parallel l y) ≡ true → not (are_parallel x y) ≡ true
others_like l x h y far = rw (sym (parallel_like l x y h)) far

-- the others of merged links are the others, merged
pub others_merged : (k : Kept) (l : Link) (ls : List Link) → others_than l (merged k ls) ≡ merged k (others_than l ls)
others_merged k l [] = refl
others_merged k l (x ∷ xs) =
    elim (cases_Bool (are_parallel l x)) [
      | inl near ↦
          let less = filter_weaker (λ y. not (are_parallel l y)) (λ y. not (are_parallel x y)) (others_like l x near) (merged k xs) in
          rw near (less ∙ others_merged k l xs)
      | inr far ↦
          let own = filter_weaker (are_parallel x) (λ y. not (are_parallel l y)) (λ y h. not_parallel l x y far h) xs in
          let turned = filter_swap (λ y. not (are_parallel l y)) (λ y. not (are_parallel x y)) (merged k xs) in
          let rest = turned ∙ ap (others_than x) (others_merged k l xs) in
          rw (far, own) (ap (λ r. with_kept k x (parallel_to x xs) ∷ r) rest)
    ]
