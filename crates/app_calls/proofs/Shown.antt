-- What is shown of one node more.
use Rattle.std.proofs.Common.{◌≡◌, ◌∙◌, ℕ, suc, ◌+◌, ◌-◌, ◌<◌, List, [], ◌∷◌, ◌++◌, ap, append_assoc, arith, map, sym}
use Rattle.std.specs.List.{flat_map, range_with_len}
use Rattle.std.proofs.lemmas.List.Concat.{flat_map-cons}

pub words_more : (f : ℕ → List ℕ) (out new whole : List ℕ) (i n : ℕ) → i < n → new ≡ out ++ f i → out ++ flat_map f (range_with_len i (n - i)) ≡ whole → new ++ flat_map f (range_with_len (i + 1) (n - (i + 1))) ≡ whole
words_more f out new whole i n inside is left =
    let rest = range_with_len (i + 1) (n - (i + 1)) in
    let count : n - i ≡ suc (n - (i + 1)) = omega arith in
    let next : flat_map f (range_with_len i (n - i)) ≡ f i ++ flat_map f rest = ap (λ k. flat_map f (range_with_len i k)) count ∙ flat_map-cons f i rest in
    ap (λ t. t ++ flat_map f rest) is ∙ append_assoc out (f i) (flat_map f rest) ∙ ap (λ t. out ++ t) (sym next) ∙ left

pub count_more : (f : ℕ → ℕ) (out new whole : List ℕ) (i n : ℕ) → i < n → new ≡ out ++ f i ∷ [] → out ++ map f (range_with_len i (n - i)) ≡ whole → new ++ map f (range_with_len (i + 1) (n - (i + 1))) ≡ whole
count_more f out new whole i n inside is left =
    let rest = map f (range_with_len (i + 1) (n - (i + 1))) in
    let count : n - i ≡ suc (n - (i + 1)) = omega arith in
    let next : map f (range_with_len i (n - i)) ≡ f i ∷ rest = ap (λ k. map f (range_with_len i k)) count in
    ap (λ t. t ++ rest) is ∙ append_assoc out (f i ∷ []) rest ∙ ap (λ t. out ++ t) (sym next) ∙ left
