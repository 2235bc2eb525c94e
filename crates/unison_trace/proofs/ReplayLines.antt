-- The lines of a replay report.
use Rattle.std.proofs.Common.{◌≡◌, ℕ, suc, ◌+◌, ◌-◌, ◌<◌, List, ◌++◌, sym, ap, ◌∙◌, arith, append_assoc}
use Rattle.std.specs.List.{flat_map, range_with_len}
use Rattle.std.proofs.lemmas.List.Concat.{flat_map-cons}

-- one line more
pub line_more : (f : ℕ → List ℕ) (out new whole : List ℕ) (i n : ℕ) → i < n → new ≡ out ++ f i → out ++ flat_map f (range_with_len i (n - i)) ≡ whole → new ++ flat_map f (range_with_len (i + 1) (n - (i + 1))) ≡ whole
line_more f out new whole i n inside is left =
    let rest = range_with_len (i + 1) (n - (i + 1)) in
    let count : n - i ≡ suc (n - (i + 1)) = omega arith in
    let next : flat_map f (range_with_len i (n - i)) ≡ f i ++ flat_map f rest = ap (λ k. flat_map f (range_with_len i k)) count ∙ flat_map-cons f i rest in
    ap (λ t. t ++ flat_map f rest) is ∙ append_assoc out (f i) (flat_map f rest) ∙ ap (λ t. out ++ t) (sym next) ∙ left
