-- Lines and counts, one node more, and the whole text.
use Rattle.std.proofs.Common.{◌≡◌, ◌∙◌, ℕ, suc, ◌+◌, ◌-◌, ◌<◌, List, [], ◌∷◌, ◌++◌, length, map, ap, sym, arith, append_assoc, zero-add, Bool, cond}
use Rattle.std.specs.List.{count_by, flat_map, range_with_len, sum_by}
use Rattle.std.proofs.lemmas.List.{map-id}
use Rattle.std.proofs.lemmas.List.Concat.{flat_map-cons}
use Rattle.std.proofs.lemmas.List.FromFn.{sum_by-map-range_with_len_more}
use Rattle.link_net.specs.Neighbours.{numbers_below}

-- one line more
pub line_more : (f : ℕ → List ℕ) (out new whole : List ℕ) (i n : ℕ) → i < n → new ≡ out ++ f i → out ++ flat_map f (range_with_len i (n - i)) ≡ whole → new ++ flat_map f (range_with_len (i + 1) (n - (i + 1))) ≡ whole
line_more f out new whole i n inside is left =
    let rest = range_with_len (i + 1) (n - (i + 1)) in
    let count : n - i ≡ suc (n - (i + 1)) = omega arith in
    let next : flat_map f (range_with_len i (n - i)) ≡ f i ++ flat_map f rest = ap (λ k. flat_map f (range_with_len i k)) count ∙ flat_map-cons f i rest in
    ap (λ t. t ++ flat_map f rest) is ∙ append_assoc out (f i) (flat_map f rest) ∙ ap (λ t. out ++ t) (sym next) ∙ left

-- how many numbers pass, with one more
pub count_more : (p : ℕ → Bool) (i : ℕ) → count_by p (numbers_below (i + 1)) ≡ count_by p (numbers_below i) + cond (p i) 1 0
count_more p i =
    let one = λ (n : ℕ). cond (p n) 1 0 in
    ap (sum_by one) (sym (map-id (numbers_below (i + 1))))
    ∙ sum_by-map-range_with_len_more one (λ n. n) 0 i i (zero-add i)
    ∙ ap (λ xs. sum_by one xs + cond (p i) 1 0) (map-id (numbers_below i))

-- a text that is put in four parts
pub four_parts : (start one two three four a b c d : List ℕ) → start ≡ [] → one ≡ start ++ a → two ≡ one ++ b → three ≡ two ++ c → four ≡ three ++ d → four ≡ a ++ (b ++ (c ++ d))
four_parts start one two three four a b c d none first second third fourth =
    fourth ∙ ap (λ t. t ++ d) (third ∙ ap (λ t. t ++ c) (second ∙ ap (λ t. t ++ b) (first ∙ ap (λ t. t ++ a) none)))
    ∙ append_assoc (a ++ b) c d ∙ append_assoc a b (c ++ d)
