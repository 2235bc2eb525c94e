-- The blocks of nodes, one size after another.
use Rattle.std.proofs.Common.{◌≡◌, ℕ, ◌+◌, ◌<◌, List, ◌++◌, length, drop, get_or, replicate, ap, sym, ◌∙◌, append_assoc}
use Rattle.std.proofs.lemmas.List.{at_drop_more}
use Rattle.net_random.specs.Blocks.{blocks_from, blocks_of}

-- one block more
pub block_more : (sizes : List ℕ) (i : ℕ) (done : List ℕ) {more : List ℕ} → more ≡ done ++ replicate (get_or sizes i 0) i → i < length sizes
    → done ++ blocks_from i (drop i sizes) ≡ blocks_of sizes → more ++ blocks_from (i + 1) (drop (i + 1) sizes) ≡ blocks_of sizes
block_more sizes i done put low before =
    let rest = blocks_from (i + 1) (drop (i + 1) sizes) in
    ap (λ bs. bs ++ rest) put
    ∙ append_assoc done (replicate (get_or sizes i 0) i) rest
    ∙ ap (λ bs. done ++ bs) (sym (at_drop_more (blocks_from i) sizes i 0 low))
    ∙ before
