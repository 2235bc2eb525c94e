-- The greatest count of one node more.
use Rattle.std.proofs.Common.{◌≡◌, ◌+◌, ◌<◌, ℕ, List, ap, drop, get_or, length, map, max, sym}
use Rattle.std.proofs.lemmas.List.{drop_more}
use Rattle.std.specs.List.{fold}
use Rattle.run_naive.specs.Naive.{NaiveNode}

pub counts_more : (most : ℕ) (nodes : List NaiveNode) (k : ℕ) (d : NaiveNode) → k < length nodes
    → fold max (max most (get_or nodes k d).moves) (map (λ (n : NaiveNode). n.moves) (drop (k + 1) nodes)) ≡ fold max most (map (λ (n : NaiveNode). n.moves) (drop k nodes))
counts_more most nodes k d inside = sym (ap (λ (ns : List NaiveNode). fold max most (map (λ (n : NaiveNode). n.moves) ns)) (drop_more nodes k d inside))
