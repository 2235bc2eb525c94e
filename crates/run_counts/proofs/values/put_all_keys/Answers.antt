use Rattle.std.proofs.Common.{◌∙◌, ◌+◌, ◌++◌, ℕ, List, ◌∷◌, ap, append_assoc, drop, map, sym}
use Rattle.std.proofs.lemmas.List.{drop_more}
use Rattle.std.specs.List.{flat_map}
use Rattle.run_counts.specs.Rows.{RowView, keys_of}
use Rattle.run_counts.proofs.values.put_all_keys.Goals as goal

pub loop-row-preserved : goal.loop-row-preserved
loop-row-preserved c =
    let rows = c.args.rows.now in
    let i = c.loop-row.row-index in
    let row = c.row-item.result in
    let keys = c.loop-row.keys.items in
    let rest = flat_map keys_of (drop (i + 1) rows) in
    let begins = drop_more rows i row c.loop-row-test.true ∙ ap (λ (r : RowView). r ∷ drop (i + 1) rows) (sym c.row-item.is) in
    ap (λ (xs : List ℕ). xs ++ rest) c.in_ok-put_keys.ensures.keys
    ∙ ap (λ (counts : List (ℕ × ℕ)). (keys ++ map (λ (n : ℕ × ℕ). n.0) counts) ++ rest) c.counts.ensures.counts
    ∙ append_assoc keys (keys_of row) rest
    ∙ sym (ap (λ (rs : List RowView). keys ++ flat_map keys_of rs) begins)
    ∙ c.loop-row.invariant
