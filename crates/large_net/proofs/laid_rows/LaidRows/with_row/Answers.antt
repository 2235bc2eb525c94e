use Rattle.std.proofs.Common.{◌≡◌, ◌∙◌, ◌++◌, ◌∷◌, [], length, vec_len, ap, arith}
use Rattle.std.specs.List.{zip}
use Rattle.large_net.proofs.Copies.{rows_more}
use Rattle.large_net.proofs.laid_rows.LaidRows.with_row.Goals as goal

pub returns : goal.returns
returns c =
    let held = c.self.inside in
    let long : vec_len c.extend_from_slice.new.self ≡ length (held.neighbours.items ++ c.args.row_neighbours.now)
    = omega (arith, c.extend_from_slice.new.self.ok.0, ap length c.in_ok-extend_from_slice.ensures.items) in
    record {
      more =
          rw (c.in_ok-push.ensures.items, c.len.ensures, long, c.in_ok-extend_from_slice.ensures.items, c.in_ok-extend_from_slice-2.ensures.items)
          (rows_more held.offsets.items held.neighbours.items held.weights.items c.args.row_neighbours.now c.args.row_weights.now c.self.invariant.placed c.self.invariant.paired c.requires.paired
          ∙ ap (λ rows. rows ++ zip c.args.row_neighbours.now c.args.row_weights.now ∷ []) c.self.view_is);
    }
