use Rattle.std.proofs.Common.{ap}
use Rattle.net_patterns.proofs.GridReads.{text_made}
use Rattle.net_patterns.proofs.grid_text.text_of.Goals as goal

pub returns : goal.returns
returns c = record { text = text_made c.args.format c.args.width c.args.values.now c.kind_of-kind.ensures c.rows_filled-height.ensures c.new.ensures.bytes c.in_ok-put_opening.ensures.text c.in_ok-put_cells.ensures.text (ap (λ v. v.items) c.into_bytes.ensures.value) }
