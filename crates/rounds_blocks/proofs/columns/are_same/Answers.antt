use Rattle.std.proofs.Common.{◌∙◌, ℕ, map, sym}
use Rattle.std.specs.Cmp.Derive.Mapped.{pointwise-map}
use Rattle.std.specs.Global.{Vec}
use Rattle.std.specs.Str.{bytes_eq}
use Rattle.std.proofs.lemmas.Slice.Eq.{bytes_eq-Decides, slice_eq-Decides}
use Rattle.rounds_blocks.proofs.columns.are_same.Goals as goal

-- columns are equal where their words are
pub returns : goal.returns
returns c =
    let items = λ (column : Vec ℕ). column.items in
    let left = c.args.left.now in
    let right = c.args.right.now in
    record { exact = slice_eq-Decides bytes_eq-Decides (map items left) (map items right) c.eq.result (c.eq.ensures ∙ sym (pointwise-map items bytes_eq left right)) }
