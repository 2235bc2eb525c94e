use Rattle.std.proofs.Common.{◌+◌, ◌∙◌, ap, refl, arith}
use Rattle.std.specs.List.{before_first, after_first}
use Rattle.import_lines.specs.Texts.{is_line_feed}
use Rattle.large_pack.proofs.Halving.{told_halves}
use Rattle.large_pack.proofs.shared.halves.Goals as goal

pub returns-clause-lines : goal.returns-clause-lines
returns-clause-lines c =
    let a = c.args in
    let cut = c.split_line in
    told_halves (a.lines.passed + 1) (a.lines.passed + c.line_feeds.result + 1 + 1) a.place a.lines.bytes.now cut.result.0.now cut.result.1.now _ c.line_feeds.result c.is_empty.result (cut.ensures.line ∙ ap (before_first is_line_feed) c.split_at.ensures.back) (cut.ensures.rest ∙ ap (after_first is_line_feed) c.split_at.ensures.back) c.is_empty.ensures
    c.if-is_empty.false refl c.line_feeds.ensures.exact (omega arith)
