use Rattle.std.proofs.Common.{◌≡◌, ◌∙◌, ◌++◌, ◌-◌, length, ap, arith}
use Rattle.std.specs.Prelude.{replicate}
use Rattle.report_files.proofs.npy.writer.push_blanks.Goals as goal

pub returns : goal.returns
returns c =
    let old = c.args.bytes.now.items in
    let same : c.len.result ≡ length old = omega (arith, c.len.ensures, c.args.bytes.now.ok) in
    record {
      pushed =
          c.in_ok-extend_from_slice.ensures.items
          ∙ ap (λ t. old ++ t) c.blanks.ensures
          ∙ ap (λ k. old ++ replicate (c.args.count - k) 32) same;
    }
