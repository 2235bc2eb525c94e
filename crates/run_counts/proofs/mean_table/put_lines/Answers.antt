use Rattle.std.proofs.Common.{◌∙◌, ◌<◌, ◌+◌, ◌-◌, ◌++◌, ℕ, List, ap, append_assoc, arith, string_bytes, sym}
use Rattle.std.specs.List.{flat_map, range_with_len}
use Rattle.rule_check.specs.Value.{names_of}
use Rattle.run_watch.proofs.Ranges.{flat_left}
use Rattle.run_counts.specs.MeanTables.{line_at, longest}
use Rattle.run_counts.proofs.mean_table.put_lines.Goals as goal

pub loop-place-preserved : goal.loop-place-preserved
loop-place-preserved c =
    let runs = c.args.means.now.runs.now in
    let l = c.loop-place in
    let k = l.place in
    let n = longest runs in
    let line = line_at c.args.means.now.counting.now.format c.args.means.now.head.now c.args.means.now.counting.now.names.now (names_of c.args.means.now.program.now) c.args.means.now.columns.now c.args.means.now.counting.now.until runs in
    let rest = flat_map line (range_with_len (k + 1) (n - (k + 1))) in
    let inside : k < n = omega (arith, c.loop-place-test.true, c.longest-place-end.ensures.longest) in
    ap (λ (text : List ℕ). text ++ rest) c.in_ok-put_line.ensures.text
    ∙ append_assoc (string_bytes l.out) (line k) rest
    ∙ sym (ap (λ (text : List ℕ). string_bytes l.out ++ text) (flat_left line k n inside))
    ∙ l.invariant
