use Rattle.std.proofs.Common.{◌≡◌, ◌+◌, ◌<◌, ◌^◌, length}
use Rattle.import_lines.specs.Texts.{told_from}
use Rattle.large_pack.specs.Lines.{edges_in}
use Rattle.large_pack.specs.Ranks.{ranked_in}
use Rattle.large_pack.proofs.Ranking.{with_front}
use Rattle.large_pack.proofs.ranked.ranked_edges.Given as goal

abbrev pub invariant-loop-number : goal.invariant-loop-number
invariant-loop-number l = record {
  room : l.lines.passed + length l.lines.bytes.now < 2 ^ 64;
  read : with_front l.options l.edges.items (edges_in l.options (told_from (l.lines.passed + 1) l.lines.bytes.now)) ≡ ranked_in l.options (edges_in l.options (told_from (l.fn.from.passed + 1) l.fn.from.bytes.now));
}

abbrev pub decreases-loop-number : goal.decreases-loop-number
decreases-loop-number l = length (told_from (l.lines.passed + 1) l.lines.bytes.now)
