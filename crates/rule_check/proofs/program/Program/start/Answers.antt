use Rattle.std.proofs.Common.{[], ap, ◌∙◌, map, replicate}
use Rattle.rule_check.specs.Value.{here_at, updated}
use Rattle.rule_check.specs.Gathering.{sums_at}
use Rattle.rule_check.specs.Loops.{with_none}
use Rattle.rule_check.specs.Shapes.{part_shape}
use Rattle.rule_check.proofs.Programs.{start_words_are, sums_from}
use Rattle.rule_check.proofs.program.Program.start.Goals as goal

pub returns : goal.returns
returns c = record {
  none = λ round id degree own.
      ap sums_from
      (c.start_words.ensures.exact
      ∙ ap (λ gs. updated with_none (map part_shape gs) (replicate 16 0)) c.deref.ensures.value
      ∙ start_words_are c.self.inside c.self.invariant round id degree own)
      ∙ ap (λ v. sums_at v (here_at v round id degree own [])) c.self.view_is;
}
