use Rattle.std.proofs.Common.{◌≡◌, ◌∙◌, ◌+◌, ◌-◌, ◌*◌, ap, arith, drop, sym, take}
use Rattle.rounds_walk.specs.part_rounds.States.{state_of}
use Rattle.rounds_walk.proofs.part_rounds.StateWords.{state_there}
use Rattle.rounds_walk.proofs.part_rounds.states.state_at.Goals as goal

pub returns : goal.returns
returns c =
    let a = c.args in
    let words = a.words.now in
    let first = a.node * a.fields in
    let many : first + a.fields - first ≡ a.fields = omega arith in
    record {
      state = c.state_of.ensures.state
          ∙ ap (λ k. state_of (take k (drop first words))) many
          ∙ sym (state_there a.fields a.nodes a.node words c.requires.inside);
    }
