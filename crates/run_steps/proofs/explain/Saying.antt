-- What the sentence of a read says that is taken.
use Rattle.std.proofs.Common.{◌∙◌, ◌++◌, codes, inl, inr, ⊎_elim, ap}
use Rattle.rule_check.specs.Value.{names_of}
use Rattle.link_net.specs.Neighbours.{neighbour}
use Rattle.phase_register.specs.declared.register.Look.{Look}
use Rattle.rounds_plan.specs.Lockstep.{lockstep}
use Rattle.report_text.specs.Report.{fields_text}
use Rattle.unison_world.specs.Counting.{moves_of}
use Rattle.unison_trace.specs.Histories.{run_of}
use Rattle.run_steps.specs.explain.Registers.{register_of}
use Rattle.run_steps.specs.explain.Sentences.{called, look_words, read_sentence, reads_words, SaysOwnRound}
use Rattle.run_steps.proofs.explain.Seeing.{reads_own_round}

pub says_own_round : SaysOwnRound
says_own_round names plan stop steps u j is late taken =
    let c = run_of plan stop steps in
    let v = neighbour plan.network u j in
    let fields = names_of plan.program in
    let first = ap (read_sentence names plan c u j) taken in
    let seen = λ (look : Look). reads_words names u v ++ look_words fields (called names v) (register_of plan c v).current look in
    let took = fields_text fields (lockstep plan (moves_of c u) v).words in
    ⊎_elim
    (λ level. inl (level.0, first ∙ ap seen level.1))
    (λ ahead. inr (
      ahead.0,
      first ∙ ap seen ahead.1
          ∙ ap (λ t. reads_words names u v ++ (codes ", which is one ahead: takes" ++ (took ++ (codes ", its previous state (it holds" ++ (fields_text fields (lockstep plan t v).words ++ codes ")"))))) ahead.0,
    ))
    (reads_own_round.round plan stop steps u j is late taken)
