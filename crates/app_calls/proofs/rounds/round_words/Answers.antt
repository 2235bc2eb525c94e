use Rattle.std.proofs.Common.{◌≡◌, ◌∙◌, ◌++◌, List, ℕ, ap, length}
use Rattle.rounds_plan.specs.Configs.{Configuration}
use Rattle.rounds_plan.specs.Lockstep.{lockstep_config, rounds_of}
use Rattle.app_calls.specs.Words.{words_of}
use Rattle.app_calls.proofs.Listed.{lockstep_count, same_answer}
use Rattle.app_calls.proofs.rounds.round_words.Goals as goal

pub returns-clause-count : goal.returns-clause-count
returns-clause-count c =
    let p = c.args.plan.now in
    let config = c.in_ok-config.config in
    let is = same_answer (rounds_of p c.args.round) config (lockstep_config p c.args.round) c.in_ok-config.ensures.exact c.requires.there in
    let count = lockstep_count p c.args.round config is c.in_ok-add_config.ensures.count in
    let added : c.add_config.new.words.items ≡ words_of config = c.in_ok-add_config.ensures.added ∙ ap (λ (l : List ℕ). l ++ words_of config) c.new-words.ensures.items in
    ap length added ∙ ap (λ (d : Configuration). length (words_of d)) is ∙ count
