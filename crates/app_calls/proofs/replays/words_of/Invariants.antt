use Rattle.std.proofs.Common.{◌≡◌, ◌-◌, ◌++◌, length}
use Rattle.std.specs.List.{flat_map, range_with_len}
use Rattle.app_calls.specs.Words.{shown_words, words_after}
use Rattle.app_calls.proofs.replays.words_of.Given as goal

abbrev pub invariant-loop-node : goal.invariant-loop-node
invariant-loop-node l =
    l.words.items ++ flat_map (shown_words l.world.plan l.world.counts) (range_with_len l.node (length l.world.plan.network - l.node)) ≡ words_after l.world.plan l.world.counts
