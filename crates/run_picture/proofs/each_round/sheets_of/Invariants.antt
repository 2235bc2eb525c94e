use Rattle.std.proofs.Common.{◌≡◌, ◌++◌, ◌-◌, ◌*◌, ℕ, drop, length, map, take}
use Rattle.std.specs.List.{range_with_len}
use Rattle.link_net.specs.Neighbours.{numbers_below}
use Rattle.run_picture.specs.Series.{round_sheet}
use Rattle.run_picture.proofs.each_round.sheets_of.Given as goal

abbrev pub invariant-loop-place : goal.invariant-loop-place
invariant-loop-place l =
    map (λ text. text.items) l.texts.items
    ++ map (λ (r : ℕ). round_sheet l.layout l.key l.network (take (length l.network) (drop (r * length l.network) l.values))) (range_with_len l.place (l.rounds - l.place))
    ≡ map (λ (r : ℕ). round_sheet l.layout l.key l.network (take (length l.network) (drop (r * length l.network) l.values))) (numbers_below l.rounds)
