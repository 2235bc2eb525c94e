-- What holds of random numbers.
use Rattle.std.proofs.Common.{◌≡◌, ◌<◌, ℕ, ap, ◌∙◌, arith}
use Rattle.std.specs.Prelude.{min, max, ◌%◌}
use Rattle.std.proofs.Math.Nat.{min_comm, max_comm, mod-lt}
use Rattle.model_rules.specs.Draws.{differing, key, spread, folded, linked, drawn, drawn_on_link}

-- the number drawn for a link, by the lower and the higher number
abbrev by_both : ℕ → ℕ → ℕ → ℕ → ℕ → ℕ
by_both seed draw round low high =
    let first : ℕ = differing (spread 104729 40507 low) (key seed draw 1) in
    let second : ℕ = differing (spread 1040021 4093 first) (differing (spread 104729 39119 high) (key seed draw 2)) in
    let third : ℕ = differing (spread 1020001 4201 second) (differing (spread 104729 37397 round) (key seed draw 3)) in
    let fourth : ℕ = differing (spread 990001 4327 third) (differing (linked (spread 99991 41893 low) (spread 99991 42083 high) (spread 99991 38653 round)) (key seed draw 4)) in
    let fifth : ℕ = differing (spread 970027 4421 fourth) (differing (linked (spread 93997 44111 low) (spread 93997 45007 high) (spread 93997 43067 round)) (key seed draw 5)) in
    folded fifth

pub links_agree : (seed draw round id other : ℕ) → drawn_on_link seed draw round id other ≡ drawn_on_link seed draw round other id
links_agree seed draw round id other =
    ap (λ v. by_both seed draw round v (max id other)) (min_comm id other) ∙ ap (λ v. by_both seed draw round (min other id) v) (max_comm id other)

pub folded_below : (x : ℕ) → folded x < 65536
folded_below x = mod-lt (spread 1048573 3299 x % 1048573) (omega arith)

pub draws_below : (seed draw round id : ℕ) → drawn seed draw round id < 65536
draws_below seed draw round id = folded_below _

pub link_draws_below : (seed draw round id other : ℕ) → drawn_on_link seed draw round id other < 65536
link_draws_below seed draw round id other = folded_below _
