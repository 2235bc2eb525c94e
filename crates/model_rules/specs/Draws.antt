-- The random numbers of models: what is drawn at a node and at a link, by the operators of the rule language.
use Rattle.std.specs.Prelude.{ℕ, ◌≡◌, ◌<◌, ◌*◌, ◌/◌, ◌%◌, bit_xor}
use Rattle.rule_lang.specs.declared.tree.Op.TheVariants as op
use Rattle.rule_check.specs.Table.{operate}

-- a product without what is above its lower 32 bits
abbrev pub wrapped : ℕ → ℕ → ℕ
wrapped a b = a * b % 4294967296

-- a number with its upper bits laid on the lower ones
abbrev pub laid : ℕ → ℕ → ℕ
laid by x = bit_xor x (x / by)

-- A word of 32 bits mixed: its upper bits are laid on the lower ones three times, with a product between, of which 32 bits stay.
abbrev pub mixed : ℕ → ℕ
mixed x = laid 65536 (wrapped (laid 32768 (wrapped (laid 65536 x) 2146121005)) 2221713035)

-- the key for a step of a draw, by the seed and by the number of the draw in the text
abbrev pub key : ℕ → ℕ → ℕ → ℕ
key seed draw step = mixed (bit_xor (mixed (bit_xor seed (wrapped step 2654435769))) draw)

-- a number spread over 32 bits: what it leaves when divided by a prime, times a factor
abbrev pub spread : ℕ → ℕ → ℕ → ℕ
spread prime factor x = operate op.Times (operate op.Rem x prime) factor

-- the bits in which two numbers differ
abbrev pub differing : ℕ → ℕ → ℕ
differing a b = operate op.BitXor a b

-- 16 bits of a number
abbrev pub folded : ℕ → ℕ
folded x = operate op.Rem (operate op.Rem (spread 1048573 3299 x) 1048573) 65536

-- The number drawn at a node in a round, from 0 to 65535. The words of the node and the round come in one after another,
-- each with a key; before each but the first, what there is so far is spread anew.
abbrev pub drawn : ℕ → ℕ → ℕ → ℕ → ℕ
drawn seed draw round id =
    let first : ℕ = differing (spread 104729 40507 id) (key seed draw 1) in
    let second : ℕ = differing (spread 1040021 4093 first) (differing (spread 104729 39119 round) (key seed draw 2)) in
    let third : ℕ = differing (spread 1020001 4201 second) (differing (differing (spread 99991 41893 id) (spread 99991 42083 round)) (key seed draw 3)) in
    let fourth : ℕ = differing (spread 990001 4327 third) (differing (differing (spread 93997 44111 id) (spread 93997 45007 round)) (key seed draw 4)) in
    folded fourth

-- the words of a link and of the round
abbrev pub linked : ℕ → ℕ → ℕ → ℕ
linked low high round = differing (differing low high) round

-- The number drawn for a link in a round, from 0 to 65535, by the numbers of its two nodes in any order.
abbrev pub drawn_on_link : ℕ → ℕ → ℕ → ℕ → ℕ → ℕ
drawn_on_link seed draw round id other =
    let low : ℕ = operate op.Min id other in
    let high : ℕ = operate op.Max id other in
    let first : ℕ = differing (spread 104729 40507 low) (key seed draw 1) in
    let second : ℕ = differing (spread 1040021 4093 first) (differing (spread 104729 39119 high) (key seed draw 2)) in
    let third : ℕ = differing (spread 1020001 4201 second) (differing (spread 104729 37397 round) (key seed draw 3)) in
    let fourth : ℕ = differing (spread 990001 4327 third) (differing (linked (spread 99991 41893 low) (spread 99991 42083 high) (spread 99991 38653 round)) (key seed draw 4)) in
    let fifth : ℕ = differing (spread 970027 4421 fourth) (differing (linked (spread 93997 44111 low) (spread 93997 45007 high) (spread 93997 43067 round)) (key seed draw 5)) in
    folded fifth

-- a number below k, of one from 0 to 65535
abbrev pub scaled : ℕ → ℕ → ℕ
scaled n k = operate op.Quot (operate op.Times n k) 65536

-- both nodes of a link draw the same number for it
abbrev pub LinksAgree : Type 0
LinksAgree = (seed draw round id other : ℕ) → drawn_on_link seed draw round id other ≡ drawn_on_link seed draw round other id

-- what is drawn is below 65536
abbrev pub DrawsAreBounded : Type 0
DrawsAreBounded = (seed draw round id : ℕ) → drawn seed draw round id < 65536

abbrev pub LinkDrawsAreBounded : Type 0
LinkDrawsAreBounded = (seed draw round id other : ℕ) → drawn_on_link seed draw round id other < 65536
