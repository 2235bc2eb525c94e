-- Rounds in which only some batches are computed.
use Rattle.std.specs.Prelude.{ℕ, ◌≡◌, ◌≢◌, ◌<◌, ◌≤◌, List, [], ◌∷◌, length, map, All, Bool, true, false, slice_index_or}
use Rattle.std.specs.Global.{Vec}
use Rattle.std.specs.List.{range_with_len}
use Rattle.rule_check.specs.declared.state.State.{State}
use Rattle.rule_check.specs.Value.{Rules}
use Rattle.rule_check.specs.Rounds.{reads_round}
use Rattle.link_net.specs.Neighbours.{Neighbours, AreRows, degree, neighbour}
use Rattle.rounds_code.specs.Steps.{lane}
use Rattle.rounds_code.specs.Block.{state_at}
use Rattle.rounds_blocks.specs.declared.batch.Batch.{Batch}
use Rattle.rounds_blocks.specs.declared.task.Task.{Task}
use Rattle.rounds_blocks.specs.declared.share.Share.{Share}
use Rattle.rounds_blocks.specs.declared.share.Shares.{Shares}
use Rattle.rounds_blocks.specs.declared.activity.Activity.{Activity}
use Rattle.rounds_blocks.specs.declared.spans.Span.{Span}
use Rattle.rounds_blocks.specs.Batches.{IsBatch, IsLayout}
use Rattle.rounds_blocks.specs.Nears.{HaveNear, IsDue, Sleeps, StandsIn}
use Rattle.rounds_blocks.specs.Spans.{IsInside, HaveSpans}
use Rattle.rounds_blocks.specs.Rounds.{HaveWords, HasWord, HasWordFrom, HasWordInside, IsNext, next_word, round_from}

-- a program on a network, and the words of all nodes by fields
pub record Walked : Type 0 where
  pub rules : Rules
  pub network : Neighbours
  pub words : List (List ℕ)

-- the state of a node by the words of all nodes
abbrev pub state_by : List (List ℕ) → ℕ → State
state_by words u = record { words = map (lane words u) (range_with_len 0 8) }

-- Where a program does not read the number of the round, and neither a node nor a neighbour changed in the last round, the node's next state is its state.
abbrev pub RestsWhereNothingMoved : Type 0
RestsWhereNothingMoved = (rules : Rules) (network : Neighbours) (round later : ℕ) (before after : ℕ → State) (u : ℕ) → reads_round rules ≡ false
    → after u ≡ round_from rules network round before u → after u ≡ before u
    → ((j : ℕ) → j < degree network u → after (neighbour network u j) ≡ before (neighbour network u j))
    → round_from rules network later after u ≡ after u

-- both have the same state of the node
abbrev pub IsAsBefore : List (Vec ℕ) → List (Vec ℕ) → ℕ → Type 0
IsAsBefore from to u = state_at to u ≡ state_at from u

-- they have different states of it
abbrev pub Moved : List (Vec ℕ) → List (Vec ℕ) → ℕ → Type 0
Moved from to u = state_at to u ≢ state_at from u

-- a node of a batch moved
pub record HasMoved (batches : List Batch) (from to : List (Vec ℕ)) : Type 0 where
  pub node : ℕ
  pub home : ℕ
  pub stands : StandsIn batches node home
  pub moved : Moved from to node

-- what a round is made of, for a program with these rules
pub record IsTask (rules : Rules) (task : Task) : Type 0 where
  pub network : AreRows task.network.now
  pub each : All (IsBatch task.network.now) task.batches.now
  pub flags : length task.due.now ≡ length task.batches.now
  pub fields : length task.from.now ≡ length rules.fields
  pub nodes : HaveWords (length task.network.now) task.from.now

-- the columns have the next words of a node
abbrev pub HasNext : Rules → Task → List (Vec ℕ) → ℕ → Type 0
HasNext rules task to u = IsNext rules task.network.now task.round task.from.now to u

-- it holds of the nodes of each marked batch, from the first one on to the one after the last
abbrev pub HoldsOfDue : (ℕ → Type 0) → Task → ℕ → ℕ → Type 0
HoldsOfDue P task first behind = (i : ℕ) (d : Batch) → first ≤ i → i < behind → IsDue task.due.now i → All P (slice_index_or task.batches.now i d).nodes

-- a thread's part of each round: the batches from the first one on to the one after the last, what computes a program's rules, and a column for each field
pub record IsShare (rules : Rules) (nodes batches : ℕ) (share : Share) : Type 0 where
  pub inside : share.behind ≤ batches
  pub computes : share.block.rules ≡ rules
  pub wide : length share.columns.items ≡ length rules.fields
  pub long : HaveWords nodes share.columns.items

-- the batch is in the share of this number
pub record IsShared (shares : List Share) (i s : ℕ) : Type 0 where
  pub there : s < length shares
  pub from_first : (d : Share) → (slice_index_or shares s d).first ≤ i
  pub before_end : (d : Share) → i < (slice_index_or shares s d).behind

-- shares in which each batch is
pub record AreShares (rules : Rules) (nodes batches : ℕ) (shares : List Share) : Type 0 where
  pub each : All (IsShare rules nodes batches) shares
  pub covered : 0 < length shares → (i : ℕ) → i < batches → (s : ℕ) × IsShared shares i s

-- a thread's part of each round whose nodes are in a range of numbers
pub record IsRange (rules : Rules) (batches : List Batch) (share : Share) : Type 0 where
  pub inside : share.behind ≤ length batches
  pub computes : share.block.rules ≡ rules
  pub only : (i : ℕ) (d : Batch) → share.first ≤ i → i < share.behind → All (IsInside share.low share.high) (slice_index_or batches i d).nodes

-- ranges that follow one another, from one number on and not beyond another
abbrev pub LineUp : ℕ → List Share → ℕ → Type 0
LineUp low [] high = low ≤ high
LineUp low (share ∷ shares) high = (share.low ≡ low) × (low ≤ share.high) × LineUp share.high shares high

-- shares whose nodes are ranges that follow one another; where there are some, each batch is in one of them
pub record AreInRanges (rules : Rules) (nodes : ℕ) (batches : List Batch) (shares : List Share) : Type 0 where
  pub each : All (IsRange rules batches) shares
  pub line : LineUp 0 shares nodes
  pub covered : 0 < length shares → (i : ℕ) → i < length batches → (s : ℕ) × IsShared shares i s

-- what threads share: where the shares are no ranges, each has columns of its own, and where they are, the program has one field
pub record AreGiven (rules : Rules) (nodes : ℕ) (batches : List Batch) (shares : Shares) : Type 0 where
  pub apart : shares.in_ranges ≡ false → AreShares rules nodes (length batches) shares.all.items
  pub ranged : shares.in_ranges ≡ true → AreInRanges rules nodes batches shares.all.items
  pub one : shares.in_ranges ≡ true → length rules.fields ≡ 1
  pub together : HaveSpans nodes batches shares.spans.items

-- the batches from one on to the one before the range's end have only nodes of the range, which begins with this number
pub record HasRange (nodes : ℕ) (batches : List Batch) (first low : ℕ) (range : Span) : Type 0 where
  pub there : range.behind ≤ length batches
  pub begins : range.low ≡ low
  pub order : low ≤ range.high
  pub inside : range.high ≤ nodes
  pub only : (i : ℕ) (d : Batch) → first ≤ i → i < range.behind → All (IsInside low range.high) (slice_index_or batches i d).nodes

-- the same share, whatever its block computed
pub record IsSameShare (old new : Share) : Type 0 where
  pub first : new.first ≡ old.first
  pub behind : new.behind ≡ old.behind
  pub low : new.low ≡ old.low
  pub high : new.high ≡ old.high
  pub computes : new.block.rules ≡ old.block.rules

-- a part of the one column, which begins with the node `low`, before and after: it has the next words of the nodes of those of the shares' batches that
-- had to be computed, and keeps next words that stood there
pub record IsPartWritten (rules : Rules) (task : Task) (shares : List Share) (low : ℕ) (before after : List ℕ) : Type 0 where
  pub done : All (λ share. HoldsOfDue (HasWordFrom low (next_word rules task.network.now task.round task.from.now) after) task share.first share.behind) shares
  pub kept : (u : ℕ) → HasWordFrom low (next_word rules task.network.now task.round task.from.now) before u
      → HasWordFrom low (next_word rules task.network.now task.round task.from.now) after u

-- A part of the one column, which begins with a share's range, before and after: it has the next words of the nodes of those of the share's batches that
-- had to be computed, and keeps next words that stood there.
pub record IsWrittenBy (task : Task) (share : Share) (before after : List ℕ) : Type 0 where
  pub done : HoldsOfDue (HasWordFrom share.low (next_word share.block.rules task.network.now task.round task.from.now) after) task share.first share.behind
  pub kept : (u : ℕ) → HasWordFrom share.low (next_word share.block.rules task.network.now task.round task.from.now) before u
      → HasWordFrom share.low (next_word share.block.rules task.network.now task.round task.from.now) after u

-- what threads left of shares whose nodes are ranges, and of a part of the one column, which begins with the node `low`
pub record IsLeft (task : Task) (low : ℕ) (old new : List Share) (before after : List ℕ) : Type 0 where
  pub many : length new ≡ length old
  pub long : length after ≡ length before
  pub same : (s : ℕ) (d : Share) → s < length old → IsSameShare (slice_index_or old s d) (slice_index_or new s d)
  pub written : (rules : Rules) → All (IsRange rules task.batches.now) old → IsPartWritten rules task old low before after

-- what threads computed of a round in columns of their own, which are as long as the network
pub record IsComputed (task : Task) (shares : Shares) : Type 0 where
  pub each : All (IsBatch task.network.now) task.batches.now
  pub flags : length task.due.now ≡ length task.batches.now
  pub spans : HaveSpans (length task.network.now) task.batches.now shares.spans.items
  pub inside : All (λ share. share.behind ≤ length task.batches.now) shares.all.items
  pub long : All (λ share. HaveWords (length task.network.now) share.columns.items) shares.all.items

-- a part of a field's column, which begins with the node `low`, before and after: it has the words that the shares' columns have for the nodes of those of their batches
-- that had to be computed, and keeps all others
pub record IsCopied (task : Task) (shares : List Share) (field low : ℕ) (before after : List ℕ) : Type 0 where
  pub long : length after ≡ length before
  pub copied : (word : ℕ → ℕ) (d : Vec ℕ) → All (λ share. HoldsOfDue (HasWord word (slice_index_or share.columns.items field d).items) task share.first share.behind) shares
      → All (λ share. HoldsOfDue (HasWordInside low word after) task share.first share.behind) shares
  pub kept : (word : ℕ → ℕ) (d : Vec ℕ) (u : ℕ) → All (λ share. HoldsOfDue (HasWord word (slice_index_or share.columns.items field d).items) task share.first share.behind) shares
      → HasWordInside low word before u → HasWordInside low word after u

-- a node that the next round leaves as it is, and whose next words stand there already
pub record Rests (rules : Rules) (network : Neighbours) (from to : List (Vec ℕ)) (u : ℕ) : Type 0 where
  pub same : IsAsBefore from to u
  pub next : (round : ℕ) → state_at to u ≡ round_from rules network round (state_at from) u

-- the nodes of batches that are not marked rest
abbrev pub SleepersRest : Rules → Neighbours → List Batch → List Bool → List (Vec ℕ) → List (Vec ℕ) → Type 0
SleepersRest rules network batches due from to = (i : ℕ) (d : Batch) → i < length batches → Sleeps due i → All (Rests rules network from to) (slice_index_or batches i d).nodes

-- which batches have to be computed: where the program reads the number of the round, all of them
pub record IsActivity (network : Neighbours) (batches : List Batch) (activity : Activity) : Type 0 where
  pub near : HaveNear network batches activity.nears.now
  pub flags : length activity.due.items ≡ length batches
  pub changes : length activity.changed.items ≡ length batches
  pub all : activity.settles ≡ false → (i : ℕ) → i < length batches → IsDue activity.due.items i

-- a program's states on the batches of a network, and how far each round has to look
pub record IsWalk (rules : Rules) (network : Neighbours) (batches : List Batch) (activity : Activity) (shares : Shares) (from to : List (Vec ℕ)) : Type 0 where
  pub whole : AreRows network
  pub layout : IsLayout network batches
  pub few : length rules.fields ≤ 8
  pub shared : AreGiven rules (length network) batches shares
  pub active : IsActivity network batches activity
  pub unread : activity.settles ≡ true → reads_round rules ≡ false
  pub settles : reads_round rules ≡ false → activity.settles ≡ true
  pub wide : length from ≡ length rules.fields
  pub long : HaveWords (length network) from
  pub next_wide : length to ≡ length rules.fields
  pub next_long : HaveWords (length network) to
  pub rest : SleepersRest rules network batches activity.due.items from to
