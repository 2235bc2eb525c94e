-- What a walk is after a round.
use Rattle.std.proofs.Common.{◌≡◌, ◌≢◌, ◌<◌, ◌⊎◌, ◌==◌, inl, inr, ℕ, zero, suc, List, [], ◌∷◌, length, All, sym, ◌∙◌, arith, subst, slice_index_or, Bool, true, false}
use Rattle.std.specs.Global.{Vec}
use Rattle.std.proofs.lemmas.List.Elements.{All-contains}
use Rattle.rule_check.specs.Value.{Rules}
use Rattle.rule_check.specs.Rounds.{reads_round}
use Rattle.link_net.specs.Neighbours.{Neighbours}
use Rattle.rounds_code.specs.Block.{state_at}
use Rattle.rounds_blocks.specs.declared.activity.Activity.{Activity}
use Rattle.rounds_blocks.specs.declared.batch.Batch.{Batch}
use Rattle.rounds_blocks.specs.declared.near.Near.{Near}
use Rattle.rounds_blocks.specs.declared.share.Share.{Share}
use Rattle.rounds_blocks.specs.declared.share.Shares.{Shares}
use Rattle.rounds_blocks.specs.Nears.{HaveNear, IsDue, SleepNear, Sleeps}
use Rattle.rounds_blocks.specs.Rounds.{HaveWords, IsNext, round_from}
use Rattle.rounds_blocks.specs.Walks.{AreGiven, AreShares, HasMoved, IsAsBefore, IsShare, IsShared, IsWalk, SleepersRest}
use Rattle.rounds_blocks.proofs.Together.{some_batch}
use Rattle.rounds_blocks.proofs.Walks.{all_next, mark_cases, same_all, still_rest}

-- what a round writes: the next words of the nodes of marked batches, and it keeps those that stand there
pub record IsWritten (rules : Rules) (network : Neighbours) (batches : List Batch) (due : List Bool) (round : ℕ) (from old new : List (Vec ℕ)) : Type 0 where
  pub wide : length new ≡ length rules.fields
  pub long : HaveWords (length network) new
  pub done : (i : ℕ) (d : Batch) → i < length batches → IsDue due i → All (IsNext rules network round from new) (slice_index_or batches i d).nodes
  pub kept : (u : ℕ) → IsNext rules network round from old u → IsNext rules network round from new u

-- what is noted of it
pub record IsLookedAt (batches : List Batch) (old new : Activity) (from to : List (Vec ℕ)) (moved : Bool) : Type 0 where
  pub nears : new.nears.now ≡ old.nears.now
  pub settles : new.settles ≡ old.settles
  pub flags : length new.due.items ≡ length batches
  pub changes : length new.changed.items ≡ length batches
  pub all : old.settles ≡ false → (i : ℕ) → i < length batches → IsDue new.due.items i
  pub noted : old.settles ≡ true → (i : ℕ) (d : Batch) → i < length batches → Sleeps new.changed.items i → IsDue old.due.items i → All (IsAsBefore from to) (slice_index_or batches i d).nodes
  pub awake : old.settles ≡ true → (i : ℕ) (d : Near) → i < length batches → Sleeps new.due.items i → SleepNear new.changed.items (slice_index_or old.nears.now i d)
  pub some : moved ≡ true → old.settles ≡ true → HasMoved batches from to
  pub none : moved ≡ false → (old.settles ≡ true) × ((i : ℕ) → i < length batches → Sleeps new.changed.items i)

module _ (rules : Rules) (network : Neighbours) (batches : List Batch) (active next : Activity) (shares : Shares) (round : ℕ) (from old new : List (Vec ℕ)) (moved : Bool)
    (walk : IsWalk rules network batches active shares from old) (written : IsWritten rules network batches active.due.items round from old new) (looked : IsLookedAt batches active next from new moved) where
  -- all nodes are one round on
  pub walked_next : (u : ℕ) → u < length network → state_at new u ≡ round_from rules network round (state_at from) u
  walked_next = all_next rules network batches active.due.items round from old new walk.few walk.next_wide written.wide walk.layout walk.rest written.done written.kept

  -- where nothing moved, they have their states
  pub walked_rests : moved ≡ false → (u : ℕ) → u < length network → state_at new u ≡ state_at from u
  walked_rests still =
      let none = looked.none still in
      same_all rules network batches active.due.items round from old new walk.few walk.next_wide written.wide walk.layout walk.rest written.done written.kept
      next.changed.items (looked.noted none.0) none.1

  -- and the program does not read the round
  pub walked_unread : moved ≡ false → reads_round rules ≡ false
  walked_unread still = walk.unread (looked.none still).0

  -- where something moved, a node has another state
  pub walked_moves : moved ≡ true → reads_round rules ≡ false → (u : ℕ) × (u < length network) × (state_at new u ≢ state_at from u)
  walked_moves some unread =
      let found = looked.some some (walk.settles unread) in
      let stands = found.stands in
      let none = some_batch batches found.home stands.there in
      let nodes = (slice_index_or batches found.home none).nodes in
      (found.node, All-contains (λ u. u < length network) nodes found.node (walk.layout.each found.home none stands.there).within (stands.stands none), found.moved)

  sleepers : ((active.settles ≡ true) ⊎ (active.settles ≡ false)) → SleepersRest rules network batches next.due.items new from
  sleepers (inl reads_not) =
      still_rest rules network batches active.due.items round from old new walk.few walk.next_wide written.wide walk.layout walk.rest written.done written.kept
      next.changed.items (looked.noted reads_not) active.nears.now next.due.items looked.changes walk.active.near (walk.unread reads_not) (looked.awake reads_not)
  sleepers (inr reads) = λ i d h not. absurd (let e : true ≡ false = sym (looked.all reads i h) ∙ not in cc)

  -- the walk after the round
  pub walked : IsWalk rules network batches next shares new from
  walked = record {
    whole = walk.whole;
    layout = walk.layout;
    few = walk.few;
    shared = walk.shared;
    active = record {
      near = subst (HaveNear network batches) (sym looked.nears) walk.active.near;
      flags = looked.flags;
      changes = looked.changes;
      all = λ reads. looked.all (sym looked.settles ∙ reads);
    };
    unread = λ settles. walk.unread (sym looked.settles ∙ settles);
    settles = λ unread. looked.settles ∙ walk.settles unread;
    wide = written.wide;
    long = written.long;
    next_wide = walk.wide;
    next_long = walk.long;
    rest = sleepers (mark_cases active.settles);
  }

-- shares that were at work are shares as before
module _ (rules : Rules) (nodes batches : ℕ) (before after : List Share) (count : length after ≡ length before)
    (firsts : (s : ℕ) (d : Share) → s < length before → (slice_index_or after s d).first ≡ (slice_index_or before s d).first)
    (behinds : (s : ℕ) (d : Share) → s < length before → (slice_index_or after s d).behind ≡ (slice_index_or before s d).behind)
    (were : AreShares rules nodes batches before) where
  pub covered_after : 0 < length before → (i : ℕ) → i < batches → (s : ℕ) × IsShared after i s
  covered_after some i inside =
      let found = were.covered some i inside in
      let s = found.0 in (
        s,
        record {
          there = omega (arith, found.1.there, count);
          from_first = λ d. omega (arith, found.1.from_first d, firsts s d found.1.there);
          before_end = λ d. omega (arith, found.1.before_end d, behinds s d found.1.there);
        },
      )

  pub shares_after : All (IsShare rules nodes batches) after → AreShares rules nodes batches after
  shares_after each = record {
    each = each;
    covered = λ some i inside. covered_after (omega (arith, some, count)) i inside;
  }

pub some_share : (shares : List Share) (s : ℕ) → s < length shares → Share
some_share [] s inside = absurd (omega (arith, inside))
some_share (x ∷ xs) s inside = x

-- the same with other names for the states before and after
pub looked_as : (batches : List Batch) (old new : Activity) (from from_seen to to_seen : List (Vec ℕ)) (moved : Bool) → from_seen ≡ from → to_seen ≡ to
    → IsLookedAt batches old new from_seen to_seen moved → IsLookedAt batches old new from to moved
looked_as batches old new from from_seen to to_seen moved from_is to_is looked =
    subst (λ (columns : List (Vec ℕ)). IsLookedAt batches old new columns to moved) from_is
    (subst (λ (columns : List (Vec ℕ)). IsLookedAt batches old new from_seen columns moved) to_is looked)

-- other shares
pub with_shares : (rules : Rules) (network : Neighbours) (batches : List Batch) (active : Activity) (old new : Shares) (from to : List (Vec ℕ)) → IsWalk rules network batches active old from to
    → AreGiven rules (length network) batches new → IsWalk rules network batches active new from to
with_shares rules network batches active old new from to walk shared = record {
  whole = walk.whole;
  layout = walk.layout;
  few = walk.few;
  shared = shared;
  active = walk.active;
  unread = walk.unread;
  settles = walk.settles;
  wide = walk.wide;
  long = walk.long;
  next_wide = walk.next_wide;
  next_long = walk.next_long;
  rest = walk.rest;
}

-- a number that is not 0
pub some_of : (n : ℕ) → false ≡ (n == 0) → 0 < n
some_of zero not = absurd (cc not)
some_of (suc n) not = omega arith
