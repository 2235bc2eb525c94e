-- Daemons: which of the enabled nodes move together.
use Rattle.std.specs.Prelude.{◌≡◌, ◌≢◌, ℕ, ◌-◌, ◌<◌, ◌≤◌, ◌⊎◌, ◌==◌, ◌&&◌, Bool, true, false, not, nat_lt, List, [], ◌∷◌, ◌++◌, length, map, take, All, Option, Some, None}
use Rattle.std.specs.List.{AllPairs, filter, flat_map, list_any, repeat}
use Rattle.link_net.specs.Neighbours.{Neighbours, degree, numbers_below}
use Rattle.rounds_plan.specs.Plans.{PlanView}
use Rattle.unison_world.specs.declared.step.Step.{Step}
use Rattle.unison_world.specs.declared.step.Step.TheVariants.{Read, Write}
use Rattle.unison_world.specs.Counting.{Counts, moves_of, is_marked, at_start, answers, run}
use Rattle.unison_world.specs.Turns.{neighbours_of, any_behind}
use Rattle.unison_world.specs.View.{WorldView}
use Rattle.unison_trace.specs.Histories.{is_change}
use Rattle.run_schedule.specs.declared.daemon.Daemon.{Daemon}
use Rattle.run_schedule.specs.declared.daemon.Daemon.TheVariants.{Central, Synchronous, Distributed, Adversary}
use Rattle.run_schedule.specs.Lists.{GoesToStop}
use Rattle.run_schedule.specs.Walks.{WalkView}

-- whether a node is enabled: it is there and below the stop, and none of its neighbours has moved less often
abbrev pub is_enabled : Neighbours → ℕ → Counts → ℕ → Bool
is_enabled network stop c u = nat_lt u (length network) && not (moves_of c u == stop) && not (any_behind network c u)

-- the enabled nodes by rising number
abbrev pub enabled_nodes : Neighbours → ℕ → Counts → List ℕ
enabled_nodes network stop c = filter (is_enabled network stop c) (numbers_below (length network))

-- the reads of all slots of a node by rising number
abbrev pub reads_of : Neighbours → ℕ → List Step
reads_of network u = map (λ j. Read u j) (numbers_below (degree network u))

-- the steps with which nodes move together: each reads all its neighbours, and then each moves
abbrev pub steps_together : Neighbours → List ℕ → List Step
steps_together network us = flat_map (reads_of network) us ++ map (λ u. Write u) us

-- nodes that may move together at these counts: there are some, each is enabled, and they stand by rising number, none twice
pub record MayMove (network : Neighbours) (stop : ℕ) (c : Counts) (us : List ℕ) : Type 0 where
  pub some : 0 < length us
  pub enabled : All (λ u. is_enabled network stop c u ≡ true) us
  pub rising : AllPairs (λ u v. u < v) us

-- those that are chosen with a share: one at a share of 0, and at 100 each that is enabled
pub record AreShare (network : Neighbours) (stop share : ℕ) (c : Counts) (us : List ℕ) : Type 0 where
  pub one : share ≡ 0 → length us ≡ 1
  pub all : 100 ≤ share → us ≡ enabled_nodes network stop c

-- those that an adversary chooses: one, the first of two neighbours where it is enabled, and the other only where no other node is
pub record AreAdverse (network : Neighbours) (stop ahead behind : ℕ) (c : Counts) (us : List ℕ) : Type 0 where
  pub one : length us ≡ 1
  pub first : is_enabled network stop c ahead ≡ true → us ≡ ahead ∷ []
  pub last : us ≡ behind ∷ [] → (v : ℕ) → v ≢ behind → is_enabled network stop c v ≡ false

-- what a daemon promises of the nodes that it lets move together at these counts
abbrev pub Chooses : Neighbours → ℕ → Daemon → Counts → List ℕ → Type 0
Chooses network stop (Central seed) c us = length us ≡ 1
Chooses network stop Synchronous c us = us ≡ enabled_nodes network stop c
Chooses network stop (Distributed seed share) c us = AreShare network stop share c us
Chooses network stop (Adversary seed ahead behind) c us = AreAdverse network stop ahead behind c us

-- nodes that may move together where they stand, and that the daemon chooses there
pub record IsChoice (network : Neighbours) (stop : ℕ) (daemon : Daemon) (c : Counts) (us : List ℕ) : Type 0 where
  pub may : MayMove network stop c us
  pub chosen : Chooses network stop daemon c us

-- from these counts on the groups are chosen and move, one group after another
abbrev pub AreChoices : Neighbours → ℕ → Daemon → Counts → List (List ℕ) → Type 0
AreChoices network stop daemon c [] = Unit {0}
AreChoices network stop daemon c (us ∷ groups) =
    IsChoice network stop daemon c us × AreChoices network stop daemon (run network stop c (steps_together network us)) groups

-- the steps are those of groups that the daemon chooses from the plan's opening on, or the front of them up to the limit
pub record AreStepsUnder (plan : PlanView) (stop : ℕ) (daemon : Daemon) (limit : ℕ) (steps : List Step) : Type 0 where
  pub groups : (groups : List (List ℕ)) × AreChoices plan.network stop daemon (at_start plan.network plan.start) groups × (steps ≡ take limit (flat_map (steps_together plan.network) groups))

-- the rounds up to the stop: in each all nodes read all their neighbours, and then all of them move
abbrev pub rounds_of : PlanView → ℕ → List Step
rounds_of plan stop = repeat (stop - plan.start) (steps_together plan.network (numbers_below (length plan.network)))

-- such a list, which goes on to the limit or until every node stands at the stop; that of the synchronous daemon has the rounds, or the first of their steps
pub record IsUnderDaemon (plan : PlanView) (stop : ℕ) (daemon : Daemon) (limit : ℕ) (steps : List Step) : Type 0 where
  pub goes : GoesToStop plan stop limit steps
  pub under : AreStepsUnder plan stop daemon limit steps
  pub rounds : daemon ≡ Synchronous → steps ≡ take limit (rounds_of plan stop)

-- whether the first node is linked to the second
abbrev pub is_linked : Neighbours → ℕ → ℕ → Bool
is_linked network u v = list_any (λ w. w == v) (neighbours_of network u)

-- an adversary keeps two different nodes apart
abbrev pub KeepsTwo : Daemon → Type 0
KeepsTwo (Adversary seed ahead behind) = ahead ≢ behind
KeepsTwo daemon = Unit {0}

-- whether a node is not this one, where there is one
abbrev pub is_but : Option ℕ → ℕ → Bool
is_but None u = true
is_but (Some v) u = not (u == v)

-- whether a node is enabled, and not this one
abbrev pub is_free : WorldView → Option ℕ → ℕ → Bool
is_free w but u = is_but but u && is_enabled w.plan.network w.stop w.counts u

-- the free nodes by rising number
abbrev pub free_nodes : WorldView → Option ℕ → List ℕ
free_nodes w but = filter (is_free w but) (numbers_below (length w.plan.network))

-- no node is free
abbrev pub NoneFree : WorldView → Option ℕ → Type 0
NoneFree w but = (u : ℕ) → is_free w but u ≡ false

-- enabled nodes by rising number: none at a share of 0, and at 100 all of them
pub record AreDrawn (w : WorldView) (share : ℕ) (us : List ℕ) : Type 0 where
  pub enabled : All (λ u. is_free w None u ≡ true) us
  pub rising : AllPairs (λ u v. u < v) us
  pub none : share ≡ 0 → us ≡ []
  pub all : 100 ≤ share → us ≡ free_nodes w None

-- a node was put at the end, where it is enabled and the share leaves it, and else nothing was; at a share of 0 it is left out, and at 100 it is put where it is enabled
pub record MayBePut (w : WorldView) (share u : ℕ) (old new : List ℕ) : Type 0 where
  pub either : ((new ≡ old ++ u ∷ []) × (is_free w None u ≡ true) × (0 < share)) ⊎ ((new ≡ old) × (100 ≤ share → is_free w None u ≡ false))

-- each step of a list changes something, from these counts on
abbrev pub AllChange : WorldView → List Step → Type 0
AllChange w steps = All (λ a. is_change a ≡ true) (answers w.plan.network w.stop w.counts steps)

-- no slot is marked
abbrev pub IsBare : WorldView → Type 0
IsBare w = (u j : ℕ) → is_marked w.counts u j ≡ false

-- what was chosen: where there is something it is a choice, and where there is nothing no node is enabled
pub record AreChosen (w : WorldView) (daemon : Daemon) (us : List ℕ) : Type 0 where
  pub choice : 0 < length us → IsChoice w.plan.network w.stop daemon w.counts us
  pub none : us ≡ [] → NoneFree w None

-- a walk made the steps of groups that the daemon chose, each group whole
pub record HasMoved (w : WalkView) (daemon : Daemon) : Type 0 where
  pub still : w.still ≡ None
  pub bare : IsBare w.world
  pub groups : (groups : List (List ℕ)) × AreChoices w.world.plan.network w.world.stop daemon (at_start w.world.plan.network w.world.plan.start) groups × (w.steps ≡ flat_map (steps_together w.world.plan.network) groups)
