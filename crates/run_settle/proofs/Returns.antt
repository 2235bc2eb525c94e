-- Rounds of a plan whose configurations come again.
use Rattle.std.proofs.Common.{◌≡◌, ℕ, ◌+◌, ◌-◌, ◌<◌, ◌≤◌, false, length, refl, sym, subst, ap, ◌∙◌, arith, below_more}
use Rattle.std.specs.Prelude.{Bool, IsTrue, Option, Some, None, IfSome, MatchOption}
use Rattle.std.proofs.lemmas.Bool.{false≢true}
use Rattle.rule_check.specs.Rounds.{reads_round}
use Rattle.rule_check.proofs.AnyRound.{next_state-any_round}
use Rattle.rounds_plan.specs.Lockstep.{lockstep, lockstep_states, lockstep-more, nears_in}
use Rattle.rounds_plan.specs.Plans.{PlanView}
use Rattle.rounds_walk.specs.Walking.{AreAlike, RoundView}
use Rattle.rounds_walk.proofs.Alike.{alike_of, each_alike}
use Rattle.rounds_plan.proofs.Nears.{round_agrees}
use Rattle.run_settle.specs.declared.search.Found.{Found}
use Rattle.run_settle.specs.declared.settling.Settling.{Settling}
use Rattle.run_settle.specs.declared.settling.Settling.TheVariants.{Settles, Repeats, Open}
use Rattle.run_settle.specs.Outcomes.{IsOpen, IsRestless, IsSettling, IsStill, RepeatsFrom}
use Rattle.run_settle.specs.Searching.{IsAway, IsFound, ComesAgain, IsFirstOf, LeadsInside, last_of}
use Rattle.run_settle.proofs.Cycles as cycles

module _ (p : PlanView) (leads : LeadsInside p.network) (unread : reads_round p.program ≡ false) where
  -- rounds that are alike are followed by such rounds
  alike_next : (a b : ℕ) → p.start ≤ a → p.start ≤ b → AreAlike p a b → AreAlike p (a + 1) (b + 1)
  alike_next a b late later same =
      alike_of p (a + 1) (b + 1)
      (λ u inside.
      lockstep-more p a u late
      ∙ round_agrees p a (lockstep p a) (lockstep p b) u leads (each_alike p a b same) inside
      ∙ next_state-any_round p.program a b u (lockstep p b u) (nears_in p.network (lockstep p b) u) unread
      ∙ sym (lockstep-more p b u later))

  -- so many rounds on they are alike too
  alike_on : (k a b c d : ℕ) → a + k ≡ c → b + k ≡ d → p.start ≤ a → p.start ≤ b → AreAlike p a b → AreAlike p c d
  alike_on = cycles.so_many_on (λ t. lockstep_states p t (length p.network)) p.start alike_next

  -- a configuration that comes again does so after each period that another one has
  carried : (m n e q : ℕ) → p.start ≤ m → p.start ≤ e → 1 ≤ q → AreAlike p m (m + n) → AreAlike p e (e + q) → AreAlike p e (e + n)
  carried = cycles.carried (λ t. lockstep_states p t (length p.network)) p.start alike_next

  -- where a round is left as it is, no configuration before it comes again
  pub before_still : (r e q : ℕ) → IsStill p r → p.start ≤ e → e < r → 1 ≤ q → AreAlike p e (e + q) → ⊥
  before_still r e q still late before some same = still.first e late before (carried r 1 e q still.late late some still.still same)

  -- where the next round is past the limit, none comes again up to it
  pub still_open : (limit r : ℕ) → IsStill p r → limit ≤ r → IsOpen p limit
  still_open limit r still over e q late some within same = before_still r e q still late (omega arith) some same

  -- a configuration that comes again does so no earlier than one that was found
  none_shorter : (m n e q : ℕ) → ComesAgain p m n → p.start ≤ e → 1 ≤ q → q < n → AreAlike p e (e + q) → ⊥
  none_shorter m n e q found late some short same =
      let several = found.several in
      found.least (m + q) (omega arith) (omega arith) (carried e q m n late found.late (omega arith) same found.again)

  -- no configuration before the first one with that period ever comes again
  none_before : (m n r e q : ℕ) → ComesAgain p m n → IsFirstOf p n r → p.start ≤ e → e < r → 1 ≤ q → AreAlike p e (e + q) → ⊥
  none_before m n r e q found first late before some same = first.first e late before (carried m n e q found.late late some found.again same)

  -- the first round that ever comes again
  pub repeats : (limit m n r : ℕ) → ComesAgain p m n → IsFirstOf p n r → r + n ≤ limit → RepeatsFrom p limit r n
  repeats limit m n r found first within = record {
    late = first.late;
    within = within;
    several = found.several;
    again = first.again;
    first = λ e q late before some same. none_before m n r e q found first late before some same;
    least = λ q some short same. none_shorter m n r q found first.late some short same;
  }

  -- where it comes again past the limit, none does up to it
  pub again_open : (limit m n r : ℕ) → ComesAgain p m n → IsFirstOf p n r → limit < r + n → IsOpen p limit
  again_open limit m n r found first over e q late some within same =
      let after : e < r → ⊥ = λ before. none_before m n r e q found first late before some same in
      let long : q < n → ⊥ = λ short. none_shorter m n e q found late some short same in
      omega (arith, after, long)

  -- where no configuration came again in a window as long as all rounds, none does up to the limit
  pub away_open : (limit m length : ℕ) → p.start + length ≡ limit → limit ≤ m + 1 → IsAway p m (m + length + 1) → IsOpen p limit
  away_open limit m length whole late away e q from some within same =
      let here : e + (m - e) ≡ m = omega arith in
      let there : e + q + (m - e) ≡ m + q = omega arith in
      away (m + q) (omega arith) (omega arith) (alike_on (m - e) e (e + q) m (m + q) here there from (omega arith) same)

  -- rounds that come to be left as they are do not repeat
  still_repeats : (limit r s n : ℕ) → IsStill p r → RepeatsFrom p limit s n → ⊥
  still_repeats limit r s n still found =
      let several = found.several in
      found.least 1 (omega arith) (omega arith) (carried r 1 s n still.late found.late (omega arith) still.still found.again)

  -- there is one answer
  pub one_settling : (limit : ℕ) (one other : Settling) → IsSettling p limit one → IsSettling p limit other → other ≡ one
  one_settling limit (Settles r) (Settles s) one other =
      let low : r < s → ⊥ = λ before. other.round.first r one.round.late before one.round.still in
      let high : s < r → ⊥ = λ before. one.round.first s other.round.late before other.round.still in
      let same : s ≡ r = omega (arith, low, high) in
      ap Settles same
  one_settling limit (Settles r) (Repeats s n) one other = absurd (still_repeats limit r s n one.round other)
  one_settling limit (Settles r) (Open last) one other = absurd (other.1 r 1 one.round.late (omega arith) one.within one.round.still)
  one_settling limit (Repeats r n) (Settles s) one other = absurd (still_repeats limit s r n other.round one)
  one_settling limit (Repeats r n) (Repeats s k) one other =
      let several = one.several in
      let more = other.several in
      let low : r < s → ⊥ = λ before. other.first r n one.late before (omega arith) one.again in
      let high : s < r → ⊥ = λ before. one.first s k other.late before (omega arith) other.again in
      let short : k < n → ⊥ = λ less. one.least k (omega arith) less (carried s k r n other.late one.late (omega arith) other.again one.again) in
      let long : n < k → ⊥ = λ less. other.least n (omega arith) less (carried r n s k one.late other.late (omega arith) one.again other.again) in
      let same : s ≡ r = omega (arith, low, high) in
      let equal : k ≡ n = omega (arith, short, long) in
      cc
  one_settling limit (Repeats r n) (Open last) one other =
      let several = one.several in
      absurd (other.1 r n one.late (omega arith) one.within one.again)
  one_settling limit (Open last) (Settles s) one other = absurd (one.1 s 1 other.round.late (omega arith) other.within other.round.still)
  one_settling limit (Open last) (Repeats s k) one other =
      let several = other.several in
      absurd (one.1 s k other.late (omega arith) other.within other.again)
  one_settling limit (Open last) (Open end) one other = ap Open (other.0 ∙ sym one.0)

abbrev view_of : PlanView → ℕ → RoundView
view_of p r = record { plan = p; round = r }

-- a walk of the plan at the round
pub same_view : (v : RoundView) (p : PlanView) (r : ℕ) → p ≡ v.plan → r ≡ v.round → record { plan = p; round = r } ≡ v
same_view v p r plan round = ap (λ q. view_of q r) plan ∙ ap (view_of v.plan) round

-- each round up to where a walk stands changes something
pub restless_there : (p : PlanView) (old new : RoundView) (r : ℕ) → old.plan ≡ p → new.round ≡ r → IsRestless old.plan r → IsRestless p new.round
restless_there p old new r plan here restless = subst (λ t. IsRestless p t) (sym here) (subst (λ q. IsRestless q r) plan restless)

-- one more round that is not the first whose configuration comes again after so many rounds
pub none_more : (p : PlanView) (n r : ℕ) → ((e : ℕ) → p.start ≤ e → e < r → AreAlike p e (e + n) → ⊥) → (AreAlike p r (r + n) → ⊥)
    → (e : ℕ) → p.start ≤ e → e < r + 1 → AreAlike p e (e + n) → ⊥
none_more p n r before here e late less =
    below_more (λ t. p.start ≤ t → AreAlike p t (t + n) → ⊥) r (λ t under from. before t from under) (λ from. here) e less late

-- walks that are not alike
pub not_like : (p : PlanView) (r n : ℕ) (ahead behind : RoundView) (like : Bool) → ahead ≡ record { plan = p; round = r + n } → behind ≡ record { plan = p; round = r } → like ≡ false
    → (AreAlike ahead.plan ahead.round behind.round → IsTrue like) → AreAlike p r (r + n) → ⊥
not_like p r n ahead behind like front back other told same =
    let views : AreAlike ahead.plan ahead.round behind.round =
    subst (λ (v : RoundView). AreAlike v.plan v.round behind.round) (sym front) (subst (λ (v : RoundView). AreAlike p (r + n) v.round) (sym back) (sym same)) in
    false≢true (sym other ∙ told views)

-- what a search answers, where its last window found this
pub answered : (p : PlanView) (limit : ℕ) (found : Option Found) → (found ≡ None → IsOpen p limit) → IfSome found (IsFound p) → MatchOption found (IsOpen p limit) (IsFound p)
answered p limit None none found = none refl
answered p limit (Some some) none found = found

-- the last round that was looked at is within a greater bound
pub last_within : (found : Option Found) (low high : ℕ) → low ≤ high → IfSome found (λ some. last_of some ≤ low) → IfSome found (λ some. last_of some ≤ high)
last_within None low high up last = last
last_within (Some some) low high up last = omega arith
