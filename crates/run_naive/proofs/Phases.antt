-- Rounds in phases.
use Rattle.std.proofs.Common.{◌≡◌, ℕ, zero, suc, ◌+◌, ◌<◌, ◌≤◌, ◌⊎◌, inl, inr, List, [], ◌∷◌, ◌++◌, length, map, set, get_or, Option, Some, None, slice_get, Bool, true, false, nat_lt, if◌then◌else◌, refl, sym, ap, ◌∙◌, subst, arith, zero-add}
use Rattle.std.specs.List.{Contains, fold}
use Rattle.std.proofs.lemmas.Bool.{cases_eq, cases_lt, lt-ltb}
use Rattle.std.proofs.lemmas.List.{ext_get_or, get_or-map, get_or-set_same, get_or-set_other, length-set, length-map}
use Rattle.std.proofs.lemmas.List.FromFn.{length-map-range_with_len, map-range_with_len_more}
use Rattle.std.proofs.lemmas.List.Sums.{fold_push}
use Rattle.std.proofs.lemmas.List.Elements.{Contains-append_cases, Contains-push_cases}
use Rattle.std.proofs.lemmas.Option.{slice_get-get_or, slice_get_past}
use Rattle.rule_check.specs.declared.state.State.{State}
use Rattle.rule_check.specs.declared.state.Near.{Near}
use Rattle.link_net.specs.Neighbours.{IsNetwork, Neighbours, degree, neighbour, numbers_below, row, slot_at}
use Rattle.rounds_plan.specs.Configs.{blank}
use Rattle.rounds_plan.specs.Lockstep.{lockstep, lockstep-start, near_at, nears_in, state_in}
use Rattle.rounds_plan.specs.Plans.{PlanView}
use Rattle.unison_world.specs.declared.step.Step.{Step}
use Rattle.unison_world.specs.declared.step.Step.TheVariants.{Read, Write}
use Rattle.run_naive.specs.Naive.{NaiveNode, after, after_read, after_write, moved, node_in, nobody, opening_node, opening_nodes, run, state_now, with_copy}
use Rattle.run_naive.specs.Phases.{AreAllSlots, AreAtRound, PhasesKeepTheRounds, reads_of, writes_of}
use Rattle.run_naive.proofs.Copies.{right_copies}
use Rattle.run_naive.proofs.Machine.{opening_at, set_cases}

-- ---- before any step

phases_start : (p : PlanView) → AreAtRound p p.start (opening_nodes p)
phases_start p = record {
  one_each = length-map-range_with_len (opening_node p) 0 (length p.network);
  moves = λ u h. ap (λ (n : NaiveNode). n.moves) (opening_at p u h);
  states = λ u h. ap (λ (n : NaiveNode). n.state) (opening_at p u h) ∙ sym (lockstep-start p u);
  slots = λ u h. ap (λ (n : NaiveNode). length n.desk) (opening_at p u h) ∙ length-map (row p.network u) (near_at (state_in p.opening));
}

-- ---- reads

abbrev no_near : Near
no_near = record { id = 0; weight = 0; state = blank }

-- the copy at a slot, by the states of a round
abbrev copy_at : PlanView → ℕ → ℕ → ℕ → Near
copy_at p t u j = near_at (lockstep p t) (get_or (row p.network u) j (0, 0))

-- nodes at a round, with the copies of that round at the slots that Done names
record Reading (p : PlanView) (t : ℕ) (Done : ℕ → ℕ → Type 0) (nodes : List NaiveNode) : Type 0 where
  pub at : AreAtRound p t nodes
  pub copies : (u j : ℕ) → u < length p.network → j < degree p.network u → Done u j → get_or (node_in nodes u).desk j no_near ≡ copy_at p t u j

module _ (p : PlanView) (stop t : ℕ) (whole : IsNetwork p.network) where
  -- one node with a copy more
  set_at : (nodes : List NaiveNode) (a b : ℕ) (near : Near) → AreAtRound p t nodes → a < length p.network → AreAtRound p t (set nodes a (with_copy b near (node_in nodes a)))
  set_at nodes a b near is inside =
      let n = with_copy b near (node_in nodes a) in
      let within : a < length nodes = omega (arith, inside, is.one_each) in
      record {
        one_each = length-set nodes a n ∙ is.one_each;
        moves = λ u h. elim (set_cases nodes a n nobody u within) as (λ _. (node_in (set nodes a n) u).moves ≡ t) [
          | inl here ↦ ap (λ (x : NaiveNode). x.moves) here.1 ∙ is.moves a inside
          | inr other ↦ ap (λ (x : NaiveNode). x.moves) other.1 ∙ is.moves u h
        ];
        states = λ u h. elim (set_cases nodes a n nobody u within) as (λ _. (node_in (set nodes a n) u).state ≡ lockstep p t u) [
          | inl here ↦ ap (λ (x : NaiveNode). x.state) here.1 ∙ is.states a inside ∙ ap (lockstep p t) (sym here.0)
          | inr other ↦ ap (λ (x : NaiveNode). x.state) other.1 ∙ is.states u h
        ];
        slots = λ u h. elim (set_cases nodes a n nobody u within) as (λ _. length (node_in (set nodes a n) u).desk ≡ degree p.network u) [
          | inl here ↦ ap (λ (x : NaiveNode). length x.desk) here.1 ∙ length-set (node_in nodes a).desk b near ∙ is.slots a inside ∙ ap (degree p.network) (sym here.0)
          | inr other ↦ ap (λ (x : NaiveNode). length x.desk) other.1 ∙ is.slots u h
        ];
      }

  -- the slot of a network
  slot_there : (network : Neighbours) (a b : ℕ) → b < degree network a → slot_at network a b ≡ Some (get_or (row network a) b (0, 0))
  slot_there [] a b below = absurd (omega arith)
  slot_there (r ∷ rs) zero b below = slice_get-get_or r b (0, 0) below
  slot_there (r ∷ rs) (suc a) b below = slot_there rs a b below

  no_slot : (network : Neighbours) (a b : ℕ) → degree network a ≤ b → slot_at network a b ≡ None
  no_slot [] a b past = refl
  no_slot (r ∷ rs) zero b past = slice_get_past r b past
  no_slot (r ∷ rs) (suc a) b past = no_slot rs a b past

  some_node : (network : Neighbours) (a b : ℕ) → b < degree network a → a < length network
  some_node [] a b below = absurd (omega arith)
  some_node (r ∷ rs) zero b below = omega arith
  some_node (r ∷ rs) (suc a) b below = (let rest = some_node rs a b below in omega (arith, rest))

  module _ (Done : ℕ → ℕ → Type 0) (nodes : List NaiveNode) (is : Reading p t Done nodes) (a b : ℕ) where
    abbrev More : ℕ → ℕ → Type 0
    More u j = Done u j ⊎ ((u ≡ a) × (j ≡ b))

    read_there : b < degree p.network a → Reading p t More (after_read nodes a b (Some (get_or (row p.network a) b (0, 0))))
    read_there below =
        let link = get_or (row p.network a) b (0, 0) in
        let inside : a < length p.network = some_node p.network a b below in
        let within : a < length nodes = omega (arith, inside, is.at.one_each) in
        let near = near_at (state_now nodes) link in
        let n = with_copy b near (node_in nodes a) in
        let right : near ≡ copy_at p t a b = ap (λ (s : State). record { id = link.0; weight = link.1; state = s }) (is.at.states link.0 (whole.within a b below)) in
        let room : b < length (node_in nodes a).desk = omega (arith, below, is.at.slots a inside) in
        record {
          at = set_at nodes a b near is.at inside;
          copies = λ u j h low done. elim (set_cases nodes a n nobody u within) as (λ _. get_or (node_in (set nodes a n) u).desk j no_near ≡ copy_at p t u j) [
            | inl here ↦ elim (cases_eq j b) as (λ _. get_or (node_in (set nodes a n) u).desk j no_near ≡ copy_at p t u j) [
              | inl same ↦
                  ap (λ (x : NaiveNode). get_or x.desk j no_near) here.1 ∙ ap (λ (i : ℕ). get_or (set (node_in nodes a).desk b near) i no_near) same
                  ∙ get_or-set_same (node_in nodes a).desk b near no_near room ∙ right ∙ ap (λ (v : ℕ). copy_at p t v b) (sym here.0) ∙ ap (copy_at p t u) (sym same)
              | inr apart ↦
                  ap (λ (x : NaiveNode). get_or x.desk j no_near) here.1 ∙ get_or-set_other (node_in nodes a).desk b j near no_near apart
                  ∙ ap (λ (v : ℕ). get_or (node_in nodes v).desk j no_near) (sym here.0)
                  ∙ is.copies u j h low (elim done as (λ _. Done u j) [ inl old ↦ old | inr new ↦ absurd (apart new.1) ])
            ]
            | inr other ↦
                ap (λ (x : NaiveNode). get_or x.desk j no_near) other.1
                ∙ is.copies u j h low (elim done as (λ _. Done u j) [ inl old ↦ old | inr new ↦ absurd (other.0 new.0) ])
          ];
        }

    read_one : Reading p t More (after p stop nodes (Read a b))
    read_one = elim (cases_lt b (degree p.network a)) as (λ _. Reading p t More (after p stop nodes (Read a b))) [
      | inl below ↦ subst (λ (o : Option (ℕ × ℕ)). Reading p t More (after_read nodes a b o)) (sym (slot_there p.network a b below)) (read_there below)
      | inr past ↦
          subst (λ (o : Option (ℕ × ℕ)). Reading p t More (after_read nodes a b o)) (sym (no_slot p.network a b past))
          (record {
            at = is.at;
            copies = λ u j h low done. is.copies u j h low
                (elim done as (λ _. Done u j) [ inl old ↦ old | inr new ↦ absurd (omega (arith, past, low, new.1, ap (degree p.network) new.0)) ]);
          })
    ]

  fewer : (Done Less : ℕ → ℕ → Type 0) (nodes : List NaiveNode) → ((u j : ℕ) → Less u j → Done u j) → Reading p t Done nodes → Reading p t Less nodes
  fewer Done Less nodes within is = record { at = is.at; copies = λ u j h low less. is.copies u j h low (within u j less) }

  contains_front : (a : ℕ × ℕ) (slots : List (ℕ × ℕ)) (x : ℕ × ℕ) → Contains (a ∷ slots) x → (a ≡ x) ⊎ Contains slots x
  contains_front a slots x has = elim (Contains-append_cases (a ∷ []) slots x has) as (λ _. (a ≡ x) ⊎ Contains slots x) [
    | inl one ↦ elim (Contains-push_cases [] a x one) as (λ _. (a ≡ x) ⊎ Contains slots x) [ inl none ↦ absurd (omega (arith, none.1)) | inr same ↦ inl same ]
    | inr rest ↦ inr rest
  ]

  regroup : (Done : ℕ → ℕ → Type 0) (a : ℕ × ℕ) (slots : List (ℕ × ℕ)) (u j : ℕ) → Done u j ⊎ Contains (a ∷ slots) (u, j)
      → (Done u j ⊎ ((u ≡ a.0) × (j ≡ a.1))) ⊎ Contains slots (u, j)
  regroup Done a slots u j (inl old) = inl (inl old)
  regroup Done a slots u j (inr has) = elim (contains_front a slots (u, j) has) as (λ _. (Done u j ⊎ ((u ≡ a.0) × (j ≡ a.1))) ⊎ Contains slots (u, j)) [
    | inl same ↦ inl (inr (ap (λ (x : ℕ × ℕ). x.0) (sym same), ap (λ (x : ℕ × ℕ). x.1) (sym same)))
    | inr rest ↦ inr rest
  ]

  read_all : (Done : ℕ → ℕ → Type 0) (nodes : List NaiveNode) (slots : List (ℕ × ℕ)) → Reading p t Done nodes
      → Reading p t (λ u j. Done u j ⊎ Contains slots (u, j)) (run p stop nodes (reads_of slots))
  read_all Done nodes [] is = fewer Done (λ u j. Done u j ⊎ Contains [] (u, j)) nodes (λ u j less. elim less as (λ _. Done u j) [ inl old ↦ old | inr none ↦ absurd (omega (arith, none.1)) ]) is
  read_all Done nodes (a ∷ slots) is =
      fewer (λ u j. (Done u j ⊎ ((u ≡ a.0) × (j ≡ a.1))) ⊎ Contains slots (u, j)) (λ u j. Done u j ⊎ Contains (a ∷ slots) (u, j)) (run p stop nodes (reads_of (a ∷ slots)))
      (λ u j less. regroup Done a slots u j less)
      (read_all (λ u j. Done u j ⊎ ((u ≡ a.0) × (j ≡ a.1))) (after p stop nodes (Read a.0 a.1)) slots (read_one Done nodes is a.0 a.1))

  -- ---- writes

  -- the first k nodes have moved, and no other
  record HaveMoved (k : ℕ) (base nodes : List NaiveNode) : Type 0 where
    pub one_each : length nodes ≡ length p.network
    pub own : (u : ℕ) → u < length p.network → u < k → node_in nodes u ≡ moved p.program u (node_in base u)
    pub left : (u : ℕ) → u < length p.network → k ≤ u → node_in nodes u ≡ node_in base u

  module _ (below : t < stop) (base : List NaiveNode) (is : AreAtRound p t base) where
    write_one : (k : ℕ) (nodes : List NaiveNode) → k < length p.network → HaveMoved k base nodes → HaveMoved (k + 1) base (after p stop nodes (Write k))
    write_one k nodes inside have =
        let within : k < length nodes = omega (arith, inside, have.one_each) in
        let old = node_in nodes k in
        let new = moved p.program k old in
        let same : old ≡ node_in base k = have.left k inside (omega arith) in
        let lower : old.moves < stop = omega (arith, below, ap (λ (n : NaiveNode). n.moves) same, is.moves k inside) in
        let next : after p stop nodes (Write k) ≡ set nodes k new =
        ap (after_write p.program stop nodes k) (slice_get-get_or nodes k nobody within) ∙ ap (λ (b : Bool). if b then set nodes k new else nodes) (lt-ltb old.moves stop lower) in
        subst (λ ns. HaveMoved (k + 1) base ns) (sym next) (record {
          one_each = length-set nodes k new ∙ have.one_each;
          own = λ u h low. elim (set_cases nodes k new nobody u within) as (λ _. node_in (set nodes k new) u ≡ moved p.program u (node_in base u)) [
            | inl here ↦ here.1 ∙ ap (moved p.program k) same ∙ ap (λ (v : ℕ). moved p.program v (node_in base v)) (sym here.0)
            | inr other ↦ other.1 ∙ have.own u h (let apart = other.0 in omega (arith, low, apart))
          ];
          left = λ u h high. get_or-set_other nodes k u new nobody (λ here. absurd (omega (arith, here, high))) ∙ have.left u h (omega (arith, high));
        })

    abbrev Moves : ℕ → Type 0
    Moves k = HaveMoved k base (run p stop base (map (λ u. Write u) (numbers_below k)))

    write_all : (k : ℕ) → k ≤ length p.network → Moves k
    write_all zero few = record { one_each = is.one_each; own = λ u h low. absurd (omega (arith, low)); left = λ u h high. refl }
    write_all (suc k) few =
        let count : suc k ≡ k + 1 = omega arith in
        let more : run p stop base (map (λ u. Write u) (numbers_below (k + 1))) ≡ after p stop (run p stop base (map (λ u. Write u) (numbers_below k))) (Write k) =
        ap (run p stop base) (map-range_with_len_more (λ u. Write u) 0 k k (zero-add k)) ∙ fold_push (after p stop) base (map (λ u. Write u) (numbers_below k)) (Write k) in
        let step = write_one k (run p stop base (map (λ u. Write u) (numbers_below k))) (omega (arith, few, count)) (write_all k (omega (arith, few, count))) in
        subst Moves (sym count) (subst (λ ns. HaveMoved (k + 1) base ns) (sym more) step)

phases_next : (p : PlanView) (stop t : ℕ) (nodes : List NaiveNode) (slots : List (ℕ × ℕ)) → IsNetwork p.network → p.start ≤ t → t < stop
    → AreAtRound p t nodes → AreAllSlots p.network slots → AreAtRound p (t + 1) (run p stop (run p stop nodes (reads_of slots)) (writes_of p.network))
phases_next p stop t nodes slots whole late below is all = record {
  one_each = have.one_each;
  moves = λ u h. ap (λ (n : NaiveNode). n.moves) (own u h) ∙ ap (λ (m : ℕ). m + 1) (read.at.moves u h);
  states = λ u h. ap (λ (n : NaiveNode). n.state) (own u h) ∙ state u h ∙ ap (λ (m : ℕ). lockstep p (m + 1) u) (read.at.moves u h);
  slots = λ u h. ap (λ (n : NaiveNode). length n.desk) (own u h) ∙ read.at.slots u h;
}
  where
    read : Reading p t (λ u j. ⊥ ⊎ Contains slots (u, j)) (run p stop nodes (reads_of slots))
    read = read_all p stop t whole (λ u j. ⊥) nodes slots (record { at = is; copies = λ u j h low none. absurd none })

    have : HaveMoved p stop t whole (length p.network) (run p stop nodes (reads_of slots)) (run p stop (run p stop nodes (reads_of slots)) (writes_of p.network))
    have = write_all p stop t whole below (run p stop nodes (reads_of slots)) read.at (length p.network) (omega arith)

    own : (u : ℕ) → u < length p.network → node_in (run p stop (run p stop nodes (reads_of slots)) (writes_of p.network)) u ≡ moved p.program u (node_in (run p stop nodes (reads_of slots)) u)
    own u h = have.own u h h

    desk : (u : ℕ) → u < length p.network → (node_in (run p stop nodes (reads_of slots)) u).desk ≡ nears_in p.network (lockstep p t) u
    desk u h =
        ext_get_or no_near (node_in (run p stop nodes (reads_of slots)) u).desk (nears_in p.network (lockstep p t) u) (read.at.slots u h ∙ sym (length-map (row p.network u) (near_at (lockstep p t))))
        (λ j low.
        let there : j < degree p.network u = omega (arith, low, read.at.slots u h) in
        read.copies u j h there (inr (all u j there)) ∙ sym (get_or-map (near_at (lockstep p t)) (row p.network u) j (0, 0) no_near there))

    state : (u : ℕ) → u < length p.network → (moved p.program u (node_in (run p stop nodes (reads_of slots)) u)).state ≡ lockstep p ((node_in (run p stop nodes (reads_of slots)) u).moves + 1) u
    state u h =
        let n = node_in (run p stop nodes (reads_of slots)) u in
        let count = read.at.moves u h in
        right_copies p u n (omega (arith, late, count)) (read.at.states u h ∙ ap (λ (m : ℕ). lockstep p m u) (sym count))
        (desk u h ∙ ap (λ (m : ℕ). nears_in p.network (lockstep p m) u) (sym count))

pub phases_keep_the_rounds : PhasesKeepTheRounds
phases_keep_the_rounds = record { start = phases_start; next = phases_next }
