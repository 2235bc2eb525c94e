-- Steps keep the counts in shape and in step.
use Rattle.std.proofs.Common.{◌≡◌, ◌≢◌, ◌⊎◌, ℕ, zero, suc, ◌+◌, ◌<◌, ◌≤◌, true, false, List, [], ◌∷◌, length, map, set, get_or, sym, refl, ap, ◌∙◌, inl, inr, ⊎_elim, arith}
use Rattle.std.proofs.lemmas.List.{get_or-set_same, get_or-set_other, get_or-map, get_or_past, length-set, length-map, set_past}
use Rattle.std.proofs.lemmas.Bool.{cases_eq, cases_lt, false≢true}
use Rattle.std.proofs.lemmas.Bool.Decides.{nat_tests, Decides-below_and}
use Rattle.link_net.specs.Neighbours.{Neighbours, row, degree, neighbour}
use Rattle.link_net.specs.Simple.{IsSimple}
use Rattle.link_net.proofs.Simples.{network_simple, node_of_slot}
use Rattle.unison_world.specs.declared.step.Step.{Step}
use Rattle.unison_world.specs.declared.step.Step.TheVariants.{Read, Write}
use Rattle.unison_world.specs.declared.step.Answer.{Answer}
use Rattle.unison_world.specs.declared.step.Answer.TheVariants.{Taken, Moved}
use Rattle.unison_world.specs.Counting.{Counts, moves_of, marks_of, is_marked, all_marked, at_start, answer_of, change, marked, moved, after, run, HasShape, InStep, StaysInStep}

pub get_or-map_each : {X Y : Type 0} (f : X → Y) (xs : List X) (i : ℕ) (d : X) → get_or (map f xs) i (f d) ≡ f (get_or xs i d)
get_or-map_each f [] i d = refl
get_or-map_each f (x ∷ xs) zero d = refl
get_or-map_each f (x ∷ xs) (suc i) d = get_or-map_each f xs i d

pub get_or-map_same : {X Y : Type 0} (y : Y) (xs : List X) (i : ℕ) → get_or (map (λ _. y) xs) i y ≡ y
get_or-map_same y [] i = refl
get_or-map_same y (x ∷ xs) zero = refl
get_or-map_same y (x ∷ xs) (suc i) = get_or-map_same y xs i

-- the count of a node after a move of u
pub moves-moved : (c : Counts) (u v : ℕ) → u < length c.moves → ((v ≡ u) × (moves_of (moved c u) v ≡ moves_of c v + 1)) ⊎ ((v ≢ u) × (moves_of (moved c u) v ≡ moves_of c v))
moves-moved c u v h =
    ⊎_elim (λ e. inl (e, rw e (get_or-set_same c.moves u _ 0 h))) (λ n. inr (n, get_or-set_other c.moves u v _ 0 n)) (cases_eq v u)

-- a mark after a move of u was there before, at another node
pub marked-moved : (c : Counts) (u v i : ℕ) → u < length c.marks → is_marked (moved c u) v i ≡ true → (v ≢ u) × (is_marked c v i ≡ true)
marked-moved c u v i h e =
    ⊎_elim
    (λ s. let g = rw s at e in let f = rw (get_or-set_same c.marks u (map (λ _. false) (marks_of c u)) [] h) at g in absurd (false≢true (sym (get_or-map_same false (marks_of c u) i) ∙ f)))
    (λ n. (n, rw (get_or-set_other c.marks u v (map (λ _. false) (marks_of c u)) [] n) at e))
    (cases_eq v u)

-- a mark after one at the slot j of u is that one, or was there before
pub marked-marked : (c : Counts) (u j v i : ℕ) → u < length c.marks → is_marked (marked c u j) v i ≡ true → ((v ≡ u) × (i ≡ j)) ⊎ (is_marked c v i ≡ true)
marked-marked c u j v i h e =
    ⊎_elim
    (λ s. let g = rw s at e in let f = rw (get_or-set_same c.marks u (set (marks_of c u) j true) [] h) at g in
    ⊎_elim (λ t. inl (s, t)) (λ n. inr (rw s (sym (get_or-set_other (marks_of c u) j i true false n) ∙ f))) (cases_eq i j))
    (λ n. inr (rw (get_or-set_other c.marks u v (set (marks_of c u) j true) [] n) at e))
    (cases_eq v u)

pub shape-marked : (network : Neighbours) (c : Counts) (u j : ℕ) → HasShape network c → HasShape network (marked c u j)
shape-marked network c u j s =
    record {
      moves = s.moves;
      marks = length-set c.marks u _ ∙ s.marks;
      slots = λ v.
          ⊎_elim
          (λ a. ⊎_elim
          (λ e. rw e (rw (get_or-set_same c.marks u (set (marks_of c u) j true) [] a) (length-set (marks_of c u) j true ∙ s.slots u)))
          (λ n. rw (get_or-set_other c.marks u v (set (marks_of c u) j true) [] n) (s.slots v)) (cases_eq v u))
          (λ a. rw (set_past c.marks u (set (marks_of c u) j true) a) (s.slots v))
          (cases_lt u (length c.marks));
    }

pub shape-moved : (network : Neighbours) (c : Counts) (u : ℕ) → HasShape network c → HasShape network (moved c u)
shape-moved network c u s =
    record {
      moves = length-set c.moves u _ ∙ s.moves;
      marks = length-set c.marks u _ ∙ s.marks;
      slots = λ v.
          ⊎_elim
          (λ a. ⊎_elim
          (λ e. rw e (rw (get_or-set_same c.marks u (map (λ _. false) (marks_of c u)) [] a) (length-map (marks_of c u) (λ _. false) ∙ s.slots u)))
          (λ n. rw (get_or-set_other c.marks u v (map (λ _. false) (marks_of c u)) [] n) (s.slots v)) (cases_eq v u))
          (λ a. rw (set_past c.marks u (map (λ _. false) (marks_of c u)) a) (s.slots v))
          (cases_lt u (length c.marks));
    }

module _ (network : Neighbours) (stop : ℕ) (c : Counts) (u : ℕ) (shape : HasShape network c) (is : InStep network stop c) (node : u < length network) (unstopped : moves_of c u ≢ stop) where
  pub in_step-marked : (j : ℕ) → moves_of c u ≤ moves_of c (neighbour network u j) → InStep network stop (marked c u j)
  in_step-marked j fresh =
      let has : u < length c.marks = omega (arith, shape.marks) in
      record {
        near = is.near;
        level = λ v i h e. ⊎_elim (λ w. rw (w.0, w.1) fresh) (λ m. is.level v i h m) (marked-marked c u j v i has e);
        within = is.within;
        unstopped = λ v i e. ⊎_elim (λ w. rw w.0 (omega (arith, is.within u))) (λ m. is.unstopped v i m) (marked-marked c u j v i has e);
      }

  pub in_step-moved : IsSimple network → ((k : ℕ) → k < degree network u → is_marked c u k ≡ true) → InStep network stop (moved c u)
  in_step-moved net ready =
      let has : u < length c.marks = omega (arith, shape.marks) in
      let counts : u < length c.moves = omega (arith, shape.moves) in
      let ahead : (k : ℕ) → k < degree network u → moves_of c u ≤ moves_of c (neighbour network u k) = λ k h. is.level u k h (ready k h) in
      let out : (v i : ℕ) → i < degree network v → v ≡ u → moves_of c v ≤ moves_of c (neighbour network v i) = λ v i h e. rw e (ahead i (rw e at h)) in
      let back : (v i : ℕ) → i < degree network v → neighbour network v i ≡ u → moves_of c (neighbour network v i) ≤ moves_of c v = λ v i h e. (let b = net.both_ways v i h in let o = out (neighbour network v i) b.0 b.1 e in rw b.2 at o) in
      record {
        near = λ v i h.
            let n = is.near v i h in
            let w = neighbour network v i in
            ⊎_elim
            (λ a. ⊎_elim (λ b. (omega arith, omega arith)) (λ b. (let o = out v i h a.0 in (omega arith, omega arith))) (moves-moved c u w counts))
            (λ a. ⊎_elim (λ b. (let o = back v i h b.0 in (omega arith, omega arith))) (λ b. (omega arith, omega arith)) (moves-moved c u w counts))
            (moves-moved c u v counts);
        level = λ v i h e.
            let m = marked-moved c u v i has e in
            let l = is.level v i h m.1 in
            ⊎_elim (λ a. absurd (m.0 a.0)) (λ a. ⊎_elim (λ b. omega arith) (λ b. omega arith) (moves-moved c u (neighbour network v i) counts)) (moves-moved c u v counts);
        within = λ v.
            let w = is.within v in
            let p = is.within u in
            ⊎_elim (λ a. (let q = ap (moves_of c) a.0 in omega arith)) (λ a. omega arith) (moves-moved c u v counts);
        unstopped = λ v i e.
            let m = marked-moved c u v i has e in
            let l = is.unstopped v i m.1 in
            ⊎_elim (λ a. absurd (m.0 a.0)) (λ a. omega arith) (moves-moved c u v counts);
      }

-- what the answers Taken and Moved tell
pub answer-taken : (network : Neighbours) (stop : ℕ) (c : Counts) (u j : ℕ) → answer_of network stop c (Read u j) ≡ Taken → (u < length network) × (j < degree network u) × (moves_of c u ≢ stop) × (moves_of c u ≤ moves_of c (neighbour network u j))
answer-taken network stop c u j e = grind (arith, nat_tests)

pub all_marked_tells : (c : Counts) (u n : ℕ) → all_marked c u n ≡ true → (k : ℕ) → k < n → is_marked c u k ≡ true
all_marked_tells c u n = (Decides-below_and (is_marked c u) (λ k. is_marked c u k ≡ true) (all_marked c u) (λ k. (λ e. e, λ e. e)) refl (λ _. refl) n).0

pub answer-moved : (network : Neighbours) (stop : ℕ) (c : Counts) (u : ℕ) → answer_of network stop c (Write u) ≡ Moved → (u < length network) × (moves_of c u ≢ stop) × (all_marked c u (degree network u) ≡ true)
answer-moved network stop c u e = grind (arith, nat_tests)

pub shape-after : (network : Neighbours) (stop : ℕ) (c : Counts) (step : Step) → HasShape network c → HasShape network (after network stop c step)
shape-after network stop c (Read u j) s =
    elim (answer_of network stop c (Read u j)) as (λ a. HasShape network (change c (Read u j) a)) [ Taken ↦ shape-marked network c u j s | _ ↦ s ]
shape-after network stop c (Write u) s =
    elim (answer_of network stop c (Write u)) as (λ a. HasShape network (change c (Write u) a)) [ Moved ↦ shape-moved network c u s | _ ↦ s ]

pub in_step-after : (network : Neighbours) (stop : ℕ) (c : Counts) (step : Step) → IsSimple network → HasShape network c → InStep network stop c → InStep network stop (after network stop c step)
in_step-after network stop c (Read u j) net shape is =
    let cases : (a : Answer) → (a ≡ Taken → (u < length network) × (j < degree network u) × (moves_of c u ≢ stop) × (moves_of c u ≤ moves_of c (neighbour network u j))) → InStep network stop (change c (Read u j) a) =
    λ a. elim a as (λ a. (a ≡ Taken → (u < length network) × (j < degree network u) × (moves_of c u ≢ stop) × (moves_of c u ≤ moves_of c (neighbour network u j))) → InStep network stop (change c (Read u j) a))
    [ Taken ↦ λ f. (let t = f refl in in_step-marked network stop c u shape is t.0 t.2 j t.3) | _ ↦ λ _. is ]
    in cases (answer_of network stop c (Read u j)) (answer-taken network stop c u j)
in_step-after network stop c (Write u) net shape is =
    let cases : (a : Answer) → (a ≡ Moved → (u < length network) × (moves_of c u ≢ stop) × (all_marked c u (degree network u) ≡ true)) → InStep network stop (change c (Write u) a) =
    λ a. elim a as (λ a. (a ≡ Moved → (u < length network) × (moves_of c u ≢ stop) × (all_marked c u (degree network u) ≡ true)) → InStep network stop (change c (Write u) a))
    [ Moved ↦ λ f. (let t = f refl in in_step-moved network stop c u shape is t.0 t.1 net (all_marked_tells c u (degree network u) t.2)) | _ ↦ λ _. is ]
    in cases (answer_of network stop c (Write u)) (answer-moved network stop c u)

-- the start's count is every node's
pub moves-at_start : (network : Neighbours) (start u : ℕ) → u < length network → moves_of (at_start network start) u ≡ start
moves-at_start network start u h = get_or-map (λ (row : List (ℕ × ℕ)). start) network u [] 0 h

-- and no count is above it
moves-at_start_most : (network : Neighbours) (start u : ℕ) → moves_of (at_start network start) u ≤ start
moves-at_start_most network start u =
    ⊎_elim
    (λ h. (let e = moves-at_start network start u h in omega arith))
    (λ h. (let e : moves_of (at_start network start) u ≡ 0 = get_or_past (at_start network start).moves u 0 (omega (arith, length-map network (λ (row : List (ℕ × ℕ)). start), h)) in omega arith))
    (cases_lt u (length network))

pub marked-at_start : (network : Neighbours) (start u j : ℕ) → is_marked (at_start network start) u j ≡ false
marked-at_start network start u j =
    rw (get_or-map_each (λ (row : List (ℕ × ℕ)). map (λ (a : ℕ × ℕ). false) row) network u []) (get_or-map_same false (row network u) j)

pub shape-at_start : (network : Neighbours) (start : ℕ) → HasShape network (at_start network start)
shape-at_start network start =
    record {
      moves = length-map network (λ (row : List (ℕ × ℕ)). start);
      marks = length-map network (λ (row : List (ℕ × ℕ)). map (λ (a : ℕ × ℕ). false) row);
      slots = λ u. rw (get_or-map_each (λ (row : List (ℕ × ℕ)). map (λ (a : ℕ × ℕ). false) row) network u []) (length-map (row network u) (λ (a : ℕ × ℕ). false));
    }

pub in_step-at_start : (network : Neighbours) (start stop : ℕ) → IsSimple network → start ≤ stop → InStep network stop (at_start network start)
in_step-at_start network start stop net late =
    record {
      near = λ u j h.
          (let a = moves-at_start network start u (node_of_slot network u j h) in let b = moves-at_start network start (neighbour network u j) (net.within u j h) in (omega arith, omega arith));
      level = λ u j h e. absurd (false≢true (sym (marked-at_start network start u j) ∙ e));
      within = λ u. (let a = moves-at_start_most network start u in omega arith);
      unstopped = λ u j e. absurd (false≢true (sym (marked-at_start network start u j) ∙ e));
    }

pub in_step-run : (network : Neighbours) (stop : ℕ) (c : Counts) (steps : List Step) → IsSimple network → HasShape network c → InStep network stop c → InStep network stop (run network stop c steps)
in_step-run network stop c [] net shape is = is
in_step-run network stop c (step ∷ steps) net shape is =
    in_step-run network stop (after network stop c step) steps net (shape-after network stop c step shape) (in_step-after network stop c step net shape is)

pub in_step-from_start : (network : Neighbours) (start stop : ℕ) (steps : List Step) → IsSimple network → start ≤ stop → InStep network stop (run network stop (at_start network start) steps)
in_step-from_start network start stop steps net late =
    in_step-run network stop (at_start network start) steps net (shape-at_start network start) (in_step-at_start network start stop net late)

pub stays_in_step : StaysInStep
stays_in_step network start stop steps net late = in_step-from_start network start stop steps (network_simple network net) late
