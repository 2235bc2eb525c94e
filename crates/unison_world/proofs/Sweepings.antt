-- Turns keep the shape of the counts and raise them, and a sweep raises the least.
use Rattle.std.proofs.Common.{◌≡◌, ◌⊎◌, ℕ, zero, suc, min, ◌+◌, ◌-◌, ◌*◌, ◌<◌, ◌≤◌, Bool, false, List, [], ◌∷◌, length, map, get_or, sym, refl, ap, subst, ◌∙◌, inl, inr, ⊎_elim, arith, nat_lt}
use Rattle.std.specs.List.{range_with_len, sum_by}
use Rattle.std.proofs.lemmas.List.{length-map, ext_get_or}
use Rattle.std.proofs.lemmas.List.Sums.{sum_by-cons}
use Rattle.std.proofs.lemmas.Bool.{cases_eq, cases_lt, false≢true}
use Rattle.link_net.specs.Neighbours.{Neighbours, row, degree, neighbour, numbers_below}
use Rattle.link_net.specs.Simple.{IsSimple}
use Rattle.link_net.proofs.Simples.{network_simple}
use Rattle.unison_world.specs.declared.step.TurnAnswer.{TurnAnswer}
use Rattle.unison_world.specs.declared.step.TurnAnswer.TheVariants.{Moved}
use Rattle.unison_world.specs.Counting.{Counts, moves_of, marks_of, is_marked, moved, at_start, HasShape, InStep}
use Rattle.unison_world.specs.Progress.{marks_in, done_at, steps_done, left_at, steps_left}
use Rattle.unison_world.specs.Turns.{neighbours_of, any_behind, turn_answer, turn_change, after_turn, after_turns, after_sweeps, moves_in_turns, one_if_moved, SweepsRise}
use Rattle.unison_world.proofs.Steps.{shape-moved, moves-moved, moves-at_start, shape-at_start, get_or-map_each}
use Rattle.unison_world.proofs.Sights.{cases_bool, lt_false}
use Rattle.unison_world.proofs.Turnings.{Has, has_range, any-finds, neighbour_is, neighbours_many, turn-free, turn-moves, turn-moved}
use Rattle.unison_world.proofs.Progressing.{marks-none, marks-most}

-- a turn changes nothing, or leaves what a move leaves
turn_either : (network : Neighbours) (stop : ℕ) (c : Counts) (u : ℕ) → HasShape network c → (after_turn network stop c u ≡ c) ⊎ ((u < length network) × (after_turn network stop c u ≡ moved c u))
turn_either network stop c u shape =
    let cases : (a : TurnAnswer) → turn_answer network stop c u ≡ a → (after_turn network stop c u ≡ c) ⊎ ((u < length network) × (after_turn network stop c u ≡ moved c u)) =
    λ a. elim a as (λ a. turn_answer network stop c u ≡ a → (after_turn network stop c u ≡ c) ⊎ ((u < length network) × (after_turn network stop c u ≡ moved c u)))
    [ Moved ↦ λ e. inr ((turn-free network stop c u shape e).node, turn-moved network stop c u shape e) | _ ↦ λ e. inl (ap (turn_change network stop c u) e) ]
    in cases (turn_answer network stop c u) refl

pub turn-shape : (network : Neighbours) (stop : ℕ) (c : Counts) (u : ℕ) → HasShape network c → HasShape network (after_turn network stop c u)
turn-shape network stop c u shape =
    ⊎_elim
    (λ e. subst (HasShape network) (sym e) shape)
    (λ e. subst (HasShape network) (sym e.1) (shape-moved network c u shape))
    (turn_either network stop c u shape)

moved-grows : (c : Counts) (u v : ℕ) → u < length c.moves → moves_of c v ≤ moves_of (moved c u) v
moved-grows c u v h = ⊎_elim (λ a. (let e = a.1 in omega arith)) (λ a. (let e = a.1 in omega arith)) (moves-moved c u v h)

turn-grows : (network : Neighbours) (stop : ℕ) (c : Counts) (u v : ℕ) → HasShape network c → moves_of c v ≤ moves_of (after_turn network stop c u) v
turn-grows network stop c u v shape =
    ⊎_elim
    (λ e. (let m = ap (λ (x : Counts). moves_of x v) e in omega arith))
    (λ e. (let m = ap (λ (x : Counts). moves_of x v) e.1 in let n = e.0 in let g = moved-grows c u v (omega (arith, n, shape.moves)) in omega arith))
    (turn_either network stop c u shape)

-- where all nodes have moved m times, a node has moved once more after its turn, or stands at the stop
turn-rises : (network : Neighbours) (stop : ℕ) (c : Counts) (u m t : ℕ) → IsSimple network → HasShape network c → u < length network → t ≤ m + 1 → t ≤ stop
    → ((v : ℕ) → v < length network → m ≤ moves_of c v) → t ≤ moves_of (after_turn network stop c u) u
turn-rises network stop c u m t net shape h more most all =
    let grows = turn-grows network stop c u u shape in
    ⊎_elim
    (λ s. omega arith)
    (λ s.
    ⊎_elim
    (λ b.
    let k = any-finds (λ w. nat_lt (moves_of c w) (moves_of c u)) (neighbours_of network u) b in
    let n = neighbour_is network u k.0 in
    let inside : k.0 < degree network u = (let l = k.1 in omega (arith, l, neighbours_many network u)) in
    let least = all (neighbour network u k.0) (net.within u k.0 inside) in
    let lower : moves_of c (neighbour network u k.0) < moves_of c u =
    ⊎_elim (λ l. l) (λ l. absurd (false≢true (sym (lt_false (moves_of c (neighbour network u k.0)) (moves_of c u) l) ∙ rw n at k.2))) (cases_lt (moves_of c (neighbour network u k.0)) (moves_of c u)) in
    omega arith)
    (λ b.
    let e = turn-moved network stop c u shape (turn-moves network stop c u h s b) in
    let m' = ap (λ (x : Counts). moves_of x u) e in
    let counts : u < length c.moves = (let l = shape.moves in omega arith) in
    let least = all u h in
    ⊎_elim (λ a. (let d = a.1 in omega arith)) (λ a. absurd (a.0 refl)) (moves-moved c u u counts))
    (cases_bool (any_behind network c u)))
    (cases_eq (moves_of c u) stop)

pub turns-shape : (network : Neighbours) (stop : ℕ) (us : List ℕ) (c : Counts) → HasShape network c → HasShape network (after_turns network stop c us)
turns-shape network stop [] c shape = shape
turns-shape network stop (u ∷ us) c shape = turns-shape network stop us (after_turn network stop c u) (turn-shape network stop c u shape)

turns-rise : (network : Neighbours) (stop m t : ℕ) (us : List ℕ) (c : Counts) (v : ℕ) → IsSimple network → HasShape network c → t ≤ m + 1 → t ≤ stop → ((w : ℕ) → w < length network → m ≤ moves_of c w)
    → v < length network → Has v us ⊎ (t ≤ moves_of c v) → t ≤ moves_of (after_turns network stop c us) v
turns-rise network stop m t [] c v net shape more most all h has = ⊎_elim (λ x. absurd x) (λ x. x) has
turns-rise network stop m t (u ∷ us) c v net shape more most all h has =
    let grows = turn-grows network stop c u v shape in
    turns-rise network stop m t us (after_turn network stop c u) v net (turn-shape network stop c u shape) more most
    (λ w l. (let g = turn-grows network stop c u w shape in let a = all w l in omega arith)) h
    (⊎_elim
    (λ x. ⊎_elim (λ e. inr (subst (λ x. t ≤ moves_of (after_turn network stop c x) v) e (turn-rises network stop c v m t net shape h more most all))) (λ y. inl y) x)
    (λ x. inr (omega arith))
    has)

-- the least count rises in a sweep
pub sweep-rises : (network : Neighbours) (stop : ℕ) (c : Counts) (m : ℕ) → IsSimple network → HasShape network c → ((u : ℕ) → u < length network → m ≤ moves_of c u)
    → (u : ℕ) → u < length network → min (m + 1) stop ≤ moves_of (after_turns network stop c (numbers_below (length network))) u
sweep-rises network stop c m net shape all u h =
    turns-rise network stop m (min (m + 1) stop) (numbers_below (length network)) c u net shape (omega arith) (omega arith) all h (inl (has_range 0 (length network) u (omega arith) (omega arith)))

sweeps-shape : (network : Neighbours) (stop s : ℕ) (c : Counts) → HasShape network c → HasShape network (after_sweeps network stop s c)
sweeps-shape network stop zero c shape = shape
sweeps-shape network stop (suc s) c shape = turns-shape network stop (numbers_below (length network)) (after_sweeps network stop s c) (sweeps-shape network stop s c shape)

pub sweeps_rise : SweepsRise
sweeps_rise network start stop zero u net late h = (let e = moves-at_start network start u h in omega arith)
sweeps_rise network start stop (suc s) u net late h =
    let c = after_sweeps network stop s (at_start network start) in
    let r = sweep-rises network stop c (min (start + s) stop) (network_simple network net) (sweeps-shape network stop s (at_start network start) (shape-at_start network start)) (λ v l. sweeps_rise network start stop s v net late l) u h in
    omega arith

-- one turn more, and the turns that are left
pub turns-next : (network : Neighbours) (stop : ℕ) (c : Counts) (i n : ℕ) → i < n
    → after_turns network stop c (range_with_len i (n - i)) ≡ after_turns network stop (after_turn network stop c i) (range_with_len (i + 1) (n - (i + 1)))
turns-next network stop c i n h = (let e : n - i ≡ suc (n - (i + 1)) = omega arith in ap (λ k. after_turns network stop c (range_with_len i k)) e)

pub moves-next : (network : Neighbours) (stop : ℕ) (c : Counts) (i n : ℕ) → i < n
    → moves_in_turns network stop c (range_with_len i (n - i)) ≡ one_if_moved (turn_answer network stop c i) + moves_in_turns network stop (after_turn network stop c i) (range_with_len (i + 1) (n - (i + 1)))
moves-next network stop c i n h = (let e : n - i ≡ suc (n - (i + 1)) = omega arith in ap (λ k. moves_in_turns network stop c (range_with_len i k)) e)

all-false : (bs : List Bool) (row : List (ℕ × ℕ)) → length bs ≡ length row → ((k : ℕ) → get_or bs k false ≡ false) → bs ≡ map (λ (a : ℕ × ℕ). false) row
all-false [] [] l h = refl
all-false [] (a ∷ row) l h = (let e : 0 ≡ suc (length row) = l in absurd (omega arith))
all-false (b ∷ bs) [] l h = (let e : suc (length bs) ≡ 0 = l in absurd (omega arith))
all-false (b ∷ bs) (a ∷ row) l h = ap (λ x. x ∷ bs) (h 0) ∙ ap (λ xs. false ∷ xs) (all-false bs row (omega arith) (λ k. h (suc k)))

-- a node at the stop has no slot marked
bare : (network : Neighbours) (stop : ℕ) (c : Counts) (u : ℕ) → HasShape network c → InStep network stop c → moves_of c u ≡ stop → marks_of c u ≡ map (λ (a : ℕ × ℕ). false) (row network u)
bare network stop c u shape is e =
    all-false (marks_of c u) (row network u) (shape.slots u)
    (λ k. ⊎_elim (λ t. (let l = is.unstopped u k t in absurd (omega arith))) (λ t. t) (cases_bool (is_marked c u k)))

-- where all nodes stand at the stop, the counts are those of a start there
pub counts-at_stop : (network : Neighbours) (stop : ℕ) (c : Counts) → HasShape network c → InStep network stop c → ((u : ℕ) → u < length network → moves_of c u ≡ stop) → c ≡ at_start network stop
counts-at_stop network stop c shape is all =
    let moves : c.moves ≡ (at_start network stop).moves =
    ext_get_or 0 c.moves (at_start network stop).moves (shape.moves ∙ sym (length-map network (λ (r : List (ℕ × ℕ)). stop)))
    (λ u h. (let inside : u < length network = omega (arith, h, shape.moves) in all u inside ∙ sym (moves-at_start network stop u inside))) in
    let marks : c.marks ≡ (at_start network stop).marks =
    ext_get_or [] c.marks (at_start network stop).marks (shape.marks ∙ sym (length-map network (λ (r : List (ℕ × ℕ)). map (λ (a : ℕ × ℕ). false) r)))
    (λ u h. (let inside : u < length network = omega (arith, h, shape.marks) in
    bare network stop c u shape is (all u inside) ∙ sym (get_or-map_each (λ (r : List (ℕ × ℕ)). map (λ (a : ℕ × ℕ). false) r) network u []))) in
    let made : List ℕ → List (List Bool) → Counts = λ ms ks. record { moves = ms; marks = ks } in
    ap (λ ms. made ms c.marks) moves ∙ ap (made (at_start network stop).moves) marks

sum-plus : (f g h : ℕ → ℕ) (a n : ℕ) → ((v : ℕ) → a ≤ v → v < a + n → f v + g v ≡ h v) → sum_by f (range_with_len a n) + sum_by g (range_with_len a n) ≡ sum_by h (range_with_len a n)
sum-plus f g h a zero e = refl
sum-plus f g h a (suc n) e =
    let r = sum-plus f g h (a + 1) n (λ v l m. e v (omega arith) (omega arith)) in
    let x = sum_by-cons f a (range_with_len (a + 1) n) in
    let y = sum_by-cons g a (range_with_len (a + 1) n) in
    let z = sum_by-cons h a (range_with_len (a + 1) n) in
    let o = e a (omega arith) (omega arith) in
    omega arith

times-plus : (m d k : ℕ) → (m + d) * k ≡ m * k + d * k
times-plus m d k = grind arith

times-most : (d k : ℕ) → k ≤ suc d * k
times-most d k = grind arith

-- the marks of a node are no more than what it has left
marks-left : (d k r : ℕ) → (d ≡ 0 → r ≡ 0) → r ≤ k → r ≤ d * k
marks-left zero k r none h = (let e = none refl in omega arith)
marks-left (suc d) k r none h = (let e = times-most d k in omega arith)

-- what is done and what is left
pub done-left : (network : Neighbours) (stop : ℕ) (c : Counts) → HasShape network c → InStep network stop c → steps_done network c + steps_left network stop c ≡ steps_done network (at_start network stop)
done-left network stop c shape is =
    sum-plus (done_at network c) (left_at network stop c) (done_at network (at_start network stop)) 0 (length network)
    (λ u l h.
    let inside : u < length network = omega arith in
    let m = moves_of c u in
    let k = degree network u + 1 in
    let r = marks_in (marks_of c u) in
    let d = stop - m in
    let most = is.within u in
    let whole : m + d ≡ stop = omega arith in
    let slots = shape.slots u in
    let few = marks-most (marks_of c u) in
    let none : d ≡ 0 → r ≡ 0 = λ e. ap marks_in (bare network stop c u shape is (omega arith)) ∙ marks-none (row network u) in
    let left = marks-left d k r none (omega arith) in
    let product : stop * k ≡ m * k + d * k = ap (λ (x : ℕ). x * k) (sym whole) ∙ times-plus m d k in
    let then : done_at network (at_start network stop) u ≡ stop * k =
    (let a = moves-at_start network stop u inside in
    let b = ap marks_in (get_or-map_each (λ (r : List (ℕ × ℕ)). map (λ (a : ℕ × ℕ). false) r) network u []) ∙ marks-none (row network u) in
    let e = ap (λ (x : ℕ). x * k) a in
    omega arith) in
    omega arith)
