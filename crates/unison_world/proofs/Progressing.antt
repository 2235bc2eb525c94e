-- Each changing step counts one.
use Rattle.std.proofs.Common.{◌≡◌, ◌≢◌, ℕ, zero, suc, ◌+◌, ◌*◌, ◌<◌, ◌≤◌, Bool, true, false, cond, List, [], ◌∷◌, length, map, set, get_or, sym, refl, ap, ◌∙◌, ⊎_elim, arith}
use Rattle.std.specs.List.{range_with_len, sum_by}
use Rattle.std.proofs.lemmas.List.{get_or-set_same, get_or-set_other}
use Rattle.std.proofs.lemmas.List.Sums.{sum_by-cons}
use Rattle.std.proofs.lemmas.Bool.{cases_eq, false≢true}
use Rattle.std.proofs.lemmas.Bool.Decides.{nat_tests}
use Rattle.link_net.specs.Neighbours.{Neighbours, degree}
use Rattle.unison_world.specs.declared.step.Step.{Step}
use Rattle.unison_world.specs.declared.step.Step.TheVariants.{Read, Write}
use Rattle.unison_world.specs.declared.step.Answer.{Answer}
use Rattle.unison_world.specs.declared.step.Answer.TheVariants.{Taken, Moved}
use Rattle.unison_world.specs.Counting.{Counts, moves_of, marks_of, is_marked, answer_of, change, marked, moved, after, answers, HasShape}
use Rattle.unison_world.specs.Progress.{marks_in, done_at, steps_done, one_if_changed, CountsChanges}
use Rattle.unison_world.proofs.Steps.{answer-taken, answer-moved, all_marked_tells, shape-after}

marks-cons : (b : Bool) (bs : List Bool) → marks_in (b ∷ bs) ≡ cond b 1 0 + marks_in bs
marks-cons b bs = sum_by-cons (λ (x : Bool). cond x 1 0) b bs

marks-set : (bs : List Bool) (j : ℕ) → j < length bs → get_or bs j false ≡ false → marks_in (set bs j true) ≡ marks_in bs + 1
marks-set [] j h e = absurd (omega arith)
marks-set (true ∷ bs) zero h e = absurd (false≢true (sym e))
marks-set (false ∷ bs) zero h e = (let a = marks-cons true bs in let b = marks-cons false bs in omega arith)
marks-set (b ∷ bs) (suc j) h e = (let r = marks-set bs j (omega arith) e in let a = marks-cons b (set bs j true) in let d = marks-cons b bs in omega arith)

pub marks-none : {X : Type 0} (xs : List X) → marks_in (map (λ (x : X). false) xs) ≡ 0
marks-none [] = refl
marks-none (x ∷ xs) = (let r = marks-none xs in let a = marks-cons false (map (λ x. false) xs) in omega arith)

marks-all : (bs : List Bool) → ((k : ℕ) → k < length bs → get_or bs k false ≡ true) → marks_in bs ≡ length bs
marks-all [] h = refl
marks-all (true ∷ bs) h = (let r = marks-all bs (λ k l. h (suc k) (omega arith)) in let a = marks-cons true bs in omega arith)
marks-all (false ∷ bs) h = absurd (false≢true (h 0 (omega arith)))

pub marks-most : (bs : List Bool) → marks_in bs ≤ length bs
marks-most [] = omega arith
marks-most (true ∷ bs) = (let r = marks-most bs in let a = marks-cons true bs in omega arith)
marks-most (false ∷ bs) = (let r = marks-most bs in let a = marks-cons false bs in omega arith)

sum-same : (f g : ℕ → ℕ) (a n : ℕ) → ((v : ℕ) → a ≤ v → g v ≡ f v) → sum_by g (range_with_len a n) ≡ sum_by f (range_with_len a n)
sum-same f g a zero h = refl
sum-same f g a (suc n) h =
    let r = sum-same f g (a + 1) n (λ v l. h v (omega arith)) in
    let x = sum_by-cons f a (range_with_len (a + 1) n) in
    let y = sum_by-cons g a (range_with_len (a + 1) n) in
    let z = h a (omega arith) in
    omega arith

-- one item more by k
sum-one : (f g : ℕ → ℕ) (a n u k : ℕ) → a ≤ u → u < a + n → ((v : ℕ) → v ≢ u → g v ≡ f v) → g u ≡ f u + k → sum_by g (range_with_len a n) ≡ sum_by f (range_with_len a n) + k
sum-one f g a zero u k low high h e = absurd (omega arith)
sum-one f g a (suc n) u k low high h e =
    let x = sum_by-cons f a (range_with_len (a + 1) n) in
    let y = sum_by-cons g a (range_with_len (a + 1) n) in
    ⊎_elim
    (λ s.
    let r = sum-same f g (a + 1) n (λ v l. h v (λ t. (let o : v ≡ u = t in absurd (omega arith)))) in
    let z : g a ≡ f a + k = rw s at e in
    omega arith)
    (λ s.
    let lower : a + 1 ≤ u = omega arith in
    let r = sum-one f g (a + 1) n u k lower (omega arith) h e in
    let z = h a (λ t. s (sym t)) in
    omega arith)
    (cases_eq u a)

pub done-marked : (network : Neighbours) (c : Counts) (u j : ℕ) → HasShape network c → u < length network → j < degree network u → is_marked c u j ≡ false → steps_done network (marked c u j) ≡ steps_done network c + 1
done-marked network c u j shape h l e =
    let has : u < length c.marks = (let s = shape.marks in omega arith) in
    let slot : j < length (marks_of c u) = (let s = shape.slots u in omega arith) in
    sum-one (done_at network c) (done_at network (marked c u j)) 0 (length network) u 1 (omega arith) (omega arith)
    (λ v n. ap (λ (bs : List Bool). moves_of c v * (degree network v + 1) + marks_in bs) (get_or-set_other c.marks u v (set (marks_of c u) j true) [] n))
    (let m = ap marks_in (get_or-set_same c.marks u (set (marks_of c u) j true) [] has) ∙ marks-set (marks_of c u) j slot e in omega arith)

times-more : (m k : ℕ) → (m + 1) * k ≡ m * k + k
times-more m k = grind arith

pub done-moved : (network : Neighbours) (c : Counts) (u : ℕ) → HasShape network c → u < length network → ((k : ℕ) → k < degree network u → is_marked c u k ≡ true) → steps_done network (moved c u) ≡ steps_done network c + 1
done-moved network c u shape h all =
    let has : u < length c.marks = (let s = shape.marks in omega arith) in
    let counts : u < length c.moves = (let s = shape.moves in omega arith) in
    let d = degree network u in
    let m = moves_of c u in
    let slots = shape.slots u in
    sum-one (done_at network c) (done_at network (moved c u)) 0 (length network) u 1 (omega arith) (omega arith)
    (λ v n. ap (λ (t : ℕ). t * (degree network v + 1) + marks_in (marks_of (moved c u) v)) (get_or-set_other c.moves u v (m + 1) 0 n)
    ∙ ap (λ (bs : List Bool). moves_of c v * (degree network v + 1) + marks_in bs) (get_or-set_other c.marks u v (map (λ _. false) (marks_of c u)) [] n))
    (let full : marks_in (marks_of c u) ≡ d = marks-all (marks_of c u) (λ k l. all k (omega arith)) ∙ slots in
    let none : marks_in (marks_of (moved c u) u) ≡ 0 = ap marks_in (get_or-set_same c.marks u (map (λ _. false) (marks_of c u)) [] has) ∙ marks-none (marks_of c u) in
    let more : moves_of (moved c u) u ≡ m + 1 = get_or-set_same c.moves u (m + 1) 0 counts in
    let product = ap (λ (t : ℕ). t * (d + 1)) more ∙ times-more m (d + 1) in
    omega arith)

answer-fresh : (network : Neighbours) (stop : ℕ) (c : Counts) (u j : ℕ) → answer_of network stop c (Read u j) ≡ Taken → is_marked c u j ≡ false
answer-fresh network stop c u j e = grind (arith, nat_tests)

read-moves_not : (network : Neighbours) (stop : ℕ) (c : Counts) (u j : ℕ) → answer_of network stop c (Read u j) ≡ Moved → ⊥
read-moves_not network stop c u j e = grind (arith, nat_tests)

write-takes_not : (network : Neighbours) (stop : ℕ) (c : Counts) (u : ℕ) → answer_of network stop c (Write u) ≡ Taken → ⊥
write-takes_not network stop c u e = grind (arith, nat_tests)

plus-none : (n : ℕ) → n ≡ n + 0
plus-none n = omega arith

-- one step
pub done-after : (network : Neighbours) (stop : ℕ) (c : Counts) (step : Step) → HasShape network c → steps_done network (after network stop c step) ≡ steps_done network c + one_if_changed (answer_of network stop c step)
done-after network stop c (Read u j) shape =
    let cases : (a : Answer) → answer_of network stop c (Read u j) ≡ a → steps_done network (change c (Read u j) a) ≡ steps_done network c + one_if_changed a =
    λ a. elim a as (λ a. answer_of network stop c (Read u j) ≡ a → steps_done network (change c (Read u j) a) ≡ steps_done network c + one_if_changed a) [
      | Taken ↦ λ e. (let t = answer-taken network stop c u j e in done-marked network c u j shape t.0 t.1 (answer-fresh network stop c u j e))
      | Moved ↦ λ e. absurd (read-moves_not network stop c u j e)
      | _ ↦ λ e. plus-none (steps_done network c)
    ]
    in cases (answer_of network stop c (Read u j)) refl
done-after network stop c (Write u) shape =
    let cases : (a : Answer) → answer_of network stop c (Write u) ≡ a → steps_done network (change c (Write u) a) ≡ steps_done network c + one_if_changed a =
    λ a. elim a as (λ a. answer_of network stop c (Write u) ≡ a → steps_done network (change c (Write u) a) ≡ steps_done network c + one_if_changed a) [
      | Moved ↦ λ e. (let t = answer-moved network stop c u e in done-moved network c u shape t.0 (all_marked_tells c u (degree network u) t.2))
      | Taken ↦ λ e. absurd (write-takes_not network stop c u e)
      | _ ↦ λ e. plus-none (steps_done network c)
    ]
    in cases (answer_of network stop c (Write u)) refl

-- a list of steps
pub counts_changes : CountsChanges
counts_changes network stop c [] shape = plus-none (steps_done network c)
counts_changes network stop c (step ∷ steps) shape =
    let r = counts_changes network stop (after network stop c step) steps (shape-after network stop c step shape) in
    let a = done-after network stop c step shape in
    let s = sum_by-cons one_if_changed (answer_of network stop c step) (answers network stop (after network stop c step) steps) in
    omega arith
