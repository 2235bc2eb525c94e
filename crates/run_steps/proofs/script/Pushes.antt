-- Steps that are put after others.
use Rattle.std.proofs.Common.{◌≡◌, ℕ, zero, suc, ◌+◌, ◌-◌, ◌*◌, ◌<◌, ◌≤◌, true, false, List, [], ◌∷◌, ◌++◌, length, map, take, drop, nat_le, append_assoc, append-nil, length-append, subst, sym, refl, ap, ◌∙◌, Ok, Err, arith}
use Rattle.std.specs.List.{range_with_len, flat_map, repeat, slice_range}
use Rattle.std.proofs.lemmas.Bool.Decides.{nat_tests}
use Rattle.std.proofs.lemmas.List.{take-append-le, drop-append-le, length-drop, take_all}
use Rattle.std.proofs.Math.ListN.{drop_of_length-le}
use Rattle.unison_world.specs.declared.step.Step.{Step}
use Rattle.unison_world.specs.declared.step.Step.TheVariants.{Read, Write}
use Rattle.link_net.specs.Neighbours.{Neighbours, degree}
use Rattle.std.proofs.lemmas.List.FromFn.{length-map-range_with_len}
use Rattle.run_steps.specs.script.Texts.{reads_of, turn_of}
use Rattle.unison_trace.specs.Histories.{most_steps}
use Rattle.run_steps.specs.declared.script.open_repeat.OpenRepeat.{OpenRepeat}
use Rattle.run_steps.specs.declared.script.fault.StepTextFault.{StepTextFault}
use Rattle.run_steps.specs.declared.script.fault.StepTextFault.TheVariants.{TooManySteps}
use Rattle.run_steps.specs.script.Runs.{few_steps, repeated}
use Rattle.run_steps.proofs.script.Readings.{few-ok, few-err}

-- ---- lists that grow by one

range-push : (a n : ℕ) → range_with_len a (suc n) ≡ range_with_len a n ++ (a + n) ∷ []
range-push a zero = (let e : a + 0 ≡ a = omega arith in ap (λ x. x ∷ []) (sym e))
range-push a (suc n) = (let e : (a + 1) + n ≡ a + suc n = omega arith in ap (λ xs. a ∷ xs) (range-push (a + 1) n ∙ ap (λ x. range_with_len (a + 1) n ++ x ∷ []) e))

range-next : (i : ℕ) → range_with_len 0 (i + 1) ≡ range_with_len 0 i ++ i ∷ []
range-next i =
    let e : i + 1 ≡ suc i = omega arith in
    let z : 0 + i ≡ i = omega arith in
    ap (range_with_len 0) e ∙ range-push 0 i ∙ ap (λ x. range_with_len 0 i ++ x ∷ []) z

map-snoc : {X Y : Type 0} (f : X → Y) (xs : List X) (x : X) → map f (xs ++ x ∷ []) ≡ map f xs ++ f x ∷ []
map-snoc f [] x = refl
map-snoc f (y ∷ xs) x = ap (λ ys. f y ∷ ys) (map-snoc f xs x)

-- one slot more
pub reads-push : (first ss tt : List Step) (u i : ℕ) → ss ≡ first ++ map (λ j. Read u j) (range_with_len 0 i) → tt ≡ ss ++ Read u i ∷ [] → tt ≡ first ++ map (λ j. Read u j) (range_with_len 0 (i + 1))
reads-push first ss tt u i is push =
    push ∙ ap (λ xs. xs ++ Read u i ∷ []) is ∙ append_assoc first (map (λ j. Read u j) (range_with_len 0 i)) (Read u i ∷ [])
    ∙ ap (λ xs. first ++ xs) (sym (ap (map (λ j. Read u j)) (range-next i) ∙ map-snoc (λ j. Read u j) (range_with_len 0 i) i))

flat_map-snoc : {X Y : Type 0} (f : X → List Y) (xs : List X) (x : X) → flat_map f (xs ++ x ∷ []) ≡ flat_map f xs ++ f x
flat_map-snoc f [] x = append-nil (f x)
flat_map-snoc f (y ∷ xs) x = ap (λ ys. f y ++ ys) (flat_map-snoc f xs x) ∙ sym (append_assoc (f y) (flat_map f xs) (f x))

-- one node more
turns-push : (f : ℕ → List Step) (i : ℕ) → flat_map f (range_with_len 0 i) ++ f i ≡ flat_map f (range_with_len 0 (i + 1))
turns-push f i = sym (ap (flat_map f) (range-next i) ∙ flat_map-snoc f (range_with_len 0 i) i)

repeat-push : {X : Type 0} (m : ℕ) (xs : List X) → repeat m xs ++ xs ≡ repeat (suc m) xs
repeat-push zero xs = sym (append-nil xs)
repeat-push (suc m) xs = append_assoc xs (repeat m xs) xs ∙ ap (λ ys. xs ++ ys) (repeat-push m xs)

repeat-nil : {X : Type 0} (m : ℕ) (xs : List X) → xs ≡ [] → repeat m xs ≡ []
repeat-nil zero xs none = refl
repeat-nil (suc m) xs none = ap (λ ys. ys ++ repeat m xs) none ∙ repeat-nil m xs none

-- ---- a part that comes again

range-front : (xs ys : List Step) (a b : ℕ) → a ≤ b → b ≤ length xs → slice_range (xs ++ ys) a b ≡ slice_range xs a b
range-front xs ys a b low high =
    let l = length-drop a xs in
    ap (take (b - a)) (drop-append-le a xs ys (omega arith)) ∙ take-append-le (b - a) (drop a xs) ys (omega arith)

-- once more
pub again-push : (first ss tt : List Step) (a b i : ℕ) → a ≤ b → b ≤ length first → ss ≡ first ++ repeat i (slice_range first a b) → tt ≡ ss ++ slice_range ss a b → tt ≡ first ++ repeat (i + 1) (slice_range first a b)
again-push first ss tt a b i low high is push =
    let part = slice_range first a b in
    let e : suc i ≡ i + 1 = omega arith in
    push
    ∙ ap (λ xs. xs ++ slice_range xs a b) is
    ∙ ap (λ xs. (first ++ repeat i part) ++ xs) (range-front first (repeat i part) a b low high)
    ∙ append_assoc first (repeat i part) part
    ∙ ap (λ xs. first ++ xs) (repeat-push i part)
    ∙ ap (λ n. first ++ repeat n part) e

-- up to the end
range-end : (ss : List Step) (a : ℕ) → slice_range ss a (length ss) ≡ drop a ss
range-end ss a = (let l = length-drop a ss in take_all (length ss - a) (drop a ss) (omega arith))

pub repeated-whole : (ss tt : List Step) (last : OpenRepeat) (end : ℕ) → end ≡ length ss → tt ≡ ss ++ repeat last.again (slice_range ss last.start end) → repeated ss last ≡ tt
repeated-whole ss tt last end is put = sym (put ∙ ap (λ n. ss ++ repeat last.again (slice_range ss last.start n)) is ∙ ap (λ xs. ss ++ repeat last.again xs) (range-end ss last.start))

-- nothing comes again
pub repeated-none : (ss : List Step) (last : OpenRepeat) → length ss ≤ last.start → repeated ss last ≡ ss
repeated-none ss last past = ap (λ xs. ss ++ xs) (repeat-nil last.again (drop last.start ss) (drop_of_length-le ss past)) ∙ append-nil ss

length-repeat : {X : Type 0} (n : ℕ) (xs : List X) → length (repeat n xs) ≡ n * length xs
length-repeat zero xs = omega arith
length-repeat (suc n) xs = (let ih = length-repeat n xs in let e = length-append xs (repeat n xs) in omega arith)

-- how many steps there are then
pub repeated-length : (ss : List Step) (last : OpenRepeat) → length (repeated ss last) ≡ length ss + last.again * (length ss - last.start)
repeated-length ss last =
    length-append ss (repeat last.again (drop last.start ss))
    ∙ ap (λ n. length ss + n) (length-repeat last.again (drop last.start ss) ∙ ap (λ n. last.again * n) (length-drop last.start ss))

-- ---- steps that are few, and those that are too many

pub few-put : (line : ℕ) (all ss : List Step) → ss ≡ all → length ss ≤ most_steps → few_steps line all ≡ Ok ss
few-put line all ss is few =
    let same : length ss ≡ length all = ap length is in
    let t : nat_le (length all) most_steps ≡ true = grind (arith, nat_tests) in
    rw t (ap Ok (sym is))

pub many-put : (line : ℕ) (all : List Step) (fault : StepTextFault) → fault ≡ TooManySteps line → most_steps < length all → few_steps line all ≡ Err fault
many-put line all fault is many =
    let t : nat_le (length all) most_steps ≡ false = grind (arith, nat_tests) in
    rw t (ap Err (sym is))

pub length-reads : (network : Neighbours) (ss : List Step) (u : ℕ) → length (ss ++ reads_of network u) ≡ length ss + degree network u
length-reads network ss u = length-append ss (reads_of network u) ∙ ap (λ n. length ss + n) (length-map-range_with_len (λ j. Read u j) 0 (degree network u))

pub length-turn : (network : Neighbours) (ss : List Step) (u : ℕ) → length (ss ++ turn_of network u) ≡ length ss + (degree network u + 1)
length-turn network ss u =
    let e = length-append ss (turn_of network u) in
    let f = length-append (reads_of network u) (Write u ∷ []) in
    let g = length-map-range_with_len (λ j. Read u j) 0 (degree network u) in
    omega arith

-- ---- sweeps

longer : (f : ℕ → List Step) (i k : ℕ) → length (flat_map f (range_with_len 0 i)) ≤ length (flat_map f (range_with_len 0 (i + k)))
longer f i zero = (let e : i + 0 ≡ i = omega arith in let same = ap (λ n. length (flat_map f (range_with_len 0 n))) e in omega arith)
longer f i (suc k) =
    let ih = longer f i k in
    let e : (i + k) + 1 ≡ i + suc k = omega arith in
    let push = ap length (turns-push f (i + k) ∙ ap (λ n. flat_map f (range_with_len 0 n)) e) in
    let both = length-append (flat_map f (range_with_len 0 (i + k))) (f (i + k)) in
    omega arith

-- the steps of a node that are too many are so with those of all nodes
pub sweep-many : (line : ℕ) (first ss : List Step) (f : ℕ → List Step) (i n : ℕ) (fault : StepTextFault) → i < n → ss ≡ first ++ flat_map f (range_with_len 0 i) → few_steps line (ss ++ f i) ≡ Err fault → few_steps line (first ++ flat_map f (range_with_len 0 n)) ≡ Err fault
sweep-many line first ss f i n fault low is stops =
    let many = few-err line (ss ++ f i) fault stops in
    let k = n - (i + 1) in
    let e : (i + 1) + k ≡ n = omega arith in
    let more = longer f (i + 1) k in
    let same = ap (λ m. length (flat_map f (range_with_len 0 m))) e in
    let push = ap length (turns-push f i) in
    let a = length-append ss (f i) in
    let b = length-append first (flat_map f (range_with_len 0 i)) in
    let c = ap length is in
    let d = length-append (flat_map f (range_with_len 0 i)) (f i) in
    let g = length-append first (flat_map f (range_with_len 0 n)) in
    let long = many.1 in
    many-put line (first ++ flat_map f (range_with_len 0 n)) fault (sym many.0) (omega arith)

-- the steps of one node more
pub sweep-more : (line : ℕ) (first ss tt : List Step) (f : ℕ → List Step) (i : ℕ) → ss ≡ first ++ flat_map f (range_with_len 0 i) → few_steps line (ss ++ f i) ≡ Ok tt → (tt ≡ first ++ flat_map f (range_with_len 0 (i + 1))) × (length tt ≤ most_steps)
sweep-more line first ss tt f i is put =
    let few = few-ok line (ss ++ f i) tt put in (
      sym few.0 ∙ ap (λ xs. xs ++ f i) is ∙ append_assoc first (flat_map f (range_with_len 0 i)) (f i) ∙ ap (λ xs. first ++ xs) (turns-push f i),
      subst (λ (xs : List Step). length xs ≤ most_steps) few.0 few.1,
    )
