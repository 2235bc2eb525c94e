-- The first steps of lists that grow.
use Rattle.std.proofs.Common.{◌≡◌, ℕ, zero, suc, ◌+◌, ◌≤◌, List, [], ◌∷◌, ◌++◌, length, map, take, append_assoc, append-nil, sym, refl, ap, ◌∙◌, ⊎_elim, arith}
use Rattle.std.specs.List.{range_with_len, flat_map, repeat}
use Rattle.std.proofs.lemmas.List.{length-take, take_all, take-take, take-append-le, length-take-le}
use Rattle.std.proofs.lemmas.Bool.{cases_lt}
use Rattle.unison_world.specs.declared.step.Step.{Step}
use Rattle.unison_world.specs.declared.step.Step.TheVariants.{Read}

take-front : {X : Type 0} (n : ℕ) (xs ys : List X) → take n (take n xs ++ ys) ≡ take n (xs ++ ys)
take-front n xs ys =
    ⊎_elim
    (λ h. ap (λ zs. take n (zs ++ ys)) (take_all n xs (omega arith)))
    (λ h.
    let long : length (take n xs) ≡ n = length-take-le n xs h in
    take-append-le n (take n xs) ys (omega arith) ∙ take-take n n xs (omega arith) ∙ sym (take-append-le n xs ys h))
    (cases_lt (length xs) n)

pub front-short : {X : Type 0} (n : ℕ) (xs ys : List X) → ys ≡ take n xs → length ys ≤ n
front-short n xs ys e = (let l = length-take n xs in let m = ap length e in omega arith)

-- the front of a front and more
pub front-more : {X : Type 0} (n : ℕ) (first more last now next : List X) → now ≡ take n (first ++ more) → next ≡ take n (now ++ last) → next ≡ take n (first ++ (more ++ last))
front-more n first more last now next e f =
    f ∙ ap (λ zs. take n (zs ++ last)) e ∙ take-front n (first ++ more) last ∙ ap (take n) (append_assoc first more last)

-- where there are as many as may be, more change nothing
pub front-full : {X : Type 0} (n : ℕ) (xs ys now : List X) → now ≡ take n xs → n ≤ length now → now ≡ take n (xs ++ ys)
front-full n xs ys now e h = (let l = length-take n xs in let m = ap length e in e ∙ sym (take-append-le n xs ys (omega arith)))

range-push : (a n : ℕ) → range_with_len a (suc n) ≡ range_with_len a n ++ (a + n) ∷ []
range-push a zero = (let e : a + 0 ≡ a = omega arith in ap (λ x. x ∷ []) (sym e))
range-push a (suc n) = (let e : (a + 1) + n ≡ a + suc n = omega arith in ap (λ xs. a ∷ xs) (range-push (a + 1) n ∙ ap (λ x. range_with_len (a + 1) n ++ x ∷ []) e))

pub range-next : (i : ℕ) → range_with_len 0 (i + 1) ≡ range_with_len 0 i ++ i ∷ []
range-next i =
    let e : i + 1 ≡ suc i = omega arith in
    let z : 0 + i ≡ i = omega arith in
    ap (range_with_len 0) e ∙ range-push 0 i ∙ ap (λ x. range_with_len 0 i ++ x ∷ []) z

pub map-snoc : {X Y : Type 0} (f : X → Y) (xs : List X) (x : X) → map f (xs ++ x ∷ []) ≡ map f xs ++ f x ∷ []
map-snoc f [] x = refl
map-snoc f (y ∷ xs) x = ap (λ ys. f y ∷ ys) (map-snoc f xs x)

-- one slot more
pub reads-push : (u i : ℕ) → map (λ j. Read u j) (range_with_len 0 i) ++ Read u i ∷ [] ≡ map (λ j. Read u j) (range_with_len 0 (i + 1))
reads-push u i = sym (ap (map (λ j. Read u j)) (range-next i) ∙ map-snoc (λ j. Read u j) (range_with_len 0 i) i)

pub flat_map-snoc : {X Y : Type 0} (f : X → List Y) (xs : List X) (x : X) → flat_map f (xs ++ x ∷ []) ≡ flat_map f xs ++ f x
flat_map-snoc f [] x = append-nil (f x)
flat_map-snoc f (y ∷ xs) x = ap (λ ys. f y ++ ys) (flat_map-snoc f xs x) ∙ sym (append_assoc (f y) (flat_map f xs) (f x))

-- one node more
pub turns-push : (f : ℕ → List Step) (i : ℕ) → flat_map f (range_with_len 0 i) ++ f i ≡ flat_map f (range_with_len 0 (i + 1))
turns-push f i = sym (ap (flat_map f) (range-next i) ∙ flat_map-snoc f (range_with_len 0 i) i)

pub repeat-split : {X : Type 0} (m n : ℕ) (xs : List X) → repeat m xs ++ repeat n xs ≡ repeat (m + n) xs
repeat-split zero n xs = (let e : n ≡ 0 + n = omega arith in ap (λ k. repeat k xs) e)
repeat-split (suc m) n xs =
    let e : suc (m + n) ≡ suc m + n = omega arith in
    append_assoc xs (repeat m xs) (repeat n xs) ∙ ap (λ ys. xs ++ ys) (repeat-split m n xs) ∙ ap (λ k. repeat k xs) e

-- one sweep more
pub repeat-push : {X : Type 0} (m : ℕ) (xs : List X) → repeat m xs ++ xs ≡ repeat (m + 1) xs
repeat-push m xs = ap (λ ys. repeat m xs ++ ys) (sym (append-nil xs)) ∙ repeat-split m 1 xs

-- no sweep
pub repeat-none : {X : Type 0} (n k : ℕ) (xs now : List X) → k ≡ 0 → now ≡ [] → now ≡ take n (repeat k xs)
repeat-none n k xs now e f = f ∙ sym (take_all n [] (omega arith)) ∙ ap (λ m. take n (repeat m xs)) (sym e)

-- all sweeps
pub front-whole : {X : Type 0} (n k m : ℕ) (xs now : List X) → now ≡ take n (repeat k xs) → k ≡ m → now ≡ take n (repeat m xs)
front-whole n k m xs now e f = e ∙ ap (λ i. take n (repeat i xs)) f
