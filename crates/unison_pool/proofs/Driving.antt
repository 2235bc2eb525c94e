-- What is left of a part, and passes over its nodes.
use Rattle.std.proofs.Common.{◌≡◌, ℕ, suc, add-zero, ◌+◌, ◌-◌, ◌<◌, ◌≤◌, All, List, [], ◌∷◌, ◌++◌, Bool, true, false, cond, sym, ap, ◌∙◌, refl, subst, arith, append_assoc, append-nil, drop, get_or, get_or-drop, length, length-drop, map, set, take}
use Rattle.std.specs.List.{filter, range_with_len}
use Rattle.std.proofs.lemmas.List.{map-append, take_more, take_all, drop-set-lt, drop-drop}
use Rattle.std.proofs.lemmas.List.Elements.{All-push}
use Rattle.unison_pool.specs.declared.worker.Driven.{Driven}
use Rattle.unison_pool.specs.declared.worker.Pass.{Pass}
use Rattle.unison_pool.specs.declared.worker.Pass.TheVariants.{Ended, Idle, Moved}
use Rattle.unison_pool.specs.Parts.{both}

-- a number that fits is the first of those that are left
pub left-yes : (p : ℕ → Bool) (done whole : List ℕ) (i n : ℕ) → i < n → p i ≡ true → done ++ filter p (range_with_len i (n - i)) ≡ whole → (done ++ i ∷ []) ++ filter p (range_with_len (i + 1) (n - (i + 1))) ≡ whole
left-yes p done whole i n inside fits left =
    let rest = filter p (range_with_len (i + 1) (n - (i + 1))) in
    let count : n - i ≡ suc (n - (i + 1)) = omega arith in
    let next : filter p (range_with_len i (n - i)) ≡ i ∷ rest = ap (λ k. filter p (range_with_len i k)) count ∙ ap (λ b. cond b (i ∷ rest) rest) fits in
    append_assoc done (i ∷ []) rest ∙ ap (λ t. done ++ t) (sym next) ∙ left

-- one that doesn't is not
pub left-no : (p : ℕ → Bool) (done whole : List ℕ) (i n : ℕ) → i < n → p i ≡ false → done ++ filter p (range_with_len i (n - i)) ≡ whole → done ++ filter p (range_with_len (i + 1) (n - (i + 1))) ≡ whole
left-no p done whole i n inside misses left =
    let rest = filter p (range_with_len (i + 1) (n - (i + 1))) in
    let count : n - i ≡ suc (n - (i + 1)) = omega arith in
    let next : filter p (range_with_len i (n - i)) ≡ rest = ap (λ k. filter p (range_with_len i k)) count ∙ ap (λ b. cond b (i ∷ rest) rest) misses in
    ap (λ t. done ++ t) (sym next) ∙ left

-- a node more that is the worker's
pub one-more : (p : ℕ → Bool) (nodes more : List Driven) (whole : List ℕ) (i n m : ℕ) → more ≡ nodes ++ record { node = i; moves = m } ∷ [] → i < n → p i ≡ true
    → map (λ d. d.node) nodes ++ filter p (range_with_len i (n - i)) ≡ whole → map (λ d. d.node) more ++ filter p (range_with_len (i + 1) (n - (i + 1))) ≡ whole
one-more p nodes more whole i n m is inside fits left =
    let pushed : map (λ d. d.node) more ≡ map (λ d. d.node) nodes ++ i ∷ [] = ap (map (λ d. d.node)) is ∙ map-append (λ (d : Driven). d.node) nodes (record { node = i; moves = m } ∷ []) in
    ap (λ t. t ++ filter p (range_with_len (i + 1) (n - (i + 1)))) pushed ∙ left-yes p (map (λ d. d.node) nodes) whole i n inside fits left

-- it is at the start like the others
pub at-start-more : (start i : ℕ) (nodes more : List Driven) → more ≡ nodes ++ record { node = i; moves = start } ∷ [] → All (λ (d : Driven). d.moves ≡ start) nodes → All (λ (d : Driven). d.moves ≡ start) more
at-start-more start i nodes more is each = subst (All (λ (d : Driven). d.moves ≡ start)) (sym is) (All-push (λ (d : Driven). d.moves ≡ start) nodes (record { node = i; moves = start }) each refl)

-- none is left at the end
pub left-none : (p : ℕ → Bool) (done whole : List ℕ) (i n : ℕ) → n ≤ i → done ++ filter p (range_with_len i (n - i)) ≡ whole → done ≡ whole
left-none p done whole i n end left =
    let none : n - i ≡ 0 = omega arith in
    sym (append-nil done) ∙ ap (λ k. done ++ filter p (range_with_len i k)) (sym none) ∙ left

-- one node more that stands at the stop
pub pass-more : (P : Driven → Type 0) (old items : List Driven) (i : ℕ) (d : Driven) → i < length items → drop i items ≡ drop i old → P (get_or items i d) → All P (take i old) → All P (take (i + 1) old)
pass-more P old items i d inside same here each =
    let long = ap length same in
    let inside_old : i < length old = omega (arith, length-drop {A = Driven} i items, length-drop {A = Driven} i old) in
    let at : (l : List Driven) → get_or (drop i l) 0 d ≡ get_or l i d = λ l. get_or-drop i l 0 d ∙ ap (λ k. get_or l k d) (add-zero i) in
    let first : get_or items i d ≡ get_or old i d = sym (at items) ∙ ap (λ l. get_or l 0 d) same ∙ at old in
    subst (All P) (sym (take_more old i d inside_old)) (All-push P (take i old) (get_or old i d) each (subst P first here))

-- the others are as they were
pub pass-others : (old items : List Driven) (i : ℕ) (x : Driven) → drop i items ≡ drop i old → drop (i + 1) (set items i x) ≡ drop (i + 1) old
pass-others old items i x same = drop-set-lt (i + 1) items i x (omega arith) ∙ sym (drop-drop 1 i items) ∙ ap (drop 1) same ∙ drop-drop 1 i old

-- where all stood at the stop in two passes, they did in each
pub both-ended : (a b : Pass) → both a b ≡ Ended → (a ≡ Ended) × (b ≡ Ended)
both-ended Ended Ended e = (refl, refl)
both-ended Ended Idle e = cc
both-ended Ended Moved e = cc
both-ended Idle Ended e = cc
both-ended Idle Idle e = cc
both-ended Idle Moved e = cc
both-ended Moved b e = cc

-- at the end all have been seen
pub pass-all : (P : Driven → Type 0) (old : List Driven) (i : ℕ) → length old ≤ i → All P (take i old) → All P old
pass-all P old i end each = subst (All P) (take_all i old end) each
