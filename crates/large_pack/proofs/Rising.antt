-- Edges whose lines rise, as they are compared.
use Rattle.std.proofs.Common.{◌≡◌, ℕ, ◌+◌, ◌<◌, Bool, true, false, not, List, [], ◌∷◌, ◌++◌, map, nat_lt, refl, arith, inl, inr}
use Rattle.std.proofs.lemmas.Bool.{cases_Bool}
use Rattle.std.specs.List.{filter, slice_split, enumerate_from, AllByRecursion}
use Rattle.import_lines.specs.Texts.{is_line_feed, say_nothing, words_of, told_from}
use Rattle.large_pack.specs.declared.edge_line.EdgeLine.{EdgeLine}
use Rattle.large_pack.specs.declared.options.PackOptions.{PackOptions}
use Rattle.large_pack.specs.declared.options.Parallel.{Parallel}
use Rattle.large_pack.specs.declared.options.Parallel.TheVariants.{Refuse, Keep, Least, Greatest, First as Earliest}
use Rattle.large_pack.specs.declared.ranked.Ranked.{Ranked}
use Rattle.large_pack.specs.Packing.{rank_of, refuses}
use Rattle.large_pack.specs.Ranks.{ends_of, ranked, LinesRise, AreTied, RankedWithin}

-- ---- lines

-- each number is below those after it
abbrev pub Rise : List ℕ → Type 0
Rise [] = Unit {0}
Rise (k ∷ ks) = AllByRecursion (λ j. k < j) ks × Rise ks

abbrev pub numbers : List (ℕ × List ℕ) → List ℕ
numbers lines = map (λ l. l.0) lines

counted_from : (k n : ℕ) (xs : List (List ℕ)) → k < n → AllByRecursion (λ j. k < j) (numbers (enumerate_from n xs))
counted_from k n [] low = tt
counted_from k n (x ∷ xs) low = (low, counted_from k (n + 1) xs (omega arith))

counted_rise : (n : ℕ) (xs : List (List ℕ)) → Rise (numbers (enumerate_from n xs))
counted_rise n [] = tt
counted_rise n (x ∷ xs) = (counted_from n (n + 1) xs (omega arith), counted_rise (n + 1) xs)

later_kept : (k : ℕ) (p : ℕ × List ℕ → Bool) (ls : List (ℕ × List ℕ)) → AllByRecursion (λ j. k < j) (numbers ls) → AllByRecursion (λ j. k < j) (numbers (filter p ls))
later_kept k p [] up = tt
later_kept k p (l ∷ ls) up =
    elim (cases_Bool (p l)) [
      | inl keeps ↦ rw keeps (up.0, later_kept k p ls up.1)
      | inr drops ↦ rw drops (later_kept k p ls up.1)
    ]

rise_kept : (p : ℕ × List ℕ → Bool) (ls : List (ℕ × List ℕ)) → Rise (numbers ls) → Rise (numbers (filter p ls))
rise_kept p [] up = tt
rise_kept p (l ∷ ls) up =
    elim (cases_Bool (p l)) [
      | inl keeps ↦ rw keeps (later_kept l.0 p ls up.0, rise_kept p ls up.1)
      | inr drops ↦ rw drops (rise_kept p ls up.1)
    ]

-- lines that say something
pub told_rise : (n : ℕ) (bytes : List ℕ) → Rise (numbers (told_from n bytes))
told_rise n bytes = rise_kept (λ l. not (say_nothing (words_of l.1))) (enumerate_from n (slice_split is_line_feed bytes)) (counted_rise n (slice_split is_line_feed bytes))

later_lines : (o : PackOptions) (k : ℕ) (es : List EdgeLine) → AllByRecursion (λ j. k < j) (map (λ e. e.line) es) → AllByRecursion (λ (d : Ranked). k < d.line) (map (ranked o) es)
later_lines o k [] up = tt
later_lines o k (e ∷ es) up = (up.0, later_lines o k es up.1)

-- edges of lines that rise
pub lines_rise : (o : PackOptions) (es : List EdgeLine) → Rise (map (λ e. e.line) es) → LinesRise (map (ranked o) es)
lines_rise o [] up = tt
lines_rise o (e ∷ es) up = (later_lines o e.line es up.0, lines_rise o es up.1)

-- the lines of edges
abbrev pub lines_of : List Ranked → List ℕ
lines_of edges = map (λ (e : Ranked). e.line) edges

front_below : (k : ℕ) (xs ys : List ℕ) → AllByRecursion (λ j. k < j) (xs ++ ys) → AllByRecursion (λ j. k < j) xs
front_below k [] ys up = tt
front_below k (x ∷ xs) ys up = (up.0, front_below k xs ys up.1)

front_rises : (xs ys : List ℕ) → Rise (xs ++ ys) → Rise xs
front_rises [] ys up = tt
front_rises (x ∷ xs) ys up = (front_below x xs ys up.0, front_rises xs ys up.1)

edges_below : (k : ℕ) (es : List Ranked) → AllByRecursion (λ j. k < j) (lines_of es) → AllByRecursion (λ (d : Ranked). k < d.line) es
edges_below k [] up = tt
edges_below k (e ∷ es) up = (up.0, edges_below k es up.1)

edges_rise : (es : List Ranked) → Rise (lines_of es) → LinesRise es
edges_rise [] up = tt
edges_rise (e ∷ es) up = (edges_below e.line es up.0, edges_rise es up.1)

-- edges that stand in the first of such lines
pub front_rise : (es : List Ranked) (left all : List (ℕ × List ℕ)) → lines_of es ++ numbers left ≡ numbers all → Rise (numbers all) → LinesRise es
front_rise es left all so_far up = edges_rise es (front_rises (lines_of es) (numbers left) (rw (← so_far) at up))

-- ---- ends

-- both ends are below n
abbrev pub EndsBelow : ℕ → EdgeLine → Type 0
EndsBelow n e = (e.first < n) × (e.second < n)

-- the ends, whichever comes first
pub turned_below : (dir : Bool) (a b n : ℕ) → a < n → b < n → ((ends_of dir a b).0 < n) × ((ends_of dir a b).1 < n)
turned_below true a b n one two = (one, two)
turned_below false a b n one two =
    elim (cases_Bool (nat_lt b a)) [
      | inl less ↦ rw less (two, one)
      | inr more ↦ rw more (one, two)
    ]

-- edges between n nodes
pub ranked_below : (o : PackOptions) (n : ℕ) (es : List EdgeLine) → AllByRecursion (EndsBelow n) es → RankedWithin n (map (ranked o) es)
ranked_below o n [] within = tt
ranked_below o n (e ∷ es) within = (turned_below o.is_directed e.first e.second n within.0.0 within.0.1, ranked_below o n es within.1)

-- ---- ranks

no_rank : (parallel : Parallel) (w : ℕ) → refuses parallel ≡ true → rank_of parallel w ≡ 0
no_rank Refuse w h = refl
no_rank Keep w h = refl
no_rank Earliest w h = refl
no_rank Least w h = cc
no_rank Greatest w h = cc

-- edges none of which is ranked before another
pub all_tied : (o : PackOptions) (es : List EdgeLine) → refuses o.parallel ≡ true → AreTied (map (ranked o) es)
all_tied o [] h = tt
all_tied o (e ∷ es) h = (no_rank o.parallel e.weight h, all_tied o es h)
