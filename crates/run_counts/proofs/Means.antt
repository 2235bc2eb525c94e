-- Lines of means.
use Rattle.std.proofs.Common.{◌≡◌, ◌∙◌, ◌≤◌, ◌-◌, ◌++◌, ℕ, zero, suc, List, [], ◌∷◌, Global, String, Bool, true, false, if◌then◌else◌, Option, Some, None, Result, Ok, Err, OnOk, All, ap, append_assoc, arith, inl, inr, is_ok, length, length-append, map, min, refl, subst, sym}
use Rattle.std.proofs.lemmas.Option.{slice_get_cases}
use Rattle.std.specs.List.{flat_map}
use Rattle.std.specs.Option.{option_or, option_to_list}
use Rattle.std.specs.Prelude.{slice_get}
use Rattle.run_watch.specs.declared.fault.WatchFault.{WatchFault}
use Rattle.run_watch.specs.Spans.{SpanView}
use Rattle.run_counts.specs.declared.asked.CountFormat.{CountFormat}
use Rattle.run_counts.specs.declared.asked.Counting.{Counting}
use Rattle.run_counts.specs.declared.ensemble.Variant.{Variant}
use Rattle.run_counts.specs.declared.mean_columns.Column.{Column}
use Rattle.run_counts.specs.Counts.{refusal_of}
use Rattle.run_counts.specs.Ensembles.{RunView, refusal_in}
use Rattle.run_counts.specs.declared.asked.Until.{Until}
use Rattle.run_counts.specs.MeanTables.{cell_of, going_at, held_row, mean_text, number_in, rows_at, runs_cells}
use Rattle.run_counts.specs.Rows.{RowView}
use Rattle.run_counts.specs.Tables.{line_end, line_start}

pub counted : (rows : List RowView) → length (map (λ (r : RowView). r.round) rows) ≡ length rows
counted [] = refl
counted (r ∷ rows) = ap suc (counted rows)

-- a list that has a first element has one
pub some_first : (xs : List ℕ) (x : ℕ) → slice_get xs 0 ≡ Some x → 1 ≤ length xs
some_first [] x first = let none : None ≡ Some x = first in absurd cc
some_first (y ∷ xs) x first = omega arith

-- what a line of means has after its round
abbrev behind : CountFormat → List (String Global) → List (List ℕ) → List Column → Option Until → ℕ → List RowView → ℕ → List ℕ
behind format labels names columns until total rows n =
    runs_cells format until total n ++ (flat_map (λ (c : Column). cell_of format labels names c (map (number_in c.source) rows)) columns ++ line_end format)

-- the line of a round to which some runs go on, the first of them in this round
pub line_is : (format : CountFormat) (head : List ℕ) (labels : List (String Global)) (names : List (List ℕ)) (columns : List Column) (until : Option Until) (total : ℕ) (going rows : List RowView) (t : ℕ)
    → slice_get (map (λ (r : RowView). r.round) going) 0 ≡ Some t
    → mean_text format head labels names columns until total going rows
    ≡ line_start format head t
    ++ (runs_cells format until total (length (map (λ (r : RowView). r.round) going))
    ++ (flat_map (λ (c : Column). cell_of format labels names c (map (number_in c.source) rows)) columns ++ line_end format))
line_is format head labels names columns until total [] rows t first = let none : None ≡ Some t = first in absurd cc
line_is format head labels names columns until total (row ∷ going) rows t first =
    let some : Some row.round ≡ Some t = first in
    let same : row.round ≡ t = cc in
    ap (λ (r : ℕ). line_start format head r ++ behind format labels names columns until total rows (length (row ∷ going))) same
    ∙ ap (λ (n : ℕ). line_start format head t ++ behind format labels names columns until total rows n) (sym (counted (row ∷ going)))

-- where a run goes on, a row stands for it
held_of : (rows : List RowView) (place : ℕ) → length (option_to_list (slice_get rows place)) ≤ length (option_to_list (held_row place rows))
held_of rows place =
    elim ((slice_get_cases rows place).1) [
      | inl found ↦
          let same : min place (length rows - 1) ≡ place = omega (arith, found.1) in
          subst (λ (k : ℕ). length (option_to_list (slice_get rows place)) ≤ length (option_to_list (slice_get rows k))) (sym same) (omega arith)
      | inr none ↦ subst (λ (o : Option RowView). length (option_to_list o) ≤ length (option_to_list (held_row place rows))) (sym none.1) (omega arith)
    ]

pub going_held : (place : ℕ) (runs : List RunView) → length (going_at place runs) ≤ length (rows_at place runs)
going_held place [] = omega arith
going_held place (run ∷ runs) =
    omega (
      arith,
      held_of run.rows place,
      going_held place runs,
      length-append (option_to_list (slice_get run.rows place)) (going_at place runs),
      length-append (option_to_list (held_row place run.rows)) (rows_at place runs),
    )

neither : (p q : Option WatchFault) → option_or p q ≡ None → (p ≡ None) × (q ≡ None)
neither None q none = (refl, none)
neither (Some f) q none = let some : Some f ≡ None = none in absurd cc

-- where no run is refused, each fits
pub all_fit : (span : SpanView) (counting : Counting) (variants : List Variant) → refusal_in span counting variants ≡ None
    → All (λ (v : Variant). refusal_of v.plan.now span counting ≡ None) variants
all_fit span counting [] none k d inside = absurd (omega (arith, inside))
all_fit span counting (v ∷ variants) none zero d inside = (neither (refusal_of v.plan.now span counting) (refusal_in span counting variants) none).0
all_fit span counting (v ∷ variants) none (suc k) d inside =
    all_fit span counting variants (neither (refusal_of v.plan.now span counting) (refusal_in span counting variants) none).1 k d (omega (arith, inside))

-- parts that are put one after the other are their text
pub put_in_turn : (before a b c d : List ℕ) → (((before ++ a) ++ b) ++ c) ++ d ≡ before ++ (a ++ (b ++ (c ++ d)))
put_in_turn before a b c d = append_assoc ((before ++ a) ++ b) c d ∙ append_assoc (before ++ a) b (c ++ d) ∙ append_assoc before a (b ++ (c ++ d))

-- what is put last stands there, if it is put
pub put_last : {E : Type 0} (r : Result (Unit {0}) E) (before last after : List ℕ) → after ≡ (if is_ok r then before ++ last else before) → OnOk r (after ≡ before ++ last)
put_last (Ok u) before last after is = is
put_last (Err e) before last after is = tt
