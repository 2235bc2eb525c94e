use Rattle.std.proofs.Common.{◌≡◌, ◌∙◌, ◌++◌, ℕ, List, Some, ap, arith, length, map, slice_get, string_bytes, sym}
use Rattle.std.proofs.lemmas.Result.{on_ok_weaker}
use Rattle.std.specs.List.{flat_map}
use Rattle.rule_check.specs.Value.{names_of}
use Rattle.run_counts.specs.declared.mean_columns.Column.{Column}
use Rattle.run_counts.specs.MeanTables.{cell_of, going_at, number_in, rows_at, runs_cells}
use Rattle.run_counts.specs.Rows.{RowView}
use Rattle.run_counts.specs.Tables.{line_end, line_start}
use Rattle.run_counts.proofs.Means.{counted, going_held, line_is, put_in_turn, put_last, some_first}
use Rattle.run_counts.proofs.mean_table.put_line.Goals as goal

pub put_columns-requires : goal.put_columns-requires
put_columns-requires c =
    let runs = c.args.means.now.runs.now in
    let going = going_at c.args.place runs in
    let rounds_are = c.in_ok-rounds.ensures.rounds in
    let first = sym (ap (λ (xs : List ℕ). slice_get xs 0) (c.deref.ensures.value ∙ rounds_are)) ∙ sym c.in-Some.ensures.value in
    record {
      some = omega (arith, going_held c.args.place runs, counted going, some_first (map (λ (row : RowView). row.round) going) c.in-Some.round.now first);
      few = c.requires.few;
    }

pub returns : goal.returns
returns c =
    let format = c.args.means.now.counting.now.format in
    let head = c.args.means.now.head.now in
    let labels = c.args.means.now.counting.now.names.now in
    let until = c.args.means.now.counting.now.until in
    let names = names_of c.args.means.now.program.now in
    let runs = c.args.means.now.runs.now in
    let going = going_at c.args.place runs in
    let rows = rows_at c.args.place runs in
    let rounds = map (λ (row : RowView). row.round) going in
    let round = c.in-Some.round.now in
    let before = string_bytes c.args.out.now in
    let start = line_start format head round in
    let cells = flat_map (λ (column : Column). cell_of format labels names column (map (number_in column.source) rows)) c.args.means.now.columns.now in
    let last = c.end_of.result.now in
    let total = length runs in
    let number = c.len-going.result in
    let rounds_are : c.in_ok-rounds.rounds.items ≡ rounds = c.in_ok-rounds.ensures.rounds in
    let first : slice_get rounds 0 ≡ Some round = sym (ap (λ (xs : List ℕ). slice_get xs 0) (c.deref.ensures.value ∙ rounds_are)) ∙ sym c.in-Some.ensures.value in
    let number_is : number ≡ length rounds = omega (arith, c.len-going.ensures, c.in_ok-rounds.rounds.ok.0, ap length rounds_are) in
    let counts = runs_cells format until total number in
    let put : string_bytes c.put_columns.new.out ≡ ((before ++ start) ++ counts) ++ cells =
    c.in_ok-put_columns.ensures.text
    ∙ ap (λ (text : List ℕ). text ++ cells) (c.in_ok-put_runs.ensures.text ∙ ap (λ (text : List ℕ). text ++ counts) c.in_ok-put_start.ensures.text) in
    let line : before ++ (start ++ (counts ++ (cells ++ last))) ≡ before ++ (start ++ (runs_cells format until (length runs) (length rounds) ++ (cells ++ line_end format))) =
    ap (λ (text : List ℕ). before ++ (start ++ (counts ++ (cells ++ text)))) c.end_of.ensures.text
    ∙ ap (λ (n : ℕ). before ++ (start ++ (runs_cells format until total n ++ (cells ++ line_end format)))) number_is in
    record {
      text =
          on_ok_weaker c.push_str.result
          (λ (is : string_bytes c.push_str.new.self ≡ string_bytes c.put_columns.new.out ++ last).
          is
          ∙ ap (λ (text : List ℕ). text ++ last) put
          ∙ put_in_turn before start counts cells last
          ∙ line
          ∙ sym (ap (λ (text : List ℕ). before ++ text) (line_is format head labels names c.args.means.now.columns.now until (length runs) going rows round first)))
          (put_last c.push_str.result (string_bytes c.put_columns.new.out) last (string_bytes c.push_str.new.self) c.push_str.ensures.bytes);
    }
