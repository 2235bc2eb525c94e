-- The lines of reports.
use Rattle.std.proofs.Common.{◌≡◌, ℕ, suc, ◌+◌, ◌<◌, ◌≤◌, ◌^◌, List, [], ◌∷◌, ◌++◌, length, refl, sym, ap, ◌∙◌, arith, append_assoc, All, codes}
use Rattle.std.specs.Fmt.{decimal}
use Rattle.rule_lang.proofs.Bytes.{digit_bounds}
use Rattle.rule_check.specs.declared.state.State.{State}
use Rattle.report_text.specs.Digits.{IsDigits}
use Rattle.rounds_plan.specs.Configs.{blank}
use Rattle.report_text.specs.Lines.{lines_of}
use Rattle.report_text.specs.Report.{field_text, fields_text, node_line, node_lines, round_line}
use Rattle.report_text.specs.ReadReport.{IsStateOf}
use Rattle.report_text.proofs.Digits.{decimal_digits}
use Rattle.report_text.proofs.Lines.{IsInLine, line_split, inline_append}
use Rattle.report_text.proofs.Once.{line_apart, round_apart, SmallWords, small_words}
use Rattle.report_text.proofs.ReportOnce.{all_behind}

digits_inline : (ds : List ℕ) → IsDigits ds → IsInLine ds
digits_inline [] each = tt
digits_inline (d ∷ ds) each = (λ ten. let low = digit_bounds d each.0 in absurd (omega (arith, low.0)), digits_inline ds each.1)

pub number_inline : (n : ℕ) → n < 2 ^ 32 → IsInLine (decimal n)
number_inline n small = digits_inline (decimal n) (decimal_digits n small)

field_inline : (name : List ℕ) (v : ℕ) → IsInLine name → v < 2 ^ 32 → IsInLine (field_text name v)
field_inline name v plain small = ((λ ten. absurd (omega arith)), inline_append name (codes "=" ++ decimal v) plain ((λ ten. absurd (omega arith)), number_inline v small))

pub fields_inline : (names : List (List ℕ)) (words : List ℕ) → All IsInLine names → SmallWords names words → IsInLine (fields_text names words)
fields_inline [] words plain small = tt
fields_inline (name ∷ names) [] plain small = tt
fields_inline (name ∷ names) (w ∷ words) plain small =
    inline_append (field_text name w) (fields_text names words) (field_inline name w (plain 0 [] (omega arith)) (small 0 (omega arith)))
    (fields_inline names words (all_behind IsInLine name names plain) (λ k h. small (suc k) (omega arith)))

-- the line of a round, and what stands after it
pub round_split : (t : ℕ) (rest : List ℕ) → t < 2 ^ 32 → lines_of (round_line t ++ rest) ≡ round_line t ∷ lines_of rest
round_split t rest small =
    let body = codes "round " ++ decimal t in
    let inline : IsInLine body = ((λ e. absurd (omega arith)), ((λ e. absurd (omega arith)), ((λ e. absurd (omega arith)), ((λ e. absurd (omega arith)), ((λ e. absurd (omega arith)), ((λ e. absurd (omega arith)), number_inline t small)))))) in
    ap lines_of (round_apart t rest ∙ sym (append_assoc (codes "round ") (decimal t) (10 ∷ rest)))
    ∙ line_split body rest inline ∙ ap (λ l. l ∷ lines_of rest) (append_assoc (codes "round ") (decimal t) (10 ∷ []))

-- the lines of nodes from number u on
abbrev pub lines_from : List (List ℕ) → ℕ → List State → List (List ℕ)
lines_from names u [] = []
lines_from names u (s ∷ states) = node_line names u s ∷ lines_from names (u + 1) states

pub count_lines : (names : List (List ℕ)) (u : ℕ) (states : List State) → length (lines_from names u states) ≡ length states
count_lines names u [] = refl
count_lines names u (s ∷ states) = ap suc (count_lines names (u + 1) states)

module _ (names : List (List ℕ)) (fields : ℕ) (count : length names ≡ fields) (few : fields ≤ 8) (plain : All IsInLine names) where
  -- the line of a node, and what stands after it
  pub node_split : (u : ℕ) (s : State) (rest : List ℕ) → u < 2 ^ 32 → IsStateOf fields s → lines_of (node_line names u s ++ rest) ≡ node_line names u s ∷ lines_of rest
  node_split u s rest small fits =
      let inner = fields_text names s.words in
      let body = decimal u ++ inner in
      let inline = inline_append (decimal u) inner (number_inline u small) (fields_inline names s.words plain (small_words names fields s count few fits)) in
      ap lines_of (line_apart names u s rest ∙ sym (append_assoc (decimal u) inner (10 ∷ rest)))
      ∙ line_split body rest inline ∙ ap (λ l. l ∷ lines_of rest) (append_assoc (decimal u) inner (10 ∷ []))

  pub nodes_split : (u : ℕ) (states : List State) (rest : List ℕ) → u + length states ≤ 2 ^ 32 → All (IsStateOf fields) states → lines_of (node_lines names u states ++ rest) ≡ lines_from names u states ++ lines_of rest
  nodes_split u [] rest small fits = refl
  nodes_split u (s ∷ states) rest small fits =
      ap lines_of (append_assoc (node_line names u s) (node_lines names (u + 1) states) rest)
      ∙ node_split u s (node_lines names (u + 1) states ++ rest) (omega arith) (fits 0 blank (omega arith))
      ∙ ap (λ ls. node_line names u s ∷ ls) (nodes_split (u + 1) states rest (omega arith) (all_behind (IsStateOf fields) s states fits))

  -- the lines of a report's front, and what stands after it
  pub report_split : (t : ℕ) (states : List State) (rest : List ℕ) → t < 2 ^ 32 → length states ≤ 2 ^ 32 → All (IsStateOf fields) states → lines_of (round_line t ++ (node_lines names 0 states ++ rest)) ≡ (round_line t ∷ lines_from names 0 states) ++ lines_of rest
  report_split t states rest small few_nodes fits =
      round_split t (node_lines names 0 states ++ rest) small ∙ ap (λ ls. round_line t ∷ ls) (nodes_split 0 states rest (omega arith) fits)

-- the lines of nodes in two parts
pub lines_append : (names : List (List ℕ)) (u k : ℕ) (front back : List State) → k ≡ u + length front → node_lines names u (front ++ back) ≡ node_lines names u front ++ node_lines names k back
lines_append names u k [] back at = let e : u ≡ k = omega arith in ap (λ n. node_lines names n back) e
lines_append names u k (s ∷ front) back at =
    ap (λ t. node_line names u s ++ t) (lines_append names (u + 1) k front back (omega arith)) ∙ sym (append_assoc (node_line names u s) (node_lines names (u + 1) front) (node_lines names k back))
