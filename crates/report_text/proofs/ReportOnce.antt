-- A text is the report of one configuration at most.
use Rattle.std.proofs.Common.{◌≡◌, ℕ, suc, ◌+◌, ◌<◌, ◌≤◌, ◌^◌, List, [], ◌∷◌, ◌++◌, length, get_or, refl, sym, ap, subst, ◌∙◌, arith, append_assoc, length-append, All}
use Rattle.std.proofs.lemmas.List.{append-nil}
use Rattle.std.proofs.Math.Seq.{get_or-append_seam}
use Rattle.rule_check.specs.declared.state.State.{State}
use Rattle.rule_check.specs.Value.{names_of}
use Rattle.rounds_plan.specs.Configs.{Configuration, blank}
use Rattle.rounds_plan.specs.Plans.{PlanView}
use Rattle.report_text.specs.Report.{node_line, node_lines, round_line}
use Rattle.report_text.specs.ReadReport.{IsStateOf, IsReportOf}
use Rattle.report_text.specs.NodeLines.{HasNodeLines, StopsAtLine}
use Rattle.report_text.proofs.Once.{node_once, round_once}

-- the states after those whose lines come first, and their lines
pub record Continues (names : List (List ℕ)) (u : ℕ) (good states : List State) (rest : List ℕ) : Type 0 where
  pub tail : List State
  pub whole : states ≡ good ++ tail
  pub left : rest ≡ node_lines names (u + length good) tail

pub all_behind : {X : Type 0} (P : X → Type 0) (x : X) (xs : List X) → All P (x ∷ xs) → All P xs
all_behind P x xs all k d inside = all (suc k) d (omega arith)

module _ (names : List (List ℕ)) (fields : ℕ) (count : length names ≡ fields) (few : fields ≤ 8) where
  pub lines_continue : (u : ℕ) (good states : List State) (rest : List ℕ) → All (IsStateOf fields) good → All (IsStateOf fields) states → length good ≤ length states → node_lines names u good ++ rest ≡ node_lines names u states → Continues names u good states rest
  lines_continue u [] states rest fits suits short same =
      let at : u + 0 ≡ u = omega arith in
      record { tail = states; whole = refl; left = same ∙ ap (λ n. node_lines names n states) (sym at) }
  lines_continue u (g ∷ good) [] rest fits suits short same = absurd (omega arith)
  lines_continue u (g ∷ good) (s ∷ states) rest fits suits short same =
      let apart : node_line names u g ++ (node_lines names (u + 1) good ++ rest) ≡ node_line names u s ++ node_lines names (u + 1) states = sym (append_assoc (node_line names u g) (node_lines names (u + 1) good) rest) ∙ same in
      let head = node_once names fields u g s (node_lines names (u + 1) good ++ rest) (node_lines names (u + 1) states) count few (fits 0 blank (omega arith)) (suits 0 blank (omega arith)) apart in
      let more = lines_continue (u + 1) good states rest (all_behind (IsStateOf fields) g good fits) (all_behind (IsStateOf fields) s states suits) (omega arith) head.1 in
      let at : u + 1 + length good ≡ u + suc (length good) = omega arith in
      record {
        tail = more.tail;
        whole = ap (λ x. x ∷ states) (sym head.0) ∙ ap (λ xs. g ∷ xs) more.whole;
        left = more.left ∙ ap (λ n. node_lines names n more.tail) at;
      }

  refuted : (nodes : ℕ) (lines : List ℕ) (number : ℕ) (states : List State) (stop : StopsAtLine names fields nodes lines number) (tail : List State) → length states ≡ nodes → All (IsStateOf fields) states → states ≡ stop.good ++ tail → stop.rest ≡ node_lines names (0 + length stop.good) tail → ⊥
  refuted nodes lines number states stop [] size fits whole left =
      let long : length states ≡ length stop.good = ap length (whole ∙ append-nil stop.good) in
      stop.too_many (omega (arith, long, size)) left
  refuted nodes lines number states stop (s ∷ tail) size fits whole left =
      let long : length states ≡ length stop.good + length (s ∷ tail) = ap length whole ∙ length-append stop.good (s ∷ tail) in
      let inside : length stop.good < length states = omega arith in
      let at : get_or states (length stop.good) blank ≡ s = ap (λ xs. get_or xs (length stop.good) blank) whole ∙ get_or-append_seam stop.good s tail blank in
      let zero_more : 0 + length stop.good ≡ length stop.good = omega arith in
      stop.missing (omega (arith, size)) s (node_lines names (length stop.good + 1) tail) (subst (IsStateOf fields) at (fits (length stop.good) blank inside))
      (left ∙ ap (λ n. node_lines names n (s ∷ tail)) zero_more)

  -- the lines of the nodes of a report go on to the end
  pub never_stops : (nodes : ℕ) (lines : List ℕ) (number : ℕ) (states : List State) → StopsAtLine names fields nodes lines number → length states ≡ nodes → All (IsStateOf fields) states → lines ≡ node_lines names 0 states → ⊥
  never_stops nodes lines number states stop size fits is =
      let on = lines_continue 0 stop.good states stop.rest stop.fit fits (omega (arith, stop.few, size)) (sym stop.cut ∙ is) in
      refuted nodes lines number states stop on.tail size fits on.whole on.left

  none_left : (good states tail : List State) → length good ≡ length states → states ≡ good ++ tail → good ≡ states
  none_left good states [] size whole = sym (whole ∙ append-nil good)
  none_left good states (s ∷ tail) size whole =
      let long : length states ≡ length good + length (s ∷ tail) = ap length whole ∙ length-append good (s ∷ tail) in absurd (omega arith)

  -- the lines of all nodes give the states
  pub states_same : (nodes : ℕ) (lines : List ℕ) (read states : List State) → HasNodeLines names fields nodes lines read → length states ≡ nodes → All (IsStateOf fields) states → lines ≡ node_lines names 0 states → read ≡ states
  states_same nodes lines read states has size fits is =
      let on = lines_continue 0 read states [] has.fit fits (omega (arith, has.count, size)) (append-nil (node_lines names 0 read) ∙ sym has.text ∙ is) in
      none_left read states on.tail (has.count ∙ sym size) on.whole

-- the first line of a report is that of its round, and those of its nodes stand after
pub round_first : (p : PlanView) (text lines : List ℕ) (t : ℕ) (c : Configuration) → text ≡ round_line t ++ lines → t < 2 ^ 32 → IsReportOf p text c → (t ≡ c.rounds) × (lines ≡ node_lines (names_of p.program) 0 c.states)
round_first p text lines t c cut small report =
    round_once t c.rounds lines (node_lines (names_of p.program) 0 c.states) small report.shape.round (sym cut ∙ report.text)
