-- The lines of nodes, one more.
use Rattle.std.proofs.Common.{◌≡◌, ℕ, ◌+◌, List, [], ◌∷◌, ◌++◌, length, sym, ap, ◌∙◌, arith, append_assoc}
use Rattle.std.proofs.lemmas.List.{append-nil}
use Rattle.rule_check.specs.declared.state.State.{State}
use Rattle.report_text.specs.Report.{node_line, node_lines}

line_last : (names : List (List ℕ)) (u k : ℕ) (states : List State) (state : State) → k ≡ u + length states → node_lines names u (states ++ state ∷ []) ≡ node_lines names u states ++ node_line names k state
line_last names u k [] state at = let e : u ≡ k = omega arith in append-nil (node_line names u state) ∙ ap (λ n. node_line names n state) e
line_last names u k (s ∷ states) state at =
    ap (λ t. node_line names u s ++ t) (line_last names (u + 1) k states state (omega arith)) ∙ sym (append_assoc (node_line names u s) (node_lines names (u + 1) states) (node_line names k state))

-- the lines so far, with one more
pub lines_more : (names : List (List ℕ)) (text rest more : List ℕ) (states : List State) (k : ℕ) (state : State) → k ≡ length states → text ≡ node_lines names 0 states ++ rest → rest ≡ node_line names k state ++ more → text ≡ node_lines names 0 (states ++ state ∷ []) ++ more
lines_more names text rest more states k state at done read =
    done ∙ ap (λ r. node_lines names 0 states ++ r) read ∙ sym (append_assoc (node_lines names 0 states) (node_line names k state) more)
    ∙ ap (λ t. t ++ more) (sym (line_last names 0 k states state (omega arith)))
