-- What edges tell, read line by line.
use Rattle.std.proofs.Common.{◌≡◌, ℕ, ◌+◌, max, List, [], ◌∷◌, refl, sym, ap, ◌∙◌, Option, Some, None, Result, Ok, Err}
use Rattle.std.specs.List.{fold, filter_map, cons_option, slice_get}
use Rattle.std.specs.Option.{option_or}
use Rattle.large_pack.specs.declared.edge_line.EdgeLine.{EdgeLine}
use Rattle.large_pack.specs.declared.options.PackOptions.{PackOptions}
use Rattle.large_pack.specs.declared.survey.Survey.{Survey}
use Rattle.large_pack.specs.declared.fault.PackFault.{PackFault}
use Rattle.large_pack.specs.Lines.{and_then, edge_of, edges_in}
use Rattle.large_pack.specs.Sound.{outside_fault, loop_fault, first_fault}
use Rattle.large_pack.specs.Surveys.{with_edge}

-- what edges tell after others that told s
abbrev pub survey_on : PackOptions → Survey → List EdgeLine → Survey
survey_on options s edges = record {
  reach = fold (λ n e. max (max n (e.first + 1)) (e.second + 1)) s.reach edges;
  outside = option_or s.outside (first_fault (outside_fault options.nodes) edges);
  self_loop = option_or s.self_loop (first_fault (loop_fault options.self_loops) edges);
}

abbrev pub survey_after : PackOptions → Survey → Result (List EdgeLine) PackFault → Result Survey PackFault
survey_after options s read = and_then read (λ edges. Ok (survey_on options s edges))

or_first : (so_far here : Option PackFault) (later : List PackFault) → option_or (option_or so_far here) (slice_get later 0) ≡ option_or so_far (slice_get (cons_option here later) 0)
or_first None None later = refl
or_first None (Some y) later = refl
or_first (Some x) here later = refl

abbrev told_as : ℕ → Option PackFault → Option PackFault → Survey
told_as reach outside self_loop = record { reach = reach; outside = outside; self_loop = self_loop }

alike_told : (r : ℕ) (a b c d : Option PackFault) → a ≡ b → c ≡ d → told_as r a c ≡ told_as r b d
alike_told r a b c d p q = cc

one_on : (options : PackOptions) (s : Survey) (e : EdgeLine) (es : List EdgeLine) → survey_on options (with_edge options s e) es ≡ survey_on options s (e ∷ es)
one_on options s e es =
    alike_told (fold (λ n (x : EdgeLine). max (max n (x.first + 1)) (x.second + 1)) s.reach (e ∷ es)) _ _ _ _
    (or_first s.outside (outside_fault options.nodes e) (filter_map (outside_fault options.nodes) es))
    (or_first s.self_loop (loop_fault options.self_loops e) (filter_map (loop_fault options.self_loops) es))

after_one : (options : PackOptions) (s : Survey) (e : EdgeLine) (read : Result (List EdgeLine) PackFault)
    → survey_after options (with_edge options s e) read ≡ survey_after options s (and_then read (λ es. Ok (e ∷ es)))
after_one options s e (Ok es) = ap Ok (one_on options s e es)
after_one options s e (Err fault) = refl

-- one edge more
pub told_more : (options : PackOptions) (s later : Survey) (e : EdgeLine) (l : ℕ × List ℕ) (lines rest : List (ℕ × List ℕ)) (defined : Result Survey PackFault)
    → later ≡ with_edge options s e → lines ≡ l ∷ rest → Ok e ≡ edge_of options l → survey_after options s (edges_in options lines) ≡ defined → survey_after options later (edges_in options rest) ≡ defined
told_more options s later e l lines rest defined is shape said so_far = rw (is, after_one options s e (edges_in options rest)) (sym (rw (shape, ← said) refl) ∙ so_far)

or_none : (x : Option PackFault) → option_or x None ≡ x
or_none None = refl
or_none (Some fault) = refl

-- no line is left
pub told_all : (options : PackOptions) (s : Survey) (lines : List (ℕ × List ℕ)) (defined : Result Survey PackFault) → lines ≡ [] → survey_after options s (edges_in options lines) ≡ defined → defined ≡ Ok s
told_all options s lines defined none told = sym (rw none at told) ∙ ap Ok (alike_told s.reach _ _ _ _ (or_none s.outside) (or_none s.self_loop))
