-- Edges as they are compared, read line by line.
use Rattle.std.proofs.Common.{◌≡◌, ℕ, List, [], ◌∷◌, ◌++◌, map, refl, sym, ap, ◌∙◌, append_assoc, append-nil, Result, Ok, Err}
use Rattle.large_pack.specs.declared.edge_line.EdgeLine.{EdgeLine}
use Rattle.large_pack.specs.declared.options.PackOptions.{PackOptions}
use Rattle.large_pack.specs.declared.ranked.Ranked.{Ranked}
use Rattle.large_pack.specs.declared.fault.PackFault.{PackFault}
use Rattle.large_pack.specs.Lines.{and_then, edge_of, edges_in}
use Rattle.large_pack.specs.Ranks.{ranked}

-- the edges so far before those that are read
abbrev pub with_front : PackOptions → List Ranked → Result (List EdgeLine) PackFault → Result (List Ranked) PackFault
with_front options front read = and_then read (λ es. Ok (front ++ map (ranked options) es))

front_more : (options : PackOptions) (front : List Ranked) (e : EdgeLine) (read : Result (List EdgeLine) PackFault)
    → with_front options (front ++ ranked options e ∷ []) read ≡ with_front options front (and_then read (λ es. Ok (e ∷ es)))
front_more options front e (Ok es) = ap Ok (append_assoc front (ranked options e ∷ []) (map (ranked options) es))
front_more options front e (Err fault) = refl

-- one edge more
pub read_more : (options : PackOptions) (front later : List Ranked) (r : Ranked) (e : EdgeLine) (l : ℕ × List ℕ) (lines rest : List (ℕ × List ℕ)) (defined : Result (List Ranked) PackFault)
    → later ≡ front ++ r ∷ [] → r ≡ ranked options e → lines ≡ l ∷ rest → Ok e ≡ edge_of options l → with_front options front (edges_in options lines) ≡ defined → with_front options later (edges_in options rest) ≡ defined
read_more options front later r e l lines rest defined is made shape said so_far =
    rw (is, made, front_more options front e (edges_in options rest)) (sym (rw (shape, ← said) refl) ∙ so_far)

-- no line is left
pub read_all : (options : PackOptions) (front : List Ranked) (lines : List (ℕ × List ℕ)) (defined : Result (List Ranked) PackFault) → lines ≡ [] → with_front options front (edges_in options lines) ≡ defined → defined ≡ Ok front
read_all options front lines defined none is = sym (rw none at is) ∙ ap Ok (append-nil front)
