-- Lists of edges, read line by line.
use Rattle.std.proofs.Common.{◌≡◌, ℕ, List, [], ◌∷◌, ◌++◌, refl, sym, ap, ◌∙◌, append_assoc, append-nil, Option, Result, Ok, Err}
use Rattle.import_formats.specs.declared.edges.fault.EdgeFault.{EdgeFault}
use Rattle.import_lines.specs.Named.{NamedEdge}
use Rattle.import_formats.specs.declared.edges.reader.Reading.{Reading}
use Rattle.import_formats.specs.edges.Edges.{and_then, edge_of, edges_in}

-- the edges so far before those that are read
abbrev pub with_front : List NamedEdge → Result (List NamedEdge) EdgeFault → Result (List NamedEdge) EdgeFault
with_front front read = and_then read (λ es. Ok (front ++ es))

front_more : (front : List NamedEdge) (e : NamedEdge) (read : Result (List NamedEdge) EdgeFault) → with_front (front ++ e ∷ []) read ≡ with_front front (and_then read (λ es. Ok (e ∷ es)))
front_more front e (Ok es) = ap Ok (append_assoc front (e ∷ []) es)
front_more front e (Err fault) = refl

-- one edge more
pub read_more : (reading : Reading) (front later : List NamedEdge) (e : NamedEdge) (l : ℕ × List ℕ) (lines rest : List (ℕ × List ℕ)) (defined : Result (List NamedEdge) EdgeFault)
    → later ≡ front ++ e ∷ [] → lines ≡ l ∷ rest → Ok e ≡ edge_of reading l → with_front front (edges_in reading lines) ≡ defined → with_front later (edges_in reading rest) ≡ defined
read_more reading front later e l lines rest defined is shape said so_far = rw (is, front_more front e (edges_in reading rest)) (sym (rw (shape, ← said) refl) ∙ so_far)

-- no line is left
pub read_all : (reading : Reading) (front : List NamedEdge) (lines : List (ℕ × List ℕ)) (defined : Result (List NamedEdge) EdgeFault) → lines ≡ [] → with_front front (edges_in reading lines) ≡ defined → defined ≡ Ok front
read_all reading front lines defined none is = sym (rw none at is) ∙ ap Ok (append-nil front)
