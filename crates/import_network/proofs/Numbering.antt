-- Edges between the numbers of names, read line by line.
use Rattle.std.proofs.Common.{◌≡◌, ℕ, ◌<◌, ◌≤◌, Bool, true, false, List, [], ◌∷◌, ◌++◌, length, map, refl, sym, ap, subst, ◌∙◌, append-nil, arith, Result, Ok, Err}
use Rattle.std.specs.Prelude.{IfErr}
use Rattle.std.specs.Result.{IsErrAnd}
use Rattle.std.proofs.lemmas.Bool.{ltb-true}
use Rattle.std.proofs.lemmas.List.{length-append}
use Rattle.import_lines.specs.Named.{NamedEdge}
use Rattle.import_formats.specs.declared.edges.fault.EdgeFault.{EdgeFault}
use Rattle.import_formats.specs.declared.edges.reader.Reading.{Reading}
use Rattle.import_formats.specs.edges.Edges.{and_then, edge_of, edges_in}
use Rattle.import_links.specs.declared.placed.PlacedLink.{PlacedLink}
use Rattle.import_links.specs.Joining.{with_ends, names_with, link_in, links_with}
use Rattle.import_links.proofs.Stable.{links_all, all_grown, ends_placed, first_there, has_with}
use Rattle.net_names.specs.Naming.{place_in, with_name}
use Rattle.large_pack.specs.declared.edge_line.EdgeLine.{EdgeLine}
use Rattle.large_pack.specs.declared.options.PackOptions.{PackOptions}
use Rattle.large_pack.specs.declared.ranked.Ranked.{Ranked}
use Rattle.large_pack.specs.Lines.{turned}
use Rattle.large_pack.specs.Ranks.{ranked, ends_of, RankedWithin}
use Rattle.large_pack.proofs.Rising.{turned_below}
use Rattle.import_network.specs.declared.packed_names.fault.NamesPackFault.{NamesPackFault}
use Rattle.import_network.specs.PackNaming.{edge_in, numbered}

-- ---- one edge

-- a link as an edge
abbrev line_of : Bool → PlacedLink → EdgeLine
line_of r p = turned r (record { first = p.link.0; second = p.link.1; weight = p.link.2; line = p.line })

-- the places of the ends once the first has its number, and once both have
pub edge_placed : (r : Bool) (names : List (List ℕ)) (e : NamedEdge) → edge_in r (with_ends names e) e ≡ turned r (record { first = place_in names e.first; second = place_in (with_name names e.first) e.second; weight = e.weight; line = e.line })
edge_placed r names e = ap (line_of r) (ends_placed names e)

-- ---- all edges

-- the edges numbered one after another, after these names
abbrev pub edges_with : Bool → List (List ℕ) → List NamedEdge → List EdgeLine
edges_with r names [] = []
edges_with r names (e ∷ es) = edge_in r (with_ends names e) e ∷ edges_with r (with_ends names e) es

as_links : (r : Bool) (names : List (List ℕ)) (es : List NamedEdge) → edges_with r names es ≡ map (line_of r) (links_with names es)
as_links r names [] = refl
as_links r names (e ∷ es) = ap (λ t. edge_in r (with_ends names e) e ∷ t) (as_links r (with_ends names e) es)

all_lines : (r : Bool) (names : List (List ℕ)) (es : List NamedEdge) → map (line_of r) (map (link_in names) es) ≡ numbered r names es
all_lines r names [] = refl
all_lines r names (e ∷ es) = ap (λ t. edge_in r names e ∷ t) (all_lines r names es)

-- they are those between the places of all names
pub edges_all : (r : Bool) (names : List (List ℕ)) (es : List NamedEdge) → edges_with r names es ≡ numbered r (names_with names es) es
edges_all r names es = as_links r names es ∙ ap (map (line_of r)) (links_all names es) ∙ all_lines r (names_with names es) es

grown_longer : (names : List (List ℕ)) (es : List NamedEdge) → length names ≤ length (names_with names es)
grown_longer names es =
    let more = all_grown names es in
    omega (arith, ap length more.1, length-append names more.0)

-- an edge that is turned round has the same ends
turned_within : (directed r : Bool) (a b w l n : ℕ) → a < n → b < n → ((ends_of directed (turned r (record { first = a; second = b; weight = w; line = l })).first (turned r (record { first = a; second = b; weight = w; line = l })).second).0 < n)
    × ((ends_of directed (turned r (record { first = a; second = b; weight = w; line = l })).first (turned r (record { first = a; second = b; weight = w; line = l })).second).1 < n)
turned_within directed true a b w l n first second = turned_below directed b a n second first
turned_within directed false a b w l n first second = turned_below directed a b n first second

below_all : (o : PackOptions) (names : List (List ℕ)) (es : List NamedEdge) → RankedWithin (length (names_with names es)) (map (ranked o) (edges_with o.reverse names es))
below_all o names [] = tt
below_all o names (e ∷ es) =
    let now = with_ends names e in
    let longer : length now ≤ length (names_with now es) = grown_longer now es in
    let first : place_in now e.first < length now = ltb-true (place_in now e.first) (length now) (first_there names e) in
    let second : place_in now e.second < length now = ltb-true (place_in now e.second) (length now) (has_with (with_name names e.first) e.second) in
    (turned_within o.is_directed o.reverse (place_in now e.first) (place_in now e.second) e.weight e.line (length (names_with now es)) (omega (arith, first, longer)) (omega (arith, second, longer)), below_all o now es)

-- the numbers of ends are below that of the names
pub numbered_within : (o : PackOptions) (es : List NamedEdge) → RankedWithin (length (names_with [] es)) (map (ranked o) (numbered o.reverse (names_with [] es) es))
numbered_within o es = subst (λ (es' : List EdgeLine). RankedWithin (length (names_with [] es)) (map (ranked o) es')) (edges_all o.reverse [] es) (below_all o [] es)

-- ---- line by line

abbrev Read : Type 0
Read = Result (List NamedEdge) EdgeFault

-- the names and the edges, after those so far
abbrev pub numbered_after : PackOptions → List (List ℕ) → List Ranked → Read → Result (List (List ℕ) × List Ranked) EdgeFault
numbered_after o names items read = and_then read (λ es. Ok (names_with names es, items ++ map (ranked o) (edges_with o.reverse names es)))

abbrev as_read : {A : Type 0} → A → Result A EdgeFault
as_read x = Ok x

same_of : {A : Type 0} (x y : A) → as_read x ≡ Ok y → x ≡ y
same_of x y h = cc

same_pair : {A B : Type 0} (a c : A) (b d : B) → as_read {A = A × B} (a, b) ≡ Ok (c, d) → (a ≡ c) × (b ≡ d)
same_pair {A} {B} a c b d h = (let same = same_of {A = A × B} (a, b) (c, d) h in (ap (λ (p : A × B). p.0) same, ap (λ (p : A × B). p.1) same))

-- no line is left
pub read_done : (o : PackOptions) (reading : Reading) (names : List (List ℕ)) (items : List Ranked) (lines : List (ℕ × List ℕ)) (defined : Read) (es : List NamedEdge)
    → lines ≡ [] → numbered_after o names items (edges_in reading lines) ≡ numbered_after o [] [] defined → defined ≡ Ok es → (names ≡ names_with [] es) × (items ≡ map (ranked o) (numbered o.reverse (names_with [] es) es))
read_done o reading names items lines defined es none so_far is =
    let same = same_pair names (names_with [] es) (items ++ []) (map (ranked o) (edges_with o.reverse [] es)) (rw (none, is) at so_far) in
    (same.0, sym (append-nil items) ∙ same.1 ∙ ap (map (ranked o)) (edges_all o.reverse [] es))

abbrev failed : EdgeFault → Result (List (List ℕ) × List Ranked) EdgeFault
failed fault = Err fault

clash : {A : Type 0} (fault : EdgeFault) (x : List (List ℕ) × List Ranked) → failed fault ≡ Ok x → A
clash fault x h = cc

-- too many names with one edge are too many with all
pub crowd_here : (o : PackOptions) (reading : Reading) (names : List (List ℕ)) (items : List Ranked) (e : NamedEdge) (l : ℕ × List ℕ) (lines rest : List (ℕ × List ℕ)) (defined : Read) (es : List NamedEdge) (most : ℕ)
    → lines ≡ l ∷ rest → Ok e ≡ edge_of reading l → numbered_after o names items (edges_in reading lines) ≡ numbered_after o [] [] defined → defined ≡ Ok es → most < length (with_ends names e) → most < length (names_with [] es)
crowd_here o reading names items e l lines rest defined es most shape said so_far is many = by (edges_in reading rest) (sym (rw (shape, ← said) refl) ∙ (rw is at so_far))
  where
    by : (read : Read) → numbered_after o names items (and_then read (λ later. Ok (e ∷ later))) ≡ Ok (names_with [] es, map (ranked o) (edges_with o.reverse [] es)) → most < length (names_with [] es)
    by (Err fault) h = clash fault _ h
    by (Ok later) h =
        let same = same_pair (names_with (with_ends names e) later) (names_with [] es) _ _ h in
        omega (arith, many, grown_longer (with_ends names e) later, ap length same.0)

-- what is so of a fault is so where it is passed on
pub err_keeps : {A : Type 0} (r : Result A NamesPackFault) (fault : NamesPackFault) (Q : NamesPackFault → Type 0) → IsErrAnd r (λ e. e ≡ fault) → Q fault → IfErr r Q
err_keeps (Ok x) fault Q is h = absurd is
err_keeps (Err e) fault Q is h = subst Q (sym is) h

-- where there is an edge there is a name
pub some_names : (es : List NamedEdge) → 1 ≤ length es → 1 ≤ length (names_with [] es)
some_names [] h = omega (arith, h)
some_names (e ∷ es) h =
    let there : place_in (with_ends [] e) e.first < length (with_ends [] e) = ltb-true (place_in (with_ends [] e) e.first) (length (with_ends [] e)) (first_there [] e) in
    omega (arith, there, grown_longer (with_ends [] e) es)
