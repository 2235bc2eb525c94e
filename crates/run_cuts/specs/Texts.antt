-- Cuts as they are told.
use Rattle.std.specs.Prelude.{ℕ, ◌+◌, ◌==◌, List, [], ◌∷◌, ◌++◌, codes, flat_map, string_bytes, slice_get, slice_index_or, Option, Some, None, if◌then◌else◌}
use Rattle.std.proofs.Common.{String, Global}
use Rattle.std.specs.Fmt.{decimal}
use Rattle.std.specs.Option.{option_map}
use Rattle.run_cuts.specs.declared.cut.Cut.{Cut}
use Rattle.run_cuts.specs.declared.cut.Kind.{Kind}
use Rattle.run_cuts.specs.declared.cut.Kind.TheVariants.{Sum, Difference, Product, Total}
use Rattle.run_cuts.specs.declared.text.Site.{Site}
use Rattle.run_cuts.specs.declared.text.Telling.{Telling}

-- an operator as it is written
abbrev pub symbol_of : Kind → List ℕ
symbol_of Sum = codes "+"
symbol_of Difference = codes "-"
symbol_of Product = codes "*"
symbol_of Total = codes "total"

-- the value at which it was cut
abbrev pub limit_of : Kind → List ℕ
limit_of Sum = codes "4294967295"
limit_of Difference = codes "0"
limit_of Product = codes "4294967295"
limit_of Total = codes "4294967295"

-- where an operator stands; at the front where that is not known
abbrev pub site_at : List Site → ℕ → Site
site_at sites k = slice_index_or sites k (record { line = 1; column = 1 })

-- what stands for a node: its label, or past the last its number
abbrev pub label_of : Option (List ℕ) → ℕ → List ℕ
label_of (Some label) u = label
label_of None u = decimal u

-- how often it was cut
abbrev pub times_text : ℕ → List ℕ
times_text n = if n == 1 then codes "once\n" else decimal n ++ codes " times in all\n"

-- the place of an operator
abbrev pub place_text : List ℕ → Site → List ℕ
place_text name site = name ++ (codes ":" ++ (decimal site.line ++ (codes ":" ++ (decimal site.column ++ codes ": `"))))

-- what stands for a node
abbrev pub node_text : List (String Global) → ℕ → List ℕ
node_text labels u = label_of (option_map string_bytes (slice_get labels u)) u

-- the operator, and the value at which it was cut
abbrev pub kind_text : Kind → List ℕ
kind_text kind = symbol_of kind ++ (codes "` was cut at " ++ limit_of kind)

-- where it was cut first
abbrev pub occasion_text : List (String Global) → ℕ → ℕ → List ℕ
occasion_text labels t u = codes ": first in round " ++ (decimal t ++ (codes " at node " ++ (node_text labels u ++ codes ", ")))

-- the line of an operator that was cut
abbrev pub cut_line : Telling → Cut → List ℕ
cut_line t c = place_text t.name.now (site_at t.sites.now c.operator) ++ (kind_text c.kind ++ (occasion_text t.labels.now c.round c.node ++ times_text c.times))

-- the lines of cuts
abbrev pub lines_text : Telling → List Cut → List ℕ
lines_text t cuts = flat_map (cut_line t) cuts

-- the line that says that nothing was cut
abbrev pub nothing_line : Telling → List ℕ
nothing_line t =
    if t.below then codes "nothing was cut at 4294967295 or at 0 up to round " ++ (decimal t.rounds ++ codes "\n")
    else codes "nothing was cut at 4294967295 up to round " ++ (decimal t.rounds ++ codes "\n")

-- cuts as a text for people
abbrev pub told_text : Telling → List Cut → List ℕ
told_text t [] = nothing_line t
told_text t (c ∷ cuts) = lines_text t (c ∷ cuts)

-- the members of a place, up to the operator
abbrev pub site_members : Site → List ℕ
site_members site = codes "{\"line\":" ++ (decimal site.line ++ (codes ",\"column\":" ++ (decimal site.column ++ codes ",\"operator\":\"")))

-- those of a first occasion
abbrev pub first_members : List (String Global) → ℕ → ℕ → List ℕ
first_members labels t u = codes "\",\"round\":" ++ (decimal t ++ (codes ",\"node\":" ++ node_text labels u))

-- that of a count, and the end
abbrev pub count_member : ℕ → List ℕ
count_member n = codes ",\"times\":" ++ (decimal n ++ codes "}")

-- the object of an operator that was cut
abbrev pub cut_member : Telling → Cut → List ℕ
cut_member t c = site_members (site_at t.sites.now c.operator) ++ (symbol_of c.kind ++ (first_members t.labels.now c.round c.node ++ count_member c.times))

-- objects after so many others, each but the first with a comma before it
abbrev pub members_text : Telling → ℕ → List Cut → List ℕ
members_text t n [] = []
members_text t n (c ∷ cuts) = (if n == 0 then [] else codes ",") ++ (cut_member t c ++ members_text t (n + 1) cuts)

-- cuts as a JSON object on a line
abbrev pub told_json : Telling → List Cut → List ℕ
told_json t cuts = codes "{\"rounds\":" ++ (decimal t.rounds ++ (codes ",\"cuts\":[" ++ (members_text t 0 cuts ++ codes "]}\n")))
