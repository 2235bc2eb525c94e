-- A list of steps by nodes that do not wait, told.
use Rattle.std.specs.Prelude.{◌≡◌, ℕ, codes, Bool, true, false, List, [], ◌∷◌, ◌++◌, length, nat_lt, if◌then◌else◌, Option, Some, None}
use Rattle.std.specs.Fmt.{decimal}
use Rattle.std.specs.List.{flat_map}
use Rattle.rule_check.specs.declared.state.State.{State}
use Rattle.rule_check.specs.Value.{names_of}
use Rattle.link_net.specs.Neighbours.{numbers_below}
use Rattle.rounds_plan.specs.Configs.{most_rounds}
use Rattle.rounds_plan.specs.Plans.{PlanView}
use Rattle.report_text.specs.Report.{fields_text}
use Rattle.unison_world.specs.declared.step.Step.{Step}
use Rattle.unison_world.specs.declared.fault.OpenFault.{OpenFault}
use Rattle.unison_world.specs.declared.fault.OpenFault.TheVariants.{StopTooLarge, StopBelowStart}
use Rattle.run_naive.specs.Naive.{NaiveNode, node_in}
use Rattle.run_naive.specs.Differences.{Moment, IsFirstDifference, differing, is_same, lockstep_of, nodes_after}

-- behind two spaces `lockstep` and the fields of a node's lockstep state, where it has another state
abbrev pub lockstep_part : List (List ℕ) → Bool → State → List ℕ
lockstep_part names true lockstep = []
lockstep_part names false lockstep = codes "  lockstep" ++ fields_text names lockstep.words

-- a node's number, ` moves `, its count, the fields of its state, and where that is not its lockstep state, that one
abbrev pub standing : List (List ℕ) → ℕ → ℕ → State → State → List ℕ
standing names u moves state lockstep =
    decimal u ++ (codes " moves " ++ (decimal moves ++ (fields_text names state.words ++ lockstep_part names (is_same state lockstep) lockstep)))

-- the same of node u among these
abbrev pub node_text : PlanView → List NaiveNode → ℕ → List ℕ
node_text p nodes u = standing (names_of p.program) u (node_in nodes u).moves (node_in nodes u).state (lockstep_of p nodes u)

-- on a line
abbrev pub node_line : PlanView → List NaiveNode → ℕ → List ℕ
node_line p nodes u = node_text p nodes u ++ 10 ∷ []

-- the line of the first difference: the step, and the node as it stands after it
abbrev pub first_line : PlanView → ℕ → List Step → Option Moment → List ℕ
first_line p stop steps None = codes "no difference after any step\n"
first_line p stop steps (Some m) = codes "first difference after step " ++ (decimal m.step ++ (codes ": node " ++ node_line p (nodes_after p stop steps m.step) m.node))

-- how many nodes differ at the end, of how many
abbrev pub differing_line : PlanView → List NaiveNode → List ℕ
differing_line p nodes = codes "nodes that differ " ++ (decimal (differing p nodes) ++ (codes " of " ++ (decimal (length p.network) ++ 10 ∷ [])))

-- the line of each node after all steps, an empty line, the first difference, and how many nodes differ at the end
abbrev pub naive_text : PlanView → ℕ → List Step → Option Moment → List ℕ
naive_text p stop steps first =
    flat_map (node_line p (nodes_after p stop steps (length steps))) (numbers_below (length p.network))
    ++ (10 ∷ [] ++ (first_line p stop steps first ++ differing_line p (nodes_after p stop steps (length steps))))

-- the text tells the steps: what stands as the first difference in it is the first one
abbrev pub IsTold : PlanView → ℕ → List Step → List ℕ → Type 0
IsTold p stop steps text = (first : Option Moment) × IsFirstDifference p stop steps first × (text ≡ naive_text p stop steps first)

-- why nothing is told, whatever memory there is
abbrev pub refusal_of : PlanView → ℕ → Option OpenFault
refusal_of p stop =
    if nat_lt most_rounds stop then Some StopTooLarge
    else if nat_lt stop p.start then Some StopBelowStart
    else None
