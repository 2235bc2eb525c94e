-- The data of a page, as JSON. Members stand by rising name; numbers are whole, and text from outside is the array of its bytes.
use Rattle.std.specs.Prelude.{ℕ, max, List, [], ◌∷◌, map, codes, length, slice_get, slice_index, slice_index_or, string_bytes, nat_lt, Option, Some, None}
use Rattle.std.specs.List.{filter, flat_map, fold}
use Rattle.std.specs.Option.{option_map, unwrap_or}
use Rattle.rule_check.specs.declared.state.State.{State}
use Rattle.rule_check.specs.Value.{names_of}
use Rattle.link_net.specs.Neighbours.{Neighbours, numbers_below, row}
use Rattle.rounds_plan.specs.Lockstep.{lockstep_states}
use Rattle.rounds_plan.specs.Plans.{PlanView}
use Rattle.run_settle.specs.declared.settling.Settling.{Settling}
use Rattle.run_settle.specs.declared.settling.Settling.TheVariants.{Settles, Repeats, Open}
use Rattle.run_watch.specs.Spans.{SpanView, rounds_in}
use Rattle.serde_json.specs.Data.{Data, unsigned, number, string, array, object, Members, no_members, member}
use Rattle.serde_json.specs.View.{items_of}
use Rattle.run_naive.specs.Writing.{all_written, last_count}
use Rattle.unison_trace.specs.Histories.{run_of, answers_of}
use Rattle.unison_world.specs.declared.step.Step.{Step}
use Rattle.unison_world.specs.declared.step.Step.TheVariants.{Read, Write}
use Rattle.unison_world.specs.declared.step.Answer.{Answer}
use Rattle.unison_world.specs.declared.step.Answer.TheVariants.{Taken, Moved, Behind, Already, NotReady, Stopped, NoNode, NoSlot}
use Rattle.run_page.specs.declared.look.Look.{Look}
use Rattle.run_page.specs.declared.look.PageRounds.{PageRounds}

-- a number
abbrev pub whole : ℕ → Data
whole n = number (unsigned n)

-- an array
abbrev pub listed : List Data → Data
listed ds = array (items_of ds)

-- an array of numbers
abbrev pub numbers : List ℕ → Data
numbers ns = listed (map whole ns)

-- texts, each as the array of its bytes
abbrev pub texts : List (List ℕ) → Data
texts ts = listed (map numbers ts)

-- the links of node u to nodes of greater number, by rising number: each as u, the other node, and the weight
abbrev pub links_up : ℕ → List (ℕ × ℕ) → List Data
links_up u neighbours = map (λ a. numbers (u ∷ (a.0 ∷ (a.1 ∷ [])))) (filter (λ a. nat_lt u a.0) neighbours)

-- each link of a network once, by rising numbers of its nodes, the smaller one first
abbrev pub links_of : Neighbours → List Data
links_of network = flat_map (λ u. links_up u (row network u)) (numbers_below (length network))

-- the names of the shown fields
abbrev pub shown_names : PlanView → Look → List (List ℕ)
shown_names p look = map (λ k. slice_index_or (names_of p.program) k []) look.fields.now

-- the names of the values 0, 1, 2, .. of the field at place k; none where its values have no names
abbrev pub value_names : Look → ℕ → List (List ℕ)
value_names look k = unwrap_or (option_map (λ names. map string_bytes names.items) (slice_get look.names.now k)) []

-- those of each shown field
abbrev pub legend_of : Look → Data
legend_of look = listed (map (λ k. texts (value_names look k)) look.fields.now)

-- the values of a state's shown fields
abbrev pub shown : List ℕ → State → List ℕ
shown fields state = map (λ k. slice_index state.words k) fields

-- the shown values of these states, node by node
abbrev pub shown_values : List ℕ → List State → List ℕ
shown_values fields states = flat_map (shown fields) states

-- the shown values of all nodes after round t, node by node
abbrev pub values_at : PlanView → List ℕ → ℕ → List ℕ
values_at p fields t = shown_values fields (lockstep_states p t (length p.network))

-- those of each of these rounds
abbrev pub states_of : PlanView → List ℕ → List ℕ → Data
states_of p fields rounds = listed (map (λ t. numbers (values_at p fields t)) rounds)

-- what each page says first, of the plan and of the way in which it is shown
unfoldable pub headed : PlanView → Look → List ℕ → Members → Members
headed p look manner rest =
    member (codes "fields") (texts (shown_names p look))
    (member (codes "grid") (whole (unwrap_or look.grid 0))
    (member (codes "legend") (legend_of look)
    (member (codes "links") (listed (links_of p.network))
    (member (codes "manner") (string manner)
    (member (codes "names") (texts (map string_bytes look.labels.now))
    (member (codes "nodes") (whole (length p.network))
    (member (codes "phase") (whole p.phase) rest)))))))

-- what becomes of the rounds, or nothing where it is not known
abbrev pub settling_data : Option Settling → List Data
settling_data None = []
settling_data (Some (Settles round)) = string (codes "settles") ∷ (whole round ∷ [])
settling_data (Some (Repeats round period)) = string (codes "repeats") ∷ (whole round ∷ (whole period ∷ []))
settling_data (Some (Open limit)) = string (codes "open") ∷ (whole limit ∷ [])

-- what a page says of the rounds that it shows
unfoldable pub rounds_members : PlanView → PageRounds → Members
rounds_members p rounds =
    headed p rounds.look.now (codes "rounds")
    (member (codes "rounds") (numbers (rounds_in rounds.span.now))
    (member (codes "settling") (listed (settling_data rounds.settling))
    (member (codes "states") (states_of p rounds.look.now.fields.now (rounds_in rounds.span.now)) no_members)))

-- the data of a page of rounds
unfoldable pub rounds_page : PlanView → PageRounds → Data
rounds_page p rounds = object (rounds_members p rounds)

-- a step: a read as its node and its slot, a write as its node
abbrev pub step_data : Step → Data
step_data (Read node slot) = numbers (node ∷ (slot ∷ []))
step_data (Write node) = numbers (node ∷ [])

-- the number that stands for an answer
abbrev pub code_of : Answer → ℕ
code_of Taken = 0
code_of Moved = 1
code_of Behind = 2
code_of Already = 3
code_of NotReady = 4
code_of Stopped = 5
code_of NoNode = 6
code_of NoSlot = 7

-- each round from the plan's start up to the greatest count after the steps: a node that has moved t times shows its state of round t
abbrev pub reached : PlanView → ℕ → List Step → SpanView
reached p stop steps = record { first = p.start; last = fold max p.start (run_of p stop steps).moves; every = 1 }

-- what is said of steps with these answers and these rounds
unfoldable pub stepped : PlanView → ℕ → List Step → Look → List ℕ → List ℕ → Members → Members
stepped p stop steps look answers rounds rest =
    member (codes "answers") (numbers answers)
    (headed p look (codes "steps")
    (member (codes "rounds") (numbers rounds)
    (member (codes "states") (states_of p look.fields.now rounds)
    (member (codes "steps") (listed (map step_data steps))
    (member (codes "stop") (whole stop) rest)))))

-- the data of a page of steps: their answers, and the rounds that they reach
unfoldable pub steps_page : PlanView → ℕ → List Step → Look → Data
steps_page p stop steps look = object (stepped p stop steps look (map code_of (answers_of p stop steps)) (rounds_in (reached p stop steps)) no_members)

-- each round from the plan's start up to the greatest count after the steps, be they made by nodes that wait or by nodes that do not
abbrev pub reached_naively : PlanView → ℕ → List Step → SpanView
reached_naively p stop steps = record { first = p.start; last = max (reached p stop steps).last (last_count p stop steps); every = 1 }

-- the shown values of the state to which a step moved its node, or nothing where it moved none
abbrev pub written_data : List ℕ → Option State → Data
written_data fields None = numbers []
written_data fields (Some state) = numbers (shown fields state)

-- those of each of these steps
abbrev pub writes_of : List ℕ → List (Option State) → Data
writes_of fields states = listed (map (written_data fields) states)

-- the data of steps with these answers, these rounds, and these states to which they move nodes that do not wait
unfoldable pub stepped_naively : PlanView → ℕ → List Step → Look → List ℕ → List ℕ → List (Option State) → Data
stepped_naively p stop steps look answers rounds states =
    object (stepped p stop steps look answers rounds (member (codes "written") (writes_of look.fields.now states) no_members))

-- the data of a page of steps that are also made by nodes that do not wait
unfoldable pub naive_page : PlanView → ℕ → List Step → Look → Data
naive_page p stop steps look = stepped_naively p stop steps look (map code_of (answers_of p stop steps)) (rounds_in (reached_naively p stop steps)) (all_written p stop steps)
