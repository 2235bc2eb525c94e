use Rattle.std.proofs.Common.{◌≡◌, ◌∙◌, sym, ap, replicate, false}
use Rattle.std.proofs.lemmas.Option.{get_or_from_slice_get}
use Rattle.link_net.specs.Neighbours.{degree}
use Rattle.rounds_plan.specs.Configs.{blank}
use Rattle.rounds_plan.specs.Lockstep.{lockstep, lockstep-start}
use Rattle.unison_node.specs.Desks.{DeskView, empty}
use Rattle.unison_world.proofs.Starts.{degree_known, opened_picture}
use Rattle.unison_world.proofs.opening.opening_node.Goals as goal
use Rattle.unison_world.proofs.opening.opening_node.Goals.{After-start}

degree_here : (c : After-start) → c.unwrap-degree.result ≡ degree c.args.plan.now.network c.args.node
degree_here c =
    let value = rw c.rows.ensures.rows at c.degree.ensures.value in
    degree_known c.args.plan.now.network c.args.node c.unwrap-degree.result (sym c.unwrap-degree.ensures ∙ value)

pub returns-clause-picture : goal.returns-clause-picture
returns-clause-picture c =
    let plan = c.args.plan.now in
    let state : c.unwrap-state.result ≡ lockstep plan plan.start c.args.node =
    sym (lockstep-start plan c.args.node ∙ get_or_from_slice_get plan.opening c.args.node c.unwrap-state.result blank (sym c.opening.ensures.opening ∙ c.unwrap-state.ensures)) in
    let desk : c.in_ok-desk.desk ≡ empty plan.program c.unwrap-degree.result = rw c.program.ensures.program at c.in_ok-desk.ensures.unmarked in
    opened_picture plan c.args.node c.unwrap-degree.result c.args.phase c.unwrap-state.result _ c.start.ensures.start c.opening-register.ensures.register desk c.requires.phase state (degree_here c)

pub returns-clause-marks : goal.returns-clause-marks
returns-clause-marks c =
    ap (λ (d : DeskView). d.marks) c.in_ok-desk.ensures.unmarked ∙ ap (λ n. replicate n false) (degree_here c)
