-- What stands in a world for a node is what the node has.
use Rattle.std.proofs.Common.{◌≡◌, ℕ, ◌+◌, ◌<◌, subst, List, Some, slice_get, length, get_or, sym, refl, ap, ◌∙◌, arith}
use Rattle.std.proofs.lemmas.Option.{slice_get_read}
use Rattle.rule_check.specs.declared.state.State.{State}
use Rattle.rule_check.specs.declared.state.Sums.{Sums}
use Rattle.rule_check.specs.declared.state.Near.{Near}
use Rattle.rule_check.specs.Value.{Rules, here_at, next_at, next_state}
use Rattle.rule_check.specs.Gathering.{sums_at, finished}
use Rattle.rule_check.proofs.Programs.{finished_all}
use Rattle.unison_node.specs.Desks.{IsReady}
use Rattle.link_net.specs.Neighbours.{degree}
use Rattle.rounds_plan.specs.Plans.{PlanView}
use Rattle.rounds_plan.specs.Lockstep.{lockstep}
use Rattle.unison_world.specs.declared.node.Node.{Node}
use Rattle.unison_world.specs.declared.step.Step.TheVariants.{Write}
use Rattle.unison_world.specs.declared.step.Answer.TheVariants.{Moved}
use Rattle.unison_world.specs.Counting.{moves_of, marks_of, answer_of}
use Rattle.unison_world.specs.Gathered.{gathered_sums}
use Rattle.unison_world.specs.Pictures.{counts_of, IsNodePicture, IsDrawn}
use Rattle.unison_world.specs.PictureViews.{view_of}
use Rattle.unison_world.specs.View.{state_of, sums_of}
use Rattle.unison_world.specs.WorkViews.{WorkView, DoneView, IsDone, next_of}
use Rattle.unison_world.specs.Work.{Fits, standing}
use Rattle.unison_world.proofs.Sights.{moves_at, marks_at}
use Rattle.unison_world.proofs.Steps.{answer-moved}
use Rattle.unison_world.proofs.Writes.{marked_ready, next-is}

-- the work of a node by what it has
abbrev pub had : PlanView → ℕ → Node → WorkView
had plan u node = record { plan = plan; node = u; degree = length node.desk.marks; own = node.register.current; round = node.moves; sums = node.desk.sums }

pub standing-had : (plan : PlanView) (stop : ℕ) (nodes : List Node) (u : ℕ) (node : Node) → slice_get nodes u ≡ Some node → IsNodePicture plan u node → standing (view_of plan stop nodes) u ≡ had plan u node
standing-had plan stop nodes u node at p =
    let m = moves_at nodes u node at in
    let k = marks_at nodes u node at in
    let own : state_of (view_of plan stop nodes) u ≡ node.register.current = ap (λ t. lockstep plan t u) m ∙ sym p.current in
    let sums : sums_of (view_of plan stop nodes) u ≡ node.desk.sums = ap (λ t. gathered_sums plan u t (marks_of (counts_of nodes) u)) m ∙ ap (gathered_sums plan u node.moves) k ∙ sym p.sums in
    let made : ℕ → State → ℕ → Sums → WorkView = λ n o r s. record { plan = plan; node = u; degree = n; own = o; round = r; sums = s } in
    let was = moves_of (counts_of nodes) u in
    ap (λ n. made n (state_of (view_of plan stop nodes) u) was (sums_of (view_of plan stop nodes) u)) (sym p.slots)
    ∙ ap (λ o. made (length node.desk.marks) o was (sums_of (view_of plan stop nodes) u)) own
    ∙ ap (λ r. made (length node.desk.marks) node.register.current r (sums_of (view_of plan stop nodes) u)) m
    ∙ ap (λ s. made (length node.desk.marks) node.register.current node.moves s) sums

-- a result fits where it has what the node has
module _ (plan : PlanView) (stop : ℕ) (nodes : List Node) (d : WorkView) (node : Node) (at : slice_get nodes d.node ≡ Some node) (p : IsNodePicture plan d.node node) where
  pub fits_by : d.plan.program ≡ plan.program → d.own ≡ node.register.current → d.round ≡ node.moves → d.degree ≡ length node.desk.marks → d.sums ≡ node.desk.sums → Fits (view_of plan stop nodes) d
  fits_by program own round many sums =
      let e = sym (standing-had plan stop nodes d.node node at p) in
      record {
        program = program;
        own = own ∙ ap (λ (w : WorkView). w.own) e;
        round = round ∙ ap (λ (w : WorkView). w.round) e;
        degree = many ∙ ap (λ (w : WorkView). w.degree) e;
        sums = sums ∙ ap (λ (w : WorkView). w.sums) e;
      }

  pub fits_tells : Fits (view_of plan stop nodes) d → (d.plan.program ≡ plan.program) × (d.own ≡ node.register.current) × (d.round ≡ node.moves) × (d.degree ≡ length node.desk.marks) × (d.sums ≡ node.desk.sums)
  fits_tells f =
      let e = standing-had plan stop nodes d.node node at p in
      (f.program, f.own ∙ ap (λ (w : WorkView). w.own) e, f.round ∙ ap (λ (w : WorkView). w.round) e, f.degree ∙ ap (λ (w : WorkView). w.degree) e, f.sums ∙ ap (λ (w : WorkView). w.sums) e)

-- what is known of a state by these sums is that it is the next one
abbrev CompletesWith : Rules → ℕ → State → ℕ → ℕ → Sums → State → Type 0
CompletesWith rules u own round many sums s =
    (nears : List Near) → length nears ≡ many → sums ≡ sums_at rules (here_at rules round u many own nears) → s ≡ next_state rules round u own nears

same_completes : {rules rules' : Rules} (u : ℕ) {own own' : State} {round round' many many' : ℕ} {sums sums' : Sums} (s : State) → rules ≡ rules' → own ≡ own' → round ≡ round' → many ≡ many' → sums ≡ sums'
    → CompletesWith rules u own round many sums s → CompletesWith rules' u own' round' many' sums' s
same_completes {rules} {rules'} u {own} {own'} {round} {round'} {many} {many'} {sums} {sums'} s a b d e f h =
    subst (λ (x : Rules). CompletesWith x u own' round' many' sums' s) a
    (subst (λ (x : State). CompletesWith rules u x round' many' sums' s) b
    (subst (λ (x : ℕ). CompletesWith rules u own x many' sums' s) d
    (subst (λ (x : ℕ). CompletesWith rules u own round x sums' s) e
    (subst (λ (x : Sums). CompletesWith rules u own round many x s) f h))))

-- a result that fits is the node's next state
pub done-next : (plan : PlanView) (stop : ℕ) (nodes : List Node) (d : DoneView) (node : Node) → slice_get nodes d.work.node ≡ Some node → IsNodePicture plan d.work.node node → IsReady node.desk
    → IsDone d → Fits (view_of plan stop nodes) d.work → d.state ≡ lockstep plan (node.moves + 1) d.work.node
done-next plan stop nodes d node at p ready done f =
    let k = fits_tells plan stop nodes d.work node at p f in
    next-is plan d.work.node node d.state p ready (same_completes d.work.node d.state k.0 k.1 k.2 k.3 k.4 done.completes)

-- a node that could move is ready
pub node_moved : (plan : PlanView) (stop : ℕ) (nodes : List Node) (u : ℕ) (node : Node) → IsDrawn plan nodes → answer_of plan.network stop (counts_of nodes) (Write u) ≡ Moved → node ≡ get_or nodes u node
    → (u < length nodes) × (slice_get nodes u ≡ Some node) × IsNodePicture plan u node × IsReady node.desk
node_moved plan stop nodes u node drawn e r =
    let m = answer-moved plan.network stop (counts_of nodes) u e in
    let inside : u < length nodes = (let a = m.0 in let b = drawn.one_each in omega arith) in
    let at : slice_get nodes u ≡ Some node = slice_get_read nodes (length nodes) u node refl inside r in
    let p = drawn.each u node at in
    (inside, at, p, marked_ready nodes u (degree plan.network u) node at p.slots m.2)

-- what a ready node has gives its next state
pub next-had : (plan : PlanView) (u : ℕ) (node : Node) → IsNodePicture plan u node → IsReady node.desk → next_of (had plan u node) ≡ lockstep plan (node.moves + 1) u
next-had plan u node p ready =
    let many = length node.desk.marks in
    let own = node.register.current in
    next-is plan u node (next_of (had plan u node)) p ready (λ nears whole sums.
    ap (finished plan.program node.moves u many own) sums
    ∙ finished_all plan.program node.moves u many own nears
    ∙ ap (λ n. next_at plan.program (here_at plan.program node.moves u n own nears)) (sym whole))
