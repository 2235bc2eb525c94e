use Rattle.std.proofs.Common.{◌∙◌, ◌≤◌, ◌<◌, All, Some, ap, length, map, subst, sym}
use Rattle.rounds_plan.specs.Plans.{PlanView}
use Rattle.serde_json.specs.Data.{Data, depth}
use Rattle.serde_json.specs.Read.{max_depth}
use Rattle.serde_json.specs.View.{view}
use Rattle.serde_json.specs.Written.{compact_text}
use Rattle.unison_trace.specs.Histories.{answers_of}
use Rattle.unison_world.specs.Counting.{answers}
use Rattle.run_naive.specs.Writing.{all_written}
use Rattle.run_watch.specs.Spans.{rounds_in}
use Rattle.run_page.specs.Closed.{IsClosed}
use Rattle.run_page.specs.Pages.{code_of, naive_page, reached_naively}
use Rattle.run_page.proofs.Fitting.{steps_fit}
use Rattle.run_page.proofs.Shapes.{naive_shaped}
use Rattle.run_page.proofs.Stepping.{naive_is, same_plan}
use Rattle.run_page.proofs.naive.text.Goals as goal

pub page-requires-clause-fields : goal.page-requires-clause-fields
page-requires-clause-fields g c κs within =
    let w = c.args.world.now in
    let plan = same_plan w c.args.steps.now c.requires.opened c.make.new.world c.in_ok-answers.ensures.made c.plan-3.result.now c.plan-3.ensures.plan in
    subst (λ (p : PlanView). All (λ place. place < length p.program.fields) c.args.look.now.fields.now) (sym plan) (steps_fit w.plan w.stop c.args.look.now c.requires.fits).2

pub text_of-requires-clause-closed : goal.text_of-requires-clause-closed
unfolding naive_page
text_of-requires-clause-closed g c =
    let w = c.args.world.now in
    let steps = c.args.steps.now in
    let look = c.args.look.now in
    let told = map code_of (answers w.plan.network w.stop w.counts steps) in
    let writes = c.in_ok-writes in
    let page =
    naive_is w steps c.requires.opened c.make.new.world c.in_ok-answers.ensures.made look c.plan-3.result.now c.plan.result.now c.stop-2.result c.stop.result c.reached_naively-span.result
    writes.writes.last c.deref.result.now (view c.in_ok-page.page) c.plan-3.ensures.plan c.stop-2.ensures.stop c.plan.ensures.plan c.stop.ensures.stop c.reached_naively-span.ensures.span
    writes.ensures.last (c.deref.ensures.value ∙ writes.ensures.states) (c.in_ok-page.ensures told c.in_ok-answers.ensures.answers) in
    subst IsClosed (sym page) (naive_shaped w.plan w.stop steps look (map code_of (answers_of w.plan w.stop steps)) (rounds_in (reached_naively w.plan w.stop steps)) (all_written w.plan w.stop steps)).0

pub text_of-requires-clause-shallow : goal.text_of-requires-clause-shallow
unfolding naive_page
text_of-requires-clause-shallow g c =
    let w = c.args.world.now in
    let steps = c.args.steps.now in
    let look = c.args.look.now in
    let told = map code_of (answers w.plan.network w.stop w.counts steps) in
    let writes = c.in_ok-writes in
    let page =
    naive_is w steps c.requires.opened c.make.new.world c.in_ok-answers.ensures.made look c.plan-3.result.now c.plan.result.now c.stop-2.result c.stop.result c.reached_naively-span.result
    writes.writes.last c.deref.result.now (view c.in_ok-page.page) c.plan-3.ensures.plan c.stop-2.ensures.stop c.plan.ensures.plan c.stop.ensures.stop c.reached_naively-span.ensures.span
    writes.ensures.last (c.deref.ensures.value ∙ writes.ensures.states) (c.in_ok-page.ensures told c.in_ok-answers.ensures.answers) in
    subst (λ (d : Data). depth d ≤ max_depth) (sym page) (naive_shaped w.plan w.stop steps look (map code_of (answers_of w.plan w.stop steps)) (rounds_in (reached_naively w.plan w.stop steps)) (all_written w.plan w.stop steps)).1

pub returns-clause-text : goal.returns-clause-text
returns-clause-text g c =
    let w = c.args.world.now in
    let steps = c.args.steps.now in
    let look = c.args.look.now in
    let told = map code_of (answers w.plan.network w.stop w.counts steps) in
    let writes = c.in_ok-writes in
    let page =
    naive_is w steps c.requires.opened c.make.new.world c.in_ok-answers.ensures.made look c.plan-3.result.now c.plan.result.now c.stop-2.result c.stop.result c.reached_naively-span.result
    writes.writes.last c.deref.result.now (view c.in_ok-page.page) c.plan-3.ensures.plan c.stop-2.ensures.stop c.plan.ensures.plan c.stop.ensures.stop c.reached_naively-span.ensures.span
    writes.ensures.last (c.deref.ensures.value ∙ writes.ensures.states) (c.in_ok-page.ensures told c.in_ok-answers.ensures.answers) in
    c.in_ok-text.ensures.text ∙ ap compact_text page

pub returns-clause-reads_back : goal.returns-clause-reads_back
returns-clause-reads_back g c =
    let w = c.args.world.now in
    let steps = c.args.steps.now in
    let look = c.args.look.now in
    let told = map code_of (answers w.plan.network w.stop w.counts steps) in
    let writes = c.in_ok-writes in
    let page =
    naive_is w steps c.requires.opened c.make.new.world c.in_ok-answers.ensures.made look c.plan-3.result.now c.plan.result.now c.stop-2.result c.stop.result c.reached_naively-span.result
    writes.writes.last c.deref.result.now (view c.in_ok-page.page) c.plan-3.ensures.plan c.stop-2.ensures.stop c.plan.ensures.plan c.stop.ensures.stop c.reached_naively-span.ensures.span
    writes.ensures.last (c.deref.ensures.value ∙ writes.ensures.states) (c.in_ok-page.ensures told c.in_ok-answers.ensures.answers) in
    c.in_ok-text.ensures.reads_back ∙ ap Some page
