use Rattle.std.proofs.Common.{◌≡◌, ◌∙◌, length, map, take, ap, subst, arith, IfOk, IfErr}
use Rattle.std.proofs.lemmas.List.{length-map}
use Rattle.rule_check.specs.Value.{names_of}
use Rattle.report_text.specs.NodeLines.{HasNodeLines, IsStopped}
use Rattle.rounds_plan.proofs.Names.{name_count}
use Rattle.report_text.proofs.report_reader.program_states.Goals as goal

pub returns : goal.returns
returns c =
    let program = c.args.program.now in
    let nodes = c.args.nodes in
    let lines = c.args.lines.now in
    let r = c.read_lines.result in
    let view = map (λ f. f.now) in
    let same : view (take c.field_count.result c.field_names-names.result) ≡ names_of program =
    ap (λ k. view (take k c.field_names-names.result)) c.field_count.ensures.count ∙ c.field_names-names.ensures.names in
    let long : length (take c.field_count.result c.field_names-names.result) ≡ length program.fields =
    let views = length-map (take c.field_count.result c.field_names-names.result) (λ f. f.now) in
    let names = ap length same in
    omega (arith, views, names, name_count program) in
    record {
      ok = subst (λ k. IfOk r (λ v. HasNodeLines (names_of program) k nodes lines v.items)) long (
          subst (λ ns. IfOk r (λ v. HasNodeLines ns (length (take c.field_count.result c.field_names-names.result)) nodes lines v.items)) same c.read_lines.ensures.ok);
      bad = subst (λ k. IfErr r (λ fault. IsStopped (names_of program) k nodes lines fault)) long (
          subst (λ ns. IfErr r (λ fault. IsStopped ns (length (take c.field_count.result c.field_names-names.result)) nodes lines fault)) same c.read_lines.ensures.bad);
    }
