use Rattle.std.proofs.Common.{◌≡◌, ◌∙◌, ◌++◌, ◌∷◌, [], All, length, map, sym, ap, subst, arith}
use Rattle.std.proofs.lemmas.Grind.{common_steps}
use Rattle.std.proofs.lemmas.List.Elements.{All-push}
use Rattle.report_text.specs.Report.{node_lines}
use Rattle.report_text.specs.ReadReport.{IsStateOf}
use Rattle.report_text.proofs.NodeLines.{lines_more}
use Rattle.report_text.proofs.report_reader.read_lines.Goals as goal

pub loop-node-preserved : goal.loop-node-preserved
loop-node-preserved c =
    let names = map (λ f. f.now) c.args.fields.now in
    let fields = length c.args.fields.now in
    let pushed : c.push.new.self.items ≡ c.loop-node.states.items ++ c.in-Some.state ∷ [] = grind (arith, common_steps) in
    record {
      count = grind (arith, common_steps);
      fit = subst (All (IsStateOf fields)) (sym pushed) (All-push (IsStateOf fields) c.loop-node.states.items c.in-Some.state c.loop-node.invariant.fit c.in-Some.ensures.1);
      done =
          lines_more names c.args.lines.now c.loop-node.rest.now c.in-Some.more.now c.loop-node.states.items c.loop-node.node c.in-Some.state (omega arith) c.loop-node.invariant.done c.in-Some.ensures.0
          ∙ ap (λ states. node_lines names 0 states ++ c.in-Some.more.now) (sym pushed);
    }
