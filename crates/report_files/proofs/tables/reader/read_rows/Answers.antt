use Rattle.std.proofs.Common.{◌≡◌, ◌∙◌, ◌++◌, ◌∷◌, [], All, length, map, sym, ap, subst, arith, inr}
use Rattle.std.proofs.lemmas.Grind.{common_steps}
use Rattle.std.proofs.lemmas.List.{append-nil}
use Rattle.std.proofs.lemmas.List.Elements.{All-push}
use Rattle.report_files.specs.tables.Tables.{IsRow, row_lines}
use Rattle.report_files.proofs.tables.RowLines.{lines_more}
use Rattle.report_files.proofs.tables.Tables.{is_nothing, is_something}
use Rattle.report_files.proofs.tables.reader.read_rows.Goals as goal

pub returns-then-is_empty-clause-text : goal.returns-then-is_empty-clause-text
returns-then-is_empty-clause-text c =
    let names = map (λ f. f.now) c.args.fields.now in
    let pushed : c.push.new.self.items ≡ c.loop-node.rows.items ++ c.in-Some.row ∷ [] = grind (arith, common_steps) in
    lines_more names c.args.lines.now c.loop-node.rest.now c.in-Some.more.now c.loop-node.rows.items c.loop-node.node c.in-Some.row (omega (arith, c.loop-node.invariant.count)) c.loop-node.invariant.done c.in-Some.ensures.front.0
    ∙ ap (λ t. row_lines names 0 (c.loop-node.rows.items ++ c.in-Some.row ∷ []) ++ t) (is_nothing c.in-Some.more.now c.is_empty.result c.is_empty.ensures c.if-is_empty.true)
    ∙ append-nil (row_lines names 0 (c.loop-node.rows.items ++ c.in-Some.row ∷ []))
    ∙ ap (row_lines names 0) (sym pushed)

pub returns-then-is_empty-clause-rows : goal.returns-then-is_empty-clause-rows
returns-then-is_empty-clause-rows c =
    let fields = length c.args.fields.now in
    let pushed : c.push.new.self.items ≡ c.loop-node.rows.items ++ c.in-Some.row ∷ [] = grind (arith, common_steps) in
    subst (All (IsRow fields c.args.counted)) (sym pushed) (All-push (IsRow fields c.args.counted) c.loop-node.rows.items c.in-Some.row c.loop-node.invariant.fit c.in-Some.ensures.front.1)

pub loop-node-preserved : goal.loop-node-preserved
loop-node-preserved c =
    let names = map (λ f. f.now) c.args.fields.now in
    let fields = length c.args.fields.now in
    let pushed : c.push.new.self.items ≡ c.loop-node.rows.items ++ c.in-Some.row ∷ [] = grind (arith, common_steps) in
    record {
      count = grind (arith, common_steps);
      fit = subst (All (IsRow fields c.args.counted)) (sym pushed) (All-push (IsRow fields c.args.counted) c.loop-node.rows.items c.in-Some.row c.loop-node.invariant.fit c.in-Some.ensures.front.1);
      done =
          lines_more names c.args.lines.now c.loop-node.rest.now c.in-Some.more.now c.loop-node.rows.items c.loop-node.node c.in-Some.row (omega (arith, c.loop-node.invariant.count)) c.loop-node.invariant.done c.in-Some.ensures.front.0
          ∙ ap (λ rows. row_lines names 0 rows ++ c.in-Some.more.now) (sym pushed);
      opened = inr (is_something c.in-Some.more.now c.is_empty.result c.is_empty.ensures c.if-is_empty.false);
    }
