use Rattle.std.proofs.Common.{◌≡◌, ◌++◌, ◌∷◌, [], arith, drop}
use Rattle.std.proofs.lemmas.Result.{err_from_is_err_and}
use Rattle.std.proofs.lemmas.List.{map_push}
use Rattle.rule_lang.proofs.Bytes.{cut_at}
use Rattle.model_text.specs.View.{item_of, items_of, placed_all}
use Rattle.model_text.proofs.Leads.{stuck_gives, shorter_at, step_at, end_at, some_left}
use Rattle.model_text.proofs.items.items.Goals as goal

pub returns-in_err-next : goal.returns-in_err-next
returns-in_err-next c =
    let p = err_from_is_err_and c.from_residual.result c.from_residual.ensures.1 in
    rw (p.1, p.2) (stuck_gives c.in_err-next.field-0.0 (placed_all c.args.tokens.now) (items_of c.loop-at.items.items) (placed_all (drop c.loop-at.at c.args.tokens.now)) c.loop-at.invariant.0 (some_left c.args.tokens.now c.loop-at.at c.loop-at-test.true) (rw (cut_at c.loop-at.at c.args.tokens.now) at c.in_err-next.ensures))

pub overflow_sub-at : goal.overflow_sub-at
overflow_sub-at c = let h = shorter_at c.args.tokens.now c.in_ok-next.rest.now c.loop-at.at (item_of c.in_ok-next.next) (rw (cut_at c.loop-at.at c.args.tokens.now) at c.in_ok-next.ensures) in omega arith

pub loop-at-smaller : goal.loop-at-smaller
loop-at-smaller c = let h = shorter_at c.args.tokens.now c.in_ok-next.rest.now c.loop-at.at (item_of c.in_ok-next.next) (rw (cut_at c.loop-at.at c.args.tokens.now) at c.in_ok-next.ensures) in let t = c.loop-at-test.true in omega arith

pub loop-at-preserved : goal.loop-at-preserved
loop-at-preserved c =
    let e : items_of c.push.new.self.items ≡ items_of c.loop-at.items.items ++ item_of c.in_ok-next.next ∷ [] = rw c.in_ok-push.ensures.items (map_push _ c.loop-at.items.items c.in_ok-next.next) in
    (rw e (step_at c.args.tokens.now c.in_ok-next.rest.now c.loop-at.at (items_of c.loop-at.items.items) (item_of c.in_ok-next.next) c.loop-at.invariant.1 c.loop-at.invariant.0 (rw (cut_at c.loop-at.at c.args.tokens.now) at c.in_ok-next.ensures)), omega arith)

pub returns : goal.returns
returns c = end_at c.args.tokens.now c.loop-at.at (items_of c.loop-at.items.items) c.loop-at-test.false c.loop-at.invariant.0
