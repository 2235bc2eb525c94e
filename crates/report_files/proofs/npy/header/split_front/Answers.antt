use Rattle.std.proofs.Common.{◌++◌, ◌∙◌, sym}
use Rattle.report_files.proofs.npy.Headers.{shapes, behind_kind, behind_orders, order_once, front_whole}
use Rattle.report_files.proofs.npy.header.split_front.Goals as goal

pub returns-in_err-ordered : goal.returns-in_err-ordered
returns-in_err-ordered c =
    let header = c.args.header.now in
    rw c.from_residual-in_err-ordered.ensures (λ k r front. c.in_err-ordered.ensures _
    (behind_kind header c.in_ok-quoted.quoted.now c.split_before.result.0.now c.split_before.result.1.now k r c.in_ok-quoted.ensures c.split_before.ensures front).1)

pub returns-in_err-rest : goal.returns-in_err-rest
returns-in_err-rest c =
    let header = c.args.header.now in
    let kind = c.split_before.result.0.now in
    let rest = c.split_before.result.1.now in
    rw c.from_residual-in_err-rest.ensures (λ k r front. c.in_err-rest.ensures front.order (shapes ++ r)
    (behind_orders c.in_ok-ordered.ordered.now r front.order rest c.in_ok-ordered.ensures
    (behind_kind header c.in_ok-quoted.quoted.now kind rest k r c.in_ok-quoted.ensures c.split_before.ensures front).1))

pub returns-in_err-shape : goal.returns-in_err-shape
returns-in_err-shape c =
    let header = c.args.header.now in
    let kind = c.split_before.result.0.now in
    let rest = c.split_before.result.1.now in
    let ordered = c.in_ok-ordered.ordered.now in
    rw c.from_residual-in_err-shape.ensures (λ k r front.
    let is = behind_orders ordered r front.order rest c.in_ok-ordered.ensures
    (behind_kind header c.in_ok-quoted.quoted.now kind rest k r c.in_ok-quoted.ensures c.split_before.ensures front).1 in
    c.in_err-shape.ensures r (order_once c.in_ok-rest.ensures.0 front.order c.in_ok-rest.rest.now (shapes ++ r) (sym c.in_ok-rest.ensures.1 ∙ is)).1)

pub returns : goal.returns
returns c =
    front_whole c.args.header.now c.in_ok-quoted.quoted.now c.split_before.result.0.now c.split_before.result.1.now c.in_ok-ordered.ordered.now c.in_ok-rest.rest.now c.in_ok-shape.shape.now
    c.in_ok-rest.ensures.0 c.in_ok-quoted.ensures c.split_before.ensures c.in_ok-ordered.ensures c.in_ok-rest.ensures.1 c.in_ok-shape.ensures
