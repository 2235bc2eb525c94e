use Rattle.std.proofs.Common.{rules, ◌∙◌, ◌+◌, length, ap, refl, arith}
use Rattle.std.specs.Option.{option_map}
use Rattle.import_lines.specs.Texts.{told_from}
use Rattle.run_steps.proofs.verify.Holding.{told-few, walked-begin, walked-step}
use Rattle.run_steps.proofs.verify.verifying.walk.Goals as goal

pub loop-number-init : goal.loop-number-init
loop-number-init c =
    let w = c.args.world.now in
    let text = c.args.text.now in
    let lines = c.of-lines.result in
    let passed = c.of-lines.ensures.passed in
    let bytes = c.of-lines.ensures.bytes in
    let whole = ap (λ n. length (told_from (n + 1) lines.bytes.now)) passed ∙ ap (λ bs. length (told_from 1 bs)) bytes in
    record {
      room = search rules;
      same_plan = refl;
      same_stop = ap (λ x. x.stop) c.requires.opened;
      before = c.requires.before;
      walked = walked-begin w.plan (option_map (λ n. n.now) c.args.names) w text lines.bytes.now lines.passed refl c.requires.opened passed bytes;
      many = omega (arith, whole);
      some = omega arith;
      small = search rules;
    }

pub overflow_add-said : goal.overflow_add-said
overflow_add-said c =
    let i = c.loop-number.invariant in
    let few = told-few 1 c.args.text.now in
    let many = i.many in
    let small = i.small in
    let here = ap length c.in-Some.ensures.told in
    omega arith

pub overflow_add-valued : goal.overflow_add-valued
overflow_add-valued c =
    let i = c.loop-number.invariant in
    let few = told-few 1 c.args.text.now in
    let many = i.many in
    let small = i.small in
    let some = i.some in
    let most = c.one_if_valued-valued.ensures.most in
    let here = ap length c.in-Some.ensures.told in
    omega arith

pub loop-number-preserved : goal.loop-number-preserved
loop-number-preserved c =
    let i = c.loop-number.invariant in
    let names = option_map (λ n. n.now) c.args.names in
    let e = c.in_ok-entry.entry in
    let w = c.loop-number.world in
    let held = c.in_ok-hold.ensures in
    let here = ap length c.in-Some.ensures.told in
    let many = i.many in
    let some = i.some in
    let most = c.one_if_valued-valued.ensures.most in
    let step = walked-step c.args.world.now.plan names (told_from 1 c.args.text.now) _ _ (c.in-Some.number, c.in-Some.bytes.now) e w c.hold.new.world c.plan.result.now c.loop-number.said c.loop-number.valued c.one_if_valued-valued.result i.same_plan i.same_stop c.plan.ensures.plan c.in-Some.ensures.told i.walked c.in_ok-entry.ensures.exact held.changes held.agrees held.after c.one_if_valued-valued.ensures.one in
    record {
      room = c.in-Some.ensures.room;
      same_plan = step.0;
      same_stop = step.1;
      before = held.before;
      walked = step.2;
      many = omega arith;
      some = omega arith;
      small = i.small;
    }
