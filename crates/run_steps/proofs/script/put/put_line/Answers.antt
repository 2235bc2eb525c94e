use Rattle.std.proofs.Common.{◌≡◌, length, arith}
use Rattle.run_steps.proofs.script.Answering.{answer-act, answer-repeat, answer-end}
use Rattle.run_steps.proofs.script.put.put_line.Goals as goal

pub returns-in-Act : goal.returns-in-Act
returns-in-Act c =
    record {
      put = answer-act c.args.network.now c.args.number (record { steps = c.args.steps.now.items; opens = c.args.opens.now.items }) c.args.line c.put_action.result c.in-Act.action c.put_action.new.steps.items c.in-Act.is c.put_action.ensures.put;
    }

pub returns-in-Repeat : goal.returns-in-Repeat
returns-in-Repeat c =
    let begun = c.begin_repeat.ensures in
    let start : c.len.result ≡ length c.args.steps.now.items = omega arith in
    record {
      put = answer-repeat c.args.network.now c.args.number (record { steps = c.args.steps.now.items; opens = c.args.opens.now.items }) c.args.line c.begin_repeat.result c.in-Repeat.count c.len.result c.begin_repeat.new.opens.items c.in-Repeat.is start begun.room begun.opened begun.refused;
    }

pub returns-in-End : goal.returns-in-End
returns-in-End c =
    record {
      put = answer-end c.args.network.now c.args.number (record { steps = c.args.steps.now.items; opens = c.args.opens.now.items }) c.args.line c.end_repeat.result (record { steps = c.end_repeat.new.steps.items; opens = c.end_repeat.new.opens.items }) c.in-End.is c.end_repeat.ensures.put;
    }
