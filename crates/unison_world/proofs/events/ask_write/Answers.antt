use Rattle.std.proofs.Common.{arith, sym, refl}
use Rattle.std.proofs.lemmas.Bool.{false≢true}
use Rattle.link_net.specs.Neighbours.{degree}
use Rattle.unison_world.specs.Pictures.{counts_of}
use Rattle.unison_world.proofs.Writes.{unstopped_here, ready_marked, unready_marked, answer-ready, answer-unready}
use Rattle.unison_world.proofs.events.ask_write.Goals as goal

pub returns-then-ready : goal.returns-then-ready
returns-then-ready c =
    let items = c.args.nodes.now.items in
    let f = unstopped_here c.args.plan.now c.args.stop items c.args.node c.index-this.result.now c.requires.drawn (omega arith) c.index-this.ensures c.if-this-stop.false in
    record {
      answer = sym (answer-ready c.args.plan.now.network c.args.stop (counts_of items) c.args.node f.inside f.unstopped
          (ready_marked items c.args.node (degree c.args.plan.now.network c.args.node) c.index-this.result.now f.at f.picture.slots (c.if-ready.ensures.all.0 refl)));
    }

pub returns-else-ready : goal.returns-else-ready
returns-else-ready c =
    let items = c.args.nodes.now.items in
    let f = unstopped_here c.args.plan.now c.args.stop items c.args.node c.index-this.result.now c.requires.drawn (omega arith) c.index-this.ensures c.if-this-stop.false in
    record {
      answer = answer-unready c.args.plan.now.network c.args.stop (counts_of items) c.args.node f.inside f.unstopped
          (unready_marked items c.args.node (degree c.args.plan.now.network c.args.node) c.index-this.result.now f.at f.picture.slots (λ r. false≢true (c.if-ready.ensures.all.1 r)));
    }
