use Rattle.model_text.specs.View.{tree_of}
use Rattle.std.specs.Prelude.{false}
use Rattle.model_rules.specs.FirstFaults.{fault_in}
use Rattle.model_rules.specs.Parts.{parts_in}
use Rattle.model_rules.specs.Refusals.{item_at, parts_left}
use Rattle.model_rules.specs.ScopeView.{frame_of, later_of}
use Rattle.model_rules.proofs.Parts.{refused_item, faultless_item}
use Rattle.model_rules.proofs.known.item_term.Goals as goal

pub returns-clause-faultless : goal.returns-clause-faultless
returns-clause-faultless c =
    let f = frame_of c.args.scope.now in
    let later = later_of c.args.scope.now in
    let tree = tree_of c.args.tree.now in
    faultless_item c.expression.result (parts_left c.new-room.result) (parts_in f later false tree) (parts_left c.expression.new.room) c.args.at (fault_in f later false tree) c.new-room.ensures.whole c.expression.ensures.taken c.expression.ensures.faultless

pub returns-clause-refused : goal.returns-clause-refused
returns-clause-refused c =
    let f = frame_of c.args.scope.now in
    let later = later_of c.args.scope.now in
    let tree = tree_of c.args.tree.now in
    refused_item c.expression.result (parts_left c.new-room.result) (parts_in f later false tree) (item_at c.new-room.result) c.args.at (fault_in f later false tree) c.new-room.ensures.whole c.new-room.ensures.item c.expression.ensures.refused
