use Rattle.std.proofs.Common.{rules, ◌≡◌, Some}
use Rattle.serde_json.specs.Find.{get, as_array}
use Rattle.serde_json.specs.View.{view, items_view}
use Rattle.import_formats.proofs.json.Values.{items_found}
use Rattle.import_formats.proofs.json.members.items_in.Goals as goal

pub returns : goal.returns
returns c =
    let graph = view c.args.graph.now in
    let d = view c.in_ok-get.field-0.now in
    let vs = c.in_ok-items.items.now.items in
    let got : Some d ≡ get c.args.key.now graph = search rules in
    let is : Some (items_view vs) ≡ as_array d = search rules in
    items_found c.args.key.now graph d vs c.as_slice.result.now got is c.as_slice.ensures.value
