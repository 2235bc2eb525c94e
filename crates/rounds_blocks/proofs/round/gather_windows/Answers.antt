use Rattle.std.proofs.Common.{[], ◌<◌, ◌∙◌, refl, arith, take, length}
use Rattle.std.proofs.lemmas.Bool.{cases_lt}
use Rattle.rounds_code.specs.declared.slot.Slot.{Slot}
use Rattle.rounds_blocks.proofs.Groups.{windows_here, windows_group, windows_are, group_within, slot_is, slot_long}
use Rattle.rounds_blocks.proofs.Steps.{lane_step}
use Rattle.rounds_blocks.proofs.round.gather_windows.Goals as goal

pub take_windows-requires-clause-windows : goal.take_windows-requires-clause-windows
take_windows-requires-clause-windows c =
    let network = c.args.network.now in
    let batch = c.args.batch.now in
    let windows = c.in-Some.windows in
    let have = windows_here network batch windows c.requires.batch c.in-Some.is in
    (length network, windows_are network batch windows c.deref.result.now c.len-count.result have (c.len-count.ensures ∙ windows.places.ok.0) c.deref.ensures.value, c.requires.nodes)

pub take_windows-requires-clause-few : goal.take_windows-requires-clause-few
take_windows-requires-clause-few c =
    let network = c.args.network.now in
    let batch = c.args.batch.now in
    let windows = c.in-Some.windows in
    let n = c.len-count.result in
    let have = windows_here network batch windows c.requires.batch c.in-Some.is in
    let group = take n c.deref.result.now in
    let is = windows_group network batch windows c.deref.result.now n c.requires.batch have (c.len-count.ensures ∙ windows.places.ok.0) c.deref.ensures.value in
    let none : Slot = record { neighbours = []; weights = [] } in
    let first : 0 < length group = omega (arith, is.some, is.many) in
    omega (arith, (slot_is network batch 0 n windows.count group is 0 none first).few, slot_long network batch 0 n windows.count group is 0 none first, c.requires.count)

pub take_windows-requires-clause-within : goal.take_windows-requires-clause-within
take_windows-requires-clause-within c =
    let network = c.args.network.now in
    let batch = c.args.batch.now in
    let windows = c.in-Some.windows in
    let n = c.len-count.result in
    group_within network batch 0 n windows.count (take n c.deref.result.now)
    (windows_group network batch windows c.deref.result.now n c.requires.batch (windows_here network batch windows c.requires.batch c.in-Some.is) (c.len-count.ensures ∙ windows.places.ok.0) c.deref.ensures.value)
    c.args.from.now c.requires.network c.requires.nodes

pub returns-then-take_windows-clause-lanes : goal.returns-then-take_windows-clause-lanes
returns-then-take_windows-clause-lanes c = λ i d inside.
    let a = c.args in
    let batch = a.batch.now in
    let windows = c.in-Some.windows in
    let n = c.len-count.result in
    lane_step a.block.now.rules a.block.now.rules a.network.now a.round a.from.now refl batch 0 n windows.count (take n c.deref.result.now) (record { neighbours = []; weights = [] })
    a.block.now.lanes c.take_windows.new.self.lanes i d c.requires.network
    (windows_group a.network.now batch windows c.deref.result.now n c.requires.batch (windows_here a.network.now batch windows c.requires.batch c.in-Some.is) (c.len-count.ensures ∙ windows.places.ok.0) c.deref.ensures.value)
    c.take_windows.ensures.nodes (c.take_windows.ensures.gathered c.if-take_windows.true) c.take_windows.ensures.others (c.requires.lanes i d inside) inside (cases_lt i windows.count)
