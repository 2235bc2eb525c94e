use Rattle.std.proofs.Common.{sym, ◌∙◌, arith}
use Rattle.net_text.proofs.Listings.{within_from_test, sound_from_network}
use Rattle.net_text.proofs.link_list.LinkList.new.Goals as goal

pub link_network-requires-clause-within : goal.link_network-requires-clause-within
link_network-requires-clause-within c =
    let passed = rw c.as_slice.ensures.value at (sym c.all_within.ensures.within ∙ c.if-not-all_within.false) in
    rw c.as_slice-2.ensures.value (within_from_test c.args.nodes c.args.links.items passed)

pub invariant_of-result : goal.invariant_of-result
invariant_of-result c =
    let passed = rw c.as_slice.ensures.value at (sym c.all_within.ensures.within ∙ c.if-not-all_within.false) in
    let made = rw c.as_slice-2.ensures.value at c.in_ok-link_network.ensures in
    record {
      some = omega arith;
      small = omega arith;
      within = within_from_test c.args.nodes c.args.links.items passed;
      is_sound = sound_from_network c.args.nodes c.args.links.items _ made;
    }
