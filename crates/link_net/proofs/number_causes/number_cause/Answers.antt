use Rattle.std.proofs.Common.{◌≡◌, ◌∙◌, ◌-◌, ℕ, Bool, List, map, true, false, not, Option, Some, None, is_none, is_some, refl, sym, ap, arith}
use Rattle.link_net.specs.Causes.{refusal_of, IsLinkCause}
use Rattle.link_net.specs.Limits.{most_nodes}
use Rattle.link_net.specs.Reading.{number_in, all_placed}
use Rattle.link_net.specs.Tables.{settled, network_in}
use Rattle.link_net.proofs.Describing.{from_read}
use Rattle.link_net.proofs.DraftRefusals.{astray_refusal, links_refusal, phase_refusal, weight_refusal, no_refusal}
use Rattle.link_net.proofs.LinkSteps.{Half}
use Rattle.link_net.proofs.Refusals.{none_from_is_none, link_cause_of, number_cause_of}
use Rattle.link_net.proofs.number_causes.number_cause.Goals as goal
use Rattle.link_net.proofs.number_causes.number_cause.Goals.{In-Some, In-Ok, In_default-2, After-is_none}

nodes_read : (c : In-Some) → number_in 1 most_nodes c.args.draft.now.nodes ≡ Some c.in-Some.nodes
nodes_read c = grind arith

links_read : (c : In-Ok) → (ls : List Half) × (all_placed (c.in-Some.nodes - 1) c.args.draft.now.links ≡ Some ls) × (c.in-Ok.links.items ≡ map settled ls)
links_read c = from_read _ c.in-Ok.links.items (rw c.as_slice-2.ensures at c.in-Ok.ensures.answer)

fine : (c : In_default-2) (ls : List Half) → c.in-Ok.links.items ≡ map settled ls → None ≡ refusal_of (network_in c.in-Some.nodes (map settled ls))
fine c ls is = rw (c.in_default-2.is, c.as_slice-3.ensures.value, is) at c.in_ok-cause.ensures.agrees

turned : (r : Bool) (o : Option ℕ) → is_some o ≡ not r → r ≡ is_none o
turned true None h = refl
turned true (Some x) h = cc
turned false None h = cc
turned false (Some x) h = refl

phase_seen : (c : After-is_none) → c.is_none.result ≡ is_none (number_in 0 2 c.args.draft.now.phase)
phase_seen c =
    let looked : c.number_in-2.result ≡ number_in 0 2 c.args.draft.now.phase = grind arith in
    turned c.is_none.result c.number_in-2.result c.is_none.ensures ∙ ap is_none looked

pub returns-in-Some-astray_link-clause-agrees : goal.returns-in-Some-astray_link-clause-agrees
returns-in-Some-astray_link-clause-agrees c =
    let b = (goal.at.returns-in-Some-astray_link-clause-agrees c).In-Some in
    astray_refusal c.args.draft.now c.in-Some.nodes (nodes_read b) c.in-Some-astray_link.link (sym (rw c.as_slice.ensures at c.in-Some-astray_link.ensures))

pub returns-in-Some-astray_link-clause-named : goal.returns-in-Some-astray_link-clause-named
returns-in-Some-astray_link-clause-named c =
    let b = (goal.at.returns-in-Some-astray_link-clause-named c).In-Some in
    rw (nodes_read b) (sym (rw c.as_slice.ensures at c.in-Some-astray_link.ensures))

pub returns-in-Some-2-clause-agrees : goal.returns-in-Some-2-clause-agrees
returns-in-Some-2-clause-agrees c =
    let n = nodes_read (goal.at.returns-in-Some-2-clause-agrees c).In-Some in
    let read = links_read (goal.at.returns-in-Some-2-clause-agrees c).In-Ok in
    links_refusal c.args.draft.now c.in-Some.nodes n read.0 read.1 _ (rw (c.in-Some-2.is, c.as_slice-3.ensures.value, read.2) at c.in_ok-cause.ensures.agrees)

pub returns-in-Some-2-clause-named : goal.returns-in-Some-2-clause-named
returns-in-Some-2-clause-named c =
    let n = nodes_read (goal.at.returns-in-Some-2-clause-named c).In-Some in
    let read = links_read (goal.at.returns-in-Some-2-clause-named c).In-Ok in
    let named : IsLinkCause c.in-Some.nodes (map settled read.0) c.in-Some-2.cause = rw (c.in-Some-2.is, c.as_slice-3.ensures.value, read.2) at c.in_ok-cause.ensures.named in
    number_cause_of c.args.draft.now c.in-Some.nodes read.0 c.in-Some-2.cause n read.1 (link_cause_of c.in-Some.nodes read.0 c.in-Some-2.cause named)

pub returns-then-is_none-clause-agrees : goal.returns-then-is_none-clause-agrees
returns-then-is_none-clause-agrees c =
    let n = nodes_read (goal.at.returns-then-is_none-clause-agrees c).In-Some in
    let read = links_read (goal.at.returns-then-is_none-clause-agrees c).In-Ok in
    let sound = fine (goal.at.returns-then-is_none-clause-agrees c).In_default-2 read.0 read.2 in
    let phase = sym (phase_seen (goal.at.returns-then-is_none-clause-agrees c).After-is_none) ∙ c.if-is_none.true in
    phase_refusal c.args.draft.now c.in-Some.nodes n read.0 read.1 sound (none_from_is_none _ phase)

pub returns-in_default-off_link-clause-agrees : goal.returns-in_default-off_link-clause-agrees
returns-in_default-off_link-clause-agrees c =
    let n = nodes_read (goal.at.returns-in_default-off_link-clause-agrees c).In-Some in
    let read = links_read (goal.at.returns-in_default-off_link-clause-agrees c).In-Ok in
    let sound = fine (goal.at.returns-in_default-off_link-clause-agrees c).In_default-2 read.0 read.2 in
    let phase = sym (phase_seen (goal.at.returns-in_default-off_link-clause-agrees c).After-is_none) ∙ c.if-is_none.false in
    no_refusal c.args.draft.now c.in-Some.nodes n read.0 read.1 sound phase (sym (rw c.as_slice-4.ensures at c.in_default-off_link.ensures))

pub returns-clause-agrees : goal.returns-clause-agrees
returns-clause-agrees c =
    let n = nodes_read (goal.at.returns-clause-agrees c).In-Some in
    let read = links_read (goal.at.returns-clause-agrees c).In-Ok in
    let sound = fine (goal.at.returns-clause-agrees c).In_default-2 read.0 read.2 in
    let phase = sym (phase_seen (goal.at.returns-clause-agrees c).After-is_none) ∙ c.if-is_none.false in
    weight_refusal c.args.draft.now c.in-Some.nodes n read.0 read.1 sound c.in-Some-off_link.link phase (sym (rw c.as_slice-4.ensures at c.in-Some-off_link.ensures))

pub returns-clause-named : goal.returns-clause-named
returns-clause-named c = sym (rw c.as_slice-4.ensures at c.in-Some-off_link.ensures)
