use Rattle.std.proofs.Common.{rules, ◌≡◌, Some}
use Rattle.serde_json.specs.Find.{as_object}
use Rattle.serde_json.specs.View.{view, members_view}
use Rattle.run_steps.proofs.verify.Members.{size-is}
use Rattle.run_steps.proofs.verify.objects.size_of.Goals as goal

pub returns : goal.returns
returns c =
    let entries = c.in_ok-members.members.now.entries in
    let is : Some (members_view entries) ≡ as_object (view c.args.value.now) = search rules in
    size-is (view c.args.value.now) c.len.result entries is c.len.ensures.len
