use Rattle.std.proofs.Common.{◌≡◌, ◌++◌, drop}
use Rattle.std.specs.Prelude.{map}
use Rattle.model_text.specs.View.{name_of}
use Rattle.model_rules.specs.ScopeView.{named}
use Rattle.model_rules.proofs.naming.add_each.Given as goal

abbrev pub invariant-loop-member : goal.invariant-loop-member
invariant-loop-member l = named l.names.items ++ map name_of (drop l.member-index l.members) ≡ named l.fn.names.items ++ map name_of l.members
