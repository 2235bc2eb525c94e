use Rattle.std.proofs.Common.{◌≡◌, [], ◌≤◌, length, drop, take}
use Rattle.net_names.specs.Naming.{AreNames}
use Rattle.import_links.specs.Joining.{names_of, names_in}
use Rattle.import_links.proofs.mentions.mentioned.Given as goal

abbrev pub invariant-loop-mention : goal.invariant-loop-mention
invariant-loop-mention l = record {
  names : l.names ≡ names_in [] (names_of (take l.mention-index l.mentions));
  rest : names_in l.names (names_of (drop l.mention-index l.mentions)) ≡ names_in [] (names_of l.mentions);
  are : AreNames l.names;
  few : length l.names ≤ l.fn.most;
}
