-- The first edge that is refused.
use Rattle.std.proofs.Common.{ℕ, List}
use Rattle.import_lines.specs.declared.mention.Mention.{Mention}
use Rattle.import_lines.specs.Named.{NamedEdge}
use Rattle.import_links.specs.declared.join_fault.JoinFault.{JoinFault}
use Rattle.import_links.specs.declared.join_fault.JoinFault.TheVariants.{BadName, TooManyNodes, Memory}
use Rattle.import_links.specs.Refusals.{IsRefusal, IsFirstBadEdge, IsMentionRefusal, IsFirstBadMention}

pub refused_edge : (most : ℕ) (names : List (List ℕ)) (edges : List NamedEdge) (fault : JoinFault) → IsFirstBadEdge most names edges fault → IsRefusal most names edges fault
refused_edge most names edges (BadName line) bad = bad
refused_edge most names edges (TooManyNodes line) bad = bad
refused_edge most names edges Memory bad = tt

pub refused_mention : (most : ℕ) (mentions : List Mention) (fault : JoinFault) → IsFirstBadMention most mentions fault → IsMentionRefusal most mentions fault
refused_mention most mentions (BadName line) bad = bad
refused_mention most mentions (TooManyNodes line) bad = bad
refused_mention most mentions Memory bad = tt
