-- The frame that the code's references show.
use Rattle.rule_check.specs.declared.run.Frame.{Frame}
use Rattle.std.specs.Prelude.{List}
use Rattle.rule_check.specs.declared.run.Node.{Node}
use Rattle.rule_check.specs.declared.state.Near.{Near}
use Rattle.rule_check.specs.Value.{Rules, Here, here_at}
use Rattle.rule_check.specs.Machine as machine

-- what code is run on, after the references
abbrev pub seen : Frame → machine.Frame
seen f = record { id = f.node.now.id; degree = f.node.now.degree; round = f.node.now.round; own = f.node.now.own.now; near = f.near.now; sums = f.sums.now.words }

-- a node of a program, after its reference
abbrev pub standing : Rules → Node → List Near → Here
standing rules node nears = here_at rules node.round node.id node.degree node.own.now nears
