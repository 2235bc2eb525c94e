use Rattle.std.proofs.Common.{◌≡◌, ◌++◌, map, drop}
use Rattle.unison_world.specs.declared.node.Node.{Node}
use Rattle.unison_world.proofs.finishing.states_of.Given as goal

abbrev pub invariant-loop-node : goal.invariant-loop-node
invariant-loop-node l = l.states.items ++ map (λ (n : Node). n.register.current) (drop l.node-index l.nodes.items) ≡ map (λ (n : Node). n.register.current) l.nodes.items
