use Rattle.std.proofs.Common.{◌≡◌, ◌∙◌, ◌+◌, ◌<◌, ◌++◌, ◌∷◌, [], ℕ, List, length, get_or, ap, sym, map, drop}
use Rattle.std.proofs.lemmas.List.{at_drop_more, at_drop_all, append_assoc, append-nil}
use Rattle.std.proofs.lemmas.Result.{IfOk-from_err}
use Rattle.rule_check.specs.declared.state.State.{State}
use Rattle.unison_world.specs.declared.node.Node.{Node}
use Rattle.unison_world.proofs.finishing.states_of.Goals as goal

mapped_more : (xs : List Node) (out pushed : List State) (i : ℕ) (x : Node) (s : State) → i < length xs → x ≡ get_or xs i x → s ≡ x.register.current → pushed ≡ out ++ s ∷ []
    → out ++ map (λ (n : Node). n.register.current) (drop i xs) ≡ map (λ (n : Node). n.register.current) xs
    → pushed ++ map (λ (n : Node). n.register.current) (drop (i + 1) xs) ≡ map (λ (n : Node). n.register.current) xs
mapped_more xs out pushed i x s inside is shows e h =
    let rest = map (λ (n : Node). n.register.current) (drop (i + 1) xs) in
    ap (λ o. o ++ rest) e
    ∙ append_assoc out (s ∷ []) rest
    ∙ ap (λ y. out ++ y ∷ rest) (shows ∙ ap (λ (n : Node). n.register.current) is)
    ∙ ap (λ ys. out ++ ys) (sym (at_drop_more (map (λ (n : Node). n.register.current)) xs i x inside))
    ∙ h

pub returns-in_err-push : goal.returns-in_err-push
returns-in_err-push c = record { states = IfOk-from_err _ _ c.from_residual-in_err-push.ensures.0 }

pub loop-node-preserved : goal.loop-node-preserved
loop-node-preserved c =
    let whole = c.deref-node-items.ensures.value in
    mapped_more c.args.nodes.now.items c.loop-node.states.items c.push.new.self.items c.loop-node.node-index c.node-item.result c.now.result (rw whole at c.loop-node-test.true) (rw whole at c.node-item.is) c.now.ensures.state c.in_ok-push.ensures.items c.loop-node.invariant

pub returns : goal.returns
returns c =
    let items = c.args.nodes.now.items in
    let states = c.loop-node.states.items in
    let past = rw c.deref-node-items.ensures.value at c.loop-node-test.false in
    record {
      states = sym (append-nil states)
          ∙ ap (λ ys. states ++ ys) (sym (at_drop_all (map (λ (n : Node). n.register.current)) items c.loop-node.node-index past))
          ∙ c.loop-node.invariant;
    }
