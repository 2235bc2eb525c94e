use Rattle.std.proofs.Common.{◌≡◌, ◌∙◌, ℕ, ap, sym, subst, length}
use Rattle.rule_check.specs.Value.{Rules}
use Rattle.rounds_blocks.specs.Rounds.{HaveWords}
use Rattle.rounds_blocks.specs.Walks.{AreGiven, Walked}
use Rattle.rounds_blocks.proofs.Turns.{with_shares}
use Rattle.rounds_blocks.proofs.walk.Walk.share.Goals as goal

pub all_shares-requires-clause-long : goal.all_shares-requires-clause-long
all_shares-requires-clause-long c =
    let s = c.self.inside in
    let n = length s.network.now in
    subst (λ (nodes : ℕ). HaveWords nodes c.deref.result.now) (sym c.nodes-nodes.ensures.count) (subst (HaveWords n) (sym c.deref.ensures.value) c.self.invariant.long)

pub invariant_of-self : goal.invariant_of-self
invariant_of-self c =
    let s = c.self.inside in
    let given = c.in_ok-self-inside.field-0 in
    let code_is : c.args.code.now ≡ s.block.rules = c.requires.code ∙ sym (ap (λ (w : Walked). w.rules) c.self.view_is) in
    with_shares s.block.rules s.network.now s.batches.now s.activity s.shares given s.from.items s.to.items c.self.invariant
    (subst (λ (rules : Rules). AreGiven rules (length s.network.now) s.batches.now given) code_is
    (subst (λ (nodes : ℕ). AreGiven c.args.code.now nodes s.batches.now given) c.nodes-nodes.ensures.count c.in_ok-self-inside.ensures.shares))
