use Rattle.std.proofs.Common.{◌≡◌, ◌≤◌, ◌∙◌, ℕ, List, ap, arith, length, subst, sym}
use Rattle.rule_check.specs.Value.{Rules}
use Rattle.link_net.specs.Neighbours.{Neighbours}
use Rattle.rounds_code.specs.Block.{column_words}
use Rattle.rounds_blocks.specs.Rounds.{HaveWords}
use Rattle.rounds_blocks.specs.Walks.{Walked, state_by}
use Rattle.rounds_blocks.proofs.States.{words_same}
use Rattle.rounds_blocks.proofs.walk.Walk.is_like.Goals as goal

-- the words are the same where the states are
pub returns : goal.returns
returns c =
    let s = c.self.inside in
    let o = c.other.inside in
    let network_is : s.network.now ≡ c.args.self.now.network = ap (λ (w : Walked). w.network) c.self.view_is in
    let networks : o.network.now ≡ s.network.now = ap (λ (w : Walked). w.network) c.other.view_is ∙ c.requires.network ∙ sym network_is in
    let programs : o.block.rules ≡ s.block.rules = ap (λ (w : Walked). w.rules) c.other.view_is ∙ c.requires.rules ∙ sym (ap (λ (w : Walked). w.rules) c.self.view_is) in
    let here : column_words s.from.items ≡ c.args.self.now.words = ap (λ (w : Walked). w.words) c.self.view_is in
    let there : column_words o.from.items ≡ c.args.other.now.words = ap (λ (w : Walked). w.words) c.other.view_is in
    let many : length s.from.items ≡ length o.from.items = c.self.invariant.wide ∙ sym (ap (λ (r : Rules). length r.fields) programs) ∙ sym c.other.invariant.wide in
    let few : length s.from.items ≤ 8 = omega (arith, c.self.invariant.wide, c.self.invariant.few) in
    let long = subst (λ (n : Neighbours). HaveWords (length n) o.from.items) networks c.other.invariant.long in
    let lent = ap column_words c.deref.ensures.value in
    let other_lent = ap column_words c.deref-2.ensures.value in
    record {
      exact = (
        λ same u inside. ap (λ (words : List (List ℕ)). state_by words u) (sym here ∙ sym lent ∙ c.are_same.ensures.exact.0 same ∙ other_lent ∙ there),
        λ each.
            c.are_same.ensures.exact.1
            (lent
            ∙ words_same s.from.items o.from.items (length s.network.now) few many c.self.invariant.long long
            (λ u inside.
            ap (λ (words : List (List ℕ)). state_by words u) here
            ∙ each u (omega (arith, inside, ap length network_is))
            ∙ sym (ap (λ (words : List (List ℕ)). state_by words u) there))
            ∙ sym other_lent),
      );
    }
