use Rattle.std.proofs.Common.{◌∙◌, sym}
use Rattle.link_net.proofs.Same.{same_value, same_offsets, same_neighbours, same_weights}
use Rattle.link_net.proofs.lent.NetRows.same.Goals as goal
use Rattle.link_net.proofs.lent.NetRows.same.Goals.{then-eq, else-eq}

pub returns-then-eq-2 : goal.returns-then-eq-2
returns-then-eq-2 c =
    let a = c.self.inside in
    let b = c.other.inside in
    elim c.if-eq.branch [
      | then-eq w ↦ record {
        exact = (
          λ same. same_value a.offsets.now b.offsets.now a.neighbours.now b.neighbours.now a.weights.now b.weights.now c.args.self.now c.args.other.now c.self.view_is c.other.view_is
              (sym c.eq.ensures ∙ w.if-eq.true) (sym w.eq-then-eq.ensures ∙ sym w.value-is ∙ c.if-eq-2.true) (sym c.eq-then-eq-2.ensures ∙ same),
          λ same. c.eq-then-eq-2.ensures ∙ same_weights a.offsets.now b.offsets.now a.neighbours.now b.neighbours.now a.weights.now b.weights.now c.args.self.now c.args.other.now c.self.view_is c.other.view_is c.self.invariant c.other.invariant same,
        );
      }
      | else-eq w ↦ absurd (cc)
    ]

pub returns-else-eq-2 : goal.returns-else-eq-2
returns-else-eq-2 c =
    let a = c.self.inside in
    let b = c.other.inside in
    record {
      exact = (
        λ same. absurd (cc),
        λ same. (elim c.if-eq.branch [
          | then-eq w ↦ w.value-is ∙ w.eq-then-eq.ensures ∙ same_neighbours a.offsets.now b.offsets.now a.neighbours.now b.neighbours.now a.weights.now b.weights.now c.args.self.now c.args.other.now c.self.view_is c.other.view_is c.self.invariant c.other.invariant same
          | else-eq w ↦ absurd (let e = same_offsets a.offsets.now b.offsets.now a.neighbours.now b.neighbours.now a.weights.now b.weights.now c.args.self.now c.args.other.now c.self.view_is c.other.view_is c.self.invariant c.other.invariant same in let f = c.eq.ensures ∙ e in let g = w.if-eq.false in cc)
        ]),
      );
    }
