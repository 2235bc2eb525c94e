use Rattle.std.proofs.Common.{◌≡◌, subst, sym, arith, inl, inr}
use Rattle.std.proofs.lemmas.Bool.{cases_lt}
use Rattle.net_facts.specs.Distances.{IsDistance, IsWithin}
use Rattle.net_facts.specs.Parts.{AreJoined}
use Rattle.net_facts.proofs.walks.diameter.Goals as goal

pub loop-node-preserved : goal.loop-node-preserved
loop-node-preserved c =
    let network = c.args.network.now in
    let node = c.loop-node.node in
    let so_far = c.loop-node.greatest in
    let here = c.in_ok-eccentricity.field-0 in
    let most = c.max-greatest.result in
    let far = c.loop-node.invariant.far in
    let own = c.in_ok-eccentricity.ensures.distance in
    record {
      far = elim (cases_lt so_far here) [
        | inl more ↦
            (let is : here ≡ most = omega (arith, c.max-greatest.ensures) in
            (node, own.far.0, omega (arith, c.loop-node-test.true, c.nodes-node-end.ensures.count), subst (IsDistance network node own.far.0) is own.far.1))
        | inr less ↦
            (let is : so_far ≡ most = omega (arith, c.max-greatest.ensures) in
            (far.0, far.1, far.2, subst (IsDistance network far.0 far.1) is far.3))
      ];
      within = λ u w below joined. elim (cases_lt u node) [
        | inl before ↦ (let way = c.loop-node.invariant.within u w before joined in (way.0, way.1, omega (arith, way.2, c.max-greatest.ensures)))
        | inr last ↦
            (let same : u ≡ node = omega arith in
            let way = own.within w (subst (λ x. AreJoined network x w) same joined) in
            subst (λ x. IsWithin network x w most) (sym same) (way.0, way.1, omega (arith, way.2, c.max-greatest.ensures)))
      ];
    }
