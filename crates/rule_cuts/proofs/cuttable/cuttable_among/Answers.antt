use Rattle.std.specs.Prelude.{map, zip}
use Rattle.std.specs.List.{filter}
use Rattle.std.proofs.Common.{◌≡◌, ◌∙◌, ◌+◌, ◌++◌, ◌∷◌, [], length, take, refl, sym, subst, arith, length-append}
use Rattle.std.proofs.lemmas.Slice.Zip.{zip_turn, zip_end}
use Rattle.rule_cuts.specs.Cuttable.{placed_of}
use Rattle.rule_cuts.specs.Operations.{can_pass}
use Rattle.rule_cuts.proofs.Turns.{picked, passed_over, all_picked}
use Rattle.rule_cuts.proofs.cuttable.cuttable_among.Goals as goal

pub loop-operation-preserved-in-Continue-1 : goal.loop-operation-preserved-in-Continue-1
loop-operation-preserved-in-Continue-1 c =
    let all = c.args.operations.now in
    let at = c.args.places.now in
    let done = c.loop-operation.yielded in
    let first : c.into_iter-operation-iterator.result.a.rest.now ≡ all = cc in
    let second : c.into_iter-operation-iterator.result.b.rest.now ≡ at = cc in
    let turn = zip_turn all at done c.into_iter-operation-iterator.result c.loop-operation.operation-iterator c.next.new.self c.next.result first second c.loop-operation.yielded_by (c.in-Some.operation, c.in-Some.at) c.in-Some.is c.next.ensures.steps in
    let more : length done + 1 ≡ length (done ++ (c.in-Some.operation, c.in-Some.at) ∷ []) = omega (arith, length-append done ((c.in-Some.operation, c.in-Some.at) ∷ [])) in
    subst (λ n. map placed_of c.push.new.self.items ≡ filter (λ p. can_pass c.args.limits.now p.0) (take n (zip all at))) more
    (picked (λ p. can_pass c.args.limits.now p.0) all at (length done) c.in-Some.operation.now c.in-Some.at.now turn.0 turn.1 (turn.2 _) (turn.3 _)
    c.loop-operation.found.items c.push.new.self.items _ refl (sym c.can_be_cut.ensures.exact ∙ c.if-can_be_cut.true) c.in_ok-push.ensures.items c.loop-operation.invariant)

pub returns : goal.returns
returns c =
    let all = c.args.operations.now in
    let at = c.args.places.now in
    let done = c.loop-operation.yielded in
    let first : c.into_iter-operation-iterator.result.a.rest.now ≡ all = cc in
    let second : c.into_iter-operation-iterator.result.b.rest.now ≡ at = cc in
    record {
      exact =
          c.loop-operation.invariant
          ∙ all_picked (λ p. can_pass c.args.limits.now p.0) all at (length done)
          (zip_end all at done c.into_iter-operation-iterator.result c.loop-operation.operation-iterator c.next.new.self c.next.result first second c.loop-operation.yielded_by c.in-None.is c.next.ensures.steps);
    }

pub loop-operation-preserved : goal.loop-operation-preserved
loop-operation-preserved c =
    let all = c.args.operations.now in
    let at = c.args.places.now in
    let done = c.loop-operation.yielded in
    let first : c.into_iter-operation-iterator.result.a.rest.now ≡ all = cc in
    let second : c.into_iter-operation-iterator.result.b.rest.now ≡ at = cc in
    let turn = zip_turn all at done c.into_iter-operation-iterator.result c.loop-operation.operation-iterator c.next.new.self c.next.result first second c.loop-operation.yielded_by (c.in-Some.operation, c.in-Some.at) c.in-Some.is c.next.ensures.steps in
    let more : length done + 1 ≡ length (done ++ (c.in-Some.operation, c.in-Some.at) ∷ []) = omega (arith, length-append done ((c.in-Some.operation, c.in-Some.at) ∷ [])) in
    subst (λ n. map placed_of c.loop-operation.found.items ≡ filter (λ p. can_pass c.args.limits.now p.0) (take n (zip all at))) more
    (passed_over (λ p. can_pass c.args.limits.now p.0) all at (length done) c.in-Some.operation.now c.in-Some.at.now turn.0 turn.1 (turn.2 _) (turn.3 _)
    c.loop-operation.found.items (sym c.can_be_cut.ensures.exact ∙ c.if-can_be_cut.false) c.loop-operation.invariant)
