use Rattle.std.proofs.Common.{arith, ◌≡◌, ◌∙◌, ◌++◌, ℕ, List, Option, Some, None, sym, ap, append_assoc}
use Rattle.std.specs.Io.KnownBytes.{Consumes}
use Rattle.std.proofs.lemmas.Grind.{common_steps}
use Rattle.std.proofs.lemmas.Result.{IfOk-from_err}
use Rattle.unison_trace.proofs.replay.read_input.Goals as goal

-- what is consumed in two parts is consumed in one
consumes_more : (had left rest : Option (List ℕ)) (xs ys all : List ℕ) → all ≡ xs ++ ys → Consumes had left xs → Consumes left rest ys → Consumes had rest all
consumes_more None left rest xs ys all e h k = tt
consumes_more (Some a) None rest xs ys all e h k = absurd h
consumes_more (Some a) (Some b) None xs ys all e h k = absurd k
consumes_more (Some a) (Some b) (Some d) xs ys all e h k = h ∙ ap (λ t. xs ++ t) k ∙ sym (append_assoc xs ys d) ∙ ap (λ t. t ++ d) (sym e)

pub returns-in_err-given-clause-whole : goal.returns-in_err-given-clause-whole
returns-in_err-given-clause-whole g c = IfOk-from_err _ _ c.from_residual-in_err-given.ensures.0

pub returns-in_err-extend_from_slice-clause-whole :
    goal.returns-in_err-extend_from_slice-clause-whole
returns-in_err-extend_from_slice-clause-whole g c = IfOk-from_err _ _ c.from_residual-in_err-extend_from_slice.ensures.0

pub loop-turn-preserved : goal.loop-turn-preserved
loop-turn-preserved g c = record {
  unmarked = rw c.loop-turn.invariant.unmarked at c.in_ok-given.ensures.mark;
  counted = omega (arith, c.in_ok-given.ensures.calls, c.loop-turn.invariant.counted, c.requires.calls);
  many = grind (arith, common_steps);
  room = omega (arith, c.loop-turn.invariant.room);
  read = consumes_more _ _ _ _ _ _ c.in_ok-extend_from_slice.ensures.items c.loop-turn.invariant.read c.in_ok-given.ensures.bytes.0;
}
