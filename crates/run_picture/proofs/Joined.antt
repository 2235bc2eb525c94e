-- Texts that are joined, of which the first or the last is given in full. They stand for variables here, so that no step opens them.
use Rattle.std.proofs.Common.{◌≡◌, ◌∙◌, ◌++◌, ℕ, List, OnOk, ap, append_assoc, if◌then◌else◌}
use Rattle.std.specs.Prelude.{Result, Ok, Err}
use Rattle.std.specs.Result.{is_ok}

-- what follows where a call succeeds
pub then_ok : {T E P Q : Type 0} (r : Result T E) → (P → Q) → OnOk r P → OnOk r Q
then_ok (Ok x) f p = f p
then_ok (Err e) f p = p

-- what is put after a text where a call succeeds
pub put_behind : {T E : Type 0} (r : Result T E) (text a tail : List ℕ) → text ≡ (if is_ok r then a ++ tail else a) → OnOk r (text ≡ a ++ tail)
put_behind (Ok x) text a tail is = is
put_behind (Err e) text a tail is = tt

-- a text between two others
pub joined : (a b d e head text tail : List ℕ) → b ≡ a ++ head → d ≡ b ++ text → e ≡ d ++ tail → e ≡ a ++ (head ++ (text ++ tail))
joined a b d e head text tail first second third =
    third
    ∙ ap (λ (x : List ℕ). x ++ tail) second
    ∙ ap (λ (x : List ℕ). (x ++ text) ++ tail) first
    ∙ append_assoc (a ++ head) text tail
    ∙ append_assoc a head (text ++ tail)
