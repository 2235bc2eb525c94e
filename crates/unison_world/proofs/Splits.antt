-- One more mark puts one more neighbour between those that were gathered.
use Rattle.std.proofs.Common.{◌≡◌, ℕ, zero, suc, ◌<◌, ◌≤◌, Bool, true, false, List, [], ◌∷◌, ◌++◌, length, set, get_or, sym, refl, ap, arith}
use Rattle.std.proofs.lemmas.Bool.{false≢true}
use Rattle.rule_check.specs.declared.state.State.{State}
use Rattle.rule_check.specs.declared.state.Near.{Near}
use Rattle.rounds_plan.specs.Lockstep.{near_at}
use Rattle.unison_world.specs.Gathered.{marked_nears}

-- the neighbours before and behind the one at the slot j, which joins them
pub record Splits (at : ℕ → State) (row : List (ℕ × ℕ)) (marks : List Bool) (j : ℕ) : Type 0 where
  pub front : List Near
  pub back : List Near
  pub previous : marked_nears at row marks ≡ front ++ back
  pub joined : marked_nears at row (set marks j true) ≡ front ++ near_at at (get_or row j (0, 0)) ∷ back
  pub few : length (front ++ back) < length row

marked_few : (at : ℕ → State) (row : List (ℕ × ℕ)) (marks : List Bool) → length (marked_nears at row marks) ≤ length row
marked_few at [] marks = omega arith
marked_few at (a ∷ row) [] = omega arith
marked_few at (a ∷ row) (true ∷ marks) = (let h = marked_few at row marks in omega arith)
marked_few at (a ∷ row) (false ∷ marks) = (let h = marked_few at row marks in omega arith)

pub splits : (at : ℕ → State) (row : List (ℕ × ℕ)) (marks : List Bool) (j : ℕ) → j < length row → j < length marks → get_or marks j false ≡ false → Splits at row marks j
splits at [] marks j h l e = absurd (omega arith)
splits at (a ∷ row) [] j h l e = absurd (omega arith)
splits at (a ∷ row) (true ∷ marks) zero h l e = absurd (false≢true (sym e))
splits at (a ∷ row) (false ∷ marks) zero h l e =
    record { front = []; back = marked_nears at row marks; previous = refl; joined = refl; few = (let f = marked_few at row marks in omega arith) }
splits at (a ∷ row) (true ∷ marks) (suc j) h l e =
    let s = splits at row marks j (omega arith) (omega arith) e in
    let f = s.few in
    record { front = near_at at a ∷ s.front; back = s.back; previous = ap (λ ns. near_at at a ∷ ns) s.previous; joined = ap (λ ns. near_at at a ∷ ns) s.joined; few = omega arith }
splits at (a ∷ row) (false ∷ marks) (suc j) h l e =
    let s = splits at row marks j (omega arith) (omega arith) e in
    let f = s.few in
    record { front = s.front; back = s.back; previous = s.previous; joined = s.joined; few = omega arith }
