-- One round more among those that are counted.
use Rattle.std.proofs.Common.{◌≡◌, ◌∙◌, ◌++◌, ℕ, List, [], ◌∷◌, Bool, true, false, if◌then◌else◌, Option, All, ap, append_assoc, length, map, refl, subst, sym}
use Rattle.std.proofs.lemmas.List.Elements.{All-push}
use Rattle.rounds_plan.specs.Lockstep.{lockstep_config, lockstep_states}
use Rattle.rounds_plan.specs.Plans.{PlanView}
use Rattle.run_counts.specs.declared.asked.Counting.{Counting}
use Rattle.run_counts.specs.declared.asked.Until.{Until}
use Rattle.run_counts.specs.Rows.{IsRowOf, RowView, is_over, rounds_until}

pushed : (rows : List RowView) (row : RowView) → map (λ (r : RowView). r.round) (rows ++ row ∷ []) ≡ map (λ (r : RowView). r.round) rows ++ row.round ∷ []
pushed [] row = refl
pushed (r ∷ rows) row = ap (λ (xs : List ℕ). r.round ∷ xs) (pushed rows row)

-- a row that is that of round t is that of its own round
own_round : (p : PlanView) (counting : Counting) (row : RowView) (t : ℕ) → IsRowOf counting (lockstep_config p t) row → IsRowOf counting (lockstep_config p row.round) row
own_round p counting row t is = subst (λ (r : ℕ). IsRowOf counting (lockstep_config p r) row) (sym is.round) is

-- the rows of the rounds up to this one
pub each_pushed : (p : PlanView) (counting : Counting) (rows : List RowView) (row : RowView) (t : ℕ)
    → All (λ (r : RowView). IsRowOf counting (lockstep_config p r.round) r) rows → IsRowOf counting (lockstep_config p t) row
    → All (λ (r : RowView). IsRowOf counting (lockstep_config p r.round) r) (rows ++ row ∷ [])
each_pushed p counting rows row t each is = All-push (λ (r : RowView). IsRowOf counting (lockstep_config p r.round) r) rows row each (own_round p counting row t is)

-- where the round does not end them, the others follow
pub goes_on : (p : PlanView) (until : Option Until) (rows : List RowView) (row : RowView) (t : ℕ) (rest all : List ℕ) → row.round ≡ t
    → is_over until (lockstep_states p t (length p.network)) ≡ false → map (λ (r : RowView). r.round) rows ++ rounds_until p until (t ∷ rest) ≡ all
    → map (λ (r : RowView). r.round) (rows ++ row ∷ []) ++ rounds_until p until rest ≡ all
goes_on p until rows row t rest all same more done =
    let before = map (λ (r : RowView). r.round) rows in
    let behind = rounds_until p until rest in
    ap (λ (xs : List ℕ). xs ++ behind) (pushed rows row)
    ∙ ap (λ (r : ℕ). (before ++ r ∷ []) ++ behind) same
    ∙ append_assoc before (t ∷ []) behind
    ∙ sym (ap (λ (b : Bool). before ++ t ∷ (if b then [] else behind)) more)
    ∙ done

-- where the round ends them, it is the last
pub ends : (p : PlanView) (until : Option Until) (rows : List RowView) (row : RowView) (t : ℕ) (rest all : List ℕ) → row.round ≡ t
    → is_over until (lockstep_states p t (length p.network)) ≡ true → map (λ (r : RowView). r.round) rows ++ rounds_until p until (t ∷ rest) ≡ all
    → map (λ (r : RowView). r.round) (rows ++ row ∷ []) ≡ all
ends p until rows row t rest all same over done =
    let before = map (λ (r : RowView). r.round) rows in
    let behind = rounds_until p until rest in
    pushed rows row
    ∙ ap (λ (r : ℕ). before ++ r ∷ []) same
    ∙ sym (ap (λ (b : Bool). before ++ t ∷ (if b then [] else behind)) over)
    ∙ done
