-- One turn of each loop over a program's code.
use Rattle.std.proofs.Common.{◌≡◌, ℕ, suc, ◌+◌, ◌<◌, List, [], ◌∷◌, ◌++◌, length, arith, append_assoc, drop, take, map, set, get_or, add-one}
use Rattle.std.proofs.lemmas.List.{drop_more, drop-set-lt}
use Rattle.std.proofs.Math.Seq.{take-suc-set}
use Rattle.rule_check.specs.Value.{updated}

-- one more word is done
pub updated_step : {A B : Type 0} (shape : B → A) (change : A → ℕ → ℕ) (gs : List B) (d : B) (ws : List ℕ) (i v : ℕ) → i < length gs → i < length ws → v ≡ change (shape (get_or gs i d)) (get_or ws i 0) → take (i + 1) (set ws i v) ++ updated change (map shape (drop (i + 1) gs)) (drop (i + 1) (set ws i v)) ≡ take i ws ++ updated change (map shape (drop i gs)) (drop i ws)
updated_step shape change gs d ws i v in_gs in_ws e =
    let below : i < i + 1 = omega arith in
    rw (drop_more gs i d in_gs, drop_more ws i 0 in_ws, drop-set-lt (i + 1) ws i v below, ← e, add-one, take-suc-set) (append_assoc (take i ws) (v ∷ []) (updated change (map shape (drop (suc i) gs)) (drop (suc i) ws)))
