-- The line of the link at a slot.
use Rattle.std.proofs.Common.{◌≡◌, ◌∙◌, ◌<◌, ◌≤◌, ℕ, zero, suc, List, [], ◌∷◌, Bool, true, false, if◌then◌else◌, ap, arith, length, nat_lt, refl, slice_get, slice_index_or, sym}
use Rattle.std.proofs.lemmas.Bool.Decides.{nat_tests}
use Rattle.std.specs.Option.{option_map, unwrap_or}
use Rattle.link_net.specs.Neighbours.{Neighbours, neighbour, neighbour_at}
use Rattle.run_picture.specs.Nets.{link_stroke, slot_stroke}

in_row : (row : List (ℕ × ℕ)) (j : ℕ) → unwrap_or (option_map (λ (a : ℕ × ℕ). a.0) (slice_get row j)) 0 ≡ (slice_index_or row j (0, 0)).0
in_row [] j = refl
in_row (a ∷ row) zero = refl
in_row (a ∷ row) (suc j) = in_row row j

-- the neighbour at a slot, where 0 stands for none
pub neighbour_is : (network : Neighbours) (u j : ℕ) → unwrap_or (neighbour_at network u j) 0 ≡ neighbour network u j
neighbour_is [] u j = refl
neighbour_is (row ∷ network) zero j = in_row row j
neighbour_is (row ∷ network) (suc u) j = neighbour_is network u j

-- where the neighbour has the greater number, there is a line
pub line_is : (network : Neighbours) (u j w nodes : ℕ) → w ≡ neighbour network u j → nodes ≡ length network → u < w → link_stroke nodes u w ≡ slot_stroke network u j
line_is network u j w nodes to all less =
    let upward : nat_lt u (neighbour network u j) ≡ true = grind (arith, nat_tests, to, less) in
    ap (λ (n : ℕ). link_stroke n u w) all
    ∙ ap (λ (v : ℕ). link_stroke (length network) u v) to
    ∙ sym (ap (λ (b : Bool). if b then link_stroke (length network) u (neighbour network u j) else []) upward)

-- where it has not, there is none
pub none_is : (network : Neighbours) (u j w : ℕ) → w ≡ neighbour network u j → w ≤ u → slot_stroke network u j ≡ []
none_is network u j w to more =
    let down : nat_lt u (neighbour network u j) ≡ false = grind (arith, nat_tests, to, more) in
    ap (λ (b : Bool). if b then link_stroke (length network) u (neighbour network u j) else []) down
