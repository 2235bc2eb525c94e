-- Rows that are lent.
use Rattle.std.proofs.Common.{◌≡◌, ℕ, ◌≤◌, List, [], ◌∷◌, length, map, refl, ap, arith, Option, Some, None, option_map, IfSome, Bor}
use Rattle.std.specs.List.{slice_get, zip}
use Rattle.std.proofs.lemmas.List.{length-map}
use Rattle.std.proofs.lemmas.Option.{get_or_from_slice_get}
use Rattle.link_net.specs.Neighbours.{Neighbours, IsNetwork, AreRows}
use Rattle.link_net.specs.Layout.{IsLaidOut, HoldRows}
use Rattle.link_net.proofs.Looks.{rows_count, column}

-- a network has rows
pub network_rows : (network : Neighbours) → IsNetwork network → AreRows network
network_rows network whole = record {
  nodes = omega (arith, whole.nodes);
  degrees = λ u. omega (arith, whole.degrees u);
  within = whole.within;
}

pub laid_rows : (offsets ns ws : List ℕ) → IsLaidOut offsets ns ws → HoldRows offsets ns ws
laid_rows offsets ns ws laid = record { placed = laid.placed; paired = laid.paired; rows = network_rows _ laid.network }

pub few_rows : (offsets ns ws : List ℕ) → HoldRows offsets ns ws → length offsets ≤ 4294967296
few_rows offsets ns ws hold = omega (arith, hold.rows.nodes, rows_count offsets ns ws)

pub row_short : (r : Option (Bor (List ℕ))) (f : ℕ × ℕ → ℕ) (net : Neighbours) (u : ℕ) → AreRows net
    → option_map (λ s. s.now) r ≡ option_map (λ row. map f row) (slice_get net u) → IfSome r (λ s. length s.now ≤ 4294967295)
row_short None f net u whole is = tt
row_short (Some s) f net u whole is =
    column f s.now net u is (λ row e same.
    omega (arith, ap length same, length-map row f, ap length (get_or_from_slice_get net u row [] e), whole.degrees u))

-- both columns of a row, side by side
pub both_columns : (row : List (ℕ × ℕ)) → zip (map (λ a. a.0) row) (map (λ a. a.1) row) ≡ row
both_columns [] = refl
both_columns (a ∷ row) = ap (λ r. a ∷ r) (both_columns row)
