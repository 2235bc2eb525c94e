-- Lists without a fault hold a network.
use Rattle.std.proofs.Common.{◌≡◌, ℕ, ◌-◌, ◌≤◌, Bool, true, false, not, ◌&&◌, ◌||◌, eqb, nat_lt, List, [], ◌∷◌, length, Option, Some, None, if◌then◌else◌, refl, arith}
use Rattle.std.proofs.lemmas.Bool.Decides.{nat_tests}
use Rattle.std.proofs.lemmas.List.{length-replicate}
use Rattle.link_net.specs.Limits.{most_rows}
use Rattle.link_net.proofs.Searches.{none_mapped}
use Rattle.large_net.specs.Large.{AreLaidOut}
use Rattle.large_net.specs.declared.fault.LargeFault.TheVariants.{NodeCount}
use Rattle.large_net.specs.File.{rows_fault}
use Rattle.large_net.proofs.Sound.{sound_lists}
use Rattle.app_calls.specs.declared.large.fault.ListsFault.{ListsFault}
use Rattle.app_calls.specs.declared.large.fault.ListsFault.TheVariants.{Rows, WeightCount}
use Rattle.app_calls.specs.Lists.{given_weights, lists_fault}

-- none of three is told
neither_told : (a b : Bool) (f g : ListsFault) (rest : Option ListsFault) → (if a then Some f else if b then Some g else rest) ≡ None → (a ≡ false) × (b ≡ false) × (rest ≡ None)
neither_told true b f g rest h = absurd cc
neither_told false true f g rest h = absurd cc
neither_told false false f g rest h = (refl, refl, h)

-- there is a weight for each neighbour
paired : (ns ws : List ℕ) → (not (eqb (length ws) 0) && not (eqb (length ws) (length ns))) ≡ false → length (given_weights ns ws) ≡ length ns
paired ns [] h = length-replicate (length ns) 1
paired ns (w ∷ ws) h = grind (arith, nat_tests)

pub laid_out : (offsets ns ws : List ℕ) → lists_fault offsets ns ws ≡ None → AreLaidOut offsets ns (given_weights ns ws)
laid_out offsets ns ws none =
    let nodes = length offsets - 1 in
    let told = neither_told (eqb nodes 0 || nat_lt most_rows nodes) (not (eqb (length ws) 0) && not (eqb (length ws) (length ns))) (Rows (NodeCount nodes)) (WeightCount (length ws)) _ none in
    let count = told.0 in
    let some : 2 ≤ length offsets = grind (arith, nat_tests) in
    let few : length offsets ≤ 4294967296 = grind (arith, nat_tests) in
    sound_lists offsets ns (given_weights ns ws) some few (paired ns ws told.1) (none_mapped Rows (rows_fault offsets ns) told.2)
