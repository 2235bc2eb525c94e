-- Nodes and neighbours that are found.
use Rattle.std.proofs.Common.{◌≡◌, ℕ, Option, Some, None, Ok, Err, refl, ap, ◌∙◌}
use Rattle.std.specs.Option.{ok_or}
use Rattle.link_net.specs.Neighbours.{Neighbours, neighbour_at}
use Rattle.link_net.specs.Simple.{IsSimple}
use Rattle.run_steps.proofs.script.Callings.{place-stands, place-none, stands-place}
use Rattle.run_steps.specs.declared.verify.fault.VerifyFault.{VerifyFault}
use Rattle.run_steps.specs.declared.verify.fault.VerifyFault.TheVariants.{NoNode, NotNeighbour}
use Rattle.run_steps.specs.verify.Nodes.{node_found, slot_to, slot_found}

or-ok : (o : Option ℕ) (e : VerifyFault) (x : ℕ) → ok_or o e ≡ Ok x → o ≡ Some x
or-ok None e x h = absurd (cc)
or-ok (Some y) e x h = cc

or-err : (o : Option ℕ) (e fault : VerifyFault) → ok_or o e ≡ Err fault → (o ≡ None) × (e ≡ fault)
or-err None e fault h = (refl, cc)
or-err (Some y) e fault h = absurd (cc)

pub node-ok : (line : ℕ) (called : Option ℕ) (u : ℕ) → node_found line called ≡ Ok u → called ≡ Some u
node-ok line called u h = or-ok called (NoNode line) u h

pub node-err : (line : ℕ) (called : Option ℕ) (fault : VerifyFault) → node_found line called ≡ Err fault → (called ≡ None) × (NoNode line ≡ fault)
node-err line called fault h = or-err called (NoNode line) fault h

module _ (network : Neighbours) (line u : ℕ) where
  pub slot-ok : (called : Option ℕ) (j : ℕ) → slot_found network line u called ≡ Ok j → (v : ℕ) × (called ≡ Some v) × (neighbour_at network u j ≡ Some v)
  slot-ok None j h = absurd (cc)
  slot-ok (Some v) j h = (v, refl, place-stands network u v j (or-ok (slot_to network u v) (NotNeighbour line) j h))

  pub slot-err : (called : Option ℕ) (fault : VerifyFault) → slot_found network line u called ≡ Err fault → (NotNeighbour line ≡ fault) × ((j v : ℕ) → neighbour_at network u j ≡ Some v → called ≡ Some v → ⊥)
  slot-err None fault h = (cc, λ j v stands is. cc)
  slot-err (Some w) fault h =
      let e = or-err (slot_to network u w) (NotNeighbour line) fault h in
      (e.1, λ j v stands is. (let same : w ≡ v = cc in place-none network u w j e.0 (stands ∙ ap Some (let back : v ≡ w = cc in back))))

  pub slot-there : IsSimple network → (v j : ℕ) → neighbour_at network u j ≡ Some v → slot_found network line u (Some v) ≡ Ok j
  slot-there whole v j stands = ap (λ o. ok_or o (NotNeighbour line)) (stands-place network whole u v j stands)
