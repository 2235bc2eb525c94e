-- A cause and the reading that it refuses.
use Rattle.std.proofs.Common.{◌≡◌, Option, Some, None, option_map, Result, Ok, Err, IfSome, IsNone, refl, sym, ap}
use Rattle.link_net.specs.declared.cause.NetCause.{NetCause}
use Rattle.link_net.specs.declared.fault.NetFault.{NetFault}
use Rattle.link_net.specs.Causes.{fault_of, refusal_of}

-- where a cause is found whose fault is the refusal, the reading is that refusal
pub refused_by : {A : Type 0} (found : Option NetCause) (r : Result A NetFault) → option_map fault_of found ≡ refusal_of r → IfSome found (λ cause. r ≡ Err (fault_of cause))
refused_by None r h = search
refused_by (Some cause) (Ok x) h = cc
refused_by (Some cause) (Err g) h = let same : fault_of cause ≡ g = cc in ap Err (sym same)

-- where none is found, the network is read
pub read_by : {A : Type 0} (found : Option NetCause) (r : Result A NetFault) → IsNone found → option_map fault_of found ≡ refusal_of r → (x : A) × (r ≡ Ok x)
read_by found (Ok x) none h = (x, refl)
read_by None (Err g) none h = absurd (cc)
read_by (Some cause) (Err g) none h = absurd (cc)
