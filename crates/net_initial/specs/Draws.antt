-- What is drawn, and how much of it.
use Rattle.std.specs.Prelude.{◌≡◌, ◌<◌, ℕ, zero, suc, ◌+◌, ◌*◌, List, [], ◌∷◌, length, take, slice_index}
use Rattle.std.specs.List.{sum}
use Rattle.rand_core.specs.Stream.{Stream}
use Rattle.rand_core.specs.Steps.{stream_of, steps_u64_low}
use Rattle.rand_core.specs.Pcg32Seed.{pcg32_seed}
use Rattle.rand_pcg.specs.Pcg.{pcg64, pcg64_of_seed}
use Rattle.rand.specs.Uniform.{canon, usize_between}
use Rattle.import_lines.specs.Weights.{nearest}
use Rattle.net_initial.specs.declared.amount.Amount.{Amount}
use Rattle.net_initial.specs.declared.draw.DrawFault.{DrawFault}
use Rattle.net_initial.specs.declared.draw.DrawFault.TheVariants.{TooManyNodes, Memory}

-- how many of n nodes are drawn; a share is so many millionths of a percent, and the nearest whole number counts, a half rounded up
abbrev pub amount_of : Amount → ℕ → ℕ
amount_of (Amount.Count count) n = count
amount_of (Amount.Share share) n = nearest (n * share) 100000000

-- the counts before a place leave so many of n nodes, and the count there is more
abbrev pub IsBeyond : ℕ → List ℕ → DrawFault → Type 0
IsBeyond n counts (TooManyNodes place left) = (place < length counts) × (sum (take place counts) + left ≡ n) × (left < slice_index counts place)
IsBeyond n counts Memory = ⊥

-- the words of the generator PCG XSL RR 128/64 that a seed starts
abbrev pub stream_by : ℕ → Stream
stream_by seed = stream_of (steps_u64_low pcg64) (pcg64_of_seed (pcg32_seed 32 seed))

-- so many numbers from low to high, each drawn by Canon's method from what the draws before it leave of the stream
abbrev pub values_from : ℕ → ℕ → ℕ → Stream → List ℕ
values_from zero low high s = []
values_from (suc k) low high s = (usize_between canon low high s).0 ∷ values_from k low high (usize_between canon low high s).1
