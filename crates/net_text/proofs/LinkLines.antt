-- Links that are written one after another.
use Rattle.std.proofs.Common.{◌≡◌, ℕ, ◌+◌, ◌<◌, ◌≤◌, List, [], ◌∷◌, ◌++◌, length, codes, get_or, take, drop, refl, arith, zero, suc}
use Rattle.link_net.specs.Limits.{most_weight}
use Rattle.net_text.specs.Listing.{Link}
use Rattle.net_text.specs.Written.{link_text, link_lines, AllWeights}

-- the lines of the links from place i on begin with that of the link there
pub lines_from : (ls : List Link) (i : ℕ) → i < length ls
    → link_lines (drop i ls) ≡ (codes "\n    " ++ (link_text (get_or ls i (0, 0, 0)) ++ codes ",")) ++ link_lines (drop (i + 1) ls)
lines_from [] i low = absurd (omega arith)
lines_from (l ∷ ls) zero low = refl
lines_from (l ∷ ls) (suc i) low = let on : suc i + 1 ≡ suc (i + 1) = omega arith in rw on (lines_from ls i (omega arith))

-- one more link that has been looked at
pub weights_more : (ls : List Link) (i : ℕ) → i < length ls → AllWeights (take i ls) → (get_or ls i (0, 0, 0)).2 ≤ most_weight → AllWeights (take (i + 1) ls)
weights_more [] i low all here = absurd (omega arith)
weights_more (l ∷ ls) zero low all here = (here, tt)
weights_more (l ∷ ls) (suc i) low all here = let on : suc i + 1 ≡ suc (i + 1) = omega arith in rw on (all.0, weights_more ls i (omega arith) all.1 here)
