-- Links that are listed from each node to those above it are in order.
use Rattle.std.proofs.Common.{◌≡◌, ℕ, ◌+◌, ◌<◌, ◌≤◌, nat_lt, List, [], ◌∷◌, ◌++◌, length, refl, arith, inl, inr, zero, suc}
use Rattle.std.specs.List.{range_with_len, AllByRecursion, AllPairs}
use Rattle.std.proofs.lemmas.Bool.{cases_Bool}
use Rattle.std.proofs.lemmas.List.Elements.{All-from_recursion}
use Rattle.std.proofs.lemmas.List.Kept.{AllPairs-cons}
use Rattle.link_net.specs.Neighbours.{Neighbours, numbers_below, row, IsNetwork}
use Rattle.net_text.specs.Listing.{Link}
use Rattle.net_initial.specs.Ahead.{links_up, links_from}
use Rattle.net_initial.specs.LinkOrder.{Precedes, AreInOrder}
use Rattle.net_initial.proofs.Rebuilt.{Up, tail_up}
use Rattle.net_initial.proofs.Relisted.{all-append, all_up, all_from}

all_weaker : (P Q : Link → Type 0) (ls : List Link) → ((l : Link) → P l → Q l) → AllByRecursion P ls → AllByRecursion Q ls
all_weaker P Q [] f h = tt
all_weaker P Q (l ∷ ls) f h = (f l h.0, all_weaker P Q ls f h.1)

none_behind : AllPairs Precedes []
none_behind i j d before low = absurd (omega (arith, low))

from_here : (u : ℕ) (ends : List (ℕ × ℕ)) → AllByRecursion (λ l. l.0 ≡ u) (links_up u ends)
from_here u ends = all_up (λ l. l.0 ≡ u) u ends (λ j low high. refl)

from_later : (net : Neighbours) (a k : ℕ) → AllByRecursion (λ l. a ≤ l.0) (links_from net (range_with_len a k))
from_later net a zero = tt
from_later net a (suc k) =
    all-append (λ l. a ≤ l.0) (links_up a (row net a)) (links_from net (range_with_len (a + 1) k))
    (all_weaker (λ l. l.0 ≡ a) (λ l. a ≤ l.0) (links_up a (row net a)) (λ l same. omega (arith, same)) (from_here a (row net a)))
    (all_weaker (λ l. a + 1 ≤ l.0) (λ l. a ≤ l.0) (links_from net (range_with_len (a + 1) k)) (λ l more. omega (arith, more)) (from_later net (a + 1) k))

-- the links from a node, in the order of its neighbours, before those from later nodes
up_before : (u : ℕ) (ends : List (ℕ × ℕ)) (rest : List Link) → Up ends → AllByRecursion (λ l. u + 1 ≤ l.0) rest → AllPairs Precedes rest → AllPairs Precedes (links_up u ends ++ rest)
up_before u [] rest up later order = order
up_before u (a ∷ ends) rest up later order =
    let tail = up_before u ends rest (tail_up a ends up) later order in
    elim (cases_Bool (nat_lt u a.0)) [
      | inl above ↦
          (let link : Link = (u, a.0, a.1) in
          let same_end = all_up (Precedes link) u ends (λ j low high. inr (refl, up 0 (suc j) (omega arith) (omega arith))) in
          let later_end = all_weaker (λ l. u + 1 ≤ l.0) (Precedes link) rest (λ l more. inl (omega (arith, more))) later in
          rw above (AllPairs-cons Precedes link (links_up u ends ++ rest) (All-from_recursion (Precedes link) (links_up u ends ++ rest) (all-append (Precedes link) (links_up u ends) rest same_end later_end)) tail))
      | inr below ↦ rw below tail
    ]

from_rising : (net : Neighbours) → ((u : ℕ) → Up (row net u)) → (a k : ℕ) → AllPairs Precedes (links_from net (range_with_len a k))
from_rising net up a zero = none_behind
from_rising net up a (suc k) = up_before a (row net a) (links_from net (range_with_len (a + 1) k)) (up a) (from_later net (a + 1) k) (from_rising net up (a + 1) k)

pub in_order : (net : Neighbours) → IsNetwork net → AreInOrder (links_from net (numbers_below (length net)))
in_order net whole = record {
  lesser_first = all_from (λ l. l.0 < l.1) net 0 (length net) (λ u j high low more. more);
  rising = from_rising net (λ u i j order low. whole.rising u i j order low) 0 (length net);
}
