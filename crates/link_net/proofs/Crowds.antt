-- The first node with too many neighbours, from the places at which each node's arcs begin.
use Rattle.std.proofs.Common.{◌≡◌, ◌∙◌, ℕ, ◌+◌, ◌-◌, ◌<◌, true, false, List, length, get_or, nat_lt, Option, Some, None, is_some, refl, sym, ap, arith}
use Rattle.std.specs.List.{find}
use Rattle.link_net.specs.declared.cause.NetCause.TheVariants as cause
use Rattle.link_net.specs.declared.fault.NetFault.TheVariants.{TooManyNeighbours}
use Rattle.link_net.specs.Arcs.{Arc}
use Rattle.link_net.specs.Causes.{fault_if, IsLinkCause}
use Rattle.link_net.specs.Limits.{most_neighbours}
use Rattle.link_net.specs.Links.{linked_with}
use Rattle.link_net.specs.Neighbours.{numbers_below}
use Rattle.link_net.specs.Reading.{is_crowded}
use Rattle.link_net.proofs.Laying.{AreTables, length_is}
use Rattle.link_net.proofs.Places.{some_find, find_agrees, find_below}

module _ (n : ℕ) (links arcs : List Arc) (offsets : List ℕ) (made : AreTables n links arcs offsets) where
  abbrev long : Option ℕ
  long = find (λ u. nat_lt most_neighbours (get_or offsets (u + 1) 0 - get_or offsets u 0)) (numbers_below (length offsets - 1))

  abbrev crowd : Option ℕ
  crowd = find (λ u. nat_lt most_neighbours (length (linked_with n links u))) (numbers_below n)

  nodes_are : length offsets - 1 ≡ n
  nodes_are = omega (arith, made.count)

  same_node : long ≡ crowd
  same_node =
      ap (λ k. find (λ u. nat_lt most_neighbours (get_or offsets (u + 1) 0 - get_or offsets u 0)) (numbers_below k)) nodes_are
      ∙ find_agrees (λ u. nat_lt most_neighbours (get_or offsets (u + 1) 0 - get_or offsets u 0)) (λ u. nat_lt most_neighbours (length (linked_with n links u))) 0 n
      (λ u low high. ap (nat_lt most_neighbours) (length_is n links arcs offsets made u (omega arith)))

  crowded_is : is_some crowd ≡ is_crowded n links
  crowded_is = some_find (λ u. nat_lt most_neighbours (length (linked_with n links u))) (numbers_below n)

  pub crowd_named : (node count : ℕ) → Some node ≡ long → count ≡ get_or offsets (node + 1) 0 - get_or offsets node 0 → IsLinkCause n links (cause.TooManyNeighbours node count)
  crowd_named node count is many =
      let found : crowd ≡ Some node = sym (is ∙ same_node) in
      let below : node < n = omega (arith, find_below (λ u. nat_lt most_neighbours (length (linked_with n links u))) 0 n node found) in
      (found, many ∙ length_is n links arcs offsets made node below)

  pub crowd_refused : (node : ℕ) → Some node ≡ long → Some TooManyNeighbours ≡ fault_if (is_crowded n links) TooManyNeighbours
  crowd_refused node is =
      let hit : is_crowded n links ≡ true = sym crowded_is ∙ ap is_some (sym (is ∙ same_node)) in
      rw hit refl

  pub no_crowd : None ≡ long → None ≡ fault_if (is_crowded n links) TooManyNeighbours
  no_crowd is =
      let miss : is_crowded n links ≡ false = sym crowded_is ∙ ap is_some (sym (is ∙ same_node)) in
      rw miss refl
