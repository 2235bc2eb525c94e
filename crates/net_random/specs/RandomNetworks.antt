-- Random networks: what is drawn.
use Rattle.std.specs.Prelude.{◌≡◌, ◌<◌, ◌≤◌, ◌+◌, ◌-◌, ◌*◌, ◌/◌, ◌%◌, ◌==◌, min, ℕ, ⊤, Bool, true, false, ◌&&◌, List, [], ◌∷◌, length, map}
use Rattle.std.specs.List.{list_any, filter, flat_map, sum_by, AllByRecursion}
use Rattle.link_net.specs.Links.{AllWithin, is_self_link, has_link_twice, are_linked, linked_with, network_of}
use Rattle.link_net.specs.Neighbours.{numbers_below, degree}
use Rattle.net_text.specs.Listing.{Link}
use Rattle.net_random.specs.declared.random_network.RandomNetwork.{RandomNetwork}

-- how many nodes a random network has; they are numbered from 0
abbrev pub node_count : RandomNetwork → ℕ
node_count (RandomNetwork.Random n k) = n
node_count (RandomNetwork.Tree n) = n
node_count (RandomNetwork.Preferential n e) = n
node_count (RandomNetwork.Regular n d) = n
node_count (RandomNetwork.SmallWorld n k p q) = n

-- how many pairs of different nodes there are among n
abbrev pub pair_count : ℕ → ℕ
pair_count n = n * (n - 1) / 2

-- how many links n nodes have where each is linked with so many before it, or with all of them where they are fewer
abbrev pub grown_count : ℕ → ℕ → ℕ
grown_count each n = sum_by (λ u. min each u) (numbers_below n)

-- how many links a random network has
abbrev pub link_count : RandomNetwork → ℕ
link_count (RandomNetwork.Random n k) = k
link_count (RandomNetwork.Tree n) = n - 1
link_count (RandomNetwork.Preferential n e) = grown_count e n
link_count (RandomNetwork.Regular n d) = n * d / 2
link_count (RandomNetwork.SmallWorld n k p q) = n * k

-- the random network has an odd number of ends of links
abbrev pub has_odd_ends : RandomNetwork → Bool
has_odd_ends (RandomNetwork.Regular n d) = n % 2 == 1 && d % 2 == 1
has_odd_ends wanted = false

-- the random network's links are drawn by trial: whether each node has as many neighbours as it is to have is seen at the end
abbrev pub is_by_trial : RandomNetwork → Bool
is_by_trial (RandomNetwork.Regular n d) = true
is_by_trial wanted = false

-- each link has weight 1 and joins two different nodes below n, and no two links join the same nodes
pub record AreSimpleLinks (n : ℕ) (links : List Link) : Type 0 where
  pub weights : AllByRecursion (λ l. l.2 ≡ 1) links
  pub within : AllWithin n links
  pub apart : list_any is_self_link links ≡ false
  pub once : has_link_twice links ≡ false

-- each node below n is linked with so many of the nodes before it, or with all of them where they are fewer
abbrev pub AreLinkedBack : ℕ → ℕ → List Link → Type 0
AreLinkedBack each n links = (u : ℕ) → u < n → length (linked_with u links u) ≡ min each u

-- how many nodes before it each node is linked with, where the kind of network says this
abbrev pub HasBack : RandomNetwork → List Link → Type 0
HasBack (RandomNetwork.Random n k) links = ⊤
HasBack (RandomNetwork.Tree n) links = AreLinkedBack 1 n links
HasBack (RandomNetwork.Preferential n e) links = AreLinkedBack e n links
HasBack wanted links = ⊤

-- how many neighbours a node of the random network may have
abbrev pub IsDegree : RandomNetwork → ℕ → Type 0
IsDegree (RandomNetwork.Regular n d) k = k ≡ d
IsDegree (RandomNetwork.SmallWorld n near p q) k = near ≤ k
IsDegree wanted k = ⊤

-- each node below n has as many neighbours as such a network has
abbrev pub HasDegrees : RandomNetwork → List Link → Type 0
HasDegrees wanted links = (u : ℕ) → u < node_count wanted → IsDegree wanted (degree (network_of (node_count wanted) links) u)

-- each node of the walk is linked with the one before it, the first with u, and the last node is 0
abbrev pub is_walk : List Link → ℕ → List ℕ → Bool
is_walk links u [] = u == 0
is_walk links u (w ∷ ws) = are_linked links u w && is_walk links w ws

-- each node below n reaches node 0 by links
abbrev pub AllReach : ℕ → List Link → Type 0
AllReach n links = (u : ℕ) → u < n → (walk : List ℕ) × (is_walk links u walk ≡ true)

-- the random network is connected, where the kind of network says this
abbrev pub IsConnected : RandomNetwork → List Link → Type 0
IsConnected (RandomNetwork.Random n k) links = ⊤
IsConnected (RandomNetwork.Tree n) links = AllReach n links
IsConnected (RandomNetwork.Preferential n e) links = 1 ≤ e → AllReach n links
IsConnected wanted links = ⊤

-- the nodes at which links begin
abbrev pub starts : List Link → List ℕ
starts links = map (λ l. l.0) links

-- the link from u to the node that follows it round a ring of n nodes, s nodes lying between
abbrev pub ring_link : ℕ → ℕ → ℕ → Link
ring_link n u s = (u, (u + 1 + s) % n, 1)

-- the links from u to so many that follow it
abbrev pub following : ℕ → ℕ → ℕ → List Link
following n near u = map (ring_link n u) (numbers_below near)

-- the links of a ring of n nodes, each linked with so many that follow it
abbrev pub ring_links : ℕ → ℕ → List Link
ring_links n near = flat_map (following n near) (numbers_below n)

-- how many links begin at each node, where the kind of network says this
abbrev pub HasBegun : RandomNetwork → List Link → Type 0
HasBegun (RandomNetwork.SmallWorld n near p q) links = (u : ℕ) → u < n → length (filter (λ l. l.0 == u) links) ≡ near
HasBegun wanted links = ⊤

-- each link begins at the node where that of a ring begins in its place, and where none is to be led to another node, a
-- share of 0, the links are those of the ring; where the kind of network says this
abbrev pub IsFromRing : RandomNetwork → List Link → Type 0
IsFromRing (RandomNetwork.SmallWorld n near p q) links = (starts links ≡ starts (ring_links n near)) × (p ≡ 0 → links ≡ ring_links n near)
IsFromRing wanted links = ⊤

-- the links may be drawn for the random network
pub record IsOutcome (wanted : RandomNetwork) (links : List Link) : Type 0 where
  pub count : length links ≡ link_count wanted
  pub simple : AreSimpleLinks (node_count wanted) links
  pub back : HasBack wanted links
  pub degrees : HasDegrees wanted links
  pub connected : IsConnected wanted links
  pub begun : HasBegun wanted links
  pub ring : IsFromRing wanted links
