-- The bounds of a network file.
use Rattle.std.specs.Prelude.{ℕ}

-- nodes of a network
abbrev pub most_nodes : ℕ
most_nodes = 65536

-- links of a network
abbrev pub most_links : ℕ
most_links = 262144

-- neighbours of a node
abbrev pub most_neighbours : ℕ
most_neighbours = 4096

-- the greatest weight of a link
abbrev pub most_weight : ℕ
most_weight = 4294967295

-- rows, and neighbours in one of them, that a round can go over
abbrev pub most_rows : ℕ
most_rows = 4294967295
