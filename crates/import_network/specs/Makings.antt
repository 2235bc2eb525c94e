-- How links become networks.
use Rattle.std.specs.Prelude.{ℕ, Bool, Option}
use Rattle.link_net.specs.Limits.{most_nodes, most_rows}
use Rattle.import_formats.specs.declared.matrix_market.matrix.Direction.{Direction}
use Rattle.import_formats.specs.declared.matrix_market.matrix.EntryReading.{EntryReading}
use Rattle.import_network.specs.declared.making.Making.{Making}
use Rattle.import_network.specs.declared.making.Making.TheVariants.{File, Packed}

-- how many nodes there may be
abbrev pub most_of : Making → ℕ
most_of (File mending) = most_nodes
most_of (Packed options) = most_rows

-- the same, but that links of a packed network lead one way or both
abbrev pub led : Bool → Making → Making
led is_directed (File mending) = File mending
led is_directed (Packed options) = Packed (record {
  nodes = options.nodes;
  is_directed = is_directed;
  reverse = options.reverse;
  factor = options.factor;
  header = options.header;
  self_loops = options.self_loops;
  parallel = options.parallel;
})

-- how the entries of a matrix are read of which a network is made so
abbrev pub matrix_reading : Making → Direction → Option ℕ → EntryReading
matrix_reading making direction factor = record { most_nodes = most_of making; direction = direction; factor = factor }
