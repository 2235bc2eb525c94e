-- Each shape that nothing refuses has its links, and they are sound.
use Rattle.std.proofs.Common.{◌≡◌, None, refl, true, length}
use Rattle.link_net.specs.Neighbours.{numbers_below}
use Rattle.net_text.specs.Listing.{IsListing}
use Rattle.net_shapes.specs.declared.shape.Shape.{Shape}
use Rattle.net_shapes.specs.Shapes.{node_count, leads, HasShape}
use Rattle.net_shapes.specs.Sizes.{has_size, link_count, refusal_of}
use Rattle.net_shapes.specs.Ahead.{ahead, links_ahead}
use Rattle.net_shapes.proofs.Ahead.{linked, all_between}
use Rattle.net_shapes.proofs.Few.{is_listing}
use Rattle.net_shapes.proofs.Sound.{IsSound, fits}
use Rattle.net_shapes.proofs.Paths.{path_sound}
use Rattle.net_shapes.proofs.Rings.{ring_sound}
use Rattle.net_shapes.proofs.Stars.{star_sound}
use Rattle.net_shapes.proofs.Grids.{grid_sound}
use Rattle.net_shapes.proofs.DiagonalGrids.{diagonal_sound}
use Rattle.net_shapes.proofs.Toruses.{torus_sound}
use Rattle.net_shapes.proofs.Completes.{complete_sound}
use Rattle.net_shapes.proofs.Bipartites.{bipartite_sound}
use Rattle.net_shapes.proofs.Trees.{tree_sound}
use Rattle.net_shapes.proofs.Cubes.{cube_sound}

-- what holds of each shape of a size that it can have
pub sound : (s : Shape) → has_size s ≡ true → IsSound s
sound (Shape.Path n) f = path_sound n f
sound (Shape.Ring n) f = ring_sound n f
sound (Shape.Star n) f = star_sound n f
sound (Shape.Grid w h) f = grid_sound w h f
sound (Shape.DiagonalGrid w h x) f = diagonal_sound w h x f
sound (Shape.Torus w h d) f = torus_sound w h d f
sound (Shape.Complete n) f = complete_sound n f
sound (Shape.Bipartite l r) f = bipartite_sound l r f
sound (Shape.Tree n k) f = tree_sound n k f
sound (Shape.Hypercube d) f = cube_sound d f

pub shape_listing : (s : Shape) → refusal_of s ≡ None → IsListing (record { nodes = node_count s; links = links_ahead (ahead s) (numbers_below (node_count s)) })
shape_listing s h =
    let is = sound s (fits s h).size in
    is_listing (node_count s) (ahead s) (leads s) is.is_ahead (is.has_few (fits s h).neighbours) is.some is.small (rw is.count (fits s h).links)

pub shape_has : (s : Shape) → refusal_of s ≡ None → HasShape s (record { nodes = node_count s; links = links_ahead (ahead s) (numbers_below (node_count s)) })
shape_has s h =
    let is = sound s (fits s h).size in
    record {
      nodes = refl;
      links = linked (node_count s) (ahead s) (leads s) is.is_ahead;
      weights = all_between (λ l. l.2 ≡ 1) (ahead s) 0 (node_count s) (λ u w a b e. refl);
    }

pub shape_count : (s : Shape) → refusal_of s ≡ None → length (links_ahead (ahead s) (numbers_below (node_count s))) ≡ link_count s
shape_count s h = (sound s (fits s h).size).count
