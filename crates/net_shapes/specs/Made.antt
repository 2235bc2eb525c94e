-- What the network file of a shape is.
use Rattle.std.specs.Prelude.{◌≡◌, ℕ, List, [], Ok}
use Rattle.link_net.specs.Reading.{reading_of}
use Rattle.net_text.specs.Listing.{Listing, described}
use Rattle.net_shapes.specs.declared.shape.Shape.{Shape}
use Rattle.net_shapes.specs.Shapes.{HasShape}

-- the text is a network file, and it reads to the network of links that have the shape, in phase 0, with no initial values
pub record IsMade (s : Shape) (text : List ℕ) : Type 0 where
  pub list : Listing
  pub shape : HasShape s list
  pub reads : reading_of text ≡ Ok (described list 0 [])
