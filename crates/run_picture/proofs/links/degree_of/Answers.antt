use Rattle.std.proofs.Common.{◌≡◌, ◌∙◌, ℕ, zero, suc, [], ◌∷◌, ap, length, refl, slice_get}
use Rattle.std.specs.Option.{option_map, unwrap_or}
use Rattle.link_net.specs.Neighbours.{Neighbours, degree}
use Rattle.run_picture.proofs.links.degree_of.Goals as goal

degree_is : (network : Neighbours) (u : ℕ) → unwrap_or (option_map length (slice_get network u)) 0 ≡ degree network u
degree_is [] u = refl
degree_is (row ∷ network) zero = refl
degree_is (row ∷ network) (suc u) = degree_is network u

pub returns : goal.returns
returns c = c.unwrap_or.ensures ∙ ap (λ o. unwrap_or o 0) c.degree.ensures.value ∙ degree_is c.args.network.now c.args.node
