use Rattle.std.proofs.Common.{◌≡◌, ◌∙◌, ◌++◌, ◌<◌, ◌≤◌, List, ℕ, ap, append-nil, arith, string_bytes, sym}
use Rattle.std.specs.Option.{unwrap_or}
use Rattle.link_net.specs.Neighbours.{neighbour}
use Rattle.run_picture.specs.declared.places.Place.{Place}
use Rattle.run_picture.specs.Nets.{stroke_text}
use Rattle.run_picture.specs.Standing.{place_of}
use Rattle.run_picture.proofs.StrokeSlots.{line_is, neighbour_is, none_is}
use Rattle.run_picture.proofs.strokes.put_slot.Goals as goal

pub returns-in_ok-put_stroke : goal.returns-in_ok-put_stroke
returns-in_ok-put_stroke c =
    let network = c.args.network.now in
    let u = c.args.node in
    let w = c.unwrap_or-neighbour.result in
    let nodes = c.nodes-nodes.result in
    let out = string_bytes c.args.out.now in
    let to : w ≡ neighbour network u c.args.slot = c.unwrap_or-neighbour.ensures ∙ ap (λ o. unwrap_or o 0) c.neighbour.ensures.value ∙ neighbour_is network u c.args.slot in
    let less : u < w = omega (arith, c.if-node-neighbour.true) in
    record {
      text = c.in_ok-put_stroke.ensures.text
          ∙ ap (λ (p : Place). out ++ stroke_text p c.place_of-to.result) c.place_of-from.ensures.place
          ∙ ap (λ (q : Place). out ++ stroke_text (place_of nodes u) q) c.place_of-to.ensures.place
          ∙ ap (λ (text : List ℕ). out ++ text) (line_is network u c.args.slot w nodes to c.nodes-nodes.ensures.count less);
    }

pub returns-else-node-neighbour : goal.returns-else-node-neighbour
returns-else-node-neighbour c =
    let network = c.args.network.now in
    let u = c.args.node in
    let w = c.unwrap_or-neighbour.result in
    let out = string_bytes c.args.out.now in
    let to : w ≡ neighbour network u c.args.slot = c.unwrap_or-neighbour.ensures ∙ ap (λ o. unwrap_or o 0) c.neighbour.ensures.value ∙ neighbour_is network u c.args.slot in
    let more : w ≤ u = omega (arith, c.if-node-neighbour.false) in
    record { text = sym (append-nil out) ∙ ap (λ (text : List ℕ). out ++ text) (sym (none_is network u c.args.slot w to more)) }
