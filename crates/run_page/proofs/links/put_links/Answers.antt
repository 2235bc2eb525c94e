use Rattle.std.proofs.Common.{◌≡◌, ◌<◌, ◌∙◌, ◌++◌, ◌+◌, ◌∷◌, ℕ, List, [], ap, append_assoc, arith, drop, get_or, length, map, sym}
use Rattle.std.proofs.lemmas.List.{get_or-map, length-map}
use Rattle.serde_json.specs.Data.{Data}
use Rattle.serde_json.specs.View.{view}
use Rattle.link_net.specs.Neighbours.{row}
use Rattle.run_page.specs.Pages.{links_up}
use Rattle.run_page.proofs.Rows.{links_more}
use Rattle.run_page.proofs.links.put_links.Goals as goal

pub loop-slot-preserved : goal.loop-slot-preserved
loop-slot-preserved c =
    let u = c.args.node in
    let r = row c.args.network.now u in
    let k = c.loop-slot.slot in
    let neighbours = c.neighbours_of-neighbours.ensures.exact in
    let weights = c.weights_of-weights.ensures.exact in
    let inside : k < length r = omega (arith, c.loop-slot-test.true, c.loop-slot.auto.slot-end, ap length neighbours, length-map r (λ (a : ℕ × ℕ). a.0)) in
    let neighbour : get_or c.neighbours_of-neighbours.result.now k 0 ≡ (get_or r k (0, 0)).0 = ap (λ (xs : List ℕ). get_or xs k 0) neighbours ∙ get_or-map (λ (a : ℕ × ℕ). a.0) r k (0, 0) 0 inside in
    let weight : get_or c.weights_of-weights.result.now k 0 ≡ (get_or r k (0, 0)).1 = ap (λ (xs : List ℕ). get_or xs k 0) weights ∙ get_or-map (λ (a : ℕ × ℕ). a.1) r k (0, 0) 0 inside in
    let old = map view c.loop-slot.items.items in
    let rest = links_up u (drop (k + 1) r) in
    let put : map view c.put_link.new.items.items ≡ old ++ links_up u (get_or r k (0, 0) ∷ []) =
    c.in_ok-put_link.ensures
    ∙ ap (λ (n : ℕ). old ++ links_up u ((n, get_or c.weights_of-weights.result.now k 0) ∷ [])) neighbour
    ∙ ap (λ (w : ℕ). old ++ links_up u (((get_or r k (0, 0)).0, w) ∷ [])) weight in
    ap (λ (t : List Data). t ++ rest) put ∙ append_assoc old (links_up u (get_or r k (0, 0) ∷ [])) rest
    ∙ ap (λ (t : List Data). old ++ t) (sym (links_more u r k inside)) ∙ c.loop-slot.invariant
