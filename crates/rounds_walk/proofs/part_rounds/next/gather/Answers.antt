use Rattle.std.proofs.Common.{◌≡◌, ◌∙◌, ◌<◌, ◌++◌, ℕ, List, [], ◌∷◌, ap, arith, get_or, length, map, slice_index, sym, take}
use Rattle.std.proofs.lemmas.List.{append-nil, length-map, length-take-le, map_more}
use Rattle.rule_check.specs.declared.state.Near.{Near}
use Rattle.rule_check.specs.Gathering.{sums_at}
use Rattle.rule_check.specs.Value.{here_at}
use Rattle.link_net.specs.Neighbours.{degree, row}
use Rattle.rounds_walk.specs.part_rounds.Fitting.{states_in}
use Rattle.rounds_walk.specs.part_rounds.Parts.{part_near}
use Rattle.rounds_walk.proofs.part_rounds.Rows.{at_slot, so_many}
use Rattle.rounds_walk.proofs.part_rounds.next.gather.Goals as goal

pub near_of-near-requires-clause-inside : goal.near_of-near-requires-clause-inside
near_of-near-requires-clause-inside c =
    let a = c.args in
    let slot = c.loop-slot.slot in
    let links = row a.part.now.rows.now a.node in
    let many = so_many (λ x. x.0) links a.neighbours.now c.requires.neighbours in
    let here = at_slot (λ x. x.0) links a.neighbours.now slot c.requires.neighbours c.loop-slot-test.true in
    let inside : slot < length links = omega (arith, many, c.loop-slot-test.true) in
    omega (arith, here, c.requires.part.rows.within a.node slot inside)

pub loop-slot-init : goal.loop-slot-init
loop-slot-init c =
    let a = c.args in
    c.start-sums.ensures.none a.part.now.round (slice_index a.part.now.ids.now a.node) (degree a.part.now.rows.now a.node) a.own

pub loop-slot-preserved : goal.loop-slot-preserved
loop-slot-preserved c =
    let a = c.args in
    let l = c.loop-slot in
    let part = a.part.now in
    let rules = part.program.now in
    let links = row part.rows.now a.node in
    let near = part_near part.ids.now (states_in part) in
    let sums = λ (degree : ℕ) (nears : List Near). sums_at rules (here_at rules part.round (slice_index part.ids.now a.node) degree a.own nears) in
    let count = length a.neighbours.now in
    let many : count ≡ length links = so_many (λ x. x.0) links a.neighbours.now c.requires.neighbours in
    let inside : l.slot < length links = omega (arith, many, c.loop-slot-test.true) in
    let front : List Near = map near (take l.slot links) in
    let long : length front ≡ l.slot = length-map (take l.slot links) near ∙ length-take-le l.slot links (omega (arith, inside)) in
    let nil : front ++ [] ≡ front = append-nil front in
    let few : length (front ++ []) < 4294967295 = omega (arith, ap length nil, long, inside, c.requires.part.rows.degrees a.node) in
    let paired : l.slot < length a.weights.now = omega (arith, so_many (λ x. x.1) links a.weights.now c.requires.weights, inside) in
    let link = get_or links l.slot (0, 0) in
    let seen : c.near_of-near.result ≡ near link =
    c.near_of-near.ensures.near
    ∙ ap (λ (n : ℕ). near (n, get_or a.weights.now l.slot 0)) (at_slot (λ x. x.0) links a.neighbours.now l.slot c.requires.neighbours c.loop-slot-test.true)
    ∙ ap (λ (w : ℕ). near (link.0, w)) (at_slot (λ x. x.1) links a.weights.now l.slot c.requires.weights paired) in
    let before : l.sums ≡ sums count (front ++ []) = l.invariant ∙ ap (λ d. sums d front) (sym many) ∙ ap (sums count) (sym nil) in
    c.take.ensures.anywhere front [] few before
    ∙ ap (λ (n : Near). sums count (front ++ n ∷ [])) seen
    ∙ ap (λ d. sums d (front ++ near link ∷ [])) many
    ∙ ap (sums (length links)) (sym (map_more near links l.slot (0, 0) inside))
