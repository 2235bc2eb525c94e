use Rattle.std.proofs.Common.{◌≡◌, ◌<◌, ◌≤◌, false, length, ◌∙◌, arith}
use Rattle.std.proofs.lemmas.Bool.{le-ltb}
use Rattle.net_names.specs.Naming.{has_name, place_in}
use Rattle.net_names.proofs.Names.{get_there, get_new, place_of_new, there_at}
use Rattle.net_names.proofs.node_names.NodeNames.number.Goals as goal

pub returns-then-number-count-clause-place : goal.returns-then-number-count-clause-place
returns-then-number-count-clause-place c =
    let names = c.args.self.now in
    let low : c.place_in-number.result < length names = omega arith in
    get_there names c.args.name.now c.place_in-number.result (there_at names c.args.name.now c.place_in-number.result c.place_in-number.ensures.place low)

pub returns-clause-place : goal.returns-clause-place
returns-clause-place c =
    let names = c.args.self.now in
    let place = c.place_in-number.ensures.place in
    let high : length names ≤ c.place_in-number.result = omega arith in
    let new : has_name names c.args.name.now ≡ false = le-ltb (place_in names c.args.name.now) (length names) (omega (arith, place, high)) in
    let at : c.place_in-number.result ≡ length names = c.place_in-number.ensures.place ∙ place_of_new names c.args.name.now new in
    rw (c.in_ok-put.ensures.put, at) (get_new names c.args.name.now)
