use Rattle.std.proofs.Common.{◌++◌, codes, string_bytes}
use Rattle.run_steps.specs.explain.Differences.{greatest_of, least_of}
use Rattle.run_steps.specs.explain.Summaries.{number_line}
use Rattle.run_steps.proofs.explain.Texts.{joined}
use Rattle.run_steps.proofs.explain.summary.put_counts.Goals as goal

pub returns : goal.returns
returns c =
    let moves = c.args.world.now.counts.moves in
    let least = number_line (codes "least count ") (least_of moves) in
    let greatest = number_line (codes "greatest count ") (greatest_of moves) in
    let far = number_line (codes "greatest difference ") c.args.difference in
    let first = rw c.least_count.ensures at c.in_ok-put_number.ensures.line in
    let second = rw c.greatest_count.ensures at c.in_ok-put_number-2.ensures.line in
    let out = string_bytes c.args.out.now in
    let one = string_bytes c.put_number.new.out in
    let two = string_bytes c.put_number-2.new.out in
    let three = string_bytes c.put_number-3.new.out in
    record { lines = joined out one three least (greatest ++ far) first (joined one two three greatest far second c.in_ok-put_number-3.ensures.line) }
