use Rattle.std.proofs.Common.{◌∙◌, refl, sym, ap, false}
use Rattle.std.specs.Option.{option_copied}
use Rattle.import_links.proofs.Firsts.{is_first, is_new, notes_next}
use Rattle.import_links.proofs.parallel.first_parallel.Goals as goal

pub returns-in-Some : goal.returns-in-Some
returns-in-Some c =
    let found = sym (ap option_copied c.in-Some.is) ∙ c.get.ensures.value in
    is_first c.args.links.now c.loop-placed.placed-index _ (record { link = (0, 0, 0); line = 0; exact = false }) c.loop-placed.lines.entries c.loop-placed-test.true refl c.loop-placed.invariant.noted c.loop-placed.invariant.left
    c.ends-key.result c.in-Some.first.now c.ends-key.ensures found

pub loop-placed-preserved : goal.loop-placed-preserved
loop-placed-preserved c =
    let none = sym (ap option_copied c.in_default.is) ∙ c.get.ensures.value in
    record {
      noted = notes_next c.args.links.now c.loop-placed.placed-index _ (record { link = (0, 0, 0); line = 0; exact = false }) c.loop-placed.lines.entries c.loop-placed-test.true refl c.loop-placed.invariant.noted c.loop-placed.invariant.left
          c.ends-key.result _ c.insert.new.self.entries c.ends-key.ensures refl none c.in_ok-insert.ensures.entries;
      left = is_new c.args.links.now c.loop-placed.placed-index _ (record { link = (0, 0, 0); line = 0; exact = false }) c.loop-placed.lines.entries c.loop-placed-test.true refl c.loop-placed.invariant.noted c.loop-placed.invariant.left
          c.ends-key.result c.ends-key.ensures none;
    }
