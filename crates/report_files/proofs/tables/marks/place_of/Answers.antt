use Rattle.std.proofs.Common.{get_or, []}
use Rattle.std.specs.Cmp.Lexicographic.{same_text, other_text}
use Rattle.std.proofs.lemmas.List.{get_or_default}
use Rattle.report_files.proofs.tables.AskedFields.{seen_at, pass_more, none_has}
use Rattle.report_files.proofs.tables.marks.place_of.Goals as goal

pub returns-then-eq : goal.returns-then-eq
returns-then-eq c =
    let field = get_or c.args.fields.now c.loop-place.place (record { ref_ptr = (0, 0); now = [] }) in
    record {
      place = record {
        found = seen_at (λ f. f.now) c.args.fields.now c.loop-place.place field c.args.name.now c.loop-place-test.true (get_or_default c.args.fields.now c.loop-place.place _ _ c.loop-place-test.true) (same_text _ _ c.if-eq.ensures);
        before = c.loop-place.invariant;
      };
    }

pub loop-place-preserved : goal.loop-place-preserved
loop-place-preserved c =
    let field = get_or c.args.fields.now c.loop-place.place (record { ref_ptr = (0, 0); now = [] }) in
    pass_more (λ f. f.now) c.args.fields.now c.loop-place.place field c.args.name.now c.loop-place-test.true (get_or_default c.args.fields.now c.loop-place.place _ _ c.loop-place-test.true) (other_text _ _ c.if-eq.ensures) c.loop-place.invariant

pub returns : goal.returns
returns c = record { place = none_has (λ f. f.now) c.args.fields.now c.loop-place.place c.args.name.now c.loop-place-test.false c.loop-place.invariant }
