use Rattle.std.proofs.Common.{◌∙◌, map, set, true, refl, sym, arith}
use Rattle.std.specs.String.{string_bytes}
use Rattle.std.proofs.lemmas.List.{length-map, length-set}
use Rattle.std.proofs.lemmas.Option.{slice_get_within}
use Rattle.report_files.proofs.tables.AskedFields.{seen_at, one_marked, named_more}
use Rattle.report_files.proofs.tables.marks.marks_of.Goals as goal

pub returns-in_default-clause-refused : goal.returns-in_default-clause-refused
returns-in_default-clause-refused c = record {
  name = c.as_str.result.now;
  here = seen_at string_bytes c.args.asked.now c.loop-place.place c.index-asked-place.result c.as_str.result.now c.loop-place-test.true c.index-asked-place.is (sym c.as_str.ensures.value);
  none = c.in_default.ensures.place;
  before = c.loop-place.invariant.named;
}

pub index_mut-requires : goal.index_mut-requires
index_mut-requires c =
    let inside = slice_get_within (map (λ f. f.now) c.args.fields.now) c.in-Some.at c.as_str.result.now c.in-Some.ensures.place.found in
    let size = length-map c.args.fields.now (λ f. f.now) in
    omega (arith, inside, size, c.loop-place.invariant.size)

pub loop-place-preserved : goal.loop-place-preserved
loop-place-preserved c =
    let fields = map (λ f. f.now) c.args.fields.now in
    let asked = map string_bytes c.args.asked.now in
    let name = c.as_str.result.now in
    let marks = c.loop-place.marks.items in
    let first = c.in-Some.ensures.place in
    let inside = slice_get_within fields c.in-Some.at name first.found in
    let size = length-map c.args.fields.now (λ f. f.now) in
    let asks = seen_at string_bytes c.args.asked.now c.loop-place.place c.index-asked-place.result name c.loop-place-test.true c.index-asked-place.is (sym c.as_str.ensures.value) in
    record {
      size = length-set marks c.in-Some.at true ∙ c.loop-place.invariant.size;
      marked = one_marked fields asked marks (set marks c.in-Some.at true) c.loop-place.place c.in-Some.at name refl (omega (arith, inside, size, c.loop-place.invariant.size)) asks first c.loop-place.invariant.marked;
      named = named_more fields asked c.loop-place.place name asks (c.in-Some.at, first.found) c.loop-place.invariant.named;
    }
