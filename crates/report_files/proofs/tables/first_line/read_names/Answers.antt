use Rattle.std.proofs.Common.{◌≡◌, ◌∙◌, ◌++◌, ◌∷◌, [], All, map, ap, sym, subst, arith}
use Rattle.std.proofs.lemmas.Grind.{common_steps}
use Rattle.std.proofs.lemmas.List.{length-map, map-append}
use Rattle.std.proofs.lemmas.List.Elements.{All-push}
use Rattle.rule_check.specs.WellFormed.{IsFieldName}
use Rattle.report_files.proofs.tables.FirstNames.{none_left, next_left, all_eight}
use Rattle.report_files.proofs.tables.first_line.read_names.Goals as goal

pub returns-in_default-clause-fields : goal.returns-in_default-clause-fields
returns-in_default-clause-fields c = record {
  few = omega (arith, length-map c.loop-place.names.items (λ f. f.now), c.loop-place.invariant.count);
  names = c.loop-place.invariant.fields;
}

pub returns-in_default-clause-only : goal.returns-in_default-clause-only
returns-in_default-clause-only c names words more fields enough small e =
    none_left names more (map (λ f. f.now) c.loop-place.names.items) c.loop-place.rest.now (c.loop-place.invariant.left names words more fields enough small e) (λ name behind value is tiny ends at. c.in_default.ensures.only name behind value is tiny ends at)

pub loop-place-preserved : goal.loop-place-preserved
loop-place-preserved c =
    let found = map (λ f. f.now) c.loop-place.names.items in
    let pushed : c.push.new.self.items ≡ c.loop-place.names.items ++ c.in-Some.name ∷ [] = grind (arith, common_steps) in
    let later : map (λ f. f.now) c.push.new.self.items ≡ found ++ c.in-Some.name.now ∷ [] = ap (map (λ f. f.now)) pushed ∙ map-append (λ f. f.now) c.loop-place.names.items (c.in-Some.name ∷ []) in
    record {
      count = grind (arith, common_steps);
      fields = subst (All IsFieldName) (sym later) (All-push IsFieldName found c.in-Some.name.now c.loop-place.invariant.fields c.in-Some.ensures.found.0);
      left = λ names words more fields enough small e.
          next_left names more found (map (λ f. f.now) c.push.new.self.items) c.loop-place.rest.now c.in-Some.name.now c.in-Some.more.now c.in-Some.ensures.found.2.0 (c.loop-place.invariant.left names words more fields enough small e) c.in-Some.ensures.found.2.1
          (λ other behind value is tiny ends at. c.in-Some.ensures.only other behind value is tiny ends at) later;
    }

pub returns-clause-fields : goal.returns-clause-fields
returns-clause-fields c = record {
  few = omega (arith, length-map c.loop-place.names.items (λ f. f.now), c.loop-place.invariant.count);
  names = c.loop-place.invariant.fields;
}

pub returns-clause-only : goal.returns-clause-only
returns-clause-only c names words more fields enough small e =
    let l = c.loop-place.invariant.left names words more fields enough small e in
    all_eight (map (λ f. f.now) c.loop-place.names.items) l.tail names l.whole fields.few (omega (arith, length-map c.loop-place.names.items (λ f. f.now), c.loop-place.invariant.count))
