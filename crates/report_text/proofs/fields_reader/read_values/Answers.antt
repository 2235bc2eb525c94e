use Rattle.std.proofs.Common.{◌≢◌, ◌∙◌, ◌<◌, ◌≤◌, ◌^◌, ◌+◌, ◌++◌, get_or-set_other, length, get_or, drop, map, ap, subst, arith, None, Some}
use Rattle.std.proofs.lemmas.List.{take_all, length-set, length-map}
use Rattle.std.proofs.lemmas.List.Elements.{All-set}
use Rattle.report_text.specs.Front.{IsFront, Ends}
use Rattle.report_text.specs.Report.{field_text, fields_text}
use Rattle.report_text.proofs.Once.{ends_fields}
use Rattle.report_text.proofs.ReadFields.{done_more, left_apart, left_more}
use Rattle.report_text.proofs.ReadFields.{Small, at_place}
use Rattle.report_text.proofs.fields_reader.read_values.Goals as goal

pub returns-in_err-value : goal.returns-in_err-value
returns-in_err-value c = record {
  front = let names = map (λ f. f.now) c.args.fields.now in
      let p = c.loop-place.place in
      let inside : p < length names = omega (arith, length-map c.args.fields.now (λ f. f.now)) in
      let known = at_place (λ f. f.now) c.args.fields.now p _ (omega arith) in
      rw c.from_residual.ensures (λ s behind fits ends e.
      let long : p < length s.words = omega (arith, fits.count, c.requires.few) in
      let left = c.loop-place.invariant.left s behind fits ends e in
      subst (λ name. IsFront (field_text name) Small Ends c.loop-place.rest.now None) known c.in_err-value.ensures.front (get_or s.words p 0) _ (fits.small p 0 long) (ends_fields (drop (p + 1) names) (drop (p + 1) s.words) behind ends) (left_apart names s.words c.loop-place.rest.now behind p inside long left));
}

pub loop-place-preserved : goal.loop-place-preserved
loop-place-preserved c =
    let names = map (λ f. f.now) c.args.fields.now in
    let p = c.loop-place.place in
    let inside : p < length names = omega (arith, length-map c.args.fields.now (λ f. f.now)) in
    let known = at_place (λ f. f.now) c.args.fields.now p _ (omega arith) in
    let read = subst (λ name. IsFront (field_text name) Small Ends c.loop-place.rest.now (Some (c.in_ok-value.value, c.in_ok-value.more.now))) known c.in_ok-value.ensures.front in
    let few : p < 8 = omega (arith, c.requires.few) in
    let long : p < length c.loop-place.words = omega (arith, c.loop-place.invariant.count) in
    record {
      count = length-set c.loop-place.words p c.in_ok-value.value ∙ c.loop-place.invariant.count;
      small = All-set (λ w. w < 2 ^ 32) c.loop-place.words p c.in_ok-value.value read.1 c.loop-place.invariant.small;
      done = done_more names c.loop-place.words c.args.bytes.now c.loop-place.rest.now c.in_ok-value.more.now p c.in_ok-value.value inside long c.loop-place.invariant.done read.0;
      plain = λ k far. let other : k ≢ p = omega arith in get_or-set_other c.loop-place.words p k c.in_ok-value.value 0 other ∙ c.loop-place.invariant.plain k (omega arith);
      ends = read.2;
      left = λ s behind fits ends e.
          let wide : p < length s.words = omega (arith, fits.count) in
          left_more names s.words c.loop-place.rest.now c.in_ok-value.more.now behind p c.in_ok-value.value inside wide read.1 (fits.small p 0 wide) read.2 ends read.0 (c.loop-place.invariant.left s behind fits ends e);
    }

pub returns : goal.returns
returns c = record {
  front = let names = map (λ f. f.now) c.args.fields.now in
      let p = c.loop-place.place in
      let past : length names ≤ p = omega (arith, length-map c.args.fields.now (λ f. f.now)) in
      let all = take_all p names past in (
        c.loop-place.invariant.done ∙ ap (λ ns. fields_text ns c.loop-place.words ++ c.loop-place.rest.now) all,
        record {
          count = c.loop-place.invariant.count;
          small = c.loop-place.invariant.small;
          plain = λ k far. c.loop-place.invariant.plain k (omega arith);
        },
        c.loop-place.invariant.ends,
      );
}
