use Rattle.std.proofs.Common.{length, refl, replicate, slice_index, subst, sym}
use Rattle.std.proofs.lemmas.List.{get_or-replicate}
use Rattle.rule_ranges.specs.declared.range.Range.{Range}
use Rattle.rule_ranges.specs.Ranges.{IsWithin}
use Rattle.rule_cuts.specs.declared.limits.Limits.{Limits}
use Rattle.app_why.proofs.Within.{here_within}
use Rattle.app_why.proofs.limits.limits_of_any.Goals as goal

pub returns : goal.returns
returns c =
    let range = c.anything.result in
    let fields = replicate 8 range in
    let limits : Limits = record { program = c.args.program; bounds = c.bounds_of_any.result; fields = fields } in
    let count = length c.args.program.now.fields in
    record {
      limits = record {
        program = refl;
        within = λ network round u at whole weights early inside values long plain.
            here_within limits network round u at (c.bounds_of_any.ensures.degree network u whole) values
            (c.bounds_of_any.ensures.within network count round u fields at whole (weights u) inside early
            (λ v low. record {
              long = long v low;
              plain = plain v low;
              within = λ k d few. subst (λ (r : Range). IsWithin r (slice_index (at v).words k)) (sym (get_or-replicate 8 k range d few)) (c.anything.ensures.within (slice_index (at v).words k));
            }));
      };
    }
