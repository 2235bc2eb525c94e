use Rattle.std.proofs.Common.{◌∙◌, ◌++◌, ap, codes, None}
use Rattle.std.specs.Fmt.{decimal}
use Rattle.report_text.specs.Front.{Ends}
use Rattle.report_text.proofs.Fronts.{lead, lead_none}
use Rattle.report_text.proofs.ReadFields.{Small}
use Rattle.report_text.proofs.fields_reader.read_value.Goals as goal

pub returns-in_err-value : goal.returns-in_err-value
returns-in_err-value c = record {
  front = let name = c.args.name.now in
      rw c.from_residual-in_err-value.ensures (
      lead (λ n. name ++ (codes "=" ++ decimal n)) Small Ends (codes " ") c.args.bytes.now c.in_ok-named.named.now None c.in_ok-named.ensures
      (lead (λ n. codes "=" ++ decimal n) Small Ends name c.in_ok-named.named.now c.in_ok-equal.equal.now None (c.in_ok-equal.ensures ∙ ap (λ n. n ++ c.in_ok-equal.equal.now) c.as_bytes.ensures.value)
      (lead_none decimal Small Ends (codes "=") c.in_ok-equal.equal.now c.in_err-value.ensures)));
}

pub returns : goal.returns
returns c = record {
  front = let name = c.args.name.now in
      lead (λ n. name ++ (codes "=" ++ decimal n)) Small Ends (codes " ") c.args.bytes.now c.in_ok-named.named.now _ c.in_ok-named.ensures
      (lead (λ n. codes "=" ++ decimal n) Small Ends name c.in_ok-named.named.now c.in_ok-equal.equal.now _ (c.in_ok-equal.ensures ∙ ap (λ n. n ++ c.in_ok-equal.equal.now) c.as_bytes.ensures.value)
      (lead decimal Small Ends (codes "=") c.in_ok-equal.equal.now c.in_ok-value.value.now _ c.in_ok-value.ensures c.read_number.ensures));
}
