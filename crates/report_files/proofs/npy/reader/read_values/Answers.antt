use Rattle.std.proofs.Common.{◌∙◌, ◌∷◌, [], ◌++◌, List, ℕ, sym, ap, arith}
use Rattle.std.proofs.lemmas.List.FromFn.{map-range_with_len_more}
use Rattle.report_files.specs.npy.Arrays.{number_at}
use Rattle.report_files.proofs.npy.reader.read_values.Goals as goal

pub loop-place-preserved : goal.loop-place-preserved
loop-place-preserved c =
    let f = number_at c.args.element c.args.body.now in
    let p = c.loop-place.place in
    ◌∙◌ {A = List ℕ} c.in_ok-push.ensures.items
    (◌∙◌ {A = List ℕ} (ap (λ x. c.loop-place.words.items ++ x ∷ []) c.number_at.ensures)
    (◌∙◌ {A = List ℕ} (ap (λ xs. xs ++ f p ∷ []) c.loop-place.invariant) (sym (map-range_with_len_more f 0 p p (omega arith)))))
