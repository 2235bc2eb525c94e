use Rattle.std.proofs.Common.{ap, ◌∙◌, List, [], ◌∷◌, IfOk}
use Rattle.std.specs.List.{AllZip}
use Rattle.rayon.specs.Lists.{min_len_base}
use Rattle.rayon.specs.declared.slice.Iter.{Iter}
use Rattle.rayon.proofs.ToStd.{slice-AllZip}
use Rattle.run_counts.specs.declared.ensemble.Variant.{Variant}
use Rattle.run_counts.specs.Ensembles.{IsRunOf}
use Rattle.run_counts.proofs.Collected.{collected}
use Rattle.run_counts.proofs.runs.runs_of.Goals as goal

weaker : {X Y : Type 0} {R S : X → Y → Type 0} (xs : List X) (ys : List Y) → AllZip R xs ys → ((x : X) (y : Y) → R x y → S x y) → AllZip S xs ys
weaker [] [] h turn = tt
weaker [] (y ∷ ys) h turn = absurd h
weaker (x ∷ xs) [] h turn = absurd h
weaker (x ∷ xs) (y ∷ ys) h turn = (turn x y h.0, weaker xs ys h.1 turn)

pub returns : goal.returns
returns g c =
    let e = c.in_ok-runs.ensures in
    let variants = c.args.variants.now in
    let slice = ap (λ it. (min_len_base {P = Iter Variant} it).slice.now) c.map.ensures.base ∙ (ap (λ (it : Iter Variant). it.slice.now) c.with_min_len.ensures.base ∙ c.par_iter.ensures) in
    let is = IsRunOf c.args.span.now c.args.counting.now in
    let chain = e.1 in
    record {
      runs = collected is variants e.0 c.in_ok-runs.runs
          (slice-AllZip chain.0 variants (chain.1 ∙ slice) (λ (v : Variant) r. IfOk r (is v)) e.0 (weaker chain.0 e.0 chain.2 (λ z r p. rw c.map.ensures.f at p))) e.2;
    }
