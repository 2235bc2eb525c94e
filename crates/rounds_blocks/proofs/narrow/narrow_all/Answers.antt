use Rattle.std.proofs.Common.{ℕ, suc, ◌≡◌, ◌<◌, List, [], ◌∷◌, ap, arith, get_or, length, map, refl, ◌∙◌}
use Rattle.rounds_code.specs.Block.{byte_word}
use Rattle.rounds_blocks.proofs.narrow.narrow_all.Goals as goal

-- lists whose elements give the same
same_given : {A : Type 0} (f g : A → List ℕ) (xs ys : List A) → length xs ≡ length ys → ((j : ℕ) (d e : A) → j < length xs → f (get_or xs j d) ≡ g (get_or ys j e)) → map f xs ≡ map g ys
same_given f g [] [] long same = refl
same_given f g [] (y ∷ ys) long same = absurd (omega (arith, long))
same_given f g (x ∷ xs) [] long same = absurd (omega (arith, long))
same_given f g (x ∷ xs) (y ∷ ys) long same =
    ap (λ w. w ∷ map f xs) (same 0 x y (omega arith)) ∙ ap (λ ws. g y ∷ ws) (same_given f g xs ys (omega (arith, long)) (λ j d e low. same (suc j) d e (omega (arith, low))))

pub returns : goal.returns
returns c = record {
  same = λ yes.
      same_given (λ column. map byte_word column.items) (λ column. column.items) c.loop-k.bytes c.args.words.now c.loop-k.invariant.long
      (λ j d e low. c.loop-k.invariant.same j d e (omega (arith, low, c.loop-k.invariant.long, c.loop-k-test.false)));
}
