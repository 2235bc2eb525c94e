use Rattle.std.proofs.Common.{◌≡◌, ◌∙◌, ◌+◌, ◌-◌, ◌++◌, List, ℕ, ap, drop, length, replicate, zero-add}
use Rattle.std.proofs.lemmas.List.{drop-replicate}
use Rattle.rounds_walk.proofs.part_rounds.states.state_of.Goals as goal

pub returns : goal.returns
returns c =
    let words = c.args.words.now in
    let zeros : List ℕ = replicate 8 0 in
    let back : drop (0 + length words) zeros ≡ replicate (8 - length words) 0 = ap (λ k. drop k zeros) (zero-add (length words)) ∙ drop-replicate (length words) 8 0 in
    record { state = ap (λ (w : List ℕ). record { words = w }) (c.put_words.ensures.put ∙ ap (λ (l : List ℕ). words ++ l) back) }
