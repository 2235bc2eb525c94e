-- Texts that are written one after the other.
use Rattle.std.proofs.Common.{◌≡◌, ◌∙◌, ℕ, List, ◌++◌, codes, append_assoc, ap}
use Rattle.std.specs.Fmt.{decimal}

-- two parts
pub joined : (out mid new a b : List ℕ) → mid ≡ out ++ a → new ≡ mid ++ b → new ≡ out ++ (a ++ b)
joined out mid new a b e f = f ∙ ap (λ t. t ++ b) e ∙ append_assoc out a b

-- that a node waits, in its parts: who, how many it has read of how many, and the first that it has not
pub waiting : (out one two three who unread first : List ℕ) (r read s slots : ℕ) → r ≡ read → s ≡ slots → unread ≡ first → one ≡ out ++ who
    → two ≡ one ++ (codes " does not move: it has read " ++ (decimal r ++ (codes " of " ++ (decimal s ++ codes " neighbours, and waits for "))))
    → three ≡ two ++ unread
    → three ≡ out ++ (who ++ (codes " does not move: it has read " ++ (decimal read ++ (codes " of " ++ (decimal slots ++ (codes " neighbours, and waits for " ++ first))))))
waiting out one two three who unread first r read s slots a b d e f g =
    let head = codes " does not move: it has read " in
    let of = codes " of " in
    let tail = codes " neighbours, and waits for " in
    let parts : (head ++ (decimal r ++ (of ++ (decimal s ++ tail)))) ++ unread ≡ head ++ (decimal read ++ (of ++ (decimal slots ++ (tail ++ first)))) =
    append_assoc head (decimal r ++ (of ++ (decimal s ++ tail))) unread
    ∙ ap (λ t. head ++ t) (append_assoc (decimal r) (of ++ (decimal s ++ tail)) unread)
    ∙ ap (λ t. head ++ (decimal r ++ t)) (append_assoc of (decimal s ++ tail) unread)
    ∙ ap (λ t. head ++ (decimal r ++ (of ++ t))) (append_assoc (decimal s) tail unread)
    ∙ ap (λ n. head ++ (decimal n ++ (of ++ (decimal s ++ (tail ++ unread))))) a
    ∙ ap (λ n. head ++ (decimal read ++ (of ++ (decimal n ++ (tail ++ unread))))) b
    ∙ ap (λ t. head ++ (decimal read ++ (of ++ (decimal slots ++ (tail ++ t))))) d in
    joined out one three who (head ++ (decimal read ++ (of ++ (decimal slots ++ (tail ++ first))))) e (joined one two three (head ++ (decimal r ++ (of ++ (decimal s ++ tail)))) unread f g ∙ ap (λ t. one ++ t) parts)
