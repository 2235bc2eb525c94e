-- Edges of which no two have the same ends as one number: none repeats another.
use Rattle.std.proofs.Common.{◌≡◌, ◌∙◌, ℕ, ◌==◌, Bool, true, false, not, ◌&&◌, ◌||◌, List, [], ◌∷◌, map, nat_lt, refl, sym, None, find}
use Rattle.std.specs.List.{AllByRecursion, IsDistinct}
use Rattle.std.specs.List.Sorted.{IsPermutation, IsNonDecreasing}
use Rattle.std.proofs.lemmas.List.Sorted.{IsPermutation-sym}
use Rattle.std.proofs.lemmas.Map.Keys.{IsDistinct-head, IsDistinct-tail, IsDistinct-IsPermutation}
use Rattle.large_pack.specs.declared.ranked.Ranked.{Ranked}
use Rattle.large_pack.specs.Ranks.{alike, beats, is_beaten, repeat_in}
use Rattle.large_pack.specs.Keys.{key_of, repeats}
use Rattle.large_pack.proofs.Beating.{alike_ends, alike_flips, unbeaten_by_itself, not_true, clash}
use Rattle.large_pack.proofs.Apart.{same_key, same_key_flips, distinct_keys, number, same_number, and_none, or_neither}

abbrev end_key : Ranked → ℕ
end_key e = key_of (e.first, e.second, 1)

-- neither has the ends of the other
abbrev AreFar : Ranked → Ranked → Type 0
AreFar e d = (alike d e ≡ false) × (alike e d ≡ false)

far_apart : (d e : Ranked) → same_key (number e.first e.second) (number d.first d.second) ≡ false → AreFar e d
far_apart d e none =
    let here : alike d e ≡ false = not_true (alike d e) (λ h.
    let ends = alike_ends d e h in
    clash (number e.first e.second == number d.first d.second) (same_number e.first e.second d.first d.second (sym ends.0) (sym ends.1)) none) in
    (here, not_true (alike e d) (λ h. clash (alike d e) (alike_flips e d h) here))

far_from : (e : Ranked) (es : List Ranked) → AllByRecursion (λ k. same_key (end_key e) k ≡ false) (map end_key es) → AllByRecursion (AreFar e) es
far_from e [] all = tt
far_from e (d ∷ es) all = (far_apart d e all.0, far_from e es all.1)

abbrev AllFar : List Ranked → Type 0
AllFar [] = Unit {0}
AllFar (e ∷ es) = AllByRecursion (AreFar e) es × AllFar es

all_far : (es : List Ranked) → IsDistinct same_key (map end_key es) → AllFar es
all_far [] apart = tt
all_far (e ∷ es) apart = (far_from e es (IsDistinct-head same_key (end_key e) (map end_key es) apart), all_far es (IsDistinct-tail same_key (end_key e) (map end_key es) apart))

abbrev goes_first : Ranked → Ranked → Bool
goes_first d e = nat_lt d.rank e.rank || (d.rank == e.rank && nat_lt d.line e.line)

none_near : (e : Ranked) (es : List Ranked) → AllByRecursion (AreFar e) es → is_beaten es e ≡ false
none_near e [] far = refl
none_near e (d ∷ es) far = or_neither (beats d e) (is_beaten es e) (and_none (alike d e) (goes_first d e) far.0.0) (none_near e es far.1)

first_beside : (x : Ranked) (es later : List Ranked) → AllByRecursion (AreFar x) later → AllByRecursion (λ e. is_beaten es e ≡ false) later → AllByRecursion (λ e. is_beaten (x ∷ es) e ≡ false) later
first_beside x es [] far free = tt
first_beside x es (e ∷ later) far free = (or_neither (beats x e) (is_beaten es e) (and_none (alike x e) (goes_first x e) far.0.1) free.0, first_beside x es later far.1 free.1)

none_beaten : (es : List Ranked) → AllFar es → AllByRecursion (λ e. is_beaten es e ≡ false) es
none_beaten [] far = tt
none_beaten (e ∷ es) far = (or_neither (beats e e) (is_beaten es e) (unbeaten_by_itself e) (none_near e es far.0), first_beside e es es far.0 (none_beaten es far.1))

find_none : (p : Ranked → Bool) (es : List Ranked) → AllByRecursion (λ e. p e ≡ false) es → find p es ≡ None
find_none p [] free = refl
find_none p (e ∷ es) free = rw (free.0) (find_none p es free.1)

told_apart : (told : Bool) → not told ≡ true → told ≡ false
told_apart true h = cc
told_apart false h = refl

-- sorted numbers of the ends, of which none is the one before it
pub seen_apart : (es : List Ranked) (keys sorted : List ℕ) (told : Bool) → keys ≡ map end_key es → IsPermutation keys sorted → IsNonDecreasing sorted → told ≡ repeats sorted → not told ≡ true → repeat_in es ≡ None
seen_apart es keys sorted told are moved up tells holds =
    let none : repeats sorted ≡ false = sym tells ∙ told_apart told holds in
    let apart : IsDistinct same_key keys = IsDistinct-IsPermutation same_key same_key_flips sorted keys (IsPermutation-sym keys sorted moved) (distinct_keys sorted up none) in
    let free = none_beaten es (all_far es (rw are at apart)) in
    rw (find_none (is_beaten es) es free) refl
