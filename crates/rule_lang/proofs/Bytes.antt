-- Bytes, and spans of them.
use Rattle.std.proofs.Common.{◌≡◌, ℕ, suc, ◌+◌, ◌≤◌, ◌<◌, List, [], ◌∷◌, ◌++◌, Bool, true, false, cond, refl, sym, ap, subst, ◌∙◌, arith, length, take, drop, ◌-◌, length-drop, ◌⊎◌, inl, inr, Option, Some, None, ltb, not}
use Rattle.std.specs.Prelude.{◌||◌, ◌&&◌, ◌==◌, IsTrue}
use Rattle.std.specs.List.{AllByRecursion, prefix_len, position_or_len}
use Rattle.std.specs.Prelude.{unwrap_or}
use Rattle.std.proofs.lemmas.List.Sums.{prefix_len-le-length}
use Rattle.std.specs.Char.{is_ascii_alphabetic, is_ascii_alphanumeric, is_ascii_digit}
use Rattle.std.specs.Int.{is_in_range}
use Rattle.std.specs.Prelude.{nat_le}
use Rattle.std.specs.Str.{IsAscii}
use Rattle.std.proofs.lemmas.Str.Ascii.{IsAscii-nil, IsAscii-cons}
use Rattle.std.proofs.lemmas.Bool.Decides.{nat_tests, Decides-eqb}
use Rattle.std.proofs.lemmas.List.{take_all}
use Rattle.rule_lang.specs.Tokens.{is_word_byte, IsSpan, StopsAt}

pub or_cases : (x y : Bool) → (x || y) ≡ true → (x ≡ true) ⊎ (y ≡ true)
or_cases true y e = inl refl
or_cases false y e = inr e

pub and_left : (x y : Bool) → (x && y) ≡ true → x ≡ true
and_left true y e = refl
and_left false y e = cc

pub and_right : (x y : Bool) → (x && y) ≡ true → y ≡ true
and_right true y e = e
and_right false y e = cc

pub low_of : (lo hi c : ℕ) → is_in_range lo hi c ≡ true → lo ≤ c
low_of lo hi c e = let h : nat_le lo c ≡ true = and_left (nat_le lo c) (nat_le c hi) e in grind (arith, nat_tests)

pub high_of : (lo hi c : ℕ) → is_in_range lo hi c ≡ true → c ≤ hi
high_of lo hi c e = let h : nat_le c hi ≡ true = and_right (nat_le lo c) (nat_le c hi) e in grind (arith, nat_tests)

pub letter_bounds : (b : ℕ) → is_ascii_alphabetic b ≡ true → (65 ≤ b) × (b ≤ 122)
letter_bounds b e = elim (or_cases (is_in_range 65 90 b) (is_in_range 97 122 b) e) [ inl h ↦ (let l = low_of 65 90 b h in let u = high_of 65 90 b h in (omega arith, omega arith)) | inr h ↦ (let l = low_of 97 122 b h in let u = high_of 97 122 b h in (omega arith, omega arith)) ]

pub digit_bounds : (b : ℕ) → is_ascii_digit b ≡ true → (48 ≤ b) × (b ≤ 57)
digit_bounds b e = (low_of 48 57 b e, high_of 48 57 b e)

or_more : (d u l x : Bool) → (u || l) ≡ true → (((d || u) || l) || x) ≡ true
or_more true u l x e = refl
or_more false true l x e = refl
or_more false false true x e = refl
or_more false false false x e = cc

pub letter_in_word : (b : ℕ) → is_ascii_alphabetic b ≡ true → is_word_byte b ≡ true
letter_in_word b e = or_more (is_in_range 48 57 b) (is_in_range 65 90 b) (is_in_range 97 122 b) _ e

-- a span is the longest front that passes
pub span_longest : (p : ℕ → Bool) (front rest prefix back : List ℕ) → AllByRecursion (λ b. IsTrue (p b)) front → StopsAt p rest → front ++ rest ≡ prefix ++ back → AllByRecursion (λ b. IsTrue (p b)) prefix → length prefix ≤ length front
span_longest p front rest [] back a s e q = omega arith
span_longest p [] rest (x ∷ prefix) back a s e q = absurd (let h : p x ≡ false = subst (StopsAt p) e s in let k : p x ≡ true = q.0 in let c : false ≡ true = sym h ∙ k in cc)
span_longest p (f ∷ front) rest (x ∷ prefix) back a s e q =
    let t : front ++ rest ≡ prefix ++ back = cc in
    let h : length prefix ≤ length front = span_longest p front rest prefix back a.1 s t q.1 in omega arith

cons_span : (p : ℕ → Bool) (x : ℕ) (xs : List ℕ) (k : ℕ) → p x ≡ true → IsSpan p xs (take k xs) (drop k xs) → IsSpan p (x ∷ xs) (take (1 + k) (x ∷ xs)) (drop (1 + k) (x ∷ xs))
cons_span p x xs k e s =
    let n : 1 + k ≡ suc k = omega arith in
    rw n (record { cut = ap (λ l. x ∷ l) s.cut; each = (e, s.each); stops = s.stops })

pub span_at : (p : ℕ → Bool) (bytes : List ℕ) → IsSpan p bytes (take (prefix_len p bytes) bytes) (drop (prefix_len p bytes) bytes)
span_at p [] = record { cut = refl; each = tt; stops = tt }
span_at p (x ∷ xs) = elim (p x) as (λ b. p x ≡ b → IsSpan p (x ∷ xs) (take (cond b (1 + prefix_len p xs) 0) (x ∷ xs)) (drop (cond b (1 + prefix_len p xs) 0) (x ∷ xs))) [ true ↦ (λ e. cons_span p x xs (prefix_len p xs) e (span_at p xs)) | false ↦ (λ e. record { cut = refl; each = tt; stops = e }) ] refl

-- two cuts of a list at one place
pub same_cut : (a x b y : List ℕ) → a ++ x ≡ b ++ y → length a ≡ length b → (a ≡ b) × (x ≡ y)
same_cut [] x [] y e n = (refl, e)
same_cut [] x (b ∷ bs) y e n = absurd (omega arith)
same_cut (a ∷ as') x [] y e n = absurd (omega arith)
same_cut (a ∷ as') x (b ∷ bs) y e n =
    let t : as' ++ x ≡ bs ++ y = cc in
    let h : a ≡ b = cc in
    let m : length as' ≡ length bs = omega arith in
    let p = same_cut as' x bs y t m in
    let p0 : as' ≡ bs = p.0 in (cc, p.1)

pub span_same : (p : ℕ → Bool) (bytes f r g s : List ℕ) → IsSpan p bytes f r → IsSpan p bytes g s → (f ≡ g) × (r ≡ s)
span_same p bytes f r g s x y =
    let e : f ++ r ≡ g ++ s = sym x.cut ∙ y.cut in
    let h = span_longest p f r g s x.each x.stops e y.each in
    let k = span_longest p g s f r y.each y.stops (sym e) x.each in
    same_cut f r g s e (omega arith)

word_byte_small : (b : ℕ) → is_word_byte b ≡ true → b < 128
word_byte_small b e =
    elim (or_cases (is_ascii_alphanumeric b) (b == 95) e) [
      | inl h ↦ elim (or_cases (is_in_range 48 57 b || is_in_range 65 90 b) (is_in_range 97 122 b) h) [
        | inl k ↦ elim (or_cases (is_in_range 48 57 b) (is_in_range 65 90 b) k) [ inl m ↦ (let u = high_of 48 57 b m in omega arith) | inr m ↦ (let u = high_of 65 90 b m in omega arith) ]
        | inr k ↦ (let u = high_of 97 122 b k in omega arith)
      ]
      | inr h ↦ (let u : b ≡ 95 = (Decides-eqb b 95).0 h in omega arith)
    ]

pub word_ascii : (w : List ℕ) → AllByRecursion (λ b. IsTrue (is_word_byte b)) w → IsAscii w
word_ascii [] h = IsAscii-nil
word_ascii (b ∷ w) h = IsAscii-cons b w (word_byte_small b h.0) (word_ascii w h.1)

pub digits_ascii : (w : List ℕ) → AllByRecursion (λ b. IsTrue (is_ascii_digit b)) w → IsAscii w
digits_ascii [] h = IsAscii-nil
digits_ascii (b ∷ w) h = IsAscii-cons b w (let q = digit_bounds b h.0 in omega arith) (digits_ascii w h.1)

pub split_is : (p : ℕ → Bool) (bytes f r : List ℕ) (n : ℕ) → n ≡ prefix_len p bytes → f ≡ take n bytes → r ≡ drop n bytes → IsSpan p bytes f r
split_is p bytes f r n e x y = rw (x, y, e) (span_at p bytes)

-- what `&all[at..]` is
pub cut_at : {A : Type 0} (at : ℕ) (all : List A) → take (length all - at) (drop at all) ≡ drop at all
cut_at at all = take_all (length all - at) (drop at all) (omega (arith, length-drop at all))

-- to refuse what fails a test is to take what passes
prefix_again : (p : ℕ → Bool) (xs : List ℕ) → position_or_len (λ x. not (p x)) xs ≡ prefix_len p xs
prefix_again p [] = refl
prefix_again p (x ∷ xs) = elim (p x) as (λ b. cond (not (not b)) (1 + position_or_len (λ y. not (p y)) xs) 0 ≡ cond b (1 + prefix_len p xs) 0) [ true ↦ ap (λ n. 1 + n) (prefix_again p xs) | false ↦ refl ]

found_or : (n k : ℕ) → n ≤ k → unwrap_or (cond (ltb n k) (Some n) None) k ≡ n
found_or n k h = grind (arith, nat_tests)

-- the place of the first that fails a test, or else the length, is how many pass at the front
pub prefix_found : (p : ℕ → Bool) (xs : List ℕ) (r : Option ℕ) (n : ℕ) → r ≡ cond (ltb (position_or_len (λ x. not (p x)) xs) (length xs)) (Some (position_or_len (λ x. not (p x)) xs)) None → n ≡ unwrap_or r (length xs) → n ≡ prefix_len p xs
prefix_found p xs r n e h =
    let q = prefix_again p xs in
    let k = prefix_len-le-length p xs in
    h ∙ ap (λ o. unwrap_or o (length xs)) e ∙ found_or (position_or_len (λ x. not (p x)) xs) (length xs) (omega arith) ∙ q
