-- The forms of tokens: which one stands first, and that there is one at most.
use Rattle.std.proofs.Common.{◌≡◌, ℕ, ◌≤◌, ◌<◌, List, [], ◌∷◌, ◌++◌, true, false, cond, Option, Some, None, refl, sym, ap, subst, ◌∙◌, arith, length, nat_eq, ◌⊎◌, inl, inr}
use Rattle.std.specs.Prelude.{◌≢◌, IsTrue, ◌==◌}
use Rattle.std.specs.List.{AllByRecursion}
use Rattle.std.specs.Char.{is_ascii_alphabetic, is_ascii_digit}
use Rattle.std.specs.Str.Parse.{digits_value}
use Rattle.std.proofs.lemmas.Bool.Decides.{Decides-eqb}
use Rattle.rule_lang.specs.declared.token.Sign.{Sign}
use Rattle.rule_lang.specs.Tokens.{Tok, WordTok, NearTok, NumberTok, SignTok, is_word_byte, IsWord, IsDigits, sign_bytes, HasForm, IsLongest, IsSpan, StopsAt}
use Rattle.rule_lang.specs.Lexing.{StartsWith, IsFirstToken, begins_near}
use Rattle.rule_lang.specs.Signs.{short_sign_of, long_sign_of, with_rest, long_or_short, sign_at}
use Rattle.rule_lang.proofs.Bytes.{letter_bounds, digit_bounds, letter_in_word, span_longest}
use Rattle.rule_lang.proofs.Signs.{Plain, sign_plain, short_is, long_is, short_back, long_back, sign_length}

-- what the first byte says of the token
abbrev pub HeadOf : Tok → ℕ → Type 0
HeadOf (WordTok w) b = is_ascii_alphabetic b ≡ true
HeadOf (NearTok w) b = b ≡ 110
HeadOf (NumberTok n) b = is_ascii_digit b ≡ true
HeadOf (SignTok s) b = Plain b

word_head : (w : List ℕ) (b : ℕ) (bytes back : List ℕ) → IsWord w → b ∷ bytes ≡ w ++ back → is_ascii_alphabetic b ≡ true
word_head [] b bytes back f e = absurd f
word_head (x ∷ w) b bytes back f e = let q : x ≡ b = cc in subst (λ c. is_ascii_alphabetic c ≡ true) q f.0

digits_head : (w : List ℕ) (b : ℕ) (bytes back : List ℕ) → IsDigits w → b ∷ bytes ≡ w ++ back → is_ascii_digit b ≡ true
digits_head [] b bytes back f e = absurd f
digits_head (x ∷ w) b bytes back f e = let q : x ≡ b = cc in subst (λ c. is_ascii_digit c ≡ true) q f.0

sign_head : (s : Sign) (w : List ℕ) (b : ℕ) (bytes back : List ℕ) → sign_bytes s ≡ w → b ∷ bytes ≡ w ++ back → Plain b
sign_head s [] b bytes back f e = absurd (let h = (sign_length s).0 in let k : length (sign_bytes s) ≡ 0 = ap length f in omega arith)
sign_head s (x ∷ w) b bytes back f e = let q : b ≡ x = cc in let r : sign_bytes s ≡ b ∷ w = rw q f in sign_plain s b w r

pub head_of : (t : Tok) (prefix back : List ℕ) (b : ℕ) (bytes : List ℕ) → HasForm t prefix → b ∷ bytes ≡ prefix ++ back → HeadOf t b
head_of (WordTok w) prefix back b bytes f e = word_head w b bytes back f.0 (e ∙ ap (λ p. p ++ back) f.1)
head_of (NearTok w) prefix back b bytes f e = let q : b ∷ bytes ≡ (110 ∷ 46 ∷ w) ++ back = e ∙ ap (λ p. p ++ back) f.1 in cc
head_of (NumberTok n) prefix back b bytes f e = digits_head prefix b bytes back f.0 e
head_of (SignTok s) prefix back b bytes f e = sign_head s prefix b bytes back (sym f) e

-- no token begins with a blank or with the sign of a comment
pub head_above : (t : Tok) (b : ℕ) → HeadOf t b → (32 < b) × (b ≢ 35)
head_above (WordTok w) b h = let p = letter_bounds b h in (omega arith, λ q. omega arith)
head_above (NearTok w) b h = (omega arith, λ q. omega arith)
head_above (NumberTok n) b h = let p = digit_bounds b h in (omega arith, λ q. omega arith)
head_above (SignTok s) b h = (h.above, h.hash)

pub word_all : (w : List ℕ) → IsWord w → AllByRecursion (λ b. IsTrue (is_word_byte b)) w
word_all [] f = absurd f
word_all (b ∷ w) f = (letter_in_word b f.0, f.1)

digits_all : (w : List ℕ) → IsDigits w → AllByRecursion (λ b. IsTrue (is_ascii_digit b)) w
digits_all [] f = absurd f
digits_all (b ∷ w) f = f

-- a word
span_word : (bytes front rest : List ℕ) → IsSpan is_word_byte bytes front rest → StartsWith is_ascii_alphabetic bytes → IsWord front
span_word [] front rest s h = absurd h
span_word (b ∷ bytes) [] rest s h = absurd (let p : is_word_byte b ≡ false = subst (StopsAt is_word_byte) (sym s.cut) s.stops in let q : is_word_byte b ≡ true = letter_in_word b h in let c : false ≡ true = sym p ∙ q in cc)
span_word (b ∷ bytes) (f ∷ front) rest s h = let c = s.cut in let q : b ≡ f = cc in (subst (λ x. is_ascii_alphabetic x ≡ true) q h, s.each.1)

near_begins : (w back : List ℕ) → IsWord w → begins_near (110 ∷ 46 ∷ (w ++ back)) ≡ true
unfolding begins_near
near_begins [] back f = absurd f
near_begins (x ∷ w) back f = f.0

other_word : (b : ℕ) (bytes front rest : List ℕ) → is_ascii_alphabetic b ≡ true → begins_near (b ∷ bytes) ≡ false → IsSpan is_word_byte (b ∷ bytes) front rest → (other : Tok) (prefix back : List ℕ) → b ∷ bytes ≡ prefix ++ back → HasForm other prefix → length prefix ≤ length front
other_word b bytes front rest h n s (WordTok w) prefix back e f = span_longest is_word_byte front rest prefix back s.each s.stops (sym s.cut ∙ e) (rw f.1 (word_all w f.0))
other_word b bytes front rest h n s (NearTok w) prefix back e f = absurd (let q : b ∷ bytes ≡ 110 ∷ 46 ∷ (w ++ back) = e ∙ ap (λ p. p ++ back) f.1 in let c : false ≡ true = sym n ∙ ap begins_near q ∙ near_begins w back f.0 in cc)
other_word b bytes front rest h n s (NumberTok m) prefix back e f = absurd (let p = letter_bounds b h in let q = digit_bounds b (head_of (NumberTok m) prefix back b bytes f e) in omega arith)
other_word b bytes front rest h n s (SignTok x) prefix back e f = absurd (let p = head_of (SignTok x) prefix back b bytes f e in let q = p.letter in let c : false ≡ true = sym q ∙ h in cc)

pub word_first : (bytes front rest : List ℕ) → StartsWith is_ascii_alphabetic bytes → begins_near bytes ≡ false → IsSpan is_word_byte bytes front rest → IsFirstToken bytes (Some (WordTok front, rest))
word_first [] front rest h n s = absurd h
word_first (b ∷ bytes) front rest h n s = (record { front = front; cut = s.cut; form = (span_word (b ∷ bytes) front rest s h, refl); longest = other_word b bytes front rest h n s }, tt)

-- a neighbour word
other_near : (bytes front rest : List ℕ) → IsSpan is_word_byte bytes front rest → (other : Tok) (prefix back : List ℕ) → 110 ∷ 46 ∷ bytes ≡ prefix ++ back → HasForm other prefix → length prefix ≤ length (110 ∷ 46 ∷ front)
other_near bytes front rest s (WordTok w) prefix back e f =
    let h = span_longest is_word_byte (110 ∷ []) (46 ∷ bytes) prefix back (refl, tt) refl e (rw f.1 (word_all w f.0)) in omega arith
other_near bytes front rest s (NearTok w) prefix back e f =
    let q : 110 ∷ 46 ∷ bytes ≡ 110 ∷ 46 ∷ (w ++ back) = e ∙ ap (λ p. p ++ back) f.1 in
    let r : bytes ≡ w ++ back = cc in
    let h = span_longest is_word_byte front rest w back s.each s.stops (sym s.cut ∙ r) (word_all w f.0) in
    let n : length prefix ≡ length (110 ∷ 46 ∷ w) = ap length f.1 in omega arith
other_near bytes front rest s (NumberTok m) prefix back e f = absurd (let q = digit_bounds 110 (head_of (NumberTok m) prefix back 110 (46 ∷ bytes) f e) in omega arith)
other_near bytes front rest s (SignTok x) prefix back e f = absurd (let p = head_of (SignTok x) prefix back 110 (46 ∷ bytes) f e in let q = p.letter in cc)

pub near_first : (bytes front rest : List ℕ) → StartsWith is_ascii_alphabetic bytes → IsSpan is_word_byte bytes front rest → IsFirstToken (110 ∷ 46 ∷ bytes) (Some (NearTok front, rest))
near_first bytes front rest h s = (record { front = 110 ∷ 46 ∷ front; cut = ap (λ l. 110 ∷ 46 ∷ l) s.cut; form = (span_word bytes front rest s h, refl); longest = other_near bytes front rest s }, tt)

-- a number
pub span_digits : (bytes front rest : List ℕ) → IsSpan is_ascii_digit bytes front rest → StartsWith is_ascii_digit bytes → IsDigits front
span_digits [] front rest s h = absurd h
span_digits (b ∷ bytes) [] rest s h = absurd (let p : is_ascii_digit b ≡ false = subst (StopsAt is_ascii_digit) (sym s.cut) s.stops in let c : false ≡ true = sym p ∙ h in cc)
span_digits (b ∷ bytes) (f ∷ front) rest s h = s.each

other_number : (b : ℕ) (bytes front rest : List ℕ) → is_ascii_digit b ≡ true → IsSpan is_ascii_digit (b ∷ bytes) front rest → (other : Tok) (prefix back : List ℕ) → b ∷ bytes ≡ prefix ++ back → HasForm other prefix → length prefix ≤ length front
other_number b bytes front rest h s (WordTok w) prefix back e f = absurd (let p = letter_bounds b (head_of (WordTok w) prefix back b bytes f e) in let q = digit_bounds b h in omega arith)
other_number b bytes front rest h s (NearTok w) prefix back e f = absurd (let p : b ≡ 110 = head_of (NearTok w) prefix back b bytes f e in let q = digit_bounds b h in omega arith)
other_number b bytes front rest h s (NumberTok m) prefix back e f = span_longest is_ascii_digit front rest prefix back s.each s.stops (sym s.cut ∙ e) (digits_all prefix f.0)
other_number b bytes front rest h s (SignTok x) prefix back e f = absurd (let p = head_of (SignTok x) prefix back b bytes f e in let q = p.digit in let c : false ≡ true = sym q ∙ h in cc)

pub number_longest : (bytes front rest : List ℕ) → StartsWith is_ascii_digit bytes → IsSpan is_ascii_digit bytes front rest → IsLongest bytes (NumberTok (digits_value 10 front)) rest
number_longest [] front rest h s = absurd h
number_longest (b ∷ bytes) front rest h s = record { front = front; cut = s.cut; form = (span_digits (b ∷ bytes) front rest s h, refl); longest = other_number b bytes front rest h s }

-- a sign
other_sign : (n : ℕ) (s : Sign) (b : ℕ) (bytes : List ℕ) → Plain b → ((t : Sign) (prefix back : List ℕ) → b ∷ bytes ≡ prefix ++ back → prefix ≡ sign_bytes t → length prefix ≤ n) → (other : Tok) (prefix back : List ℕ) → b ∷ bytes ≡ prefix ++ back → HasForm other prefix → length prefix ≤ n
other_sign n s b bytes p k (WordTok w) prefix back e f = absurd (let q : is_ascii_alphabetic b ≡ true = head_of (WordTok w) prefix back b bytes f e in let r = p.letter in let c : false ≡ true = sym r ∙ q in cc)
other_sign n s b bytes p k (NearTok w) prefix back e f = absurd (let q : b ≡ 110 = head_of (NearTok w) prefix back b bytes f e in let r : is_ascii_alphabetic 110 ≡ false = subst (λ x. is_ascii_alphabetic x ≡ false) q p.letter in cc)
other_sign n s b bytes p k (NumberTok m) prefix back e f = absurd (let q : is_ascii_digit b ≡ true = head_of (NumberTok m) prefix back b bytes f e in let r = p.digit in let c : false ≡ true = sym r ∙ q in cc)
other_sign n s b bytes p k (SignTok t) prefix back e f = k t prefix back e f

pub long_sign_longest : (s : Sign) (b : ℕ) (after : List ℕ) → sign_bytes s ≡ b ∷ 61 ∷ [] → IsLongest (b ∷ 61 ∷ after) (SignTok s) after
long_sign_longest s b after e = record { front = b ∷ 61 ∷ []; cut = refl; form = sym e; longest = other_sign 2 s b (61 ∷ after) (sign_plain s b (61 ∷ []) e) (λ t prefix back q f. let h = (sign_length t).1 in let n : length prefix ≡ length (sign_bytes t) = ap length f in omega arith) }

-- a longer sign than one byte wants `=` next
second_of : (b : ℕ) (rest : List ℕ) (t : Sign) (prefix back : List ℕ) → b ∷ rest ≡ prefix ++ back → prefix ≡ sign_bytes t → (length prefix ≤ 1) ⊎ ((StartsWith (λ c. c == 61) rest) × (long_sign_of b ≡ Some t))
second_of b rest t [] back e f = inl (omega arith)
second_of b rest t (x ∷ []) back e f = inl (omega arith)
second_of b rest t (x ∷ (c ∷ more)) back e f =
    let l = long_back t x c more (sym f) in
    let q : b ≡ x = cc in
    let r : rest ≡ c ∷ (more ++ back) = cc in
    inr (subst (StartsWith (λ c. c == 61)) (sym r) ((Decides-eqb c 61).1 l.second), subst (λ y. long_sign_of y ≡ Some t) (sym q) l.found)

-- no longer sign stands here
abbrev pub NoLonger : ℕ → List ℕ → Type 0
NoLonger b rest = StartsWith (λ c. c == 61) rest → long_sign_of b ≡ None

short_length : (b : ℕ) (rest : List ℕ) → NoLonger b rest → (t : Sign) (prefix back : List ℕ) → b ∷ rest ≡ prefix ++ back → prefix ≡ sign_bytes t → length prefix ≤ 1
short_length b rest n t prefix back e f = elim (second_of b rest t prefix back e f) [ inl h ↦ h | inr h ↦ absurd (let c : None ≡ Some t = sym (n h.0) ∙ h.1 in cc) ]

pub short_sign_longest : (s : Sign) (b : ℕ) (rest : List ℕ) → NoLonger b rest → sign_bytes s ≡ b ∷ [] → IsLongest (b ∷ rest) (SignTok s) rest
short_sign_longest s b rest n e = record { front = b ∷ []; cut = refl; form = sym e; longest = other_sign 1 s b rest (sign_plain s b [] e) (short_length b rest n) }

-- no sign stands here
no_sign : (b : ℕ) (rest : List ℕ) → NoLonger b rest → short_sign_of b ≡ None → (t : Sign) (prefix back : List ℕ) → b ∷ rest ≡ prefix ++ back → prefix ≡ sign_bytes t → ⊥
no_sign b rest n k t [] back e f = let h = (sign_length t).0 in let m : 0 ≡ length (sign_bytes t) = ap length f in omega arith
no_sign b rest n k t (x ∷ []) back e f = let q : b ≡ x = cc in let r = short_back t x (sym f) in let c : None ≡ Some t = sym k ∙ ap short_sign_of q ∙ r in cc
no_sign b rest n k t (x ∷ (c ∷ more)) back e f = let h = short_length b rest n t (x ∷ c ∷ more) back e f in omega arith

abbrev pub IsSignAt : ℕ → List ℕ → Option (Sign × List ℕ) → Type 0
IsSignAt b rest (Some x) = IsLongest (b ∷ rest) (SignTok x.0) x.1
IsSignAt b rest None = (t : Sign) (prefix back : List ℕ) → b ∷ rest ≡ prefix ++ back → prefix ≡ sign_bytes t → ⊥

short_case : (b : ℕ) (rest : List ℕ) → NoLonger b rest → (o : Option Sign) → short_sign_of b ≡ o → IsSignAt b rest (with_rest o rest)
short_case b rest n None e = no_sign b rest n e
short_case b rest n (Some s) e = short_sign_longest s b rest n (short_is b s e)

long_case : (b c : ℕ) (rest : List ℕ) → c ≡ 61 → (o : Option Sign) → long_sign_of b ≡ o → IsSignAt b (c ∷ rest) (long_or_short o b c rest)
long_case b c rest q None e = short_case b (c ∷ rest) (λ h. e) (short_sign_of b) refl
long_case b c rest q (Some s) e = subst (λ x. IsLongest (b ∷ x ∷ rest) (SignTok s) rest) (sym q) (long_sign_longest s b rest (long_is b s e))

pub sign_at_is : (b : ℕ) (rest : List ℕ) → IsSignAt b rest (sign_at b rest)
unfolding sign_at
sign_at_is b [] = short_case b [] (λ h. absurd h) (short_sign_of b) refl
sign_at_is b (c ∷ rest) = elim (nat_eq c 61) as (λ t. nat_eq c 61 ≡ t → IsSignAt b (c ∷ rest) (cond t (long_or_short (long_sign_of b) b c rest) (with_rest (short_sign_of b) (c ∷ rest)))) [
  | true ↦ (λ t. long_case b c rest ((Decides-eqb c 61).0 t) (long_sign_of b) refl)
  | false ↦ (λ t. short_case b (c ∷ rest) (λ h. absurd (let k : false ≡ true = sym t ∙ h in cc)) (short_sign_of b) refl)
] refl

-- no token stands where the first byte begins none
pub none_first : (b : ℕ) (rest : List ℕ) → is_ascii_alphabetic b ≡ false → is_ascii_digit b ≡ false → ((t : Sign) (prefix back : List ℕ) → b ∷ rest ≡ prefix ++ back → prefix ≡ sign_bytes t → ⊥) → IsFirstToken (b ∷ rest) None
none_first b rest l d n (WordTok w) after long fits = let h : is_ascii_alphabetic b ≡ true = head_of (WordTok w) long.front after b rest long.form long.cut in let c : false ≡ true = sym l ∙ h in cc
none_first b rest l d n (NearTok w) after long fits = let h : b ≡ 110 = head_of (NearTok w) long.front after b rest long.form long.cut in let c : is_ascii_alphabetic 110 ≡ false = subst (λ x. is_ascii_alphabetic x ≡ false) h l in cc
none_first b rest l d n (NumberTok m) after long fits = let h : is_ascii_digit b ≡ true = head_of (NumberTok m) long.front after b rest long.form long.cut in let c : false ≡ true = sym d ∙ h in cc
none_first b rest l d n (SignTok s) after long fits = n s long.front after long.cut long.form
