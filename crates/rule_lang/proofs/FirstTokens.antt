-- One token at most stands first, and which one.
use Rattle.std.proofs.Common.{◌≡◌, ℕ, ◌≤◌, ◌<◌, List, [], ◌∷◌, ◌++◌, Bool, true, false, Some, None, refl, sym, ap, subst, ◌∙◌, arith, length, length-append, append-nil, take, drop, ◌-◌}
use Rattle.std.specs.Prelude.{◌==◌, ◌&&◌}
use Rattle.std.specs.Char.{is_ascii_alphabetic, is_ascii_digit}
use Rattle.std.specs.Str.Parse.{digits_value}
use Rattle.std.proofs.lemmas.Bool.Decides.{Decides-eqb}
use Rattle.rule_lang.specs.declared.token.Sign.{Sign}
use Rattle.rule_lang.specs.Tokens.{Tok, WordTok, NearTok, NumberTok, SignTok, is_word_byte, IsWord, sign_bytes, HasForm, FitsTok, IsLongest, IsSpan}
use Rattle.rule_lang.specs.Lexing.{StartsWith, IsFirstToken, IsNumberAt, begins_near}
use Rattle.rule_lang.specs.Signs.{sign_at}
use Rattle.rule_lang.proofs.Bytes.{and_left, and_right, cut_at, letter_bounds, digit_bounds, same_cut}
use Rattle.rule_lang.proofs.Signs.{sign_length, same_sign}
use Rattle.rule_lang.proofs.Forms.{HeadOf, head_of, near_first, span_digits, number_longest, IsSignAt, sign_at_is, none_first}

-- one form only
dot_no_word : (w v : List ℕ) → IsWord v → v ≡ 110 ∷ 46 ∷ w → ⊥
dot_no_word w [] f e = f
dot_no_word w (x ∷ []) f e = cc
dot_no_word w (x ∷ (y ∷ v)) f e = let q : y ≡ 46 = cc in let r : is_word_byte 46 ≡ true = subst (λ z. is_word_byte z ≡ true) q f.1.0 in cc

one_form : (front : List ℕ) (b : ℕ) (more : List ℕ) → front ≡ b ∷ more → (t u : Tok) → HasForm t front → HasForm u front → HeadOf t b → HeadOf u b → t ≡ u
one_form front b more e (WordTok v) (WordTok w) f g h k = ap WordTok (sym f.1 ∙ g.1)
one_form front b more e (WordTok v) (NearTok w) f g h k = absurd (dot_no_word w v f.0 (sym f.1 ∙ g.1))
one_form front b more e (WordTok v) (NumberTok n) f g h k = absurd (let p = letter_bounds b h in let q = digit_bounds b k in omega arith)
one_form front b more e (WordTok v) (SignTok s) f g h k = absurd (let p = k.letter in let c : false ≡ true = sym p ∙ h in cc)
one_form front b more e (NearTok v) (WordTok w) f g h k = absurd (dot_no_word v w g.0 (sym g.1 ∙ f.1))
one_form front b more e (NearTok v) (NearTok w) f g h k = let q : 110 ∷ 46 ∷ v ≡ 110 ∷ 46 ∷ w = sym f.1 ∙ g.1 in let r : v ≡ w = cc in ap NearTok r
one_form front b more e (NearTok v) (NumberTok n) f g h k = absurd (let q = digit_bounds b k in omega arith)
one_form front b more e (NearTok v) (SignTok s) f g h k = absurd (let c : is_ascii_alphabetic 110 ≡ false = subst (λ x. is_ascii_alphabetic x ≡ false) h k.letter in cc)
one_form front b more e (NumberTok m) (WordTok w) f g h k = absurd (let p = letter_bounds b k in let q = digit_bounds b h in omega arith)
one_form front b more e (NumberTok m) (NearTok w) f g h k = absurd (let q = digit_bounds b h in omega arith)
one_form front b more e (NumberTok m) (NumberTok n) f g h k = ap NumberTok (f.1 ∙ sym g.1)
one_form front b more e (NumberTok m) (SignTok s) f g h k = absurd (let p = k.digit in let c : false ≡ true = sym p ∙ h in cc)
one_form front b more e (SignTok r) (WordTok w) f g h k = absurd (let p = h.letter in let c : false ≡ true = sym p ∙ k in cc)
one_form front b more e (SignTok r) (NearTok w) f g h k = absurd (let c : is_ascii_alphabetic 110 ≡ false = subst (λ x. is_ascii_alphabetic x ≡ false) k h.letter in cc)
one_form front b more e (SignTok r) (NumberTok n) f g h k = absurd (let p = h.digit in let c : false ≡ true = sym p ∙ k in cc)
one_form front b more e (SignTok r) (SignTok s) f g h k = ap SignTok (same_sign r s (sym f ∙ g))

pub form_some : (t : Tok) (front : List ℕ) → HasForm t front → (b : ℕ) × (more : List ℕ) × (front ≡ b ∷ more)
form_some t (b ∷ more) f = (b, more, refl)
form_some (WordTok []) [] f = absurd f.0
form_some (WordTok (x ∷ w)) [] f = absurd (let q = f.1 in cc)
form_some (NearTok w) [] f = absurd (let q = f.1 in cc)
form_some (NumberTok n) [] f = absurd f.0
form_some (SignTok s) [] f = absurd (let h = (sign_length s).0 in let m : 0 ≡ length (sign_bytes s) = ap length f in omega arith)

pub one_first : (bytes r s : List ℕ) (t u : Tok) → IsLongest bytes t r → IsLongest bytes u s → (t ≡ u) × (r ≡ s)
one_first bytes r s t u x y =
    let a = x.longest u y.front s y.cut y.form in
    let b = y.longest t x.front r x.cut x.form in
    let p = same_cut x.front r y.front s (sym x.cut ∙ y.cut) (omega arith) in
    let n = form_some t x.front x.form in
    let g : HasForm u x.front = subst (HasForm u) (sym p.0) y.form in
    let e : n.0 ∷ n.1 ≡ x.front ++ [] = sym n.2 ∙ sym (append-nil x.front) in
    (one_form x.front n.0 n.1 n.2 t u x.form g (head_of t x.front [] n.0 n.1 x.form e) (head_of u x.front [] n.0 n.1 g e), p.1)

-- the bytes of a longest token are not none
pub longest_shorter : (bytes rest : List ℕ) (t : Tok) → IsLongest bytes t rest → length rest < length bytes
longest_shorter bytes rest t x = let n = form_some t x.front x.form in rw x.cut (rw n.2 (rw length-append (omega arith)))

pub number_some : (bytes rest : List ℕ) (v : ℕ) → StartsWith is_ascii_digit bytes → IsNumberAt bytes (Some (v, rest)) → IsFirstToken bytes (Some (NumberTok v, rest))
number_some bytes rest v h n = (subst (λ x. IsLongest bytes (NumberTok x) rest) (sym n.2) (number_longest bytes n.0 rest h n.1), n.3)

pub number_none : (bytes : List ℕ) → StartsWith is_ascii_digit bytes → IsNumberAt bytes None → IsFirstToken bytes None
number_none bytes h n t r long fits = let p = one_first bytes r n.1 t (NumberTok (digits_value 10 n.0)) long (number_longest bytes n.0 n.1 h n.2) in n.3 (subst FitsTok p.0 fits)

-- what follows `n.`
pub near_from : (bytes : List ℕ) → begins_near bytes ≡ true → (rest : List ℕ) × (bytes ≡ 110 ∷ 46 ∷ rest) × StartsWith is_ascii_alphabetic rest
unfolding begins_near
near_from [] e = cc
near_from (a ∷ []) e = cc
near_from (a ∷ (b ∷ [])) e = cc
near_from (a ∷ (b ∷ (c ∷ bytes))) e =
    let p : a ≡ 110 = (Decides-eqb a 110).0 (and_left (a == 110) ((b == 46) && is_ascii_alphabetic c) e) in
    let q = and_right (a == 110) ((b == 46) && is_ascii_alphabetic c) e in
    let r : b ≡ 46 = (Decides-eqb b 46).0 (and_left (b == 46) (is_ascii_alphabetic c) q) in
    (c ∷ bytes, (cc), and_right (b == 46) (is_ascii_alphabetic c) q)

pub near_two : (bytes : List ℕ) → begins_near bytes ≡ true → 2 ≤ length bytes
near_two bytes e = let p = near_from bytes e in rw p.1 (omega arith)

pub near_found : (bytes front rest : List ℕ) → begins_near bytes ≡ true → IsSpan is_word_byte (take (length bytes - 2) (drop 2 bytes)) front rest → IsFirstToken bytes (Some (NearTok front, rest))
near_found bytes front rest e s =
    let p = near_from bytes e in
    let d : IsSpan is_word_byte (drop 2 bytes) front rest = rw (← cut_at 2 bytes) s in
    let f : IsSpan is_word_byte p.0 front rest = subst (λ l. IsSpan is_word_byte (drop 2 l) front rest) p.1 d in
    rw p.1 (near_first p.0 front rest p.2 f)

pub digits_some : (bytes front rest : List ℕ) → StartsWith is_ascii_digit bytes → IsSpan is_ascii_digit bytes front rest → 0 < length front
digits_some bytes [] rest h s = absurd (span_digits bytes [] rest s h)
digits_some bytes (f ∷ front) rest h s = omega arith

pub sign_none : (bytes : List ℕ) (b : ℕ) (rest : List ℕ) → bytes ≡ b ∷ rest → None ≡ sign_at b rest → is_ascii_alphabetic b ≡ false → is_ascii_digit b ≡ false → IsFirstToken bytes None
sign_none bytes b rest q e l d = subst (λ x. IsFirstToken x None) (sym q) (none_first b rest l d (subst (IsSignAt b rest) (sym e) (sign_at_is b rest)))

pub sign_some : (bytes : List ℕ) (b : ℕ) (rest after : List ℕ) (s : Sign) → bytes ≡ b ∷ rest → Some (s, after) ≡ sign_at b rest → IsFirstToken bytes (Some (SignTok s, after))
sign_some bytes b rest after s q e = (subst (λ x. IsLongest x (SignTok s) after) (sym q) (subst (IsSignAt b rest) (sym e) (sign_at_is b rest)), tt)

pub starts_at : (p : ℕ → Bool) (bytes : List ℕ) (b : ℕ) (rest : List ℕ) → bytes ≡ b ∷ rest → p b ≡ true → StartsWith p bytes
starts_at p bytes b rest q e = subst (StartsWith p) (sym q) e
