-- The signs and their bytes.
use Rattle.std.proofs.Common.{◌≡◌, ℕ, ◌≤◌, ◌<◌, List, [], ◌∷◌, true, false, cond, Option, Some, None, refl, sym, ap, subst, ◌∙◌, arith, length, nat_eq}
use Rattle.std.specs.Prelude.{◌≢◌}
use Rattle.std.specs.Char.{is_ascii_alphabetic, is_ascii_digit}
use Rattle.std.proofs.lemmas.Bool.Decides.{Decides-eqb}
use Rattle.rule_lang.specs.declared.token.Sign.{Sign}
use Rattle.rule_lang.specs.declared.token.Sign.TheVariants.{Assign, Semicolon, Open, Close, Plus, Minus, Star, Slash, Percent, Ampersand, Bar, Caret, Equal, Differ, Less, LessEq, Greater, GreaterEq}
use Rattle.rule_lang.specs.Tokens.{sign_bytes}
use Rattle.rule_lang.specs.Signs.{short_sign_of, long_sign_of}

-- a byte that begins a sign begins nothing else
pub record Plain (b : ℕ) : Type 0 where
  pub letter : is_ascii_alphabetic b ≡ false
  pub digit : is_ascii_digit b ≡ false
  pub above : 32 < b
  pub hash : b ≢ 35

plain_at : (n b : ℕ) (m more : List ℕ) → n ∷ m ≡ b ∷ more → Plain n → Plain b
plain_at n b m more e p = let q : n ≡ b = cc in subst Plain q p

pub sign_plain : (s : Sign) (b : ℕ) (more : List ℕ) → sign_bytes s ≡ b ∷ more → Plain b
sign_plain Assign b more e = plain_at 61 b _ more e (record { letter = refl; digit = refl; above = omega arith; hash = λ q. omega arith })
sign_plain Semicolon b more e = plain_at 59 b _ more e (record { letter = refl; digit = refl; above = omega arith; hash = λ q. omega arith })
sign_plain Open b more e = plain_at 40 b _ more e (record { letter = refl; digit = refl; above = omega arith; hash = λ q. omega arith })
sign_plain Close b more e = plain_at 41 b _ more e (record { letter = refl; digit = refl; above = omega arith; hash = λ q. omega arith })
sign_plain Plus b more e = plain_at 43 b _ more e (record { letter = refl; digit = refl; above = omega arith; hash = λ q. omega arith })
sign_plain Minus b more e = plain_at 45 b _ more e (record { letter = refl; digit = refl; above = omega arith; hash = λ q. omega arith })
sign_plain Star b more e = plain_at 42 b _ more e (record { letter = refl; digit = refl; above = omega arith; hash = λ q. omega arith })
sign_plain Slash b more e = plain_at 47 b _ more e (record { letter = refl; digit = refl; above = omega arith; hash = λ q. omega arith })
sign_plain Percent b more e = plain_at 37 b _ more e (record { letter = refl; digit = refl; above = omega arith; hash = λ q. omega arith })
sign_plain Ampersand b more e = plain_at 38 b _ more e (record { letter = refl; digit = refl; above = omega arith; hash = λ q. omega arith })
sign_plain Bar b more e = plain_at 124 b _ more e (record { letter = refl; digit = refl; above = omega arith; hash = λ q. omega arith })
sign_plain Caret b more e = plain_at 94 b _ more e (record { letter = refl; digit = refl; above = omega arith; hash = λ q. omega arith })
sign_plain Less b more e = plain_at 60 b _ more e (record { letter = refl; digit = refl; above = omega arith; hash = λ q. omega arith })
sign_plain Greater b more e = plain_at 62 b _ more e (record { letter = refl; digit = refl; above = omega arith; hash = λ q. omega arith })
sign_plain Equal b more e = plain_at 61 b _ more e (record { letter = refl; digit = refl; above = omega arith; hash = λ q. omega arith })
sign_plain Differ b more e = plain_at 33 b _ more e (record { letter = refl; digit = refl; above = omega arith; hash = λ q. omega arith })
sign_plain LessEq b more e = plain_at 60 b _ more e (record { letter = refl; digit = refl; above = omega arith; hash = λ q. omega arith })
sign_plain GreaterEq b more e = plain_at 62 b _ more e (record { letter = refl; digit = refl; above = omega arith; hash = λ q. omega arith })

pick : (b n : ℕ) (h s : Sign) (more : List ℕ) (rest : Option Sign) → sign_bytes h ≡ n ∷ more → (rest ≡ Some s → sign_bytes s ≡ b ∷ more) → cond (nat_eq b n) (Some h) rest ≡ Some s → sign_bytes s ≡ b ∷ more
pick b n h s more rest own other = elim (nat_eq b n) as (λ t. nat_eq b n ≡ t → cond t (Some h) rest ≡ Some s → sign_bytes s ≡ b ∷ more) [ true ↦ (λ t e. let q : h ≡ s = cc in let r : b ≡ n = (Decides-eqb b n).0 t in ap sign_bytes (sym q) ∙ own ∙ ap (λ x. x ∷ more) (sym r)) | false ↦ (λ t e. other e) ] refl

pub short_is : (b : ℕ) (s : Sign) → short_sign_of b ≡ Some s → sign_bytes s ≡ b ∷ []
unfolding short_sign_of
short_is b s = pick b 61 Assign s [] _ refl (pick b 59 Semicolon s [] _ refl (pick b 40 Open s [] _ refl (pick b 41 Close s [] _ refl (pick b 43 Plus s [] _ refl (pick b 45 Minus s [] _ refl (pick b 42 Star s [] _ refl (pick b 47 Slash s [] _ refl (pick b 37 Percent s [] _ refl (pick b 38 Ampersand s [] _ refl (pick b 124 Bar s [] _ refl (pick b 94 Caret s [] _ refl (pick b 60 Less s [] _ refl (pick b 62 Greater s [] _ refl (λ e. cc))))))))))))))

pub long_is : (b : ℕ) (s : Sign) → long_sign_of b ≡ Some s → sign_bytes s ≡ b ∷ 61 ∷ []
unfolding long_sign_of
long_is b s = pick b 61 Equal s (61 ∷ []) _ refl (pick b 33 Differ s (61 ∷ []) _ refl (pick b 60 LessEq s (61 ∷ []) _ refl (pick b 62 GreaterEq s (61 ∷ []) _ refl (λ e. cc))))

pub short_back : (s : Sign) (b : ℕ) → sign_bytes s ≡ b ∷ [] → short_sign_of b ≡ Some s
unfolding short_sign_of
short_back Assign b e = let q : 61 ≡ b = cc in rw (← q) refl
short_back Semicolon b e = let q : 59 ≡ b = cc in rw (← q) refl
short_back Open b e = let q : 40 ≡ b = cc in rw (← q) refl
short_back Close b e = let q : 41 ≡ b = cc in rw (← q) refl
short_back Plus b e = let q : 43 ≡ b = cc in rw (← q) refl
short_back Minus b e = let q : 45 ≡ b = cc in rw (← q) refl
short_back Star b e = let q : 42 ≡ b = cc in rw (← q) refl
short_back Slash b e = let q : 47 ≡ b = cc in rw (← q) refl
short_back Percent b e = let q : 37 ≡ b = cc in rw (← q) refl
short_back Ampersand b e = let q : 38 ≡ b = cc in rw (← q) refl
short_back Bar b e = let q : 124 ≡ b = cc in rw (← q) refl
short_back Caret b e = let q : 94 ≡ b = cc in rw (← q) refl
short_back Less b e = let q : 60 ≡ b = cc in rw (← q) refl
short_back Greater b e = let q : 62 ≡ b = cc in rw (← q) refl
short_back Equal b e = cc
short_back Differ b e = cc
short_back LessEq b e = cc
short_back GreaterEq b e = cc

-- a second byte of a sign
pub record Longer (s : Sign) (b c : ℕ) (more : List ℕ) : Type 0 where
  pub second : c ≡ 61
  pub no_more : more ≡ []
  pub found : long_sign_of b ≡ Some s

longer_at : (s : Sign) (n b c : ℕ) (more : List ℕ) → n ∷ 61 ∷ [] ≡ b ∷ c ∷ more → long_sign_of n ≡ Some s → Longer s b c more
longer_at s n b c more e f =
    let q : n ≡ b = cc in
    let t : 61 ∷ [] ≡ c ∷ more = cc in
    let r : 61 ≡ c = cc in
    let m : [] ≡ more = cc in
    record { second = sym r; no_more = sym m; found = subst (λ x. long_sign_of x ≡ Some s) q f }

pub long_back : (s : Sign) (b c : ℕ) (more : List ℕ) → sign_bytes s ≡ b ∷ c ∷ more → Longer s b c more
unfolding long_sign_of
long_back Assign b c more e = cc
long_back Semicolon b c more e = cc
long_back Open b c more e = cc
long_back Close b c more e = cc
long_back Plus b c more e = cc
long_back Minus b c more e = cc
long_back Star b c more e = cc
long_back Slash b c more e = cc
long_back Percent b c more e = cc
long_back Ampersand b c more e = cc
long_back Bar b c more e = cc
long_back Caret b c more e = cc
long_back Less b c more e = cc
long_back Greater b c more e = cc
long_back Equal b c more e = longer_at Equal 61 b c more e refl
long_back Differ b c more e = longer_at Differ 33 b c more e refl
long_back LessEq b c more e = longer_at LessEq 60 b c more e refl
long_back GreaterEq b c more e = longer_at GreaterEq 62 b c more e refl

pub sign_length : (s : Sign) → (0 < length (sign_bytes s)) × (length (sign_bytes s) ≤ 2)
sign_length Assign = (omega arith, omega arith)
sign_length Semicolon = (omega arith, omega arith)
sign_length Open = (omega arith, omega arith)
sign_length Close = (omega arith, omega arith)
sign_length Plus = (omega arith, omega arith)
sign_length Minus = (omega arith, omega arith)
sign_length Star = (omega arith, omega arith)
sign_length Slash = (omega arith, omega arith)
sign_length Percent = (omega arith, omega arith)
sign_length Ampersand = (omega arith, omega arith)
sign_length Bar = (omega arith, omega arith)
sign_length Caret = (omega arith, omega arith)
sign_length Less = (omega arith, omega arith)
sign_length Greater = (omega arith, omega arith)
sign_length Equal = (omega arith, omega arith)
sign_length Differ = (omega arith, omega arith)
sign_length LessEq = (omega arith, omega arith)
sign_length GreaterEq = (omega arith, omega arith)

sign_of : List ℕ → Option Sign
sign_of [] = None
sign_of (b ∷ []) = short_sign_of b
sign_of (b ∷ (c ∷ more)) = long_sign_of b

sign_of_bytes : (s : Sign) → sign_of (sign_bytes s) ≡ Some s
unfolding sign_of short_sign_of long_sign_of
sign_of_bytes Assign = refl
sign_of_bytes Semicolon = refl
sign_of_bytes Open = refl
sign_of_bytes Close = refl
sign_of_bytes Plus = refl
sign_of_bytes Minus = refl
sign_of_bytes Star = refl
sign_of_bytes Slash = refl
sign_of_bytes Percent = refl
sign_of_bytes Ampersand = refl
sign_of_bytes Bar = refl
sign_of_bytes Caret = refl
sign_of_bytes Less = refl
sign_of_bytes Greater = refl
sign_of_bytes Equal = refl
sign_of_bytes Differ = refl
sign_of_bytes LessEq = refl
sign_of_bytes GreaterEq = refl

pub same_sign : (s t : Sign) → sign_bytes s ≡ sign_bytes t → s ≡ t
same_sign s t e = let q : Some s ≡ Some t = sym (sign_of_bytes s) ∙ ap sign_of e ∙ sign_of_bytes t in cc
