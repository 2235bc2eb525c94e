-- The canonical spelling has the tokens of the tree.
use Rattle.std.proofs.Common.{◌≡◌, ℕ, ◌<◌, ◌^◌, List, [], ◌∷◌, ◌++◌, Bool, true, false, None, refl, subst, arith, length, append_assoc, codes, flat_map}
use Rattle.std.specs.Prelude.{IsTrue, ◌==◌, ◌&&◌}
use Rattle.std.specs.Char.{digit_value}
use Rattle.std.proofs.lemmas.Str.Parse.{digit_from_value}
use Rattle.std.proofs.lemmas.Bool.Decides.{Decides-eqb, nat_tests}
use Rattle.std.specs.List.{AllByRecursion}
use Rattle.std.specs.Char.{is_ascii_alphabetic, is_ascii_digit}
use Rattle.std.specs.Fmt.{decimal}
use Rattle.std.specs.Str.Parse.{AllDigits}
use Rattle.std.proofs.lemmas.Fmt.{decimal_is_IsNumeral}
use Rattle.rule_lang.specs.declared.tree.Op.{Op}
use Rattle.rule_lang.specs.declared.tree.Op.TheVariants.{Plus, Minus, Times, Quot, Rem, BitAnd, BitOr, BitXor, Equal, Differ, Less, LessEq, Greater, GreaterEq, Min, Max}
use Rattle.rule_lang.specs.declared.tree.Agg.{Agg}
use Rattle.rule_lang.specs.declared.tree.Agg.TheVariants.{Total, Least, Most, Count, Some1, Every}
use Rattle.rule_lang.specs.declared.token.Sign.{Sign}
use Rattle.rule_lang.specs.declared.token.Sign.TheVariants as sign
use Rattle.rule_lang.specs.Tokens.{Tok, WordTok, NearTok, NumberTok, SignTok, IsTok, is_word_byte, IsWord, sign_bytes, HasForm, FitsTok, IsLongest, IsSpan, HasTokens, at_end, after_blank, after_comment, after_token}
use Rattle.rule_lang.specs.Lexing.{StartsWith, begins_near}
use Rattle.rule_lang.specs.Signs.{long_sign_of}
use Rattle.rule_lang.specs.Tree.{Tree, NumberTree, OwnTree, IdTree, DegreeTree, RoundTree, NearTree, NearIdTree, NearWeightTree, InfixTree, NotTree, OverTree, ChoiceTree, ItemTree, FieldTree, NextTree, op_token, agg_word, spell, spell_item}
use Rattle.rule_lang.specs.Canonical.{op_text, tree_text, item_text, program_text}
use Rattle.rule_lang.proofs.Forms.{word_all, word_first, near_first, number_longest, long_sign_longest, short_sign_longest}

-- the bytes begin with none that could make a word or a number longer
abbrev pub Closes : List ℕ → Type 0
Closes [] = ⊥
Closes (b ∷ bytes) = (is_word_byte b ≡ false) × (is_ascii_digit b ≡ false) × ((b == 46) ≡ false)

word_span : (w rest : List ℕ) → IsWord w → Closes rest → IsSpan is_word_byte (w ++ rest) w rest
word_span w [] f c = absurd c
word_span w (b ∷ rest) f c = record { cut = refl; each = word_all w f; stops = c.0 }

word_starts : (w rest : List ℕ) → IsWord w → StartsWith is_ascii_alphabetic (w ++ rest)
word_starts [] rest f = absurd f
word_starts (b ∷ w) rest f = f.0

not_dot : (b : ℕ) → is_word_byte b ≡ true → (b == 46) ≡ false
not_dot b e = elim (b == 46) as (λ t. (b == 46) ≡ t → t ≡ false) [ true ↦ (λ h. absurd (let q : b ≡ 46 = (Decides-eqb b 46).0 h in let r : is_word_byte 46 ≡ true = subst (λ x. is_word_byte x ≡ true) q e in cc)) | false ↦ (λ h. refl) ] refl

and_false : (x y z : Bool) → y ≡ false → (x && (y && z)) ≡ false
and_false true true z e = cc
and_false true false z e = refl
and_false false y z e = refl

no_near : (w rest : List ℕ) → IsWord w → Closes rest → begins_near (w ++ rest) ≡ false
unfolding begins_near
no_near [] rest f c = absurd f
no_near (a ∷ []) [] f c = absurd c
no_near (a ∷ []) (b ∷ []) f c = refl
no_near (a ∷ []) (b ∷ (d ∷ rest)) f c = and_false (a == 110) (b == 46) (is_ascii_alphabetic d) c.2
no_near (a ∷ (b ∷ [])) [] f c = absurd c
no_near (a ∷ (b ∷ [])) (d ∷ rest) f c = and_false (a == 110) (b == 46) (is_ascii_alphabetic d) (not_dot b f.1.0)
no_near (a ∷ (b ∷ (d ∷ w))) rest f c = and_false (a == 110) (b == 46) (is_ascii_alphabetic d) (not_dot b f.1.0)

pub put_word : (w rest : List ℕ) (ts : List Tok) → IsWord w → Closes rest → HasTokens rest ts → HasTokens (w ++ rest) (WordTok w ∷ ts)
put_word w rest ts f c d =
    let p = word_first (w ++ rest) w rest (word_starts w rest f) (no_near w rest f c) (word_span w rest f c) in
    after_token (w ++ rest) rest (WordTok w) ts p.0 p.1 d

pub put_near : (w rest : List ℕ) (ts : List Tok) → IsWord w → Closes rest → HasTokens rest ts → HasTokens (110 ∷ 46 ∷ (w ++ rest)) (NearTok w ∷ ts)
put_near w rest ts f c d =
    let p = near_first (w ++ rest) w rest (word_starts w rest f) (word_span w rest f c) in
    after_token (110 ∷ 46 ∷ (w ++ rest)) rest (NearTok w) ts p.0 p.1 d

digit_is : (b : ℕ) → digit_value b < 10 → is_ascii_digit b ≡ true
digit_is b h = let p = digit_from_value b h in grind (arith, nat_tests)

all_digits : (ds : List ℕ) → AllDigits 10 ds → AllByRecursion (λ b. IsTrue (is_ascii_digit b)) ds
all_digits [] h = tt
all_digits (b ∷ ds) h = (digit_is b h.0, all_digits ds h.1)

digits_start : (ds rest : List ℕ) → 0 < length ds → AllByRecursion (λ b. IsTrue (is_ascii_digit b)) ds → StartsWith is_ascii_digit (ds ++ rest)
digits_start [] rest n h = absurd (omega arith)
digits_start (b ∷ ds) rest n h = h.0

digits_span : (ds rest : List ℕ) → AllByRecursion (λ b. IsTrue (is_ascii_digit b)) ds → Closes rest → IsSpan is_ascii_digit (ds ++ rest) ds rest
digits_span ds [] h c = absurd c
digits_span ds (b ∷ rest) h c = record { cut = refl; each = h; stops = c.1 }

pub put_number : (n : ℕ) (rest : List ℕ) (ts : List Tok) → n < 2 ^ 32 → Closes rest → HasTokens rest ts → HasTokens (decimal n ++ rest) (NumberTok n ∷ ts)
put_number n rest ts f c d =
    let p = decimal_is_IsNumeral n (omega arith) in
    let a = all_digits (decimal n) p.0.1 in
    let l = number_longest (decimal n ++ rest) (decimal n) rest (digits_start (decimal n) rest p.0.0 a) (digits_span (decimal n) rest a c) in
    after_token (decimal n ++ rest) rest (NumberTok n) ts (subst (λ x. IsLongest (decimal n ++ rest) (NumberTok x) rest) p.1 l) f d

put_short : (s : Sign) (b : ℕ) (rest : List ℕ) (ts : List Tok) → sign_bytes s ≡ b ∷ [] → (StartsWith (λ c. c == 61) rest → long_sign_of b ≡ None) → HasTokens rest ts → HasTokens (b ∷ rest) (SignTok s ∷ ts)
put_short s b rest ts e n d = after_token (b ∷ rest) rest (SignTok s) ts (short_sign_longest s b rest n e) tt d

put_long : (s : Sign) (b : ℕ) (rest : List ℕ) (ts : List Tok) → sign_bytes s ≡ b ∷ 61 ∷ [] → HasTokens rest ts → HasTokens (b ∷ 61 ∷ rest) (SignTok s ∷ ts)
put_long s b rest ts e d = after_token (b ∷ 61 ∷ rest) rest (SignTok s) ts (long_sign_longest s b rest e) tt d

pub put_space : (rest : List ℕ) (ts : List Tok) → HasTokens rest ts → HasTokens (32 ∷ rest) ts
put_space rest ts d = after_blank 32 rest ts refl d

pub put_line : (rest : List ℕ) (ts : List Tok) → HasTokens rest ts → HasTokens (10 ∷ rest) ts
put_line rest ts d = after_blank 10 rest ts refl d

pub put_op : (op : Op) (rest : List ℕ) (ts : List Tok) → HasTokens rest ts → HasTokens (op_text op ++ (32 ∷ rest)) (op_token op ∷ ts)
put_op Plus rest ts d = put_short sign.Plus 43 (32 ∷ rest) ts refl (λ h. cc) (put_space rest ts d)
put_op Minus rest ts d = put_short sign.Minus 45 (32 ∷ rest) ts refl (λ h. cc) (put_space rest ts d)
put_op Times rest ts d = put_short sign.Star 42 (32 ∷ rest) ts refl (λ h. cc) (put_space rest ts d)
put_op Quot rest ts d = put_short sign.Slash 47 (32 ∷ rest) ts refl (λ h. cc) (put_space rest ts d)
put_op Rem rest ts d = put_short sign.Percent 37 (32 ∷ rest) ts refl (λ h. cc) (put_space rest ts d)
put_op BitAnd rest ts d = put_short sign.Ampersand 38 (32 ∷ rest) ts refl (λ h. cc) (put_space rest ts d)
put_op BitOr rest ts d = put_short sign.Bar 124 (32 ∷ rest) ts refl (λ h. cc) (put_space rest ts d)
put_op BitXor rest ts d = put_short sign.Caret 94 (32 ∷ rest) ts refl (λ h. cc) (put_space rest ts d)
put_op Equal rest ts d = put_long sign.Equal 61 (32 ∷ rest) ts refl (put_space rest ts d)
put_op Differ rest ts d = put_long sign.Differ 33 (32 ∷ rest) ts refl (put_space rest ts d)
put_op Less rest ts d = put_short sign.Less 60 (32 ∷ rest) ts refl (λ h. cc) (put_space rest ts d)
put_op LessEq rest ts d = put_long sign.LessEq 60 (32 ∷ rest) ts refl (put_space rest ts d)
put_op Greater rest ts d = put_short sign.Greater 62 (32 ∷ rest) ts refl (λ h. cc) (put_space rest ts d)
put_op GreaterEq rest ts d = put_long sign.GreaterEq 62 (32 ∷ rest) ts refl (put_space rest ts d)
put_op Min rest ts d = put_word (codes "min") (32 ∷ rest) ts (refl, (refl, (refl, tt))) (refl, refl, refl) (put_space rest ts d)
put_op Max rest ts d = put_word (codes "max") (32 ∷ rest) ts (refl, (refl, (refl, tt))) (refl, refl, refl) (put_space rest ts d)

put_open : (rest : List ℕ) (ts : List Tok) → HasTokens rest ts → HasTokens (40 ∷ rest) (SignTok sign.Open ∷ ts)
unfolding long_sign_of
put_open rest ts d = put_short sign.Open 40 rest ts refl (λ h. refl) d

put_close : (rest : List ℕ) (ts : List Tok) → HasTokens rest ts → HasTokens (41 ∷ rest) (SignTok sign.Close ∷ ts)
unfolding long_sign_of
put_close rest ts d = put_short sign.Close 41 rest ts refl (λ h. refl) d

put_semicolon : (rest : List ℕ) (ts : List Tok) → HasTokens rest ts → HasTokens (59 ∷ rest) (SignTok sign.Semicolon ∷ ts)
unfolding long_sign_of
put_semicolon rest ts d = put_short sign.Semicolon 59 rest ts refl (λ h. refl) d

pub all_left : (xs ys : List Tok) → AllByRecursion IsTok (xs ++ ys) → AllByRecursion IsTok xs
all_left [] ys h = tt
all_left (x ∷ xs) ys h = (h.0, all_left xs ys h.1)

all_right : (xs ys : List Tok) → AllByRecursion IsTok (xs ++ ys) → AllByRecursion IsTok ys
all_right [] ys h = h
all_right (x ∷ xs) ys h = all_right xs ys h.1

-- a tree before what closes it
abbrev pub Puts : Tree → Type 0
Puts t = (rest : List ℕ) (ts : List Tok) → Closes rest → HasTokens rest ts → HasTokens (tree_text t ++ rest) (spell t ++ ts)

put_agg : (agg : Agg) (rest : List ℕ) (ts : List Tok) → HasTokens rest ts → HasTokens (agg_word agg ++ (32 ∷ rest)) (WordTok (agg_word agg) ∷ ts)
put_agg Total rest ts d = put_word (codes "total") (32 ∷ rest) ts (refl, (refl, (refl, (refl, (refl, tt))))) (refl, refl, refl) (put_space rest ts d)
put_agg Least rest ts d = put_word (codes "least") (32 ∷ rest) ts (refl, (refl, (refl, (refl, (refl, tt))))) (refl, refl, refl) (put_space rest ts d)
put_agg Most rest ts d = put_word (codes "most") (32 ∷ rest) ts (refl, (refl, (refl, (refl, tt)))) (refl, refl, refl) (put_space rest ts d)
put_agg Count rest ts d = put_word (codes "count") (32 ∷ rest) ts (refl, (refl, (refl, (refl, (refl, tt))))) (refl, refl, refl) (put_space rest ts d)
put_agg Some1 rest ts d = put_word (codes "any") (32 ∷ rest) ts (refl, (refl, (refl, tt))) (refl, refl, refl) (put_space rest ts d)
put_agg Every rest ts d = put_word (codes "all") (32 ∷ rest) ts (refl, (refl, (refl, tt))) (refl, refl, refl) (put_space rest ts d)

put_tree : (t : Tree) → AllByRecursion IsTok (spell t) → Puts t
put_tree (NumberTree n) h = λ rest ts c d. put_number n rest ts h.0 c d
put_tree (OwnTree w) h = λ rest ts c d. put_word w rest ts h.0 c d
put_tree IdTree h = λ rest ts c d. put_word (codes "id") rest ts h.0 c d
put_tree DegreeTree h = λ rest ts c d. put_word (codes "degree") rest ts h.0 c d
put_tree RoundTree h = λ rest ts c d. put_word (codes "round") rest ts h.0 c d
put_tree (NearTree w) h = λ rest ts c d. put_near w rest ts h.0 c d
put_tree NearIdTree h = λ rest ts c d. put_near (codes "id") rest ts h.0 c d
put_tree NearWeightTree h = λ rest ts c d. put_near (codes "weight") rest ts h.0 c d
put_tree (InfixTree op a b) h = λ rest ts c d.
    let r = all_right (spell a) _ h.1 in
    let pb = put_tree b (all_left (spell b) _ r.1) (41 ∷ rest) (SignTok sign.Close ∷ ts) (refl, refl, refl) (put_close rest ts d) in
    let po = put_space _ _ (put_op op _ _ pb) in
    simp append_assoc (put_open _ _ (put_tree a (all_left (spell a) _ h.1) _ _ (refl, refl, refl) po))
put_tree (NotTree a) h = λ rest ts c d. put_word (codes "not") _ _ h.0 (refl, refl, refl) (put_space _ _ (put_tree a h.1 rest ts c d))
put_tree (OverTree agg a) h = λ rest ts c d. simp append_assoc (put_agg agg _ _ (put_tree a h.1 rest ts c d))
put_tree (ChoiceTree a b c) h = λ rest ts k d.
    let r = all_right (spell a) _ h.1 in
    let q = all_right (spell b) _ r.1 in
    let pc = put_space _ _ (put_word (codes "else") _ _ q.0 (refl, refl, refl) (put_space _ _ (put_tree c q.1 rest ts k d))) in
    let pb = put_space _ _ (put_word (codes "then") _ _ r.0 (refl, refl, refl) (put_space _ _ (put_tree b (all_left (spell b) _ r.1) _ _ (refl, refl, refl) pc))) in
    simp append_assoc (put_word (codes "if") _ _ h.0 (refl, refl, refl) (put_space _ _ (put_tree a (all_left (spell a) _ h.1) _ _ (refl, refl, refl) pb)))

put_assign : (rest : List ℕ) (ts : List Tok) → HasTokens rest ts → HasTokens (61 ∷ 32 ∷ rest) (SignTok sign.Assign ∷ ts)
put_assign rest ts d = put_short sign.Assign 61 (32 ∷ rest) ts refl (λ h. cc) (put_space rest ts d)

pub put_item : (i : ItemTree) → AllByRecursion IsTok (spell_item i) → (rest : List ℕ) (ts : List Tok) → HasTokens rest ts → HasTokens (item_text i ++ rest) (spell_item i ++ ts)
put_item (FieldTree w n) h rest ts d =
    let end = put_semicolon _ _ (put_line rest ts d) in
    let value = put_space _ _ (put_assign _ _ (put_number n _ _ h.1.1.1.0 (refl, refl, refl) end)) in
    simp append_assoc (put_word (codes "field") _ _ h.0 (refl, refl, refl) (put_space _ _ (put_word w _ _ h.1.0 (refl, refl, refl) value)))
put_item (NextTree w t) h rest ts d =
    let end = put_semicolon _ _ (put_line rest ts d) in
    let body = put_space _ _ (put_assign _ _ (put_tree t (all_left (spell t) _ h.1.1.1) _ _ (refl, refl, refl) end)) in
    simp append_assoc (put_word (codes "next") _ _ h.0 (refl, refl, refl) (put_space _ _ (put_word w _ _ h.1.0 (refl, refl, refl) body)))

pub put_program : (items : List ItemTree) → AllByRecursion IsTok (flat_map spell_item items) → HasTokens (program_text items) (flat_map spell_item items)
put_program [] h = at_end
put_program (i ∷ items) h = put_item i (all_left (spell_item i) _ h) (program_text items) (flat_map spell_item items) (put_program items (all_right (spell_item i) _ h))

tok_of_form : (t : Tok) (front : List ℕ) → HasForm t front → FitsTok t → IsTok t
tok_of_form (WordTok w) front f h = f.0
tok_of_form (NearTok w) front f h = f.0
tok_of_form (NumberTok n) front f h = h
tok_of_form (SignTok s) front f h = tt

pub all_toks : (bytes : List ℕ) (ts : List Tok) → HasTokens bytes ts → AllByRecursion IsTok ts
all_toks _ _ at_end = tt
all_toks _ _ (after_blank b rest ts k d) = all_toks rest ts d
all_toks _ _ (after_comment bytes l rest ts z d) = all_toks rest ts d
all_toks _ _ (after_token bytes rest t ts x f d) = (tok_of_form t x.front x.form f, all_toks rest ts d)
