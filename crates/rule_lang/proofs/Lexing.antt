-- The steps of the tokenizer.
use Rattle.std.proofs.Common.{◌≡◌, ℕ, ◌+◌, ◌-◌, ◌≤◌, ◌<◌, List, [], ◌∷◌, ◌++◌, true, false, Some, None, refl, sym, ap, subst, ◌∙◌, arith, length, take, drop, append_assoc, append-nil, length-append, length-drop, map, Option, inl, inr}
use Rattle.std.specs.Prelude.{◌≢◌, ◌==◌, ◌||◌}
use Rattle.std.specs.List.{AllByRecursion, prefix_len}
use Rattle.std.proofs.lemmas.Bool.Decides.{Decides-eqb}
use Rattle.std.proofs.lemmas.List.{drop_all}
use Rattle.rule_lang.specs.Tokens.{Tok, is_blank, is_inside_line, FitsTok, IsLongest, IsSpan, HasTokens, at_end, after_blank, after_comment, after_token}
use Rattle.rule_lang.specs.declared.token.Lexeme.{Lexeme}
use Rattle.rule_lang.specs.View.{toks_of, StandIn}
use Rattle.rule_lang.specs.Lexing.{IsFirstToken, Lexes, IsRest, IsStep, HasLefts, lefts_at, lefts_of, tokens_of}
use Rattle.rule_lang.proofs.Bytes.{or_cases, span_same, span_at, cut_at}
use Rattle.rule_lang.proofs.FirstTokens.{one_first, longest_shorter}
use Rattle.rule_lang.proofs.Forms.{head_of, head_above}
use Rattle.rule_lang.proofs.Items.{behind}

pub blank_small : (b : ℕ) → is_blank b ≡ true → b ≤ 32
blank_small b e = elim (or_cases (b == 32) ((b == 9) || ((b == 10) || (b == 13))) e) [
  | inl h ↦ (let p : b ≡ 32 = (Decides-eqb b 32).0 h in omega arith)
  | inr h ↦ elim (or_cases (b == 9) ((b == 10) || (b == 13)) h) [
    | inl k ↦ (let p : b ≡ 9 = (Decides-eqb b 9).0 k in omega arith)
    | inr k ↦ elim (or_cases (b == 10) (b == 13) k) [
      | inl m ↦ (let p : b ≡ 10 = (Decides-eqb b 10).0 m in omega arith)
      | inr m ↦ (let p : b ≡ 13 = (Decides-eqb b 13).0 m in omega arith)
    ]
  ]
]

pub token_above : (bytes rest : List ℕ) (t : Tok) (b : ℕ) (more : List ℕ) → IsLongest bytes t rest → bytes ≡ b ∷ more → (32 < b) × (b ≢ 35)
token_above bytes rest t b more x e = head_above t b (head_of t x.front rest b more x.form (sym e ∙ x.cut))

pub without_blank : (bytes : List ℕ) (ts : List Tok) → HasTokens bytes ts → (b : ℕ) (rest : List ℕ) → bytes ≡ b ∷ rest → is_blank b ≡ true → HasTokens rest ts
without_blank _ _ at_end b rest e h = absurd (cc)
without_blank _ _ (after_blank c r ts k d) b rest e h = let q : r ≡ rest = cc in subst (λ x. HasTokens x ts) q d
without_blank _ _ (after_comment bytes line r ts s d) b rest e h = absurd (let q : 35 ≡ b = cc in let k : is_blank 35 ≡ true = subst (λ x. is_blank x ≡ true) (sym q) h in cc)
without_blank _ _ (after_token bytes r t ts x f d) b rest e h = absurd (let p = token_above bytes r t b rest x e in let q = blank_small b h in omega arith)

pub without_comment : (bytes : List ℕ) (ts : List Tok) → HasTokens bytes ts → (more line rest : List ℕ) → bytes ≡ 35 ∷ more → IsSpan is_inside_line more line rest → HasTokens rest ts
without_comment _ _ at_end more line rest e s = absurd (cc)
without_comment _ _ (after_blank c r ts k d) more line rest e s = absurd (let q : c ≡ 35 = cc in let m : is_blank 35 ≡ true = subst (λ x. is_blank x ≡ true) q k in cc)
without_comment _ _ (after_comment bytes l r ts z d) more line rest e s = let q : bytes ≡ more = cc in let p = span_same is_inside_line more l r line rest (subst (λ x. IsSpan is_inside_line x l r) q z) s in subst (λ x. HasTokens x ts) p.1 d
without_comment _ _ (after_token bytes r t ts x f d) more line rest e s = absurd (let p = token_above bytes r t 35 more x e in p.1 refl)

-- a token list of what begins with no blank and no comment begins with a token
pub record Begun (bytes : List ℕ) (ts : List Tok) : Type 0 where
  pub token : Tok
  pub rest : List ℕ
  pub more : List Tok
  pub is : ts ≡ token ∷ more
  pub longest : IsLongest bytes token rest
  pub fits : FitsTok token
  pub behind : HasTokens rest more

pub begins : (bytes : List ℕ) (ts : List Tok) → HasTokens bytes ts → (b : ℕ) (more : List ℕ) → bytes ≡ b ∷ more → is_blank b ≡ false → b ≢ 35 → Begun bytes ts
begins _ _ at_end b more e h n = absurd (cc)
begins _ _ (after_blank c r ts k d) b more e h n = absurd (let q : c ≡ b = cc in let m : is_blank b ≡ true = subst (λ x. is_blank x ≡ true) q k in let z : false ≡ true = sym h ∙ m in cc)
begins _ _ (after_comment bytes l r ts z d) b more e h n = absurd (n (let q : 35 ≡ b = cc in sym q))
begins _ _ (after_token bytes r t ts x f d) b more e h n = record { token = t; rest = r; more = ts; is = refl; longest = x; fits = f; behind = d }

pub blank_step : (bytes : List ℕ) (b : ℕ) (rest : List ℕ) → bytes ≡ b ∷ rest → is_blank b ≡ true → IsStep bytes (Some (None, rest))
blank_step bytes b rest e h = (
  record { front = b ∷ []; cut = e; shorter = rw e (omega arith) },
  record {
    on = λ more behind d. rw e (after_blank b rest more h d.0, d.1);
    only = λ others d. (others, refl, without_blank bytes others d b rest e h);
  },
)

comment_span : (bytes more line rest : List ℕ) → bytes ≡ 35 ∷ more → IsSpan is_inside_line more line rest → IsStep bytes (Some (None, rest))
comment_span bytes more line rest e s = (
  record { front = 35 ∷ line; cut = e ∙ ap (λ l. 35 ∷ l) s.cut; shorter = rw (e, s.cut) (rw length-append (omega arith)) },
  record {
    on = λ ts behind d. rw e (after_comment more line rest ts s d.0, d.1);
    only = λ others d. (others, refl, without_comment bytes others d more line rest e s);
  },
)

pub comment_step : (bytes : List ℕ) (b : ℕ) (more : List ℕ) (n : ℕ) → bytes ≡ b ∷ more → b ≡ 35 → n ≡ prefix_len is_inside_line more → IsStep bytes (Some (None, take (length more - n) (drop n more)))
comment_step bytes b more n e h k = rw cut_at (comment_span bytes more (take n more) (drop n more) (e ∙ ap (λ x. x ∷ more) h) (rw k (span_at is_inside_line more)))

pub token_step : (bytes rest : List ℕ) (t : Tok) (b : ℕ) (more : List ℕ) → bytes ≡ b ∷ more → is_blank b ≡ false → b ≢ 35 → IsLongest bytes t rest → FitsTok t → IsStep bytes (Some (Some t, rest))
token_step bytes rest t b more e h n x f = (
  record { front = x.front; cut = x.cut; shorter = longest_shorter bytes rest t x },
  record {
    on = λ ts behind d. (after_token bytes rest t ts x f d.0, ap (λ left. length bytes ∷ left) d.1);
    only = λ others d. let p = begins bytes others d b more e h n in let q = one_first bytes p.rest rest p.token t p.longest x in (p.more, p.is ∙ ap (λ z. z ∷ p.more) q.0, subst (λ z. HasTokens z p.more) q.1 p.behind);
  },
)

pub none_step : (bytes : List ℕ) (b : ℕ) (more : List ℕ) → bytes ≡ b ∷ more → is_blank b ≡ false → b ≢ 35 → IsFirstToken bytes None → IsStep bytes None
none_step bytes b more e h n x = λ ts d. let p = begins bytes ts d b more e h n in x p.token p.rest p.longest p.fits

-- the loop over the steps
pub lexes_start : (all : List ℕ) → Lexes all [] [] all
lexes_start all = record { on = λ js hs h. h; only = λ js h. (js, refl, h) }

lexes_more : (all : List ℕ) (ts us : List Tok) (ls ms : List ℕ) (rest after : List ℕ) → Lexes all ts ls rest → Lexes rest us ms after → Lexes all (ts ++ us) (ls ++ ms) after
lexes_more all ts us ls ms rest after x y = record {
  on = λ js hs h.
      subst (λ words. HasLefts all words ((ls ++ ms) ++ hs)) (sym (append_assoc ts us js))
      (subst (HasLefts all (ts ++ (us ++ js))) (sym (append_assoc ls ms hs)) (x.on (us ++ js) (ms ++ hs) (y.on js hs h)));
  only = λ js h. let p = x.only js h in let q = y.only p.0 p.2 in (q.0, p.1 ∙ ap (λ r. ts ++ r) q.1 ∙ sym (append_assoc ts us q.0), q.2);
}

pub lexes_step : (text : List ℕ) (at : ℕ) (ts : List Tok) (ls : List ℕ) (found : Option Tok) (after : List ℕ) → at ≤ length text → Lexes text ts ls (drop at text) → IsRest (take (length text - at) (drop at text)) after → Lexes (take (length text - at) (drop at text)) (tokens_of found) (lefts_of (length (take (length text - at) (drop at text))) found) after → Lexes text (ts ++ tokens_of found) (ls ++ lefts_of (length text - at) found) (drop (length text - length after) text)
lexes_step text at ts ls found after h x r y =
    let y' : Lexes (drop at text) (tokens_of found) (lefts_of (length (drop at text)) found) after = rw (← cut_at at text) y in
    let y'' : Lexes (drop at text) (tokens_of found) (lefts_of (length text - at) found) after = subst (λ n. Lexes (drop at text) (tokens_of found) (lefts_of n found) after) (length-drop at text) y' in
    let c : drop at text ≡ r.front ++ after = sym (cut_at at text) ∙ r.cut in
    rw (behind text r.front after at c h) (lexes_more text ts (tokens_of found) ls (lefts_of (length text - at) found) (drop at text) after x y'')

pub empty_list : (bytes : List ℕ) (ts : List Tok) → HasTokens bytes ts → bytes ≡ [] → ts ≡ []
empty_list _ _ at_end e = refl
empty_list _ _ (after_blank c r ts k d) e = absurd (cc)
empty_list _ _ (after_comment bytes l r ts z d) e = absurd (cc)
empty_list _ _ (after_token bytes r t ts x f d) e = absurd (let h = longest_shorter bytes r t x in let n : length bytes ≡ 0 = ap length e in omega arith)

-- the tokens of the whole, with so many bytes left where each begins
lefts_end : (text : List ℕ) (at : ℕ) (ts : List Tok) (ls : List ℕ) → length text ≤ at → Lexes text ts ls (drop at text) → HasLefts text ts ls
lefts_end text at ts ls h x =
    let y : Lexes text ts ls [] = subst (Lexes text ts ls) (drop_all at text h) x in
    subst (λ words. HasLefts text words ls) (append-nil ts)
    (subst (HasLefts text (ts ++ [])) (append-nil ls) (y.on [] [] (at_end, refl)))

pub lexes_end : (text : List ℕ) (at : ℕ) (ts : List Tok) (ls : List ℕ) → length text ≤ at → Lexes text ts ls (drop at text) → HasTokens text ts × ((others : List Tok) → HasTokens text others → others ≡ ts)
lexes_end text at ts ls h x =
    let y : Lexes text ts ls [] = subst (Lexes text ts ls) (drop_all at text h) x in
    ((lefts_end text at ts ls h x).0, λ others o. let p = y.only others o in let q = empty_list [] p.0 p.2 refl in p.1 ∙ ap (λ r. ts ++ r) q ∙ append-nil ts)

-- what is left where the tokens begin, as their places
places_back : (end : ℕ) (lexemes : List Lexeme) → AllByRecursion (λ l. l.at < end) lexemes → map (λ left. end - left) (lefts_at end lexemes) ≡ map (λ l. l.at) lexemes
places_back end [] inside = refl
places_back end (l ∷ ls) inside =
    let before : l.at < end = inside.0 in
    let here : end - (end - l.at) ≡ l.at = omega arith in
    ap (λ at. at ∷ map (λ left. end - left) (lefts_at end ls)) here ∙ ap (λ ats. l.at ∷ ats) (places_back end ls inside.1)

pub stand_end : (text : List ℕ) (at : ℕ) (lexemes : List Lexeme) → length text ≤ at → Lexes text (toks_of lexemes) (lefts_at (length text) lexemes) (drop at text) → AllByRecursion (λ l. l.at < length text) lexemes → StandIn text lexemes
stand_end text at lexemes h x inside =
    let found = lefts_end text at (toks_of lexemes) (lefts_at (length text) lexemes) h x in
    record { words = found.0; at = ap (map (λ left. length text - left)) found.1 ∙ places_back (length text) lexemes inside }

pub lexes_stuck : (text : List ℕ) (at : ℕ) (ts : List Tok) (ls : List ℕ) → Lexes text ts ls (drop at text) → IsStep (take (length text - at) (drop at text)) None → (others : List Tok) → HasTokens text others → ⊥
lexes_stuck text at ts ls x s others o = let p = x.only others o in s p.0 (rw cut_at p.2)
