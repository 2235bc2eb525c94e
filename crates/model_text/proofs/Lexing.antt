-- The steps of the tokenizer: each text has one list of tokens at most.
use Rattle.std.proofs.Common.{◌≡◌, ℕ, suc, ◌+◌, ◌-◌, ◌≤◌, ◌<◌, List, [], ◌∷◌, ◌++◌, Option, Some, None, refl, sym, ap, subst, ◌∙◌, arith, length, take, drop, append_assoc, append-nil, length-drop}
use Rattle.std.proofs.lemmas.List.{drop_all, drop-drop}
use Rattle.rule_lang.proofs.Bytes.{cut_at}
use Rattle.rule_lang.proofs.SingleTokens.{same_pair}
use Rattle.std.specs.List.{prefix_len}
use Rattle.rule_lang.specs.Tokens.{is_word_byte}
use Rattle.model_text.specs.declared.lex.Sort.TheVariants as sort
use Rattle.model_text.specs.Tokens.{Tok, run, near_tok, near_at, Placed, placed, step_at, HasTokens, at_end, after_gap, after_token}
use Rattle.model_text.specs.Lexing.{added, Lexes}

no_bytes : (end : ℕ) (all : List ℕ) (tokens : List Placed) → HasTokens end all tokens → all ≡ [] → tokens ≡ []
no_bytes _ _ _ (at_end end) e = refl
no_bytes _ _ _ (after_gap end b size bytes tokens s h) e = absurd (cc)
no_bytes _ _ _ (after_token end b size bytes token tokens s h) e = absurd (cc)

-- one step is one answer
same_step : (s : Option (Option Tok × ℕ)) (o p : Option Tok) (m n : ℕ) → s ≡ Some (o, m) → s ≡ Some (p, n) → (o ≡ p) × (m ≡ n)
same_step s o p m n e f = same_pair (sym e ∙ f)

-- the bytes after two steps that take as many
moved : (end m n : ℕ) (more bytes : List ℕ) (tokens : List Placed) → more ≡ bytes → m ≡ n → HasTokens end (drop m more) tokens → HasTokens end (drop n bytes) tokens
moved end m n more bytes tokens e f h = subst (λ x. HasTokens end (drop x bytes) tokens) f (subst (λ x. HasTokens end (drop m x) tokens) e h)

tail_of : (c b : ℕ) (more bytes : List ℕ) → c ∷ more ≡ b ∷ bytes → more ≡ bytes
tail_of c b more bytes e = cc

not_none : (token : Tok) → ((None ≡ Some token) → ⊥)
not_none token e = cc

-- what follows a gap
behind_gap : (end : ℕ) (all : List ℕ) (tokens : List Placed) → HasTokens end all tokens → (b size : ℕ) (bytes : List ℕ) → all ≡ b ∷ bytes → step_at (b ∷ bytes) ≡ Some (None, size) → HasTokens end (drop size bytes) tokens
behind_gap _ _ _ (at_end end) b size bytes e s = absurd (cc)
behind_gap _ _ _ (after_gap end c n more tokens t h) b size bytes e s =
    let r = same_step (step_at (b ∷ bytes)) None None n size (ap step_at (sym e) ∙ t) s in
    moved end n size more bytes tokens (tail_of c b more bytes e) r.1 h
behind_gap _ _ _ (after_token end c n more token tokens t h) b size bytes e s =
    absurd (let r = same_step (step_at (b ∷ bytes)) None (Some token) size n s (ap step_at (sym e) ∙ t) in not_none token r.0)

-- what follows a token
record Begun (end : ℕ) (all rest : List ℕ) (token : Tok) (tokens : List Placed) : Type 0 where
  more : List Placed
  is : tokens ≡ placed token (end - length all) ∷ more
  behind : HasTokens end rest more

some_same : (t u : Tok) → ((Some t ≡ Some u) → t ≡ u)
some_same t u e = cc

begun_same : (end : ℕ) (all bytes rest : List ℕ) (other token : Tok) (tokens : List Placed) → all ≡ bytes → other ≡ token → HasTokens end rest tokens → Begun end bytes rest token (placed other (end - length all) ∷ tokens)
begun_same end all bytes rest other token tokens e f h = record { more = tokens; is = rw (e, f) refl; behind = h }

behind_token : (end : ℕ) (all : List ℕ) (tokens : List Placed) → HasTokens end all tokens → (b size : ℕ) (bytes : List ℕ) (token : Tok) → all ≡ b ∷ bytes → step_at (b ∷ bytes) ≡ Some (Some token, size) → Begun end (b ∷ bytes) (drop size bytes) token tokens
behind_token _ _ _ (at_end end) b size bytes token e s = absurd (cc)
behind_token _ _ _ (after_gap end c n more tokens t h) b size bytes token e s =
    absurd (let r = same_step (step_at (b ∷ bytes)) None (Some token) n size (ap step_at (sym e) ∙ t) s in not_none token r.0)
behind_token _ _ _ (after_token end c n more other tokens t h) b size bytes token e s =
    let r = same_step (step_at (b ∷ bytes)) (Some other) (Some token) n size (ap step_at (sym e) ∙ t) s in
    begun_same end (c ∷ more) (b ∷ bytes) (drop size bytes) other token tokens e (some_same other token r.0) (moved end n size more bytes tokens (tail_of c b more bytes e) r.1 h)

-- bytes at which no token stands have no token list
no_step : (s : Option (Option Tok × ℕ)) (x : Option Tok × ℕ) → s ≡ Some x → s ≡ None → ⊥
no_step s x e f = let c : Some x ≡ None = sym e ∙ f in cc

stuck : (end : ℕ) (all : List ℕ) (tokens : List Placed) → HasTokens end all tokens → (b : ℕ) (bytes : List ℕ) → all ≡ b ∷ bytes → step_at all ≡ None → ⊥
stuck _ _ _ (at_end end) b bytes e s = cc
stuck _ _ _ (after_gap end c n more tokens t h) b bytes e s = no_step (step_at (c ∷ more)) (None, n) t s
stuck _ _ _ (after_token end c n more token tokens t h) b bytes e s = no_step (step_at (c ∷ more)) (Some token, n) t s

-- one step
one_step : (end : ℕ) (b size : ℕ) (bytes : List ℕ) (o : Option Tok) → step_at (b ∷ bytes) ≡ Some (o, size) → Lexes end (b ∷ bytes) (added o (end - length (b ∷ bytes))) (drop size bytes)
one_step end b size bytes None s = record {
  on = λ more h. after_gap end b size bytes more s h;
  only = λ others h. (others, refl, behind_gap end (b ∷ bytes) others h b size bytes refl s);
}
one_step end b size bytes (Some token) s = record {
  on = λ more h. after_token end b size bytes token more s h;
  only = λ others h. let p = behind_token end (b ∷ bytes) others h b size bytes token refl s in (p.more, p.is, p.behind);
}

pub lexes_start : (end : ℕ) (all : List ℕ) → Lexes end all [] all
lexes_start end all = record { on = λ js h. h; only = λ js h. (js, refl, h) }

lexes_more : (end : ℕ) (all : List ℕ) (ts us : List Placed) (rest after : List ℕ) → Lexes end all ts rest → Lexes end rest us after → Lexes end all (ts ++ us) after
lexes_more end all ts us rest after x y = record {
  on = λ js h. rw append_assoc (x.on (us ++ js) (y.on js h));
  only = λ js h. let p = x.only js h in let q = y.only p.0 p.2 in (q.0, p.1 ∙ ap (λ r. ts ++ r) q.1 ∙ sym (append_assoc ts us q.0), q.2);
}

-- the bytes at a place are not none
begun_at : (text : List ℕ) (at : ℕ) → at < length text → (b : ℕ) × (bytes : List ℕ) × (drop at text ≡ b ∷ bytes)
begun_at text at h = elim (drop at text) as (λ l. drop at text ≡ l → (b : ℕ) × (bytes : List ℕ) × (drop at text ≡ b ∷ bytes)) [
  | [] ↦ (λ e. absurd (let n : length text - at ≡ 0 = sym (length-drop at text) ∙ ap length e in omega arith))
  | b ∷ bytes ↦ (λ e. (b, bytes, e))
] refl

pub lexes_step : (text : List ℕ) (at size : ℕ) (ts : List Placed) (o : Option Tok) → at < length text → Lexes (length text) text ts (drop at text) → Some (o, size) ≡ step_at (take (length text - at) (drop at text)) → Lexes (length text) text (ts ++ added o at) (drop (at + 1 + size) text)
lexes_step text at size ts o h x s =
    let p = begun_at text at h in
    let n : length text - at ≡ length (p.0 ∷ p.1) = sym (length-drop at text) ∙ ap length p.2 in
    let m : length text - length (p.0 ∷ p.1) ≡ at = omega arith in
    let s' : step_at (p.0 ∷ p.1) ≡ Some (o, size) = sym (s ∙ ap step_at (cut_at at text ∙ p.2)) in
    let y : Lexes (length text) (p.0 ∷ p.1) (added o (length text - length (p.0 ∷ p.1))) (drop size p.1) = one_step (length text) p.0 size p.1 o s' in
    let k : at + 1 + size ≡ at + (1 + size) = omega arith in
    let z : 1 + size ≡ suc size = omega arith in
    let d : drop (at + 1 + size) text ≡ drop size p.1 = ap (λ i. drop i text) k ∙ sym (drop-drop (1 + size) at text) ∙ ap (drop (1 + size)) p.2 ∙ ap (λ i. drop i (p.0 ∷ p.1)) z in
    rw d (lexes_more (length text) text ts (added o at) (drop at text) (drop size p.1) x (subst (λ i. Lexes (length text) (drop at text) (added o i) (drop size p.1)) m (subst (λ l. Lexes (length text) l (added o (length text - length (p.0 ∷ p.1))) (drop size p.1)) (sym p.2) y)))

pub size_bound : (text : List ℕ) (at size : ℕ) → size < length (take (length text - at) (drop at text)) → at + 1 + size ≤ length text
size_bound text at size h = let k : size < length text - at = simp length-drop at (rw (cut_at at text) at h) in omega arith

pub lexes_end : (text : List ℕ) (at : ℕ) (ts : List Placed) → length text ≤ at → Lexes (length text) text ts (drop at text) → HasTokens (length text) text ts × ((others : List Placed) → HasTokens (length text) text others → others ≡ ts)
lexes_end text at ts h x =
    let d : drop at text ≡ [] = drop_all at text h in
    let y : Lexes (length text) text ts [] = rw d at x in
    ((rw append-nil at (y.on [] (at_end (length text)))), λ others o. let p = y.only others o in let q = no_bytes (length text) [] p.0 p.2 refl in p.1 ∙ ap (λ r. ts ++ r) q ∙ append-nil ts)

pub lexes_stuck : (text : List ℕ) (at : ℕ) (ts : List Placed) → at < length text → Lexes (length text) text ts (drop at text) → None ≡ step_at (take (length text - at) (drop at text)) → (others : List Placed) → HasTokens (length text) text others → ⊥
lexes_stuck text at ts h x s others o =
    let p = begun_at text at h in
    let q = x.only others o in
    stuck (length text) (drop at text) q.0 q.2 p.0 p.1 p.2 (sym (s ∙ ap step_at (cut_at at text)))

-- two token lists of the same bytes
pub one_list : (end : ℕ) (bytes : List ℕ) (ts : List Placed) → HasTokens end bytes ts → (us : List Placed) → HasTokens end bytes us → ts ≡ us
one_list _ _ _ (at_end end) us e = sym (no_bytes end [] us e refl)
one_list _ _ _ (after_gap end b size bytes ts s h) us e = one_list end (drop size bytes) ts h us (behind_gap end (b ∷ bytes) us e b size bytes refl s)
one_list _ _ _ (after_token end b size bytes token ts s h) us e =
    let p = behind_token end (b ∷ bytes) us e b size bytes token refl s in
    ap (λ z. placed token (end - length (b ∷ bytes)) ∷ z) (one_list end (drop size bytes) ts h p.more p.behind) ∙ sym p.is

-- a word after `n.`
pub near_is : (bytes w : List ℕ) (t : Tok) → w ≡ take (prefix_len is_word_byte (take (length bytes - 2) (drop 2 bytes))) (take (length bytes - 2) (drop 2 bytes)) → Some t ≡ near_tok w → Some (t, 1 + length w) ≡ near_at bytes
near_is bytes w t e f =
    let d : w ≡ run sort.Word (drop 2 bytes) = e ∙ ap (λ l. take (prefix_len is_word_byte l) l) (cut_at 2 bytes) in
    let g : near_tok (run sort.Word (drop 2 bytes)) ≡ Some t = sym (f ∙ ap near_tok d) in
    rw (g, d) refl
