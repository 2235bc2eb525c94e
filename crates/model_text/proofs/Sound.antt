-- Expressions: what is read is spelled so.
use Rattle.std.proofs.Common.{◌≡◌, ℕ, zero, suc, ◌+◌, ◌≤◌, ◌<◌, List, [], ◌∷◌, true, false, cond, Option, Some, None, refl, sym, ap, subst, ◌∙◌, arith, nat_lt}
use Rattle.std.proofs.lemmas.Bool.Decides.{nat_tests}
use Rattle.model_text.specs.declared.tree.Operator.{Operator}
use Rattle.model_text.specs.declared.tree.Decimal.{Decimal}
use Rattle.model_text.specs.declared.tree.Function.{Function}
use Rattle.model_text.specs.declared.keyword.Keyword.{Keyword}
use Rattle.model_text.specs.declared.keyword.Keyword.TheVariants as word
use Rattle.model_text.specs.declared.token.Sign.TheVariants as sign
use Rattle.model_text.specs.Tokens.{KeywordTok, NameTok, NearTok, NearIdTok, NearWeightTok, NumberTok, SignTok, Placed, placed}
use Rattle.model_text.specs.Tree.{Tree, NumberTree, NothingTree, NameTree, IdTree, DegreeTree, RoundTree, NearTree, NearIdTree, NearWeightTree, InfixTree, NotTree, ParensTree, IfTree, CasesTree, CallTree, ApplyTree, ChanceTree, ChanceOfTree, ArmTree, OneArm, ElseArm, ArgumentTree, NoArgument, OneArgument}
use Rattle.model_text.specs.Grammar.{operator_level, level, is_open, is_chain, IsLevelled, AreLevelledArms, AreLevelled, Comes, Spells, SpellsArms, SpellsArguments, SpellsMore, SpellsChance}
use Rattle.model_text.specs.Reading.{◌>>=◌, Reads, open_at, close_at, then_at, else_at, brace_open_at, brace_close_at, colon_at, semicolon_at, decimal_at, operator_at, parens_at, if_at, not_at, cases_at, named_at, chance_at, keyword_at, form_at, ended_at, joined_at, more_at, value_at, else_arm_at, one_arm_at, arm_by, arm_at, argument_at, first_by, first_at, next_at, expr_at, arms_at, arguments_at, others_at}
use Rattle.model_text.proofs.Nesting.{row, nesting, arms_nesting, arguments_nesting}
use Rattle.rule_lang.proofs.SingleTokens.{same_pair}
use Rattle.model_text.proofs.SingleTokens.{close_is, open_is, then_is, else_is, brace_open_is, brace_close_is, colon_is, semicolon_is, decimal_is, operator_is, operator_low}

-- a step that gave something was given something
pub some_of : {A B : Type 0} (o : Option A) (f : A → Option B) (y : B) → (o >>= f) ≡ Some y → (x : A) × (o ≡ Some x) × (f x ≡ Some y)
some_of None f y e = cc
some_of (Some x) f y e = (x, refl, e)

-- an expression was read: it has this spelling, operators of level l at least and at most this nesting; and an operator
-- after it has a lesser level, and does not belong to its last part
pub record Parsed (d l : ℕ) (ts : List Placed) (t : Tree) (rest : List Placed) : Type 0 where
  pub spelled : Spells t ts rest
  pub levelled : IsLevelled t
  pub tight : l ≤ level t
  pub deep : nesting t ≤ d
  pub ends : (x : Operator × ℕ × List Placed) → operator_at rest ≡ Some x → (operator_level x.0 < l) × (is_open t ≡ false)

-- the same of a left part, which an operator of its own level may follow, and no more than so many
pub record Begun (d l joins : ℕ) (ts : List Placed) (t : Tree) (rest : List Placed) : Type 0 where
  pub spelled : Spells t ts rest
  pub levelled : IsLevelled t
  pub tight : l ≤ level t
  pub deep : nesting t ≤ d
  pub rowed : row t + joins + 1 ≤ d
  pub ready : (x : Operator × ℕ × List Placed) → operator_at rest ≡ Some x → (operator_level x.0 ≤ level t) × (is_open t ≡ false)

abbrev pub Sound : ℕ → (ℕ → Reads Tree) → Type 0
Sound d expr = (l : ℕ) (ts : List Placed) (x : Tree × List Placed) → l ≤ 10 → expr l ts ≡ Some x → Parsed d l ts x.0 x.1

abbrev pub SoundArms : ℕ → Reads ArmTree → Type 0
SoundArms d arms = (ts : List Placed) (x : ArmTree × List Placed) → arms ts ≡ Some x → SpellsArms x.0 ts x.1 × AreLevelledArms x.0 × (arms_nesting x.0 ≤ d)

abbrev pub SoundArguments : ℕ → Reads ArgumentTree → Type 0
SoundArguments d arguments = (ts : List Placed) (x : ArgumentTree × List Placed) → arguments ts ≡ Some x → SpellsArguments x.0 ts x.1 × AreLevelled x.0 × (arguments_nesting x.0 ≤ d)

abbrev pub SoundOthers : ℕ → Reads ArgumentTree → Type 0
SoundOthers d others = (ts : List Placed) (x : ArgumentTree × List Placed) → others ts ≡ Some x → SpellsMore x.0 ts x.1 × AreLevelled x.0 × (arguments_nesting x.0 ≤ d)

begun_at : (d l j : ℕ) (ts : List Placed) (x y : Tree × List Placed) → Some x ≡ Some y → Begun d l j ts x.0 x.1 → Begun d l j ts y.0 y.1
begun_at d l j ts x y e h = let q : x ≡ y = cc in subst (λ z. Begun d l j ts z.0 z.1) q h

parsed_at : (d l : ℕ) (ts : List Placed) (x y : Tree × List Placed) → Some x ≡ Some y → Parsed d l ts x.0 x.1 → Parsed d l ts y.0 y.1
parsed_at d l ts x y e h = let q : x ≡ y = cc in subst (λ z. Parsed d l ts z.0 z.1) q h

lt_of : (m n : ℕ) → nat_lt m n ≡ true → m < n
lt_of m n e = grind (arith, nat_tests)

ge_of : (m n : ℕ) → nat_lt m n ≡ false → n ≤ m
ge_of m n e = grind (arith, nat_tests)

-- no operator after it
ended_parsed : (d l j : ℕ) (ts0 ts : List Placed) (left : Tree) → Begun d l j ts0 left ts → operator_at ts ≡ None → Parsed d l ts0 left ts
ended_parsed d l j ts0 ts left b e = record { spelled = b.spelled; levelled = b.levelled; tight = b.tight; deep = b.deep; ends = λ x q. absurd (let c : None ≡ Some x = sym e ∙ q in cc) }

-- an operator of a lesser level after it
looser_parsed : (d l j : ℕ) (ts0 ts : List Placed) (left : Tree) (y : Operator × ℕ × List Placed) → Begun d l j ts0 left ts → operator_at ts ≡ Some y → operator_level y.0 < l → Parsed d l ts0 left ts
looser_parsed d l j ts0 ts left y b e h = record {
  spelled = b.spelled;
  levelled = b.levelled;
  tight = b.tight;
  deep = b.deep;
  ends = λ x q. let c : Some y ≡ Some x = sym e ∙ q in let m : y ≡ x = cc in (subst (λ z. operator_level z.0 < l) m h, (b.ready y e).1);
}

-- an operator of this level or a greater one after it, and a right part
infix_begun : (d l j : ℕ) (ts0 ts rest : List Placed) (left right : Tree) (y : Operator × ℕ × List Placed) → Begun (suc d) l (suc j) ts0 left ts → operator_at ts ≡ Some y → l ≤ operator_level y.0 → is_chain left y.0 ≡ false → Parsed d (suc (operator_level y.0)) y.2 right rest → Begun (suc d) l j ts0 (InfixTree y.0 y.1 left right) rest
infix_begun d l j ts0 ts rest left right y b e h c p = record {
  spelled = (y.2, subst (Spells left ts0) (operator_is ts y e) b.spelled, p.spelled);
  levelled = (b.levelled, p.levelled, ((b.ready y e).0, c, (b.ready y e).1), (let t = p.tight in omega arith));
  tight = h;
  deep = let r = b.rowed in let u = b.deep in let v = p.deep in omega arith;
  rowed = let r = b.rowed in omega arith;
  ready = λ x q. ((let n = (p.ends x q).0 in omega arith), (p.ends x q).1);
}

-- the operators after a left part
ended_sound : (d l j : ℕ) (ts0 ts : List Placed) (left : Tree) (o : Option (Operator × ℕ × List Placed)) → operator_at ts ≡ o → Begun d l j ts0 left ts → (x : Tree × List Placed) → ended_at l left o ts ≡ Some x → Parsed d l ts0 x.0 x.1
ended_sound d l j ts0 ts left None q b x e = parsed_at d l ts0 (left, ts) x e (ended_parsed d l j ts0 ts left b q)
ended_sound d l j ts0 ts left (Some y) q b x e =
    elim (nat_lt (operator_level y.0) l) as (λ t. nat_lt (operator_level y.0) l ≡ t → cond t (Some (left, ts)) None ≡ Some x → Parsed d l ts0 x.0 x.1) [
      | true ↦ (λ t f. parsed_at d l ts0 (left, ts) x f (looser_parsed d l j ts0 ts left y b q (lt_of (operator_level y.0) l t)))
      | false ↦ (λ t f. absurd (cc))
    ] refl e

-- how the operators after a longer left part are read soundly
abbrev SoundMore : ℕ → ℕ → ℕ → (Tree → Reads Tree) → Type 0
SoundMore d l j more = (left : Tree) (ts0 ts : List Placed) → Begun d l j ts0 left ts → (x : Tree × List Placed) → more left ts ≡ Some x → Parsed d l ts0 x.0 x.1

chain_sound : (d l j : ℕ) (expr : ℕ → Reads Tree) (more : Tree → Reads Tree) → Sound d expr → SoundMore (suc d) l j more → (ts0 ts : List Placed) (left : Tree) (y : Operator × ℕ × List Placed) → operator_at ts ≡ Some y → l ≤ operator_level y.0 → Begun (suc d) l (suc j) ts0 left ts → (x : Tree × List Placed) → cond (is_chain left y.0) None (expr (suc (operator_level y.0)) y.2 >>= λ b. more (InfixTree y.0 y.1 left b.0) b.1) ≡ Some x → Parsed (suc d) l ts0 x.0 x.1
chain_sound d l j expr more snd sndm ts0 ts left y q h b x e =
    elim (is_chain left y.0) as (λ t. is_chain left y.0 ≡ t → cond t None (expr (suc (operator_level y.0)) y.2 >>= λ r. more (InfixTree y.0 y.1 left r.0) r.1) ≡ Some x → Parsed (suc d) l ts0 x.0 x.1) [
      | true ↦ (λ t f. absurd (cc))
      | false ↦ (λ t f.
          let r = some_of (expr (suc (operator_level y.0)) y.2) _ x f in
          let low = operator_low y.0 in
          let p = snd (suc (operator_level y.0)) y.2 r.0 (omega arith) r.1 in
          sndm (InfixTree y.0 y.1 left r.0.0) ts0 r.0.1 (infix_begun d l j ts0 ts r.0.1 left r.0.0 y b q h t p) x r.2)
    ] refl e

joined_sound : (d l j : ℕ) (expr : ℕ → Reads Tree) (more : Tree → Reads Tree) → Sound d expr → SoundMore (suc d) l j more → (ts0 ts : List Placed) (left : Tree) (o : Option (Operator × ℕ × List Placed)) → operator_at ts ≡ o → Begun (suc d) l (suc j) ts0 left ts → (x : Tree × List Placed) → joined_at expr more l left o ts ≡ Some x → Parsed (suc d) l ts0 x.0 x.1
joined_sound d l j expr more snd sndm ts0 ts left None q b x e = parsed_at (suc d) l ts0 (left, ts) x e (ended_parsed (suc d) l (suc j) ts0 ts left b q)
joined_sound d l j expr more snd sndm ts0 ts left (Some y) q b x e =
    elim (nat_lt (operator_level y.0) l) as (λ t. nat_lt (operator_level y.0) l ≡ t → cond t (Some (left, ts)) (cond (is_chain left y.0) None (expr (suc (operator_level y.0)) y.2 >>= λ r. more (InfixTree y.0 y.1 left r.0) r.1)) ≡ Some x → Parsed (suc d) l ts0 x.0 x.1) [
      | true ↦ (λ t f. parsed_at (suc d) l ts0 (left, ts) x f (looser_parsed (suc d) l (suc j) ts0 ts left y b q (lt_of (operator_level y.0) l t)))
      | false ↦ (λ t f. chain_sound d l j expr more snd sndm ts0 ts left y q (ge_of (operator_level y.0) l t) b x f)
    ] refl e

more_sound : (d l j : ℕ) (expr : ℕ → Reads Tree) → Sound d expr → SoundMore (suc d) l j (more_at expr j l)
unfolding more_at
more_sound d l zero expr snd left ts0 ts b x e = ended_sound (suc d) l zero ts0 ts left (operator_at ts) refl b x e
more_sound d l (suc j) expr snd left ts0 ts b x e = joined_sound d l j expr (more_at expr j l) snd (more_sound d l j expr snd) ts0 ts left (operator_at ts) refl b x e

-- an expression of level 10, after whose last part no operator belongs
first_begun : (d l : ℕ) (ts rest : List Placed) (t : Tree) → l ≤ 10 → Spells t ts rest → IsLevelled t → level t ≡ 10 → nesting t ≤ suc d → row t ≡ 0 → is_open t ≡ false → Begun (suc d) l d ts t rest
first_begun d l ts rest t h s v n k r o = record {
  spelled = s;
  levelled = v;
  tight = omega arith;
  deep = k;
  rowed = omega arith;
  ready = λ x q. ((let low = operator_low x.0 in omega arith), o);
}

leaf_begun : (d l : ℕ) (ts rest : List Placed) (t : Tree) (x : Tree × List Placed) → Some (t, rest) ≡ Some x → l ≤ 10 → Spells t ts rest → IsLevelled t → level t ≡ 10 → nesting t ≡ 1 → row t ≡ 0 → is_open t ≡ false → Begun (suc d) l d ts x.0 x.1
leaf_begun d l ts rest t x e h s v n k r o = begun_at (suc d) l d ts (t, rest) x e (first_begun d l ts rest t h s v n (omega arith) r o)

-- brackets
parens_sound : (d l at : ℕ) (expr : ℕ → Reads Tree) → Sound d expr → (ts : List Placed) (x : Tree × List Placed) → l ≤ 10 → parens_at expr at ts ≡ Some x → Begun (suc d) l d (placed (SignTok sign.Open) at ∷ ts) x.0 x.1
unfolding parens_at
parens_sound d l at expr snd ts x h e =
    let a = some_of (expr 0 ts) _ x e in
    let c = some_of (close_at a.0.1) _ x a.2 in
    let p = snd 0 ts a.0 (omega arith) a.1 in
    begun_at (suc d) l d _ (ParensTree at a.0.0, c.0) x c.2
    (first_begun d l _ c.0 (ParensTree at a.0.0) h (ts, a.0.1, refl, p.spelled, close_is a.0.1 c.0 c.1) p.levelled refl (let k = p.deep in omega arith) refl refl)

-- `not`
not_begun : (d l at : ℕ) (ts rest : List Placed) (a : Tree) → l ≤ 3 → Parsed d 3 ts a rest → Begun (suc d) l d (placed (KeywordTok word.Not) at ∷ ts) (NotTree at a) rest
not_begun d l at ts rest a h p = record {
  spelled = (ts, refl, p.spelled);
  levelled = (p.levelled, p.tight);
  tight = h;
  deep = let k = p.deep in omega arith;
  rowed = omega arith;
  ready = λ x q. ((let n = (p.ends x q).0 in omega arith), (p.ends x q).1);
}

not_sound : (d l at : ℕ) (expr : ℕ → Reads Tree) → Sound d expr → (ts : List Placed) (x : Tree × List Placed) → not_at expr l at ts ≡ Some x → Begun (suc d) l d (placed (KeywordTok word.Not) at ∷ ts) x.0 x.1
unfolding not_at
not_sound d l at expr snd ts x e =
    elim (nat_lt 3 l) as (λ t. nat_lt 3 l ≡ t → cond t None (expr 3 ts >>= λ a. Some (NotTree at a.0, a.1)) ≡ Some x → Begun (suc d) l d (placed (KeywordTok word.Not) at ∷ ts) x.0 x.1) [
      | true ↦ (λ t f. absurd (cc))
      | false ↦ (λ t f. let a = some_of (expr 3 ts) _ x f in begun_at (suc d) l d _ (NotTree at a.0.0, a.0.1) x a.2 (not_begun d l at ts a.0.1 a.0.0 (ge_of 3 l t) (snd 3 ts a.0 (omega arith) a.1)))
    ] refl e

-- `if`
if_begun : (d l at : ℕ) (ts a b c e rest : List Placed) (t y n : Tree) → l ≤ 10 → Parsed d 0 ts t a → Comes (KeywordTok word.Then) a b → Parsed d 0 b y c → Comes (KeywordTok word.Else) c e → Parsed d 0 e n rest → Begun (suc d) l d (placed (KeywordTok word.If) at ∷ ts) (IfTree at t y n) rest
if_begun d l at ts a b c e rest t y n h pt ct py ce pn = record {
  spelled = (ts, a, b, c, e, refl, pt.spelled, ct, py.spelled, ce, pn.spelled);
  levelled = (pt.levelled, py.levelled, pn.levelled);
  tight = h;
  deep = let u = pt.deep in let v = py.deep in let w = pn.deep in omega arith;
  rowed = omega arith;
  ready = λ x q. absurd (let z = (pn.ends x q).0 in omega arith);
}

if_sound : (d l at : ℕ) (expr : ℕ → Reads Tree) → Sound d expr → (ts : List Placed) (x : Tree × List Placed) → l ≤ 10 → if_at expr at ts ≡ Some x → Begun (suc d) l d (placed (KeywordTok word.If) at ∷ ts) x.0 x.1
unfolding if_at
if_sound d l at expr snd ts x h e =
    let a = some_of (expr 0 ts) _ x e in
    let t = some_of (then_at a.0.1) _ x a.2 in
    let b = some_of (expr 0 t.0) _ x t.2 in
    let f = some_of (else_at b.0.1) _ x b.2 in
    let c = some_of (expr 0 f.0) _ x f.2 in
    begun_at (suc d) l d _ (IfTree at a.0.0 b.0.0 c.0.0, c.0.1) x c.2
    (if_begun d l at ts a.0.1 t.0 b.0.1 f.0 c.0.1 a.0.0 b.0.0 c.0.0 h (snd 0 ts a.0 (omega arith) a.1) (then_is a.0.1 t.0 t.1) (snd 0 t.0 b.0 (omega arith) b.1) (else_is b.0.1 f.0 f.1) (snd 0 f.0 c.0 (omega arith) c.1))

-- `cases`
cases_sound : (d l at : ℕ) (arms : Reads ArmTree) → SoundArms d arms → (ts : List Placed) (x : Tree × List Placed) → l ≤ 10 → cases_at arms at ts ≡ Some x → Begun (suc d) l d (placed (KeywordTok word.Cases) at ∷ ts) x.0 x.1
unfolding cases_at
cases_sound d l at arms snd ts x h e =
    let o = some_of (brace_open_at ts) _ x e in
    let a = some_of (arms o.0) _ x o.2 in
    let p = snd o.0 a.0 a.1 in
    begun_at (suc d) l d _ (CasesTree at a.0.0, a.0.1) x a.2
    (first_begun d l _ a.0.1 (CasesTree at a.0.0) h (ts, o.0, refl, brace_open_is ts o.0 o.1, p.0) p.1 refl (let k = p.2 in omega arith) refl refl)

-- calls
call_sound : (d l at : ℕ) (f : Function) (arguments : Reads ArgumentTree) → SoundArguments d arguments → (ts : List Placed) (x : Tree × List Placed) → l ≤ 10 → ((open_at ts >>= arguments) >>= λ a. Some (CallTree f at a.0, a.1)) ≡ Some x → Begun (suc d) l d (placed (KeywordTok (word.Function f)) at ∷ ts) x.0 x.1
call_sound d l at f arguments snd ts x h e =
    let a = some_of (open_at ts >>= arguments) _ x e in
    let o = some_of (open_at ts) arguments a.0 a.1 in
    let p = snd o.0 a.0 o.2 in
    begun_at (suc d) l d _ (CallTree f at a.0.0, a.0.1) x a.2
    (first_begun d l _ a.0.1 (CallTree f at a.0.0) h (ts, o.0, refl, open_is ts o.0 o.1, p.0) p.1 refl (let k = p.2 in omega arith) refl refl)

apply_sound : (d l at p : ℕ) (w : List ℕ) (arguments : Reads ArgumentTree) → SoundArguments d arguments → (ts : List Placed) (x : Tree × List Placed) → l ≤ 10 → (arguments ts >>= λ a. Some (ApplyTree w at a.0, a.1)) ≡ Some x → Begun (suc d) l d (placed (NameTok w) at ∷ placed (SignTok sign.Open) p ∷ ts) x.0 x.1
apply_sound d l at p w arguments snd ts x h e =
    let a = some_of (arguments ts) _ x e in
    let k = snd ts a.0 a.1 in
    begun_at (suc d) l d _ (ApplyTree w at a.0.0, a.0.1) x a.2
    (first_begun d l _ a.0.1 (ApplyTree w at a.0.0) h (placed (SignTok sign.Open) p ∷ ts, ts, refl, (p, refl), k.0) k.1 refl (let m = k.2 in omega arith) refl refl)

named_sound : (d l at : ℕ) (w : List ℕ) (arguments : Reads ArgumentTree) → SoundArguments d arguments → (ts : List Placed) (x : Tree × List Placed) → l ≤ 10 → named_at arguments w at ts ≡ Some x → Begun (suc d) l d (placed (NameTok w) at ∷ ts) x.0 x.1
unfolding named_at
named_sound d l at w arguments snd (placed (SignTok sign.Open) p ∷ ts) x h e = apply_sound d l at p w arguments snd ts x h e
named_sound d l at w arguments snd ts x h e = leaf_begun d l _ ts (NameTree w at) x e h refl tt refl refl refl refl

-- `chance` and `chance_of`
chance_spelled : (ts : List Placed) (x : Decimal × List Placed) → chance_at ts ≡ Some x → SpellsChance x.0 ts x.1
unfolding chance_at
chance_spelled ts x e =
    let o = some_of (open_at ts) _ x e in
    let d = some_of (decimal_at o.0) _ x o.2 in
    let c = some_of (close_at d.0.1) _ x d.2 in
    let p = decimal_is o.0 d.0.1 d.0.0 d.1 in
    let q : (d.0.0, c.0) ≡ x = (let r = c.2 in cc) in
    subst (λ z. SpellsChance z.0 ts z.1) q (o.0, d.0.1, p.token, open_is ts o.0 o.1, p.comes, p.has, close_is d.0.1 c.0 c.1)

-- what follows a reserved word
keyword_sound : (d l : ℕ) (expr : ℕ → Reads Tree) (arms : Reads ArmTree) (arguments : Reads ArgumentTree) → Sound d expr → SoundArms d arms → SoundArguments d arguments → (k : Keyword) (at : ℕ) (ts : List Placed) (x : Tree × List Placed) → l ≤ 10 → keyword_at expr arms arguments l k at ts ≡ Some x → Begun (suc d) l d (placed (KeywordTok k) at ∷ ts) x.0 x.1
unfolding keyword_at
keyword_sound d l expr arms arguments snd snda sndb word.Nothing at ts x h e = leaf_begun d l _ ts (NothingTree at) x e h refl tt refl refl refl refl
keyword_sound d l expr arms arguments snd snda sndb word.Id at ts x h e = leaf_begun d l _ ts (IdTree at) x e h refl tt refl refl refl refl
keyword_sound d l expr arms arguments snd snda sndb word.Degree at ts x h e = leaf_begun d l _ ts (DegreeTree at) x e h refl tt refl refl refl refl
keyword_sound d l expr arms arguments snd snda sndb word.Round at ts x h e = leaf_begun d l _ ts (RoundTree at) x e h refl tt refl refl refl refl
keyword_sound d l expr arms arguments snd snda sndb word.Not at ts x h e = not_sound d l at expr snd ts x e
keyword_sound d l expr arms arguments snd snda sndb word.If at ts x h e = if_sound d l at expr snd ts x h e
keyword_sound d l expr arms arguments snd snda sndb word.Cases at ts x h e = cases_sound d l at arms snda ts x h e
keyword_sound d l expr arms arguments snd snda sndb word.Chance at ts x h e =
    let c = some_of (chance_at ts) _ x e in
    leaf_begun d l _ c.0.1 (ChanceTree at c.0.0) x c.2 h (ts, refl, chance_spelled ts c.0 c.1) tt refl refl refl refl
keyword_sound d l expr arms arguments snd snda sndb word.ChanceOf at ts x h e =
    let c = some_of (chance_at ts) _ x e in
    leaf_begun d l _ c.0.1 (ChanceOfTree at c.0.0) x c.2 h (ts, refl, chance_spelled ts c.0 c.1) tt refl refl refl refl
keyword_sound d l expr arms arguments snd snda sndb (word.Function f) at ts x h e = call_sound d l at f arguments sndb ts x h e
keyword_sound d l expr arms arguments snd snda sndb _ at ts x h e = cc

form_sound : (d l : ℕ) (expr : ℕ → Reads Tree) (arms : Reads ArmTree) (arguments : Reads ArgumentTree) → Sound d expr → SoundArms d arms → SoundArguments d arguments → (ts : List Placed) (x : Tree × List Placed) → l ≤ 10 → form_at expr arms arguments l ts ≡ Some x → Begun (suc d) l d ts x.0 x.1
unfolding form_at
form_sound d l expr arms arguments snd snda sndb [] x h e = cc
form_sound d l expr arms arguments snd snda sndb (placed (NumberTok n) at ∷ ts) x h e = leaf_begun d l _ ts (NumberTree n at) x e h refl tt refl refl refl refl
form_sound d l expr arms arguments snd snda sndb (placed (NameTok w) at ∷ ts) x h e = named_sound d l at w arguments sndb ts x h e
form_sound d l expr arms arguments snd snda sndb (placed (NearTok w) at ∷ ts) x h e = leaf_begun d l _ ts (NearTree w at) x e h refl tt refl refl refl refl
form_sound d l expr arms arguments snd snda sndb (placed NearIdTok at ∷ ts) x h e = leaf_begun d l _ ts (NearIdTree at) x e h refl tt refl refl refl refl
form_sound d l expr arms arguments snd snda sndb (placed NearWeightTok at ∷ ts) x h e = leaf_begun d l _ ts (NearWeightTree at) x e h refl tt refl refl refl refl
form_sound d l expr arms arguments snd snda sndb (placed (KeywordTok k) at ∷ ts) x h e = keyword_sound d l expr arms arguments snd snda sndb k at ts x h e
form_sound d l expr arms arguments snd snda sndb (placed (SignTok sign.Open) at ∷ ts) x h e = parens_sound d l at expr snd ts x h e
form_sound d l expr arms arguments snd snda sndb (placed _ at ∷ ts) x h e = cc

-- arms
pub record Valued (d : ℕ) (ts : List Placed) (v : Tree) (rest : List Placed) : Type 0 where
  pub b : List Placed
  pub c : List Placed
  pub colon : Comes (SignTok sign.Colon) ts b
  pub parsed : Parsed d 0 b v c
  pub semicolon : Comes (SignTok sign.Semicolon) c rest

value_sound : (d : ℕ) (expr : ℕ → Reads Tree) → Sound d expr → (ts : List Placed) (x : Tree × List Placed) → value_at expr ts ≡ Some x → Valued d ts x.0 x.1
unfolding value_at
value_sound d expr snd ts x e =
    let c = some_of (colon_at ts) _ x e in
    let v = some_of (expr 0 c.0) _ x c.2 in
    let s = some_of (semicolon_at v.0.1) _ x v.2 in
    let q : (v.0.0, s.0) ≡ x = (let r = s.2 in cc) in
    subst (λ z. Valued d ts z.0 z.1) q (record { b = c.0; c = v.0.1; colon = colon_is ts c.0 c.1; parsed = snd 0 c.0 v.0 (omega arith) v.1; semicolon = semicolon_is v.0.1 s.0 s.1 })

else_arm_sound : (d at : ℕ) (expr : ℕ → Reads Tree) → Sound d expr → (ts : List Placed) (x : ArmTree × List Placed) → else_arm_at expr ts ≡ Some x → SpellsArms x.0 (placed (KeywordTok word.Else) at ∷ ts) x.1 × AreLevelledArms x.0 × (arms_nesting x.0 ≤ suc d)
unfolding else_arm_at
else_arm_sound d at expr snd ts x e =
    let v = some_of (value_at expr ts) _ x e in
    let b = some_of (brace_close_at v.0.1) _ x v.2 in
    let p = value_sound d expr snd ts v.0 v.1 in
    let q : (ElseArm v.0.0, b.0) ≡ x = (let r = b.2 in cc) in
    subst (λ z. SpellsArms z.0 (placed (KeywordTok word.Else) at ∷ ts) z.1 × AreLevelledArms z.0 × (arms_nesting z.0 ≤ suc d)) q
    ((ts, p.b, p.c, v.0.1, (at, refl), p.colon, p.parsed.spelled, p.semicolon, brace_close_is v.0.1 b.0 b.1), p.parsed.levelled, (let k = p.parsed.deep in omega arith))

one_arm_sound : (d : ℕ) (expr : ℕ → Reads Tree) (arms : Reads ArmTree) → Sound d expr → SoundArms d arms → SoundArms (suc d) (one_arm_at expr arms)
unfolding one_arm_at
one_arm_sound d expr arms snd snda ts x e =
    let t = some_of (expr 0 ts) _ x e in
    let v = some_of (value_at expr t.0.1) _ x t.2 in
    let r = some_of (arms v.0.1) _ x v.2 in
    let p = snd 0 ts t.0 (omega arith) t.1 in
    let u = value_sound d expr snd t.0.1 v.0 v.1 in
    let w = snda v.0.1 r.0 r.1 in
    let q : (OneArm t.0.0 v.0.0 r.0.0, r.0.1) ≡ x = (let z = r.2 in cc) in
    subst (λ z. SpellsArms z.0 ts z.1 × AreLevelledArms z.0 × (arms_nesting z.0 ≤ suc d)) q
    ((t.0.1, u.b, u.c, v.0.1, p.spelled, u.colon, u.parsed.spelled, u.semicolon, w.0), (p.levelled, u.parsed.levelled, w.1), (let k = p.deep in let m = u.parsed.deep in let n = w.2 in omega arith))

arm_case : (d : ℕ) (expr : ℕ → Reads Tree) (arms : Reads ArmTree) → Sound d expr → SoundArms d arms → (ts : List Placed) (o : Option (List Placed)) → else_at ts ≡ o → (x : ArmTree × List Placed) → arm_by expr arms o ts ≡ Some x → SpellsArms x.0 ts x.1 × AreLevelledArms x.0 × (arms_nesting x.0 ≤ suc d)
arm_case d expr arms snd snda ts None q x e = one_arm_sound d expr arms snd snda ts x e
arm_case d expr arms snd snda ts (Some rest) q x e = let c = else_is ts rest q in rw c.1 (else_arm_sound d c.0 expr snd rest x e)

arm_sound : (d : ℕ) (expr : ℕ → Reads Tree) (arms : Reads ArmTree) → Sound d expr → SoundArms d arms → SoundArms (suc d) (arm_at expr arms)
unfolding arm_at
arm_sound d expr arms snd snda ts x e = arm_case d expr arms snd snda ts (else_at ts) refl x e

-- arguments
pub record Argued (d : ℕ) (ts : List Placed) (a : ArgumentTree) (rest : List Placed) : Type 0 where
  pub first : Tree
  pub behind : ArgumentTree
  pub b : List Placed
  pub is : a ≡ OneArgument first behind
  pub parsed : Parsed d 0 ts first b
  pub others : SpellsMore behind b rest × AreLevelled behind × (arguments_nesting behind ≤ d)

argument_sound : (d : ℕ) (expr : ℕ → Reads Tree) (others : Reads ArgumentTree) → Sound d expr → SoundOthers d others → (ts : List Placed) (x : ArgumentTree × List Placed) → argument_at expr others ts ≡ Some x → Argued d ts x.0 x.1
unfolding argument_at
argument_sound d expr others snd sndo ts x e =
    let a = some_of (expr 0 ts) _ x e in
    let r = some_of (others a.0.1) _ x a.2 in
    let q : (OneArgument a.0.0 r.0.0, r.0.1) ≡ x = (let z = r.2 in cc) in
    subst (λ z. Argued d ts z.0 z.1) q (record { first = a.0.0; behind = r.0.0; b = a.0.1; is = refl; parsed = snd 0 ts a.0 (omega arith) a.1; others = sndo a.0.1 r.0 r.1 })

argued_deep : (d : ℕ) (ts rest : List Placed) (a : ArgumentTree) → Argued d ts a rest → AreLevelled a × (arguments_nesting a ≤ suc d)
argued_deep d ts rest a g = rw g.is ((g.parsed.levelled, g.others.1), (let k = g.parsed.deep in let m = g.others.2 in omega arith))

argued_first : (d : ℕ) (ts rest : List Placed) (a : ArgumentTree) → Argued d ts a rest → SpellsArguments a ts rest × AreLevelled a × (arguments_nesting a ≤ suc d)
argued_first d ts rest a g = let h = argued_deep d ts rest a g in (subst (λ z. SpellsArguments z ts rest) (sym g.is) (g.b, g.parsed.spelled, g.others.0), h.0, h.1)

argued_next : (d at : ℕ) (ts rest : List Placed) (a : ArgumentTree) → Argued d ts a rest → SpellsMore a (placed (SignTok sign.Comma) at ∷ ts) rest × AreLevelled a × (arguments_nesting a ≤ suc d)
argued_next d at ts rest a g = let h = argued_deep d ts rest a g in (subst (λ z. SpellsMore z (placed (SignTok sign.Comma) at ∷ ts) rest) (sym g.is) (ts, g.b, (at, refl), g.parsed.spelled, g.others.0), h.0, h.1)

no_argument : (d at : ℕ) (ts : List Placed) (x : ArgumentTree × List Placed) → Some (NoArgument, ts) ≡ Some x → Comes (SignTok sign.Close) (placed (SignTok sign.Close) at ∷ ts) x.1 × (x.0 ≡ NoArgument)
no_argument d at ts x e = let q = same_pair e in ((at, ap (λ l. placed (SignTok sign.Close) at ∷ l) q.1), sym q.0)

first_case : (d : ℕ) (expr : ℕ → Reads Tree) (others : Reads ArgumentTree) → Sound d expr → SoundOthers d others → (ts : List Placed) (o : Option (List Placed)) → close_at ts ≡ o → (x : ArgumentTree × List Placed) → first_by expr others o ts ≡ Some x → SpellsArguments x.0 ts x.1 × AreLevelled x.0 × (arguments_nesting x.0 ≤ suc d)
first_case d expr others snd sndo ts None q x e = argued_first d ts x.1 x.0 (argument_sound d expr others snd sndo ts x e)
first_case d expr others snd sndo ts (Some rest) q x e = let c = close_is ts rest q in let n = no_argument d c.0 rest x e in rw (c.1, n.1) (n.0, tt, omega arith)

first_sound : (d : ℕ) (expr : ℕ → Reads Tree) (others : Reads ArgumentTree) → Sound d expr → SoundOthers d others → SoundArguments (suc d) (first_at expr others)
unfolding first_at
first_sound d expr others snd sndo ts x e = first_case d expr others snd sndo ts (close_at ts) refl x e

next_sound : (d : ℕ) (expr : ℕ → Reads Tree) (others : Reads ArgumentTree) → Sound d expr → SoundOthers d others → SoundOthers (suc d) (next_at expr others)
unfolding next_at
next_sound d expr others snd sndo (placed (SignTok sign.Close) at ∷ ts) x e = let n = no_argument d at ts x e in rw n.1 (n.0, tt, omega arith)
next_sound d expr others snd sndo (placed (SignTok sign.Comma) at ∷ ts) x e = argued_next d at ts x.1 x.0 (argument_sound d expr others snd sndo ts x e)
next_sound d expr others snd sndo _ x e = cc

-- all of it
pub record AllSound (d : ℕ) : Type 0 where
  pub expr : Sound d (expr_at d)
  pub arms : SoundArms d (arms_at d)
  pub arguments : SoundArguments d (arguments_at d)
  pub others : SoundOthers d (others_at d)

expr_step : (d : ℕ) → AllSound d → Sound (suc d) (expr_at (suc d))
unfolding expr_at
expr_step d s l ts x h e =
    let a = some_of (form_at (expr_at d) (arms_at d) (arguments_at d) l ts) _ x e in
    more_sound d l d (expr_at d) s.expr a.0.0 ts a.0.1 (form_sound d l (expr_at d) (arms_at d) (arguments_at d) s.expr s.arms s.arguments ts a.0 h a.1) x a.2

pub all_sound : (d : ℕ) → AllSound d
unfolding expr_at
all_sound zero = record { expr = λ l ts x h e. cc; arms = λ ts x e. cc; arguments = λ ts x e. cc; others = λ ts x e. cc }
all_sound (suc d) = let s = all_sound d in record {
  expr = expr_step d s;
  arms = arm_sound d (expr_at d) (arms_at d) s.expr s.arms;
  arguments = first_sound d (expr_at d) (others_at d) s.expr s.others;
  others = next_sound d (expr_at d) (others_at d) s.expr s.others;
}
