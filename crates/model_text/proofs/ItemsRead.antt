-- Items: what is read is spelled so, and what is spelled so is read.
use Rattle.std.proofs.Common.{◌≡◌, ℕ, ◌+◌, drop, ◌≤◌, ◌<◌, List, [], ◌∷◌, ◌++◌, Bool, true, false, cond, Option, Some, None, refl, sym, ap, subst, ◌∙◌, arith, length, append_assoc, append-nil}
use Rattle.std.specs.Prelude.{nat_le}
use Rattle.std.proofs.lemmas.Bool.Decides.{nat_tests}
use Rattle.model_text.specs.declared.keyword.Keyword.TheVariants as word
use Rattle.model_text.specs.declared.token.Sign.{Sign}
use Rattle.model_text.specs.declared.token.Sign.TheVariants as sign
use Rattle.model_text.specs.declared.expect.Ending.{Ending}
use Rattle.model_text.specs.declared.expect.Ending.TheVariants as ending
use Rattle.model_text.specs.Tokens.{KeywordTok, NameTok, SignTok, Placed, placed}
use Rattle.model_text.specs.Tree.{Tree, NameAt, ItemTree, ConstTree, StatesTree, FieldTree, LetTree, NextTree}
use Rattle.model_text.specs.Grammar.{Comes, SpellsName, SpellsNames, SpellsList, SpellsBody, SpellsStates, SpellsParameters, SpellsItem, depth}
use Rattle.model_text.specs.Reading.{◌>>=◌, name_at, assign_at, semicolon_at, comma_at, brace_open_at, close_at, brace_close_at, ending_at, another_by, another_at, names_at, list_at, expr_at, shallow_at, body_at, states_at, parameters_at, const_item_at, states_item_at, field_item_at, let_item_at, next_item_at, item_at}
use Rattle.model_text.proofs.SingleTokens.{name_is, name_reads, assign_is, assign_reads, semicolon_is, semicolon_reads, comma_is, comma_reads, brace_open_is, brace_open_reads, close_is, close_reads, brace_close_is, brace_close_reads, semicolon_closes}
use Rattle.model_text.proofs.Sound.{some_of, all_sound}
use Rattle.model_text.proofs.Complete.{expr_begins, part}
use Rattle.model_text.proofs.Nesting.{nesting_shallow}

-- the sign of the bracket that ends a list
abbrev pub end_sign : Ending → Sign
end_sign ending.Round = sign.Close
end_sign ending.Brace = sign.BraceClose

ending_is : (e : Ending) (ts rest : List Placed) → ending_at e ts ≡ Some rest → Comes (SignTok (end_sign e)) ts rest
unfolding ending_at
ending_is ending.Round ts rest h = close_is ts rest h
ending_is ending.Brace ts rest h = brace_close_is ts rest h

-- names were read after names
pub record Listed (e : Ending) (names : List NameAt) (ts : List Placed) (all : List NameAt) (rest : List Placed) : Type 0 where
  pub more : List NameAt
  pub is : all ≡ names ++ more
  pub spelled : SpellsNames (end_sign e) more ts rest

ended_listed : (e : Ending) (names : List NameAt) (ts : List Placed) (x : List NameAt × List Placed) → (ending_at e ts >>= λ rest. Some (names, rest)) ≡ Some x → Listed e names ts x.0 x.1
ended_listed e names ts x h =
    let r = some_of (ending_at e ts) _ x h in
    let q : (names, r.0) ≡ x = (let z = r.2 in cc) in
    subst (λ y. Listed e names ts y.0 y.1) q (record { more = []; is = sym (append-nil names); spelled = ending_is e ts r.0 r.1 })

longer_listed : (at : ℕ) (e : Ending) (names : List NameAt) (n : NameAt) (ts a rest : List Placed) (all : List NameAt) → SpellsName n ts a → Listed e (names ++ n ∷ []) a all rest → Listed e names (placed (SignTok sign.Comma) at ∷ ts) all rest
longer_listed at e names n ts a rest all s l = record {
  more = n ∷ l.more;
  is = l.is ∙ append_assoc names (n ∷ []) l.more;
  spelled = (ts, a, (at, refl), s, l.spelled);
}

pub names_sound : (e : Ending) (names : List NameAt) (ts : List Placed) (x : List NameAt × List Placed) → names_at e names ts ≡ Some x → Listed e names ts x.0 x.1
unfolding names_at
names_sound e names (placed (SignTok sign.Comma) at ∷ placed (NameTok w) place ∷ ts) x h =
    let n : NameAt = record { name = w; at = place } in
    longer_listed at e names n (placed (NameTok w) place ∷ ts) ts x.1 x.0 refl (names_sound e (names ++ n ∷ []) ts x h)
names_sound e names ts x h = ended_listed e names ts x h

-- where the closing bracket stands, the list ends
ended_read : (e : Ending) (names : List NameAt) (ts rest : List Placed) → Comes (SignTok (end_sign e)) ts rest → names_at e names ts ≡ Some (names, rest)
unfolding names_at ending_at close_at brace_close_at
ended_read ending.Round names ts rest c = rw c.1 refl
ended_read ending.Brace names ts rest c = rw c.1 refl

-- where a comma and a name stand, it goes on
pub longer_read : (e : Ending) (names : List NameAt) (n : NameAt) (ts a b : List Placed) → Comes (SignTok sign.Comma) ts a → SpellsName n a b → names_at e names ts ≡ names_at e (names ++ n ∷ []) b
unfolding names_at
longer_read e names n ts a b c s = rw (c.1, s) refl

-- nothing is read after what is not
unread : (o : Option (NameAt × List Placed)) → (o >>= λ n. Some (Some n.0)) ≡ None → o ≡ None
unread None h = refl
unread (Some x) h = absurd (cc)

-- one name more, none more, and what is no name
pub record More (n : NameAt) (ts : List Placed) : Type 0 where
  pub a : List Placed
  pub b : List Placed
  pub comma : Comes (SignTok sign.Comma) ts a
  pub name : SpellsName n a b

more_by : (ts : List Placed) (o : Option (List Placed)) (n : NameAt) → comma_at ts ≡ o → another_by o ≡ Some (Some n) → More n ts
more_by ts None n q h = absurd (cc)
more_by ts (Some a) n q h =
    let x = some_of (name_at a) _ (Some n) h in
    let r : x.0.0 ≡ n = (let z = x.2 in cc) in
    record { a = a; b = x.0.1; comma = comma_is ts a q; name = subst (λ m. SpellsName m a x.0.1) r (name_is a x.0.1 x.0.0 x.1) }

more_is : (n : NameAt) (ts : List Placed) → another_at ts ≡ Some (Some n) → More n ts
unfolding another_at
more_is n ts h = more_by ts (comma_at ts) n refl h

two_front : (ts a b : List Placed) (s t : Placed) → ts ≡ s ∷ a → a ≡ t ∷ b → (drop 2 ts ≡ b) × (length ts ≡ length b + 2)
two_front ts a b s t c d = rw (c, d) (refl, omega arith)

pub more_read : (e : Ending) (names : List NameAt) (n : NameAt) (ts : List Placed) → another_at ts ≡ Some (Some n) → names_at e names ts ≡ names_at e (names ++ n ∷ []) (drop 2 ts)
more_read e names n ts h =
    let m = more_is n ts h in
    longer_read e names n ts m.a m.b m.comma m.name ∙ ap (names_at e (names ++ n ∷ [])) (sym (two_front ts m.a m.b _ _ m.comma.1 m.name).0)

pub more_long : (n : NameAt) (ts : List Placed) → another_at ts ≡ Some (Some n) → 2 ≤ length ts
more_long n ts h =
    let m = more_is n ts h in
    let l = (two_front ts m.a m.b _ _ m.comma.1 m.name).1 in
    omega arith

no_name : (e : Ending) (names : List NameAt) (at : ℕ) (a : List Placed) → name_at a ≡ None → names_at e names (placed (SignTok sign.Comma) at ∷ a) ≡ None
unfolding names_at name_at ending_at close_at brace_close_at
no_name ending.Round names at (placed (NameTok w) place ∷ ts) h = absurd (cc)
no_name ending.Brace names at (placed (NameTok w) place ∷ ts) h = absurd (cc)
no_name ending.Round names at a h = refl
no_name ending.Brace names at a h = refl

none_by : (e : Ending) (names : List NameAt) (ts : List Placed) (o : Option (List Placed)) → comma_at ts ≡ o → another_by o ≡ None → names_at e names ts ≡ None
none_by e names ts None q h = absurd (cc)
none_by e names ts (Some a) q h =
    let c = comma_is ts a q in
    rw c.1 (no_name e names c.0 a (unread (name_at a) h))

pub none_read : (e : Ending) (names : List NameAt) (ts : List Placed) → another_at ts ≡ None → names_at e names ts ≡ None
unfolding another_at
none_read e names ts h = none_by e names ts (comma_at ts) refl h

no_comma : (e : Ending) (names : List NameAt) (ts : List Placed) → comma_at ts ≡ None → names_at e names ts ≡ (ending_at e ts >>= λ rest. Some (names, rest))
unfolding names_at comma_at
no_comma e names (placed (SignTok sign.Comma) at ∷ ts) h = absurd (cc)
no_comma e names ts h = refl

last_by : (ts : List Placed) (o : Option (List Placed)) → comma_at ts ≡ o → another_by o ≡ Some None → comma_at ts ≡ None
last_by ts None q h = q
last_by ts (Some a) q h = absurd (let x = some_of (name_at a) _ None h in let z = x.2 in cc)

pub last_read : (e : Ending) (names : List NameAt) (ts : List Placed) → another_at ts ≡ Some None → names_at e names ts ≡ (ending_at e ts >>= λ rest. Some (names, rest))
unfolding another_at
last_read e names ts h = no_comma e names ts (last_by ts (comma_at ts) refl h)

pub names_complete : (more : List NameAt) (e : Ending) (names : List NameAt) (ts rest : List Placed) → SpellsNames (end_sign e) more ts rest → names_at e names ts ≡ Some (names ++ more, rest)
names_complete [] e names ts rest s = ended_read e names ts rest s ∙ ap (λ l. Some (l, rest)) (sym (append-nil names))
names_complete (n ∷ more) e names ts rest s =
    longer_read e names n ts s.0 s.1 s.2 s.3
    ∙ names_complete more e (names ++ n ∷ []) s.1 rest s.4
    ∙ ap (λ l. Some (l, rest)) (append_assoc names (n ∷ []) more)

-- a whole list, without its opening bracket
pub record Whole (e : Ending) (ts : List Placed) (all : List NameAt) (rest : List Placed) : Type 0 where
  pub first : NameAt
  pub more : List NameAt
  pub a : List Placed
  pub is : all ≡ first ∷ more
  pub name : SpellsName first ts a
  pub names : SpellsNames (end_sign e) more a rest

list_sound : (e : Ending) (ts : List Placed) (x : List NameAt × List Placed) → list_at e ts ≡ Some x → Whole e ts x.0 x.1
unfolding list_at
list_sound e ts x h =
    let n = some_of (name_at ts) _ x h in
    let l = names_sound e (n.0.0 ∷ []) n.0.1 x n.2 in
    record { first = n.0.0; more = l.more; a = n.0.1; is = l.is; name = name_is ts n.0.1 n.0.0 n.1; names = l.spelled }

list_complete : (e : Ending) (n : NameAt) (more : List NameAt) (ts a rest : List Placed) → SpellsName n ts a → SpellsNames (end_sign e) more a rest → list_at e ts ≡ Some (n ∷ more, rest)
unfolding list_at
list_complete e n more ts a rest s t = rw (name_reads ts a n s) (names_complete more e (n ∷ []) a rest t)

-- an expression that is 100 deep at most
within_case : (o : Bool) (n : ℕ) (a x : Tree × List Placed) → nat_le n 100 ≡ o → cond o (Some a) None ≡ Some x → (n ≤ 100) × (a ≡ x)
within_case true n a x q e = ((grind (arith, nat_tests)), (cc))
within_case false n a x q e = absurd (cc)

shallow_is : (ts : List Placed) (x : Tree × List Placed) → shallow_at ts ≡ Some x → (depth x.0 ≤ 100) × (expr_at 100 0 ts ≡ Some x)
unfolding shallow_at
shallow_is ts x e =
    let a = some_of (expr_at 100 0 ts) _ x e in
    let p = within_case (nat_le (depth a.0.0) 100) (depth a.0.0) a.0 x refl a.2 in
    subst (λ z. (depth z.0 ≤ 100) × (expr_at 100 0 ts ≡ Some z)) p.1 (p.0, a.1)

le_true : (m n : ℕ) → m ≤ n → nat_le m n ≡ true
le_true m n h = grind (arith, nat_tests)

shallow_reads : (t : Tree) (ts rest : List Placed) → expr_at 100 0 ts ≡ Some (t, rest) → depth t ≤ 100 → shallow_at ts ≡ Some (t, rest)
unfolding shallow_at
shallow_reads t ts rest e k = rw (e, le_true (depth t) 100 k) refl

-- `=`, an expression and `;`
body_sound : (ts : List Placed) (x : Tree × List Placed) → body_at ts ≡ Some x → SpellsBody x.0 ts x.1
unfolding body_at
body_sound ts x h =
    let a = some_of (assign_at ts) _ x h in
    let b = some_of (shallow_at a.0) _ x a.2 in
    let c = some_of (semicolon_at b.0.1) _ x b.2 in
    let s = shallow_is a.0 b.0 b.1 in
    let p = (all_sound 100).expr 0 a.0 b.0 (omega arith) s.1 in
    let q : (b.0.0, c.0) ≡ x = (let z = c.2 in cc) in
    subst (λ y. SpellsBody y.0 ts y.1) q (a.0, b.0.1, assign_is ts a.0 a.1, p.spelled, p.levelled, s.0, semicolon_is b.0.1 c.0 c.1)

body_chain : (t : Tree) (ts a b rest : List Placed) → assign_at ts ≡ Some a → shallow_at a ≡ Some (t, b) → semicolon_at b ≡ Some rest → body_at ts ≡ Some (t, rest)
unfolding body_at
body_chain t ts a b rest e f g = rw (e, f, g) refl

body_complete : (t : Tree) (ts rest : List Placed) → SpellsBody t ts rest → body_at ts ≡ Some (t, rest)
body_complete t ts rest s =
    let n = nesting_shallow t in
    let r = part t (expr_begins t) 100 s.0 s.1 (omega arith) s.4 s.3 (semicolon_closes s.1 rest s.6) in
    body_chain t ts s.0 s.1 rest (assign_reads ts s.0 s.2) (shallow_reads t s.0 s.1 r s.5) (semicolon_reads s.1 rest s.6)

-- `: states`, and the parameters of a let
states_sound : (ts : List Placed) (x : Option NameAt × List Placed) → states_at ts ≡ Some x → SpellsStates x.0 ts x.1
unfolding states_at
states_sound (placed (SignTok sign.Colon) at ∷ ts) x h =
    let n = some_of (name_at ts) _ x h in
    let q : (Some n.0.0, n.0.1) ≡ x = (let z = n.2 in cc) in
    subst (λ y. SpellsStates y.0 (placed (SignTok sign.Colon) at ∷ ts) y.1) q (ts, (at, refl), name_is ts n.0.1 n.0.0 n.1)
states_sound ts x h = let q : (None, ts) ≡ x = cc in subst (λ y. SpellsStates y.0 ts y.1) q refl

states_complete : (o : Option NameAt) (t : Tree) (ts a rest : List Placed) → SpellsStates o ts a → SpellsBody t a rest → states_at ts ≡ Some (o, a)
unfolding states_at
states_complete None t ts a rest s b = rw s (rw b.2.1 refl)
states_complete (Some n) t ts a rest s b = rw s.1.1 (rw (name_reads s.0 a n s.2) refl)

parameters_sound : (ts : List Placed) (x : List NameAt × List Placed) → parameters_at ts ≡ Some x → SpellsParameters x.0 ts x.1
unfolding parameters_at
parameters_sound (placed (SignTok sign.Open) at ∷ ts) x h =
    let l = list_sound ending.Round ts x h in
    subst (λ y. SpellsParameters y (placed (SignTok sign.Open) at ∷ ts) x.1) (sym l.is) (ts, l.a, (at, refl), l.name, l.names)
parameters_sound ts x h = let q : ([], ts) ≡ x = cc in subst (λ y. SpellsParameters y.0 ts y.1) q refl

parameters_complete : (names : List NameAt) (t : Tree) (ts a rest : List Placed) → SpellsParameters names ts a → SpellsBody t a rest → parameters_at ts ≡ Some (names, a)
unfolding parameters_at
parameters_complete [] t ts a rest s b = rw s (rw b.2.1 refl)
parameters_complete (n ∷ names) t ts a rest s b = rw s.2.1 (list_complete ending.Round n names s.0 s.1 a s.3 s.4)

-- what follows the first word of an item
const_sound : (at : ℕ) (ts : List Placed) (x : ItemTree × List Placed) → const_item_at ts ≡ Some x → SpellsItem x.0 (placed (KeywordTok word.Const) at ∷ ts) x.1
unfolding const_item_at
const_sound at ts x h =
    let n = some_of (name_at ts) _ x h in
    let b = some_of (body_at n.0.1) _ x n.2 in
    let q : (ConstTree n.0.0 b.0.0, b.0.1) ≡ x = (let z = b.2 in cc) in
    subst (λ y. SpellsItem y.0 (placed (KeywordTok word.Const) at ∷ ts) y.1) q (ts, n.0.1, (at, refl), name_is ts n.0.1 n.0.0 n.1, body_sound n.0.1 b.0 b.1)

next_sound : (at : ℕ) (ts : List Placed) (x : ItemTree × List Placed) → next_item_at ts ≡ Some x → SpellsItem x.0 (placed (KeywordTok word.Next) at ∷ ts) x.1
unfolding next_item_at
next_sound at ts x h =
    let n = some_of (name_at ts) _ x h in
    let b = some_of (body_at n.0.1) _ x n.2 in
    let q : (NextTree n.0.0 b.0.0, b.0.1) ≡ x = (let z = b.2 in cc) in
    subst (λ y. SpellsItem y.0 (placed (KeywordTok word.Next) at ∷ ts) y.1) q (ts, n.0.1, (at, refl), name_is ts n.0.1 n.0.0 n.1, body_sound n.0.1 b.0 b.1)

states_list : (a : List Placed) (names : List NameAt) (b rest : List Placed) → Comes (SignTok sign.BraceOpen) a b → Whole ending.Brace b names rest → SpellsList sign.BraceOpen sign.BraceClose names a rest
states_list a names b rest c l = subst (λ y. SpellsList sign.BraceOpen sign.BraceClose y a rest) (sym l.is) (b, l.a, c, l.name, l.names)

states_item_sound : (at : ℕ) (ts : List Placed) (x : ItemTree × List Placed) → states_item_at ts ≡ Some x → SpellsItem x.0 (placed (KeywordTok word.States) at ∷ ts) x.1
unfolding states_item_at
states_item_sound at ts x h =
    let n = some_of (name_at ts) _ x h in
    let o = some_of (brace_open_at n.0.1) _ x n.2 in
    let l = some_of (list_at ending.Brace o.0) _ x o.2 in
    let q : (StatesTree n.0.0 l.0.0, l.0.1) ≡ x = (let z = l.2 in cc) in
    subst (λ y. SpellsItem y.0 (placed (KeywordTok word.States) at ∷ ts) y.1) q
    (ts, n.0.1, (at, refl), name_is ts n.0.1 n.0.0 n.1, states_list n.0.1 l.0.0 o.0 l.0.1 (brace_open_is n.0.1 o.0 o.1) (list_sound ending.Brace o.0 l.0 l.1))

field_sound : (at : ℕ) (ts : List Placed) (x : ItemTree × List Placed) → field_item_at ts ≡ Some x → SpellsItem x.0 (placed (KeywordTok word.Field) at ∷ ts) x.1
unfolding field_item_at
field_sound at ts x h =
    let n = some_of (name_at ts) _ x h in
    let s = some_of (states_at n.0.1) _ x n.2 in
    let b = some_of (body_at s.0.1) _ x s.2 in
    let q : (FieldTree n.0.0 s.0.0 b.0.0, b.0.1) ≡ x = (let z = b.2 in cc) in
    subst (λ y. SpellsItem y.0 (placed (KeywordTok word.Field) at ∷ ts) y.1) q (ts, n.0.1, s.0.1, (at, refl), name_is ts n.0.1 n.0.0 n.1, states_sound n.0.1 s.0 s.1, body_sound s.0.1 b.0 b.1)

let_sound : (at : ℕ) (ts : List Placed) (x : ItemTree × List Placed) → let_item_at ts ≡ Some x → SpellsItem x.0 (placed (KeywordTok word.Let) at ∷ ts) x.1
unfolding let_item_at
let_sound at ts x h =
    let n = some_of (name_at ts) _ x h in
    let s = some_of (parameters_at n.0.1) _ x n.2 in
    let b = some_of (body_at s.0.1) _ x s.2 in
    let q : (LetTree n.0.0 s.0.0 b.0.0, b.0.1) ≡ x = (let z = b.2 in cc) in
    subst (λ y. SpellsItem y.0 (placed (KeywordTok word.Let) at ∷ ts) y.1) q (ts, n.0.1, s.0.1, (at, refl), name_is ts n.0.1 n.0.0 n.1, parameters_sound n.0.1 s.0 s.1, body_sound s.0.1 b.0 b.1)

pub item_sound : (ts : List Placed) (x : ItemTree × List Placed) → item_at ts ≡ Some x → SpellsItem x.0 ts x.1
unfolding item_at
item_sound (placed (KeywordTok word.Const) at ∷ ts) x h = const_sound at ts x h
item_sound (placed (KeywordTok word.States) at ∷ ts) x h = states_item_sound at ts x h
item_sound (placed (KeywordTok word.Field) at ∷ ts) x h = field_sound at ts x h
item_sound (placed (KeywordTok word.Let) at ∷ ts) x h = let_sound at ts x h
item_sound (placed (KeywordTok word.Next) at ∷ ts) x h = next_sound at ts x h
item_sound _ x h = cc

-- the other way
const_again : (n : NameAt) (t : Tree) (ts a rest : List Placed) → name_at ts ≡ Some (n, a) → body_at a ≡ Some (t, rest) → const_item_at ts ≡ Some (ConstTree n t, rest)
unfolding const_item_at
const_again n t ts a rest e f = rw (e, f) refl

next_again : (n : NameAt) (t : Tree) (ts a rest : List Placed) → name_at ts ≡ Some (n, a) → body_at a ≡ Some (t, rest) → next_item_at ts ≡ Some (NextTree n t, rest)
unfolding next_item_at
next_again n t ts a rest e f = rw (e, f) refl

states_again : (n : NameAt) (l : List NameAt) (ts a b rest : List Placed) → name_at ts ≡ Some (n, a) → brace_open_at a ≡ Some b → list_at ending.Brace b ≡ Some (l, rest) → states_item_at ts ≡ Some (StatesTree n l, rest)
unfolding states_item_at
states_again n l ts a b rest e f g = rw (e, f, g) refl

field_again : (n : NameAt) (s : Option NameAt) (t : Tree) (ts a b rest : List Placed) → name_at ts ≡ Some (n, a) → states_at a ≡ Some (s, b) → body_at b ≡ Some (t, rest) → field_item_at ts ≡ Some (FieldTree n s t, rest)
unfolding field_item_at
field_again n s t ts a b rest e f g = rw (e, f, g) refl

let_again : (n : NameAt) (p : List NameAt) (t : Tree) (ts a b rest : List Placed) → name_at ts ≡ Some (n, a) → parameters_at a ≡ Some (p, b) → body_at b ≡ Some (t, rest) → let_item_at ts ≡ Some (LetTree n p t, rest)
unfolding let_item_at
let_again n p t ts a b rest e f g = rw (e, f, g) refl

pub item_complete : (i : ItemTree) (ts rest : List Placed) → SpellsItem i ts rest → item_at ts ≡ Some (i, rest)
unfolding item_at
item_complete (ConstTree n t) ts rest s = rw s.2.1 (const_again n t s.0 s.1 rest (name_reads s.0 s.1 n s.3) (body_complete t s.1 rest s.4))
item_complete (NextTree n t) ts rest s = rw s.2.1 (next_again n t s.0 s.1 rest (name_reads s.0 s.1 n s.3) (body_complete t s.1 rest s.4))
item_complete (StatesTree n []) ts rest s = absurd s.4
item_complete (StatesTree n (m ∷ more)) ts rest s =
    let l = s.4 in
    rw s.2.1 (states_again n (m ∷ more) s.0 s.1 l.0 rest (name_reads s.0 s.1 n s.3) (brace_open_reads s.1 l.0 l.2) (list_complete ending.Brace m more l.0 l.1 rest l.3 l.4))
item_complete (FieldTree n o t) ts rest s = rw s.3.1 (field_again n o t s.0 s.1 s.2 rest (name_reads s.0 s.1 n s.4) (states_complete o t s.1 s.2 rest s.5 s.6) (body_complete t s.2 rest s.6))
item_complete (LetTree n p t) ts rest s = rw s.3.1 (let_again n p t s.0 s.1 s.2 rest (name_reads s.0 s.1 n s.4) (parameters_complete p t s.1 s.2 rest s.5 s.6) (body_complete t s.2 rest s.6))
