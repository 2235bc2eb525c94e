-- The items read so far, and the tokens after them.
use Rattle.std.proofs.Common.{◌≡◌, List, [], ◌∷◌, ◌++◌, Some, None, refl, sym, ap, ◌∙◌, arith, append_assoc, append-nil, flat_map, length, ◌<◌, length-append}
use Rattle.rule_lang.specs.Tokens.{Tok}
use Rattle.rule_lang.specs.Tree.{ItemTree, FieldTree, NextTree, spell_item, HasTree}
use Rattle.rule_lang.specs.Reading.{item_at}
use Rattle.rule_lang.proofs.SingleTokens.{same_pair}
use Rattle.rule_lang.proofs.ItemTrees.{item_sound, item_complete}

-- the items so far, and the tokens after them: a program of the rest is a program of the whole, and no other is
pub record Leads (all : List Tok) (items : List ItemTree) (rest : List Tok) : Type 0 where
  pub on : (js : List ItemTree) → HasTree rest js → HasTree all (items ++ js)
  pub only : (js : List ItemTree) → HasTree all js → (ks : List ItemTree) × (js ≡ items ++ ks) × HasTree rest ks

pub leads_start : (all : List Tok) → Leads all [] all
leads_start all = record { on = λ js h. h; only = λ js h. (js, refl, h) }

-- what a program that begins with an item says of the rest
pub first_item : (rest after : List Tok) (i : ItemTree) (ks : List ItemTree) → item_at rest ≡ Some (i, after) → HasTree rest ks → (ls : List ItemTree) × (ks ≡ i ∷ ls) × HasTree after ls
unfolding item_at
first_item rest after i [] e h = let n : item_at rest ≡ None = rw h.spelling refl in absurd (let c : Some (i, after) ≡ None = sym e ∙ n in cc)
first_item rest after i (k ∷ ks) e h =
    let n : item_at rest ≡ Some (k, flat_map spell_item ks) = rw h.spelling (item_complete k (flat_map spell_item ks) h.each.0) in
    let q = same_pair (sym n ∙ e) in
    (ks, ap (λ x. x ∷ ks) q.0, record { spelling = sym q.1; each = h.each.1 })

pub leads_step : (all : List Tok) (items : List ItemTree) (rest after : List Tok) (i : ItemTree) → Leads all items rest → item_at rest ≡ Some (i, after) → Leads all (items ++ i ∷ []) after
leads_step all items rest after i l e = record {
  on = λ js h. rw append_assoc (l.on (i ∷ js) (let p = item_sound rest (i, after) e in record { spelling = p.spelled ∙ ap (λ r. spell_item i ++ r) h.spelling; each = (p.whole, h.each) }));
  only = λ js h. let p = l.only js h in let q = first_item rest after i p.0 e p.2 in (q.0, p.1 ∙ ap (λ r. items ++ r) q.1 ∙ sym (append_assoc items (i ∷ []) q.0), q.2);
}

pub leads_end : (all : List Tok) (items : List ItemTree) → Leads all items [] → HasTree all items
leads_end all items l = rw append-nil at (l.on [] (record { spelling = refl; each = tt }))

pub stuck : (t : Tok) (rest : List Tok) (ks : List ItemTree) → item_at (t ∷ rest) ≡ None → HasTree (t ∷ rest) ks → ⊥
stuck t rest [] e h = let q = h.spelling in cc
stuck t rest (k ∷ ks) e h =
    let n : item_at (t ∷ rest) ≡ Some (k, flat_map spell_item ks) = rw h.spelling (item_complete k (flat_map spell_item ks) h.each.0) in
    let c : Some (k, flat_map spell_item ks) ≡ None = sym n ∙ e in cc

pub leads_stuck : (all : List Tok) (items : List ItemTree) (t : Tok) (rest : List Tok) → Leads all items (t ∷ rest) → item_at (t ∷ rest) ≡ None → (js : List ItemTree) → HasTree all js → ⊥
leads_stuck all items t rest l e js h = let p = l.only js h in stuck t rest p.0 e p.2

shorter : (i : ItemTree) (rest : List Tok) → length rest < length (spell_item i ++ rest)
shorter (FieldTree w n) rest = omega arith
shorter (NextTree w t) rest = rw length-append (omega arith)

-- an item takes a token at least
pub item_shorter : (ts : List Tok) (x : ItemTree × List Tok) → item_at ts ≡ Some x → length x.1 < length ts
item_shorter ts x e = let p = item_sound ts x e in rw p.spelled (shorter x.0 x.1)
