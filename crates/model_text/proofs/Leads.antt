-- The items read so far, and the tokens after them; and that a text is one model at most.
use Rattle.std.proofs.Common.{◌≡◌, ℕ, ◌+◌, ◌-◌, ◌≤◌, ◌<◌, List, [], ◌∷◌, ◌++◌, Option, Some, None, refl, sym, ap, subst, ◌∙◌, arith, append_assoc, append-nil, length, drop, length-drop}
use Rattle.std.proofs.lemmas.List.{length-map, drop-map, drop_all}
use Rattle.rule_lang.proofs.SingleTokens.{same_pair}
use Rattle.rule_lang.proofs.Items.{behind}
use Rattle.model_text.specs.declared.stuck.Stuck.{Stuck}
use Rattle.model_text.specs.declared.stuck.Stuck.TheVariants.{Token, Memory}
use Rattle.model_text.specs.declared.token.Lexeme.{Lexeme}
use Rattle.model_text.specs.Tokens.{Placed}
use Rattle.model_text.specs.Tree.{ItemTree}
use Rattle.model_text.specs.Grammar.{HasTree}
use Rattle.model_text.specs.View.{placed_of, placed_all}
use Rattle.model_text.specs.Causes.{Fails}
use Rattle.model_text.specs.Models.{NoTreeOf}
use Rattle.model_text.specs.Reading.{item_at}
use Rattle.model_text.proofs.ItemsRead.{item_sound, item_complete}
use Rattle.model_text.proofs.Ends.{item_ends}

-- the items so far, and the tokens after them: a tree of the rest is one of the whole, and no other is
pub record Leads (all : List Placed) (items : List ItemTree) (rest : List Placed) : Type 0 where
  pub on : (js : List ItemTree) → HasTree rest js → HasTree all (items ++ js)
  pub only : (js : List ItemTree) → HasTree all js → (ks : List ItemTree) × (js ≡ items ++ ks) × HasTree rest ks

pub leads_start : (all : List Placed) → Leads all [] all
leads_start all = record { on = λ js h. h; only = λ js h. (js, refl, h) }

nothing_at : (ts : List Placed) → ts ≡ [] → item_at ts ≡ None
unfolding item_at
nothing_at ts e = rw e refl

-- what a tree that begins with an item says of the rest
first_item : (rest after : List Placed) (i : ItemTree) (ks : List ItemTree) → item_at rest ≡ Some (i, after) → HasTree rest ks → (ls : List ItemTree) × (ks ≡ i ∷ ls) × HasTree after ls
first_item rest after i [] e h = absurd (let c : Some (i, after) ≡ None = sym e ∙ nothing_at rest h in cc)
first_item rest after i (k ∷ ks) e h =
    let n : item_at rest ≡ Some (k, h.0) = item_complete k rest h.0 h.1 in
    let q = same_pair (sym n ∙ e) in
    (ks, ap (λ x. x ∷ ks) q.0, subst (λ z. HasTree z ks) q.1 h.2)

leads_step : (all : List Placed) (items : List ItemTree) (rest after : List Placed) (i : ItemTree) → Leads all items rest → item_at rest ≡ Some (i, after) → Leads all (items ++ i ∷ []) after
leads_step all items rest after i l e = record {
  on = λ js h. rw append_assoc (l.on (i ∷ js) (after, item_sound rest (i, after) e, h));
  only = λ js h. let p = l.only js h in let q = first_item rest after i p.0 e p.2 in (q.0, p.1 ∙ ap (λ r. items ++ r) q.1 ∙ sym (append_assoc items (i ∷ []) q.0), q.2);
}

leads_end : (all : List Placed) (items : List ItemTree) → Leads all items [] → HasTree all items
leads_end all items l = rw append-nil at (l.on [] refl)

no_item : (o : Option (ItemTree × List Placed)) (x : ItemTree × List Placed) → o ≡ Some x → o ≡ None → ⊥
no_item o x e f = let c : Some x ≡ None = sym e ∙ f in cc

stuck : (t : Placed) (rest : List Placed) (ks : List ItemTree) → item_at (t ∷ rest) ≡ None → HasTree (t ∷ rest) ks → ⊥
stuck t rest [] e h = cc
stuck t rest (k ∷ ks) e h =
    let n : item_at (t ∷ rest) ≡ Some (k, h.0) = item_complete k (t ∷ rest) h.0 h.1 in
    no_item (item_at (t ∷ rest)) (k, h.0) n e

leads_stuck : (all : List Placed) (items : List ItemTree) (t : Placed) (rest : List Placed) → Leads all items (t ∷ rest) → item_at (t ∷ rest) ≡ None → (js : List ItemTree) → HasTree all js → ⊥
leads_stuck all items t rest l e js h = let p = l.only js h in stuck t rest p.0 e p.2

pub stuck_gives : (e : Stuck) (all : List Placed) (items : List ItemTree) (rest : List Placed) → Leads all items rest → 0 < length rest → Fails e (item_at rest) → NoTreeOf all e
stuck_gives Memory all items rest l h f = tt
stuck_gives (Token left expected) all items [] l h f = absurd (omega arith)
stuck_gives (Token left expected) all items (t ∷ rest) l h f = λ js j. leads_stuck all items t rest l f js j

-- two trees of one list of tokens
pub one_tree : (is js : List ItemTree) (ts : List Placed) → HasTree ts is → HasTree ts js → is ≡ js
one_tree [] [] ts h k = refl
one_tree [] (j ∷ js) ts h k = absurd (let n : item_at ts ≡ Some (j, k.0) = item_complete j ts k.0 k.1 in let c : Some (j, k.0) ≡ None = sym n ∙ nothing_at ts h in cc)
one_tree (i ∷ is) js ts h k =
    let n : item_at ts ≡ Some (i, h.0) = item_complete i ts h.0 h.1 in
    let p = first_item ts h.0 i js n k in
    ap (λ z. i ∷ z) (one_tree is p.0 h.0 h.2 p.2) ∙ sym p.1

-- at a place
pub shorter_at : (all after : List Lexeme) (at : ℕ) (i : ItemTree) → item_at (placed_all (drop at all)) ≡ Some (i, placed_all after) → length after + at < length all
shorter_at all after at i e =
    let h : length (placed_all after) < length (placed_all (drop at all)) = (item_ends i _ _ (item_sound _ (i, placed_all after) e)).shorter in
    let k : length after < length all - at = simp (length-map, length-drop) at h in omega arith

rest_at : (all after : List Lexeme) (at : ℕ) (i : ItemTree) → at ≤ length all → item_at (placed_all (drop at all)) ≡ Some (i, placed_all after) → placed_all (drop (length all - length after) all) ≡ placed_all after
rest_at all after at i h e =
    let p = (item_ends i _ _ (item_sound _ (i, placed_all after) e)).ends in
    let d : drop at (placed_all all) ≡ p.front ++ placed_all after = drop-map placed_of at all ∙ p.cut in
    let b : drop (length (placed_all all) - length (placed_all after)) (placed_all all) ≡ placed_all after = behind (placed_all all) p.front (placed_all after) at d (simp length-map h) in
    sym (drop-map placed_of (length all - length after) all) ∙ (simp length-map at b)

pub step_at : (all after : List Lexeme) (at : ℕ) (items : List ItemTree) (i : ItemTree) → at ≤ length all → Leads (placed_all all) items (placed_all (drop at all)) → item_at (placed_all (drop at all)) ≡ Some (i, placed_all after) → Leads (placed_all all) (items ++ i ∷ []) (placed_all (drop (length all - length after) all))
step_at all after at items i h l e = rw (rest_at all after at i h e) (leads_step _ items _ (placed_all after) i l e)

pub end_at : (all : List Lexeme) (at : ℕ) (items : List ItemTree) → length all ≤ at → Leads (placed_all all) items (placed_all (drop at all)) → HasTree (placed_all all) items
end_at all at items h l = leads_end (placed_all all) items (rw (drop_all at all h) at l)

pub some_left : (all : List Lexeme) (at : ℕ) → at < length all → 0 < length (placed_all (drop at all))
some_left all at h = rw (length-map, length-drop) (omega arith)
