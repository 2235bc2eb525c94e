-- A text has one token list and one program at most.
use Rattle.std.proofs.Common.{◌≡◌, ℕ, ◌<◌, List, [], ◌∷◌, ◌++◌, true, false, Some, None, refl, sym, ap, subst, ◌∙◌, arith, flat_map}
use Rattle.rule_lang.specs.Tokens.{Tok, is_blank, HasTokens, at_end, after_blank, after_comment, after_token}
use Rattle.rule_lang.specs.Tree.{ItemTree, HasTree, spell_item}
use Rattle.rule_lang.specs.Reading.{item_at}
use Rattle.rule_lang.specs.Program.{HasProgram}
use Rattle.rule_lang.proofs.FirstTokens.{form_some, one_first}
use Rattle.rule_lang.proofs.Lexing.{without_blank, without_comment, begins, token_above, blank_small, empty_list}
use Rattle.rule_lang.proofs.ItemTrees.{item_complete}
use Rattle.rule_lang.proofs.Leads.{first_item}

not_blank : (b : ℕ) → 32 < b → is_blank b ≡ false
not_blank b h = elim (is_blank b) as (λ t. is_blank b ≡ t → t ≡ false) [ true ↦ (λ e. absurd (let k = blank_small b e in omega arith)) | false ↦ (λ e. refl) ] refl

pub one_list : (bytes : List ℕ) (ts : List Tok) → HasTokens bytes ts → (us : List Tok) → HasTokens bytes us → ts ≡ us
one_list _ _ at_end us e = sym (empty_list [] us e refl)
one_list _ _ (after_blank b rest ts k d) us e = one_list rest ts d us (without_blank (b ∷ rest) us e b rest refl k)
one_list _ _ (after_comment bytes l rest ts z d) us e = one_list rest ts d us (without_comment (35 ∷ bytes) us e bytes l rest refl z)
one_list _ _ (after_token bytes rest t ts x f d) us e =
    let n = form_some t x.front x.form in
    let q : bytes ≡ n.0 ∷ (n.1 ++ rest) = x.cut ∙ ap (λ l. l ++ rest) n.2 in
    let a = token_above bytes rest t n.0 (n.1 ++ rest) x q in
    let p = begins bytes us e n.0 (n.1 ++ rest) q (not_blank n.0 a.0) a.1 in
    let o = one_first bytes rest p.rest t p.token x p.longest in
    let r : ts ≡ p.more = one_list rest ts d p.more (subst (λ z. HasTokens z p.more) (sym o.1) p.behind) in
    ap (λ z. z ∷ ts) o.0 ∙ ap (λ z. p.token ∷ z) r ∙ sym p.is

pub one_tree : (is js : List ItemTree) (ts : List Tok) → HasTree ts is → HasTree ts js → is ≡ js
unfolding item_at
one_tree [] [] ts h k = refl
one_tree [] (j ∷ js) ts h k = absurd (let n : item_at ts ≡ Some (j, flat_map spell_item js) = rw k.spelling (item_complete j (flat_map spell_item js) k.each.0) in let m : item_at ts ≡ None = rw h.spelling refl in let c : Some (j, flat_map spell_item js) ≡ None = sym n ∙ m in cc)
one_tree (i ∷ is) js ts h k =
    let n : item_at ts ≡ Some (i, flat_map spell_item is) = rw h.spelling (item_complete i (flat_map spell_item is) h.each.0) in
    let p = first_item ts (flat_map spell_item is) i js n k in
    ap (λ z. i ∷ z) (one_tree is p.0 (flat_map spell_item is) (record { spelling = refl; each = h.each.1 }) p.2) ∙ sym p.1

pub one_program : (text : List ℕ) (is js : List ItemTree) → HasProgram text is → HasProgram text js → is ≡ js
one_program text is js h k = one_tree is js h.tokens h.tree (subst (λ z. HasTree z js) (one_list text k.tokens k.words h.tokens h.words) k.tree)
