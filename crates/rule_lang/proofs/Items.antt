-- The loop over the items.
use Rattle.std.proofs.Common.{◌≡◌, ℕ, ◌+◌, ◌-◌, ◌≤◌, ◌<◌, List, [], ◌∷◌, ◌++◌, Some, sym, ap, ◌∙◌, arith, length, drop, length-append, length-drop}
use Rattle.std.proofs.lemmas.List.{length-map, drop-map, drop-drop, drop_all}
use Rattle.std.proofs.Math.Seq.{drop-append_seam}
use Rattle.rule_lang.specs.declared.stuck.Stuck.{Stuck}
use Rattle.rule_lang.specs.declared.stuck.Stuck.TheVariants.{Token, Memory}
use Rattle.rule_lang.specs.declared.token.Lexeme.{Lexeme}
use Rattle.rule_lang.specs.Tokens.{Tok}
use Rattle.rule_lang.specs.Tree.{ItemTree, HasTree, spell_item}
use Rattle.rule_lang.specs.View.{toks_of, tok_of}
use Rattle.rule_lang.specs.Causes.{Fails, NoProgramOf}
use Rattle.rule_lang.specs.Reading.{item_at}
use Rattle.rule_lang.proofs.ItemTrees.{item_sound}
use Rattle.rule_lang.proofs.Leads.{Leads, leads_step, leads_end, leads_stuck, item_shorter}

pub stuck_gives : (e : Stuck) (all : List Tok) (items : List ItemTree) (rest : List Tok) → Leads all items rest → 0 < length rest → Fails e (item_at rest) → NoProgramOf all e
stuck_gives Memory all items rest l h f = tt
stuck_gives (Token left expected) all items [] l h f = absurd (omega arith)
stuck_gives (Token left expected) all items (t ∷ rest) l h f = λ js j. leads_stuck all items t rest l f js j

-- at a place
pub shorter_at : (all after : List Lexeme) (at : ℕ) (i : ItemTree) → item_at (toks_of (drop at all)) ≡ Some (i, toks_of after) → length after + at < length all
shorter_at all after at i e =
    let h : length (toks_of after) < length (toks_of (drop at all)) = item_shorter _ (i, toks_of after) e in
    let k : length after < length all - at = simp (length-map, length-drop) at h in omega arith

pub behind : {A : Type 0} (whole front rest : List A) (at : ℕ) → drop at whole ≡ front ++ rest → at ≤ length whole → drop (length whole - length rest) whole ≡ rest
behind whole front rest at e h =
    let n : length whole - at ≡ length front + length rest = simp (length-drop, length-append) at (ap length e) in
    let m : length whole - length rest ≡ at + length front = omega arith in
    rw (m, ← drop-drop, e) (drop-append_seam front rest)

pub rest_at : (all after : List Lexeme) (at : ℕ) (i : ItemTree) → at ≤ length all → item_at (toks_of (drop at all)) ≡ Some (i, toks_of after) → toks_of (drop (length all - length after) all) ≡ toks_of after
rest_at all after at i h e =
    let p = item_sound _ (i, toks_of after) e in
    let d : drop at (toks_of all) ≡ spell_item i ++ toks_of after = drop-map (λ l. tok_of l.token) at all ∙ p.spelled in
    let b : drop (length (toks_of all) - length (toks_of after)) (toks_of all) ≡ toks_of after = behind (toks_of all) (spell_item i) (toks_of after) at d (simp length-map h) in
    sym (drop-map (λ l. tok_of l.token) (length all - length after) all) ∙ (simp length-map at b)

pub step_at : (all after : List Lexeme) (at : ℕ) (items : List ItemTree) (i : ItemTree) → at ≤ length all → Leads (toks_of all) items (toks_of (drop at all)) → item_at (toks_of (drop at all)) ≡ Some (i, toks_of after) → Leads (toks_of all) (items ++ i ∷ []) (toks_of (drop (length all - length after) all))
step_at all after at items i h l e = rw (rest_at all after at i h e) (leads_step _ items _ (toks_of after) i l e)

pub end_at : (all : List Lexeme) (at : ℕ) (items : List ItemTree) → length all ≤ at → Leads (toks_of all) items (toks_of (drop at all)) → HasTree (toks_of all) items
end_at all at items h l = leads_end (toks_of all) items (rw (drop_all at all h) at l)

pub some_left : (all : List Lexeme) (at : ℕ) → at < length all → 0 < length (toks_of (drop at all))
some_left all at h = rw (length-map, length-drop) (omega arith)
