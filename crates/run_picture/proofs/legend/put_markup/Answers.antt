use Rattle.std.proofs.Common.{◌≡◌, ◌∙◌, ◌++◌, ◌<◌, ◌+◌, ℕ, List, ap, append-nil, append_assoc, arith, drop, get_or, length, sym}
use Rattle.std.proofs.lemmas.Grind.{common_steps}
use Rattle.std.proofs.lemmas.Iterator.{YieldsList-from_chars}
use Rattle.std.proofs.lemmas.Iterator.Consumers.{YieldsList-turn, YieldsList-end}
use Rattle.std.proofs.lemmas.List.{at_drop_more, at_drop_all, length_push}
use Rattle.std.specs.List.{flat_map}
use Rattle.std.specs.Str.{chars}
use Rattle.run_picture.specs.Sheets.{markup_char}
use Rattle.run_picture.proofs.legend.put_markup.Goals as goal

markup_more : (cs : List ℕ) (n c : ℕ) → (n < length cs) × (c ≡ get_or cs n c) → flat_map markup_char (drop n cs) ≡ markup_char c ++ flat_map markup_char (drop (n + 1) cs)
markup_more cs n c h = at_drop_more (flat_map markup_char) cs n c h.0 ∙ ap (λ (x : ℕ). markup_char x ++ flat_map markup_char (drop (n + 1) cs)) (sym h.1)

pub loop-character-preserved : goal.loop-character-preserved
loop-character-preserved c =
    let t = YieldsList-turn (YieldsList-from_chars c.args.name.now c.utf8.name cc) c.loop-character.yielded _ c.loop-character.yielded_by _ _ c.in-Some.character c.in-Some.is c.next.ensures.steps in
    let more = markup_more _ _ _ t in
    let n = length_push c.loop-character.yielded c.in-Some.character in
    grind (arith, common_steps, more, n, append_assoc)

pub returns : goal.returns
returns c =
    let t = YieldsList-end (YieldsList-from_chars c.args.name.now c.utf8.name cc) c.loop-character.yielded _ c.loop-character.yielded_by _ _ c.in-None.is c.next.ensures.steps in
    let rest = at_drop_all (flat_map markup_char) (chars c.args.name.now) (length c.loop-character.yielded) (omega (arith, t.1)) in
    grind (arith, common_steps, rest, append-nil)
