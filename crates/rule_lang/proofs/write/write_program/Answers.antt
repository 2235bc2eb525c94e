use Rattle.std.proofs.Common.{◌≡◌, ◌∙◌, ◌+◌, ◌∷◌, drop, sym, ap, append_assoc, arith}
use Rattle.std.proofs.lemmas.Grind.{common_steps}
use Rattle.std.proofs.lemmas.List.{drop_more}
use Rattle.rule_lang.specs.Canonical.{program_text}
use Rattle.rule_lang.proofs.Program.{text_is_program}
use Rattle.rule_lang.proofs.write.write_program.Goals as goal

whole : (c : goal.After-into_bytes) → c.into_bytes.result.items ≡ program_text c.args.source.now
whole c = grind (arith, common_steps)

pub loop-item-preserved : goal.loop-item-preserved
loop-item-preserved c =
    let items = c.items-item-items.result.now in
    let i = c.loop-item.item-index in
    let begins = drop_more items i c.item-item.result c.loop-item-test.true ∙ ap (λ x. x ∷ drop (i + 1) items) (sym c.item-item.is) in
    rw (c.in_ok-put_item.ensures.text, append_assoc) (rw begins at c.loop-item.invariant)

pub returns-clause-text : goal.returns-clause-text
returns-clause-text c = whole c

pub returns-clause-program : goal.returns-clause-program
returns-clause-program c = text_is_program c.into_bytes.result.items c.args.source.now (whole c) c.items-item-items.ensures.whole
