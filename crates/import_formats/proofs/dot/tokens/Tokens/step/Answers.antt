use Rattle.std.proofs.Common.{sym, ◌∙◌}
use Rattle.import_formats.specs.dot.Tokens.{tokens_at}
use Rattle.import_formats.specs.dot.View.{tokens_left}
use Rattle.import_formats.proofs.dot.TokenSteps.{gap_passed, token_passed, not_ended, some_bytes}
use Rattle.import_formats.proofs.dot.tokens.Tokens.step.Goals as goal

pub returns-in-Some-clause-tokens : goal.returns-in-Some-clause-tokens
returns-in-Some-clause-tokens c =
    let old = c.args.self.now in
    let cut = c.in-Ok.cut in
    let new = c.pass.new.self in
    not_ended old.ended (tokens_at 0 old.fresh old.line old.bytes.now) c.requires.begun
    ∙ token_passed old.fresh old.line old.bytes.now cut.kind cut.text.now cut.size (tokens_left new) c.in-Some.kind
    (some_bytes old.bytes.now c.is_empty.result c.is_empty.ensures c.if-is_empty.false) c.in-Ok.ensures.size.0 c.in-Ok.ensures.piece c.in-Some.is
    (not_ended new.ended (tokens_at 0 new.fresh new.line new.bytes.now) (c.pass.ensures.ended ∙ c.requires.begun) ∙ c.pass.ensures.tokens)

pub returns-in-None-clause-tokens : goal.returns-in-None-clause-tokens
returns-in-None-clause-tokens c =
    let old = c.args.self.now in
    let cut = c.in-Ok.cut in
    let new = c.pass.new.self in
    gap_passed old.fresh old.line old.bytes.now cut.kind cut.text.now cut.size (tokens_left new)
    (some_bytes old.bytes.now c.is_empty.result c.is_empty.ensures c.if-is_empty.false) c.in-Ok.ensures.size.0 c.in-Ok.ensures.piece c.in-None.is
    (not_ended new.ended (tokens_at 0 new.fresh new.line new.bytes.now) (c.pass.ensures.ended ∙ c.requires.begun) ∙ c.pass.ensures.tokens)
    ∙ sym (not_ended old.ended (tokens_at 0 old.fresh old.line old.bytes.now) c.requires.begun)
