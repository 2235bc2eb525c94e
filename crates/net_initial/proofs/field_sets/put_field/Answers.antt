use Rattle.std.proofs.Common.{sym, ◌∙◌}
use Rattle.net_initial.proofs.PutSets.{named_before, named_now, defined_before, put_rises}
use Rattle.net_initial.proofs.field_sets.put_field.Goals as goal

pub returns-then-is_named-clause-each : goal.returns-then-is_named-clause-each
returns-then-is_named-clause-each c = λ f.
    let before = rw c.as_str-field.ensures.text at (sym c.is_named.ensures ∙ c.if-is_named.true) in
    c.requires.each f ∙ named_before c.args.nodes c.args.sets.now c.args.openings.now c.args.place c.index-openings-place.result c.requires.low f before

pub returns-then-is_named-clause-defined : goal.returns-then-is_named-clause-defined
returns-then-is_named-clause-defined c =
    let before = rw c.as_str-field.ensures.text at (sym c.is_named.ensures ∙ c.if-is_named.true) in
    defined_before c.args.nodes c.args.sets.now c.args.openings.now c.args.place c.index-openings-place.result c.requires.low c.requires.defined before

pub returns-clause-rising : goal.returns-clause-rising
returns-clause-rising c = rw c.in_ok-put_set.ensures (put_rises c.in_ok-set.set c.args.opened.now.items c.requires.rising)

pub returns-clause-each : goal.returns-clause-each
returns-clause-each c = λ f.
    rw (c.in_ok-put_set.ensures, c.in_ok-set.ensures.set, c.as_str-field.ensures.text)
    (named_now c.args.nodes c.args.sets.now c.args.openings.now c.args.place c.index-openings-place.result c.requires.low c.args.opened.now.items c.requires.each f)
