use Rattle.std.proofs.Common.{sym, ap, ◌∙◌, arith}
use Rattle.std.specs.Prelude.{Some}
use Rattle.model_rules.specs.declared.fault.ExpandFault.{ExpandFault}
use Rattle.model_rules.specs.FirstFaults.{told_at}
use Rattle.model_rules.proofs.Counting.{counted_more, too_many, too_long, in_size}
use Rattle.model_rules.proofs.expansion.Expansion.add.Goals as goal

pub returns-then-aggregates-gt-MOST_AGGREGATES-clause-refused : goal.returns-then-aggregates-gt-MOST_AGGREGATES-clause-refused
returns-then-aggregates-gt-MOST_AGGREGATES-clause-refused c = λ h m.
    ap (told_at c.args.at)
    (too_many c.args.self.now c.args.rule c.saturating_add-aggregates.result
    (let a = c.saturating_add-aggregates.ensures in let b = c.aggregates_of.ensures.exact in omega arith)
    (let a = c.if-aggregates-gt-MOST_AGGREGATES.true in omega arith)
    h)
    ∙ ap (λ (e : ExpandFault). Some e) (sym c.wrong.ensures.exact)

pub returns-then-bytes-gt-MOST_BYTES-clause-refused : goal.returns-then-bytes-gt-MOST_BYTES-clause-refused
returns-then-bytes-gt-MOST_BYTES-clause-refused c = λ h m.
    ap (told_at c.args.at)
    (too_long c.args.self.now c.args.rule c.saturating_add-aggregates.result c.saturating_add-bytes.result
    (let a = c.saturating_add-aggregates.ensures in let b = c.aggregates_of.ensures.exact in omega arith)
    (let a = c.if-aggregates-gt-MOST_AGGREGATES.false in omega arith)
    (let a = c.saturating_add-bytes.ensures in let b = c.in_ok-item_length.ensures.exact in omega arith)
    (let a = c.if-bytes-gt-MOST_BYTES.true in omega arith)
    h)
    ∙ ap (λ (e : ExpandFault). Some e) (sym c.wrong-then-bytes-gt-MOST_BYTES.ensures.exact)

pub returns-clause-faultless : goal.returns-clause-faultless
returns-clause-faultless c = λ h.
    in_size c.args.self.now c.args.rule c.saturating_add-aggregates.result c.saturating_add-bytes.result
    (let a = c.saturating_add-aggregates.ensures in let b = c.aggregates_of.ensures.exact in omega arith)
    (let a = c.if-aggregates-gt-MOST_AGGREGATES.false in omega arith)
    (let a = c.saturating_add-bytes.ensures in let b = c.in_ok-item_length.ensures.exact in omega arith)
    (let a = c.if-bytes-gt-MOST_BYTES.false in omega arith)
    h

pub returns-clause-counted : goal.returns-clause-counted
returns-clause-counted c = λ h.
    counted_more c.args.self.now (record { rules = c.push.new.self; aggregates = c.saturating_add-aggregates.result; bytes = c.saturating_add-bytes.result }) c.args.rule
    c.in_ok-push.ensures.items
    (let a = c.saturating_add-aggregates.ensures in let b = c.aggregates_of.ensures.exact in omega arith)
    (let a = c.if-aggregates-gt-MOST_AGGREGATES.false in omega arith)
    (let a = c.saturating_add-bytes.ensures in let b = c.in_ok-item_length.ensures.exact in omega arith)
    (let a = c.if-bytes-gt-MOST_BYTES.false in omega arith)
    h
