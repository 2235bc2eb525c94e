use Rattle.rule_lang.specs.View.{items_of as rules_of}
use Rattle.model_text.specs.View.{items_of}
use Rattle.model_rules.specs.Lines.{lines_of}
use Rattle.model_rules.proofs.ProgramTexts.{text_has_program, text_fits}
use Rattle.model_rules.proofs.ProgramRefused.{refused_as}
use Rattle.model_rules.specs.ScopeView.{givens_of}
use Rattle.std.proofs.lemmas.Result.{err_from_is_err_and}
use Rattle.model_rules.proofs.program.expanded.Goals as goal

pub returns-clause-program : goal.returns-clause-program
returns-clause-program c =
    let made = c.in_ok-rules.ensures in
    let next = rw c.deref.ensures.value at made.next in
    let initial = rw c.deref.ensures.value at made.initial in
    let states = rw c.deref.ensures.value at made.states in
    let named = rw c.deref.ensures.value at made.named in
    let faultless = rw c.deref.ensures.value at made.faultless in
    let fields = rw c.deref.ensures.value at made.fields in
    let form = rw c.deref.ensures.value at made.form in
    let read = c.in_ok-items.ensures.read in
    let written = rw (c.deref-2.ensures.value, c.deref-3.ensures.value) at c.in_ok-bytes.ensures.exact in
    let numbers = rw c.deref-3.ensures.value at c.in_ok-bytes.ensures.numbers in
    record {
      items = items_of c.in_ok-items.items.items;
      rules = rules_of c.in_ok-rules.rules.items;
      model = read.1;
      faultless = faultless;
      made = form;
      written = written;
      program = rw written (text_has_program c.args.text.now (items_of c.in_ok-items.items.items) (rules_of c.in_ok-rules.rules.items) read.0 read.1 fields made.fits numbers);
      same = record { fields = fields; next = next; initial = initial; states = states; named = named; accepted = made.fits };
      fits = rw written (text_fits (lines_of c.args.text.now (items_of c.in_ok-items.items.items)) (rules_of c.in_ok-rules.rules.items) made.fits);
    }

pub returns-in_err-rules-clause-refused : goal.returns-in_err-rules-clause-refused
returns-in_err-rules-clause-refused c =
    let p = err_from_is_err_and c.from_residual-in_err-rules.result c.from_residual-in_err-rules.ensures.1 in
    let read = c.in_ok-items.ensures.read in
    let refused = rw c.deref.ensures.value at c.in_err-rules.ensures.refused in
    rw (p.1, p.2) (refused_as c.args.text.now (givens_of c.args.given.now) (items_of c.in_ok-items.items.items) _ read.0 read.1 refused)
