use Rattle.std.proofs.Common.{◌≡◌, ◌∙◌, ◌++◌, sym, ap, option_copied}
use Rattle.rule_lang.specs.View.{tree_of}
use Rattle.rule_check.specs.Fields.{field_names}
use Rattle.rule_check.specs.Causes.{names_in, first_foreign}
use Rattle.rule_check.proofs.Searches.{foreign_of_two}
use Rattle.rule_check.proofs.diagnosis.+foreign_name.Goals as goal

pub returns-in-Infix : goal.returns-in-Infix
returns-in-Infix t c =
    let names = field_names c.args.fields.now in
    let a = tree_of c.in-Infix.a.value in
    let b = tree_of c.in-Infix.b.value in
    let of_a : option_copied c.foreign_name.result ≡ first_foreign names a = c.foreign_name.ensures.exact ∙ ap (λ e. first_foreign names (tree_of e)) c.deref.ensures in
    let of_b : option_copied c.foreign_name-in-Infix.result ≡ first_foreign names b = c.foreign_name-in-Infix.ensures.exact ∙ ap (λ e. first_foreign names (tree_of e)) c.deref-in-Infix.ensures in
    record {
      exact =
          foreign_of_two names (names_in a) (names_in b) c.foreign_name.result c.foreign_name-in-Infix.result c.or.result c.or.ensures of_a of_b
          ∙ ap (λ e. first_foreign names (tree_of e)) (sym c.in-Infix.is);
    }

pub returns-in-Choice : goal.returns-in-Choice
returns-in-Choice t c =
    let names = field_names c.args.fields.now in
    let test = tree_of c.in-Choice.a.value in
    let then = tree_of c.in-Choice.b.value in
    let other = tree_of c.in-Choice.c.value in
    let of_test : option_copied c.foreign_name-in-Choice.result ≡ first_foreign names test = c.foreign_name-in-Choice.ensures.exact ∙ ap (λ e. first_foreign names (tree_of e)) c.deref-in-Choice.ensures in
    let of_then : option_copied c.foreign_name-in-Choice-2.result ≡ first_foreign names then = c.foreign_name-in-Choice-2.ensures.exact ∙ ap (λ e. first_foreign names (tree_of e)) c.deref-in-Choice-2.ensures in
    let of_other : option_copied c.foreign_name-in-Choice-3.result ≡ first_foreign names other = c.foreign_name-in-Choice-3.ensures.exact ∙ ap (λ e. first_foreign names (tree_of e)) c.deref-in-Choice-3.ensures in
    record {
      exact =
          foreign_of_two names (names_in test) (names_in then ++ names_in other) c.foreign_name-in-Choice.result c.or-in-Choice.result c.or-in-Choice-2.result c.or-in-Choice-2.ensures of_test
          (foreign_of_two names (names_in then) (names_in other) c.foreign_name-in-Choice-2.result c.foreign_name-in-Choice-3.result c.or-in-Choice.result c.or-in-Choice.ensures of_then of_other)
          ∙ ap (λ e. first_foreign names (tree_of e)) (sym c.in-Choice.is);
    }
