use Rattle.std.proofs.Common.{◌≡◌, length}
use Rattle.std.specs.Str.{IsUtf8}
use Rattle.rule_check.specs.Value.{names_of}
use Rattle.run_steps.specs.script.Words.{words_in}
use Rattle.run_steps.specs.verify.Fields.{none_gathered, with_words}
use Rattle.run_steps.proofs.verify.fields.values_in.Given as goal

abbrev pub invariant-loop-word : goal.invariant-loop-word
invariant-loop-word l =
    record {
      utf8 : IsUtf8 l.rest;
      said : with_words (names_of l.program) l.line l.gathered (words_in l.rest) ≡ with_words (names_of l.program) l.line none_gathered (words_in l.text);
    }

abbrev pub decreases-loop-word : goal.decreases-loop-word
decreases-loop-word l = length (words_in l.rest)
