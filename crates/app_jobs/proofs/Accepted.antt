-- A program that is accepted is not refused.
use Rattle.std.proofs.Common.{◌≡◌, ℕ, List, Option, Some, None, true, sym, ap, ◌∙◌, subst, arith}
use Rattle.std.specs.Prelude.{◌≢◌, IfSome, is_some}
use Rattle.rule_lang.specs.Tree.{ItemTree}
use Rattle.rule_lang.specs.declared.fault.LangFault.TheVariants as lang
use Rattle.rule_lang.proofs.Once.{one_program}
use Rattle.rule_check.specs.declared.fault.CheckFault.{CheckFault}
use Rattle.rule_check.specs.declared.fault.CheckFault.TheVariants as check
use Rattle.rule_check.specs.WellFormed.{first_fault}
use Rattle.rule_check.specs.Items.{rules_of}
use Rattle.app_jobs.specs.declared.fault.ServeFault.{ServeFault}
use Rattle.app_jobs.specs.declared.fault.ServeFault.TheVariants as fault
use Rattle.app_jobs.specs.Served.{IsAccepted, RefusesProgram}
use Rattle.app_jobs.specs.FirstFault.{is_shown}

not_malformed : (program : List ℕ) (items : List ItemTree) (f : CheckFault) → IsAccepted program items → RefusesProgram program (fault.Check f) → is_shown (fault.Check f) ≡ true → ⊥
not_malformed program items f accepted refused shown =
    let there : f ≢ check.Memory = λ same. let hidden : is_shown (fault.Check check.Memory) ≡ true = subst (λ g. is_shown (fault.Check g) ≡ true) same shown in cc in
    let found = refused there in
    let same : items ≡ found.0 = one_program program items found.0 accepted.has.reads found.1.reads in
    let both : None ≡ Some f = sym accepted.well_formed ∙ ap (λ is. first_fault (rules_of is)) same ∙ found.2 in cc

pub not_refused : (program : List ℕ) (items : List ItemTree) (f : ServeFault) → IsAccepted program items → RefusesProgram program f → is_shown f ≡ true → ⊥
not_refused program items (fault.Lang lang.TooLong) accepted refused shown = omega (arith, accepted.has.short, refused)
not_refused program items (fault.Lang (lang.Lex at)) accepted refused shown = refused.1 accepted.has.reads.tokens accepted.has.reads.words
not_refused program items (fault.Lang (lang.Syntax at)) accepted refused shown = refused.3 items accepted.has.reads
not_refused program items (fault.Lang lang.Memory) accepted refused shown = cc
not_refused program items (fault.Check f) accepted refused shown = not_malformed program items f accepted refused shown
not_refused program items fault.Memory accepted refused shown = cc
not_refused program items f accepted refused shown = absurd refused

-- so where a fault is found that the text shows, it is not accepted
pub none_accepted : (program : List ℕ) (items : List ItemTree) (found : Option ServeFault) → is_some found ≡ true → IfSome found (RefusesProgram program) → IfSome found (λ f. is_shown f ≡ true) → IsAccepted program items → ⊥
none_accepted program items None there refused shown accepted = absurd (cc)
none_accepted program items (Some f) there refused shown accepted = not_refused program items f accepted refused shown
