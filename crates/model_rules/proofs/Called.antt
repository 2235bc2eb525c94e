-- The faults and the terms of one argument and of those after it.
use Rattle.std.proofs.Common.{◌≡◌, ◌+◌, ℕ, List, refl, sym, ap, subst}
use Rattle.std.specs.Prelude.{Bool, true, false, Option, Some, None}
use Rattle.std.specs.Option.{option_or}
use Rattle.rule_lang.specs.declared.tree.Op.{Op}
use Rattle.model_text.specs.Tree.{Tree, ArgumentTree, NoArgument, OneArgument}
use Rattle.model_rules.specs.declared.fault.Cause.TheVariants as cause
use Rattle.model_rules.specs.declared.fault.ExpandFault.{ExpandFault}
use Rattle.model_rules.specs.declared.fault.ExpandFault.TheVariants as fault
use Rattle.model_rules.specs.Terms.{InfixTerm}
use Rattle.model_rules.specs.Frames.{Frame}
use Rattle.model_rules.specs.Operators.{is_end}
use Rattle.model_rules.specs.TermFor.{first_term, joined_term, term_for, terms_for}
use Rattle.model_rules.specs.FirstFaults.{told_at, below_cause, bound_cause, only_fault, few_fault, some_fault, fault_in, faults_in}
use Rattle.model_rules.specs.Parts.{unless_wrong, only_parts, parts_upto, parts_each, parts_in, bounded_fault}
use Rattle.model_rules.proofs.Parts.{told_plain, told_next}

or_none : (x : Option ExpandFault) → option_or x None ≡ x
or_none None = refl
or_none (Some e) = refl

pub only_one : (f : Frame) (later : List (List ℕ)) (inside : Bool) (at : ℕ) (e : Tree) (es : ArgumentTree) → is_end es ≡ true → only_fault at (faults_in f later inside (OneArgument e es)) ≡ fault_in f later inside e
only_one f later inside at e NoArgument h = refl
only_one f later inside at e (OneArgument d es) h = absurd (cc)

pub only_more : (f : Frame) (later : List (List ℕ)) (inside : Bool) (at : ℕ) (e : Tree) (es : ArgumentTree) → is_end es ≡ false → only_fault at (faults_in f later inside (OneArgument e es)) ≡ Some (fault.At cause.WrongArguments at)
only_more f later inside at e NoArgument h = absurd (cc)
only_more f later inside at e (OneArgument d es) h = refl

pub some_last : (f : Frame) (later : List (List ℕ)) (inside : Bool) (at : ℕ) (e : Tree) (es : ArgumentTree) → is_end es ≡ true → some_fault at (faults_in f later inside (OneArgument e es)) ≡ fault_in f later inside e
some_last f later inside at e NoArgument h = or_none (fault_in f later inside e)
some_last f later inside at e (OneArgument d es) h = absurd (cc)

pub some_more : (f : Frame) (later : List (List ℕ)) (inside : Bool) (at : ℕ) (e : Tree) (es : ArgumentTree) → is_end es ≡ false → some_fault at (faults_in f later inside (OneArgument e es)) ≡ option_or (fault_in f later inside e) (some_fault at (faults_in f later inside es))
some_more f later inside at e NoArgument h = absurd (cc)
some_more f later inside at e (OneArgument d es) h = refl

pub joined_last : (f : Frame) (o : Op) (e : Tree) (es : ArgumentTree) → is_end es ≡ true → joined_term o (terms_for f (OneArgument e es)) ≡ term_for f e
joined_last f o e NoArgument h = refl
joined_last f o e (OneArgument d es) h = absurd (cc)

pub joined_more : (f : Frame) (o : Op) (e : Tree) (es : ArgumentTree) → is_end es ≡ false → joined_term o (terms_for f (OneArgument e es)) ≡ InfixTerm o (term_for f e) (joined_term o (terms_for f es))
joined_more f o e NoArgument h = absurd (cc)
joined_more f o e (OneArgument d es) h = refl

pub bound_first : (f : Frame) (later : List (List ℕ)) (inside : Bool) (at : ℕ) (es : ArgumentTree) → only_fault at (faults_in f later inside es) ≡ None
    → option_or (only_fault at (faults_in f later inside es)) (told_at at (bound_cause (terms_for f es))) ≡ told_at at (below_cause (first_term (terms_for f es)))
bound_first f later inside at NoArgument h = absurd (cc)
bound_first f later inside at (OneArgument e es) h = ap (λ (o : Option ExpandFault). option_or o (told_at at (below_cause (term_for f e)))) h

-- more arguments than one where one has to stand
pub more_told : (f : Frame) (later : List (List ℕ)) (inside : Bool) (at : ℕ) (e : Tree) (es : ArgumentTree) (left item : ℕ) (end : ExpandFault) → is_end es ≡ false → end ≡ fault.At cause.WrongArguments at
    → bounded_fault left (only_parts (parts_each f later inside (OneArgument e es))) item (only_fault at (faults_in f later inside (OneArgument e es))) ≡ Some end
more_told f later inside at e NoArgument left item end h q = absurd (cc)
more_told f later inside at e (OneArgument d es) left item end h q = told_plain left item (Some (fault.At cause.WrongArguments at)) end (ap (λ (x : ExpandFault). Some x) (sym q))

-- what is told of the arguments after the first of several
pub rest_told : (f : Frame) (later : List (List ℕ)) (inside : Bool) (at : ℕ) (e : Tree) (es : ArgumentTree) (left now item was : ℕ) (end : ExpandFault) → is_end es ≡ false → fault_in f later inside e ≡ None → now + parts_in f later inside e ≡ left → was ≡ item
    → bounded_fault now (parts_upto (faults_in f later inside es) (parts_each f later inside es)) was (some_fault at (faults_in f later inside es)) ≡ Some end
    → bounded_fault left (parts_in f later inside e + unless_wrong (fault_in f later inside e) (parts_upto (faults_in f later inside es) (parts_each f later inside es))) item (some_fault at (faults_in f later inside (OneArgument e es))) ≡ Some end
rest_told f later inside at e es left now item was end h n t q r =
    let more = parts_upto (faults_in f later inside es) (parts_each f later inside es) in
    subst (λ (o : Option ExpandFault). bounded_fault left (parts_in f later inside e + unless_wrong (fault_in f later inside e) more) item o ≡ Some end) (sym (some_more f later inside at e es h))
    (told_next left now (parts_in f later inside e) more item was (fault_in f later inside e) (some_fault at (faults_in f later inside es)) end n t q r)

-- one argument where one may stand
pub few_only : (f : Frame) (later : List (List ℕ)) (inside : Bool) (at : ℕ) (es : ArgumentTree) (e : Tree) (rest : ArgumentTree) → es ≡ OneArgument e rest → few_fault at (faults_in f later inside es) ≡ only_fault at (faults_in f later inside es)
few_only f later inside at es e rest h = rw h refl
