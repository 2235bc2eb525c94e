-- The first test that finds a cause finds the first fault.
use Rattle.std.proofs.Common.{◌≡◌, ℕ, ◌<◌, Option, Some, None, is_some, option_map, refl, sym, ap, ◌∙◌, IsSomeAnd, subst}
use Rattle.std.specs.Prelude.{Bool, true, false, not, ◌||◌, List, if◌then◌else◌, IfSome, nat_lt}
use Rattle.std.proofs.lemmas.Bool.{lt-ltb}
use Rattle.rule_lang.specs.Tree.{Tree, ItemTree, FieldTree, NextTree}
use Rattle.rule_check.specs.declared.cause.CheckCause.{CheckCause}
use Rattle.rule_check.specs.declared.fault.CheckFault.{CheckFault}
use Rattle.rule_check.specs.WellFormed.{is_among, names_unknown, is_unknown}
use Rattle.rule_check.specs.Causes.{fault_of, is_next, IsNextWith, first_foreign}
use Rattle.rule_check.specs.Searches.{foreign_of}
use Rattle.rule_check.proofs.Searches.{some_foreign}

-- a test that finds a cause finds the first fault of those after it
pub told : (test : Bool) (fault : CheckFault) (cause : Option CheckCause) (x : CheckCause) (rest : Option CheckFault) → option_map fault_of cause ≡ (if test then Some fault else None) → cause ≡ Some x → Some (fault_of x) ≡ (if test then Some fault else rest)
told true fault cause x rest e some = sym (ap (option_map fault_of) some) ∙ e
told false fault cause x rest e some = let no : Some (fault_of x) ≡ None = sym (ap (option_map fault_of) some) ∙ e in cc

-- a test that finds none leaves it to those after it
pub passed : (test : Bool) (fault : CheckFault) (cause : Option CheckCause) (found rest : Option CheckFault) → option_map fault_of cause ≡ (if test then Some fault else None) → cause ≡ None → found ≡ rest → found ≡ (if test then Some fault else rest)
passed true fault cause found rest e none next = let no : None ≡ Some fault = sym (ap (option_map fault_of) none) ∙ e in cc
passed false fault cause found rest e none next = next

-- there are no more than the test allows
pub few : (n : ℕ) (fault : CheckFault) (cause : Option CheckCause) → option_map fault_of cause ≡ (if nat_lt 8 n then Some fault else None) → cause ≡ None → 8 < n → ⊥
few n fault cause e none h =
    let no : None ≡ (if nat_lt 8 n then Some fault else None) = sym (ap (option_map fault_of) none) ∙ e in
    let more : nat_lt 8 n ≡ true = lt-ltb 8 n h in
    let some : None ≡ Some fault = no ∙ ap (λ t. if t then Some fault else None) more in cc

-- what is found has what each that is found has
pub at_some : {X : Type 0} (P : X → Type 0) (o : Option X) (x : X) → IfSome o P → o ≡ Some x → P x
at_some P None x h e = cc
at_some P (Some y) x h e = let same : y ≡ x = cc in subst P same h

-- a search that finds an item, and one that finds none
pub holds : {X : Type 0} (test : Bool) (fault : CheckFault) (place : Option X) (k : X) → is_some place ≡ test → place ≡ Some k → Some fault ≡ (if test then Some fault else None)
holds true fault place k e some = refl
holds false fault place k e some = let no : true ≡ false = sym (ap is_some some) ∙ e in cc

pub fails : {X : Type 0} (test : Bool) (fault : CheckFault) (place : Option X) → is_some place ≡ test → place ≡ None → None ≡ (if test then Some fault else None)
fails true fault place e none = let no : false ≡ true = sym (ap is_some none) ∙ e in cc
fails false fault place e none = refl

-- the item that is found
pub at_found : {X : Type 0} (o : Option X) (x : X) (P Q : X → Type 0) → o ≡ Some x → (P x → Q x) → IsSomeAnd o P → IsSomeAnd o Q
at_found None x P Q e more h = h
at_found (Some y) x P Q e more h = let same : x ≡ y = cc in subst Q same (more (subst P (sym same) h))

or_first : (a b : Bool) → (not a || b) ≡ true → b ≡ false → a ≡ false
or_first true b h e = cc
or_first false b h e = refl

-- where the name of the item itself is known, its expression has an unknown one
target_by : (b : Bool) (names : List (List ℕ)) (body : Tree) → (not b || names_unknown names body) ≡ true → (if b then first_foreign names body else None) ≡ None → b ≡ false
target_by true names body h none = or_first true (names_unknown names body) h (sym (some_foreign names body) ∙ ap is_some none)
target_by false names body h none = refl

-- an item with an unknown name, and none in its expression where its own is known
pub target_unknown : (names : List (List ℕ)) (item : ItemTree) → is_next (is_unknown names) item ≡ true → foreign_of names item ≡ None → IsNextWith (λ n. is_among names n.name ≡ false) item
target_unknown names (FieldTree name value) h none = let no : false ≡ true = h in absurd (cc)
target_unknown names (NextTree name body) h none = target_by (is_among names name) names body h none

name_by : (b : Bool) (o : Option (List ℕ)) (name : List ℕ) → (if b then o else None) ≡ Some name → o ≡ Some name
name_by true o name e = e
name_by false o name e = cc

-- and one with an unknown name in its expression
pub name_unknown : (names : List (List ℕ)) (item : ItemTree) (name : List ℕ) → foreign_of names item ≡ Some name → IsNextWith (λ n. first_foreign names n.body ≡ Some name) item
name_unknown names (FieldTree own value) name e = absurd (cc)
name_unknown names (NextTree own body) name e = name_by (is_among names own) (first_foreign names body) name e
