-- The program that a model is expanded to is accepted.
use Rattle.std.proofs.Common.{◌≡◌, ◌≤◌, ℕ, length, List, [], ◌∷◌, refl, sym, ap, ◌∙◌, subst, arith}
use Rattle.std.specs.Prelude.{None, false, not, ◌||◌, nat_lt, Option, Some}
use Rattle.std.specs.List.{AllByRecursion, list_any}
use Rattle.std.specs.Option.{option_or, option_map}
use Rattle.std.proofs.lemmas.List.{length-map}
use Rattle.rule_lang.specs.Tree.{ItemTree as RuleTree, FieldTree as FieldRule, NextTree as NextRule, depth}
use Rattle.rule_check.specs.Value.{Rules, names_of}
use Rattle.rule_check.specs.Items.{rules_of, fields_of as rule_fields, nexts_of}
use Rattle.rule_check.specs.WellFormed.{is_among, has_twice, next_names, is_unknown, names_unknown, looks_outside, nests, all_parts, first_fault}
use Rattle.model_text.specs.Tree.{ItemTree, ConstTree, StatesTree, FieldTree, LetTree, NextTree}
use Rattle.model_rules.specs.declared.naming.NameKind.TheVariants as kind
use Rattle.model_rules.specs.declared.fault.ExpandFault.TheVariants.{At, UnknownGiven}
use Rattle.model_rules.specs.declared.fault.Cause.TheVariants as cause
use Rattle.model_rules.specs.Frames.{Frame}
use Rattle.model_rules.specs.Models.{GivenTree, bare, fields_of}
use Rattle.model_rules.specs.Naming.{names_given, names_as, repeat_after, stray, place_at, extra_state, parameter_twice, seed_taken, earlier, name_twice, unknown_given, misnamed, misused, naming_fault}
use Rattle.model_rules.specs.Bounds.{IsFitRule, IsWithin, IsAccepted}
use Rattle.model_rules.specs.Expansions.{Expands}
use Rattle.model_rules.proofs.Expanding.{same_fields}
use Rattle.model_rules.proofs.Differing.{none_first, none_second, none_under, both_false, distinct, none_strays, field_names, fields_differ, none_there}
use Rattle.model_rules.proofs.Values.{neither}

-- the names of the next values are those of the model's
same_targets : (model : List ItemTree) (f : Frame) (items : List ItemTree) (rules : List RuleTree) → Expands model f items rules → next_names (rules_of rules) ≡ bare (names_as kind.Target items)
same_targets model f [] rules e = ap (λ (rs : List RuleTree). next_names (rules_of rs)) e
same_targets model f (ConstTree name body ∷ items) rules e = same_targets model f items rules e
same_targets model f (StatesTree name members ∷ items) rules e = same_targets model f items rules e
same_targets model f (FieldTree name states initial ∷ items) rules e =
    ap (λ (rs : List RuleTree). next_names (rules_of rs)) e.2 ∙ same_targets model f items e.1 e.5
same_targets model f (LetTree name parameters body ∷ items) rules e = same_targets model f items rules e
same_targets model f (NextTree name body ∷ items) rules e =
    ap (λ (rs : List RuleTree). next_names (rules_of rs)) e.2 ∙ ap (λ (ns : List (List ℕ)). name.name ∷ ns) (same_targets model f items e.1 e.4)

-- expressions that are fit have no unknown name
all_known : (names : List (List ℕ)) (rules : List RuleTree) → AllByRecursion (IsFitRule names) rules → list_any (λ x. not (is_among names x)) (next_names (rules_of rules)) ≡ false → list_any (is_unknown names) (nexts_of rules) ≡ false
all_known names [] h g = refl
all_known names (FieldRule name v ∷ rules) h g = all_known names rules h.1 g
all_known names (NextRule name body ∷ rules) h g =
    let e = neither (not (is_among names name)) (list_any (λ x. not (is_among names x)) (next_names (rules_of rules))) g in
    both_false (not (is_among names name) || names_unknown names body) (list_any (is_unknown names) (nexts_of rules))
    (both_false (not (is_among names name)) (names_unknown names body) e.0 h.0.allowed.known)
    (all_known names rules h.1 e.1)

all_inside : (names : List (List ℕ)) (rules : List RuleTree) → AllByRecursion (IsFitRule names) rules → list_any (λ n. looks_outside n.body) (nexts_of rules) ≡ false
all_inside names [] h = refl
all_inside names (FieldRule name v ∷ rules) h = all_inside names rules h.1
all_inside names (NextRule name body ∷ rules) h =
    both_false (looks_outside body) (list_any (λ n. looks_outside n.body) (nexts_of rules)) h.0.allowed.inside (all_inside names rules h.1)

all_flat : (names : List (List ℕ)) (rules : List RuleTree) → AllByRecursion (IsFitRule names) rules → list_any (λ n. nests n.body) (nexts_of rules) ≡ false
all_flat names [] h = refl
all_flat names (FieldRule name v ∷ rules) h = all_flat names rules h.1
all_flat names (NextRule name body ∷ rules) h =
    both_false (nests body) (list_any (λ n. nests n.body) (nexts_of rules)) h.0.allowed.flat (all_flat names rules h.1)

all_shallow : (names : List (List ℕ)) (rules : List RuleTree) → AllByRecursion (IsFitRule names) rules → AllByRecursion (λ n. depth n.body ≤ 64) (nexts_of rules)
all_shallow names [] h = tt
all_shallow names (FieldRule name v ∷ rules) h = all_shallow names rules h.1
all_shallow names (NextRule name body ∷ rules) h = (h.0.shallow, all_shallow names rules h.1)

-- a program of which all this holds has no fault
faultless : (r : Rules) → nat_lt 8 (length r.fields) ≡ false → has_twice (names_of r) ≡ false → has_twice (next_names r) ≡ false → list_any (is_unknown (names_of r)) r.nexts ≡ false → list_any (λ n. looks_outside n.body) r.nexts ≡ false → list_any (λ n. nests n.body) r.nexts ≡ false → nat_lt 16 (length (all_parts r.nexts)) ≡ false → first_fault r ≡ None
faultless r a b c d e f g = rw (a, b, c, d, e, f, g) refl

few_is : (a b : ℕ) → b ≤ a → nat_lt a b ≡ false
few_is a b h = grind arith

-- where neither of two places is, the first is none
none_earlier : (left right : Option ℕ) → earlier left right ≡ None → left ≡ None
none_earlier None right h = refl
none_earlier (Some a) None h = cc
none_earlier (Some a) (Some b) h = cc

-- the names of a model in which nothing is wrong
record Names (items : List ItemTree) : Type 0 where
  few : nat_lt 8 (length (fields_of items)) ≡ false
  fields : has_twice (fields_of items) ≡ false
  targets : has_twice (bare (names_as kind.Target items)) ≡ false
  known : list_any (λ x. not (is_among (fields_of items) x)) (bare (names_as kind.Target items)) ≡ false

well_named : (items : List ItemTree) (given : List GivenTree) → naming_fault items given ≡ None → Names items
well_named items given h =
    let many = option_map (At cause.TooManyFields) (place_at (names_as kind.Field items) 8) in
    let states = option_map (At cause.TooManyStates) (extra_state items) in
    let repeats = repeat_after [] (names_given items) in
    let parameters = parameter_twice (bare (names_given items)) items in
    let twice = option_map (At cause.NameTwice) (name_twice items) in
    let nexts = option_map (At cause.NextTwice) (repeat_after [] (names_as kind.Target items)) in
    let fields = option_map (At cause.NoField) (stray (bare (names_as kind.Field items)) (names_as kind.Target items)) in
    let used = option_map (At cause.UnknownStates) (stray (bare (names_as kind.States items)) (names_as kind.StatesUsed items)) in
    let unknown = option_map UnknownGiven (unknown_given (bare (names_as kind.Constant items)) 0 given) in
    let rest = none_second many (option_or (misnamed items) (option_or (misused (names_as kind.Field items) items) unknown)) h in
    let m = none_first (misnamed items) (option_or (misused (names_as kind.Field items) items) unknown) rest in
    let u = none_first (misused (names_as kind.Field items) items) unknown (none_second (misnamed items) (option_or (misused (names_as kind.Field items) items) unknown) rest) in
    let size : length (names_as kind.Field items) ≡ length (fields_of items) = sym (length-map (names_as kind.Field items) (λ n. n.name)) ∙ ap length (field_names items) in
    record {
      few = few_is 8 (length (fields_of items)) (subst (λ (k : ℕ). k ≤ 8) size (none_there (names_as kind.Field items) 8 (none_under (At cause.TooManyFields) (place_at (names_as kind.Field items) 8) (none_first many (option_or (misnamed items) (option_or (misused (names_as kind.Field items) items) unknown)) h))));
      fields = fields_differ items (distinct (names_given items) (none_earlier repeats parameters (none_earlier (earlier repeats parameters) (seed_taken items) (none_under (At cause.NameTwice) (name_twice items) (none_second states twice m)))));
      targets = distinct (names_as kind.Target items) (none_under (At cause.NextTwice) (repeat_after [] (names_as kind.Target items)) (none_first nexts (option_or fields used) u));
      known =
          subst (λ (ns : List (List ℕ)). list_any (λ x. not (is_among ns x)) (bare (names_as kind.Target items)) ≡ false) (field_names items)
          (none_strays (bare (names_as kind.Field items)) (names_as kind.Target items) (none_under (At cause.NoField) (stray (bare (names_as kind.Field items)) (names_as kind.Target items)) (none_first fields used (none_second nexts (option_or fields used) u))));
    }

-- The program is accepted.
pub accepted : (model : List ItemTree) (f : Frame) (items : List ItemTree) (given : List GivenTree) (rules : List RuleTree) → f.fields ≡ fields_of items → naming_fault items given ≡ None → Expands model f items rules → AllByRecursion (IsFitRule f.fields) rules → IsWithin rules → IsAccepted rules
accepted model f items given rules names none e fit within =
    let n = well_named items given none in
    let same : names_of (rules_of rules) ≡ fields_of items = same_fields model f items rules e in
    let targets : next_names (rules_of rules) ≡ bare (names_as kind.Target items) = same_targets model f items rules e in
    let size : length (fields_of items) ≡ length (rule_fields rules) = ap length (sym same) ∙ length-map (rule_fields rules) (λ d. d.name) in
    let own : f.fields ≡ names_of (rules_of rules) = names ∙ sym same in
    let fits : AllByRecursion (IsFitRule (names_of (rules_of rules))) rules = subst (λ (ns : List (List ℕ)). AllByRecursion (IsFitRule ns) rules) own fit in
    let strays : list_any (λ x. not (is_among (names_of (rules_of rules)) x)) (next_names (rules_of rules)) ≡ false =
    subst (λ (ns : List (List ℕ)). list_any (λ x. not (is_among ns x)) (next_names (rules_of rules)) ≡ false) (sym same)
    (subst (λ (ts : List (List ℕ)). list_any (λ x. not (is_among (fields_of items) x)) ts ≡ false) (sym targets) n.known) in
    record {
      faultless =
          faultless (rules_of rules)
          (subst (λ (k : ℕ). nat_lt 8 k ≡ false) size n.few)
          (subst (λ (ns : List (List ℕ)). has_twice ns ≡ false) (sym same) n.fields)
          (subst (λ (ns : List (List ℕ)). has_twice ns ≡ false) (sym targets) n.targets)
          (all_known (names_of (rules_of rules)) rules fits strays)
          (all_inside (names_of (rules_of rules)) rules fits)
          (all_flat (names_of (rules_of rules)) rules fits)
          (few_is 16 (length (all_parts (nexts_of rules))) within.few_aggregates);
      shallow = all_shallow f.fields rules fit;
      short = within.short;
    }
