-- What is wrong with an item is what the functions say.
use Rattle.std.proofs.Common.{◌≡◌, ◌<◌, ◌≤◌, inl, inr, ℕ, List, [], ◌∷◌, ◌++◌, refl, sym, ap, ◌∙◌, subst}
use Rattle.std.specs.Prelude.{Bool, true, false, nat_lt, Option, Some, None, if◌then◌else◌, length}
use Rattle.std.specs.Option.{option_or}
use Rattle.rule_lang.specs.Tree.{ItemTree as RuleTree, depth}
use Rattle.rule_lang.specs.Canonical.{program_text}
use Rattle.rule_check.specs.Items.{nexts_of}
use Rattle.rule_check.specs.Value.{place}
use Rattle.rule_check.specs.WellFormed.{is_among, all_parts}
use Rattle.model_text.specs.Tree.{Tree, NameAt, ItemTree, ConstTree, StatesTree, FieldTree, LetTree, NextTree}
use Rattle.model_rules.specs.declared.fault.Cause.{Cause}
use Rattle.model_rules.specs.declared.fault.Cause.TheVariants as cause
use Rattle.model_rules.specs.declared.fault.ExpandFault.{ExpandFault}
use Rattle.model_rules.specs.declared.fault.ExpandFault.TheVariants as fault
use Rattle.model_rules.specs.Terms.{TermTree, lowered}
use Rattle.model_rules.specs.Constants.{amount_in, is_fixed, part_cause, amount_cause}
use Rattle.model_rules.specs.Frames.{Frame}
use Rattle.model_rules.specs.Models.{GivenTree, bare, given_value, is_state}
use Rattle.model_rules.specs.TermFor.{term_for}
use Rattle.model_rules.specs.Bounds.{form_cause, size_cause}
use Rattle.model_rules.specs.FirstFaults.{told_at}
use Rattle.model_rules.specs.Amounts.{depth_cause, expression_fault, value_fault, body_fault}
use Rattle.model_rules.specs.Definitions.{under, unless_given, member_cause, told_fault}
use Rattle.model_rules.specs.Faults.{name_place, rules_made, state_cause, rule_fault, item_fault, items_fault}
use Rattle.model_rules.specs.Kinds.{IsOut}
use Rattle.model_rules.specs.Faulty.{OrElse, IsExpressionFault, IsNoConstantAs, IsConstantFault, IsValueFault, IsDeepFault, IsBodyFault, IsMemberFault, IsDefinitionFault, IsStateFault, IsFormFault, IsOwnFault, IsTooLargeAs, IsSizeFault, IsRuleFault, IsFirstRuleFault}
use Rattle.model_rules.proofs.KindsTold.{term_decides, bad_some, less_is, not_less_is, is_less, is_not_less}
use Rattle.model_rules.proofs.StepsTold.{expression_told, told_expression}
use Rattle.model_rules.proofs.FirstInOrder.{none_some, same_some, first_at, IsFirstAt, first_found, found_first, first_none}

-- a function finds a fault exactly where a relation holds of it
abbrev pub Gives : Option ExpandFault → (ExpandFault → Type 0) → Type 0
Gives found P = ((e : ExpandFault) → found ≡ Some e → P e) × ((e : ExpandFault) → P e → found ≡ Some e)

pub gives_none : (found : Option ExpandFault) (P : ExpandFault → Type 0) → Gives found P → found ≡ None → (e : ExpandFault) → P e → ⊥
gives_none found P g h e p = none_some (sym h ∙ g.1 e p)

pub none_gives : (found : Option ExpandFault) (P : ExpandFault → Type 0) → Gives found P → ((e : ExpandFault) → P e → ⊥) → found ≡ None
none_gives None P g h = refl
none_gives (Some e) P g h = absurd (h e (g.0 e refl))

pub gives_one : (found : Option ExpandFault) (P : ExpandFault → Type 0) → Gives found P → (one other : ExpandFault) → P one → P other → one ≡ other
gives_one found P g one other p q = same_some (sym (g.1 one p) ∙ g.1 other q)

pub gives_or : (a b : Option ExpandFault) (P Q : ExpandFault → Type 0) → Gives a P → Gives b Q → Gives (option_or a b) (OrElse P Q)
gives_or None b P Q g h = (λ e q. inr (λ o p. none_some (g.1 o p), h.0 e q), λ e w. elim w [ inl p ↦ none_some (g.1 e p) | inr x ↦ h.1 e x.1 ])
gives_or (Some x) b P Q g h = (λ e q. inl (g.0 e q), λ e w. elim w [ inl p ↦ g.1 e p | inr y ↦ absurd (y.0 x (g.0 x refl)) ])

-- a cause at a place
pub gives_cause : (at : ℕ) (found : Option Cause) (P : Cause → Type 0) → ((w : Cause) → found ≡ Some w → P w) → ((w : Cause) → P w → found ≡ Some w) → Gives (told_at at found) (λ e. (why : Cause) × P why × (e ≡ fault.At why at))
gives_cause at None P f g = (λ e h. none_some h, λ e p. none_some (g p.0 p.1))
gives_cause at (Some w) P f g = (λ e h. (w, f w refl, sym (same_some h)), λ e p. ap (told_at at) (g p.0 p.1) ∙ ap (λ (x : ExpandFault). Some x) (sym p.2))

test_case : (at : ℕ) (c : Cause) (B : Type 0) (b : Bool) → (b ≡ true → B) → (B → b ≡ true) → Gives (told_at at (if b then Some c else None)) (λ e. B × (e ≡ fault.At c at))
test_case at c B true f g = (λ e h. (f refl, sym (same_some h)), λ e p. ap (λ (x : ExpandFault). Some x) (sym p.1))
test_case at c B false f g = (λ e h. none_some h, λ e p. absurd (let t : false ≡ true = g p.0 in cc))

untest_case : (at : ℕ) (c : Cause) (B : Type 0) (b : Bool) → (b ≡ false → B) → (B → b ≡ false) → Gives (told_at at (if b then None else Some c)) (λ e. B × (e ≡ fault.At c at))
untest_case at c B false f g = (λ e h. (f refl, sym (same_some h)), λ e p. ap (λ (x : ExpandFault). Some x) (sym p.1))
untest_case at c B true f g = (λ e h. none_some h, λ e p. absurd (let t : true ≡ false = g p.0 in cc))

-- ---- expressions

expression_gives : (frame : Frame) (later : List (List ℕ)) (tree : Tree) (at : ℕ) → Gives (expression_fault frame later tree at) (IsExpressionFault frame later tree at)
expression_gives frame later tree at = (λ e h. expression_told frame later tree at (Some e) h, λ e h. told_expression frame later tree at (Some e) h)

amount_case : (t : TermTree) (b : Bool) (w : Cause) → is_fixed t ≡ b → (if b then part_cause t else Some cause.NotConstant) ≡ Some w → IsNoConstantAs t w
amount_case t true w f h =
    elim (term_decides t f) [
      | inl x ↦ subst (λ (c : Cause). IsNoConstantAs t c) (same_some (sym x.0 ∙ h)) (f, x.1)
      | inr x ↦ none_some (sym x.0 ∙ h)
    ]
amount_case t false w f h = subst (λ (c : Cause). IsNoConstantAs t c) (same_some h) f

amount_back : (t : TermTree) (w : Cause) → IsNoConstantAs t w → amount_cause t ≡ Some w
amount_back t cause.NotConstant h = rw h refl
amount_back t cause.OutOfRange h = ap (λ (b : Bool). if b then part_cause t else Some cause.NotConstant) h.0 ∙ bad_some (part_cause t) (IsOut t) (term_decides t h.0) h.1
amount_back t other h = absurd h

constant_gives : (t : TermTree) (at : ℕ) → Gives (told_at at (amount_cause t)) (IsConstantFault t at)
constant_gives t at = gives_cause at (amount_cause t) (IsNoConstantAs t) (λ w h. amount_case t (is_fixed t) w refl h) (amount_back t)

pub value_gives : (frame : Frame) (later : List (List ℕ)) (tree : Tree) (at : ℕ) → Gives (value_fault frame later tree at) (IsValueFault frame later tree at)
value_gives frame later tree at =
    gives_or (expression_fault frame later tree at) (told_at at (amount_cause (term_for frame tree))) (IsExpressionFault frame later tree at) (IsConstantFault (term_for frame tree) at)
    (expression_gives frame later tree at) (constant_gives (term_for frame tree) at)

deep_gives : (t : TermTree) (at : ℕ) → Gives (told_at at (depth_cause t)) (IsDeepFault t at)
deep_gives t at = test_case at cause.TooDeep (64 < depth (lowered t)) (nat_lt 64 (depth (lowered t))) (less_is 64 (depth (lowered t))) (is_less 64 (depth (lowered t)))

pub body_gives : (frame : Frame) (later : List (List ℕ)) (tree : Tree) (at : ℕ) → Gives (body_fault frame later tree at) (IsBodyFault frame later tree at)
body_gives frame later tree at =
    gives_or (expression_fault frame later tree at) (told_at at (depth_cause (term_for frame tree))) (IsExpressionFault frame later tree at) (IsDeepFault (term_for frame tree) at)
    (expression_gives frame later tree at) (deep_gives (term_for frame tree) at)

-- ---- constants, states and lets

given_gives : (given : Option ℕ) (found : Option ExpandFault) (P : ExpandFault → Type 0) → Gives found P → Gives (unless_given given found) (λ e. (given ≡ None) × P e)
given_gives None found P g = (λ e h. (refl, g.0 e h), λ e p. g.1 e p.1)
given_gives (Some v) found P g = (λ e h. none_some h, λ e p. absurd (let n = p.0 in cc))

member_case : (members : List (List ℕ)) (name : List ℕ) (at : ℕ) (b : Bool) → is_among members name ≡ b → Gives (if b then told_at at (member_cause (place members name)) else None) (IsMemberFault members name at)
member_case members name at true i =
    let g = untest_case at cause.TooManyStates (256 ≤ place members name) (nat_lt (place members name) 256) (not_less_is (place members name) 256) (is_not_less (place members name) 256) in
    (λ e h. (let p = g.0 e h in (i, p.0, p.1)), λ e p. g.1 e (p.1, p.2))
member_case members name at false i = (λ e h. none_some h, λ e p. absurd (let n = p.0 in cc))

pub definition_gives : (values : List GivenTree) (frame : Frame) (later : List (List ℕ)) (name : List ℕ) (item : ItemTree) → Gives (told_fault values frame later name item) (IsDefinitionFault values frame later name item)
definition_gives values frame later name (ConstTree n body) = given_gives (given_value values name) (value_fault (under frame []) later body n.at) (IsValueFault (under frame []) later body n.at) (value_gives (under frame []) later body n.at)
definition_gives values frame later name (StatesTree n members) = member_case (bare members) name n.at (is_among (bare members) name) refl
definition_gives values frame later name (FieldTree n states initial) = (λ e h. none_some h, λ e p. absurd p)
definition_gives values frame later name (LetTree n parameters body) = body_gives (under frame (bare parameters)) later body n.at
definition_gives values frame later name (NextTree n body) = (λ e h. none_some h, λ e p. absurd p)

-- ---- fields and next values

state_gives : (model : List ItemTree) (states : Option NameAt) (v at : ℕ) → Gives (told_at at (state_cause model states v)) (IsStateFault model states v at)
state_gives model states v at = untest_case at cause.NoState (is_state model states v ≡ false) (is_state model states v) (λ h. h) (λ h. h)

form_gives : (fields : List (List ℕ)) (t : TermTree) (at : ℕ) → Gives (told_at at (form_cause fields (lowered t))) (IsFormFault fields t at)
form_gives fields t at = gives_cause at (form_cause fields (lowered t)) (λ w. form_cause fields (lowered t) ≡ Some w) (λ w h. h) (λ w h. h)

own_gives : (model : List ItemTree) (frame : Frame) (later : List (List ℕ)) (item : ItemTree) → Gives (rule_fault model frame later item) (IsOwnFault model frame later item)
own_gives model frame later (ConstTree n body) = (λ e h. none_some h, λ e p. absurd p)
own_gives model frame later (StatesTree n members) = (λ e h. none_some h, λ e p. absurd p)
own_gives model frame later (FieldTree n states initial) =
    let v = amount_in (term_for frame initial) in
    gives_or (value_fault frame later initial n.at) (told_at n.at (state_cause model states v)) (IsValueFault frame later initial n.at) (IsStateFault model states v n.at)
    (value_gives frame later initial n.at) (state_gives model states v n.at)
own_gives model frame later (LetTree n parameters body) = (λ e h. none_some h, λ e p. absurd p)
own_gives model frame later (NextTree n body) =
    let t = term_for frame body in
    gives_or (body_fault frame later body n.at) (told_at n.at (form_cause frame.fields (lowered t))) (IsBodyFault frame later body n.at) (IsFormFault frame.fields t n.at)
    (body_gives frame later body n.at) (form_gives frame.fields t n.at)

size_case : (rules : List RuleTree) (b c : Bool) (w : Cause) → nat_lt 16 (length (all_parts (nexts_of rules))) ≡ b → nat_lt 65536 (length (program_text rules)) ≡ c
    → (if b then Some cause.TooManyAggregates else (if c then Some cause.TooLong else None)) ≡ Some w → IsTooLargeAs rules w
size_case rules true c w f g h = subst (λ (x : Cause). IsTooLargeAs rules x) (same_some h) (less_is 16 (length (all_parts (nexts_of rules))) f)
size_case rules false true w f g h =
    subst (λ (x : Cause). IsTooLargeAs rules x) (same_some h) (not_less_is 16 (length (all_parts (nexts_of rules))) f, less_is 65536 (length (program_text rules)) g)
size_case rules false false w f g h = none_some h

size_back : (rules : List RuleTree) (w : Cause) → IsTooLargeAs rules w → size_cause rules ≡ Some w
size_back rules cause.TooManyAggregates h = rw (is_less 16 (length (all_parts (nexts_of rules))) h) refl
size_back rules cause.TooLong h = rw (is_not_less 16 (length (all_parts (nexts_of rules))) h.0, is_less 65536 (length (program_text rules)) h.1) refl
size_back rules other h = absurd h

size_gives : (rules : List RuleTree) (at : ℕ) → Gives (told_at at (size_cause rules)) (IsSizeFault rules at)
size_gives rules at =
    gives_cause at (size_cause rules) (IsTooLargeAs rules) (λ w h. size_case rules (nat_lt 16 (length (all_parts (nexts_of rules)))) (nat_lt 65536 (length (program_text rules))) w refl refl h) (size_back rules)

pub item_gives : (model : List ItemTree) (frame : Frame) (later : List (List ℕ)) (passed : List ItemTree) (item : ItemTree) → Gives (item_fault model frame later passed item) (IsRuleFault model frame later passed item)
item_gives model frame later passed item =
    let rules = rules_made frame (passed ++ item ∷ []) in
    gives_or (rule_fault model frame later item) (told_at (name_place item) (size_cause rules)) (IsOwnFault model frame later item) (IsSizeFault rules (name_place item))
    (own_gives model frame later item) (size_gives rules (name_place item))

-- ---- all of them, in order

module _ (model : List ItemTree) (frame : Frame) (later : List (List ℕ)) where
  items_are : (passed items : List ItemTree) → items_fault model frame later passed items ≡ first_at ItemTree (item_fault model frame later) passed items
  items_are passed [] = refl
  items_are passed (item ∷ items) = ap (option_or (item_fault model frame later passed item)) (items_are (passed ++ item ∷ []) items)

  rules_first : (e : ExpandFault) → IsFirstAt ItemTree (item_fault model frame later) [] model e → IsFirstRuleFault frame later model e
  rules_first e r =
      record {
        passed = r.ahead;
        item = r.here;
        behind = r.rest;
        cut = r.cut;
        wrong = (item_gives model frame later r.ahead r.here).0 e r.is;
        fine = λ ahead other rest x c w. gives_none (item_fault model frame later ahead other) (IsRuleFault model frame later ahead other) (item_gives model frame later ahead other) (r.none ahead other rest c) x w;
      }

  rules_back : (e : ExpandFault) → IsFirstRuleFault frame later model e → IsFirstAt ItemTree (item_fault model frame later) [] model e
  rules_back e h =
      record {
        ahead = h.passed;
        here = h.item;
        rest = h.behind;
        cut = h.cut;
        is = (item_gives model frame later h.passed h.item).1 e h.wrong;
        none = λ ahead other rest c. none_gives (item_fault model frame later ahead other) (IsRuleFault model frame later ahead other) (item_gives model frame later ahead other) (λ x w. h.fine ahead other rest x c w);
      }

  pub items_give : Gives (items_fault model frame later [] model) (IsFirstRuleFault frame later model)
  items_give = (
    λ e h. rules_first e (first_found ItemTree (item_fault model frame later) [] model e (sym (items_are [] model) ∙ h)),
    λ e h. items_are [] model ∙ found_first ItemTree (item_fault model frame later) [] model e (rules_back e h),
  )

  -- no item has a fault
  pub items_right : items_fault model frame later [] model ≡ None → (passed : List ItemTree) (item : ItemTree) (behind : List ItemTree) (e : ExpandFault) → model ≡ passed ++ item ∷ behind → IsRuleFault model frame later passed item e → ⊥
  items_right h passed item behind e c w =
      gives_none (item_fault model frame later passed item) (IsRuleFault model frame later passed item) (item_gives model frame later passed item)
      (first_none ItemTree (item_fault model frame later) [] model (sym (items_are [] model) ∙ h) passed item behind c) e w
