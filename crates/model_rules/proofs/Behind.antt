-- The rules and the faults of items, one after the other.
use Rattle.std.proofs.Common.{◌≡◌, ◌≤◌, ℕ, length, List, [], ◌∷◌, ◌++◌, refl, sym, ap, ◌∙◌, subst, arith}
use Rattle.std.specs.Prelude.{Option, Some, None, false, nat_lt}
use Rattle.std.specs.List.{filter_map}
use Rattle.std.specs.Option.{option_or}
use Rattle.std.proofs.lemmas.List.{append-nil, append_assoc}
use Rattle.std.proofs.lemmas.List.Elements.{filter_map-append}
use Rattle.rule_lang.specs.Tree.{ItemTree as RuleTree}
use Rattle.rule_lang.specs.Canonical.{program_text}
use Rattle.rule_check.specs.Items.{nexts_of}
use Rattle.rule_check.specs.WellFormed.{all_parts}
use Rattle.model_text.specs.Tree.{ItemTree}
use Rattle.model_rules.specs.declared.fault.ExpandFault.{ExpandFault}
use Rattle.model_rules.specs.Frames.{Frame}
use Rattle.model_rules.specs.Bounds.{IsWithin, size_cause}
use Rattle.model_rules.specs.FirstFaults.{IsFirst, told_at}
use Rattle.model_rules.specs.Faults.{name_place, rule_for, rule_fault, rules_made, item_fault, items_fault}

-- the rules with that of one item more
one_rule : (f : Frame) (item : ItemTree) (rule : RuleTree) → rule_for f item ≡ Some rule → filter_map (rule_for f) (item ∷ []) ≡ rule ∷ []
one_rule f item rule h = rw h refl

no_rule : (f : Frame) (item : ItemTree) → rule_for f item ≡ None → filter_map (rule_for f) (item ∷ []) ≡ []
no_rule f item h = rw h refl

pub made_more : (f : Frame) (before : List ItemTree) (rules : List RuleTree) (item : ItemTree) (rule : RuleTree) → rules ≡ rules_made f before → rule_for f item ≡ Some rule → rules ++ rule ∷ [] ≡ rules_made f (before ++ item ∷ [])
made_more f before rules item rule e h =
    ap (λ (rs : List RuleTree). rs ++ rule ∷ []) e
    ∙ (ap (λ (rs : List RuleTree). rules_made f before ++ rs) (sym (one_rule f item rule h)) ∙ sym (filter_map-append (rule_for f) before (item ∷ [])))

pub made_same : (f : Frame) (before : List ItemTree) (rules : List RuleTree) (item : ItemTree) → rules ≡ rules_made f before → rule_for f item ≡ None → rules ≡ rules_made f (before ++ item ∷ [])
made_same f before rules item e h =
    e ∙ (sym (append-nil (rules_made f before)) ∙ (ap (λ (rs : List RuleTree). rules_made f before ++ rs) (sym (no_rule f item h)) ∙ sym (filter_map-append (rule_for f) before (item ∷ []))))

-- rules within the bounds are not too large
few_is : (a b : ℕ) → b ≤ a → nat_lt a b ≡ false
few_is a b h = grind arith

pub within_size : (rules : List RuleTree) → IsWithin rules → size_cause rules ≡ None
within_size rules h =
    let a : nat_lt 16 (length (all_parts (nexts_of rules))) ≡ false = few_is 16 _ h.few_aggregates in
    let b : nat_lt 65536 (length (program_text rules)) ≡ false = few_is 65536 _ h.short in
    rw (a, b) refl

-- the fault of an item, by that of its rule and by how much there is with it
pub item_none : (model : List ItemTree) (f : Frame) (later : List (List ℕ)) (before : List ItemTree) (item : ItemTree) (rules : List RuleTree) → rules ≡ rules_made f (before ++ item ∷ []) → rule_fault model f later item ≡ None → size_cause rules ≡ None → item_fault model f later before item ≡ None
item_none model f later before item rules e h s =
    ap (λ (o : Option ExpandFault). option_or o (told_at (name_place item) (size_cause (rules_made f (before ++ item ∷ []))))) h
    ∙ ap (told_at (name_place item)) (subst (λ (rs : List RuleTree). size_cause rs ≡ None) e s)

pub item_large : (model : List ItemTree) (f : Frame) (later : List (List ℕ)) (before : List ItemTree) (item : ItemTree) (rules : List RuleTree) (end : ExpandFault) → rules ≡ rules_made f (before ++ item ∷ []) → rule_fault model f later item ≡ None → told_at (name_place item) (size_cause rules) ≡ Some end → item_fault model f later before item ≡ Some end
item_large model f later before item rules end e h s =
    ap (λ (o : Option ExpandFault). option_or o (told_at (name_place item) (size_cause (rules_made f (before ++ item ∷ []))))) h
    ∙ subst (λ (rs : List RuleTree). told_at (name_place item) (size_cause rs) ≡ Some end) e s

pub item_wrong : (model : List ItemTree) (f : Frame) (later : List (List ℕ)) (before : List ItemTree) (item : ItemTree) (end : ExpandFault) → rule_fault model f later item ≡ Some end → item_fault model f later before item ≡ Some end
item_wrong model f later before item end h =
    ap (λ (o : Option ExpandFault). option_or o (told_at (name_place item) (size_cause (rules_made f (before ++ item ∷ []))))) h

-- the first fault of items is one of the first of them, or else one of the others
or_assoc : (a b c : Option ExpandFault) → option_or a (option_or b c) ≡ option_or (option_or a b) c
or_assoc None b c = refl
or_assoc (Some x) b c = refl

pub faults_both : (model : List ItemTree) (f : Frame) (later : List (List ℕ)) (before xs ys : List ItemTree) → items_fault model f later before (xs ++ ys) ≡ option_or (items_fault model f later before xs) (items_fault model f later (before ++ xs) ys)
faults_both model f later before [] ys = ap (λ (b : List ItemTree). items_fault model f later b ys) (sym (append-nil before))
faults_both model f later before (x ∷ xs) ys =
    let own = item_fault model f later before x in
    let rest = items_fault model f later (before ++ x ∷ []) xs in
    ap (option_or own) (faults_both model f later (before ++ x ∷ []) xs ys)
    ∙ (ap (λ (b : List ItemTree). option_or own (option_or rest (items_fault model f later b ys))) (append_assoc before (x ∷ []) xs)
    ∙ or_assoc own rest (items_fault model f later (before ++ (x ∷ xs)) ys))

-- no fault in one item more
or_none : (a b : Option ExpandFault) → a ≡ None → b ≡ None → option_or a b ≡ None
or_none a b h g = ap (λ (o : Option ExpandFault). option_or o b) h ∙ g

pub faults_more : (model : List ItemTree) (f : Frame) (later : List (List ℕ)) (before : List ItemTree) (item : ItemTree) → items_fault model f later [] before ≡ None → item_fault model f later before item ≡ None → items_fault model f later [] (before ++ item ∷ []) ≡ None
faults_more model f later before item h g =
    faults_both model f later [] before (item ∷ [])
    ∙ or_none (items_fault model f later [] before) (items_fault model f later before (item ∷ [])) h
    (or_none (item_fault model f later before item) None g refl)

-- the first item that has a fault
some_first : (a b : Option ExpandFault) (end : ExpandFault) → a ≡ Some end → option_or a b ≡ Some end
some_first a b end h = ap (λ (o : Option ExpandFault). option_or o b) h

pub first_here : (model : List ItemTree) (f : Frame) (later : List (List ℕ)) (items before : List ItemTree) (item : ItemTree) (behind : List ItemTree) (end : ExpandFault) → items ≡ before ++ item ∷ behind → items_fault model f later [] before ≡ None → IsFirst (item_fault model f later before item) end → IsFirst (items_fault model f later [] items) end
first_here model f later items before item behind end e h r = λ m.
    ap (λ (its : List ItemTree). items_fault model f later [] its) e
    ∙ (faults_both model f later [] before (item ∷ behind)
    ∙ (ap (λ (o : Option ExpandFault). option_or o (items_fault model f later before (item ∷ behind))) h
    ∙ some_first (item_fault model f later before item) (items_fault model f later (before ++ item ∷ []) behind) end (r m)))
