-- Items of one name, found by the map of the names seen so far to their items.
use Rattle.std.proofs.Common.{◌≡◌, ℕ, ◌+◌, ◌<◌, ◌≤◌, List, [], ◌∷◌, ◌++◌, zero, suc, length, Option, Some, None, is_some, IfSome, slice_get, take, drop, refl, sym, ap, ◌∙◌, subst, arith, cond, map, filter_map, option_and_then, add-one, BTreeMap, Bor, nat_cmp, bytes_eq}
use Rattle.std.specs.Prelude.{Bool, true, false, ◌||◌}
use Rattle.std.specs.List.{list_any, cons_option}
use Rattle.std.specs.BTreeMap.{get_by}
use Rattle.std.specs.Cmp.Lexicographic.{slice_cmp}
use Rattle.std.proofs.Math.Seq.{append_snoc}
use Rattle.std.proofs.lemmas.List.{append-nil, drop_all, take-append-drop}
use Rattle.std.proofs.lemmas.List.Elements.{filter_map-append}
use Rattle.std.proofs.lemmas.Slice.Eq.{bytes_eq-Decides}
use Rattle.rule_lang.specs.Tree.{ItemTree, FieldTree, NextTree}
use Rattle.rule_check.specs.Value.{names_of}
use Rattle.rule_check.specs.WellFormed.{has_twice}
use Rattle.rule_check.specs.Items.{nexts_of, rules_of}
use Rattle.rule_check.specs.Causes.{declared_name, assigned_name, name_at, IsRepeat}
use Rattle.rule_check.proofs.Searches.{drop_at_place}
use Rattle.rule_check.proofs.Twice.{seen_none, seen_more}

-- the item of a name that was seen
abbrev pub seen_at : BTreeMap (Bor (List ℕ)) ℕ → List ℕ → Option ℕ
seen_at seen q = get_by (λ k. slice_cmp nat_cmp q k.now) seen

-- a name was seen
abbrev pub was_seen : BTreeMap (Bor (List ℕ)) ℕ → List ℕ → Bool
was_seen seen q = is_some (seen_at seen q)

-- the names of the items before this one
abbrev pub names_before : (ItemTree → Option (List ℕ)) → List ItemTree → ℕ → List (List ℕ)
names_before naming items k = filter_map naming (take k items)

-- the names of the items from this one on
abbrev pub names_from : (ItemTree → Option (List ℕ)) → List ItemTree → ℕ → List (List ℕ)
names_from naming items k = filter_map naming (drop k items)

-- one of these names was seen, or comes twice
abbrev pub comes_again : BTreeMap (Bor (List ℕ)) ℕ → List (List ℕ) → Bool
comes_again seen names = list_any (was_seen seen) names || has_twice names

-- the item before this one that a name was seen at
abbrev pub IsBefore : (ItemTree → Option (List ℕ)) → List ItemTree → ℕ → List ℕ → ℕ → Type 0
IsBefore naming items k q earlier = (earlier < k) × (name_at naming items earlier ≡ Some q)

-- whatever names follow, one of them was seen or comes twice just where one comes twice in the names before this item and them
pub record Seen (naming : ItemTree → Option (List ℕ)) (items : List ItemTree) (k : ℕ) (seen : BTreeMap (Bor (List ℕ)) ℕ) : Type 0 where
  pub left : (more : List (List ℕ)) → comes_again seen more ≡ has_twice (names_before naming items k ++ more)
  pub earlier : (q : List ℕ) → IfSome (seen_at seen q) (IsBefore naming items k q)

-- the names before an item and from it on are those of all
all_names : (naming : ItemTree → Option (List ℕ)) (items : List ItemTree) (k : ℕ) → names_before naming items k ++ names_from naming items k ≡ filter_map naming items
all_names naming items k = sym (filter_map-append naming (take k items) (drop k items)) ∙ ap (filter_map naming) (take-append-drop k items)

-- one item more
taken_at : (items : List ItemTree) (k : ℕ) (item : ItemTree) → slice_get items k ≡ Some item → take (suc k) items ≡ take k items ++ (item ∷ [])
taken_at [] k item e = absurd (cc)
taken_at (other ∷ items) zero item e = let same : other ≡ item = cc in ap (λ i. i ∷ []) same
taken_at (other ∷ items) (suc k) item e = ap (λ rest. other ∷ rest) (taken_at items k item e)

names_with : (naming : ItemTree → Option (List ℕ)) (items : List ItemTree) (k : ℕ) (item : ItemTree) → slice_get items k ≡ Some item → names_before naming items (k + 1) ≡ names_before naming items k ++ cons_option (naming item) []
names_with naming items k item e =
    ap (λ n. names_before naming items n) (add-one k)
    ∙ ap (filter_map naming) (taken_at items k item e)
    ∙ filter_map-append naming (take k items) (item ∷ [])

if_none : (P : ℕ → Type 0) (o : Option ℕ) → o ≡ None → IfSome o P
if_none P None e = tt
if_none P (Some x) e = absurd (cc)

if_more : (P Q : ℕ → Type 0) (o : Option ℕ) → ((x : ℕ) → P x → Q x) → IfSome o P → IfSome o Q
if_more P Q None more h = tt
if_more P Q (Some x) more h = more x h

if_either : (P : ℕ → Type 0) (b : Bool) (k : ℕ) (o : Option ℕ) → (b ≡ true → P k) → IfSome o P → IfSome (cond b (Some k) o) P
if_either P true k o here there = here refl
if_either P false k o here there = there

some_either : (b : Bool) (k : ℕ) (o : Option ℕ) → is_some (cond b (Some k) o) ≡ (b || is_some o)
some_either true k o = refl
some_either false k o = refl

-- no value is none
pub none_of : {X : Type 0} (o : Option X) → ((x : X) → o ≡ Some x → ⊥) → o ≡ None
none_of None never = refl
none_of (Some x) never = absurd (never x refl)

-- at first none was seen
pub seen_first : (naming : ItemTree → Option (List ℕ)) (items : List ItemTree) (seen : BTreeMap (Bor (List ℕ)) ℕ) → ((q : List ℕ) → seen_at seen q ≡ None) → Seen naming items 0 seen
seen_first naming items seen none = record {
  left = λ more. seen_none (was_seen seen) more (λ q. ap is_some (none q));
  earlier = λ q. if_none (IsBefore naming items 0 q) (seen_at seen q) (none q);
}

-- an item of the other kind changes nothing
pub seen_skip : (naming : ItemTree → Option (List ℕ)) (items : List ItemTree) (k : ℕ) (seen : BTreeMap (Bor (List ℕ)) ℕ) (item : ItemTree) → slice_get items k ≡ Some item → naming item ≡ None → Seen naming items k seen → Seen naming items (k + 1) seen
seen_skip naming items k seen item at unnamed h =
    let before = names_before naming items k in
    let same : names_before naming items (k + 1) ≡ before =
    names_with naming items k item at ∙ ap (λ o. before ++ cons_option o []) unnamed ∙ append-nil before in
    record {
      left = λ more. h.left more ∙ ap (λ names. has_twice (names ++ more)) (sym same);
      earlier = λ q. if_more (IsBefore naming items k q) (IsBefore naming items (k + 1) q) (seen_at seen q) (λ x before. let less : x < k = before.0 in (omega arith, before.1)) (h.earlier q);
    }

-- the names that are left begin with that of this item
named_here : (naming : ItemTree → Option (List ℕ)) (items : List ItemTree) (k : ℕ) (item : ItemTree) (name : List ℕ) → slice_get items k ≡ Some item → naming item ≡ Some name → names_from naming items k ≡ name ∷ names_from naming items (k + 1)
named_here naming items k item name at named =
    ap (filter_map naming) (drop_at_place items k item at) ∙ ap (λ o. cons_option o (names_from naming items (k + 1))) named

-- the names before the next item end with that of this one
name_added : (naming : ItemTree → Option (List ℕ)) (items : List ItemTree) (k : ℕ) (item : ItemTree) (name : List ℕ) (more : List (List ℕ)) → slice_get items k ≡ Some item → naming item ≡ Some name → names_before naming items (k + 1) ++ more ≡ names_before naming items k ++ (name ∷ more)
name_added naming items k item name more at named =
    ap (λ names. names ++ more) (names_with naming items k item at ∙ ap (λ o. names_before naming items k ++ cons_option o []) named)
    ∙ append_snoc (names_before naming items k) name more

-- the name of the item at its place
name_here : (naming : ItemTree → Option (List ℕ)) (items : List ItemTree) (k : ℕ) (item : ItemTree) (name : List ℕ) → slice_get items k ≡ Some item → naming item ≡ Some name → name_at naming items k ≡ Some name
name_here naming items k item name at named = ap (option_and_then naming) at ∙ named

-- one more name is seen, with its item
pub seen_next : (naming : ItemTree → Option (List ℕ)) (items : List ItemTree) (k : ℕ) (before after : BTreeMap (Bor (List ℕ)) ℕ) (item : ItemTree) (name : List ℕ) → slice_get items k ≡ Some item → naming item ≡ Some name → seen_at before name ≡ None → ((q : List ℕ) → seen_at after q ≡ cond (bytes_eq name q) (Some k) (seen_at before q)) → Seen naming items k before → Seen naming items (k + 1) after
seen_next naming items k before after item name at named new put h =
    let here : name_at naming items k ≡ Some name = name_here naming items k item name at named in
    record {
      left = λ more.
          seen_more (was_seen before) (was_seen after) name more (λ q. ap is_some (put q) ∙ some_either (bytes_eq name q) k (seen_at before q)) (ap is_some new)
          ∙ h.left (name ∷ more)
          ∙ ap has_twice (sym (name_added naming items k item name more at named));
      earlier = λ q.
          subst (λ o. IfSome o (IsBefore naming items (k + 1) q)) (sym (put q))
          (if_either (IsBefore naming items (k + 1) q) (bytes_eq name q) k (seen_at before q)
          (λ e. (omega arith, here ∙ ap (λ n. Some n) ((bytes_eq-Decides name q).0 e)))
          (if_more (IsBefore naming items k q) (IsBefore naming items (k + 1) q) (seen_at before q) (λ x was. let less : x < k = was.0 in (omega arith, was.1)) (h.earlier q)));
    }

-- an item has the name of an earlier one
pub record Again (naming : ItemTree → Option (List ℕ)) (items : List ItemTree) (k earlier : ℕ) : Type 0 where
  pub twice : has_twice (filter_map naming items) ≡ true
  pub repeat : IsRepeat naming items k earlier

pub seen_again : (naming : ItemTree → Option (List ℕ)) (items : List ItemTree) (k : ℕ) (seen : BTreeMap (Bor (List ℕ)) ℕ) (item : ItemTree) (name : List ℕ) (earlier : ℕ) → slice_get items k ≡ Some item → naming item ≡ Some name → seen_at seen name ≡ Some earlier → Seen naming items k seen → Again naming items k earlier
seen_again naming items k seen item name earlier at named old h =
    let here : name_at naming items k ≡ Some name = name_here naming items k item name at named in
    let rest = names_from naming items (k + 1) in
    let was : IsBefore naming items k name earlier = subst (λ o. IfSome o (IsBefore naming items k name)) old (h.earlier name) in
    record {
      twice =
          ap has_twice (sym (all_names naming items k))
          ∙ sym (h.left (names_from naming items k))
          ∙ ap (comes_again seen) (named_here naming items k item name at named)
          ∙ ap (λ b. (b || list_any (was_seen seen) rest) || has_twice (name ∷ rest)) (ap is_some old);
      repeat = (was.0, ap is_some here, was.1 ∙ sym here, ap has_twice (sym (append-nil (names_before naming items k))) ∙ sym (h.left []));
    }

-- at the end all names differ
pub seen_last : (naming : ItemTree → Option (List ℕ)) (items : List ItemTree) (k : ℕ) (seen : BTreeMap (Bor (List ℕ)) ℕ) → length items ≤ k → Seen naming items k seen → has_twice (filter_map naming items) ≡ false
seen_last naming items k seen past h =
    ap has_twice (sym (all_names naming items k))
    ∙ sym (h.left (names_from naming items k))
    ∙ ap (λ xs. comes_again seen (filter_map naming xs)) (drop_all k items past)

-- the names of the field items, and those of the next items
pub declared_names : (items : List ItemTree) → filter_map declared_name items ≡ names_of (rules_of items)
declared_names [] = refl
declared_names (FieldTree name value ∷ items) = ap (λ names. name ∷ names) (declared_names items)
declared_names (NextTree name body ∷ items) = declared_names items

pub assigned_names : (items : List ItemTree) → filter_map assigned_name items ≡ map (λ n. n.name) (nexts_of items)
assigned_names [] = refl
assigned_names (FieldTree name value ∷ items) = assigned_names items
assigned_names (NextTree name body ∷ items) = ap (λ names. name ∷ names) (assigned_names items)
