-- Lets that are known stay worth what the items tell.
use Rattle.std.proofs.Common.{◌≡◌, ◌≤◌, ℕ, suc, zero, length, List, [], ◌∷◌, ◌++◌, refl, sym, ap, ◌∙◌, arith, subst}
use Rattle.std.specs.Prelude.{Option, Some, None, Bool, true, false, if◌then◌else◌}
use Rattle.std.proofs.lemmas.List.{length-append}
use Rattle.std.specs.List.{AllByRecursion}
use Rattle.rule_lang.specs.Tree.{ItemTree as RuleTree, FieldTree as FieldRule, NextTree as NextRule}
use Rattle.rule_check.specs.Value.{place, alone, Here}
use Rattle.model_text.specs.Tree.{Tree, NameAt, ItemTree, ConstTree, StatesTree, FieldTree, LetTree, NextTree}
use Rattle.model_rules.specs.Terms.{TermTree, NumberTerm, lowered}
use Rattle.model_rules.specs.Meaning.{Worths}
use Rattle.model_rules.specs.Frames.{Frame, KnownTree, IsWorth, Means}
use Rattle.model_rules.specs.Models.{GivenTree, Setting, names_it, told, told_by, worths_by, given_or, worth_at, bare, scene_of, given_value}
use Rattle.model_rules.specs.Expansions.{Expands, Finds, IsLeftOut, Tells, AreStable, IsRuleOf}

-- what a let is told to be worth
pub let_tells : (fs : List (List ℕ)) (ls : List KnownTree) (given : Setting) (name : List ℕ) (n : NameAt) (ps : List NameAt) (body : Tree) (k : ℕ) (t : TermTree) → Means (record { draws = given.draws; fields = fs; lets = ls; parameters = bare ps }) body t → Tells fs ls given name (LetTree n ps body) (record { name = name; is_let = true; count = k; term = t })
let_tells fs ls given name n ps body k t h =
    record {
      named = refl;
      same = λ worths lets here xs e. h.same (scene_of given.draws worths (bare ps) xs here) (alone here.id here.own) (record { draws = refl; parameters = refl; fields = e; lets = lets });
    }

-- and a constant
pub const_tells : (fs : List (List ℕ)) (ls : List KnownTree) (given : Setting) (name : List ℕ) (n : NameAt) (body : Tree) (v : ℕ) → given_value given.values name ≡ None → Means (record { draws = given.draws; fields = fs; lets = ls; parameters = [] }) body (NumberTerm v) → Tells fs ls given name (ConstTree n body) (record { name = name; is_let = false; count = 0; term = NumberTerm v })
const_tells fs ls given name n body v g h =
    record {
      named = refl;
      same = λ worths lets here xs e.
          ap (λ (o : Option ℕ). given_or o (worth_at given.draws worths [] [] body here)) g ∙ h.same (scene_of given.draws worths [] [] here) (alone here.id here.own) (record { draws = refl; parameters = refl; fields = e; lets = lets });
    }

pub given_tells : (fs : List (List ℕ)) (ls : List KnownTree) (given : Setting) (name : List ℕ) (n : NameAt) (body : Tree) (v : ℕ) → given_value given.values name ≡ Some v → Tells fs ls given name (ConstTree n body) (record { name = name; is_let = false; count = 0; term = NumberTerm v })
given_tells fs ls given name n body v g =
    record { named = refl; same = λ worths lets here xs e. ap (λ (o : Option ℕ). given_or o (worth_at given.draws worths [] [] body here)) g }

-- and a state
pub state_tells : (fs : List (List ℕ)) (ls : List KnownTree) (given : Setting) (name : List ℕ) (n : NameAt) (ms : List NameAt) (v : ℕ) → v ≡ place (bare ms) name → Tells fs ls given name (StatesTree n ms) (record { name = name; is_let = false; count = 0; term = NumberTerm v })
state_tells fs ls given name n ms v e = record { named = refl; same = λ worths lets here xs i. sym e }

-- the first item is found, where it defines the name
pub finds_first : (item : ItemTree) (items : List ItemTree) (name : List ℕ) → names_it item name ≡ true → Finds (item ∷ items) name item
finds_first item items name h =
    record { same = λ given worths here xs. ap (λ (b : Bool). if b then told_by item given worths here name xs else told items given worths here name xs) h }

-- of two lists
pub all_both : (P : KnownTree → Type 0) (xs ys : List KnownTree) → AllByRecursion P xs → AllByRecursion P ys → AllByRecursion P (xs ++ ys)
all_both P [] ys h g = g
all_both P (x ∷ xs) ys h g = (h.0, all_both P xs ys h.1 g)

-- at a depth
stable_at : (items : List ItemTree) (given : Setting) (fs : List (List ℕ)) (ls : List KnownTree) (name : List ℕ) (item : ItemTree) (known : KnownTree) (n : ℕ) → AreStable items given fs ls → Finds items name item → Tells fs ls given name item known → length (ls ++ known ∷ []) ≤ n → AllByRecursion (IsWorth (worths_by items given n) fs) (ls ++ known ∷ [])
stable_at items given fs ls name item known zero h f t b = let e = length-append ls (known ∷ []) in absurd (omega arith)
stable_at items given fs ls name item known (suc m) h f t b =
    let e = length-append ls (known ∷ []) in
    let w : Worths = worths_by items given m in
    let lets : AllByRecursion (IsWorth w fs) ls = h.same m (omega arith) in
    all_both (IsWorth (worths_by items given (suc m)) fs) ls (known ∷ []) (h.same (suc m) (omega arith))
    ((λ here xs i. ap (λ (k : List ℕ). told items given w here k xs) t.named ∙ (f.same given w here xs ∙ t.same w lets here xs i)), tt)

-- one let more
pub stable_more : (items : List ItemTree) (given : Setting) (fs : List (List ℕ)) (ls : List KnownTree) (name : List ℕ) (item : ItemTree) (known : KnownTree) → AreStable items given fs ls → Finds items name item → Tells fs ls given name item known → AreStable items given fs (ls ++ known ∷ [])
stable_more items given fs ls name item known h f t =
    record { same = λ n b. stable_at items given fs ls name item known n h f t b }

pub stable_none : (items : List ItemTree) (given : Setting) (fs : List (List ℕ)) → AreStable items given fs []
stable_none items given fs = record { same = λ n b. tt }

-- no item is left
pub left_out : (items : List ItemTree) (name : List ℕ) → ((given : Setting) (worths : Worths) (here : Here) (xs : List ℕ) → told [] given worths here name xs ≡ told items given worths here name xs) → IsLeftOut items name
left_out items name h = record { same = λ given worths here xs. sym (h given worths here xs) }

-- the seed of a model that does not define it
seed_at : (items : List ItemTree) (given : Setting) (fs : List (List ℕ)) (name : List ℕ) (v n : ℕ) → IsLeftOut items name → given_or (given_value given.values name) 0 ≡ v → 1 ≤ n → AllByRecursion (IsWorth (worths_by items given n) fs) (record { name = name; is_let = false; count = 0; term = NumberTerm v } ∷ [])
seed_at items given fs name v zero h e b = absurd (omega arith)
seed_at items given fs name v (suc m) h e b = ((λ here xs i. h.same given (worths_by items given m) here xs ∙ e), tt)

pub seed_stable : (items : List ItemTree) (values : List GivenTree) (draws : List ℕ) (fs : List (List ℕ)) (name : List ℕ) (ks : List KnownTree) → IsLeftOut items name → ks ≡ record { name = name; is_let = false; count = 0; term = NumberTerm (given_or (given_value values name) 0) } ∷ [] → AreStable items (record { values = values; draws = draws }) fs ks
seed_stable items values draws fs name ks h e =
    let given : Setting = record { values = values; draws = draws } in
    subst (λ (ls : List KnownTree). AreStable items given fs ls) (sym e)
    (record { same = λ n b. seed_at items given fs name (given_or (given_value values name) 0) n h refl b })

-- an item without a rule
pub expands_none : (model : List ItemTree) (f : Frame) (items : List ItemTree) (rules : List RuleTree) (item : ItemTree) → Expands model f items rules → IsRuleOf model f item None → Expands model f (items ++ item ∷ []) rules
expands_none model f [] rules (ConstTree name body) h r = h
expands_none model f [] rules (StatesTree name members) h r = h
expands_none model f [] rules (FieldTree name states initial) h r = cc
expands_none model f [] rules (LetTree name parameters body) h r = h
expands_none model f [] rules (NextTree name body) h r = cc
expands_none model f (ConstTree n b ∷ items) rules item h r = expands_none model f items rules item h r
expands_none model f (StatesTree n ms ∷ items) rules item h r = expands_none model f items rules item h r
expands_none model f (FieldTree n s b ∷ items) rules item h r = (h.0, h.1, h.2, h.3, h.4, expands_none model f items h.1 item h.5 r)
expands_none model f (LetTree n ps b ∷ items) rules item h r = expands_none model f items rules item h r
expands_none model f (NextTree n b ∷ items) rules item h r = (h.0, h.1, h.2, h.3, expands_none model f items h.1 item h.4 r)

-- an item with a rule
pub expands_more : (model : List ItemTree) (f : Frame) (items : List ItemTree) (rules : List RuleTree) (item : ItemTree) (rule : RuleTree) → Expands model f items rules → IsRuleOf model f item (Some rule) → Expands model f (items ++ item ∷ []) (rules ++ rule ∷ [])
expands_more model f [] rules (ConstTree name body) rule h r = cc
expands_more model f [] rules (StatesTree name members) rule h r = cc
expands_more model f [] rules (FieldTree name states initial) rule h r =
    let q : rule ≡ FieldRule name.name r.0 = cc in
    (r.0, [], ap (λ (rs : List RuleTree). rs ++ rule ∷ []) h ∙ ap (λ (x : RuleTree). x ∷ []) q, r.2, r.3, refl)
expands_more model f [] rules (LetTree name parameters body) rule h r = cc
expands_more model f [] rules (NextTree name body) rule h r =
    let q : rule ≡ NextRule name.name (lowered r.0) = cc in
    (r.0, [], ap (λ (rs : List RuleTree). rs ++ rule ∷ []) h ∙ ap (λ (x : RuleTree). x ∷ []) q, r.2, refl)
expands_more model f (ConstTree n b ∷ items) rules item rule h r = expands_more model f items rules item rule h r
expands_more model f (StatesTree n ms ∷ items) rules item rule h r = expands_more model f items rules item rule h r
expands_more model f (FieldTree n s b ∷ items) rules item rule h r =
    (h.0, h.1 ++ rule ∷ [], ap (λ (rs : List RuleTree). rs ++ rule ∷ []) h.2, h.3, h.4, expands_more model f items h.1 item rule h.5 r)
expands_more model f (LetTree n ps b ∷ items) rules item rule h r = expands_more model f items rules item rule h r
expands_more model f (NextTree n b ∷ items) rules item rule h r =
    (h.0, h.1 ++ rule ∷ [], ap (λ (rs : List RuleTree). rs ++ rule ∷ []) h.2, h.3, expands_more model f items h.1 item rule h.4 r)
