-- The next state of a model's expansion is the model's.
use Rattle.std.proofs.Common.{◌≡◌, ◌≤◌, ℕ, List, [], ◌∷◌, length, refl, sym, ap, ◌∙◌, subst}
use Rattle.std.specs.Prelude.{map, Option, Some, None, if◌then◌else◌, Bool, true, false, ◌&&◌}
use Rattle.std.specs.List.{AllByRecursion}
use Rattle.std.specs.Str.{bytes_eq}
use Rattle.std.specs.Option.{option_or, option_map_or}
use Rattle.std.proofs.lemmas.List.{length-map}
use Rattle.rule_lang.specs.Tree.{Tree, ItemTree as RuleTree}
use Rattle.rule_check.specs.declared.state.State.{State}
use Rattle.rule_check.specs.declared.state.Near.{Near}
use Rattle.rule_check.specs.Value.{Here, value, alone, names_of, body_for, next_word, next_at, next_state, here_at, updated, cleared}
use Rattle.rule_check.specs.Items.{rules_of, fields_of as rule_fields, nexts_of}
use Rattle.model_text.specs.Tree.{Tree as ModelTree, ItemTree, ConstTree, StatesTree, FieldTree, LetTree, NextTree}
use Rattle.model_rules.specs.Terms.{lowered}
use Rattle.model_rules.specs.Meaning.{Worths}
use Rattle.model_rules.specs.Frames.{Frame, IsIn, IsWorth}
use Rattle.model_rules.specs.Models.{Setting, draws_of, fields_of, body_of, in_states, initials_of, scene_of, worth_at, worths_by, next_word_of, node_at, model_next}
use Rattle.model_rules.specs.Expansions.{Expands, AreStable}
use Rattle.model_rules.proofs.Values.{lowered_value}

-- the fields of the rules are those of the model
pub same_fields : (model : List ItemTree) (f : Frame) (items : List ItemTree) (rules : List RuleTree) → Expands model f items rules → map (λ d. d.name) (rule_fields rules) ≡ fields_of items
same_fields model f [] rules e = ap (λ (rs : List RuleTree). map (λ d. d.name) (rule_fields rs)) e
same_fields model f (ConstTree name body ∷ items) rules e = same_fields model f items rules e
same_fields model f (StatesTree name members ∷ items) rules e = same_fields model f items rules e
same_fields model f (FieldTree name states initial ∷ items) rules e =
    ap (λ (rs : List RuleTree). map (λ d. d.name) (rule_fields rs)) e.2 ∙ ap (λ (ns : List (List ℕ)). name.name ∷ ns) (same_fields model f items e.1 e.5)
same_fields model f (LetTree name parameters body ∷ items) rules e = same_fields model f items rules e
same_fields model f (NextTree name body ∷ items) rules e =
    ap (λ (rs : List RuleTree). map (λ d. d.name) (rule_fields rs)) e.2 ∙ same_fields model f items e.1 e.4

-- two choices are none, or of equal value
abbrev pub Alike : {A B : Type 0} → (A → ℕ) → (B → ℕ) → Option A → Option B → Type 0
Alike f g None None = Unit {0}
Alike f g None (Some b) = ⊥
Alike f g (Some a) None = ⊥
Alike f g (Some a) (Some b) = f a ≡ g b

or_alike : {A B : Type 0} (f : A → ℕ) (g : B → ℕ) (o q : Option A) (p r : Option B) → Alike f g o p → Alike f g q r → Alike f g (option_or o q) (option_or p r)
or_alike f g None q None r h k = k
or_alike f g None q (Some b) r h k = absurd h
or_alike f g (Some a) q None r h k = absurd h
or_alike f g (Some a) q (Some b) r h k = h

if_alike : {A B : Type 0} (f : A → ℕ) (g : B → ℕ) (c : Bool) (a : A) (b : B) → f a ≡ g b → Alike f g (if c then Some a else None) (if c then Some b else None)
if_alike f g true a b h = h
if_alike f g false a b h = tt

word_alike : {A B : Type 0} (f : A → ℕ) (g : B → ℕ) (o : Option A) (p : Option B) (w : ℕ) → Alike f g o p → option_map_or f o w ≡ option_map_or g p w
word_alike f g None None w h = refl
word_alike f g None (Some b) w h = absurd h
word_alike f g (Some a) None w h = absurd h
word_alike f g (Some a) (Some b) w h = h

-- the value of an expression of the rules, and of one of the model, at a node
abbrev pub rule_worth : Here → Tree → ℕ
rule_worth here body = value here body (alone here.id here.own)

abbrev pub model_worth : List ℕ → Worths → Here → ModelTree → ℕ
model_worth draws worths here body = worth_at draws worths [] [] body here

-- the expression of the rules for a field is worth what that of the model is
pub same_body : (model : List ItemTree) (f : Frame) (draws : List ℕ) (worths : Worths) (here : Here) (items : List ItemTree) (rules : List RuleTree) (field : List ℕ) → IsIn f (scene_of draws worths [] [] here) → Expands model f items rules → Alike (rule_worth here) (model_worth draws worths here) (body_for (nexts_of rules) field) (body_of items field)
same_body model f draws worths here [] rules field i e =
    subst (λ (rs : List RuleTree). Alike (rule_worth here) (model_worth draws worths here) (body_for (nexts_of rs) field) None) (sym e) tt
same_body model f draws worths here (ConstTree name body ∷ items) rules field i e = same_body model f draws worths here items rules field i e
same_body model f draws worths here (StatesTree name members ∷ items) rules field i e = same_body model f draws worths here items rules field i e
same_body model f draws worths here (FieldTree name states initial ∷ items) rules field i e =
    subst (λ (rs : List RuleTree). Alike (rule_worth here) (model_worth draws worths here) (body_for (nexts_of rs) field) (body_of items field)) (sym e.2) (same_body model f draws worths here items e.1 field i e.5)
same_body model f draws worths here (LetTree name parameters body ∷ items) rules field i e = same_body model f draws worths here items rules field i e
same_body model f draws worths here (NextTree name body ∷ items) rules field i e =
    let same : rule_worth here (lowered e.0) ≡ model_worth draws worths here body = lowered_value here e.0 (alone here.id here.own) ∙ sym (e.3.same (scene_of draws worths [] [] here) (alone here.id here.own) i) in
    subst (λ (rs : List RuleTree). Alike (rule_worth here) (model_worth draws worths here) (body_for (nexts_of rs) field) (body_of (NextTree name body ∷ items) field)) (sym e.2)
    (or_alike (rule_worth here) (model_worth draws worths here) (body_for (nexts_of e.1) field) (if bytes_eq field name.name then Some (lowered e.0) else None) (body_of items field) (if bytes_eq field name.name then Some body else None)
    (same_body model f draws worths here items e.1 field i e.4)
    (if_alike (rule_worth here) (model_worth draws worths here) (bytes_eq field name.name) (lowered e.0) body same))

-- words changed alike are the same
updated_same : (c d : List ℕ → ℕ → ℕ) (names : List (List ℕ)) (words : List ℕ) → ((n : List ℕ) (w : ℕ) → c n w ≡ d n w) → updated c names words ≡ updated d names words
updated_same c d [] words h = refl
updated_same c d (n ∷ ns) [] h = refl
updated_same c d (n ∷ ns) (w ∷ ws) h = ap (λ v. v ∷ updated c ns ws) (h n w) ∙ ap (λ vs. d n w ∷ vs) (updated_same c d ns ws h)

length_same : (items : List RuleTree) → length (rule_fields items) ≡ length (map (λ d. d.name) (rule_fields items))
length_same items = sym (length-map (rule_fields items) (λ d. d.name))

-- The next state by the rules is that by the model, for worths of the lets that are known.
pub same_next : (model : List ItemTree) (f : Frame) (items : List ItemTree) (rules : List RuleTree) (worths : Worths) → f.fields ≡ fields_of items → f.parameters ≡ [] → f.draws ≡ draws_of items → AllByRecursion (IsWorth worths f.fields) f.lets → Expands model f items rules → (round id : ℕ) (own : State) (nears : List Near) → next_state (rules_of rules) round id own nears ≡ model_next items worths round id own nears
same_next model f items rules worths names none places lets e round id own nears =
    let ns : names_of (rules_of rules) ≡ fields_of items = same_fields model f items rules e in
    let here : Here = node_at items round id own nears in
    let draws : List ℕ = draws_of items in
    let i : IsIn f (scene_of draws worths [] [] here) = record { draws = sym places; parameters = sym none; fields = sym names; lets = lets } in
    let standing : List (List ℕ) → Here = λ xs. record { names = xs; round = round; id = id; degree = length nears; own = own; nears = nears } in
    let holding : List ℕ → State = λ ws. record { words = ws } in
    let there : here_at (rules_of rules) round id (length nears) own nears ≡ here = ap standing ns in
    let size : length (rule_fields rules) ≡ length (fields_of items) = length_same rules ∙ ap length ns in
    ap (next_at (rules_of rules)) there
    ∙ ap holding
    (updated_same (next_word (rules_of rules) here) (next_word_of items worths here) (names_of (rules_of rules)) (cleared (length (rule_fields rules)) own.words)
    (λ n w. word_alike (rule_worth here) (model_worth draws worths here) (body_for (nexts_of rules) n) (body_of items n) w (same_body model f draws worths here items rules n i e))
    ∙ (ap (λ (xs : List (List ℕ)). updated (next_word_of items worths here) xs (cleared (length (rule_fields rules)) own.words)) ns
    ∙ ap (λ k. updated (next_word_of items worths here) (fields_of items) (cleared k own.words)) size))

-- the initial values of the rules are those of the model
same_initials : (model : List ItemTree) (f : Frame) (draws : List ℕ) (worths : Worths) (here : Here) (items : List ItemTree) (rules : List RuleTree) → IsIn f (scene_of draws worths [] [] here) → Expands model f items rules → map (λ d. d.opening) (rule_fields rules) ≡ initials_of items draws worths here
same_initials model f draws worths here [] rules i e = ap (λ (rs : List RuleTree). map (λ d. d.opening) (rule_fields rs)) e
same_initials model f draws worths here (ConstTree name body ∷ items) rules i e = same_initials model f draws worths here items rules i e
same_initials model f draws worths here (StatesTree name members ∷ items) rules i e = same_initials model f draws worths here items rules i e
same_initials model f draws worths here (FieldTree name states initial ∷ items) rules i e =
    ap (λ (rs : List RuleTree). map (λ d. d.opening) (rule_fields rs)) e.2
    ∙ (ap (λ v. v ∷ map (λ d. d.opening) (rule_fields e.1)) (sym (e.3.same (scene_of draws worths [] [] here) (alone here.id here.own) i))
    ∙ ap (λ (vs : List ℕ). worth_at draws worths [] [] initial here ∷ vs) (same_initials model f draws worths here items e.1 i e.5))
same_initials model f draws worths here (LetTree name parameters body ∷ items) rules i e = same_initials model f draws worths here items rules i e
same_initials model f draws worths here (NextTree name body ∷ items) rules i e =
    ap (λ (rs : List RuleTree). map (λ d. d.opening) (rule_fields rs)) e.2 ∙ same_initials model f draws worths here items e.1 i e.4

-- from the depth of the number of the lets on
pub next_by : (model : List ItemTree) (f : Frame) (items : List ItemTree) (given : Setting) (rules : List RuleTree) → f.fields ≡ fields_of items → f.parameters ≡ [] → f.draws ≡ draws_of items → AreStable items given f.fields f.lets → Expands model f items rules
    → (k : ℕ) × ((n : ℕ) → k ≤ n → (round id : ℕ) (own : State) (nears : List Near) → next_state (rules_of rules) round id own nears ≡ model_next items (worths_by items given n) round id own nears)
next_by model f items given rules names none places stable e =
    (length f.lets, λ n b round id own nears. same_next model f items rules (worths_by items given n) names none places (stable.same n b) e round id own nears)

pub initials_by : (model : List ItemTree) (f : Frame) (items : List ItemTree) (given : Setting) (rules : List RuleTree) → f.fields ≡ fields_of items → f.parameters ≡ [] → f.draws ≡ draws_of items → AreStable items given f.fields f.lets → Expands model f items rules
    → (k : ℕ) × ((n : ℕ) → k ≤ n → (here : Here) → here.names ≡ fields_of items → map (λ d. d.opening) (rule_fields rules) ≡ initials_of items (draws_of items) (worths_by items given n) here)
initials_by model f items given rules names none places stable e =
    (length f.lets, λ n b here own. same_initials model f (draws_of items) (worths_by items given n) here items rules (record { draws = sym places; parameters = sym none; fields = own ∙ sym names; lets = stable.same n b }) e)

-- each initial value is one of its field's states
pub all_in_states : (model : List ItemTree) (f : Frame) (items : List ItemTree) (rules : List RuleTree) → Expands model f items rules → in_states model items (map (λ d. d.opening) (rule_fields rules)) ≡ true
all_in_states model f [] rules e = refl
all_in_states model f (ConstTree name body ∷ items) rules e = all_in_states model f items rules e
all_in_states model f (StatesTree name members ∷ items) rules e = all_in_states model f items rules e
all_in_states model f (FieldTree name states initial ∷ items) rules e =
    ap (λ (rs : List RuleTree). in_states model (FieldTree name states initial ∷ items) (map (λ d. d.opening) (rule_fields rs))) e.2
    ∙ (ap (λ (b : Bool). b && in_states model items (map (λ d. d.opening) (rule_fields e.1))) e.4 ∙ all_in_states model f items e.1 e.5)
all_in_states model f (LetTree name parameters body ∷ items) rules e = all_in_states model f items rules e
all_in_states model f (NextTree name body ∷ items) rules e =
    ap (λ (rs : List RuleTree). in_states model (NextTree name body ∷ items) (map (λ d. d.opening) (rule_fields rs))) e.2 ∙ all_in_states model f items e.1 e.4
