-- Members of objects by their names, and how many fields they give.
use Rattle.std.proofs.Common.{◌≡◌, ◌≢◌, ◌⊎◌, ℕ, zero, suc, ◌+◌, ◌≤◌, Bool, true, false, cond, if◌then◌else◌, List, [], ◌∷◌, slice_get, Option, Some, None, inl, inr, refl, sym, ap, ◌∙◌, subst, arith}
use Rattle.std.specs.List.{count_by}
use Rattle.std.specs.Option.{is_some}
use Rattle.std.specs.Ordering.{is_eq, match_ordering, nat_cmp}
use Rattle.std.specs.declared.cmp.Ordering.{Ordering}
use Rattle.std.specs.declared.cmp.Ordering.TheVariants.{Less, Equal, Greater}
use Rattle.std.specs.Cmp.Lexicographic.{slice_cmp}
use Rattle.std.specs.Str.{bytes_eq}
use Rattle.std.proofs.lemmas.Bool.{cases_Bool}
use Rattle.std.proofs.lemmas.List.Sums.{sum_by-cons}
use Rattle.std.proofs.lemmas.Map.Text.{is_eq-slice_cmp}
use Rattle.std.proofs.lemmas.Slice.Eq.{bytes_eq-Decides}
use Rattle.serde_json.specs.Data.{Data, Members, no_members, member}
use Rattle.serde_json.specs.Find.{get_member}
use Rattle.run_steps.specs.verify.Objects.{members_in}
use Rattle.run_steps.specs.verify.SaidByObjects.{IsMember, AreApart}

-- ---- members by their names

pick : {X : Type 0} (o : Ordering) (b : Bool) (here behind : X) → is_eq o ≡ b → match_ordering o behind here behind ≡ (if b then here else behind)
pick Less true here behind h = absurd (cc)
pick Less false here behind h = refl
pick Equal true here behind h = refl
pick Equal false here behind h = absurd (cc)
pick Greater true here behind h = absurd (cc)
pick Greater false here behind h = refl

module _ (name key : List ℕ) (value : Data) (ms : Members) where
  first-member : get_member name (member key value ms) ≡ (if bytes_eq name key then Some value else get_member name ms)
  first-member = pick (slice_cmp nat_cmp name key) (bytes_eq name key) (Some value) (get_member name ms) (is_eq-slice_cmp name key)

  same-member : name ≡ key → get_member name (member key value ms) ≡ Some value
  same-member same = first-member ∙ ap (λ t. if t then Some value else get_member name ms) ((bytes_eq-Decides name key).1 same)

  other-member : bytes_eq name key ≡ false → get_member name (member key value ms) ≡ get_member name ms
  other-member not = first-member ∙ ap (λ t. if t then Some value else get_member name ms) not

name-is : (name key : List ℕ) → bytes_eq name key ≡ true → name ≡ key
name-is name key h = (bytes_eq-Decides name key).0 h

name-not : (name key : List ℕ) → bytes_eq name key ≡ false → name ≢ key
name-not name key h is = (let yes = (bytes_eq-Decides name key).1 is in let bad : true ≡ false = sym yes ∙ h in cc)

-- what is found is a member
pub found-member : (name : List ℕ) (value : Data) (ms : Members) → get_member name ms ≡ Some value → IsMember name value ms
found-member name value no_members h = cc
found-member name value (member key d ms) h =
    elim (cases_Bool (bytes_eq name key)) [
      | inl is ↦ (
          let same = name-is name key is in
          let both : Some d ≡ Some value = sym (same-member name key d ms same) ∙ h in
          inl (same, cc))
      | inr not ↦ inr (found-member name value ms (sym (other-member name key d ms not) ∙ h))
    ]

-- a member's name is found
pub member-some : (name : List ℕ) (value : Data) (ms : Members) → IsMember name value ms → (other : Data) × (get_member name ms ≡ Some other)
member-some name value no_members h = absurd h
member-some name value (member key d ms) h =
    elim (cases_Bool (bytes_eq name key)) [
      | inl is ↦ (d, same-member name key d ms (name-is name key is))
      | inr not ↦ elim h [
        | inl first ↦ absurd (name-not name key not first.0)
        | inr rest ↦ (let r = member-some name value ms rest in (r.0, other-member name key d ms not ∙ r.1))
      ]
    ]

-- a member is found, where no two have one name
pub member-found : (name : List ℕ) (value : Data) (ms : Members) → AreApart ms → IsMember name value ms → get_member name ms ≡ Some value
member-found name value no_members apart h = absurd h
member-found name value (member key d ms) apart (inl first) = same-member name key d ms first.0 ∙ ap Some (sym first.1)
member-found name value (member key d ms) apart (inr rest) =
    elim (cases_Bool (bytes_eq name key)) [
      | inl is ↦ absurd (apart.0 value (subst (λ n. IsMember n value ms) (name-is name key is) rest))
      | inr not ↦ other-member name key d ms not ∙ member-found name value ms apart.1 rest
    ]

-- ---- how many fields have a member

-- a name has a member
abbrev pub has_member : Members → List ℕ → Bool
has_member ms name = is_some (get_member name ms)

-- how many of these names have one
abbrev pub hits : List (List ℕ) → Members → ℕ
hits names ms = count_by (has_member ms) names

-- no two of these names are one
abbrev pub AreDistinct : List (List ℕ) → Type 0
AreDistinct names = (i j : ℕ) (name : List ℕ) → slice_get names i ≡ Some name → slice_get names j ≡ Some name → i ≡ j

-- the name stands nowhere among these
abbrev Lacks : List (List ℕ) → List ℕ → Type 0
Lacks names name = (i : ℕ) → slice_get names i ≢ Some name

hits-cons : (name : List ℕ) (names : List (List ℕ)) (ms : Members) → hits (name ∷ names) ms ≡ cond (has_member ms name) 1 0 + hits names ms
hits-cons name names ms = sum_by-cons (λ (x : List ℕ). cond (has_member ms x) 1 0) name names

hits-none : (names : List (List ℕ)) → hits names no_members ≡ 0
hits-none [] = refl
hits-none (name ∷ names) = (let c = hits-cons name names no_members in let ih = hits-none names in omega (arith, c))

module _ (key : List ℕ) (value : Data) (ms : Members) where
  -- a name that is not the member's
  other-has : (name : List ℕ) → name ≢ key → has_member (member key value ms) name ≡ has_member ms name
  other-has name other =
      elim (cases_Bool (bytes_eq name key)) [
        | inl is ↦ absurd (other (name-is name key is))
        | inr not ↦ ap is_some (other-member name key value ms not)
      ]

  -- names without the member's
  hits-lacking : (names : List (List ℕ)) → Lacks names key → hits names (member key value ms) ≡ hits names ms
  hits-lacking [] none = refl
  hits-lacking (name ∷ names) none =
      let one = other-has name (λ same. none 0 (ap Some same)) in
      let rest = hits-lacking names (λ i. none (suc i)) in
      hits-cons name names (member key value ms) ∙ ap (λ b. cond b 1 0 + hits names (member key value ms)) one ∙ ap (λ n. cond (has_member ms name) 1 0 + n) rest ∙ sym (hits-cons name names ms)

  -- a name that has a member already
  hits-again : (names : List (List ℕ)) (other : Data) → get_member key ms ≡ Some other → hits names (member key value ms) ≡ hits names ms
  hits-again [] other had = refl
  hits-again (name ∷ names) other had =
      let rest = hits-again names other had in
      let one : has_member (member key value ms) name ≡ has_member ms name =
      elim (cases_Bool (bytes_eq name key)) [
        | inl is ↦ (let same = name-is name key is in ap is_some (same-member name key value ms same) ∙ sym (ap is_some (ap (λ n. get_member n ms) same ∙ had)))
        | inr not ↦ ap is_some (other-member name key value ms not)
      ] in
      hits-cons name names (member key value ms) ∙ ap (λ b. cond b 1 0 + hits names (member key value ms)) one ∙ ap (λ n. cond (has_member ms name) 1 0 + n) rest ∙ sym (hits-cons name names ms)

  -- a name that has none yet
  hits-new : (names : List (List ℕ)) (i : ℕ) → AreDistinct names → slice_get names i ≡ Some key → get_member key ms ≡ None → hits names (member key value ms) ≡ hits names ms + 1
  hits-new [] i apart h free = absurd (cc)
  hits-new (name ∷ names) zero apart h free =
      let same : name ≡ key = cc in
      let rest = hits-lacking names (λ j there. (let e = apart 0 (suc j) key h there in omega arith)) in
      let yes : has_member (member key value ms) name ≡ true = ap is_some (same-member name key value ms same) in
      let no : has_member ms name ≡ false = ap is_some (ap (λ n. get_member n ms) same ∙ free) in
      let a = hits-cons name names (member key value ms) ∙ ap (λ b. cond b 1 0 + hits names (member key value ms)) yes in
      let b = hits-cons name names ms ∙ ap (λ b. cond b 1 0 + hits names ms) no in
      omega (arith, a, b, rest)
  hits-new (name ∷ names) (suc i) apart h free =
      let ih = hits-new names i (λ j k n p q. (let e = apart (suc j) (suc k) n p q in omega arith)) h free in
      let other : name ≢ key = λ same. (let e = apart 0 (suc i) key (ap Some same) h in omega arith) in
      let one = other-has name other in
      let a = hits-cons name names (member key value ms) ∙ ap (λ b. cond b 1 0 + hits names (member key value ms)) one in
      let b = hits-cons name names ms in
      omega (arith, a, b, ih)

-- a name stands among these, or it does not
where-is : (names : List (List ℕ)) (name : List ℕ) → ((i : ℕ) × (slice_get names i ≡ Some name)) ⊎ Lacks names name
where-is [] name = inr (λ i h. cc)
where-is (x ∷ xs) name =
    elim (cases_Bool (bytes_eq x name)) [
      | inl is ↦ inl (0, ap Some (name-is x name is))
      | inr not ↦ elim (where-is xs name) [
        | inl there ↦ inl (suc there.0, there.1)
        | inr none ↦ inr (nowhere (name-not x name not) none)
      ]
    ] where
      nowhere : x ≢ name → Lacks xs name → Lacks (x ∷ xs) name
      nowhere other none zero h = (let same : x ≡ name = cc in other same)
      nowhere other none (suc i) h = none i h

has-or-not : (o : Option Data) → ((d : Data) × (o ≡ Some d)) ⊎ (o ≡ None)
has-or-not None = inr refl
has-or-not (Some d) = inl (d, refl)

module _ (names : List (List ℕ)) (distinct : AreDistinct names) where
  -- no more names have a member than there are members
  hits-few : (ms : Members) → hits names ms ≤ members_in ms
  hits-few no_members = (let e = hits-none names in omega arith)
  hits-few (member key value ms) =
      let ih = hits-few ms in
      elim (has-or-not (get_member key ms)) [
        | inl had ↦ (let e = hits-again key value ms names had.0 had.1 in omega arith)
        | inr free ↦ elim (where-is names key) [
          | inl at ↦ (let e = hits-new key value ms names at.0 distinct at.1 free in omega arith)
          | inr none ↦ (let e = hits-lacking key value ms names none in omega arith)
        ]
      ]

  -- each member is of a name
  abbrev pub AreAllNamed : Members → Type 0
  AreAllNamed ms = (name : List ℕ) (value : Data) → IsMember name value ms → (k : ℕ) × (slice_get names k ≡ Some name)

  -- where as many have one, each member is of a name, and no two of one
  pub hits-all : (ms : Members) → hits names ms ≡ members_in ms → AreApart ms × AreAllNamed ms
  hits-all no_members h = (tt, λ name value is. absurd is)
  hits-all (member key value ms) h =
      let few = hits-few ms in
      elim (has-or-not (get_member key ms)) [
        | inl had ↦ (let e = hits-again key value ms names had.0 had.1 in absurd (omega arith))
        | inr free ↦ elim (where-is names key) [
          | inl at ↦ (
              let e = hits-new key value ms names at.0 distinct at.1 free in
              let ih = hits-all ms (omega arith) in (
                (
                  λ other is. (let some = member-some key other ms is in let found = some.1 in let bad : ◌≡◌ {A = Option Data} None (Some some.0) = sym free ∙ found in cc),
                  ih.0,
                ),
                λ name d is. elim is [
                  | inl first ↦ (at.0, at.1 ∙ ap Some (sym first.0))
                  | inr rest ↦ ih.1 name d rest
                ],
              ))
          | inr none ↦ (let e = hits-lacking key value ms names none in absurd (omega arith))
        ]
      ]

  -- and the other way round
  pub all-hit : (ms : Members) → AreApart ms → AreAllNamed ms → hits names ms ≡ members_in ms
  all-hit no_members apart each = (let e = hits-none names in omega arith)
  all-hit (member key value ms) apart each =
      let at = each key value (inl (refl, refl)) in
      let free : get_member key ms ≡ None =
      elim (has-or-not (get_member key ms)) [
        | inl had ↦ absurd (apart.0 had.0 (found-member key had.0 ms had.1))
        | inr none ↦ none
      ] in
      let e = hits-new key value ms names at.0 distinct at.1 free in
      let ih = all-hit ms apart.1 (λ name d is. each name d (inr is)) in
      omega arith
