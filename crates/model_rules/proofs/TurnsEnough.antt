-- As many turns as there are names are enough: after them nothing more becomes known.
use Rattle.std.proofs.Common.{◌≡◌, ◌<◌, ◌≤◌, ◌⊎◌, inl, inr, ℕ, zero, suc, ◌+◌, List, [], ◌∷◌, ◌++◌, length, refl, sym, ap, ◌∙◌, subst, arith}
use Rattle.std.specs.Prelude.{Bool, true, false, nat_lt, Option, Some, None, if◌then◌else◌}
use Rattle.std.specs.Option.{option_to_list}
use Rattle.std.specs.Str.{bytes_eq}
use Rattle.std.proofs.lemmas.List.{append-nil, length-append}
use Rattle.std.proofs.lemmas.Slice.Eq.{bytes_eq-Decides}
use Rattle.model_text.specs.Tree.{ItemTree, ConstTree, StatesTree, FieldTree, LetTree, NextTree}
use Rattle.rule_check.specs.WellFormed.{is_among}
use Rattle.model_rules.specs.declared.fault.ExpandFault.{ExpandFault}
use Rattle.model_rules.specs.Frames.{Frame, KnownTree}
use Rattle.model_rules.specs.Models.{GivenTree, bare}
use Rattle.model_rules.specs.Refusals.{let_for}
use Rattle.model_rules.specs.Definitions.{names_defined, definition_of, fault_of, fault_by, unless_known, with_name, frame_in, told_known, known_along, known_after, becomes, seed_first}
use Rattle.model_rules.specs.Courses.{BecomesKnown, TurnsAreEnough}
use Rattle.model_rules.proofs.KindsTold.{less_is, not_less_is}
use Rattle.model_rules.proofs.FirstInOrder.{none_some, same_some, behind_one}
use Rattle.model_rules.proofs.LooksTold.{becomes_told, course, course_same}

-- ---- what is known stays known

kept_case : (b : Bool) (k : KnownTree) (lets more : List KnownTree) (name : List ℕ) (known : KnownTree) → (let_for lets name ≡ Some known → let_for (lets ++ more) name ≡ Some known) → (if b then Some k else let_for lets name) ≡ Some known
    → (if b then Some k else let_for (lets ++ more) name) ≡ Some known
kept_case true k lets more name known rest h = h
kept_case false k lets more name known rest h = rest h

pub kept : (lets more : List KnownTree) (name : List ℕ) (known : KnownTree) → let_for lets name ≡ Some known → let_for (lets ++ more) name ≡ Some known
kept [] more name known h = none_some h
kept (k ∷ lets) more name known h = kept_case (bytes_eq k.name name) k lets more name known (kept lets more name known) h

end_case : (b : Bool) (j k : KnownTree) (lets : List KnownTree) → ((x : KnownTree) × (let_for (lets ++ k ∷ []) k.name ≡ Some x)) → (x : KnownTree) × ((if b then Some j else let_for (lets ++ k ∷ []) k.name) ≡ Some x)
end_case true j k lets rest = (j, refl)
end_case false j k lets rest = rest

pub end_known : (lets : List KnownTree) (k : KnownTree) → (x : KnownTree) × (let_for (lets ++ k ∷ []) k.name ≡ Some x)
end_known [] k = (k, ap (λ (b : Bool). if b then Some k else None) ((bytes_eq-Decides k.name k.name).1 refl))
end_known (j ∷ lets) k = end_case (bytes_eq j.name k.name) j k lets (end_known lets k)

-- ---- how many names are not known

abbrev one_if : Option KnownTree → ℕ
one_if None = 1
one_if (Some k) = 0

abbrev unknowns : List KnownTree → List (List ℕ) → ℕ
unknowns lets [] = 0
unknowns lets (n ∷ names) = one_if (let_for lets n) + unknowns lets names

one_most : (o : Option KnownTree) → one_if o ≤ 1
one_most None = omega arith
one_most (Some k) = omega arith

unknowns_most : (lets : List KnownTree) (names : List (List ℕ)) → unknowns lets names ≤ length names
unknowns_most lets [] = omega arith
unknowns_most lets (n ∷ names) =
    let a = one_most (let_for lets n) in
    let b = unknowns_most lets names in
    omega arith

one_fewer : (o p : Option KnownTree) → ((k : KnownTree) → o ≡ Some k → p ≡ Some k) → one_if p ≤ one_if o
one_fewer None p h = one_most p
one_fewer (Some k) p h = let e : one_if p ≡ 0 = ap one_if (h k refl) in omega arith

fewer : (lets more : List KnownTree) (names : List (List ℕ)) → unknowns (lets ++ more) names ≤ unknowns lets names
fewer lets more [] = omega arith
fewer lets more (n ∷ names) =
    let a = one_fewer (let_for lets n) (let_for (lets ++ more) n) (λ k h. kept lets more n k h) in
    let b = fewer lets more names in
    omega arith

less : (lets : List KnownTree) (known : KnownTree) (ahead rest : List (List ℕ)) → let_for lets known.name ≡ None → unknowns (lets ++ known ∷ []) (ahead ++ known.name ∷ rest) + 1 ≤ unknowns lets (ahead ++ known.name ∷ rest)
less lets known [] rest h =
    let x = end_known lets known in
    let a : one_if (let_for (lets ++ known ∷ []) known.name) ≡ 0 = ap one_if x.1 in
    let b : one_if (let_for lets known.name) ≡ 1 = ap one_if h in
    let c = fewer lets (known ∷ []) rest in
    omega arith
less lets known (n ∷ ahead) rest h =
    let a = one_fewer (let_for lets n) (let_for (lets ++ known ∷ []) n) (λ k e. kept lets (known ∷ []) n k e) in
    let b = less lets known ahead rest h in
    omega arith

-- where none is unknown, each is known
none_here : (o : Option KnownTree) (n : ℕ) → one_if o + n ≡ 0 → (k : KnownTree) × (o ≡ Some k)
none_here None n h = absurd (omega arith)
none_here (Some k) n h = (k, refl)

none_unknown : (lets : List KnownTree) (ahead : List (List ℕ)) (name : List ℕ) (rest : List (List ℕ)) → unknowns lets (ahead ++ name ∷ rest) ≡ 0 → (k : KnownTree) × (let_for lets name ≡ Some k)
none_unknown lets [] name rest h = none_here (let_for lets name) (unknowns lets rest) h
none_unknown lets (n ∷ ahead) name rest h = none_unknown lets ahead name rest (omega arith)

-- ---- a name that becomes known is known by its name

member_named : (b : Bool) (k known : KnownTree) → (if b then Some k else None) ≡ Some known → k ≡ known
member_named true k known h = same_some h
member_named false k known h = none_some h

pub named : (values : List GivenTree) (frame : Frame) (name : List ℕ) (item : ItemTree) (known : KnownTree) → told_known values frame name item ≡ Some known → name ≡ known.name
named values frame name (ConstTree n body) known h = ap (λ (k : KnownTree). k.name) (same_some h)
named values frame name (StatesTree n members) known h = ap (λ (k : KnownTree). k.name) (member_named (is_among (bare members) name) _ known h)
named values frame name (FieldTree n states initial) known h = none_some h
named values frame name (LetTree n parameters body) known h = ap (λ (k : KnownTree). k.name) (same_some h)
named values frame name (NextTree n body) known h = none_some h

module _ (items : List ItemTree) (values : List GivenTree) where
  pub along_kept : (names : List (List ℕ)) (lets : List KnownTree) (name : List ℕ) (known : KnownTree) → let_for lets name ≡ Some known → let_for (known_along items values lets names) name ≡ Some known
  along_kept [] lets name known h = h
  along_kept (n ∷ names) lets name known h =
      along_kept names (with_name items values lets n) name known (kept lets (option_to_list (becomes items values lets n)) name known h)

  -- ---- a turn leaves all as it is, or fewer names that are not known

  abbrev IsLess : List (List ℕ) → List KnownTree → List KnownTree → Type 0
  IsLess all lets next = (next ≡ lets) ⊎ (unknowns next all + 1 ≤ unknowns lets all)

  less_here : (lets : List KnownTree) (name : List ℕ) (known : KnownTree) (all front names : List (List ℕ)) → BecomesKnown items values lets name known → all ≡ front ++ name ∷ names → unknowns (lets ++ known ∷ []) all + 1 ≤ unknowns lets all
  less_here lets name known all front names b cut =
      let e = named values (frame_in items lets []) name b.item known b.worth in
      let unknown : let_for lets known.name ≡ None = subst (λ (n : List ℕ). let_for lets n ≡ None) e b.unknown in
      let there : all ≡ front ++ known.name ∷ names = subst (λ (n : List ℕ). all ≡ front ++ n ∷ names) e cut in
      subst (λ (ns : List (List ℕ)). unknowns (lets ++ known ∷ []) ns + 1 ≤ unknowns lets ns) (sym there) (less lets known front names unknown)

  along_case : (lets : List KnownTree) (name : List ℕ) (all front names : List (List ℕ)) (o : Option KnownTree) → becomes items values lets name ≡ o → all ≡ front ++ name ∷ names
      → ((start : List KnownTree) → IsLess all start (known_along items values start names)) → IsLess all lets (known_along items values (lets ++ option_to_list o) names)
  along_case lets name all front names None h cut rest =
      subst (λ (start : List KnownTree). IsLess all lets (known_along items values start names)) (sym (append-nil lets)) (rest lets)
  along_case lets name all front names (Some known) h cut rest =
      let here = less_here lets name known all front names (becomes_told items values lets name known h) cut in
      elim (rest (lets ++ known ∷ [])) [
        | inl same ↦ inr (subst (λ (ks : List KnownTree). unknowns ks all + 1 ≤ unknowns lets all) (sym same) here)
        | inr more ↦ inr (omega arith)
      ]

  along : (names front all : List (List ℕ)) → all ≡ front ++ names → (lets : List KnownTree) → IsLess all lets (known_along items values lets names)
  along [] front all cut lets = inl refl
  along (n ∷ names) front all cut lets =
      along_case lets n all front names (becomes items values lets n) refl cut (along names (front ++ n ∷ []) all (cut ∙ sym (behind_one front n names)))

  -- ---- the turns

  abbrev pub after : ℕ → List KnownTree
  after turn = known_after items values (seed_first items values) turn

  abbrev pub names : List (List ℕ)
  names = names_defined items

  turn_less : (turn : ℕ) → IsLess names (after turn) (after (suc turn))
  turn_less turn = along names [] names refl (after turn)

  again : (turn : ℕ) → after (suc turn) ≡ after turn → after (suc (suc turn)) ≡ after (suc turn)
  again turn h = ap (λ (ks : List KnownTree). known_along items values ks names) h

  few : (turn : ℕ) → (after (suc turn) ≡ after turn) ⊎ (unknowns (after turn) names + turn ≤ length names)
  few zero = inr (let m = unknowns_most (after zero) names in omega arith)
  few (suc turn) =
      elim (few turn) [
        | inl same ↦ inl (again turn same)
        | inr most ↦ elim (turn_less turn) [ inl same ↦ inl (again turn same) | inr fewer_now ↦ inr (omega arith) ]
      ]

  at_last : after (suc (length names)) ≡ after (length names)
  at_last =
      elim (few (length names)) [
        | inl same ↦ same
        | inr most ↦ elim (turn_less (length names)) [ inl same ↦ same | inr fewer_now ↦ absurd (omega arith) ]
      ]

  behind_case : (turn : ℕ) (b : Bool) → nat_lt turn (length names) ≡ b → length names ≤ suc turn → (length names ≤ turn → after turn ≡ after (length names)) → after (suc turn) ≡ after (length names)
  behind_case turn true l w rest =
      let under : turn < length names = less_is turn (length names) l in
      let same : suc turn ≡ length names = omega arith in
      ap after same
  behind_case turn false l w rest =
      let over : length names ≤ turn = not_less_is turn (length names) l in
      ap (λ (ks : List KnownTree). known_along items values ks names) (rest over) ∙ at_last

  pub behind : (turn : ℕ) → length names ≤ turn → after turn ≡ after (length names)
  behind zero w = let same : length names ≡ 0 = omega arith in ap after (sym same)
  behind (suc turn) w = behind_case turn (nat_lt turn (length names)) refl w (behind turn)

  -- a fault that is met after the last turn is met in the last turn already

  late_same : (turn m : ℕ) (passed : List (List ℕ)) (name : List ℕ) (e : ExpandFault) → length names ≤ turn → suc m ≡ length names → after (suc m) ≡ after m → fault_of items values (course items values turn passed) name ≡ Some e
      → fault_of items values (course items values m passed) name ≡ Some e
  late_same turn m passed name e w q same h =
      let there : after turn ≡ after m = behind turn w ∙ (ap after (sym q) ∙ same) in
      ap (λ (ks : List KnownTree). fault_of items values (known_along items values ks passed) name) (sym there) ∙ h

  late_known : (turn m : ℕ) (passed : List (List ℕ)) (name : List ℕ) (rest : List (List ℕ)) (e : ExpandFault) → length names ≤ turn → suc m ≡ length names → unknowns (after (suc m)) names ≡ 0 → names ≡ passed ++ name ∷ rest
      → fault_of items values (course items values turn passed) name ≡ Some e → ⊥
  late_known turn m passed name rest e w q none cut h =
      let all : unknowns (after (suc m)) (passed ++ name ∷ rest) ≡ 0 = ap (unknowns (after (suc m))) (sym cut) ∙ none in
      let known = none_unknown (after (suc m)) passed name rest all in
      let there : after (suc m) ≡ after turn = ap after q ∙ sym (behind turn w) in
      let now : let_for (after turn) name ≡ Some known.0 = subst (λ (ks : List KnownTree). let_for ks name ≡ Some known.0) there known.1 in
      let on = along_kept passed (after turn) name known.0 now in
      none_some (sym (ap (λ (k : Option KnownTree). unless_known k (fault_by items values (course items values turn passed) name (definition_of items name))) on) ∙ h)

  late_at : (last turn : ℕ) (passed : List (List ℕ)) (name : List ℕ) (rest : List (List ℕ)) (e : ExpandFault) → last ≡ length names → length names ≤ turn → names ≡ passed ++ name ∷ rest → fault_of items values (course items values turn passed) name ≡ Some e
      → (m : ℕ) × (suc m ≡ length names) × (fault_of items values (course items values m passed) name ≡ Some e)
  late_at zero turn passed name rest e q w cut h =
      let size : length names ≡ length passed + length (name ∷ rest) = ap length cut ∙ length-append passed (name ∷ rest) in
      absurd (omega arith)
  late_at (suc m) turn passed name rest e q w cut h =
      elim (few m) [
        | inl same ↦ (m, q, late_same turn m passed name e w q same h)
        | inr most ↦ elim (turn_less m) [
          | inl same ↦ (m, q, late_same turn m passed name e w q same h)
          | inr fewer_now ↦ (let none : unknowns (after (suc m)) names ≡ 0 = omega arith in absurd (late_known turn m passed name rest e w q none cut h))
        ]
      ]

  pub late : (turn : ℕ) (passed : List (List ℕ)) (name : List ℕ) (rest : List (List ℕ)) (e : ExpandFault) → length names ≤ turn → names ≡ passed ++ name ∷ rest → fault_of items values (course items values turn passed) name ≡ Some e
      → (m : ℕ) × (suc m ≡ length names) × (fault_of items values (course items values m passed) name ≡ Some e)
  late turn passed name rest e w cut h = late_at (length names) turn passed name rest e refl w cut h

pub turns_enough : TurnsAreEnough
turns_enough items values known c turn w =
    course_same items values known c turn [] (names_defined items) refl
    ∙ (behind items values turn w ∙ sym (course_same items values known c (length (names_defined items)) [] (names_defined items) refl))
