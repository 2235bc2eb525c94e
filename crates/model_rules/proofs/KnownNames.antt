-- A name without a fault in the last turn is known after it.
use Rattle.std.proofs.Common.{◌≡◌, ◌⊎◌, inl, inr, ℕ, zero, suc, ◌+◌, List, [], ◌∷◌, ◌++◌, length, refl, sym, ap, ◌∙◌, subst, arith}
use Rattle.std.specs.Prelude.{Bool, true, false, cond, ◌||◌, Option, Some, None, if◌then◌else◌}
use Rattle.std.specs.Option.{option_to_list}
use Rattle.std.specs.Str.{bytes_eq}
use Rattle.std.proofs.lemmas.List.{append_assoc, length-append}
use Rattle.std.proofs.lemmas.Slice.Eq.{bytes_eq-Decides}
use Rattle.rule_check.specs.Value.{place}
use Rattle.rule_check.specs.WellFormed.{is_among}
use Rattle.model_text.specs.Tree.{ItemTree, ConstTree, StatesTree, FieldTree, LetTree, NextTree}
use Rattle.model_rules.specs.declared.fault.ExpandFault.{ExpandFault}
use Rattle.model_rules.specs.Terms.{NumberTerm}
use Rattle.model_rules.specs.Frames.{Frame, KnownTree}
use Rattle.model_rules.specs.Models.{GivenTree, bare, names_it}
use Rattle.model_rules.specs.Refusals.{let_for}
use Rattle.model_rules.specs.Definitions.{names_defined, defined_by, definition_of, frame_in, told_known, fault_by, known_by, unless_known, fault_of, where_none, unless_there, becomes, with_name, known_along}
use Rattle.model_rules.specs.Courses.{AreDefined, OthersAreKnown, AllAreKnown}
use Rattle.model_rules.proofs.KindsTold.{false_true}
use Rattle.model_rules.proofs.FirstInOrder.{behind_one}
use Rattle.model_rules.proofs.LooksTold.{becomes_told, course, course_same, along_both, fault_there}
use Rattle.model_rules.proofs.TurnsEnough.{named, kept, end_known, along_kept, after}

-- ---- the item that defines a name

or_right : (b c : Bool) → c ≡ true → (b || c) ≡ true
or_right true c h = refl
or_right false c h = h

or_alone : (b : Bool) → (b || false) ≡ true → b ≡ true
or_alone true h = refl
or_alone false h = h

among_cut : (ahead : List (List ℕ)) (name : List ℕ) (rest : List (List ℕ)) → is_among (ahead ++ name ∷ rest) name ≡ true
among_cut [] name rest = ap (λ (b : Bool). b || is_among rest name) ((bytes_eq-Decides name name).1 refl)
among_cut (x ∷ ahead) name rest = or_right (bytes_eq x name) (is_among (ahead ++ name ∷ rest) name) (among_cut ahead name rest)

among_case : (b : Bool) (xs ys : List (List ℕ)) (name : List ℕ) → (is_among (xs ++ ys) name ≡ true → (is_among xs name ≡ true) ⊎ (is_among ys name ≡ true)) → (b || is_among (xs ++ ys) name) ≡ true
    → ((b || is_among xs name) ≡ true) ⊎ (is_among ys name ≡ true)
among_case true xs ys name rest h = inl refl
among_case false xs ys name rest h = rest h

among_both : (xs ys : List (List ℕ)) (name : List ℕ) → is_among (xs ++ ys) name ≡ true → (is_among xs name ≡ true) ⊎ (is_among ys name ≡ true)
among_both [] ys name h = inr h
among_both (x ∷ xs) ys name h = among_case (bytes_eq x name) xs ys name (among_both xs ys name) h

names_by : (item : ItemTree) (name : List ℕ) → is_among (defined_by item) name ≡ true → names_it item name ≡ true
names_by (ConstTree n body) name h = or_alone (bytes_eq n.name name) h
names_by (StatesTree n members) name h = h
names_by (FieldTree n states initial) name h = false_true h
names_by (LetTree n parameters body) name h = or_alone (bytes_eq n.name name) h
names_by (NextTree n body) name h = false_true h

abbrev IsDefined : Option ItemTree → List ℕ → Type 0
IsDefined found name = (item : ItemTree) × (found ≡ Some item) × (names_it item name ≡ true)

defined_case : (b : Bool) (x : ItemTree) (xs : List ItemTree) (name : List ℕ) → names_it x name ≡ b → (is_among (names_defined xs) name ≡ true → IsDefined (definition_of xs name) name)
    → is_among (defined_by x ++ names_defined xs) name ≡ true → IsDefined (cond b (Some x) (definition_of xs name)) name
defined_case true x xs name q rest h = (x, refl, q)
defined_case false x xs name q rest h =
    elim (among_both (defined_by x) (names_defined xs) name h) [ inl p ↦ false_true (sym q ∙ names_by x name p) | inr p ↦ rest p ]

defined_some : (items : List ItemTree) (name : List ℕ) → is_among (names_defined items) name ≡ true → IsDefined (definition_of items name) name
defined_some [] name h = false_true h
defined_some (x ∷ xs) name h = defined_case (names_it x name) x xs name refl (defined_some xs name) h

known_some : (values : List GivenTree) (frame : Frame) (name : List ℕ) (item : ItemTree) → names_it item name ≡ true → (k : KnownTree) × (told_known values frame name item ≡ Some k)
known_some values frame name (ConstTree n body) h = (_, refl)
known_some values frame name (StatesTree n members) h =
    let k : KnownTree = record { name = name; is_let = false; count = 0; term = NumberTerm (place (bare members) name) } in
    (k, ap (λ (b : Bool). if b then Some k else None) h)
known_some values frame name (FieldTree n states initial) h = false_true h
known_some values frame name (LetTree n parameters body) h = (_, refl)
known_some values frame name (NextTree n body) h = false_true h

module _ (items : List ItemTree) (values : List GivenTree) where
  becomes_some : (lets : List KnownTree) (name : List ℕ) → let_for lets name ≡ None → is_among (names_defined items) name ≡ true → fault_of items values lets name ≡ None → (k : KnownTree) × (becomes items values lets name ≡ Some k)
  becomes_some lets name u m h =
      let d = defined_some items name m in
      let k = known_some values (frame_in items lets []) name d.0 d.2 in
      let f : fault_by items values lets name (Some d.0) ≡ None =
      sym (ap (λ (x : Option KnownTree). unless_known x (fault_by items values lets name (definition_of items name))) u ∙ ap (fault_by items values lets name) d.1) ∙ h in (
        k.0,
        ap (λ (x : Option KnownTree). unless_there x (where_none (fault_by items values lets name (definition_of items name)) (known_by items values lets name (definition_of items name)))) u
            ∙ (ap (λ (o : Option ItemTree). where_none (fault_by items values lets name o) (known_by items values lets name o)) d.1
            ∙ (ap (λ (g : Option ExpandFault). where_none g (known_by items values lets name (Some d.0))) f ∙ k.1)),
      )

  looked_case : (lets : List KnownTree) (name : List ℕ) (o : Option KnownTree) → let_for lets name ≡ o → is_among (names_defined items) name ≡ true → fault_of items values lets name ≡ None
      → (x : KnownTree) × (let_for (with_name items values lets name) name ≡ Some x)
  looked_case lets name (Some k) q m h = (k, kept lets (option_to_list (becomes items values lets name)) name k q)
  looked_case lets name None q m h =
      let b = becomes_some lets name q m h in
      let x = end_known lets b.0 in
      let t = becomes_told items values lets name b.0 b.1 in
      let e = named values (frame_in items lets []) name t.item b.0 t.worth in
      (x.0, ap (λ (o : Option KnownTree). let_for (lets ++ option_to_list o) name) b.1 ∙ subst (λ (n : List ℕ). let_for (lets ++ b.0 ∷ []) n ≡ Some x.0) (sym e) x.1)

  right_known : (turn : ℕ) (passed : List (List ℕ)) (name : List ℕ) (behind : List (List ℕ)) → names_defined items ≡ passed ++ name ∷ behind → fault_of items values (course items values turn passed) name ≡ None
      → (x : KnownTree) × (let_for (after items values (suc turn)) name ≡ Some x)
  right_known turn passed name behind cut h =
      let here = course items values turn passed in
      let r = looked_case here name (let_for here name) refl (ap (λ (l : List (List ℕ)). is_among l name) cut ∙ among_cut passed name behind) h in
      let whole : after items values (suc turn) ≡ known_along items values (with_name items values here name) behind =
      ap (known_along items values (after items values turn)) cut ∙ along_both items values (after items values turn) passed (name ∷ behind) in
      (r.0, ap (λ (ls : List KnownTree). let_for ls name) whole ∙ along_kept items values behind (with_name items values here name) name r.0 r.1)

  none_case : (o : Option ExpandFault) → ((e : ExpandFault) → o ≡ Some e → ⊥) → o ≡ None
  none_case None h = refl
  none_case (Some e) h = absurd (h e refl)

  all_case : (last : ℕ) (lets : List KnownTree) (d : AreDefined items values lets) (passed : List (List ℕ)) (name : List ℕ) (behind : List (List ℕ)) → last ≡ length (names_defined items) → names_defined items ≡ passed ++ name ∷ behind
      → (x : KnownTree) × (let_for (after items values last) name ≡ Some x)
  all_case zero lets d passed name behind q cut =
      let size : length (names_defined items) ≡ length passed + length (name ∷ behind) = ap length cut ∙ length-append passed (name ∷ behind) in
      absurd (omega arith)
  all_case (suc turn) lets d passed name behind q cut =
      right_known turn passed name behind cut
      (none_case (fault_of items values (course items values turn passed) name)
      (λ e h. d.right turn q passed name behind e cut (fault_there items values d.known d.course turn passed name (name ∷ behind) e cut h)))

pub others_known : OthersAreKnown
others_known items values known found c w ahead other rest cut =
    let front = w.passed ++ w.name ∷ [] in
    let whole : names_defined items ≡ (front ++ ahead) ++ other ∷ rest =
    w.cut ∙ (sym (behind_one w.passed w.name w.behind) ∙ (ap (λ (l : List (List ℕ)). front ++ l) cut ∙ sym (append_assoc front ahead (other ∷ rest)))) in
    let r = right_known items values w.turn (front ++ ahead) other rest whole
    (none_case items values (fault_of items values (course items values w.turn (front ++ ahead)) other)
    (λ e h. w.later ahead other rest e cut (fault_there items values known c w.turn (front ++ ahead) other (other ∷ rest) e whole h))) in
    (suc w.turn, r.0, ap (λ (ls : List KnownTree). let_for ls other) (course_same items values known c (suc w.turn) [] (names_defined items) refl) ∙ r.1)

pub all_known : AllAreKnown
all_known items values lets d passed name behind cut =
    let r = all_case items values (length (names_defined items)) lets d passed name behind refl cut in
    (r.0, ap (λ (ls : List KnownTree). let_for ls name) (d.last ∙ course_same items values d.known d.course (length (names_defined items)) [] (names_defined items) refl) ∙ r.1)
