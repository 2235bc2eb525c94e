-- What a look at a name makes known is what the functions say that go the expander's way, and so what is known in each turn.
use Rattle.std.proofs.Common.{◌≡◌, inl, inr, ℕ, zero, suc, List, [], ◌∷◌, ◌++◌, refl, sym, ap, ◌∙◌, subst}
use Rattle.std.specs.Prelude.{Option, Some, None}
use Rattle.std.specs.Option.{option_to_list}
use Rattle.std.proofs.lemmas.List.{append-nil}
use Rattle.model_text.specs.Tree.{ItemTree}
use Rattle.model_rules.specs.declared.fault.ExpandFault.{ExpandFault}
use Rattle.model_rules.specs.Frames.{KnownTree}
use Rattle.model_rules.specs.Models.{GivenTree}
use Rattle.model_rules.specs.Refusals.{let_for}
use Rattle.model_rules.specs.Definitions.{names_defined, definition_of, frame_in, told_fault, fault_by, known_by, unless_known, fault_of, where_none, unless_there, becomes, with_name, known_along, known_after, seed_first}
use Rattle.model_rules.specs.Faulty.{IsDefinitionFault}
use Rattle.model_rules.specs.Courses.{IsFaultOf, BecomesKnown, IsKnownBehind, IsCourse}
use Rattle.model_rules.proofs.FirstInOrder.{none_some, same_some, behind_one}
use Rattle.model_rules.proofs.FaultyTold.{Gives, gives_none, none_gives, definition_gives}

module _ (items : List ItemTree) (values : List GivenTree) where
  -- ---- one look

  fault_case : (lets : List KnownTree) (name : List ℕ) (k : Option KnownTree) (o : Option ItemTree) → let_for lets name ≡ k → definition_of items name ≡ o
      → Gives (unless_known k (fault_by items values lets name o)) (IsFaultOf items values lets name)
  fault_case lets name (Some k) o u d = (λ e h. none_some h, λ e p. none_some (sym p.unknown ∙ u))
  fault_case lets name None None u d = (λ e h. none_some h, λ e p. none_some (sym d ∙ p.defined))
  fault_case lets name None (Some item) u d =
      let g = definition_gives values (frame_in items lets []) (names_defined items) name item in (
        λ e h. record { item = item; unknown = u; defined = d; wrong = g.0 e h },
        λ e p. g.1 e (subst (λ (i : ItemTree). IsDefinitionFault values (frame_in items lets []) (names_defined items) name i e) (same_some (sym p.defined ∙ d)) p.wrong),
      )

  pub fault_gives : (lets : List KnownTree) (name : List ℕ) → Gives (fault_of items values lets name) (IsFaultOf items values lets name)
  fault_gives lets name = fault_case lets name (let_for lets name) (definition_of items name) refl refl

  becomes_case : (lets : List KnownTree) (name : List ℕ) (k : Option KnownTree) (o : Option ItemTree) (f : Option ExpandFault) → let_for lets name ≡ k → definition_of items name ≡ o → fault_by items values lets name o ≡ f
      → (known : KnownTree) → unless_there k (where_none f (known_by items values lets name o)) ≡ Some known → BecomesKnown items values lets name known
  becomes_case lets name (Some k) o f u d q known h = none_some h
  becomes_case lets name None o (Some e) u d q known h = none_some h
  becomes_case lets name None None None u d q known h = none_some h
  becomes_case lets name None (Some item) None u d q known h =
      let frame = frame_in items lets [] in
      record {
        item = item;
        unknown = u;
        defined = d;
        right = gives_none (told_fault values frame (names_defined items) name item) (IsDefinitionFault values frame (names_defined items) name item) (definition_gives values frame (names_defined items) name item) q;
        worth = h;
      }

  pub becomes_told : (lets : List KnownTree) (name : List ℕ) (known : KnownTree) → becomes items values lets name ≡ Some known → BecomesKnown items values lets name known
  becomes_told lets name known h =
      becomes_case lets name (let_for lets name) (definition_of items name) (fault_by items values lets name (definition_of items name)) refl refl refl known h

  pub becomes_back : (lets : List KnownTree) (name : List ℕ) (known : KnownTree) → BecomesKnown items values lets name known → becomes items values lets name ≡ Some known
  becomes_back lets name known b =
      let frame = frame_in items lets [] in
      let none : fault_by items values lets name (Some b.item) ≡ None =
      none_gives (told_fault values frame (names_defined items) name b.item) (IsDefinitionFault values frame (names_defined items) name b.item) (definition_gives values frame (names_defined items) name b.item) b.right in
      ap (λ (k : Option KnownTree). unless_there k (where_none (fault_by items values lets name (definition_of items name)) (known_by items values lets name (definition_of items name)))) b.unknown
      ∙ (ap (λ (o : Option ItemTree). where_none (fault_by items values lets name o) (known_by items values lets name o)) b.defined
      ∙ (ap (λ (f : Option ExpandFault). where_none f (known_by items values lets name (Some b.item))) none ∙ b.worth))

  becomes_none : (lets : List KnownTree) (name : List ℕ) (o : Option KnownTree) → becomes items values lets name ≡ o → ((known : KnownTree) → BecomesKnown items values lets name known → ⊥) → o ≡ None
  becomes_none lets name None q h = refl
  becomes_none lets name (Some known) q h = absurd (h known (becomes_told lets name known q))

  look_case : (lets : List KnownTree) (name : List ℕ) (o : Option KnownTree) → becomes items values lets name ≡ o → IsKnownBehind items values lets name (lets ++ option_to_list o)
  look_case lets name None h = inr (λ known b. none_some (sym h ∙ becomes_back lets name known b), append-nil lets)
  look_case lets name (Some known) h = inl (known, becomes_told lets name known h, refl)

  look_back : (lets : List KnownTree) (name : List ℕ) (next : List KnownTree) → IsKnownBehind items values lets name next → next ≡ with_name items values lets name
  look_back lets name next (inl h) = h.2 ∙ ap (λ (o : Option KnownTree). lets ++ option_to_list o) (sym (becomes_back lets name h.0 h.1))
  look_back lets name next (inr h) =
      h.1 ∙ (sym (append-nil lets) ∙ ap (λ (o : Option KnownTree). lets ++ option_to_list o) (sym (becomes_none lets name (becomes items values lets name) refl h.0)))

  -- ---- the course

  pub along_both : (lets : List KnownTree) (a b : List (List ℕ)) → known_along items values lets (a ++ b) ≡ known_along items values (known_along items values lets a) b
  along_both lets [] b = refl
  along_both lets (n ∷ a) b = along_both (with_name items values lets n) a b

  abbrev pub course : ℕ → List (List ℕ) → List KnownTree
  course turn passed = known_along items values (known_after items values (seed_first items values) turn) passed

  pub course_on : (turn : ℕ) (passed : List (List ℕ)) (name : List ℕ) → with_name items values (course turn passed) name ≡ course turn (passed ++ name ∷ [])
  course_on turn passed name = sym (along_both (known_after items values (seed_first items values) turn) passed (name ∷ []))

  pub is_course : IsCourse items values course
  is_course =
      record {
        first = refl;
        look = λ turn passed name behind cut. subst (λ (next : List KnownTree). IsKnownBehind items values (course turn passed) name next) (course_on turn passed name)
            (look_case (course turn passed) name (becomes items values (course turn passed) name) refl);
        again = λ turn. refl;
      }

  module _ (known : ℕ → List (List ℕ) → List KnownTree) (c : IsCourse items values known) where
    turn_same : (turn : ℕ) (ahead passed rest : List (List ℕ)) → names_defined items ≡ passed ++ (ahead ++ rest) → known turn passed ≡ course turn passed → known turn (passed ++ ahead) ≡ course turn (passed ++ ahead)
    turn_same turn [] passed rest cut h = ap (known turn) (append-nil passed) ∙ (h ∙ ap (course turn) (sym (append-nil passed)))
    turn_same turn (n ∷ ahead) passed rest cut h =
        let step : known turn (passed ++ n ∷ []) ≡ course turn (passed ++ n ∷ []) =
        look_back (known turn passed) n (known turn (passed ++ n ∷ [])) (c.look turn passed n (ahead ++ rest) cut)
        ∙ (ap (λ (l : List KnownTree). with_name items values l n) h ∙ course_on turn passed n) in
        ap (known turn) (sym (behind_one passed n ahead))
        ∙ (turn_same turn ahead (passed ++ n ∷ []) rest (cut ∙ sym (behind_one passed n (ahead ++ rest))) step ∙ ap (course turn) (behind_one passed n ahead))

    pub starts : (turn : ℕ) → known turn [] ≡ course turn []
    starts zero = c.first
    starts (suc turn) = c.again turn ∙ turn_same turn (names_defined items) [] [] (sym (append-nil (names_defined items))) (starts turn)

    pub course_same : (turn : ℕ) (passed rest : List (List ℕ)) → names_defined items ≡ passed ++ rest → known turn passed ≡ course turn passed
    course_same turn passed rest cut = turn_same turn passed [] rest cut (starts turn)

    pub fault_here : (turn : ℕ) (passed : List (List ℕ)) (name : List ℕ) (rest : List (List ℕ)) (e : ExpandFault) → names_defined items ≡ passed ++ rest → IsFaultOf items values (known turn passed) name e → fault_of items values (course turn passed) name ≡ Some e
    fault_here turn passed name rest e cut w =
        (fault_gives (course turn passed) name).1 e (subst (λ (l : List KnownTree). IsFaultOf items values l name e) (course_same turn passed rest cut) w)

    pub fault_there : (turn : ℕ) (passed : List (List ℕ)) (name : List ℕ) (rest : List (List ℕ)) (e : ExpandFault) → names_defined items ≡ passed ++ rest → fault_of items values (course turn passed) name ≡ Some e → IsFaultOf items values (known turn passed) name e
    fault_there turn passed name rest e cut h =
        subst (λ (l : List KnownTree). IsFaultOf items values l name e) (sym (course_same turn passed rest cut)) ((fault_gives (course turn passed) name).0 e h)
