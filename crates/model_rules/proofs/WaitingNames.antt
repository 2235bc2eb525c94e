-- A name whose `Ring` is told never becomes known, where no name stands twice.
use Rattle.std.proofs.Common.{◌≡◌, ◌<◌, ◌≤◌, ℕ, zero, suc, List, [], ◌∷◌, ◌++◌, length, refl, sym, ap, ◌∙◌, subst, arith}
use Rattle.std.specs.Prelude.{Bool, true, false, nat_lt, Option, Some, None, if◌then◌else◌}
use Rattle.std.specs.Option.{option_to_list}
use Rattle.std.specs.Str.{bytes_eq}
use Rattle.std.proofs.lemmas.List.{append-nil}
use Rattle.std.proofs.lemmas.Slice.Eq.{bytes_eq-Decides}
use Rattle.model_text.specs.Tree.{ItemTree}
use Rattle.model_rules.specs.declared.fault.ExpandFault.{ExpandFault}
use Rattle.model_rules.specs.Frames.{KnownTree}
use Rattle.model_rules.specs.Models.{GivenTree}
use Rattle.model_rules.specs.Refusals.{let_for}
use Rattle.model_rules.specs.Definitions.{names_defined, definition_of, frame_in, fault_by, known_by, unless_known, fault_of, where_none, unless_there, becomes, with_name, known_along}
use Rattle.model_rules.specs.Courses.{WaitsForever}
use Rattle.model_rules.proofs.KindsTold.{less_is, not_less_is}
use Rattle.model_rules.proofs.FirstInOrder.{none_some, some_none}
use Rattle.model_rules.proofs.LooksTold.{becomes_told, course, course_same, along_both, fault_here}
use Rattle.model_rules.proofs.TurnsEnough.{named, along_kept, after, behind}

stays_case : (k : Option KnownTree) (f : Option ExpandFault) (b : Option KnownTree) (e : ExpandFault) → unless_known k f ≡ Some e → (k ≡ None) × (unless_there k (where_none f b) ≡ None)
stays_case (Some x) f b e h = none_some h
stays_case None (Some y) b e h = (refl, refl)
stays_case None None b e h = none_some h

end_case : (b : Bool) (k : KnownTree) (name : List ℕ) → bytes_eq k.name name ≡ b → (k.name ≡ name → ⊥) → (if b then Some k else None) ≡ None
end_case true k name q h = absurd (h ((bytes_eq-Decides k.name name).0 q))
end_case false k name q h = refl

on_case : (b : Bool) (j k : KnownTree) (lets : List KnownTree) (name : List ℕ) → (let_for lets name ≡ None → let_for (lets ++ k ∷ []) name ≡ None) → (if b then Some j else let_for lets name) ≡ None → (if b then Some j else let_for (lets ++ k ∷ []) name) ≡ None
on_case true j k lets name rest h = some_none h
on_case false j k lets name rest h = rest h

-- what is known by another name
end_other : (lets : List KnownTree) (k : KnownTree) (name : List ℕ) → (k.name ≡ name → ⊥) → let_for lets name ≡ None → let_for (lets ++ k ∷ []) name ≡ None
end_other [] k name h u = end_case (bytes_eq k.name name) k name refl h
end_other (j ∷ lets) k name h u = on_case (bytes_eq j.name name) j k lets name (end_other lets k name h) u

module _ (items : List ItemTree) (values : List GivenTree) where
  unknown_here : (lets : List KnownTree) (name : List ℕ) (e : ExpandFault) → fault_of items values lets name ≡ Some e → (let_for lets name ≡ None) × (becomes items values lets name ≡ None)
  unknown_here lets name e h =
      stays_case (let_for lets name) (fault_by items values lets name (definition_of items name)) (known_by items values lets name (definition_of items name)) e h

  -- a look at another name, and at others
  with_case : (lets : List KnownTree) (n name : List ℕ) (o : Option KnownTree) → becomes items values lets n ≡ o → (n ≡ name → ⊥) → let_for lets name ≡ None → let_for (lets ++ option_to_list o) name ≡ None
  with_case lets n name None q d u = subst (λ (ls : List KnownTree). let_for ls name ≡ None) (sym (append-nil lets)) u
  with_case lets n name (Some k) q d u =
      let b = becomes_told items values lets n k q in
      let e = named values (frame_in items lets []) n b.item k b.worth in
      end_other lets k name (λ s. d (e ∙ s)) u

  along_other : (names : List (List ℕ)) (lets : List KnownTree) (name : List ℕ) → ((ahead : List (List ℕ)) (x : List ℕ) (rest : List (List ℕ)) → names ≡ ahead ++ x ∷ rest → x ≡ name → ⊥) → let_for lets name ≡ None → let_for (known_along items values lets names) name ≡ None
  along_other [] lets name d u = u
  along_other (n ∷ names) lets name d u =
      along_other names (with_name items values lets n) name (λ ahead x rest c. d (n ∷ ahead) x rest (ap (λ (l : List (List ℕ)). n ∷ l) c)) (with_case lets n name (becomes items values lets n) refl (d [] n names refl) u)

  -- what is not known was not known before
  kept_case : (turn : ℕ) (name : List ℕ) (o : Option KnownTree) → let_for (after items values turn) name ≡ o → let_for (after items values (suc turn)) name ≡ None → o ≡ None
  kept_case turn name None q h = refl
  kept_case turn name (Some k) q h = none_some (sym h ∙ along_kept items values (names_defined items) (after items values turn) name k q)

  before_case : (turn last : ℕ) (name : List ℕ) (b : Bool) → nat_lt turn (suc last) ≡ b → turn ≤ suc last → let_for (after items values (suc last)) name ≡ None → (turn ≤ last → let_for (after items values turn) name ≡ None) → let_for (after items values turn) name ≡ None
  before_case turn last name true l w h rest = let under : turn < suc last = less_is turn (suc last) l in rest (omega arith)
  before_case turn last name false l w h rest =
      let over : suc last ≤ turn = not_less_is turn (suc last) l in
      let same : suc last ≡ turn = omega arith in
      subst (λ (t : ℕ). let_for (after items values t) name ≡ None) same h

  before_last : (last turn : ℕ) (name : List ℕ) → turn ≤ last → let_for (after items values last) name ≡ None → let_for (after items values turn) name ≡ None
  before_last zero turn name w h = let same : 0 ≡ turn = omega arith in subst (λ (t : ℕ). let_for (after items values t) name ≡ None) same h
  before_last (suc last) turn name w h =
      before_case turn last name (nat_lt turn (suc last)) refl w h
      (λ l. before_last last turn name l (kept_case last name (let_for (after items values last) name) refl h))

  any_case : (turn m : ℕ) (name : List ℕ) (b : Bool) → nat_lt (length (names_defined items)) turn ≡ b → suc m ≡ length (names_defined items) → let_for (after items values (suc m)) name ≡ None → let_for (after items values turn) name ≡ None
  any_case turn m name true l q h =
      let over : length (names_defined items) < turn = less_is (length (names_defined items)) turn l in
      ap (λ (ls : List KnownTree). let_for ls name) (behind items values turn (omega arith) ∙ ap (after items values) (sym q)) ∙ h
  any_case turn m name false l q h =
      let under : turn ≤ length (names_defined items) = not_less_is (length (names_defined items)) turn l in
      before_last (suc m) turn name (omega arith) h

pub waits_forever : WaitsForever
waits_forever items values known found c distinct w turn =
    let here = course items values w.turn w.passed in
    let u = unknown_here items values here w.name found (fault_here items values known c w.turn w.passed w.name (w.name ∷ w.behind) found w.cut w.wrong) in
    let step : let_for (with_name items values here w.name) w.name ≡ None =
    ap (λ (o : Option KnownTree). let_for (here ++ option_to_list o) w.name) u.1 ∙ (ap (λ (ls : List KnownTree). let_for ls w.name) (append-nil here) ∙ u.0) in
    let whole : after items values (suc w.turn) ≡ known_along items values (with_name items values here w.name) w.behind =
    ap (known_along items values (after items values w.turn)) w.cut ∙ along_both items values (after items values w.turn) w.passed (w.name ∷ w.behind) in
    let last : let_for (after items values (suc w.turn)) w.name ≡ None =
    ap (λ (ls : List KnownTree). let_for ls w.name) whole
    ∙ along_other items values w.behind (with_name items values here w.name) w.name (λ ahead x rest q s. distinct w.passed w.name w.behind w.cut ahead x rest q (sym s)) step in
    ap (λ (ls : List KnownTree). let_for ls w.name) (course_same items values known c turn [] (names_defined items) refl)
    ∙ any_case items values turn w.turn w.name (nat_lt (length (names_defined items)) turn) refl w.last last
