-- The turns in which constants, states and lets become known are those of the functions that go the expander's way.
use Rattle.std.proofs.Common.{◌≡◌, ◌<◌, ◌≤◌, ◌⊎◌, inl, inr, ℕ, zero, suc, List, [], ◌∷◌, ◌++◌, length, refl, sym, ap, ◌∙◌, subst, arith}
use Rattle.std.specs.Prelude.{Bool, true, false, nat_lt, Option, Some, None, if◌then◌else◌}
use Rattle.std.specs.Option.{option_or}
use Rattle.std.proofs.lemmas.List.{append-nil, append_assoc}
use Rattle.model_text.specs.Tree.{ItemTree}
use Rattle.model_rules.specs.declared.fault.Cause.TheVariants as cause
use Rattle.model_rules.specs.declared.fault.ExpandFault.{ExpandFault}
use Rattle.model_rules.specs.declared.fault.ExpandFault.TheVariants as fault
use Rattle.model_rules.specs.Frames.{KnownTree}
use Rattle.model_rules.specs.Models.{GivenTree}
use Rattle.model_rules.specs.Definitions.{names_defined, fault_of, is_ring, stopping, stop_along, last_along, stop_after, last_after, settled, defining_fault, seed_first}
use Rattle.model_rules.specs.Courses.{IsRing, IsFaultOf, IsCourse, IsQuiet, IsFirstStop, AreRight, IsNeverStopped, IsLastWaiting, IsDefiningFault, AreDefined}
use Rattle.model_rules.proofs.KindsTold.{false_true, less_is, not_less_is}
use Rattle.model_rules.proofs.FirstInOrder.{none_some, some_none, same_some, behind_one, first_at, AllNone, IsFirstAt, first_found, found_first, first_none, none_first, last_at, IsLastAt, last_found, found_last, last_none, none_last}
use Rattle.model_rules.proofs.LooksTold as looks
use Rattle.model_rules.proofs.TurnsEnough.{late}
use Rattle.model_rules.proofs.FaultyTold.{Gives}

-- ---- what stops

ring_is : (e : ExpandFault) → is_ring e ≡ true → IsRing e
ring_is (fault.At cause.Ring at) h = (at, refl)
ring_is e h = false_true h

ring_back : (e : ExpandFault) → IsRing e → is_ring e ≡ true
ring_back e h = ap is_ring h.1

stop_case : (x e : ExpandFault) (b : Bool) → is_ring x ≡ b → (if b then None else Some x) ≡ Some e → (Some x ≡ Some e) × (IsRing e → ⊥)
stop_case x e true r h = none_some h
stop_case x e false r h = (h, λ q. (let t : is_ring x ≡ true = ap is_ring (same_some h) ∙ ring_back e q in cc))

stopping_told : (o : Option ExpandFault) (e : ExpandFault) → stopping o ≡ Some e → (o ≡ Some e) × (IsRing e → ⊥)
stopping_told None e h = none_some h
stopping_told (Some x) e h = stop_case x e (is_ring x) refl h

other_case : (e : ExpandFault) (b : Bool) → is_ring e ≡ b → (IsRing e → ⊥) → b ≡ false
other_case e true r h = absurd (h (ring_is e r))
other_case e false r h = refl

stopping_back : (o : Option ExpandFault) (e : ExpandFault) → o ≡ Some e → (IsRing e → ⊥) → stopping o ≡ Some e
stopping_back o e h r = ap stopping h ∙ ap (λ (b : Bool). if b then None else Some e) (other_case e (is_ring e) refl r)

quiet_case : (x : ExpandFault) (b : Bool) → is_ring x ≡ b → (if b then None else Some x) ≡ None → is_ring x ≡ true
quiet_case x true r h = r
quiet_case x false r h = some_none h

stopping_quiet : (o : Option ExpandFault) → stopping o ≡ None → (e : ExpandFault) → o ≡ Some e → IsRing e
stopping_quiet None h e q = none_some q
stopping_quiet (Some x) h e q = subst IsRing (same_some q) (ring_is x (quiet_case x (is_ring x) refl h))

quiet_stopping : (o : Option ExpandFault) → ((e : ExpandFault) → o ≡ Some e → IsRing e) → stopping o ≡ None
quiet_stopping None h = refl
quiet_stopping (Some x) h = ap (λ (b : Bool). if b then None else Some x) (ring_back x (h x refl))

or_both : (a b : Option ExpandFault) → option_or a b ≡ None → (a ≡ None) × (b ≡ None)
or_both None b h = (refl, h)
or_both (Some x) b h = some_none h

module _ (items : List ItemTree) (values : List GivenTree) where
  abbrev course : ℕ → List (List ℕ) → List KnownTree
  course turn passed = looks.course items values turn passed

  fault_gives : (lets : List KnownTree) (name : List ℕ) → Gives (fault_of items values lets name) (IsFaultOf items values lets name)
  fault_gives lets name = looks.fault_gives items values lets name

  -- ---- one turn

  abbrev fault_at : ℕ → List (List ℕ) → List ℕ → Option ExpandFault
  fault_at turn passed name = fault_of items values (course turn passed) name

  abbrev stop_at : ℕ → List (List ℕ) → List ℕ → Option ExpandFault
  stop_at turn passed name = stopping (fault_at turn passed name)

  stop_are : (turn : ℕ) (passed names : List (List ℕ)) → stop_along items values (course turn passed) names ≡ first_at (List ℕ) (stop_at turn) passed names
  stop_are turn passed [] = refl
  stop_are turn passed (n ∷ names) =
      ap (option_or (stop_at turn passed n)) (ap (λ (l : List KnownTree). stop_along items values l names) (looks.course_on items values turn passed n) ∙ stop_are turn (passed ++ n ∷ []) names)

  last_are : (turn : ℕ) (passed names : List (List ℕ)) → last_along items values (course turn passed) names ≡ last_at (List ℕ) (fault_at turn) passed names
  last_are turn passed [] = refl
  last_are turn passed (n ∷ names) =
      ap (λ (o : Option ExpandFault). option_or o (fault_at turn passed n)) (ap (λ (l : List KnownTree). last_along items values l names) (looks.course_on items values turn passed n) ∙ last_are turn (passed ++ n ∷ []) names)

  quiet_told : (turn : ℕ) (names : List (List ℕ)) → AllNone (List ℕ) (stop_at turn) [] names → IsQuiet items values course turn names
  quiet_told turn names h passed name behind e cut w = stopping_quiet (fault_at turn passed name) (h passed name behind cut) e ((fault_gives (course turn passed) name).1 e w)

  right_told : (turn : ℕ) (others names : List (List ℕ)) → AllNone (List ℕ) (fault_at turn) others names → AreRight items values course turn others names
  right_told turn others names h passed name behind e cut w = none_some (sym (h passed name behind cut) ∙ (fault_gives (course turn (others ++ passed)) name).1 e w)

  more_behind : (names rest ahead : List (List ℕ)) (x : List ℕ) (behind all : List (List ℕ)) → all ≡ names ++ rest → names ≡ ahead ++ x ∷ behind → all ≡ ahead ++ x ∷ (behind ++ rest)
  more_behind names rest ahead x behind all cut c = cut ∙ (ap (λ (l : List (List ℕ)). l ++ rest) c ∙ append_assoc ahead (x ∷ behind) rest)

  quiet_back : (known : ℕ → List (List ℕ) → List KnownTree) → IsCourse items values known → (turn : ℕ) (names rest : List (List ℕ)) → names_defined items ≡ names ++ rest → IsQuiet items values known turn names → AllNone (List ℕ) (stop_at turn) [] names
  quiet_back known c turn names rest cut q ahead x behind e =
      quiet_stopping (fault_at turn ahead x) (λ f h. q ahead x behind f e (looks.fault_there items values known c turn ahead x (x ∷ (behind ++ rest)) f (more_behind names rest ahead x behind (names_defined items) cut e) h))

  none_case : (o : Option ExpandFault) → ((e : ExpandFault) → o ≡ Some e → ⊥) → o ≡ None
  none_case None h = refl
  none_case (Some e) h = absurd (h e refl)

  right_back : (known : ℕ → List (List ℕ) → List KnownTree) → IsCourse items values known → (turn : ℕ) (others names : List (List ℕ)) → names_defined items ≡ others ++ names → AreRight items values known turn others names → AllNone (List ℕ) (fault_at turn) others names
  right_back known c turn others names cut r ahead x behind e =
      none_case (fault_at turn (others ++ ahead) x)
      (λ f h. r ahead x behind f e (looks.fault_there items values known c turn (others ++ ahead) x (x ∷ behind) f (cut ∙ (ap (λ (l : List (List ℕ)). others ++ l) e ∙ sym (append_assoc others ahead (x ∷ behind)))) h))

  -- ---- the turns

  abbrev stop_in : ℕ → Option ExpandFault
  stop_in turn = stop_along items values (course turn []) (names_defined items)

  record StopsIn (turns : ℕ) (e : ExpandFault) : Type 0 where
    turn : ℕ
    within : turn < turns
    here : stop_in turn ≡ Some e
    none : (other : ℕ) → other < turn → stop_in other ≡ None

  abbrev AllQuiet : ℕ → Type 0
  AllQuiet turns = (other : ℕ) → other < turns → stop_in other ≡ None

  quiet_more : (turns other : ℕ) (b : Bool) → nat_lt other turns ≡ b → AllQuiet turns → stop_in turns ≡ None → other < suc turns → stop_in other ≡ None
  quiet_more turns other true l q h w = q other (less_is other turns l)
  quiet_more turns other false l q h w =
      let m : turns ≤ other = not_less_is other turns l in
      let same : turns ≡ other = omega arith in
      subst (λ (t : ℕ). stop_in t ≡ None) same h

  none_after : (turns : ℕ) → stop_after items values (seed_first items values) turns ≡ None → AllQuiet turns
  none_after zero h = λ other w. absurd (omega arith)
  none_after (suc turns) h =
      let p = or_both (stop_after items values (seed_first items values) turns) (stop_in turns) h in
      λ other w. quiet_more turns other (nat_lt other turns) refl (none_after turns p.0) p.1 w

  after_none : (turns : ℕ) → AllQuiet turns → stop_after items values (seed_first items values) turns ≡ None
  after_none zero q = refl
  after_none (suc turns) q =
      ap (λ (o : Option ExpandFault). option_or o (stop_in turns)) (after_none turns (λ other w. q other (omega arith))) ∙ q turns (omega arith)

  stops_case : (turns : ℕ) (e : ExpandFault) (o : Option ExpandFault) → stop_after items values (seed_first items values) turns ≡ o → (stop_after items values (seed_first items values) turns ≡ Some e → StopsIn turns e)
      → option_or o (stop_in turns) ≡ Some e → StopsIn (suc turns) e
  stops_case turns e None n rest h = record { turn = turns; within = omega arith; here = h; none = none_after turns n }
  stops_case turns e (Some x) n rest h =
      let r = rest (n ∙ h) in
      let w : r.turn < turns = r.within in
      record { turn = r.turn; within = omega arith; here = r.here; none = r.none }

  stops_in : (turns : ℕ) (e : ExpandFault) → stop_after items values (seed_first items values) turns ≡ Some e → StopsIn turns e
  stops_in zero e h = none_some h
  stops_in (suc turns) e h = stops_case turns e (stop_after items values (seed_first items values) turns) refl (stops_in turns e) h

  in_case : (turns turn : ℕ) (e : ExpandFault) (b : Bool) → nat_lt turn turns ≡ b → turn < suc turns → stop_in turn ≡ Some e → AllQuiet turn → (turn < turns → stop_after items values (seed_first items values) turns ≡ Some e)
      → stop_after items values (seed_first items values) (suc turns) ≡ Some e
  in_case turns turn e true l w h q rest = ap (λ (o : Option ExpandFault). option_or o (stop_in turns)) (rest (less_is turn turns l))
  in_case turns turn e false l w h q rest =
      let m : turns ≤ turn = not_less_is turn turns l in
      let same : turn ≡ turns = omega arith in
      ap (λ (o : Option ExpandFault). option_or o (stop_in turns)) (after_none turns (subst AllQuiet same q)) ∙ subst (λ (t : ℕ). stop_in t ≡ Some e) same h

  in_stops : (turns turn : ℕ) (e : ExpandFault) → turn < turns → stop_in turn ≡ Some e → AllQuiet turn → stop_after items values (seed_first items values) turns ≡ Some e
  in_stops zero turn e w h q = absurd (omega arith)
  in_stops (suc turns) turn e w h q = in_case turns turn e (nat_lt turn turns) refl w h q (λ l. in_stops turns turn e l h q)

  -- ---- what is told

  abbrev count : ℕ
  count = length (names_defined items)

  stop_told : (e : ExpandFault) → StopsIn count e → IsFirstStop items values course e
  stop_told e r =
      let f = first_found (List ℕ) (stop_at r.turn) [] (names_defined items) e (sym (stop_are r.turn [] (names_defined items)) ∙ r.here) in
      let s = stopping_told (fault_at r.turn f.ahead f.here) e f.is in
      record {
        turn = r.turn;
        passed = f.ahead;
        name = f.here;
        behind = f.rest;
        cut = f.cut;
        wrong = (fault_gives (course r.turn f.ahead) f.here).0 e s.0;
        stops = s.1;
        earlier = quiet_told r.turn f.ahead f.none;
        turns = λ other w. quiet_told other (names_defined items) (first_none (List ℕ) (stop_at other) [] (names_defined items) (sym (stop_are other [] (names_defined items)) ∙ r.none other w));
      }

  never_case : AllQuiet count → (turn : ℕ) (b : Bool) → nat_lt turn count ≡ b → IsQuiet items values course turn (names_defined items)
  never_case q turn true l passed name behind e cut w =
      quiet_told turn (names_defined items) (first_none (List ℕ) (stop_at turn) [] (names_defined items) (sym (stop_are turn [] (names_defined items)) ∙ q turn (less_is turn count l))) passed name behind e cut w
  never_case q turn false l passed name behind e cut w =
      let r = late items values turn passed name behind e (not_less_is turn count l) cut ((fault_gives (course turn passed) name).1 e w) in
      let last : suc r.0 ≡ count = r.1 in
      quiet_told r.0 (names_defined items) (first_none (List ℕ) (stop_at r.0) [] (names_defined items) (sym (stop_are r.0 [] (names_defined items)) ∙ q r.0 (omega arith))) passed name behind e cut
      ((fault_gives (course r.0 passed) name).0 e r.2)

  never_told : AllQuiet count → IsNeverStopped items values course
  never_told q turn = never_case q turn (nat_lt turn count) refl

  last_told : IsNeverStopped items values course → (turns : ℕ) (e : ExpandFault) → turns ≡ count → last_after items values (seed_first items values) turns ≡ Some e → IsLastWaiting items values course e
  last_told never zero e q h = none_some h
  last_told never (suc turn) e q h =
      let f = last_found (List ℕ) (fault_at turn) [] (names_defined items) e (sym (last_are turn [] (names_defined items)) ∙ h) in
      record {
        turn = turn;
        passed = f.ahead;
        name = f.here;
        behind = f.rest;
        cut = f.cut;
        last = q;
        wrong = (fault_gives (course turn f.ahead) f.here).0 e f.is;
        ring = never turn f.ahead f.here f.rest e f.cut ((fault_gives (course turn f.ahead) f.here).0 e f.is);
        later = right_told turn (f.ahead ++ f.here ∷ []) f.rest f.none;
      }

  told_case : (e : ExpandFault) (o : Option ExpandFault) → stop_after items values (seed_first items values) count ≡ o → option_or o (last_after items values (seed_first items values) count) ≡ Some e → IsDefiningFault items values e
  told_case e None n h = record { known = course; course = looks.is_course items values; told = (let never = never_told (none_after count n) in inr (never, last_told never count e refl h)) }
  told_case e (Some x) n h = record { known = course; course = looks.is_course items values; told = inl (stop_told e (stops_in count e (n ∙ h))) }

  pub defining_told : (e : ExpandFault) → defining_fault items values (seed_first items values) ≡ Some e → IsDefiningFault items values e
  defining_told e h = told_case e (stop_after items values (seed_first items values) count) refl h

  -- ---- and back

  module _ (known : ℕ → List (List ℕ) → List KnownTree) (c : IsCourse items values known) where
    turn_quiet : (turn : ℕ) → IsQuiet items values known turn (names_defined items) → stop_in turn ≡ None
    turn_quiet turn q =
        stop_are turn [] (names_defined items)
        ∙ none_first (List ℕ) (stop_at turn) [] (names_defined items) (quiet_back known c turn (names_defined items) [] (sym (append-nil (names_defined items))) q)

    never_back : IsNeverStopped items values known → stop_after items values (seed_first items values) count ≡ None
    never_back q = after_none count (λ turn w. turn_quiet turn (q turn))

    within_case : (e : ExpandFault) (s : IsFirstStop items values known e) (b : Bool) → nat_lt s.turn count ≡ b → s.turn < count
    within_case e s true l = less_is s.turn count l
    within_case e s false l =
        let over : count ≤ s.turn = not_less_is s.turn count l in
        let here = looks.fault_here items values known c s.turn s.passed s.name (s.name ∷ s.behind) e s.cut s.wrong in
        let r = late items values s.turn s.passed s.name s.behind e over s.cut here in
        let last : suc r.0 ≡ count = r.1 in
        let there = looks.fault_there items values known c r.0 s.passed s.name (s.name ∷ s.behind) e s.cut r.2 in
        absurd (s.stops (s.turns r.0 (omega arith) s.passed s.name s.behind e s.cut there))

    stop_back : (e : ExpandFault) → IsFirstStop items values known e → stop_after items values (seed_first items values) count ≡ Some e
    stop_back e s =
        let here : fault_at s.turn s.passed s.name ≡ Some e = looks.fault_here items values known c s.turn s.passed s.name (s.name ∷ s.behind) e s.cut s.wrong in
        let f : IsFirstAt (List ℕ) (stop_at s.turn) [] (names_defined items) e =
        record { ahead = s.passed; here = s.name; rest = s.behind; cut = s.cut; is = stopping_back (fault_at s.turn s.passed s.name) e here s.stops; none = quiet_back known c s.turn s.passed (s.name ∷ s.behind) s.cut s.earlier } in
        in_stops count s.turn e (within_case e s (nat_lt s.turn count) refl) (stop_are s.turn [] (names_defined items) ∙ found_first (List ℕ) (stop_at s.turn) [] (names_defined items) e f)
        (λ other w. turn_quiet other (s.turns other w))

    waiting_back : (e : ExpandFault) → IsLastWaiting items values known e → last_after items values (seed_first items values) count ≡ Some e
    waiting_back e s =
        let here : fault_at s.turn s.passed s.name ≡ Some e = looks.fault_here items values known c s.turn s.passed s.name (s.name ∷ s.behind) e s.cut s.wrong in
        let f : IsLastAt (List ℕ) (fault_at s.turn) [] (names_defined items) e =
        record {
          ahead = s.passed;
          here = s.name;
          rest = s.behind;
          cut = s.cut;
          is = here;
          none = right_back known c s.turn (s.passed ++ s.name ∷ []) s.behind (s.cut ∙ sym (behind_one s.passed s.name s.behind)) s.later;
        } in
        ap (last_after items values (seed_first items values)) (sym s.last)
        ∙ (last_are s.turn [] (names_defined items) ∙ found_last (List ℕ) (fault_at s.turn) [] (names_defined items) e f)

    told_back : (e : ExpandFault) → IsFirstStop items values known e ⊎ (IsNeverStopped items values known × IsLastWaiting items values known e) → defining_fault items values (seed_first items values) ≡ Some e
    told_back e (inl s) = ap (λ (o : Option ExpandFault). option_or o (last_after items values (seed_first items values) count)) (stop_back e s)
    told_back e (inr s) = ap (λ (o : Option ExpandFault). option_or o (last_after items values (seed_first items values) count)) (never_back s.0) ∙ waiting_back e s.1

    right_case : (turns : ℕ) → turns ≡ count → ((turn : ℕ) → suc turn ≡ count → AreRight items values known turn [] (names_defined items)) → last_after items values (seed_first items values) turns ≡ None
    right_case zero q r = refl
    right_case (suc turn) q r =
        last_are turn [] (names_defined items) ∙ none_last (List ℕ) (fault_at turn) [] (names_defined items) (right_back known c turn [] (names_defined items) refl (r turn q))

    none_back : IsNeverStopped items values known → ((turn : ℕ) → suc turn ≡ count → AreRight items values known turn [] (names_defined items)) → defining_fault items values (seed_first items values) ≡ None
    none_back q r = ap (λ (o : Option ExpandFault). option_or o (last_after items values (seed_first items values) count)) (never_back q) ∙ right_case count refl r

  pub defining_back : (e : ExpandFault) → IsDefiningFault items values e → defining_fault items values (seed_first items values) ≡ Some e
  defining_back e d = told_back d.known d.course e d.told

  -- all become known, as these
  last_right : (turns : ℕ) → turns ≡ count → last_after items values (seed_first items values) turns ≡ None → (turn : ℕ) → suc turn ≡ turns → AreRight items values course turn [] (names_defined items)
  last_right zero q h turn w = absurd (omega arith)
  last_right (suc t) q h turn w =
      let same : t ≡ turn = omega arith in
      subst (λ (k : ℕ). AreRight items values course k [] (names_defined items)) same
      (right_told t [] (names_defined items) (last_none (List ℕ) (fault_at t) [] (names_defined items) (sym (last_are t [] (names_defined items)) ∙ h)))

  pub defined_told : defining_fault items values (seed_first items values) ≡ None → AreDefined items values (settled items values (seed_first items values))
  defined_told h =
      let p = or_both (stop_after items values (seed_first items values) count) (last_after items values (seed_first items values) count) h in
      record { known = course; course = looks.is_course items values; quiet = never_told (none_after count p.0); right = last_right count refl p.1; last = refl }

  pub defined_back : (lets : List KnownTree) → AreDefined items values lets → (lets ≡ settled items values (seed_first items values)) × (defining_fault items values (seed_first items values) ≡ None)
  defined_back lets d = (d.last ∙ looks.starts items values d.known d.course count, none_back d.known d.course d.quiet d.right)
