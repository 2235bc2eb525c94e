-- What becomes known of the names of a model that are looked at in order, and again.
use Rattle.std.proofs.Common.{◌≡◌, ◌<◌, ◌-◌, ℕ, zero, suc, ◌+◌, length, List, [], ◌∷◌, ◌++◌, refl, sym, ap, ◌∙◌, subst, arith}
use Rattle.std.specs.Prelude.{Option, Some, None, is_some, Result, Ok, Err, OnOk, IfErr, Bool, true, false, ◌≢◌, map, string_bytes, if◌then◌else◌}
use Rattle.std.specs.Option.{option_or, option_to_list}
use Rattle.std.proofs.lemmas.List.{append-nil, append_assoc, length-append}
use Rattle.model_text.specs.Tree.{ItemTree, ConstTree, StatesTree, FieldTree, LetTree, NextTree}
use Rattle.model_rules.specs.declared.fault.ExpandFault.{ExpandFault}
use Rattle.model_rules.specs.declared.fault.ExpandFault.TheVariants as fault
use Rattle.model_rules.specs.declared.scope.Scope.{Scope}
use Rattle.model_rules.specs.Terms.{NumberTerm}
use Rattle.model_rules.specs.Frames.{KnownTree, Frame}
use Rattle.model_rules.specs.Models.{GivenTree, bare, given_or, given_value}
use Rattle.model_rules.specs.TermFor.{term_for}
use Rattle.model_rules.specs.Refusals.{let_for}
use Rattle.model_rules.specs.FirstFaults.{IsFirst}
use Rattle.model_rules.specs.Constants.{amount_in}
use Rattle.model_rules.specs.Amounts.{value_fault, body_fault}
use Rattle.model_rules.specs.ScopeView.{frame_of, knowns_of, later_of, IsScopeOf}
use Rattle.model_rules.specs.Definitions.{names_defined, definition_of, frame_in, unless_given, under, told_fault, told_known, fault_by, known_by, unless_known, fault_of, where_none, unless_there, becomes, with_name, known_along, is_ring, stopping, stop_along, last_along, known_after, stop_after, last_after, settled, defining_fault, IsLooked, IsPassed}

-- the parameters that were known before do not count
under_same : (f g : Frame) (ps : List (List ℕ)) → f.draws ≡ g.draws → f.fields ≡ g.fields → f.lets ≡ g.lets → under f ps ≡ under g ps
under_same f g ps d e l = rw (d, e, l) refl

fault_same : (values : List GivenTree) (f g : Frame) (later : List (List ℕ)) (name : List ℕ) (item : ItemTree) → f.draws ≡ g.draws → f.fields ≡ g.fields → f.lets ≡ g.lets → told_fault values f later name item ≡ told_fault values g later name item
fault_same values f g later name (ConstTree n body) d e l = ap (λ (h : Frame). unless_given (given_value values name) (value_fault h later body n.at)) (under_same f g [] d e l)
fault_same values f g later name (StatesTree n members) d e l = refl
fault_same values f g later name (FieldTree n states initial) d e l = refl
fault_same values f g later name (LetTree n ps body) d e l = ap (λ (h : Frame). body_fault h later body n.at) (under_same f g (bare ps) d e l)
fault_same values f g later name (NextTree n body) d e l = refl

known_same : (values : List GivenTree) (f g : Frame) (name : List ℕ) (item : ItemTree) → f.draws ≡ g.draws → f.fields ≡ g.fields → f.lets ≡ g.lets → told_known values f name item ≡ told_known values g name item
known_same values f g name (ConstTree n body) d e l = ap (λ (h : Frame). Some (record { name = name; is_let = false; count = 0; term = NumberTerm (given_or (given_value values name) (amount_in (term_for h body))) })) (under_same f g [] d e l)
known_same values f g name (StatesTree n members) d e l = refl
known_same values f g name (FieldTree n states initial) d e l = refl
known_same values f g name (LetTree n ps body) d e l = ap (λ (h : Frame). Some (record { name = name; is_let = true; count = length ps; term = term_for h body })) (under_same f g (bare ps) d e l)
known_same values f g name (NextTree n body) d e l = refl

told_in : (items : List ItemTree) (values : List GivenTree) (scope : Scope) (name : List ℕ) (item : ItemTree) → IsScopeOf items scope → told_fault values (frame_of scope) (later_of scope) name item ≡ told_fault values (frame_in items (knowns_of scope.lets.items) []) (names_defined items) name item
told_in items values scope name item h =
    ap (λ (ns : List (List ℕ)). told_fault values (frame_of scope) ns name item) h.later
    ∙ fault_same values (frame_of scope) (frame_in items (knowns_of scope.lets.items) []) (names_defined items) name item h.draws h.fields refl

known_in : (items : List ItemTree) (values : List GivenTree) (scope : Scope) (name : List ℕ) (item : ItemTree) → IsScopeOf items scope → told_known values (frame_of scope) name item ≡ told_known values (frame_in items (knowns_of scope.lets.items) []) name item
known_in items values scope name item h =
    known_same values (frame_of scope) (frame_in items (knowns_of scope.lets.items) []) name item h.draws h.fields refl

-- what is known and wrong of a name, by what its item tells
found_fault : (items : List ItemTree) (values : List GivenTree) (lets : List KnownTree) (name : List ℕ) (o : Option ItemTree) → let_for lets name ≡ None → definition_of items name ≡ o → fault_of items values lets name ≡ fault_by items values lets name o
found_fault items values lets name o n d =
    ap (λ (k : Option KnownTree). unless_known k (fault_by items values lets name (definition_of items name))) n ∙ ap (fault_by items values lets name) d

found_known : (items : List ItemTree) (values : List GivenTree) (lets : List KnownTree) (name : List ℕ) (o : Option ItemTree) → let_for lets name ≡ None → definition_of items name ≡ o → becomes items values lets name ≡ where_none (fault_by items values lets name o) (known_by items values lets name o)
found_known items values lets name o n d =
    ap (λ (k : Option KnownTree). unless_there k (where_none (fault_by items values lets name (definition_of items name)) (known_by items values lets name (definition_of items name)))) n
    ∙ ap (λ (i : Option ItemTree). where_none (fault_by items values lets name i) (known_by items values lets name i)) d

none_with : (items : List ItemTree) (values : List GivenTree) (lets : List KnownTree) (name : List ℕ) → becomes items values lets name ≡ None → lets ≡ with_name items values lets name
none_with items values lets name h = sym (ap (λ (k : Option KnownTree). lets ++ option_to_list k) h ∙ append-nil lets)

-- a name that is known
pub looked_known : (items : List ItemTree) (values : List GivenTree) (lets : List KnownTree) (name : List ℕ) (known : KnownTree) → let_for lets name ≡ Some known → IsLooked items values lets name None lets
looked_known items values lets name known h =
    let f : fault_of items values lets name ≡ None = ap (λ (k : Option KnownTree). unless_known k (fault_by items values lets name (definition_of items name))) h in
    record {
      known = none_with items values lets name (ap (λ (k : Option KnownTree). unless_there k (where_none (fault_by items values lets name (definition_of items name)) (known_by items values lets name (definition_of items name)))) h);
      told = sym f;
      going = ap stopping f;
    }

-- one that nothing defines
pub looked_none : (items : List ItemTree) (values : List GivenTree) (lets : List KnownTree) (name : List ℕ) → let_for lets name ≡ None → definition_of items name ≡ None → IsLooked items values lets name None lets
looked_none items values lets name n d =
    let f : fault_of items values lets name ≡ None = found_fault items values lets name None n d in
    record { known = none_with items values lets name (found_known items values lets name None n d); told = sym f; going = ap stopping f }

-- one that an item defines: it becomes known, or not, without a fault, or it is not known yet
told_becomes : (items : List ItemTree) (values : List GivenTree) (scope : Scope) (name : List ℕ) (item : ItemTree) (x : Option ExpandFault) (y : Option KnownTree) → IsScopeOf items scope → let_for (knowns_of scope.lets.items) name ≡ None → definition_of items name ≡ Some item → told_fault values (frame_of scope) (later_of scope) name item ≡ x → told_known values (frame_of scope) name item ≡ y
    → (fault_of items values (knowns_of scope.lets.items) name ≡ x) × (becomes items values (knowns_of scope.lets.items) name ≡ where_none x y)
told_becomes items values scope name item x y s n d f k =
    let lets = knowns_of scope.lets.items in
    let p : fault_by items values lets name (Some item) ≡ x = sym (told_in items values scope name item s) ∙ f in
    let q : known_by items values lets name (Some item) ≡ y = sym (known_in items values scope name item s) ∙ k in (
      found_fault items values lets name (Some item) n d ∙ p,
      found_known items values lets name (Some item) n d ∙ (ap (λ (o : Option ExpandFault). where_none o (known_by items values lets name (Some item))) p ∙ ap (where_none x) q),
    )

pub looked_more : (items : List ItemTree) (values : List GivenTree) (scope : Scope) (name : List ℕ) (item : ItemTree) (known : KnownTree) (now : List KnownTree) → IsScopeOf items scope → let_for (knowns_of scope.lets.items) name ≡ None → definition_of items name ≡ Some item → told_fault values (frame_of scope) (later_of scope) name item ≡ None → told_known values (frame_of scope) name item ≡ Some known → now ≡ knowns_of scope.lets.items ++ known ∷ []
    → IsLooked items values (knowns_of scope.lets.items) name None now
looked_more items values scope name item known now s n d f k e =
    let t = told_becomes items values scope name item None (Some known) s n d f k in
    record { known = e ∙ sym (ap (λ (o : Option KnownTree). knowns_of scope.lets.items ++ option_to_list o) t.1); told = sym t.0; going = ap stopping t.0 }

pub looked_same : (items : List ItemTree) (values : List GivenTree) (scope : Scope) (name : List ℕ) (item : ItemTree) → IsScopeOf items scope → let_for (knowns_of scope.lets.items) name ≡ None → definition_of items name ≡ Some item → told_fault values (frame_of scope) (later_of scope) name item ≡ None → told_known values (frame_of scope) name item ≡ None
    → IsLooked items values (knowns_of scope.lets.items) name None (knowns_of scope.lets.items)
looked_same items values scope name item s n d f k =
    let t = told_becomes items values scope name item None None s n d f k in
    record { known = none_with items values (knowns_of scope.lets.items) name t.1; told = sym t.0; going = ap stopping t.0 }

-- a fault that a name is not known yet is neither that memory is out nor that an item is too long
ring_memory : (e : ExpandFault) → is_ring e ≡ true → e ≢ fault.Memory
ring_memory e h = λ q. let r : is_ring fault.Memory ≡ true = subst (λ (x : ExpandFault). is_ring x ≡ true) q h in absurd (cc)

going_ring : (e : ExpandFault) → is_ring e ≡ true → stopping (Some e) ≡ None
going_ring e h = ap (λ (b : Bool). if b then None else Some e) h

stops_other : (e : ExpandFault) → is_ring e ≡ false → stopping (Some e) ≡ Some e
stops_other e h = ap (λ (b : Bool). if b then None else Some e) h

pub looked_ring : (items : List ItemTree) (values : List GivenTree) (scope : Scope) (name : List ℕ) (item : ItemTree) (e : ExpandFault) → IsScopeOf items scope → let_for (knowns_of scope.lets.items) name ≡ None → definition_of items name ≡ Some item → IsFirst (told_fault values (frame_of scope) (later_of scope) name item) e → is_ring e ≡ true
    → IsLooked items values (knowns_of scope.lets.items) name (Some e) (knowns_of scope.lets.items)
looked_ring items values scope name item e s n d r h =
    let f : told_fault values (frame_of scope) (later_of scope) name item ≡ Some e = r (ring_memory e h) in
    let t = told_becomes items values scope name item (Some e) (told_known values (frame_of scope) name item) s n d f refl in
    record { known = none_with items values (knowns_of scope.lets.items) name t.1; told = sym t.0; going = ap stopping t.0 ∙ going_ring e h }

pub looked_stop : (items : List ItemTree) (values : List GivenTree) (scope : Scope) (name : List ℕ) (item : ItemTree) (e : ExpandFault) → IsScopeOf items scope → let_for (knowns_of scope.lets.items) name ≡ None → definition_of items name ≡ Some item → IsFirst (told_fault values (frame_of scope) (later_of scope) name item) e → is_ring e ≡ false
    → IsFirst (stopping (fault_of items values (knowns_of scope.lets.items) name)) e
looked_stop items values scope name item e s n d r h = λ m.
    let f : told_fault values (frame_of scope) (later_of scope) name item ≡ Some e = r m in
    let t = told_becomes items values scope name item (Some e) (told_known values (frame_of scope) name item) s n d f refl in
    ap stopping t.0 ∙ stops_other e h

-- one name more that has been looked at
or_assoc : (a b c : Option ExpandFault) → option_or a (option_or b c) ≡ option_or (option_or a b) c
or_assoc None b c = refl
or_assoc (Some x) b c = refl

pub known_step : (items : List ItemTree) (values : List GivenTree) (lets now : List KnownTree) (name : List ℕ) (names : List (List ℕ)) (found : Option ExpandFault) → IsLooked items values lets name found now → known_along items values now names ≡ known_along items values lets (name ∷ names)
known_step items values lets now name names found h = ap (λ (ks : List KnownTree). known_along items values ks names) h.known

pub stop_step : (items : List ItemTree) (values : List GivenTree) (lets now : List KnownTree) (name : List ℕ) (names : List (List ℕ)) (found : Option ExpandFault) → IsLooked items values lets name found now → stop_along items values now names ≡ stop_along items values lets (name ∷ names)
stop_step items values lets now name names found h =
    ap (λ (ks : List KnownTree). stop_along items values ks names) h.known
    ∙ sym (ap (λ (o : Option ExpandFault). option_or o (stop_along items values (with_name items values lets name) names)) h.going)

pub last_step : (items : List ItemTree) (values : List GivenTree) (lets now : List KnownTree) (name : List ℕ) (names : List (List ℕ)) (found lacking : Option ExpandFault) → IsLooked items values lets name found now → option_or (last_along items values now names) (option_or found lacking) ≡ option_or (last_along items values lets (name ∷ names)) lacking
last_step items values lets now name names found lacking h =
    ap (λ (ks : List KnownTree). option_or (last_along items values ks names) (option_or found lacking)) h.known
    ∙ (ap (λ (o : Option ExpandFault). option_or (last_along items values (with_name items values lets name) names) (option_or o lacking)) h.told
    ∙ or_assoc (last_along items values (with_name items values lets name) names) (fault_of items values lets name) lacking)

pub stop_here : (items : List ItemTree) (values : List GivenTree) (lets : List KnownTree) (name : List ℕ) (names : List (List ℕ)) (e : ExpandFault) → IsFirst (stopping (fault_of items values lets name)) e → IsFirst (stop_along items values lets (name ∷ names)) e
stop_here items values lets name names e h = λ m.
    ap (λ (o : Option ExpandFault). option_or o (stop_along items values (with_name items values lets name) names)) (h m)

-- where nothing is added, what is known stays the same
adds : (items : List ItemTree) (values : List GivenTree) (lets : List KnownTree) (names : List (List ℕ)) → (more : List KnownTree) × (known_along items values lets names ≡ lets ++ more)
adds items values lets [] = ([], sym (append-nil lets))
adds items values lets (name ∷ names) =
    let own = option_to_list (becomes items values lets name) in
    let r = adds items values (with_name items values lets name) names in
    (own ++ r.0, r.1 ∙ append_assoc lets own r.0)

none_more : (lets more : List KnownTree) → length (lets ++ more) ≡ length lets → lets ++ more ≡ lets
none_more lets [] h = append-nil lets
none_more lets (k ∷ more) h = let e = length-append lets (k ∷ more) in absurd (omega arith)

pub same_known : (items : List ItemTree) (values : List GivenTree) (lets : List KnownTree) (names : List (List ℕ)) → length (known_along items values lets names) ≡ length lets → known_along items values lets names ≡ lets
same_known items values lets names h =
    let r = adds items values lets names in
    r.1 ∙ none_more lets r.0 (ap length (sym r.1) ∙ h)

zero_plus : (k : ℕ) → 0 + k ≡ k
zero_plus k = omega arith

suc_plus : (m k : ℕ) → suc m + k ≡ suc (m + k)
suc_plus m k = omega arith

-- From then on, however often the names are looked at, nothing is added, and the last fault is the same.
known_still : (items : List ItemTree) (values : List GivenTree) (lets : List KnownTree) (k m : ℕ) → known_after items values lets (suc k) ≡ known_after items values lets k → known_after items values lets (m + k) ≡ known_after items values lets k
known_still items values lets k zero h = ap (known_after items values lets) (zero_plus k)
known_still items values lets k (suc m) h =
    ap (known_after items values lets) (suc_plus m k)
    ∙ (ap (λ (ks : List KnownTree). known_along items values ks (names_defined items)) (known_still items values lets k m h) ∙ h)

or_none : (a b : Option ExpandFault) → a ≡ None → b ≡ None → option_or a b ≡ None
or_none a b h g = ap (λ (o : Option ExpandFault). option_or o b) h ∙ g

stop_still : (items : List ItemTree) (values : List GivenTree) (lets : List KnownTree) (k m : ℕ) → known_after items values lets (suc k) ≡ known_after items values lets k → stop_after items values lets k ≡ None → stop_along items values (known_after items values lets k) (names_defined items) ≡ None → stop_after items values lets (m + k) ≡ None
stop_still items values lets k zero h s a = ap (stop_after items values lets) (zero_plus k) ∙ s
stop_still items values lets k (suc m) h s a =
    ap (stop_after items values lets) (suc_plus m k)
    ∙ or_none (stop_after items values lets (m + k)) (stop_along items values (known_after items values lets (m + k)) (names_defined items)) (stop_still items values lets k m h s a)
    (ap (λ (ks : List KnownTree). stop_along items values ks (names_defined items)) (known_still items values lets k m h) ∙ a)

last_still : (items : List ItemTree) (values : List GivenTree) (lets : List KnownTree) (k m : ℕ) → known_after items values lets (suc k) ≡ known_after items values lets k → last_after items values lets (suc (m + k)) ≡ last_after items values lets (suc k)
last_still items values lets k m h = ap (λ (ks : List KnownTree). last_along items values ks (names_defined items)) (known_still items values lets k m h)

-- a fault that stops is told however often the names would be looked at after it
stop_stays : (items : List ItemTree) (values : List GivenTree) (lets : List KnownTree) (k m : ℕ) (e : ExpandFault) → stop_after items values lets k ≡ Some e → stop_after items values lets (m + k) ≡ Some e
stop_stays items values lets k zero e h = ap (stop_after items values lets) (zero_plus k) ∙ h
stop_stays items values lets k (suc m) e h =
    ap (stop_after items values lets) (suc_plus m k)
    ∙ ap (λ (o : Option ExpandFault). option_or o (stop_along items values (known_after items values lets (m + k)) (names_defined items))) (stop_stays items values lets k m e h)

-- What is known in the end, and the fault that is told.
pub record Ends (items : List ItemTree) (values : List GivenTree) (lets now : List KnownTree) (lacking : Option ExpandFault) : Type 0 where
  pub known : now ≡ settled items values lets
  pub fault : defining_fault items values lets ≡ lacking

-- so many times, of which none stopped
pub ends_at : (items : List ItemTree) (values : List GivenTree) (lets now : List KnownTree) (lacking : Option ExpandFault) (n : ℕ) → n ≡ length (names_defined items) → now ≡ known_after items values lets n → stop_after items values lets n ≡ None → lacking ≡ last_after items values lets n → Ends items values lets now lacking
ends_at items values lets now lacking n e k s l =
    record {
      known = k ∙ ap (known_after items values lets) e;
      fault =
          ap (λ (o : Option ExpandFault). option_or o (last_after items values lets (length (names_defined items)))) (subst (λ (m : ℕ). stop_after items values lets m ≡ None) e s)
          ∙ (ap (last_after items values lets) (sym e) ∙ sym l);
    }

-- or before that, where nothing was added
pub ends_early : (items : List ItemTree) (values : List GivenTree) (lets now : List KnownTree) (lacking : Option ExpandFault) (k m n : ℕ) → n ≡ suc (m + k) → n ≡ length (names_defined items) → stop_after items values lets k ≡ None → IsPassed items values (known_after items values lets k) (names_defined items) lacking now → length now ≡ length (known_after items values lets k) → Ends items values lets now lacking
ends_early items values lets now lacking k m n e d s p b =
    let l = known_after items values lets k in
    let f : n ≡ suc m + k = e ∙ sym (suc_plus m k) in
    let same : known_after items values lets (suc k) ≡ l = same_known items values l (names_defined items) (ap length (sym p.known) ∙ b) in
    ends_at items values lets now lacking n d
    (p.known ∙ (same ∙ sym (ap (known_after items values lets) f ∙ known_still items values lets k (suc m) same)))
    (ap (stop_after items values lets) f ∙ stop_still items values lets k (suc m) same s p.going)
    (p.told ∙ sym (ap (last_after items values lets) e ∙ last_still items values lets k m same))

-- a fault that stops at one of the times
pub ends_stopped : (items : List ItemTree) (values : List GivenTree) (lets : List KnownTree) (k m n : ℕ) (end : ExpandFault) → n ≡ m + suc k → n ≡ length (names_defined items) → stop_after items values lets k ≡ None → IsFirst (stop_along items values (known_after items values lets k) (names_defined items)) end → IsFirst (defining_fault items values lets) end
ends_stopped items values lets k m n end e d s h = λ x.
    let one : stop_after items values lets (suc k) ≡ Some end =
    ap (λ (o : Option ExpandFault). option_or o (stop_along items values (known_after items values lets k) (names_defined items))) s ∙ h x in
    let all : stop_after items values lets (length (names_defined items)) ≡ Some end =
    ap (stop_after items values lets) (sym d ∙ e) ∙ stop_stays items values lets (suc k) m end one in
    ap (λ (o : Option ExpandFault). option_or o (last_after items values lets (length (names_defined items)))) all

-- a scope whose lets alone are others
pub scope_same : (items : List ItemTree) (old now : Scope) → IsScopeOf items old → now.fields ≡ old.fields → now.draws ≡ old.draws → now.later ≡ old.later → IsScopeOf items now
scope_same items old now h f d l =
    record {
      draws = ap (λ ds. ds.items) d ∙ h.draws;
      fields = ap (λ fs. map string_bytes fs.items) f ∙ h.fields;
      later = ap (λ ns. map string_bytes ns.items) l ∙ h.later;
    }

-- what is told in the end
pub ends_known : {X : Type 0} (r : Result X ExpandFault) (items : List ItemTree) (values : List GivenTree) (lets now : List KnownTree) (lacking : Option ExpandFault) → Ends items values lets now lacking → OnOk r (now ≡ settled items values lets)
ends_known (Ok x) items values lets now lacking h = h.known
ends_known (Err x) items values lets now lacking h = tt

pub ends_faultless : {X : Type 0} (r : Result X ExpandFault) (items : List ItemTree) (values : List GivenTree) (lets now : List KnownTree) (lacking : Option ExpandFault) → Ends items values lets now lacking → OnOk r (lacking ≡ None) → OnOk r (defining_fault items values lets ≡ None)
ends_faultless (Ok x) items values lets now lacking h n = h.fault ∙ n
ends_faultless (Err x) items values lets now lacking h n = tt

pub ends_refused : {X : Type 0} (r : Result X ExpandFault) (items : List ItemTree) (values : List GivenTree) (lets now : List KnownTree) (lacking : Option ExpandFault) → Ends items values lets now lacking → IfErr r (λ e. lacking ≡ Some e) → IfErr r (IsFirst (defining_fault items values lets))
ends_refused (Ok x) items values lets now lacking h n = tt
ends_refused (Err x) items values lets now lacking h n = λ m. h.fault ∙ n

-- a pass over all names, so many times after the first
pub pass_at : (items : List ItemTree) (values : List GivenTree) (lets l now : List KnownTree) (names : List (List ℕ)) (found : Option ExpandFault) (k : ℕ) → l ≡ known_after items values lets k → names ≡ names_defined items → IsPassed items values l names found now → IsPassed items values (known_after items values lets k) (names_defined items) found now
pass_at items values lets l now names found k e n h =
    subst (λ (ns : List (List ℕ)). IsPassed items values (known_after items values lets k) ns found now) n (subst (λ (ks : List KnownTree). IsPassed items values ks names found now) e h)

pub first_at : (items : List ItemTree) (values : List GivenTree) (lets l : List KnownTree) (names : List (List ℕ)) (k : ℕ) (end : ExpandFault) → l ≡ known_after items values lets k → names ≡ names_defined items → IsFirst (stop_along items values l names) end → IsFirst (stop_along items values (known_after items values lets k) (names_defined items)) end
first_at items values lets l names k end e n h =
    subst (λ (ns : List (List ℕ)). IsFirst (stop_along items values (known_after items values lets k) ns) end) n (subst (λ (ks : List KnownTree). IsFirst (stop_along items values ks names) end) e h)

-- one time more
next_is : (k : ℕ) → k + 1 ≡ suc k
next_is k = omega arith

pub after_known : (items : List ItemTree) (values : List GivenTree) (lets now : List KnownTree) (found : Option ExpandFault) (k : ℕ) → IsPassed items values (known_after items values lets k) (names_defined items) found now → now ≡ known_after items values lets (k + 1)
after_known items values lets now found k h = h.known ∙ ap (known_after items values lets) (sym (next_is k))

pub after_going : (items : List ItemTree) (values : List GivenTree) (lets now : List KnownTree) (found : Option ExpandFault) (k : ℕ) → stop_after items values lets k ≡ None → IsPassed items values (known_after items values lets k) (names_defined items) found now → stop_after items values lets (k + 1) ≡ None
after_going items values lets now found k s h =
    ap (stop_after items values lets) (next_is k)
    ∙ or_none (stop_after items values lets k) (stop_along items values (known_after items values lets k) (names_defined items)) s h.going

pub after_last : (items : List ItemTree) (values : List GivenTree) (lets now : List KnownTree) (found : Option ExpandFault) (k : ℕ) → IsPassed items values (known_after items values lets k) (names_defined items) found now → found ≡ last_after items values lets (k + 1)
after_last items values lets now found k h = h.told ∙ ap (last_after items values lets) (sym (next_is k))

-- how often that is, by a bound
pub early : (items : List ItemTree) (values : List GivenTree) (lets now : List KnownTree) (found : Option ExpandFault) (k n : ℕ) → k < n → n ≡ length (names_defined items) → stop_after items values lets k ≡ None → IsPassed items values (known_after items values lets k) (names_defined items) found now → length now ≡ length (known_after items values lets k) → Ends items values lets now found
early items values lets now found k n b d s h l = ends_early items values lets now found k (n - suc k) n (omega arith) d s h l

pub stopped : (items : List ItemTree) (values : List GivenTree) (lets : List KnownTree) (k n : ℕ) (end : ExpandFault) → k < n → n ≡ length (names_defined items) → stop_after items values lets k ≡ None → IsFirst (stop_along items values (known_after items values lets k) (names_defined items)) end → IsFirst (defining_fault items values lets) end
stopped items values lets k n end b d s h = ends_stopped items values lets k (n - suc k) n end (omega arith) d s h

-- a name that is known, or not
there_by : (items : List ItemTree) (values : List GivenTree) (lets : List KnownTree) (name : List ℕ) (o : Option KnownTree) → let_for lets name ≡ o → is_some o ≡ true → IsLooked items values lets name None lets
there_by items values lets name None e g = absurd (cc)
there_by items values lets name (Some known) e g = looked_known items values lets name known e

pub looked_there : (items : List ItemTree) (values : List GivenTree) (lets : List KnownTree) (name : List ℕ) → is_some (let_for lets name) ≡ true → IsLooked items values lets name None lets
looked_there items values lets name h = there_by items values lets name (let_for lets name) refl h

pub not_there : (o : Option KnownTree) → is_some o ≡ false → o ≡ None
not_there None h = refl
not_there (Some known) h = absurd (cc)

-- lets that are the same as these
pub looked_now : (items : List ItemTree) (values : List GivenTree) (lets now other : List KnownTree) (name : List ℕ) (found : Option ExpandFault) → other ≡ now → IsLooked items values lets name found now → IsLooked items values lets name found other
looked_now items values lets now other name found e h = subst (λ (ks : List KnownTree). IsLooked items values lets name found ks) (sym e) h
