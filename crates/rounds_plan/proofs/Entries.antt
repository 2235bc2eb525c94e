-- Nodes that stand twice, found by the entry that each node was met at.
use Rattle.std.proofs.Common.{◌≡◌, ℕ, ◌+◌, ◌<◌, ◌≤◌, Bool, true, false, ◌||◌, List, [], ◌∷◌, length, zero, suc, set, get_or, drop, map, replicate, Option, Some, None, is_some, IfSome, IsSomeAnd, slice_get, refl, sym, ap, ◌∙◌, subst, arith, add-one, ℤ, cond, get_or-set_same, get_or-set_other, inl, inr}
use Rattle.std.specs.Prelude.{if◌then◌else◌}
use Rattle.std.specs.List.{list_any, position_from}
use Rattle.std.proofs.lemmas.List.{map-set, drop_all, length-replicate}
use Rattle.std.proofs.lemmas.Bool.{cases_eq}
use Rattle.rounds_plan.specs.declared.fault.PlanFault.{PlanFault}
use Rattle.rounds_plan.specs.Plans.{has_number_twice, nodes_in, number_of}
use Rattle.rounds_plan.specs.PlanCauses.{first_place, IsNodeRepeat}
use Rattle.rounds_plan.proofs.Marks.{twice_from, twice_any, AllBelow, marked, either}

-- a search finds a place where some element passes
some_step : (b : Bool) (k : ℕ) (o : Option ℕ) → is_some (cond b (Some k) o) ≡ (b || is_some o)
some_step true k o = refl
some_step false k o = refl

pub any_place : {X : Type 0} (test : X → Bool) (k : ℕ) (xs : List X) → is_some (position_from test k xs) ≡ list_any test xs
any_place test k [] = refl
any_place test k (x ∷ xs) =
    some_step (test x) k (position_from test (k + 1) xs) ∙ ap (λ b. test x || b) (any_place test (k + 1) xs)

-- a search that finds a place, and one that finds none
pub holds : (test : Bool) (fault : PlanFault) (place : Option ℕ) (k : ℕ) → is_some place ≡ test → place ≡ Some k → Some fault ≡ (if test then Some fault else None)
holds true fault place k e some = refl
holds false fault place k e some = let no : true ≡ false = sym (ap is_some some) ∙ e in cc

pub fails : (test : Bool) (fault : PlanFault) (place : Option ℕ) → is_some place ≡ test → place ≡ None → None ≡ (if test then Some fault else None)
fails true fault place e none = let no : false ≡ true = sym (ap is_some none) ∙ e in cc
fails false fault place e none = refl

-- the element at its place
pub place_at : {X : Type 0} (xs : List X) (k : ℕ) (d : X) → k < length xs → slice_get xs k ≡ Some (get_or xs k d)
place_at [] k d h = absurd (omega arith)
place_at (x ∷ xs) zero d h = refl
place_at (x ∷ xs) (suc k) d h = place_at xs k d (omega arith)

pub node_at : (pairs : List (ℤ × ℤ)) (k : ℕ) (d : ℤ × ℤ) → k < length pairs → slice_get (nodes_in pairs) k ≡ Some (number_of (get_or pairs k d).0)
node_at [] k d h = absurd (omega arith)
node_at (p ∷ pairs) zero d h = refl
node_at (p ∷ pairs) (suc k) d h = node_at pairs k d (omega arith)

dropped : {X : Type 0} (xs : List X) (k : ℕ) (x : X) → slice_get xs k ≡ Some x → drop k xs ≡ x ∷ drop (suc k) xs
dropped [] k x e = cc
dropped (y ∷ xs) zero x e = let same : y ≡ x = cc in ap (λ z. z ∷ xs) same
dropped (y ∷ xs) (suc k) x e = dropped xs k x e

drop_at_place : {X : Type 0} (xs : List X) (k : ℕ) (x : X) → slice_get xs k ≡ Some x → drop k xs ≡ x ∷ drop (k + 1) xs
drop_at_place xs k x e = dropped xs k x e ∙ ap (λ j. x ∷ drop j xs) (sym (add-one k))

-- a place that is found is that of an element that passes, and with none found no element passes
pub some_place : {X : Type 0} (test : X → Bool) (xs : List X) (k : ℕ) → first_place test xs ≡ Some k → list_any test xs ≡ true
some_place test xs k e = sym (any_place test 0 xs) ∙ ap is_some e

pub no_place : {X : Type 0} (test : X → Bool) (xs : List X) → first_place test xs ≡ None → list_any test xs ≡ false
no_place test xs e = sym (any_place test 0 xs) ∙ ap is_some e

-- a search that comes to an element that passes, to one that fails, and to the end
pub search_found : {X : Type 0} (test : X → Bool) (xs : List X) (k : ℕ) (x : X) → slice_get xs k ≡ Some x → test x ≡ true → position_from test k (drop k xs) ≡ first_place test xs → first_place test xs ≡ Some k
search_found test xs k x at passes left =
    sym left
    ∙ ap (position_from test k) (drop_at_place xs k x at)
    ∙ ap (λ b. cond b (Some k) (position_from test (k + 1) (drop (k + 1) xs))) passes

pub search_more : {X : Type 0} (test : X → Bool) (xs : List X) (k : ℕ) (x : X) → slice_get xs k ≡ Some x → test x ≡ false → position_from test k (drop k xs) ≡ first_place test xs → position_from test (k + 1) (drop (k + 1) xs) ≡ first_place test xs
search_more test xs k x at fails left =
    ap (λ b. cond b (Some k) (position_from test (k + 1) (drop (k + 1) xs))) (sym fails)
    ∙ ap (position_from test k) (sym (drop_at_place xs k x at))
    ∙ left

pub search_end : {X : Type 0} (test : X → Bool) (xs : List X) (k : ℕ) → length xs ≤ k → position_from test k (drop k xs) ≡ first_place test xs → first_place test xs ≡ None
search_end test xs k past left = sym left ∙ ap (position_from test k) (drop_all k xs past)

-- a test of what is left, at an element that passes, at one that fails, and at the end
pub any_found : {X : Type 0} (test : X → Bool) (xs : List X) (k : ℕ) (x : X) → slice_get xs k ≡ Some x → test x ≡ true → list_any test (drop k xs) ≡ list_any test xs → list_any test xs ≡ true
any_found test xs k x at passes left =
    sym left ∙ ap (list_any test) (drop_at_place xs k x at) ∙ ap (λ b. b || list_any test (drop (k + 1) xs)) passes

pub any_more : {X : Type 0} (test : X → Bool) (xs : List X) (k : ℕ) (x : X) → slice_get xs k ≡ Some x → test x ≡ false → list_any test (drop k xs) ≡ list_any test xs → list_any test (drop (k + 1) xs) ≡ list_any test xs
any_more test xs k x at fails left =
    ap (λ b. b || list_any test (drop (k + 1) xs)) (sym fails) ∙ ap (list_any test) (sym (drop_at_place xs k x at)) ∙ left

pub any_end : {X : Type 0} (test : X → Bool) (xs : List X) (k : ℕ) → length xs ≤ k → list_any test (drop k xs) ≡ list_any test xs → list_any test xs ≡ false
any_end test xs k past left = sym left ∙ ap (list_any test) (drop_all k xs past)

-- where nothing that is left passes, neither does the next element nor what is after it
pub none_left : {X : Type 0} (test : X → Bool) (xs : List X) (k : ℕ) (x : X) → slice_get xs k ≡ Some x → list_any test (drop k xs) ≡ false → (test x ≡ false) × (list_any test (drop (k + 1) xs) ≡ false)
none_left test xs k x at none =
    either (test x) (list_any test (drop (k + 1) xs)) (ap (list_any test) (sym (drop_at_place xs k x at)) ∙ none)

-- what holds of the element at a place
pub at_element : {X : Type 0} (o : Option X) (x : X) (P : X → Type 0) → o ≡ Some x → P x → IsSomeAnd o P
at_element o x P e h = subst (λ q. IsSomeAnd q P) (sym e) h

-- which nodes were met
abbrev pub marks : List (Option ℕ) → List Bool
marks seen = map is_some seen

marks_at : (seen : List (Option ℕ)) (u : ℕ) → get_or (marks seen) u false ≡ is_some (get_or seen u None)
marks_at [] u = refl
marks_at (o ∷ seen) zero = refl
marks_at (o ∷ seen) (suc u) = marks_at seen u

marks_none : (n : ℕ) → marks (replicate n None) ≡ replicate n false
marks_none zero = refl
marks_none (suc n) = ap (λ bs. false ∷ bs) (marks_none n)

-- the entry before this one that a node was met at
abbrev pub IsMet : List ℕ → ℕ → ℕ → ℕ → Type 0
IsMet nodes k u earlier = (earlier < k) × (slice_get nodes earlier ≡ Some u)

-- the nodes of the entries before this one differ, and these are the ones that were met
pub record Entered (nodes : List ℕ) (k : ℕ) (seen : List (Option ℕ)) : Type 0 where
  pub left : twice_from (marks seen) (drop k nodes) ≡ has_number_twice nodes
  pub earlier : (u : ℕ) → IfSome (get_or seen u None) (IsMet nodes k u)

if_none : (P : ℕ → Type 0) (o : Option ℕ) → o ≡ None → IfSome o P
if_none P None e = tt
if_none P (Some x) e = absurd (cc)

if_more : (P Q : ℕ → Type 0) (o : Option ℕ) → ((x : ℕ) → P x → Q x) → IfSome o P → IfSome o Q
if_more P Q None more h = tt
if_more P Q (Some x) more h = more x h

-- a node that was not met has no entry
abbrev no_entry : Option ℕ
no_entry = None

none_at : (n u : ℕ) → get_or (replicate n no_entry) u no_entry ≡ no_entry
none_at zero u = refl
none_at (suc n) zero = refl
none_at (suc n) (suc u) = none_at n u

unmarked : (n : ℕ) (xs : List ℕ) → marked (replicate n false) xs ≡ false
unmarked n [] = refl
unmarked n (x ∷ xs) = ap (λ b. b || marked (replicate n false) xs) (false_at n x) ∙ unmarked n xs
  where
    false_at : (m u : ℕ) → get_or (replicate m false) u false ≡ false
    false_at zero u = refl
    false_at (suc m) zero = refl
    false_at (suc m) (suc u) = false_at m u

-- at first none was met
pub entered_first : (nodes : List ℕ) (n : ℕ) (seen : List (Option ℕ)) → seen ≡ replicate n None → AllBelow n nodes → Entered nodes 0 seen
entered_first nodes n seen fresh below =
    let empty : marks seen ≡ replicate n false = ap marks fresh ∙ marks_none n in
    record {
      left =
          ap (λ s. twice_from s nodes) empty
          ∙ twice_any (replicate n false) nodes (subst (λ m. AllBelow m nodes) (sym (length-replicate n false)) below)
          ∙ ap (λ b. b || has_number_twice nodes) (unmarked n nodes);
      earlier = λ u. if_none (IsMet nodes 0 u) (get_or seen u None) (ap (λ s. get_or s u None) fresh ∙ none_at n u);
    }

-- one more node is met, at its entry
pub entered_next : (nodes : List ℕ) (k : ℕ) (seen : List (Option ℕ)) (node : ℕ) → slice_get nodes k ≡ Some node → node < length seen → get_or seen node None ≡ None → Entered nodes k seen → Entered nodes (k + 1) (set seen node (Some k))
entered_next nodes k seen node at within new h = record {
  left =
      ap (λ s. twice_from s (drop (k + 1) nodes)) (map-set is_some seen node (Some k))
      ∙ ap (λ b. b || twice_from (set (marks seen) node true) (drop (k + 1) nodes)) (sym (marks_at seen node ∙ ap is_some new))
      ∙ ap (twice_from (marks seen)) (sym (drop_at_place nodes k node at))
      ∙ h.left;
  earlier = λ u.
      elim (cases_eq u node) [
        | inl same ↦
            let here : get_or (set seen node (Some k)) u None ≡ Some k = ap (λ v. get_or (set seen node (Some k)) v None) same ∙ get_or-set_same seen node (Some k) None within in
            subst (λ o. IfSome o (IsMet nodes (k + 1) u)) (sym here) (omega arith, at ∙ ap (λ v. Some v) (sym same))
        | inr other ↦
            let there : get_or (set seen node (Some k)) u None ≡ get_or seen u None = get_or-set_other seen node u (Some k) None other in
            subst (λ o. IfSome o (IsMet nodes (k + 1) u)) (sym there)
            (if_more (IsMet nodes k u) (IsMet nodes (k + 1) u) (get_or seen u None) (λ x met. let less : x < k = met.0 in (omega arith, met.1)) (h.earlier u))
      ];
}

-- an entry is of a node that was met
pub record Again (pairs : List (ℤ × ℤ)) (k earlier : ℕ) : Type 0 where
  pub twice : has_number_twice (nodes_in pairs) ≡ true
  pub repeat : IsNodeRepeat pairs k earlier

pub entered_again : (pairs : List (ℤ × ℤ)) (k : ℕ) (seen : List (Option ℕ)) (node earlier : ℕ) → slice_get (nodes_in pairs) k ≡ Some node → get_or seen node None ≡ Some earlier → Entered (nodes_in pairs) k seen → Again pairs k earlier
entered_again pairs k seen node earlier at old h =
    let nodes = nodes_in pairs in
    let met : IsMet nodes k node earlier = subst (λ o. IfSome o (IsMet nodes k node)) old (h.earlier node) in
    record {
      twice =
          sym h.left
          ∙ ap (twice_from (marks seen)) (drop_at_place nodes k node at)
          ∙ ap (λ b. b || twice_from (set (marks seen) node true) (drop (k + 1) nodes)) (marks_at seen node ∙ ap is_some old);
      repeat = (met.0, ap is_some at, met.1 ∙ sym at);
    }
