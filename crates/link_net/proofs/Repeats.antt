-- Links that join the same two nodes, found by the map of the nodes joined so far to the numbers of their links.
use Rattle.std.proofs.Common.{◌≡◌, ◌∙◌, ℕ, ◌+◌, ◌<◌, ◌≤◌, ◌==◌, zero, suc, add-one, Bool, true, false, cond, ◌&&◌, ◌||◌, List, [], ◌∷◌, ◌++◌, length, get_or, take, drop, Option, Some, None, is_some, IfSome, Ordering, is_eq, nat_cmp, BTreeMap, refl, sym, ap, subst, arith}
use Rattle.std.specs.Prelude.{slice_get, min, max, IsSomeAnd}
use Rattle.std.specs.BTreeMap.{get}
use Rattle.std.specs.Cmp.{both_tied, unsigned_ties}
use Rattle.std.specs.List.{list_any}
use Rattle.std.specs.Ordering.{ordering_then}
use Rattle.std.proofs.lemmas.Bool.Decides.{nat_tests}
use Rattle.std.proofs.lemmas.List.{take-append-drop}
use Rattle.std.proofs.lemmas.Option.{slice_get-get_or}
use Rattle.link_net.specs.Arcs.{Arc}
use Rattle.link_net.specs.Causes.{AreTwice}
use Rattle.link_net.specs.Links.{joins, has_link_twice}

-- the two nodes that a link joins, the lesser first
abbrev pub ends : Arc → ℕ × ℕ
ends l = (min l.0 l.1, max l.0 l.1)

abbrev pub ends_cmp : ℕ × ℕ → ℕ × ℕ → Ordering
ends_cmp p q = ordering_then (nat_cmp p.0 q.0) (nat_cmp p.1 q.1)

-- the link that two nodes were seen at
abbrev pub seen_at : BTreeMap (ℕ × ℕ) ℕ → ℕ × ℕ → Option ℕ
seen_at seen p = get ends_cmp seen p

-- a link with the same ends was seen
abbrev pub was_seen : BTreeMap (ℕ × ℕ) ℕ → Arc → Bool
was_seen seen l = is_some (seen_at seen (ends l))

-- one of these links was seen, or stands twice
abbrev pub comes_again : BTreeMap (ℕ × ℕ) ℕ → List Arc → Bool
comes_again seen links = list_any (was_seen seen) links || has_link_twice links

-- the link before number k that joins the same two nodes as l
abbrev pub IsBefore : List Arc → ℕ → Arc → ℕ → Type 0
IsBefore links k l e = (e < k) × IsSomeAnd (slice_get links e) (λ x. joins x.0 x.1 l ≡ true)

-- whatever follows the links before number k, seen are those among them that a later link repeats
pub record Seen (links : List Arc) (k : ℕ) (seen : BTreeMap (ℕ × ℕ) ℕ) : Type 0 where
  pub left : (rest : List Arc) → comes_again seen rest ≡ has_link_twice (take k links ++ rest)
  pub earlier : (l : Arc) → IfSome (seen_at seen (ends l)) (IsBefore links k l)

-- tests that hold together are equal
same_tests : (a b : Bool) → (a ≡ true → b ≡ true) → (b ≡ true → a ≡ true) → a ≡ b
same_tests true b to from = sym (to refl)
same_tests false true to from = from refl
same_tests false false to from = refl

-- two links join the same two nodes where their ends are the same, the lesser first
same_ends : (a b u w : ℕ) → ((min a b == min u w) && (max a b == max u w)) ≡ ((a == u && b == w) || (a == w && b == u))
same_ends a b u w = grind (arith, nat_tests)

joins_ends : (l x : Arc) → is_eq (ends_cmp (ends l) (ends x)) ≡ joins l.0 l.1 x
joins_ends l x =
    sym (both_tied (min l.0 l.1 == min x.0 x.1) (max l.0 l.1 == max x.0 x.1) (nat_cmp (min l.0 l.1) (min x.0 x.1)) (nat_cmp (max l.0 l.1) (max x.0 x.1)) (unsigned_ties (min l.0 l.1) (min x.0 x.1)) (unsigned_ties (max l.0 l.1) (max x.0 x.1)))
    ∙ same_ends l.0 l.1 x.0 x.1

if_none : (P : ℕ → Type 0) (o : Option ℕ) → o ≡ None → IfSome o P
if_none P None e = tt
if_none P (Some x) e = absurd (cc)

if_more : (P Q : ℕ → Type 0) (o : Option ℕ) → ((x : ℕ) → P x → Q x) → IfSome o P → IfSome o Q
if_more P Q None more h = tt
if_more P Q (Some x) more h = more x h

if_either : (P : ℕ → Type 0) (b : Bool) (k : ℕ) (o : Option ℕ) → (b ≡ true → P k) → IfSome o P → IfSome (cond b (Some k) o) P
if_either P true k o here there = here refl
if_either P false k o here there = there

some_either : (b : Bool) (k : ℕ) (o : Option ℕ) → is_some (cond b (Some k) o) ≡ (b || is_some o)
some_either true k o = refl
some_either false k o = refl

-- no value is none
pub none_of : {X : Type 0} (o : Option X) → ((x : X) → o ≡ Some x → ⊥) → o ≡ None
none_of None never = refl
none_of (Some x) never = absurd (never x refl)

-- at first none was seen
pub seen_first : (links : List Arc) (seen : BTreeMap (ℕ × ℕ) ℕ) → ((p : ℕ × ℕ) → seen_at seen p ≡ None) → Seen links 0 seen
seen_first links seen none = record {
  left = λ rest. ap (λ b. b || has_link_twice rest) (none_seen rest);
  earlier = λ l. if_none (IsBefore links 0 l) (seen_at seen (ends l)) (none (ends l));
} where
  none_seen : (rest : List Arc) → list_any (was_seen seen) rest ≡ false
  none_seen [] = refl
  none_seen (x ∷ xs) = rw (none (ends x)) (none_seen xs)

-- one more link is seen
or_exchange : (a b c d : Bool) → ((a || b) || (c || d)) ≡ ((a || c) || (b || d))
or_exchange true b c d = refl
or_exchange false true true d = refl
or_exchange false true false d = refl
or_exchange false false c d = refl

one_seen : (before after : Arc → Bool) (l : Arc) (xs : List Arc) → ((x : Arc) → after x ≡ (joins l.0 l.1 x || before x)) → list_any after xs ≡ (list_any (joins l.0 l.1) xs || list_any before xs)
one_seen before after l [] one = refl
one_seen before after l (x ∷ xs) one =
    ap (λ b. b || list_any after xs) (one x)
    ∙ ap (λ b. (joins l.0 l.1 x || before x) || b) (one_seen before after l xs one)
    ∙ or_exchange (joins l.0 l.1 x) (before x) (list_any (joins l.0 l.1) xs) (list_any before xs)

last_step : (a b c : Bool) → ((a || b) || c) ≡ (b || (a || c))
last_step true true c = refl
last_step true false c = refl
last_step false b c = refl

seen_more : (before after : Arc → Bool) (l : Arc) (xs : List Arc) → ((x : Arc) → after x ≡ (joins l.0 l.1 x || before x)) → before l ≡ false
    → (list_any after xs || has_link_twice xs) ≡ (list_any before (l ∷ xs) || has_link_twice (l ∷ xs))
seen_more before after l xs one new =
    ap (λ b. b || has_link_twice xs) (one_seen before after l xs one)
    ∙ last_step (list_any (joins l.0 l.1) xs) (list_any before xs) (has_link_twice xs)
    ∙ ap (λ b. (b || list_any before xs) || (list_any (joins l.0 l.1) xs || has_link_twice xs)) (sym new)

-- the link at its place, before those that follow
taken : (links : List Arc) (k : ℕ) (l : Arc) (rest : List Arc) → slice_get links k ≡ Some l → take (suc k) links ++ rest ≡ take k links ++ (l ∷ rest)
taken [] k l rest here = cc
taken (x ∷ xs) zero l rest here = let same : x ≡ l = cc in rw same refl
taken (x ∷ xs) (suc k) l rest here = ap (λ ys. x ∷ ys) (taken xs k l rest here)

here_joined : (links : List Arc) (k : ℕ) (l x : Arc) → slice_get links k ≡ Some l → joins l.0 l.1 x ≡ true → IsSomeAnd (slice_get links k) (λ y. joins y.0 y.1 x ≡ true)
here_joined links k l x here joined = rw here joined

pub seen_next : (links : List Arc) (k : ℕ) (before after : BTreeMap (ℕ × ℕ) ℕ) (l : Arc) → slice_get links k ≡ Some l → seen_at before (ends l) ≡ None
    → ((p : ℕ × ℕ) → seen_at after p ≡ cond (is_eq (ends_cmp (ends l) p)) (Some k) (seen_at before p)) → Seen links k before → Seen links (k + 1) after
seen_next links k before after l here new put h = record {
  left = λ rest.
      seen_more (was_seen before) (was_seen after) l rest (λ x. ap is_some (put_link x) ∙ some_either (joins l.0 l.1 x) k (seen_at before (ends x))) (ap is_some new)
      ∙ h.left (l ∷ rest)
      ∙ ap has_link_twice (sym (taken links k l rest here))
      ∙ ap (λ n. has_link_twice (take n links ++ rest)) (sym (add-one k));
  earlier = λ x.
      subst (λ o. IfSome o (IsBefore links (k + 1) x)) (sym (put_link x))
      (if_either (IsBefore links (k + 1) x) (joins l.0 l.1 x) k (seen_at before (ends x))
      (λ e. (omega arith, here_joined links k l x here e))
      (if_more (IsBefore links k x) (IsBefore links (k + 1) x) (seen_at before (ends x)) (λ e was. let less : e < k = was.0 in (omega arith, was.1)) (h.earlier x)));
} where
  put_link : (x : Arc) → seen_at after (ends x) ≡ cond (joins l.0 l.1 x) (Some k) (seen_at before (ends x))
  put_link x = put (ends x) ∙ ap (λ b. cond b (Some k) (seen_at before (ends x))) (joins_ends l x)

-- a link joins the same two nodes as an earlier one, and no link before it does
pub record Again (links : List Arc) (k e : ℕ) : Type 0 where
  pub some : has_link_twice links ≡ true
  pub twice : AreTwice links e k
  pub first : has_link_twice (take k links) ≡ false

append_none : (xs : List Arc) → xs ++ [] ≡ xs
append_none [] = refl
append_none (x ∷ xs) = ap (λ ys. x ∷ ys) (append_none xs)

-- no two of the links before this one join the same two nodes
before_differ : (links : List Arc) (k : ℕ) (seen : BTreeMap (ℕ × ℕ) ℕ) → Seen links k seen → has_link_twice (take k links) ≡ false
before_differ links k seen h = sym (ap has_link_twice (append_none (take k links))) ∙ sym (h.left [])

dropped : (links : List Arc) (k : ℕ) (l : Arc) → slice_get links k ≡ Some l → drop k links ≡ l ∷ drop (suc k) links
dropped [] k l here = cc
dropped (x ∷ xs) zero l here = let same : x ≡ l = cc in rw same refl
dropped (x ∷ xs) (suc k) l here = dropped xs k l here

some_joined : (links : List Arc) (k e : ℕ) (l : Arc) → slice_get links k ≡ Some l → IsSomeAnd (slice_get links e) (λ x. joins x.0 x.1 l ≡ true)
    → IsSomeAnd (slice_get links e) (λ x. IsSomeAnd (slice_get links k) (λ y. joins x.0 x.1 y ≡ true))
some_joined links k e l here joined = rw here joined

pub seen_again : (links : List Arc) (k : ℕ) (seen : BTreeMap (ℕ × ℕ) ℕ) (l : Arc) (e : ℕ) → slice_get links k ≡ Some l → seen_at seen (ends l) ≡ Some e → Seen links k seen → Again links k e
seen_again links k seen l e here old h =
    let was : IsBefore links k l e = subst (λ o. IfSome o (IsBefore links k l)) old (h.earlier l) in
    let rest = drop (suc k) links in
    let found : comes_again seen (l ∷ rest) ≡ true = ap (λ o. (is_some o || list_any (was_seen seen) rest) || has_link_twice (l ∷ rest)) old in
    record {
      some =
          ap has_link_twice (sym (take-append-drop k links))
          ∙ sym (h.left (drop k links))
          ∙ ap (comes_again seen) (dropped links k l here)
          ∙ found;
      twice = (was.0, some_joined links k e l here was.1);
      first = before_differ links k seen h;
    }

take_all : (links : List Arc) (k : ℕ) → length links ≤ k → take k links ≡ links
take_all [] zero past = refl
take_all [] (suc k) past = refl
take_all (x ∷ xs) zero past = absurd (omega arith)
take_all (x ∷ xs) (suc k) past = ap (λ ys. x ∷ ys) (take_all xs k (omega arith))

-- at the end no two links join the same two nodes
pub seen_last : (links : List Arc) (k : ℕ) (seen : BTreeMap (ℕ × ℕ) ℕ) → length links ≤ k → Seen links k seen → has_link_twice links ≡ false
seen_last links k seen past h = ap has_link_twice (sym (take_all links k past)) ∙ before_differ links k seen h

-- the link at a place of the list, by its ends
abbrev at_place : List Arc → ℕ → Arc
at_place links k = get_or links k (0, 0, 0)

ends_at : (links : List Arc) (k first second : ℕ) → first ≡ min (at_place links k).0 (at_place links k).1 → second ≡ max (at_place links k).0 (at_place links k).1 → ends (at_place links k) ≡ (first, second)
ends_at links k first second lesser greater = rw (lesser, greater) refl

pub found_again : (links : List Arc) (k : ℕ) (seen : BTreeMap (ℕ × ℕ) ℕ) (first second e : ℕ) (found : Option ℕ) → k < length links
    → first ≡ min (at_place links k).0 (at_place links k).1 → second ≡ max (at_place links k).0 (at_place links k).1 → found ≡ seen_at seen (first, second) → found ≡ Some e → Seen links k seen → Again links k e
found_again links k seen first second e found low lesser greater old is h =
    seen_again links k seen (at_place links k) e (slice_get-get_or links k (0, 0, 0) low) (ap (seen_at seen) (ends_at links k first second lesser greater) ∙ sym old ∙ is) h

pub put_next : (links : List Arc) (k : ℕ) (before after : BTreeMap (ℕ × ℕ) ℕ) (first second : ℕ) (found : Option ℕ) → k < length links
    → first ≡ min (at_place links k).0 (at_place links k).1 → second ≡ max (at_place links k).0 (at_place links k).1 → found ≡ seen_at before (first, second) → found ≡ None
    → ((p : ℕ × ℕ) → seen_at after p ≡ cond (is_eq (ends_cmp (first, second) p)) (Some k) (seen_at before p)) → Seen links k before → Seen links (k + 1) after
put_next links k before after first second found low lesser greater old none put h =
    let same = ends_at links k first second lesser greater in
    seen_next links k before after (at_place links k) (slice_get-get_or links k (0, 0, 0) low) (ap (seen_at before) same ∙ sym old ∙ none)
    (λ p. put p ∙ ap (λ q. cond (is_eq (ends_cmp q p)) (Some k) (seen_at before p)) (sym same)) h
