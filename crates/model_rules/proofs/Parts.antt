-- How many parts are left, and what is told where they run out.
use Rattle.std.proofs.Common.{◌≡◌, ◌<◌, ◌≤◌, ℕ, ◌+◌, List, refl, sym, ap, ◌∙◌, subst, arith, [], ◌∷◌, ◌++◌}
use Rattle.std.specs.Prelude.{Bool, true, false, Option, Some, None, nat_lt, Result, Ok, Err, IfErr, OnOk, ◌≢◌, slice_get}
use Rattle.std.specs.Option.{option_or}
use Rattle.std.proofs.lemmas.List.Sums.{sum_by-append}
use Rattle.model_rules.specs.declared.fault.Cause.{Cause}
use Rattle.model_rules.specs.declared.fault.Cause.TheVariants as cause
use Rattle.model_rules.specs.declared.fault.ExpandFault.{ExpandFault}
use Rattle.model_rules.specs.declared.fault.ExpandFault.TheVariants as fault
use Rattle.model_rules.specs.Terms.{TermTree, NumberTerm, OwnTerm, IdTerm, DegreeTerm, RoundTerm, ParameterTerm, NearTerm, NearIdTerm, NearWeightTerm, InfixTerm, NotTerm, OverTerm, ChoiceTerm, seen_near}
use Rattle.model_rules.specs.FirstFaults.{IsFirst, told_at}
use Rattle.model_rules.specs.Parts.{size, size_put, put_parts, filled_parts, unless_wrong, bounded_fault}

-- a term has a part at least, also with terms put in, and as seen from a neighbour
pub size_some : (t : TermTree) → 0 < size t
size_some (NumberTerm n) = omega arith
size_some (OwnTerm name) = omega arith
size_some IdTerm = omega arith
size_some DegreeTerm = omega arith
size_some RoundTerm = omega arith
size_some (ParameterTerm k) = omega arith
size_some (NearTerm name) = omega arith
size_some NearIdTerm = omega arith
size_some NearWeightTerm = omega arith
size_some (InfixTerm op a b) = omega arith
size_some (NotTerm e) = omega arith
size_some (OverTerm agg e) = omega arith
size_some (ChoiceTerm a b c) = omega arith

pub filled_some : (ts : List TermTree) (t : TermTree) → 0 < filled_parts ts t
filled_some ts t = omega (arith, size_some t)

pub seen_some : (t : TermTree) → 0 < size (seen_near t)
seen_some t = size_some (seen_near t)

-- the parts of what is put in nowhere, once, and at places after others
pub put_none : (ts : List TermTree) → put_parts ts [] ≡ 0
unfolding put_parts
put_none ts = refl

pub put_one : (ts : List TermTree) (k : ℕ) → put_parts ts (k ∷ []) ≡ size_put (slice_get ts k)
unfolding put_parts
put_one ts k = grind arith

pub put_both : (ts : List TermTree) (xs ys : List ℕ) → put_parts ts (xs ++ ys) ≡ put_parts ts xs + put_parts ts ys
unfolding put_parts
put_both ts xs ys = sum_by-append (λ n. size_put (slice_get ts n)) xs ys

is_less : (a b : ℕ) → a < b → nat_lt a b ≡ true
is_less a b h = grind arith

is_not_less : (a b : ℕ) → b ≤ a → nat_lt a b ≡ false
is_not_less a b h = grind arith

less_is : (a b : ℕ) → nat_lt a b ≡ true → a < b
less_is a b h = grind arith

not_less_is : (a b : ℕ) → nat_lt a b ≡ false → b ≤ a
not_less_is a b h = grind arith

-- more parts than are left, or no more
pub told_long : (left parts item : ℕ) (first : Option ExpandFault) → left < parts → bounded_fault left parts item first ≡ Some (fault.At cause.TooLong item)
unfolding bounded_fault
told_long left parts item first h = rw (is_less left parts h) refl

pub told_first : (left parts item : ℕ) (first : Option ExpandFault) → parts ≤ left → bounded_fault left parts item first ≡ first
unfolding bounded_fault
told_first left parts item first h = rw (is_not_less left parts h) refl

-- a fault alone, where no part is made
pub told_plain : (left item : ℕ) (first : Option ExpandFault) (end : ExpandFault) → first ≡ Some end → bounded_fault left 0 item first ≡ Some end
told_plain left item first end h = told_first left 0 item first (omega arith) ∙ h

-- none, where all parts are made
pub told_none : (left parts item rest : ℕ) (first : Option ExpandFault) → rest + parts ≡ left → first ≡ None → bounded_fault left parts item first ≡ None
told_none left parts item rest first e h = told_first left parts item first (omega arith) ∙ h

-- some of the parts are made before
shift_case : (left now made parts item : ℕ) (first : Option ExpandFault) (b : Bool) → nat_lt now parts ≡ b → now + made ≡ left → bounded_fault left (made + parts) item first ≡ bounded_fault now parts item first
shift_case left now made parts item first true q e =
    let l : now < parts = less_is now parts q in
    told_long left (made + parts) item first (omega arith) ∙ sym (told_long now parts item first l)
shift_case left now made parts item first false q e =
    let l : parts ≤ now = not_less_is now parts q in
    told_first left (made + parts) item first (omega arith) ∙ sym (told_first now parts item first l)

pub told_behind : (left now made parts item : ℕ) (first : Option ExpandFault) → now + made ≡ left → bounded_fault left (made + parts) item first ≡ bounded_fault now parts item first
told_behind left now made parts item first e = shift_case left now made parts item first (nat_lt now parts) refl e

-- what is told of the first of two expressions, and of the second
here_case : (left parts more item : ℕ) (a b : Option ExpandFault) (end : ExpandFault) (c : Bool) → nat_lt left parts ≡ c → bounded_fault left parts item a ≡ Some end → bounded_fault left (parts + unless_wrong a more) item (option_or a b) ≡ Some end
here_case left parts more item a b end true q h =
    let l : left < parts = less_is left parts q in
    told_long left (parts + unless_wrong a more) item (option_or a b) (omega arith) ∙ (sym (told_long left parts item a l) ∙ h)
here_case left parts more item None b end false q h =
    let l : parts ≤ left = not_less_is left parts q in
    let n : None ≡ Some end = sym (told_first left parts item None l) ∙ h in
    absurd (cc)
here_case left parts more item (Some x) b end false q h =
    let l : parts ≤ left = not_less_is left parts q in
    told_first left (parts + 0) item (Some x) (omega arith) ∙ (sym (told_first left parts item (Some x) l) ∙ h)

pub told_here : (left parts more item : ℕ) (a b : Option ExpandFault) (end : ExpandFault) → bounded_fault left parts item a ≡ Some end → bounded_fault left (parts + unless_wrong a more) item (option_or a b) ≡ Some end
told_here left parts more item a b end h = here_case left parts more item a b end (nat_lt left parts) refl h

pub told_next : (left now parts more item was : ℕ) (a b : Option ExpandFault) (end : ExpandFault) → a ≡ None → now + parts ≡ left → was ≡ item → bounded_fault now more was b ≡ Some end → bounded_fault left (parts + unless_wrong a more) item (option_or a b) ≡ Some end
told_next left now parts more item was a b end n e q h =
    subst (λ (o : Option ExpandFault). bounded_fault left (parts + unless_wrong o more) item (option_or o b) ≡ Some end) (sym n)
    (told_behind left now parts more item b e ∙ subst (λ (k : ℕ). bounded_fault now more k b ≡ Some end) q h)

pub all_made : (left now new parts more : ℕ) (a : Option ExpandFault) → a ≡ None → now + parts ≡ left → new + more ≡ now → new + (parts + unless_wrong a more) ≡ left
all_made left now new parts more a n e h =
    subst (λ (o : Option ExpandFault). new + (parts + unless_wrong o more) ≡ left) (sym n) (omega arith)

-- the same where no part is made for the second, or no other fault can come after the first
or_case : (left parts item : ℕ) (a b : Option ExpandFault) (end : ExpandFault) (c : Bool) → nat_lt left parts ≡ c → bounded_fault left parts item a ≡ Some end → bounded_fault left parts item (option_or a b) ≡ Some end
or_case left parts item a b end true q h =
    let l : left < parts = less_is left parts q in
    told_long left parts item (option_or a b) l ∙ (sym (told_long left parts item a l) ∙ h)
or_case left parts item None b end false q h =
    let l : parts ≤ left = not_less_is left parts q in
    let n : None ≡ Some end = sym (told_first left parts item None l) ∙ h in
    absurd (cc)
or_case left parts item (Some x) b end false q h = h

pub told_or : (left parts item : ℕ) (a b : Option ExpandFault) (end : ExpandFault) → bounded_fault left parts item a ≡ Some end → bounded_fault left parts item (option_or a b) ≡ Some end
told_or left parts item a b end h = or_case left parts item a b end (nat_lt left parts) refl h

none_behind : (a : Option ExpandFault) → option_or a None ≡ a
none_behind None = refl
none_behind (Some x) = refl

pub told_more : (left parts more item : ℕ) (a : Option ExpandFault) (end : ExpandFault) → bounded_fault left parts item a ≡ Some end → bounded_fault left (parts + unless_wrong a more) item a ≡ Some end
told_more left parts more item a end h =
    subst (λ (o : Option ExpandFault). bounded_fault left (parts + unless_wrong a more) item o ≡ Some end) (none_behind a) (told_here left parts more item a None end h)

-- the parts run out where the second would be made
pub told_out : (left now parts more item was : ℕ) (a : Option ExpandFault) (end : ExpandFault) → a ≡ None → now + parts ≡ left → was ≡ item → now < more → end ≡ fault.At cause.TooLong was → bounded_fault left (parts + unless_wrong a more) item a ≡ Some end
told_out left now parts more item was a end n e q h t =
    subst (λ (o : Option ExpandFault). bounded_fault left (parts + unless_wrong o more) item o ≡ Some end) (sym n)
    (told_long left (parts + more) item None (omega arith) ∙ ap (λ (x : ExpandFault). Some x) (sym (subst (λ (k : ℕ). end ≡ fault.At cause.TooLong k) q t)))

-- a let is put in, or not
pub told_put : (left parts item at : ℕ) (c : Option Cause) (end : ExpandFault) → c ≡ None → left < parts → end ≡ fault.At cause.TooLong item → bounded_fault left (unless_wrong c parts) item (told_at at c) ≡ Some end
told_put left parts item at c end n h e =
    subst (λ (o : Option Cause). bounded_fault left (unless_wrong o parts) item (told_at at o) ≡ Some end) (sym n)
    (told_long left parts item None h ∙ ap (λ (x : ExpandFault). Some x) (sym e))

pub told_unput : (left parts item at : ℕ) (c : Option Cause) (x : Cause) → c ≡ Some x → bounded_fault left (unless_wrong c parts) item (told_at at c) ≡ Some (fault.At x at)
told_unput left parts item at c x h =
    subst (λ (o : Option Cause). bounded_fault left (unless_wrong o parts) item (told_at at o) ≡ Some (fault.At x at)) (sym h)
    (told_first left 0 item (Some (fault.At x at)) (omega arith))

-- a call that is told what is told after some parts
pub refused_behind : {X : Type 0} (r : Result X ExpandFault) (left now made parts item was : ℕ) (first : Option ExpandFault) → now + made ≡ left → was ≡ item → IfErr r (IsFirst (bounded_fault now parts was first)) → IfErr r (IsFirst (bounded_fault left (made + parts) item first))
refused_behind (Ok x) left now made parts item was first e q h = tt
refused_behind (Err x) left now made parts item was first e q h = λ m.
    told_behind left now made parts item first e ∙ subst (λ (n : ℕ). bounded_fault now parts n first ≡ Some x) q (h m)

-- the expression of an item, of which 65,536 parts may be made
pub refused_item : {X : Type 0} (r : Result X ExpandFault) (left parts was item : ℕ) (first : Option ExpandFault) → left ≡ 65536 → was ≡ item → IfErr r (IsFirst (bounded_fault left parts was first)) → IfErr r (IsFirst (bounded_fault 65536 parts item first))
refused_item (Ok x) left parts was item first e q h = tt
refused_item (Err x) left parts was item first e q h = λ m.
    subst (λ (n : ℕ). bounded_fault n parts item first ≡ Some x) e (subst (λ (n : ℕ). bounded_fault left parts n first ≡ Some x) q (h m))

pub faultless_item : {X : Type 0} (r : Result X ExpandFault) (left parts rest item : ℕ) (first : Option ExpandFault) → left ≡ 65536 → OnOk r (rest + parts ≡ left) → OnOk r (first ≡ None) → OnOk r (bounded_fault 65536 parts item first ≡ None)
faultless_item (Ok x) left parts rest item first e s n = told_none 65536 parts item rest first (s ∙ e) n
faultless_item (Err x) left parts rest item first e s n = tt

-- a call that is told a fault of its own, where no part is made
pub refused_plain : {X : Type 0} (r : Result X ExpandFault) (left item : ℕ) (first : Option ExpandFault) → IfErr r (λ e. first ≡ Some e) → IfErr r (IsFirst (bounded_fault left 0 item first))
refused_plain (Ok x) left item first h = tt
refused_plain (Err x) left item first h = λ m. told_plain left item first x h

pub refused_alone : {X : Type 0} (r : Result X ExpandFault) (left item : ℕ) (first : Option ExpandFault) → IfErr r (IsFirst first) → IfErr r (IsFirst (bounded_fault left 0 item first))
refused_alone (Ok x) left item first h = tt
refused_alone (Err x) left item first h = λ m. told_plain left item first x (h m)

-- a call that is told what is told after the first of two expressions
pub refused_next : {X : Type 0} (r : Result X ExpandFault) (left now parts more item was : ℕ) (a b : Option ExpandFault) → a ≡ None → now + parts ≡ left → was ≡ item → IfErr r (IsFirst (bounded_fault now more was b)) → IfErr r (IsFirst (bounded_fault left (parts + unless_wrong a more) item (option_or a b)))
refused_next (Ok x) left now parts more item was a b n e q h = tt
refused_next (Err x) left now parts more item was a b n e q h = λ m. told_next left now parts more item was a b x n e q (h m)

-- and one for which the parts run out
pub refused_out : {X : Type 0} (r : Result X ExpandFault) (left now parts more item was : ℕ) (a : Option ExpandFault) → a ≡ None → now + parts ≡ left → was ≡ item → IfErr r (λ e. e ≢ fault.Memory → now < more) → IfErr r (λ e. e ≢ fault.Memory → e ≡ fault.At cause.TooLong was) → IfErr r (IsFirst (bounded_fault left (parts + unless_wrong a more) item a))
refused_out (Ok x) left now parts more item was a n e q h t = tt
refused_out (Err x) left now parts more item was a n e q h t = λ m. told_out left now parts more item was a x n e q (h m) (t m)
