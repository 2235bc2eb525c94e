-- Where an expression has no fault, its term is worth what it is.
use Rattle.std.proofs.Common.{◌≡◌, ℕ, suc, List, [], ◌∷◌, refl, sym, ap, ◌∙◌, subst}
use Rattle.std.specs.Prelude.{map, Bool, true, false, ◌&&◌, ◌||◌, ◌==◌, Option, Some, None, if◌then◌else◌, length, slice_index}
use Rattle.std.specs.List.{list_any}
use Rattle.std.specs.Option.{option_or}
use Rattle.std.specs.Str.{bytes_eq}
use Rattle.std.proofs.lemmas.Slice.Eq.{bytes_eq-Decides}
use Rattle.rule_lang.specs.declared.tree.Op.{Op}
use Rattle.rule_check.specs.declared.state.Near.{Near}
use Rattle.rule_check.specs.Table.{operate}
use Rattle.rule_check.specs.Value.{Here, place}
use Rattle.rule_check.specs.WellFormed.{is_among}
use Rattle.model_text.specs.declared.tree.Function.{Function}
use Rattle.model_text.specs.Tree.{Tree, NumberTree, NothingTree, NameTree, IdTree, DegreeTree, RoundTree, NearTree, NearIdTree, NearWeightTree, InfixTree, NotTree, ParensTree, IfTree, CasesTree, CallTree, ApplyTree, ChanceTree, ChanceOfTree, ArmTree, OneArm, ElseArm, ArgumentTree, NoArgument, OneArgument}
use Rattle.model_rules.specs.declared.fault.Cause.{Cause}
use Rattle.model_rules.specs.declared.fault.Cause.TheVariants as cause
use Rattle.model_rules.specs.declared.fault.ExpandFault.{ExpandFault}
use Rattle.model_rules.specs.declared.fault.ExpandFault.TheVariants as fault
use Rattle.model_rules.specs.declared.operators.CallKind.{CallKind}
use Rattle.model_rules.specs.declared.operators.CallKind.TheVariants as kind
use Rattle.model_rules.specs.declared.operators.Source.{Source}
use Rattle.model_rules.specs.declared.operators.Source.TheVariants as source
use Rattle.model_rules.specs.Terms.{TermTree, NumberTerm, OwnTerm, IdTerm, DegreeTerm, RoundTerm, ParameterTerm, NearTerm, NearIdTerm, NearWeightTerm, InfixTerm, NotTerm, OverTerm, ChoiceTerm, term_value, gathers, looks, knows_degree, filled, seen_near, parted}
use Rattle.model_rules.specs.Meaning.{chance, seed_name, draw_number, joined, distance, bounded}
use Rattle.model_rules.specs.Draws.{scaled}
use Rattle.model_rules.specs.DrawTerms.{node_draw_term, link_draw_term}
use Rattle.model_rules.specs.Frames.{KnownTree, Frame, Means, MeansArms, MeansEach, MeansFirst, MeansJoined, MeansDistance, MeansBelow, MeansDrawn, IsFilled, IsMoved, IsAmount, draw_value}
use Rattle.model_rules.specs.Operators.{kind_of}
use Rattle.model_rules.specs.ScopeView.{IsLet, IsSeedLet}
use Rattle.model_rules.specs.Refusals.{let_for, put_cause, seen_cause, apply_cause, call_cause, name_cause, near_let_cause, near_cause}
use Rattle.model_rules.specs.TermFor.{let_term, near_let_term, named_term, near_named_term, number_in, let_number, drawn_by, draw_term, first_term, second_term, joined_term, bounded_term, call_term, term_for, arms_term, terms_for}
use Rattle.model_rules.specs.FirstFaults.{told_at, first_of, constant_cause, seed_cause, node_cause, draw_cause, outside_cause, bound_cause, chance_cause, only_fault, some_fault, two_fault, few_fault, call_fault, fault_in, arms_fault, faults_in}
use Rattle.model_rules.specs.Constants.{amount_in, operator_cause, is_fixed, part_cause, amount_cause}
use Rattle.model_rules.proofs.Values.{neither}
use Rattle.model_rules.proofs.Differing.{none_first, none_second, none_under}
use Rattle.model_rules.proofs.Meanings.{number_means, nothing_means, id_means, degree_means, round_means, near_id_means, near_weight_means, parameter_means, field_means, near_field_means, applied_means, let_means, near_let_means, filled_by, moved_is, parens_means, not_means, if_means, cases_means, arm_means, else_means, none_mean, each_mean, parted_distance, over_means, join_means, difference_means, draw_means, chance_means, chance_of_means, node_drawn, link_drawn, infix_means}

-- where there is no cause, no test for one holds
none_put : (c l g : Bool) → (if c then (if l then Some cause.NeighbourOutside else (if g then Some cause.NestedAggregate else None)) else Some cause.WrongCount) ≡ None → (l ≡ false) × (g ≡ false)
none_put true true g h = cc
none_put true false true h = cc
none_put true false false h = (refl, refl)
none_put false l g h = cc

filled_where : (known : KnownTree) (ts : List TermTree) (n : ℕ) (inside : Bool) → put_cause known n (inside || list_any looks ts) ≡ None → IsFilled known.term ts (filled ts known.term)
filled_where known ts n inside h =
    let q = none_put (known.count == n) (looks known.term) (gathers known.term && (inside || list_any looks ts)) h in
    filled_by known.term ts inside q.0 q.1

none_seen : (l c d : Bool) → (if l then (if c then (if d then Some cause.NotSeen else None) else Some cause.WrongCount) else Some cause.UnknownNear) ≡ None → d ≡ false
none_seen true true true h = cc
none_seen true true false h = refl
none_seen true false d h = cc
none_seen false c d h = cc

moved_where : (known : KnownTree) → seen_cause known ≡ None → IsMoved known.term (seen_near known.term)
moved_where known h =
    let q = neither (knows_degree known.term) (looks known.term) (none_seen known.is_let (known.count == 0) (knows_degree known.term || looks known.term) h) in
    moved_is known.term q.0 q.1

-- no argument names the neighbour, where there is none
or_none : (b : Bool) → b ≡ (b || false)
or_none true = refl
or_none false = refl

-- a let that is found is one of those there are, with its name
found_first : (b : Bool) (x : KnownTree) (xs : List KnownTree) (name : List ℕ) (known : KnownTree) → bytes_eq x.name name ≡ b → (let_for xs name ≡ Some known → IsLet xs known × (known.name ≡ name)) → (if b then Some x else let_for xs name) ≡ Some known → IsLet (x ∷ xs) known × (known.name ≡ name)
found_first true x xs name known e more h =
    let q : x ≡ known = cc in
    ((0, h), subst (λ (k : KnownTree). k.name ≡ name) q ((bytes_eq-Decides x.name name).0 e))
found_first false x xs name known e more h = let q = more h in ((suc q.0.0, q.0.1), q.1)

let_found : (xs : List KnownTree) (name : List ℕ) (known : KnownTree) → let_for xs name ≡ Some known → IsLet xs known × (known.name ≡ name)
let_found [] name known h = absurd (cc)
let_found (x ∷ xs) name known h = found_first (bytes_eq x.name name) x xs name known refl (let_found xs name known) h

-- names
named_case : (f : Frame) (later : List (List ℕ)) (name : List ℕ) (at : ℕ) (inside p g : Bool) (o : Option KnownTree) → is_among f.parameters name ≡ p → is_among f.fields name ≡ g → let_for f.lets name ≡ o
    → (if p then None else (if g then None else apply_cause o later name 0 inside)) ≡ None
    → Means f (NameTree name at) (if p then ParameterTerm (place f.parameters name) else (if g then OwnTerm name else let_term o []))
named_case f later name at inside true g o a b e h = parameter_means f name at (place f.parameters name) a refl
named_case f later name at inside false true o a b e h = field_means f name at a b
named_case f later name at inside false false None a b e h = absurd (cc)
named_case f later name at inside false false (Some known) a b e h =
    let q = let_found f.lets name known e in
    let_means f name at known (filled [] known.term) a b q.0 q.1 (filled_where known [] 0 inside (subst (λ (w : Bool). put_cause known 0 w ≡ None) (or_none inside) h))

named_means : (f : Frame) (later : List (List ℕ)) (name : List ℕ) (at : ℕ) (inside : Bool) → name_cause f later name inside ≡ None → Means f (NameTree name at) (named_term f name)
named_means f later name at inside h = named_case f later name at inside (is_among f.parameters name) (is_among f.fields name) (let_for f.lets name) refl refl refl h

near_case : (f : Frame) (later : List (List ℕ)) (name : List ℕ) (at : ℕ) (inside g : Bool) (o : Option KnownTree) → is_among f.fields name ≡ g → let_for f.lets name ≡ o
    → (if inside then (if g then None else near_let_cause o later name) else Some cause.NeighbourOutside) ≡ None
    → Means f (NearTree name at) (if g then NearTerm name else near_let_term o)
near_case f later name at false g o b e h = absurd (cc)
near_case f later name at true true o b e h = near_field_means f name at b
near_case f later name at true false None b e h = absurd (cc)
near_case f later name at true false (Some known) b e h =
    let q = let_found f.lets name known e in
    near_let_means f name at known (seen_near known.term) b q.0 q.1 (moved_where known h)

near_named_means : (f : Frame) (later : List (List ℕ)) (name : List ℕ) (at : ℕ) (inside : Bool) → near_cause f later name inside ≡ None → Means f (NearTree name at) (near_named_term f name)
near_named_means f later name at inside h = near_case f later name at inside (is_among f.fields name) (let_for f.lets name) refl refl h

applied_case : (f : Frame) (later : List (List ℕ)) (name : List ℕ) (at : ℕ) (inside : Bool) (es : ArgumentTree) (ts : List TermTree) (o : Option KnownTree) → let_for f.lets name ≡ o
    → apply_cause o later name (length ts) (inside || list_any looks ts) ≡ None → MeansEach f es ts → Means f (ApplyTree name at es) (let_term o ts)
applied_case f later name at inside es ts None e h g = absurd (cc)
applied_case f later name at inside es ts (Some known) e h g =
    let q = let_found f.lets name known e in
    applied_means f name at known es ts (filled ts known.term) q.0 q.1 (filled_where known ts (length ts) inside h) g

none_called : (b : Bool) (x : Option Cause) → (if b then Some cause.WrongCount else x) ≡ None → x ≡ None
none_called true x h = absurd (cc)
none_called false x h = h

-- draws
number_is : (t : TermTree) (n : ℕ) → number_in t ≡ Some n → t ≡ NumberTerm n
number_is (NumberTerm m) n h = cc
number_is (OwnTerm name) n h = absurd (cc)
number_is IdTerm n h = absurd (cc)
number_is DegreeTerm n h = absurd (cc)
number_is RoundTerm n h = absurd (cc)
number_is (ParameterTerm k) n h = absurd (cc)
number_is (NearTerm name) n h = absurd (cc)
number_is NearIdTerm n h = absurd (cc)
number_is NearWeightTerm n h = absurd (cc)
number_is (InfixTerm o a b) n h = absurd (cc)
number_is (NotTerm e) n h = absurd (cc)
number_is (OverTerm agg e) n h = absurd (cc)
number_is (ChoiceTerm a b c) n h = absurd (cc)

drawn_from : (s : Source) (f : Frame) (at seed : ℕ) → IsSeedLet f.lets seed → MeansDrawn f s at (drawn_by s f at (Some seed))
drawn_from source.Node f at seed h = node_drawn f at seed (draw_number f.draws at) (node_draw_term seed (draw_number f.draws at)) h refl refl
drawn_from source.Link f at seed h = link_drawn f at seed (draw_number f.draws at) (link_draw_term seed (draw_number f.draws at)) h refl refl

drawn_case : (s : Source) (f : Frame) (at : ℕ) (o : Option KnownTree) (q : Option ℕ) → let_for f.lets seed_name ≡ o → let_number o ≡ q → seed_cause o ≡ None → MeansDrawn f s at (drawn_by s f at q)
drawn_case s f at None q e n h = absurd (cc)
drawn_case s f at (Some known) None e n h =
    let r : constant_cause None ≡ None = subst (λ (x : Option ℕ). constant_cause x ≡ None) n h in
    absurd (cc)
drawn_case s f at (Some known) (Some seed) e n h =
    let q = let_found f.lets seed_name known e in
    drawn_from s f at seed (record { known = known; among = q.0; named = q.1; number = number_is known.term seed n })

node_means : (s : Source) (f : Frame) (at : ℕ) → node_cause f at ≡ None → MeansDrawn f s at (draw_term s f at)
node_means s f at h = drawn_case s f at (let_for f.lets seed_name) (let_number (let_for f.lets seed_name)) refl refl (none_first (seed_cause (let_for f.lets seed_name)) _ h)

drawn_means : (s : Source) (f : Frame) (inside : Bool) (at : ℕ) → draw_cause s f inside at ≡ None → MeansDrawn f s at (draw_term s f at)
drawn_means source.Node f inside at h = node_means source.Node f at h
drawn_means source.Link f inside at h = node_means source.Link f at (none_second (outside_cause inside) (node_cause f at) h)

-- arguments without a fault
only_none : (at : ℕ) (xs : List (Option ExpandFault)) → only_fault at xs ≡ None → first_of xs ≡ None
only_none at [] h = absurd (cc)
only_none at (x ∷ []) h = ap (λ (o : Option ExpandFault). option_or o None) h
only_none at (x ∷ y ∷ xs) h = absurd (cc)

some_none : (at : ℕ) (xs : List (Option ExpandFault)) → some_fault at xs ≡ None → first_of xs ≡ None
some_none at [] h = absurd (cc)
some_none at (x ∷ xs) h = h

two_none : (at : ℕ) (xs : List (Option ExpandFault)) → two_fault at xs ≡ None → first_of xs ≡ None
two_none at [] h = absurd (cc)
two_none at (x ∷ xs) h =
    let a : x ≡ None = none_first x (only_fault at xs) h in
    let b : first_of xs ≡ None = only_none at xs (none_second x (only_fault at xs) h) in
    ap (λ (o : Option ExpandFault). option_or o (first_of xs)) a ∙ b

few_none : (at : ℕ) (xs : List (Option ExpandFault)) → few_fault at xs ≡ None → first_of xs ≡ None
few_none at [] h = refl
few_none at (x ∷ xs) h = only_none at (x ∷ xs) h

unless_inside : (inside : Bool) (e : ExpandFault) (x : Option ExpandFault) → (if inside then Some e else x) ≡ None → x ≡ None
unless_inside true e x h = absurd (cc)
unless_inside false e x h = h

-- the only argument, all with an operator between them, the distance of two, and a draw below one
only_means : (f : Frame) (later : List (List ℕ)) (inside : Bool) (at : ℕ) (es : ArgumentTree) → only_fault at (faults_in f later inside es) ≡ None → MeansEach f es (terms_for f es) → MeansFirst f es (first_term (terms_for f es))
only_means f later inside at NoArgument h g = absurd (cc)
only_means f later inside at (OneArgument e es) h g = record { same = λ s m i. ap (λ (vs : List ℕ). slice_index vs 0) (g.same s m i) }

joined_value : (o : Op) (here : Here) (xs : List ℕ) (ts : List TermTree) (m : Near) → joined o (map (λ t. term_value here xs t m) ts) ≡ term_value here xs (joined_term o ts) m
joined_value o here xs [] m = refl
joined_value o here xs (t ∷ []) m = refl
joined_value o here xs (t ∷ u ∷ ts) m = ap (operate o (term_value here xs t m)) (joined_value o here xs (u ∷ ts) m)

joined_means : (f : Frame) (o : Op) (es : ArgumentTree) (ts : List TermTree) → MeansEach f es ts → MeansJoined f o es (joined_term o ts)
joined_means f o es ts g = record { same = λ s m i. ap (joined o) (g.same s m i) ∙ joined_value o s.here s.arguments ts m }

two_means : (f : Frame) (later : List (List ℕ)) (inside : Bool) (at : ℕ) (es : ArgumentTree) → two_fault at (faults_in f later inside es) ≡ None → MeansEach f es (terms_for f es) → MeansDistance f es (parted (first_term (terms_for f es)) (second_term (terms_for f es)))
two_means f later inside at NoArgument h g = absurd (cc)
two_means f later inside at (OneArgument e NoArgument) h g = let n = none_second (fault_in f later inside e) (only_fault at []) h in absurd (cc)
two_means f later inside at (OneArgument e (OneArgument d es)) h g =
    record {
      same = λ s m i.
          ap (λ (vs : List ℕ). distance (slice_index vs 0) (slice_index vs 1)) (g.same s m i)
          ∙ parted_distance (term_value s.here s.arguments (term_for f e) m) (term_value s.here s.arguments (term_for f d) m);
    }

below_means : (f : Frame) (o : Source) (at : ℕ) (es : ArgumentTree) (t : TermTree) → MeansDrawn f o at t → MeansEach f es (terms_for f es) → MeansBelow f o at es (bounded_term t (terms_for f es))
below_means f o at NoArgument t d g = record { same = λ s m i. d.same s m i }
below_means f o at (OneArgument e es) t d g =
    record {
      same = λ s m i.
          ap (bounded (draw_value o s at m)) (g.same s m i) ∙ ap (λ v. scaled v (term_value s.here s.arguments (term_for f e) m)) (d.same s m i);
    }

-- a call, by what the function does with its arguments
call_means : (f : Frame) (later : List (List ℕ)) (inside : Bool) (c : Function) (at : ℕ) (es : ArgumentTree) (k : CallKind) → kind_of c ≡ k
    → call_fault k f inside at (terms_for f es) (faults_in f later inside es) (faults_in f later true es) ≡ None
    → (first_of (faults_in f later inside es) ≡ None → MeansEach f es (terms_for f es))
    → (first_of (faults_in f later true es) ≡ None → MeansEach f es (terms_for f es))
    → Means f (CallTree c at es) (call_term k f at (terms_for f es))
call_means f later inside c at es (kind.Gather agg) q h g w =
    let n = unless_inside inside (fault.At cause.NestedAggregate at) (only_fault at (faults_in f later true es)) h in
    over_means f c at agg es (first_term (terms_for f es)) q (only_means f later true at es n (w (only_none at (faults_in f later true es) n)))
call_means f later inside c at es (kind.Join o) q h g w =
    join_means f c at o es (joined_term o (terms_for f es)) q (joined_means f o es (terms_for f es) (g (some_none at (faults_in f later inside es) h)))
call_means f later inside c at es kind.Distance q h g w =
    difference_means f c at es (parted (first_term (terms_for f es)) (second_term (terms_for f es))) q
    (two_means f later inside at es h (g (two_none at (faults_in f later inside es) h)))
call_means f later inside c at es (kind.Draw s) q h g w =
    let drawn = told_at at (draw_cause s f inside at) in
    let few = few_fault at (faults_in f later inside es) in
    let bound = told_at at (bound_cause (terms_for f es)) in
    let d = none_under (λ (x : Cause). fault.At x at) (draw_cause s f inside at) (none_second (option_or few bound) drawn h) in
    let n = none_first few bound (none_first (option_or few bound) drawn h) in
    draw_means f c at s es (bounded_term (draw_term s f at) (terms_for f es)) q
    (below_means f s at es (draw_term s f at) (drawn_means s f inside at d) (g (few_none at (faults_in f later inside es) n)))

-- The term of an expression without a fault is worth what the expression is.
mutual
  pub means_of : (f : Frame) (later : List (List ℕ)) (inside : Bool) (tree : Tree) → fault_in f later inside tree ≡ None → Means f tree (term_for f tree)
  means_of f later inside (NumberTree n at) h = number_means f n at
  means_of f later inside (NothingTree at) h = nothing_means f at
  means_of f later inside (NameTree name at) h = named_means f later name at inside (none_under (λ (x : Cause). fault.At x at) (name_cause f later name inside) h)
  means_of f later inside (IdTree at) h = id_means f at
  means_of f later inside (DegreeTree at) h = degree_means f at
  means_of f later inside (RoundTree at) h = round_means f at
  means_of f later inside (NearTree name at) h = near_named_means f later name at inside (none_under (λ (x : Cause). fault.At x at) (near_cause f later name inside) h)
  means_of f later inside (NearIdTree at) h = near_id_means f at
  means_of f later inside (NearWeightTree at) h = near_weight_means f at
  means_of f later inside (InfixTree o at a b) h =
      infix_means f o at a b (term_for f a) (term_for f b)
      (means_of f later inside a (none_first (fault_in f later inside a) (fault_in f later inside b) h))
      (means_of f later inside b (none_second (fault_in f later inside a) (fault_in f later inside b) h))
  means_of f later inside (NotTree at e) h = not_means f e at (term_for f e) (means_of f later inside e h)
  means_of f later inside (ParensTree at e) h = parens_means f e at (term_for f e) (means_of f later inside e h)
  means_of f later inside (IfTree at a b c) h =
      let rest = option_or (fault_in f later inside b) (fault_in f later inside c) in
      let n = none_second (fault_in f later inside a) rest h in
      if_means f a b c at (term_for f a) (term_for f b) (term_for f c)
      (means_of f later inside a (none_first (fault_in f later inside a) rest h))
      (means_of f later inside b (none_first (fault_in f later inside b) (fault_in f later inside c) n))
      (means_of f later inside c (none_second (fault_in f later inside b) (fault_in f later inside c) n))
  means_of f later inside (CasesTree at arms) h = cases_means f arms at (arms_term f arms) (arms_mean f later inside arms h)
  means_of f later inside (CallTree c at es) h =
      call_means f later inside c at es (kind_of c) refl h (each_means f later inside es) (each_means f later true es)
  means_of f later inside (ApplyTree name at es) h =
      let faults = first_of (faults_in f later inside es) in
      let own = call_cause f later name (length (terms_for f es)) (inside || list_any looks (terms_for f es)) in
      applied_case f later name at inside es (terms_for f es) (let_for f.lets name) refl
      (none_called (is_among f.parameters name || is_among f.fields name) (apply_cause (let_for f.lets name) later name (length (terms_for f es)) (inside || list_any looks (terms_for f es)))
      (none_under (λ (x : Cause). fault.At x at) own (none_second faults (told_at at own) h)))
      (each_means f later inside es (none_first faults (told_at at own) h))
  means_of f later inside (ChanceTree at p) h = chance_means f at p (chance p.numerator p.places) refl
  means_of f later inside (ChanceOfTree at p) h =
      chance_of_means f at p (draw_term source.Node f at) (chance p.numerator p.places)
      (node_means source.Node f at (none_second (chance_cause p) (node_cause f at) (none_under (λ (x : Cause). fault.At x at) (option_or (chance_cause p) (node_cause f at)) h))) refl

  arms_mean : (f : Frame) (later : List (List ℕ)) (inside : Bool) (arms : ArmTree) → arms_fault f later inside arms ≡ None → MeansArms f arms (arms_term f arms)
  arms_mean f later inside (OneArm test value rest) h =
      let more = option_or (fault_in f later inside value) (arms_fault f later inside rest) in
      let n = none_second (fault_in f later inside test) more h in
      arm_means f test value rest (term_for f test) (term_for f value) (arms_term f rest)
      (means_of f later inside test (none_first (fault_in f later inside test) more h))
      (means_of f later inside value (none_first (fault_in f later inside value) (arms_fault f later inside rest) n))
      (arms_mean f later inside rest (none_second (fault_in f later inside value) (arms_fault f later inside rest) n))
  arms_mean f later inside (ElseArm value) h = else_means f value (term_for f value) (means_of f later inside value h)

  each_means : (f : Frame) (later : List (List ℕ)) (inside : Bool) (es : ArgumentTree) → first_of (faults_in f later inside es) ≡ None → MeansEach f es (terms_for f es)
  each_means f later inside NoArgument h = none_mean f
  each_means f later inside (OneArgument e es) h =
      each_mean f e es (term_for f e) (terms_for f es)
      (means_of f later inside e (none_first (fault_in f later inside e) (first_of (faults_in f later inside es)) h))
      (each_means f later inside es (none_second (fault_in f later inside e) (first_of (faults_in f later inside es)) h))

-- the same for a term that is that one
pub means_by : (f : Frame) (later : List (List ℕ)) (inside : Bool) (tree : Tree) (t : TermTree) → fault_in f later inside tree ≡ None → t ≡ term_for f tree → Means f tree t
means_by f later inside tree t h e = subst (λ (x : TermTree). Means f tree x) (sym e) (means_of f later inside tree h)

-- a term of numbers is always worth its number
part_is : (t : TermTree) → part_cause t ≡ None → IsAmount t (amount_in t)
part_is (NumberTerm n) h = record { same = λ here xs m. refl }
part_is (OwnTerm name) h = absurd (cc)
part_is IdTerm h = absurd (cc)
part_is DegreeTerm h = absurd (cc)
part_is RoundTerm h = absurd (cc)
part_is (ParameterTerm k) h = absurd (cc)
part_is (NearTerm name) h = absurd (cc)
part_is NearIdTerm h = absurd (cc)
part_is NearWeightTerm h = absurd (cc)
part_is (InfixTerm o a b) h =
    let own = operator_cause o (amount_in a) (amount_in b) in
    let x = part_is a (none_first (part_cause a) (option_or (part_cause b) own) h) in
    let y = part_is b (none_first (part_cause b) own (none_second (part_cause a) (option_or (part_cause b) own) h)) in
    record { same = λ here xs m. ap (λ v. operate o v (term_value here xs b m)) (x.same here xs m) ∙ ap (operate o (amount_in a)) (y.same here xs m) }
part_is (NotTerm e) h = absurd (cc)
part_is (OverTerm agg e) h = absurd (cc)
part_is (ChoiceTerm a b c) h = absurd (cc)

none_fixed : (b : Bool) (x : Option Cause) → (if b then x else Some cause.NotConstant) ≡ None → x ≡ None
none_fixed true x h = h
none_fixed false x h = absurd (cc)

pub amount_is : (t : TermTree) → amount_cause t ≡ None → IsAmount t (amount_in t)
amount_is t h = part_is t (none_fixed (is_fixed t) (part_cause t) h)

-- the value of a constant
pub value_by : (f : Frame) (later : List (List ℕ)) (inside : Bool) (tree : Tree) (v : ℕ) → fault_in f later inside tree ≡ None → amount_cause (term_for f tree) ≡ None → v ≡ amount_in (term_for f tree) → Means f tree (NumberTerm v)
value_by f later inside tree v h a e =
    subst (λ (x : ℕ). Means f tree (NumberTerm x)) (sym e)
    (record { same = λ s m i. (means_of f later inside tree h).same s m i ∙ (amount_is (term_for f tree) a).same s.here s.arguments m })
