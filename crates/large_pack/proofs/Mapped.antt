-- Edges and these edges as they are compared.
use Rattle.std.proofs.Common.{◌≡◌, ◌∙◌, ℕ, ◌<◌, ◌≤◌, ◌==◌, Bool, true, false, not, ◌&&◌, ◌||◌, List, [], ◌∷◌, map, nat_lt, refl, ap, Option, Some, None, option_map, arith, inl, inr, if◌then◌else◌}
use Rattle.std.proofs.lemmas.Bool.{cases_Bool, and_parts}
use Rattle.std.proofs.lemmas.Bool.Decides.{nat_tests}
use Rattle.std.specs.Cmp.{nat_eq_equiv}
use Rattle.std.specs.List.{list_any, filter, find, flat_map}
use Rattle.std.specs.List.Sorted.{IsPermutation}
use Rattle.std.specs.Option.{option_and_then}
use Rattle.std.proofs.lemmas.List.Elements.{filter_agree}
use Rattle.std.proofs.lemmas.List.Sorted.{IsPermutation-refl, IsPermutation-append, IsPermutation-append_comm}
use Rattle.std.proofs.lemmas.List.Folds.{flat_map-map}
use Rattle.link_net.specs.Arcs.{Arc}
use Rattle.large_pack.specs.declared.edge_line.EdgeLine.{EdgeLine}
use Rattle.large_pack.specs.declared.options.PackOptions.{PackOptions}
use Rattle.large_pack.specs.declared.options.SelfLoops.{SelfLoops}
use Rattle.large_pack.specs.declared.options.SelfLoops.TheVariants.{Refuse as RefuseLoops, Drop as DropLoops, Keep as KeepLoops}
use Rattle.large_pack.specs.declared.fault.PackFault.TheVariants.{ParallelEdge}
use Rattle.large_pack.specs.declared.ranked.Ranked.{Ranked}
use Rattle.large_pack.specs.Sound.{is_loop}
use Rattle.large_pack.specs.Packing.{straight_edges, join_alike, goes_before, is_behind, merges, refuses, kept_edges, edge_arcs, arcs_of, repeat_of, repeat_fault}
use Rattle.large_pack.specs.Ranks.{ends_of, ranked, alike, beats, is_beaten, unbeaten, kept_ranked, repeat_ranked, straight_ranked, ranked_arcs}

-- ---- lists of images

filter_mapped : {X Y : Type 0} (p : Y → Bool) (f : X → Y) (xs : List X) → filter p (map f xs) ≡ map f (filter (λ x. p (f x)) xs)
filter_mapped p f [] = refl
filter_mapped p f (x ∷ xs) =
    elim (cases_Bool (p (f x))) [
      | inl keeps ↦ rw keeps (ap (λ t. f x ∷ t) (filter_mapped p f xs))
      | inr drops ↦ rw drops (filter_mapped p f xs)
    ]

any_mapped : {X Y : Type 0} (p : Y → Bool) (f : X → Y) (xs : List X) → list_any p (map f xs) ≡ list_any (λ x. p (f x)) xs
any_mapped p f [] = refl
any_mapped p f (x ∷ xs) = ap (λ b. p (f x) || b) (any_mapped p f xs)

any_agree : {X : Type 0} (p q : X → Bool) → ((x : X) → p x ≡ q x) → (xs : List X) → list_any p xs ≡ list_any q xs
any_agree p q same [] = refl
any_agree p q same (x ∷ xs) = rw (same x, any_agree p q same xs) refl

find_mapped : {X Y : Type 0} (p : Y → Bool) (f : X → Y) (xs : List X) → find p (map f xs) ≡ option_map f (find (λ x. p (f x)) xs)
find_mapped p f [] = refl
find_mapped p f (x ∷ xs) =
    elim (cases_Bool (p (f x))) [
      | inl hit ↦ rw hit refl
      | inr miss ↦ rw miss (find_mapped p f xs)
    ]

find_agree : {X : Type 0} (p q : X → Bool) → ((x : X) → p x ≡ q x) → (xs : List X) → find p xs ≡ find q xs
find_agree p q same [] = refl
find_agree p q same (x ∷ xs) = rw (same x, find_agree p q same xs) refl

flat_map_alike : {X Y : Type 0} (f g : X → List Y) → ((x : X) → IsPermutation (f x) (g x)) → (xs : List X) → IsPermutation (flat_map f xs) (flat_map g xs)
flat_map_alike f g each [] = IsPermutation-refl []
flat_map_alike f g each (x ∷ xs) = IsPermutation-append (f x) (g x) (flat_map f xs) (flat_map g xs) (each x) (flat_map_alike f g each xs)

-- ---- ends

eq_of : (a b : ℕ) → (a == b) ≡ true → a ≡ b
eq_of a b h = grind (arith, nat_tests)

lt_of : (a b : ℕ) → nat_lt a b ≡ true → a < b
lt_of a b h = grind (arith, nat_tests)

le_of : (a b : ℕ) → nat_lt a b ≡ false → b ≤ a
le_of a b h = grind (arith, nat_tests)

abbrev both : ℕ → ℕ → ℕ → ℕ → Bool
both a b c d = a == c && b == d

both_of : (a b c d : ℕ) → both a b c d ≡ true → (a ≡ c) × (b ≡ d)
both_of a b c d h = let (one, two) = and_parts (a == c) (b == d) h in (eq_of a c one, eq_of b d two)

or_false : (p : Bool) → p ≡ (p || false)
or_false true = refl
or_false false = refl

or_absorbs : (p q : Bool) → (q ≡ true → p ≡ true) → p ≡ (p || q)
or_absorbs true q h = refl
or_absorbs false true h = h refl
or_absorbs false false h = refl

or_other : (p q r : Bool) → (p ≡ true → ⊥) → r ≡ q → r ≡ (p || q)
or_other true q r h same = absurd (h refl)
or_other false q r h same = same

and_flips : (p q : Bool) → (p && q) ≡ (q && p)
and_flips true true = refl
and_flips true false = refl
and_flips false true = refl
and_flips false false = refl

both_true : (a b c d : ℕ) → a ≡ c → b ≡ d → both a b c d ≡ true
both_true a b c d p q =
    let one : (a == c) ≡ true = grind (arith, nat_tests) in
    let two : (b == d) ≡ true = grind (arith, nat_tests) in
    rw (one, two) refl

-- where edges have no direction, the same ends either way round
turned_ends : (a b c d : ℕ) → both (ends_of false a b).0 (ends_of false a b).1 (ends_of false c d).0 (ends_of false c d).1 ≡ (both a b c d || both a b d c)
turned_ends a b c d =
    elim (cases_Bool (nat_lt b a)) [
      | inl one ↦
          let low : b < a = lt_of b a one in
          elim (cases_Bool (nat_lt d c)) [
            | inl two ↦
                let high : d < c = lt_of d c two in
                rw (one, two) (and_flips (b == d) (a == c) ∙ or_absorbs (both a b c d) (both a b d c) (λ h. let e = both_of a b d c h in absurd (omega (arith, e.0, e.1))))
            | inr two ↦
                let high : c ≤ d = le_of d c two in
                rw (one, two) (or_other (both a b c d) (both a b d c) (both b a c d) (λ h. let e = both_of a b c d h in omega (arith, e.0, e.1)) (and_flips (b == c) (a == d)))
          ]
      | inr one ↦
          let low : a ≤ b = le_of b a one in
          elim (cases_Bool (nat_lt d c)) [
            | inl two ↦
                let high : d < c = lt_of d c two in
                rw (one, two) (or_other (both a b c d) (both a b d c) (both a b d c) (λ h. let e = both_of a b c d h in omega (arith, e.0, e.1)) refl)
            | inr two ↦
                let high : c ≤ d = le_of d c two in
                rw (one, two) (or_absorbs (both a b c d) (both a b d c) (λ h. let e = both_of a b d c h in both_true a b c d (omega (arith, e.0, e.1)) (omega (arith, e.0, e.1))))
          ]
    ]

same_ends : (dir : Bool) (a b c d : ℕ) → both (ends_of dir a b).0 (ends_of dir a b).1 (ends_of dir c d).0 (ends_of dir c d).1 ≡ (both a b c d || (not dir && both a b d c))
same_ends true a b c d = or_false (both a b c d)
same_ends false a b c d = turned_ends a b c d

loop_ends : (dir : Bool) (a b : ℕ) → ((ends_of dir a b).0 == (ends_of dir a b).1) ≡ (a == b)
loop_ends true a b = refl
loop_ends false a b =
    elim (cases_Bool (nat_lt b a)) [
      | inl less ↦ rw less (nat_eq_equiv.symm b a)
      | inr more ↦ rw more refl
    ]

-- ---- arcs

arcs_turned : (dir : Bool) (a b w : ℕ) → nat_lt b a ≡ true → dir ≡ false → IsPermutation {X = Arc} ((a, b, w) ∷ (if dir || a == b then [] else (b, a, w) ∷ [])) ((b, a, w) ∷ (if dir || b == a then [] else (a, b, w) ∷ []))
arcs_turned dir a b w less none =
    let low : b < a = lt_of b a less in
    let one : (a == b) ≡ false = grind (arith, nat_tests) in
    let two : (b == a) ≡ false = grind (arith, nat_tests) in
    rw (none, one, two) (IsPermutation-append_comm ((a, b, w) ∷ []) ((b, a, w) ∷ []))

module _ (o : PackOptions) where
  arcs_same : (dir : Bool) → o.is_directed ≡ dir → (e : EdgeLine) → IsPermutation (edge_arcs dir e) (ranked_arcs dir (ranked o e))
  arcs_same true is e = rw is (IsPermutation-refl ((e.first, e.second, e.weight) ∷ []))
  arcs_same false is e =
      elim (cases_Bool (nat_lt e.second e.first)) [
        | inl less ↦ rw (is, less) (arcs_turned false e.first e.second e.weight less refl)
        | inr more ↦ rw (is, more) (IsPermutation-refl (edge_arcs false e))
      ]

  -- the arcs of edges and of these as they are compared
  pub arcs_permuted : (es : List EdgeLine) → IsPermutation (arcs_of o.is_directed es) (flat_map (ranked_arcs o.is_directed) (map (ranked o) es))
  arcs_permuted es =
      rw (flat_map-map (ranked_arcs o.is_directed) (ranked o) es)
      (flat_map_alike (edge_arcs o.is_directed) (λ e. ranked_arcs o.is_directed (ranked o e)) (arcs_same o.is_directed refl) es)

  alike_joins : (d e : EdgeLine) → alike (ranked o d) (ranked o e) ≡ join_alike o.is_directed d e
  alike_joins d e = same_ends o.is_directed d.first d.second e.first e.second

  behind_alike : (es : List EdgeLine) (e : EdgeLine) → is_beaten (map (ranked o) es) (ranked o e) ≡ is_behind o es e
  behind_alike es e =
      any_mapped (λ d. beats d (ranked o e)) (ranked o) es
      ∙ any_agree (λ d. beats (ranked o d) (ranked o e)) (λ d. join_alike o.is_directed d e && goes_before o.parallel d e) (λ d. ap (λ b. b && goes_before o.parallel d e) (alike_joins d e)) es

  unbeaten_mapped : (es : List EdgeLine) → unbeaten (map (ranked o) es) ≡ map (ranked o) (filter (λ e. not (is_behind o es e)) es)
  unbeaten_mapped es =
      filter_mapped (λ r. not (is_beaten (map (ranked o) es) r)) (ranked o) es
      ∙ ap (map (ranked o)) (filter_agree (λ e. not (is_beaten (map (ranked o) es) (ranked o e))) (λ e. not (is_behind o es e)) (λ e. ap not (behind_alike es e)) es)

  pub kept_mapped : (es : List EdgeLine) → kept_ranked o.parallel (map (ranked o) es) ≡ map (ranked o) (kept_edges o es)
  kept_mapped es =
      elim (cases_Bool (merges o.parallel)) [
        | inl some ↦ rw some (unbeaten_mapped es)
        | inr none ↦ rw none refl
      ]

  pub straight_mapped : (self_loops : SelfLoops) (es : List EdgeLine) → straight_ranked self_loops (map (ranked o) es) ≡ map (ranked o) (straight_edges self_loops es)
  straight_mapped RefuseLoops es = refl
  straight_mapped KeepLoops es = refl
  straight_mapped DropLoops es =
      filter_mapped (λ r. not (r.first == r.second)) (ranked o) es
      ∙ ap (map (ranked o)) (filter_agree (λ e. not ((ranked o e).first == (ranked o e).second)) (λ e. not (is_loop e)) (λ e. ap not (loop_ends o.is_directed e.first e.second)) es)

  repeat_at : (es : List EdgeLine) (e : EdgeLine) (d : Option EdgeLine)
      → option_map (λ (p : ℕ × ℕ). ParallelEdge p.0 p.1) (option_map (λ (x : Ranked). (e.line, x.line)) (option_map (ranked o) d)) ≡ option_map (λ (x : EdgeLine). ParallelEdge e.line x.line) d
  repeat_at es e None = refl
  repeat_at es e (Some d) = refl

  repeat_from : (es : List EdgeLine) (found : Option EdgeLine)
      → option_map (λ (p : ℕ × ℕ). ParallelEdge p.0 p.1) (option_and_then (λ r. option_map (λ d. (r.line, d.line)) (find (λ d. alike d r) (map (ranked o) es))) (option_map (ranked o) found)) ≡ option_and_then (repeat_of o es) found
  repeat_from es None = refl
  repeat_from es (Some e) =
      let same : find (λ d. alike d (ranked o e)) (map (ranked o) es) ≡ option_map (ranked o) (find (λ d. join_alike o.is_directed d e) es) =
      find_mapped (λ d. alike d (ranked o e)) (ranked o) es ∙ ap (option_map (ranked o)) (find_agree (λ d. alike (ranked o d) (ranked o e)) (λ d. join_alike o.is_directed d e) (λ d. alike_joins d e) es) in
      rw same (repeat_at es e (find (λ d. join_alike o.is_directed d e) es))

  pub repeat_mapped : (es : List EdgeLine) → repeat_ranked o.parallel (map (ranked o) es) ≡ repeat_fault o es
  repeat_mapped es =
      let same : find (is_beaten (map (ranked o) es)) (map (ranked o) es) ≡ option_map (ranked o) (find (is_behind o es) es) =
      find_mapped (is_beaten (map (ranked o) es)) (ranked o) es ∙ ap (option_map (ranked o)) (find_agree (λ e. is_beaten (map (ranked o) es) (ranked o e)) (is_behind o es) (behind_alike es) es) in
      elim (cases_Bool (refuses o.parallel)) [
        | inl some ↦ rw (some, same) (repeat_from es (find (is_behind o es) es))
        | inr none ↦ rw none refl
      ]
