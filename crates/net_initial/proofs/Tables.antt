-- Tables of values, filled pair by pair and shown node by node.
use Rattle.std.proofs.Common.{◌≡◌, ℕ, ℤ, pos, negsuc, ◌+◌, ◌<◌, ◌≤◌, ◌==◌, Bool, true, false, not, ◌||◌, ◌&&◌, List, [], ◌∷◌, ◌++◌, length, get_or, take, drop, Option, Some, None, option_map, is_some, is_none, refl, ap, sym, ◌∙◌, inl, inr, arith, zero, suc, if◌then◌else◌}
use Rattle.std.specs.List.{list_any, fold, filter_map, range_with_len}
use Rattle.std.specs.Option.{option_to_list}
use Rattle.std.proofs.lemmas.Bool.{cases_Bool}
use Rattle.std.proofs.lemmas.Bool.Decides.{nat_tests}
use Rattle.std.proofs.lemmas.List.{take_more, take-append-drop}
use Rattle.std.proofs.lemmas.List.Folds.{list_any-append}
use Rattle.std.proofs.lemmas.List.Elements.{filter_map-append}
use Rattle.net_initial.specs.Opened.{is_below, node_of, number_of, is_entry, is_undefined, has_node_twice, given, shown_pairs}

abbrev Pair : Type 0
Pair = ℤ × ℤ

some_fold : (u : ℕ) (v : Option ℕ) (ps : List Pair) → is_some (fold (λ v p. if node_of p == u then Some (number_of p.1) else v) v ps) ≡ (is_some v || list_any (λ q. node_of q == u) ps)
some_fold u None [] = refl
some_fold u (Some x) [] = refl
some_fold u v (p ∷ ps) =
    elim (cases_Bool (node_of p == u)) [
      | inl hit ↦ rw (hit, some_fold u (Some (number_of p.1)) ps) (always (is_some v))
      | inr miss ↦ rw (miss, some_fold u v ps) refl
    ] where
      always : (b : Bool) → true ≡ (b || true)
      always true = refl
      always false = refl

-- a node has a value where some pair is of it
some_given : (ps : List Pair) (u : ℕ) → is_some (given ps u) ≡ list_any (λ q. node_of q == u) ps
some_given ps u = some_fold u None ps

twice_push : (ps : List Pair) (p : Pair) → has_node_twice (ps ++ p ∷ []) ≡ (has_node_twice ps || list_any (λ q. node_of q == node_of p) ps)
twice_push [] p = refl
twice_push (q ∷ ps) p =
    let turned : (node_of p == node_of q) ≡ (node_of q == node_of p) = grind (arith, nat_tests) in
    rw (list_any-append (λ r. node_of r == node_of q) ps (p ∷ []), twice_push ps p, turned)
    (mixed (list_any (λ r. node_of r == node_of q) ps) (node_of q == node_of p) (has_node_twice ps) (list_any (λ r. node_of r == node_of p) ps)) where
      mixed : (a b c d : Bool) → ((a || (b || false)) || (c || d)) ≡ ((a || c) || (b || d))
      mixed true b c d = refl
      mixed false true true d = refl
      mixed false true false d = refl
      mixed false false c d = refl

undefined_push : (n : ℕ) (ps : List Pair) (p : Pair) → is_undefined n (ps ++ p ∷ []) ≡ (is_undefined n ps || (not (is_entry n p) || is_some (given ps (node_of p))))
undefined_push n ps p =
    rw (list_any-append (λ q. not (is_entry n q)) ps (p ∷ []), twice_push ps p, some_given ps (node_of p))
    (mixed (list_any (λ q. not (is_entry n q)) ps) (not (is_entry n p)) (has_node_twice ps) (list_any (λ q. node_of q == node_of p) ps)) where
      mixed : (a b c d : Bool) → ((a || (b || false)) || (c || d)) ≡ ((a || c) || (b || d))
      mixed true b c d = refl
      mixed false true true d = refl
      mixed false true false d = refl
      mixed false false c d = refl

twice_longer : (xs ys : List Pair) → has_node_twice xs ≡ true → has_node_twice (xs ++ ys) ≡ true
twice_longer [] ys h = cc
twice_longer (x ∷ xs) ys h =
    elim (cases_Bool (list_any (λ q. node_of q == node_of x) xs)) [
      | inl here ↦ rw (list_any-append (λ q. node_of q == node_of x) xs ys, here) refl
      | inr none ↦
          let later : has_node_twice xs ≡ true = rw none at h in
          rw (twice_longer xs ys later) (always (list_any (λ q. node_of q == node_of x) (xs ++ ys)))
    ] where
      always : (b : Bool) → (b || true) ≡ true
      always true = refl
      always false = refl

undefined_longer : (n : ℕ) (xs ys : List Pair) → is_undefined n xs ≡ true → is_undefined n (xs ++ ys) ≡ true
undefined_longer n xs ys h =
    elim (cases_Bool (list_any (λ q. not (is_entry n q)) xs)) [
      | inl here ↦ rw (list_any-append (λ q. not (is_entry n q)) xs ys, here) refl
      | inr none ↦
          let later : has_node_twice xs ≡ true = rw none at h in
          rw (twice_longer xs ys later) (always (list_any (λ q. not (is_entry n q)) (xs ++ ys)))
    ] where
      always : (b : Bool) → (b || true) ≡ true
      always true = refl
      always false = refl

below_is : (n : ℕ) (z : ℤ) → is_below n z ≡ true → number_of z < n
below_is n (pos k) h = grind (arith, nat_tests)
below_is n (negsuc k) h = cc

entry_low : (n : ℕ) (p : Pair) → is_entry n p ≡ true → node_of p < n
entry_low n p h = below_is n p.0 (first (is_below n p.0) (is_below 4294967296 p.1) h) where
  first : (a b : Bool) → (a && b) ≡ true → a ≡ true
  first true b k = refl
  first false b k = k

none_or_some : (o : Option ℕ) → is_some o ≡ not (is_none o)
none_or_some None = refl
none_or_some (Some x) = refl

module _ (n : ℕ) (ps : List Pair) (i : ℕ) (d : Pair) (table : List (Option ℕ)) (r : Bool)
    (low : i < length ps) (long : length table ≡ n) (fine : is_undefined n (take i ps) ≡ false)
    (values : (u : ℕ) → u < n → get_or table u None ≡ given (take i ps) u)
    (fits : r ≡ (is_entry (length table) (get_or ps i d) && is_none (get_or table (node_of (get_or ps i d)) None))) where
  more : is_undefined n (take (i + 1) ps) ≡ not r
  more =
      let p = get_or ps i d in
      let pushed = undefined_push n (take i ps) p in
      ap (is_undefined n) (take_more ps i d low) ∙ pushed ∙ rw fine (at_entry (is_entry n p) refl) where
        at_entry : (b : Bool) → is_entry n (get_or ps i d) ≡ b → (not (is_entry n (get_or ps i d)) || is_some (given (take i ps) (node_of (get_or ps i d)))) ≡ not r
        at_entry true e =
            let value = values (node_of (get_or ps i d)) (entry_low n (get_or ps i d) e) in
            rw (fits, long, e, value) (none_or_some (given (take i ps) (node_of (get_or ps i d))))
        at_entry false e = rw (fits, long, e) refl

  pub refused : r ≡ false → false ≡ not (is_undefined n ps)
  refused failed =
      let short : is_undefined n (take (i + 1) ps) ≡ true = more ∙ ap not failed in
      let all : is_undefined n ps ≡ true = sym (ap (is_undefined n) (take-append-drop (i + 1) ps)) ∙ undefined_longer n (take (i + 1) ps) (drop (i + 1) ps) short in
      sym (ap not all)

  pub taken : r ≡ true → is_undefined n (take (i + 1) ps) ≡ false
  taken is = more ∙ ap not is

-- ---- what is shown

range_more : (a k : ℕ) → range_with_len a (suc k) ≡ range_with_len a k ++ (a + k) ∷ []
range_more a zero = let same : a + 0 ≡ a = omega arith in rw same refl
range_more a (suc k) = let same : (a + 1) + k ≡ a + suc k = omega arith in ap (λ t. a ∷ t) (rw same at (range_more (a + 1) k))

one_shown : (o : Option Pair) (h : ℕ → Option Pair) (k : ℕ) → h k ≡ o → filter_map h (k ∷ []) ≡ option_to_list o
one_shown None h k e = rw e refl
one_shown (Some p) h k e = rw e refl

pub shown_more : (k : ℕ) (value : ℕ → Option ℕ) → shown_pairs (k + 1) value ≡ shown_pairs k value ++ option_to_list (option_map (λ v. (pos k, pos v)) (value k))
shown_more k value =
    let on : k + 1 ≡ suc k = omega arith in
    let from : 0 + k ≡ k = omega arith in
    let h : ℕ → Option Pair = λ u. option_map (λ v. (pos u, pos v)) (value u) in
    ap (λ m. filter_map h (range_with_len 0 m)) on
    ∙ ap (filter_map h) (range_more 0 k ∙ ap (λ j. range_with_len 0 k ++ j ∷ []) from)
    ∙ filter_map-append h (range_with_len 0 k) (k ∷ [])
    ∙ ap (λ t. filter_map h (range_with_len 0 k) ++ t) (one_shown (h k) h k refl)

agrees_from : (f g : ℕ → Option ℕ) (a k : ℕ) → ((u : ℕ) → a ≤ u → u < a + k → f u ≡ g u)
    → filter_map {Y = ℤ × ℤ} (λ u. option_map (λ v. (pos u, pos v)) (f u)) (range_with_len a k) ≡ filter_map {Y = ℤ × ℤ} (λ u. option_map (λ v. (pos u, pos v)) (g u)) (range_with_len a k)
agrees_from f g a zero same = refl
agrees_from f g a (suc k) same =
    rw (same a (omega arith) (omega arith), agrees_from f g (a + 1) k (λ u low high. same u (omega arith) (omega arith))) refl

-- values that agree are shown alike
pub shown_agrees : (n : ℕ) (f g : ℕ → Option ℕ) → ((u : ℕ) → u < n → f u ≡ g u) → shown_pairs n f ≡ shown_pairs n g
shown_agrees n f g same = agrees_from f g 0 n (λ u low high. same u (omega arith))
