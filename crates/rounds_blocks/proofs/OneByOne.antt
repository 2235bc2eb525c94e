-- Two parts of a list, place by place.
use Rattle.std.proofs.Common.{◌≡◌, ◌<◌, ◌≤◌, ◌+◌, ◌-◌, ◌⊎◌, inl, inr, ℕ, List, ◌++◌, length, sym, refl, arith, subst, slice_index_or}
use Rattle.std.proofs.lemmas.Bool.{cases_order}
use Rattle.std.proofs.lemmas.List.{length-append, get_or_append_left, get_or-append_right, get_or-append-add}

-- what holds of each element of two parts holds of each element of the latter
pub others_of : {D : Type 0} (P : ℕ → D → Type 0) (from : ℕ) (xs ys : List D) → ((k : ℕ) (d : D) → k < length (xs ++ ys) → P (from + k) (slice_index_or (xs ++ ys) k d))
    → (k : ℕ) (d : D) → k < length ys → P (from + length xs + k) (slice_index_or ys k d)
others_of P from xs ys all k d inside =
    let same : from + (length xs + k) ≡ from + length xs + k = omega arith in
    subst (λ n. P n (slice_index_or ys k d)) same
    (subst (P (from + (length xs + k))) (get_or-append-add xs ys k d) (all (length xs + k) d (omega (arith, length-append xs ys, inside))))

-- what holds of each element of a list holds of each of two parts that make it
pub of_parts : {D : Type 0} (P : ℕ → D → Type 0) (from : ℕ) (all xs ys : List D) → all ≡ xs ++ ys → ((k : ℕ) (d : D) → k < length all → P (from + k) (slice_index_or all k d))
    → (k : ℕ) (d : D) → k < length (xs ++ ys) → P (from + k) (slice_index_or (xs ++ ys) k d)
of_parts {D} P from all xs ys are each = subst (λ (zs : List D). (k : ℕ) (d : D) → k < length zs → P (from + k) (slice_index_or zs k d)) are each

-- what holds of the elements before and after of two parts holds of those of both together
module _ {D : Type 0} (R : ℕ → D → D → Type 0) (from : ℕ) (xs ys xs' ys' : List D) (long : length xs' ≡ length xs)
    (first : (k : ℕ) (d : D) → k < length xs → R (from + k) (slice_index_or xs k d) (slice_index_or xs' k d))
    (others : (k : ℕ) (d : D) → k < length ys → R (from + length xs + k) (slice_index_or ys k d) (slice_index_or ys' k d)) where
  in_others : (k : ℕ) (d : D) → length xs ≤ k → k < length (xs ++ ys) → R (from + k) (slice_index_or (xs ++ ys) k d) (slice_index_or (xs' ++ ys') k d)
  in_others k d late inside =
      let n = length xs in
      let same : from + n + (k - n) ≡ from + k = omega (arith, late) in
      subst (λ n. R n (slice_index_or (xs ++ ys) k d) (slice_index_or (xs' ++ ys') k d)) same
      (subst (λ x. R (from + n + (k - n)) x (slice_index_or (xs' ++ ys') k d)) (sym (get_or-append_right xs ys n k d refl late))
      (subst (R (from + n + (k - n)) (slice_index_or ys (k - n) d)) (sym (get_or-append_right xs' ys' n k d long late))
      (others (k - n) d (omega (arith, length-append xs ys, inside, late)))))

  in_first : (k : ℕ) (d : D) → k < length xs → R (from + k) (slice_index_or (xs ++ ys) k d) (slice_index_or (xs' ++ ys') k d)
  in_first k d early =
      subst (λ x. R (from + k) x (slice_index_or (xs' ++ ys') k d)) (sym (get_or_append_left xs ys d k early))
      (subst (R (from + k) (slice_index_or xs k d)) (sym (get_or_append_left xs' ys' d k (omega (arith, long, early))))
      (first k d early))

  by_order : (k : ℕ) (d : D) → k < length (xs ++ ys) → ((k ≡ length xs) ⊎ ((k < length xs) ⊎ (length xs < k))) → R (from + k) (slice_index_or (xs ++ ys) k d) (slice_index_or (xs' ++ ys') k d)
  by_order k d inside (inl at) = in_others k d (omega (arith, at)) inside
  by_order k d inside (inr (inl early)) = in_first k d early
  by_order k d inside (inr (inr late)) = in_others k d (omega (arith, late)) inside

  pub both_parts : (k : ℕ) (d : D) → k < length (xs ++ ys) → R (from + k) (slice_index_or (xs ++ ys) k d) (slice_index_or (xs' ++ ys') k d)
  both_parts k d inside = by_order k d inside (cases_order k (length xs))
