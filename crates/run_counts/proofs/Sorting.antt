-- Values that are sorted, each once.
use Rattle.std.proofs.Common.{◌≡◌, ◌∙◌, ◌++◌, ℕ, List, [], ◌∷◌, ap, eqb, refl, sym, subst}
use Rattle.std.proofs.lemmas.Grind.{flat_map-append}
use Rattle.std.proofs.lemmas.List.Kept.{Contains-dedup_nat, Contains-from_dedup}
use Rattle.std.proofs.lemmas.List.Sorted.{Contains-permutation, IsPermutation-sym}
use Rattle.std.proofs.lemmas.Map.Keys.{IsStrictlyIncreasing-dedup}
use Rattle.std.specs.List.{dedup, flat_map}
use Rattle.std.specs.List.Sorted.{IsPermutation, IsSorted}
use Rattle.std.specs.Ordering.{nat_cmp}
use Rattle.run_counts.specs.Ensembles.{RunView, rows_in}
use Rattle.run_counts.specs.Rows.{AreOnce, keys_of}

-- numbers that are sorted, each left once, rise and are the same numbers
pub are_once : (keys sorted values : List ℕ) → IsPermutation keys sorted → IsSorted nat_cmp sorted → values ≡ dedup eqb sorted → AreOnce keys values
are_once keys sorted values moved rising left =
    let whole : AreOnce keys (dedup eqb sorted) = record {
      rising = IsStrictlyIncreasing-dedup sorted rising;
      each = λ v. (
        λ there. Contains-permutation sorted keys v (IsPermutation-sym keys sorted moved) (Contains-from_dedup eqb sorted v there),
        λ there. Contains-dedup_nat sorted v (Contains-permutation keys sorted v moved there),
      );
    } in
    subst (λ (xs : List ℕ). AreOnce keys xs) (sym left) whole

-- the values that occur in the rounds of all runs are those of one run after the other
pub keys_in_runs : (runs : List RunView) → flat_map (λ (r : RunView). flat_map keys_of r.rows) runs ≡ flat_map keys_of (rows_in runs)
keys_in_runs [] = refl
keys_in_runs (r ∷ runs) =
    ap (λ (xs : List ℕ). flat_map keys_of r.rows ++ xs) (keys_in_runs runs) ∙ sym (flat_map-append keys_of r.rows (rows_in runs))
