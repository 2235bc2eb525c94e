-- What calls do at the places of a list that is part of a whole.
use Rattle.std.specs.Prelude.{ℕ, ◌+◌, ◌<◌, List, length, slice_index_or}
use denote.Ref.{MutBor}
use denote.Param.Members.{Shared}
use Rattle.std.specs.Fork.{AcceptsAt, ChangesAt}

module _ {F T : Type 0} (g : Shared F (ℕ × (MutBor T × Unit {0})) ((Unit {0}) × (MutBor T × Unit {0}))) (f : F) where
  -- f may be called at each place of xs, which begins at this place of the whole
  pub record AcceptsFrom (from : ℕ) (xs : List T) : Type 0 where
    pub each : (k : ℕ) (d : T) → k < length xs → AcceptsAt g f (from + k) (slice_index_or xs k d)

  -- each element of ys is what a call of f left at that place of xs, which begins at this place of the whole
  pub record ChangesFrom (from : ℕ) (xs ys : List T) : Type 0 where
    pub each : (k : ℕ) (d : T) → k < length xs → ChangesAt g f (from + k) (slice_index_or xs k d) (slice_index_or ys k d)
