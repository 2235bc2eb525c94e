-- Words with a colon at their end, and words for moves.
use Rattle.std.proofs.Common.{◌≡◌, ◌⊎◌, ℕ, ◌-◌, ◌≤◌, ◌==◌, Bool, true, false, ◌||◌, List, [], ◌∷◌, ◌++◌, codes, length, length-append, take, get_or, slice_index, inl, inr, refl, sym, ap, ◌∙◌, subst, arith}
use Rattle.std.specs.Str.{bytes_eq}
use Rattle.std.proofs.Math.Seq.{get_or-append_seam}
use Rattle.std.proofs.lemmas.Bool.{cases_Bool}
use Rattle.std.proofs.lemmas.Bool.Decides.{Decides-eqb}
use Rattle.std.proofs.lemmas.Slice.Eq.{bytes_eq-Decides}
use Rattle.run_steps.specs.verify.Meaning.{without_colon, is_move}
use Rattle.run_steps.specs.verify.Spelled.{StandsFor, SaysMove}
use Rattle.run_steps.proofs.verify.Words.{colon-off, whole, colon-none}

-- the last byte of a word with a colon at its end
ends-so : (word front : List ℕ) → word ≡ front ++ 58 ∷ [] → (slice_index word (length word - 1) == 58) ≡ true
ends-so word front e =
    let many : length word - 1 ≡ length front = omega (arith, ap length e, length-append front (58 ∷ [])) in
    let last : slice_index word (length word - 1) ≡ 58 = ap (slice_index word) many ∙ ap (λ (w : List ℕ). get_or w (length front) 0) e ∙ get_or-append_seam front 58 [] 0 in
    (Decides-eqb _ 58).1 last

some-stands : (word : List ℕ) → 1 ≤ length word → ((slice_index word (length word - 1) == 58) ≡ true) ⊎ ((slice_index word (length word - 1) == 58) ≡ false) → StandsFor word (without_colon word)
some-stands word some (inl is) =
    let off : without_colon word ≡ take (length word - 1) word = rw is refl in
    inl (whole word some ∙ ap (λ (x : ℕ). take (length word - 1) word ++ x ∷ []) ((Decides-eqb _ 58).0 is) ∙ ap (λ (f : List ℕ). f ++ 58 ∷ []) (sym off))
some-stands word some (inr not) =
    let own : without_colon word ≡ word = rw not refl in
    inr (sym own, λ front e. (let yes = ends-so word front e in let bad : true ≡ false = sym yes ∙ not in cc))

-- a word stands for itself without the colon
pub stands-for : (word : List ℕ) → StandsFor word (without_colon word)
stands-for [] = inr (refl, λ front e. (let many = ap length e in let one = length-append front (58 ∷ []) in absurd (omega arith)))
stands-for (b ∷ bytes) = some-stands (b ∷ bytes) (omega arith) (cases_Bool (slice_index (b ∷ bytes) (length (b ∷ bytes) - 1) == 58))

-- and for no other
pub stands-only : (word plain : List ℕ) → StandsFor word plain → plain ≡ without_colon word
stands-only word plain (inl e) = colon-off word plain e
stands-only word plain (inr e) = sym e.0 ∙ colon-none word e.1

pub or-split : (a b : Bool) → (a || b) ≡ true → (a ≡ true) ⊎ (b ≡ true)
or-split true b h = inl refl
or-split false b h = inr h

pub or-first : (a b : Bool) → a ≡ true → (a || b) ≡ true
or-first true b h = refl
or-first false b h = cc

pub or-second : (a b : Bool) → b ≡ true → (a || b) ≡ true
or-second true b h = refl
or-second false b h = h

module _ (word : List ℕ) where
  -- a word for a move
  pub move-said : is_move (without_colon word) ≡ true → SaysMove word
  move-said h =
      elim (or-split (bytes_eq (without_colon word) (codes "moves")) (bytes_eq (without_colon word) (codes "turn")) h) [
        | inl moves ↦ inl (subst (StandsFor word) ((bytes_eq-Decides (without_colon word) (codes "moves")).0 moves) (stands-for word))
        | inr turn ↦ inr (subst (StandsFor word) ((bytes_eq-Decides (without_colon word) (codes "turn")).0 turn) (stands-for word))
      ]

  pub said-move : SaysMove word → is_move (without_colon word) ≡ true
  said-move (inl moves) =
      or-first (bytes_eq (without_colon word) (codes "moves")) (bytes_eq (without_colon word) (codes "turn")) ((bytes_eq-Decides (without_colon word) (codes "moves")).1 (sym (stands-only word (codes "moves") moves)))
  said-move (inr turn) =
      or-second (bytes_eq (without_colon word) (codes "moves")) (bytes_eq (without_colon word) (codes "turn")) ((bytes_eq-Decides (without_colon word) (codes "turn")).1 (sym (stands-only word (codes "turn") turn)))
