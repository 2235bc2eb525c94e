-- The ends of a schedule's lines, and its lines, at the front of a text.
use Rattle.std.proofs.Common.{◌≡◌, ◌≢◌, ℕ, ◌<◌, ◌^◌, List, ◌++◌, codes, get_or, refl, sym, ap, ◌∙◌, arith, append_assoc, Some, None}
use Rattle.std.specs.Fmt.{decimal}
use Rattle.std.proofs.lemmas.List.{append_cancel_left}
use Rattle.report_text.specs.Front.{IsFront, Ends, Anything}
use Rattle.report_text.proofs.Digits.{number_once}
use Rattle.unison_world.specs.declared.step.Step.{Step}
use Rattle.unison_world.specs.declared.step.Step.TheVariants.{Read, Write}
use Rattle.unison_trace.specs.Schedules.{line_of, IsStep}
use Rattle.unison_trace.specs.ReadLines.{AreSmall, number_line, pair_line}

abbrev Small : ℕ → Type 0
Small n = n < 2 ^ 32

-- the blank between two numbers, and what stands after it
abbrev blank_and : List ℕ → List ℕ
blank_and rest = codes " " ++ rest

pair_apart : (p : ℕ × ℕ) (behind : List ℕ) → pair_line p ++ behind ≡ decimal p.0 ++ blank_and (number_line p.1 ++ behind)
pair_apart p behind = append_assoc (decimal p.0) (blank_and (number_line p.1)) behind

module _ (bytes : List ℕ) where
  -- no number stands at the front
  pub pair-no_first : IsFront decimal Small Ends bytes None → IsFront pair_line AreSmall Anything bytes None
  pair-no_first h = λ p behind fits any e. h p.0 (blank_and (number_line p.1 ++ behind)) fits.0 refl (e ∙ pair_apart p behind)

  module _ (n : ℕ) (rest : List ℕ) (is : bytes ≡ decimal n ++ rest) (small : n < 2 ^ 32) (ends : Ends rest) where
    -- what stands after the first number of a pair
    behind_first : (p : ℕ × ℕ) (behind : List ℕ) → AreSmall p → bytes ≡ pair_line p ++ behind → rest ≡ blank_and (number_line p.1 ++ behind)
    behind_first p behind fits e = (number_once n p.0 rest (blank_and (number_line p.1 ++ behind)) small fits.0 ends refl (sym is ∙ e ∙ pair_apart p behind)).1

    -- no blank stands after the first number
    pub pair-no_blank : ((more : List ℕ) → rest ≢ blank_and more) → IsFront pair_line AreSmall Anything bytes None
    pair-no_blank none = λ p behind fits any e. none (number_line p.1 ++ behind) (behind_first p behind fits e)

    module _ (second : List ℕ) (blank : rest ≡ blank_and second) where
      -- no number that ends a line stands after the blank
      pub pair-no_second : IsFront number_line Small Anything second None → IsFront pair_line AreSmall Anything bytes None
      pair-no_second h = λ p behind fits any e.
          h p.1 behind fits.1 tt (append_cancel_left (codes " ") second (number_line p.1 ++ behind) (sym blank ∙ behind_first p behind fits e))

      -- both numbers stand there
      pub pair-found : (m : ℕ) (more : List ℕ) → IsFront number_line Small Anything second (Some (m, more)) → IsFront pair_line AreSmall Anything bytes (Some ((n, m), more))
      pair-found m more h = (is ∙ ap (λ r. decimal n ++ r) (blank ∙ ap blank_and h.0) ∙ sym (pair_apart (n, m) more), (small, h.1), tt)

-- a line of a write begins otherwise than one of a read
apart : (left right : List ℕ) → codes "read " ++ left ≢ codes "write " ++ right
apart left right e = (let first : ◌≡◌ {A = ℕ} 114 119 = ap (λ bs. get_or bs 0 0) e in absurd (omega arith))

module _ (bytes rest : List ℕ) where
  -- where no pair stands after the word of a read, no line of a step does at the front
  pub step-no_pair : bytes ≡ codes "read " ++ rest → IsFront pair_line AreSmall Anything rest None → (step : Step) (behind : List ℕ) → IsStep step → Anything behind → bytes ≢ line_of step ++ behind
  step-no_pair is h (Read n s) behind fits any e = h (n, s) behind fits tt (append_cancel_left (codes "read ") rest (pair_line (n, s) ++ behind) (sym is ∙ e))
  step-no_pair is h (Write n) behind fits any e = apart rest (number_line n ++ behind) (sym is ∙ e)

  -- where no number stands after the word of a write, no line of a step does at the front
  pub step-no_number : bytes ≡ codes "write " ++ rest → IsFront number_line Small Anything rest None → (step : Step) (behind : List ℕ) → IsStep step → Anything behind → bytes ≢ line_of step ++ behind
  step-no_number is h (Read n s) behind fits any e = apart (pair_line (n, s) ++ behind) rest (sym e ∙ is)
  step-no_number is h (Write n) behind fits any e = h n behind fits tt (append_cancel_left (codes "write ") rest (number_line n ++ behind) (sym is ∙ e))
