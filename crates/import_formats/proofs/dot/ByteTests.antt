-- Tests of bytes, and runs of bytes of one sort.
use Rattle.std.proofs.Common.{◌≡◌, ℕ, Bool, true, false, List, [], ◌∷◌, ◌++◌, length, refl, sym, ap, ◌∙◌, arith, eqb-true, ◌&&◌, ◌||◌}
use Rattle.std.specs.Prelude.{◌==◌}
use Rattle.std.specs.List.{prefix_len}
use Rattle.std.proofs.lemmas.Bool.{false≢true}
use Rattle.import_formats.specs.dot.Lexemes.{IsRun}

-- a test passes or fails
pub by_test : {P : Type 0} (t : Bool) → (t ≡ true → P) → (t ≡ false → P) → P
by_test true passes fails = passes refl
by_test false passes fails = fails refl

pub and_false : (x : Bool) → (x && false) ≡ false
and_false true = refl
and_false false = refl

pub and_true : (x : Bool) → (x && true) ≡ x
and_true true = refl
and_true false = refl

pub or_left : (x y : Bool) → (x || y) ≡ false → x ≡ false
or_left true y e = absurd (false≢true (sym e))
or_left false y e = refl

-- a byte of a sort is none that is not of it
pub differs : (sort : ℕ → Bool) (b k : ℕ) → sort b ≡ true → sort k ≡ false → (b == k) ≡ false
differs sort b k is other = by_test (b == k) (λ e. absurd (false≢true (sym other ∙ ap sort (sym (eqb-true b k e)) ∙ is))) (λ e. e)

-- ---- runs

pub run_length : (sort : ℕ → Bool) (run behind : List ℕ) → IsRun sort run behind → prefix_len sort (run ++ behind) ≡ length run
run_length sort [] [] is = refl
run_length sort [] (b ∷ behind) is = (let stops : sort b ≡ false = is.stops in rw stops refl)
run_length sort (b ∷ run) behind is =
    (let more = run_length sort run behind (record { each = is.each.1; stops = is.stops }) in
    let first : sort b ≡ true = is.each.0 in
    rw (first, more) (omega arith))

pub record RunAt (sort : ℕ → Bool) (bytes : List ℕ) : Type 0 where
  pub run : List ℕ
  pub behind : List ℕ
  pub cut : bytes ≡ run ++ behind
  pub is : IsRun sort run behind

longer_run : (sort : ℕ → Bool) (b : ℕ) (bytes : List ℕ) → sort b ≡ true → RunAt sort bytes → RunAt sort (b ∷ bytes)
longer_run sort b bytes first more = record { run = b ∷ more.run; behind = more.behind; cut = ap (λ x. b ∷ x) more.cut; is = record { each = (first, more.is.each); stops = more.is.stops } }

-- the bytes of a sort that stand at the front
pub run_found : (sort : ℕ → Bool) (bytes : List ℕ) → RunAt sort bytes
run_found sort [] = record { run = []; behind = []; cut = refl; is = record { each = tt; stops = tt } }
run_found sort (b ∷ bytes) = by_test (sort b) (λ first. longer_run sort b bytes first (run_found sort bytes)) (λ first. record { run = []; behind = b ∷ bytes; cut = refl; is = record { each = tt; stops = first } })
