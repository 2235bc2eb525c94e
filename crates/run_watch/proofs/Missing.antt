-- Places at which a program has a field.
use Rattle.std.proofs.Common.{◌≡◌, ◌<◌, ℕ, zero, suc, List, [], ◌∷◌, Bool, true, false, if◌then◌else◌, All, arith, length, nat_lt, refl}
use Rattle.std.proofs.lemmas.Grind.{common_steps}
use Rattle.std.specs.Option.{option_map}
use Rattle.std.specs.Prelude.{Option, Some, None}
use Rattle.rounds_plan.specs.Configs.{most_rounds}
use Rattle.rounds_plan.specs.Plans.{PlanView}
use Rattle.run_watch.specs.declared.fault.WatchFault.TheVariants.{TooManyRounds, RoundsBelowStart, NoField}
use Rattle.run_watch.specs.declared.show.Show.{Show}
use Rattle.run_watch.specs.Spans.{SpanView}
use Rattle.run_watch.specs.Watching.{missing_of, refusal_of}

split_first : (b : Bool) (x : ℕ) (rest : Option ℕ) → (if b then rest else Some x) ≡ None → (b ≡ true) × (rest ≡ None)
split_first true x rest none = (refl, none)
split_first false x rest none = absurd (let e : Some x ≡ None = none in cc)

-- none is missing
pub none_missing : (count : ℕ) (places : List ℕ) → missing_of count places ≡ None → All (λ place. place < count) places
none_missing count [] none k d inside = absurd (omega (arith, inside))
none_missing count (x ∷ xs) none zero d inside =
    let there = (split_first (nat_lt x count) x (missing_of count xs) none).0 in
    grind (arith, common_steps, there)
none_missing count (x ∷ xs) none (suc k) d inside = none_missing count xs (split_first (nat_lt x count) x (missing_of count xs) none).1 k d (omega (arith, inside))

mapped_none : (m : Option ℕ) → option_map NoField m ≡ None → m ≡ None
mapped_none None none = refl
mapped_none (Some x) none = absurd (let e : Some (NoField x) ≡ None = none in cc)

behind_both : (a b : Bool) (m : Option ℕ) → (if a then Some TooManyRounds else if b then Some RoundsBelowStart else option_map NoField m) ≡ None → m ≡ None
behind_both true b m none = absurd (let e : Some TooManyRounds ≡ None = none in cc)
behind_both false true m none = absurd (let e : Some RoundsBelowStart ≡ None = none in cc)
behind_both false false m none = mapped_none m none

-- where nothing is refused, none is missing
pub fields_there : (p : PlanView) (span : SpanView) (show : Show) → refusal_of p span show ≡ None → All (λ place. place < length p.program.fields) show.fields.now
fields_there p span show fits =
    none_missing (length p.program.fields) show.fields.now
    (behind_both (nat_lt most_rounds span.last) (nat_lt span.first p.start) (missing_of (length p.program.fields) show.fields.now) fits)
