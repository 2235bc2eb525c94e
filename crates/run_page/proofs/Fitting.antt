-- What holds where nothing is refused.
use Rattle.std.proofs.Common.{◌≡◌, ◌<◌, ◌≤◌, ℕ, Bool, true, false, if◌then◌else◌, All, arith, length, nat_lt, refl}
use Rattle.std.proofs.lemmas.Grind.{common_steps}
use Rattle.std.specs.Option.{option_map, option_or}
use Rattle.std.specs.Prelude.{Option, Some, None}
use Rattle.rounds_plan.specs.Configs.{most_rounds}
use Rattle.rounds_plan.specs.Plans.{PlanView}
use Rattle.run_watch.specs.Spans.{count_of}
use Rattle.run_watch.specs.Watching.{missing_of}
use Rattle.run_watch.proofs.Missing.{none_missing}
use Rattle.run_page.specs.declared.fault.PageFault.{PageFault}
use Rattle.run_page.specs.declared.fault.PageFault.TheVariants.{TooManyRounds, RoundsBelowStart, StopTooLarge, StopBelowStart, NoField}
use Rattle.run_page.specs.declared.look.Look.{Look}
use Rattle.run_page.specs.declared.look.PageRounds.{PageRounds}
use Rattle.run_page.specs.Refusals.{field_refusal, opening_refusal, rounds_refusal, values_in, values_refusal}

-- neither of two tests, and then nothing
neither : (a b : Bool) (e f : PageFault) (m : Option PageFault) → (if a then Some e else if b then Some f else m) ≡ None → (a ≡ false) × (b ≡ false) × (m ≡ None)
neither true b e f m none = absurd (let is : Some e ≡ None = none in cc)
neither false true e f m none = absurd (let is : Some f ≡ None = none in cc)
neither false false e f m none = (refl, refl, none)

first_none : (a b : Option PageFault) → option_or a b ≡ None → a ≡ None
first_none None b none = refl
first_none (Some e) b none = absurd (let is : Some e ≡ None = none in cc)

mapped_none : (m : Option ℕ) → option_map NoField m ≡ None → m ≡ None
mapped_none None none = refl
mapped_none (Some x) none = absurd (let is : Some (NoField x) ≡ None = none in cc)

not_below : (a b : ℕ) → nat_lt a b ≡ false → b ≤ a
not_below a b test = grind (arith, common_steps, test)

-- the program has each of the fields
pub fields_there : (p : PlanView) (look : Look) → field_refusal p look ≡ None → All (λ place. place < length p.program.fields) look.fields.now
fields_there p look none = none_missing (length p.program.fields) look.fields.now (mapped_none (missing_of (length p.program.fields) look.fields.now) none)

pub rounds_fit : (p : PlanView) (rounds : PageRounds) → rounds_refusal p rounds ≡ None
    → (rounds.span.now.last ≤ most_rounds) × (p.start ≤ rounds.span.now.first) × All (λ place. place < length p.program.fields) rounds.look.now.fields.now
unfolding rounds_refusal
rounds_fit p rounds none =
    let span = rounds.span.now in
    let look = rounds.look.now in
    let parts = neither (nat_lt most_rounds span.last) (nat_lt span.first p.start) TooManyRounds RoundsBelowStart (option_or (field_refusal p look) (values_refusal (values_in p look (count_of span)))) none in (
      not_below most_rounds span.last parts.0,
      not_below span.first p.start parts.1,
      fields_there p look (first_none (field_refusal p look) (values_refusal (values_in p look (count_of span))) parts.2),
    )

pub steps_fit : (p : PlanView) (stop : ℕ) (look : Look) → opening_refusal p stop look ≡ None
    → (stop ≤ most_rounds) × (p.start ≤ stop) × All (λ place. place < length p.program.fields) look.fields.now
unfolding opening_refusal
steps_fit p stop look none =
    let parts = neither (nat_lt most_rounds stop) (nat_lt stop p.start) StopTooLarge StopBelowStart (field_refusal p look) none in
    (not_below most_rounds stop parts.0, not_below stop p.start parts.1, fields_there p look parts.2)
