-- Why a value gets no colour of its own.
use Rattle.std.specs.Prelude.{ℕ, if◌then◌else◌, length, nat_le, Option, Some, None}
use Rattle.run_picture.specs.declared.styles.StylesFault.{StylesFault}
use Rattle.run_picture.specs.declared.styles.StylesFault.TheVariants.{TwoColours, TooManyColours}
use Rattle.run_picture.specs.Chosen.{StylesView, has_own, most_colours}

-- why a value gets no colour of its own, whatever memory there is
abbrev pub colour_refusal : StylesView → ℕ → Option StylesFault
colour_refusal styles v = if has_own styles.colours v then Some TwoColours else if nat_le most_colours (length styles.colours) then Some TooManyColours else None
