-- Which numbers requests may have.
use Rattle.std.specs.Prelude.{◌≤◌, IfSome}
use Rattle.app_commands.specs.declared.arguments.GridWidth.{GridWidth}
use Rattle.app_commands.specs.declared.arguments.GridWidth.TheVariants.{Given, Shown}
use Rattle.app_commands.specs.declared.start.RunTexts.{RunTexts}

-- a grid whose width is given has as many nodes in a row as a network may have, one at least
abbrev pub IsWidthWithin : GridWidth → Type 0
IsWidthWithin (Given width) = (1 ≤ width) × (width ≤ 65536)
IsWidthWithin Shown = Unit {0}

-- rounds are shared among 1 to 1024 threads, where it is said among how many
abbrev pub AreThreadsWithin : RunTexts → Type 0
AreThreadsWithin texts = IfSome texts.threads (λ threads. (1 ≤ threads) × (threads ≤ 1024))
