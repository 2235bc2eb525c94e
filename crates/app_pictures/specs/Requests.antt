-- Which numbers requests may have.
use Rattle.std.specs.Prelude.{◌≤◌}
use Rattle.rounds_plan.specs.Configs.{most_rounds}
use Rattle.app_pictures.specs.declared.page_request.PageRun.{PageRun}
use Rattle.app_pictures.specs.declared.page_request.PageRun.TheVariants.{Rounds, Steps}

-- the run of a page stops at a round
abbrev pub IsRunWithin : PageRun → Type 0
IsRunWithin (Rounds span) = Unit {0}
IsRunWithin (Steps schedule stop naive) = stop ≤ most_rounds
