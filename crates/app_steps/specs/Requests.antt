-- Which numbers requests may have.
use Rattle.std.specs.Prelude.{◌≤◌}
use Rattle.rounds_plan.specs.Configs.{most_rounds}
use Rattle.unison_trace.specs.Histories.{most_steps}
use Rattle.app_steps.specs.declared.schedule_request.Limits.{Limits}
use Rattle.app_steps.specs.declared.schedule_request.ScheduleRequest.{ScheduleRequest}
use Rattle.app_steps.specs.declared.schedule_request.ScheduleRequest.TheVariants as request

-- steps stop at a round, there are 1000000 at most, and not all of them are refused ones
abbrev pub AreWithin : Limits → Type 0
AreWithin limits = (limits.stop ≤ most_rounds) × (limits.count ≤ most_steps) × (limits.refused ≤ 99)

-- the limits of steps in a manner are within those of all steps
abbrev pub IsScheduleWithin : ScheduleRequest → Type 0
IsScheduleWithin (request.Listing listing) = AreWithin listing.limits
IsScheduleWithin (request.Writing writing) = Unit {0}
