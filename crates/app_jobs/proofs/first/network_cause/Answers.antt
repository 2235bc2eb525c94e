use Rattle.std.proofs.Common.{◌∙◌, sym}
use Rattle.app_jobs.proofs.Accepted.{none_accepted}
use Rattle.app_jobs.proofs.first.network_cause.Goals as goal

pub returns-then-is_some : goal.returns-then-is_some
returns-then-is_some c =
    let found = c.in_ok-program_fault.field-0 in
    record {
      needed = tt;
      refused = tt;
      named = tt;
      read = λ none needed items accepted.
          absurd (none_accepted c.args.program.now items found (sym c.is_some.ensures ∙ c.if-is_some.true) c.in_ok-program_fault.ensures.refused c.in_ok-program_fault.ensures.shown accepted);
    }
