use Rattle.link_net.specs.Reading.{reading_of}
use Rattle.app_jobs.proofs.Causes.{read_by, refused_by}
use Rattle.app_jobs.proofs.first.refused_network.Goals as goal

pub returns : goal.returns
returns c =
    let found = c.in_ok-cause.cause in
    let agrees = c.in_ok-cause.ensures.agrees in
    record {
      refused = refused_by found (reading_of c.args.network.now) agrees;
      named = c.in_ok-cause.ensures.named;
      read = λ none. read_by found (reading_of c.args.network.now) none agrees;
    }
