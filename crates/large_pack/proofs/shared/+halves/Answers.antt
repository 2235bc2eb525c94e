use Rattle.std.proofs.Common.{◌+◌}
use Rattle.import_lines.specs.Texts.{told_from}
use Rattle.large_pack.proofs.shared.+halves.Goals as goal

pub returns : goal.returns
returns g t c =
    let halves = c.halves.result in
    record {
      read = rw c.halves.ensures.lines
          (c.both_readings.ensures.read c.args.options.now (told_from (halves.0.passed + 1) halves.0.bytes.now) (told_from (halves.1.passed + 1) halves.1.bytes.now)
          c.join-first.ensures.first c.join-first.ensures.second);
    }
