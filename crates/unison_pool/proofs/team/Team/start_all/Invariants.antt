use Rattle.std.proofs.Common.{◌≡◌, ◌≤◌, ◌+◌, vec_len, vec_capacity}
use Rattle.unison_pool.proofs.team.Team.start_all.Given as goal

abbrev pub invariant-loop-worker : goal.invariant-loop-worker
invariant-loop-worker g l = record {
  count : vec_len l.threads ≡ vec_len l.fn.threads + l.worker;
  room : vec_len l.fn.threads + l.workers ≤ vec_capacity l.threads;
}
