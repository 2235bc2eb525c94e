use Rattle.std.proofs.Common.{◌≡◌, ◌++◌, ℕ, [], codes, drop, slice_index_or, string_bytes}
use Rattle.std.specs.List.{flat_map}
use Rattle.rule_check.specs.Value.{names_of}
use Rattle.run_watch.proofs.watching.put_names.Given as goal

abbrev pub invariant-loop-place : goal.invariant-loop-place
invariant-loop-place l =
    string_bytes l.out ++ flat_map (λ (k : ℕ). codes "," ++ slice_index_or (names_of l.program) k []) (drop l.place-index l.show.fields.now)
    ≡ string_bytes l.initial.out ++ flat_map (λ (k : ℕ). codes "," ++ slice_index_or (names_of l.program) k []) l.show.fields.now
