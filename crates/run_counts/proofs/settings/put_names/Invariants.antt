use Rattle.std.proofs.Common.{◌≡◌, ◌++◌, codes, drop, string_bytes}
use Rattle.std.specs.List.{flat_map}
use Rattle.run_counts.specs.declared.ensemble.Setting.{Setting}
use Rattle.run_counts.proofs.settings.put_names.Given as goal

abbrev pub invariant-loop-setting : goal.invariant-loop-setting
invariant-loop-setting l =
    string_bytes l.out ++ flat_map (λ (s : Setting). string_bytes s.name ++ codes ",") (drop l.setting-index l.settings)
    ≡ string_bytes l.initial.out ++ flat_map (λ (s : Setting). string_bytes s.name ++ codes ",") l.settings
