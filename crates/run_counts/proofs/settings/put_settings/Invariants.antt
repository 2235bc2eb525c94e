use Rattle.std.proofs.Common.{◌≡◌, ◌++◌, drop, string_bytes}
use Rattle.std.specs.List.{flat_map}
use Rattle.run_counts.specs.Settings.{setting_cell}
use Rattle.run_counts.proofs.settings.put_settings.Given as goal

abbrev pub invariant-loop-setting : goal.invariant-loop-setting
invariant-loop-setting l =
    string_bytes l.out ++ flat_map (setting_cell l.format) (drop l.setting-index l.settings) ≡ string_bytes l.initial.out ++ flat_map (setting_cell l.format) l.settings
