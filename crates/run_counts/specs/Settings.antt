-- What stands before the lines of a run, or of some runs: what varies, and its values.
use Rattle.std.specs.Prelude.{ℕ, List, [], ◌∷◌, ◌++◌, codes, string_bytes}
use Rattle.std.specs.Fmt.{decimal}
use Rattle.std.specs.List.{flat_map}
use Rattle.run_counts.specs.declared.asked.CountFormat.{CountFormat}
use Rattle.run_counts.specs.declared.asked.CountFormat.TheVariants.{Csv, Json}
use Rattle.run_counts.specs.declared.ensemble.Group.{Group}
use Rattle.run_counts.specs.declared.ensemble.Setting.{Setting}
use Rattle.run_counts.specs.declared.ensemble.SettingValue.{SettingValue}
use Rattle.run_counts.specs.declared.ensemble.SettingValue.TheVariants.{Number, Decimal, Name}
use Rattle.run_counts.specs.declared.ensemble.Variant.{Variant}

-- a value, in CSV
abbrev pub value_text : SettingValue → List ℕ
value_text (Number n) = decimal n
value_text (Decimal text) = string_bytes text
value_text (Name name) = string_bytes name

-- a value, in JSON: a name stands between quotes
abbrev pub json_value : SettingValue → List ℕ
json_value (Number n) = decimal n
json_value (Decimal text) = string_bytes text
json_value (Name name) = codes "\"" ++ (string_bytes name ++ codes "\"")

-- a value and a comma, in JSON after what it is of
abbrev pub setting_cell : CountFormat → Setting → List ℕ
setting_cell Csv s = value_text s.value ++ codes ","
setting_cell Json s = (codes "\"" ++ (string_bytes s.name ++ codes "\"")) ++ (codes ":" ++ (json_value s.value ++ codes ","))

-- what stands before the round in a line: each value
abbrev pub head_text : CountFormat → List Setting → List ℕ
head_text format settings = flat_map (setting_cell format) settings

-- what stands before `round` in the line of headings: what varies
abbrev pub names_text : List Setting → List ℕ
names_text settings = flat_map (λ (s : Setting). string_bytes s.name ++ codes ",") settings

-- what varies: as in the first run, and in the first group
abbrev pub settings_in : List Variant → List Setting
settings_in [] = []
settings_in (v ∷ variants) = v.settings.now

abbrev pub settings_of : List Group → List Setting
settings_of [] = []
settings_of (g ∷ groups) = g.settings.now
