-- The texts of a job as bytes.
use Rattle.std.specs.Prelude.{ℕ, List, [], Option, Some, None, option_map}
use Rattle.app_why.specs.declared.told.Named.{Named}
use Rattle.app_why.specs.declared.told.Texts.{Texts}

-- the bytes of a text, none where it is not there
abbrev pub bytes_of : Option Named → List ℕ
bytes_of None = []
bytes_of (Some named) = named.text.now

-- the bytes of the network
abbrev pub network_of : Texts → List ℕ
network_of texts = bytes_of texts.network

-- the bytes of the report to go on from, where there is one
abbrev pub report_of : Texts → Option (List ℕ)
report_of texts = option_map (λ named. named.text.now) texts.report

-- the bytes of the schedule
abbrev pub schedule_of : Texts → List ℕ
schedule_of texts = bytes_of texts.schedule
