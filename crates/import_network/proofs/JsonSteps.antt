-- Networks of graphs in node-link JSON.
use Rattle.std.proofs.Common.{◌≡◌, ◌≢◌, ℕ, List, length, Result, Ok, Err, IfOk, IfErr, refl}
use Rattle.import_formats.specs.declared.json.fault.JsonFault.{JsonFault}
use Rattle.import_formats.specs.declared.json.fault.JsonFault.TheVariants as json
use Rattle.import_formats.specs.json.Graphs.{NodeLinks, unplaced}
use Rattle.import_formats.specs.matrix_market.Steps.{and_then, told_as}
use Rattle.import_links.specs.declared.placed.PlacedLink.{PlacedLink}
use Rattle.import_network.specs.declared.making.Making.{Making}
use Rattle.import_network.specs.declared.fault.ImportFault.{ImportFault}
use Rattle.import_network.specs.declared.fault.ImportFault.TheVariants.{Json, Memory}
use Rattle.import_network.specs.declared.imported.Imported.{Imported}
use Rattle.import_network.specs.Faults.{json_fault}
use Rattle.import_network.specs.Drafts.{IsMadeOf, IsImported, made, node_links_draft}
use Rattle.import_network.specs.Naming.{IsJsonFault}

-- running out of memory
pub no_room : (making : Making) (read : Result NodeLinks JsonFault) → IsJsonFault making read Memory
no_room making (Ok g) = λ some. absurd (some refl)
no_room making (Err bad) = λ some. absurd (some refl)

read_refused : (making : Making) (read : Result NodeLinks JsonFault) (why : JsonFault) (told : ImportFault) → read ≡ Err (unplaced why) → told ≡ Json why → IsJsonFault making read told
read_refused making read why told is said = rw is (λ some. record { why = why; told = said; same = refl })

-- a text that is no graph
pub text_refused : (making : Making) (read : Result NodeLinks JsonFault) (why : JsonFault) (told : ImportFault) → (why ≢ json.Memory → read ≡ Err (unplaced why)) → told ≡ json_fault why → IsJsonFault making read told
text_refused making read json.NotUtf8 told bad said = read_refused making read json.NotUtf8 told (bad (λ e. cc)) said
text_refused making read (json.NotJson line column) told bad said = read_refused making read (json.NotJson line column) told (bad (λ e. cc)) said
text_refused making read json.Directed told bad said = read_refused making read json.Directed told (bad (λ e. cc)) said
text_refused making read json.NoNodes told bad said = read_refused making read json.NoNodes told (bad (λ e. cc)) said
text_refused making read json.NoLinks told bad said = read_refused making read json.NoLinks told (bad (λ e. cc)) said
text_refused making read (json.BadNode place fault) told bad said = read_refused making read (json.BadNode place fault) told (bad (λ e. cc)) said
text_refused making read (json.BadLink list place fault) told bad said = read_refused making read (json.BadLink list place fault) told (bad (λ e. cc)) said
text_refused making read json.Memory told bad said = rw said (no_room making read)

-- the same of what was returned
pub told_refused : (making : Making) (read : Result NodeLinks JsonFault) (why : JsonFault) (r : Result Imported ImportFault) → (why ≢ json.Memory → read ≡ Err (unplaced why)) → r ≡ Err (json_fault why) → IfErr r (IsJsonFault making read)
told_refused making read why r bad is = rw is (text_refused making read why (json_fault why) bad refl)

module _ (making : Making) (g : NodeLinks) (read : Result NodeLinks JsonFault) (nodes : ℕ) (links : List PlacedLink) (is_read : read ≡ Ok g) (count : nodes ≡ length g.names) (linked : links ≡ g.links) where
  pub json_network : (r : Result Imported ImportFault) → IfOk r (IsMadeOf making (record { nodes = nodes; links = links })) → IfOk r (IsImported making (and_then (told_as json_fault read) (λ g. Ok (node_links_draft g))))
  json_network (Ok imported) is_made = record { draft = node_links_draft g; is_said = rw is_read refl; made_of = rw (count, linked) at is_made }
  json_network (Err fault) is_made = tt

  pub json_refused : (r : Result Imported ImportFault) → IfErr r (λ fault. fault ≢ Memory → made making (record { nodes = nodes; links = links }) ≡ Err fault) → IfErr r (IsJsonFault making read)
  json_refused (Ok imported) why = tt
  json_refused (Err fault) why = rw is_read (rw (count, linked) at why)
