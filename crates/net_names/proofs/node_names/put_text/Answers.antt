use Rattle.std.proofs.Common.{◌≡◌, ◌++◌, [], ◌∷◌, map, string_bytes, false, ap, ◌∙◌, refl}
use Rattle.std.specs.List.{list_any}
use Rattle.std.specs.Str.{bytes_eq}
use Rattle.std.proofs.lemmas.List.{map-append}
use Rattle.net_names.proofs.node_names.put_text.Goals as goal

pub returns-clause-put : goal.returns-clause-put
returns-clause-put c =
    let keys = c.args.texts.now.keys in
    let text = c.in_ok-text.text in
    let bytes = c.in_ok-text.ensures.ok in
    let new : list_any (λ k. bytes_eq (string_bytes text) (string_bytes k)) keys ≡ false = rw bytes c.requires.new in
    ap (map string_bytes) (c.in_ok-insert.ensures.keys ∙ rw new refl) ∙ map-append string_bytes keys (text ∷ []) ∙ ap (λ b. map string_bytes keys ++ b ∷ []) bytes
