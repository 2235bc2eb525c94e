use Rattle.std.proofs.Common.{ℕ, ◌≡◌, ◌<◌, List, [], ap, length, map, slice_index_or, subst, sym, ◌∙◌}
use Rattle.std.specs.Global.{Vec}
use Rattle.std.proofs.lemmas.List.{get_or-map, length-map}
use Rattle.rounds_code.specs.Block.{AreInBytes, byte_word}
use Rattle.rounds_code.proofs.InBytes.{byte_items}
use Rattle.rounds_code.proofs.narrowed.NearColumns.load_each.Goals as goal

pub load_bytes-requires-clause-within : goal.load_bytes-requires-clause-within
load_bytes-requires-clause-within c = λ i d inside.
    let columns = c.args.self.now in
    let blank = c.index-self-field.result in
    let words : AreInBytes columns c.self.inside.bytes.now = subst (λ (ws : List (Vec ℕ)). AreInBytes ws c.self.inside.bytes.now) c.self.view_is c.self.invariant in
    let items : map byte_word c.deref.result.now ≡ (slice_index_or columns c.args.field blank).items =
    ap (map byte_word) c.deref.ensures.value
    ∙ byte_items columns c.self.inside.bytes.now words c.args.field c.if-field-self.true blank
    ∙ get_or-map (λ column. column.items) columns c.args.field blank [] c.requires.there in
    let few : length c.deref.result.now ≡ length (slice_index_or columns c.args.field blank).items = sym (length-map c.deref.result.now byte_word) ∙ ap length items in
    subst (λ (n : ℕ). slice_index_or c.args.places.now i d < n) (sym few) (c.requires.within c.args.field blank c.requires.there i d inside)
