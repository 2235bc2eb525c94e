use Rattle.std.proofs.Common.{string_bytes}
use Rattle.std.specs.Str.{bytes_eq}
use Rattle.net_names.proofs.Names.{names-push}
use Rattle.net_names.proofs.Texts.{any-map, distinct-map}
use Rattle.net_names.proofs.node_names.NodeNames.put.Goals as goal

pub put_text-requires : goal.put_text-requires
put_text-requires c = record { new = rw (any-map string_bytes (bytes_eq c.args.name.now) c.self.inside.texts.keys, c.self.view_is) c.requires.new }

pub invariant_of-self-2 : goal.invariant_of-self-2
invariant_of-self-2 c =
    let put = c.in_ok-put_text.ensures.put in
    let were = rw c.self.view_is at c.self.invariant in
    let distinct = rw (put, c.self.view_is) at (distinct-map c.put_text.new.texts.keys c.in_ok-put_text.ensures.distinct) in
    rw (put, c.self.view_is) (names-push c.args.self.now c.args.name.now were c.requires.name c.requires.room distinct)

pub returns-clause-are_names : goal.returns-clause-are_names
returns-clause-are_names c =
    let put = c.in_ok-put_text.ensures.put in
    let were = rw c.self.view_is at c.self.invariant in
    let distinct = rw (put, c.self.view_is) at (distinct-map c.put_text.new.texts.keys c.in_ok-put_text.ensures.distinct) in
    rw (put, c.self.view_is) (names-push c.args.self.now c.args.name.now were c.requires.name c.requires.room distinct)
