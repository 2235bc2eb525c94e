use Rattle.std.proofs.Common.{string_bytes}
use Rattle.std.specs.Str.{bytes_eq}
use Rattle.net_names.proofs.Names.{listed-push}
use Rattle.net_names.proofs.Texts.{any-map, distinct-map}
use Rattle.net_names.proofs.name_list.NameList.put.Goals as goal

pub put_text-requires : goal.put_text-requires
put_text-requires c = record { new = rw (any-map string_bytes (bytes_eq c.args.name.now) c.self.inside.texts.keys, c.self.view_is) c.requires.new }

pub invariant_of-self-2 : goal.invariant_of-self-2
invariant_of-self-2 c =
    let put = c.in_ok-put_text.ensures.put in
    let distinct = rw (put, c.self.view_is) at (distinct-map c.put_text.new.texts.keys c.in_ok-put_text.ensures.distinct) in
    rw (put, c.self.view_is) (listed-push c.args.self.now c.args.name.now c.requires.room distinct)
