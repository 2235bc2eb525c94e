use Rattle.std.proofs.Common.{ap, ◌∙◌, string_bytes, position}
use Rattle.std.specs.Str.{bytes_eq}
use Rattle.net_names.proofs.Texts.{position-map}
use Rattle.net_names.proofs.name_list.NameList.number_of.Goals as goal

pub returns-in_err-place : goal.returns-in_err-place
returns-in_err-place c = record {
  place = c.from_residual.ensures ∙ c.in_err-place.ensures.index ∙ position-map string_bytes (bytes_eq c.args.name.now) c.self.inside.texts.keys ∙ ap (position (bytes_eq c.args.name.now)) c.self.view_is;
  listed = rw (← c.self.view_is) c.self.invariant;
}

pub returns : goal.returns
returns c = record {
  place = c.in_ok-place.ensures.index ∙ position-map string_bytes (bytes_eq c.args.name.now) c.self.inside.texts.keys ∙ ap (position (bytes_eq c.args.name.now)) c.self.view_is;
  listed = rw (← c.self.view_is) c.self.invariant;
}
