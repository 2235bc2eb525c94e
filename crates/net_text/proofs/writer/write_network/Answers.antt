use Rattle.std.proofs.Common.{◌≡◌, ◌++◌, string_bytes, refl}
use Rattle.std.proofs.lemmas.Str.{IsUtf8-string_bytes}
use Rattle.net_text.specs.Written.{links_text}
use Rattle.net_text.proofs.ReadBack.{read_back}
use Rattle.net_text.proofs.Texts.{parsed}
use Rattle.net_text.proofs.writer.write_network.Goals as goal

pub returns : goal.returns
returns c =
    let list = c.args.list.now in
    let sets = c.args.sets.now in
    let whole = c.nodes.ensures.whole in
    let rest = string_bytes c.in_ok-rest.rest in
    let printed = rw c.nodes.ensures.count at c.in_ok-rest.ensures in
    let weights = rw c.links.ensures.links at c.in_ok-put_links.ensures.weights in
    let text : string_bytes c.push_str.new.self ≡ links_text list.links ++ rest =
    rw (c.in_ok-push_str.ensures.bytes, c.in_ok-put_links.ensures.text, c.new-out.ensures.bytes, c.links.ensures.links, c.as_str.ensures.value) refl in
    let utf8 = rw text at (IsUtf8-string_bytes c.push_str.new.self) in
    record {
      lines = (rest, rw (c.into_bytes.ensures.value, text) refl);
      reads_back = rw (c.into_bytes.ensures.value, text)
          (read_back list.nodes list.links c.args.phase sets whole.some whole.small whole.within whole.is_sound weights c.requires.phase
          (links_text list.links ++ rest) utf8 (parsed list.nodes list.links c.args.phase sets whole.small whole.within weights c.requires.rising rest printed));
    }
