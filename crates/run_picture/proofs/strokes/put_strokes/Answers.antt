use Rattle.std.proofs.Common.{◌≡◌, ◌++◌, codes, string_bytes}
use Rattle.run_picture.specs.Nets.{strokes_group, strokes_text}
use Rattle.run_picture.proofs.Joined.{joined, put_behind, then_ok}
use Rattle.run_picture.proofs.strokes.put_strokes.Goals as goal

pub returns : goal.returns
unfolding strokes_group
returns c =
    let head = codes "<g stroke=\"#bbbbbb\" shape-rendering=\"auto\">\n" in
    let tail = codes "</g>\n" in
    let text = strokes_text c.args.network.now in
    let f : string_bytes c.push_str-2.new.self ≡ string_bytes c.put_links.new.out ++ tail → string_bytes c.push_str-2.new.self ≡ string_bytes c.args.out.now ++ (head ++ (text ++ tail)) =
    joined (string_bytes c.args.out.now) (string_bytes c.push_str.new.self) (string_bytes c.put_links.new.out) (string_bytes c.push_str-2.new.self) head text tail c.in_ok-push_str.ensures.bytes c.in_ok-put_links.ensures.text in
    record { text = then_ok c.push_str-2.result f (put_behind c.push_str-2.result (string_bytes c.push_str-2.new.self) (string_bytes c.put_links.new.out) tail c.push_str-2.ensures.bytes) }
