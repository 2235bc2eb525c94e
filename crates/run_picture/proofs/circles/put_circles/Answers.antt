use Rattle.std.proofs.Common.{◌≡◌, ◌++◌, codes, string_bytes}
use Rattle.run_picture.specs.Nets.{circles_group, circles_text}
use Rattle.run_picture.proofs.Joined.{joined, put_behind, then_ok}
use Rattle.run_picture.proofs.circles.put_circles.Goals as goal

pub returns : goal.returns
unfolding circles_group
returns c =
    let head = codes "<g stroke=\"#555555\" stroke-width=\"0.5\" shape-rendering=\"auto\">\n" in
    let tail = codes "</g>\n" in
    let film = c.args.film.now in
    let text = circles_text film.key.now film.pace.frames film.pace.time film.nodes film.values.now in
    let f : string_bytes c.push_str-2.new.self ≡ string_bytes c.put_nodes.new.out ++ tail → string_bytes c.push_str-2.new.self ≡ string_bytes c.args.out.now ++ (head ++ (text ++ tail)) =
    joined (string_bytes c.args.out.now) (string_bytes c.push_str.new.self) (string_bytes c.put_nodes.new.out) (string_bytes c.push_str-2.new.self) head text tail c.in_ok-push_str.ensures.bytes c.in_ok-put_nodes.ensures.text in
    record { text = then_ok c.push_str-2.result f (put_behind c.push_str-2.result (string_bytes c.push_str-2.new.self) (string_bytes c.put_nodes.new.out) tail c.push_str-2.ensures.bytes) }
