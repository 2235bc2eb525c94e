use Rattle.std.proofs.Common.{◌+◌, append_assoc, drop, take}
use Rattle.std.proofs.lemmas.List.{drop-drop}
use Rattle.run_page.proofs.Marks.{rest_whole}
use Rattle.run_page.proofs.embed.in_place.Goals as goal

pub returns : goal.returns
returns c =
    let v = c.args.viewer.now in
    let p = c.args.place in
    rw (c.in_ok-extend_from_slice-3.ensures.items, c.in_ok-extend_from_slice-2.ensures.items, c.in_ok-extend_from_slice.ensures.items, c.in_ok-page.ensures.items, c.split_at.ensures.front, c.split_at.ensures.back, rest_whole 5 (drop p v), drop-drop 5 p v)
    (append_assoc (take p v) c.args.content.now (drop (p + 5) v))
