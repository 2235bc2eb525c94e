use Rattle.std.proofs.Common.{◌<◌, ◌++◌, ◌+◌, ◌∙◌, length, codes, drop, get_or, string_bytes, append_assoc, ap, sym, arith}
use Rattle.net_text.specs.Written.{link_text, link_lines}
use Rattle.net_text.proofs.LinkLines.{lines_from, weights_more}
use Rattle.net_text.proofs.link_lines.put_links.Goals as goal

pub loop-link-preserved : goal.loop-link-preserved
loop-link-preserved c =
    let links = c.args.links.now in
    let i = c.loop-link.link-index in
    let low : i < length links = omega arith in
    let old = string_bytes c.loop-link.out in
    let line = codes "\n    " ++ (link_text (get_or links i (0, 0, 0)) ++ codes ",") in
    record {
      text = rw c.in_ok-put_link.ensures.text (append_assoc old line (link_lines (drop (i + 1) links)) ∙ ap (λ t. old ++ t) (sym (lines_from links i low)) ∙ c.loop-link.invariant.text);
      weights = weights_more links i low c.loop-link.invariant.weights c.put_link.ensures.weight;
    }
