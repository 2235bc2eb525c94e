use Rattle.std.proofs.Common.{◌∙◌, ap, string_bytes}
use Rattle.std.specs.Option.{option_map}
use Rattle.run_steps.proofs.explain.Way.{told_whole}
use Rattle.run_steps.proofs.explain.telling.told_on.Goals as goal

pub returns : goal.returns
returns c =
    let w = c.args.world in
    let names = option_map (λ n. n.now) c.args.names in
    let way = c.in_ok-way.ensures in
    record {
      text = ap (λ v. v.items) c.into_bytes.ensures.value
          ∙ told_whole names c.args.show w.plan w.stop c.args.steps.now w.counts c.tell_steps.new.world.counts c.in_ok-way.way.answered c.in_ok-way.way.difference (string_bytes c.new-out.result) (string_bytes c.tell_steps.new.out) (string_bytes c.put_summary.new.out)
          (ap (λ x. x.counts) c.requires.opened) c.new-out.ensures.bytes way.lines (ap (λ x. x.counts) way.made) way.answered way.difference c.in_ok-put_summary.ensures.lines;
    }
