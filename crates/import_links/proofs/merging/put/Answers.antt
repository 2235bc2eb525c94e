use Rattle.std.proofs.Common.{ap, sym, ◌∙◌}
use Rattle.std.specs.Option.{option_copied}
use Rattle.import_links.proofs.MergeSteps.{put_new, put_again}
use Rattle.import_links.proofs.merging.put.Goals as goal
use Rattle.import_links.proofs.merging.put.Goals.{in-Some, in-None}

pub returns : goal.returns
returns c =
    let given = c.in_ok-insert.ensures.entries in
    elim c.match-get.branch [
      | in-Some w ↦
          let own = w.link-is ∙ ap (λ v. (w.in-Some.first.now.0, w.in-Some.first.now.1, v)) w.of.ensures in
          let here = sym (ap option_copied w.in-Some.is) ∙ c.get.ensures.value in
          put_again c.args.kept c.args.link.now w.in-Some.first.now c.args.made.now.entries _ c.ends-key.result _ c.ends-key.ensures own here given
      | in-None w ↦
          let none = sym (ap option_copied w.in-None.is) ∙ c.get.ensures.value in
          put_new c.args.kept c.args.link.now c.args.made.now.entries _ c.ends-key.result _ c.ends-key.ensures w.link-is none given
    ]
