use Rattle.std.proofs.Common.{◌≡◌, ◌∙◌, string_bytes, ap}
use Rattle.std.specs.Option.{option_map}
use Rattle.link_net.specs.Neighbours.{degree, neighbour}
use Rattle.unison_world.specs.Counting.{marks_of}
use Rattle.unison_world.specs.Progress.{marks_in}
use Rattle.run_steps.specs.explain.Sentences.{called, first_unread}
use Rattle.run_steps.proofs.explain.Texts.{waiting}
use Rattle.run_steps.proofs.explain.sentences.put_waiting.Goals as goal

pub returns : goal.returns
returns c =
    let w = c.args.world.now in
    let u = c.args.node in
    let names = option_map (λ n. n.now) c.args.names in
    let network = c.rows-rows.ensures.rows ∙ ap (λ p. p.network) c.plan.ensures.plan in
    let slots : c.degree_of-slots.result ≡ degree w.plan.network u = c.degree_of-slots.ensures.exact ∙ ap (λ n. degree n u) network in
    let unread : c.neighbour_of-unread.result ≡ neighbour w.plan.network u (first_unread w.counts u) =
    c.neighbour_of-unread.ensures.exact ∙ ap (λ n. neighbour n u c.first_unread.result) network ∙ ap (neighbour w.plan.network u) c.first_unread.ensures in
    record {
      words = waiting (string_bytes c.args.out.now) (string_bytes c.put_called.new.out) (string_bytes c.write.new.self) (string_bytes c.put_called-2.new.out) (called names u) (called names c.neighbour_of-unread.result) (called names (neighbour w.plan.network u (first_unread w.counts u)))
          c.slots_read-read.result (marks_in (marks_of w.counts u)) c.degree_of-slots.result (degree w.plan.network u) c.slots_read-read.ensures slots (ap (called names) unread) c.in_ok-put_called.ensures.words c.in_ok-write.ensures.bytes c.in_ok-put_called-2.ensures.words;
    }
