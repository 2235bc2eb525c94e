use Rattle.std.proofs.Common.{◌≡◌, ◌∙◌, ◌+◌, ◌-◌, ◌*◌, length, refl, ap, arith}
use mir.Val.{bool_byte}
use Rattle.large_net.proofs.Parts.{few_nodes}
use Rattle.large_net.proofs.Spelling.{flags, has_weight, spelled, spelled_back, spelled_length, tail_back}
use Rattle.large_net.proofs.writer.spell.Goals as goal

pub file_length-size-requires : goal.file_length-size-requires
file_length-size-requires c =
    let few = few_nodes c.args.offsets.now c.args.neighbours.now c.args.weights.now c.requires.laid_out in
    record { few = omega (arith, few) }

items : (c : goal.In_ok-extend_from_slice-2)
    → c.extend_from_slice-2.new.self.items ≡ spelled c.args.offsets.now c.args.neighbours.now c.args.weights.now (length c.args.offsets.now - 1) (length c.args.neighbours.now) c.flags_of.result c.args.tail.now
items c =
    rw (c.in_ok-extend_from_slice-2.ensures.items, c.in_ok-push_words-2.ensures.pushed, c.in_ok-push_words.ensures.pushed, c.in_ok-push_longs-2.ensures.pushed, c.in_ok-push_longs.ensures.pushed, c.in_ok-extend_from_slice.ensures.items, c.in_ok-bytes.ensures.items, c.written.ensures) refl

flagged : (c : goal.In_ok-extend_from_slice-2) → c.flags_of.result ≡ flags (has_weight c.args.weights.now) c.args.tailed
flagged c = c.flags_of.ensures ∙ ap (λ w. bool_byte w + 2 * bool_byte c.args.tailed) c.has_weight-weighted.ensures

pub returns-clause-reads_back : goal.returns-clause-reads_back
returns-clause-reads_back c =
    let laid = c.requires.laid_out in
    rw (items c)
    (spelled_back c.args.offsets.now c.args.neighbours.now c.args.weights.now laid.held.paired (length c.args.offsets.now - 1) (length c.args.neighbours.now)
    (omega (arith, laid.some)) refl c.args.tail.now c.args.tailed c.requires.bare c.flags_of.result (flagged c) laid (omega arith)
    (λ i. omega (arith, c.type_inv.offsets i)) (λ i. omega (arith, c.type_inv.neighbours i)) (λ i. omega (arith, c.type_inv.weights i)))

pub returns-clause-tail : goal.returns-clause-tail
returns-clause-tail c =
    let laid = c.requires.laid_out in
    rw (items c)
    (tail_back c.args.offsets.now c.args.neighbours.now c.args.weights.now laid.held.paired (length c.args.offsets.now - 1) (length c.args.neighbours.now)
    (omega (arith, laid.some)) refl c.args.tail.now c.args.tailed c.requires.bare c.flags_of.result (flagged c) laid (omega arith))

pub returns-clause-short : goal.returns-clause-short
returns-clause-short c =
    let laid = c.requires.laid_out in
    rw (items c)
    (spelled_length c.args.offsets.now c.args.neighbours.now c.args.weights.now laid.held.paired (length c.args.offsets.now - 1) (length c.args.neighbours.now)
    (omega (arith, laid.some)) refl c.args.tail.now c.args.tailed c.requires.bare c.flags_of.result (flagged c))
