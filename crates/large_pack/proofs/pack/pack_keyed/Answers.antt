use Rattle.std.proofs.Common.{refl, sym, ◌∙◌, arith}
use Rattle.large_pack.specs.Keys.{usual_weight}
use Rattle.large_pack.proofs.Keying.{keyed_here, within_here, crowded, packed_so}
use Rattle.large_pack.proofs.pack.pack_keyed.Goals as goal

pub returns-then-len-gt-MOST_ARCS : goal.returns-then-len-gt-MOST_ARCS
returns-then-len-gt-MOST_ARCS g c = record {
  answer = λ es are count.
      crowded c.args.options.now es c.in-Some.keyed (keyed_here c.args.options.now es c.args.keyed c.in-Some.keyed c.in-Some.is are) c.sort_keys.new.keys.items c.sort_keys.ensures.permutation
      c.sort_keys.ensures.rising (rw c.as_slice.ensures.value at (sym c.is_unsettled.ensures ∙ c.if-is_unsettled.false)) (omega arith);
}

pub network_of_keys-requires-clause-sorted : goal.network_of_keys-requires-clause-sorted
network_of_keys-requires-clause-sorted g c = rw c.as_slice-2.ensures.value c.sort_keys.ensures.rising

pub network_of_keys-requires-clause-within : goal.network_of_keys-requires-clause-within
network_of_keys-requires-clause-within g c =
    rw (c.unwrap_or-weight.ensures, c.as_slice-2.ensures.value)
    (within_here c.args.nodes (usual_weight c.args.options.now.factor) c.args.keyed c.in-Some.keyed c.sort_keys.new.keys.items c.in-Some.is c.requires.within c.sort_keys.ensures.permutation)

pub returns : goal.returns
returns g c = record {
  answer = λ es are count.
      packed_so c.args.options.now es c.in-Some.keyed (keyed_here c.args.options.now es c.args.keyed c.in-Some.keyed c.in-Some.is are) c.sort_keys.new.keys.items c.sort_keys.ensures.permutation
      c.sort_keys.ensures.rising (rw c.as_slice.ensures.value at (sym c.is_unsettled.ensures ∙ c.if-is_unsettled.false))
      c.args.nodes _ count (omega arith) (rw (c.unwrap_or-weight.ensures, c.as_slice-2.ensures.value) at c.in_ok-network.ensures.rows) refl refl refl;
}
