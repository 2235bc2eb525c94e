use Rattle.std.proofs.Common.{ℕ, arith, nat_lt}
use Rattle.std.proofs.lemmas.List.Sums.{prefix_len-le-length}
use Rattle.std.proofs.lemmas.Grind.{common_steps}
use Rattle.run_picture.proofs.key.put_value.Goals as goal

pub insert-requires : goal.insert-requires
insert-requires c =
    let few = prefix_len-le-length (λ (x : ℕ). nat_lt x c.args.value) c.args.values.now.items in
    grind (arith, common_steps, few)
