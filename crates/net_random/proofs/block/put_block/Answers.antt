use Rattle.std.proofs.Common.{◌++◌, ◌∷◌, [], replicate, ap, ◌∙◌, append_assoc}
use Rattle.std.proofs.lemmas.List.{replicate_more}
use Rattle.net_random.proofs.block.put_block.Goals as goal

pub loop-preserved : goal.loop-preserved
loop-preserved c =
    let before = c.args.blocks.now.items in
    let block = c.args.block in
    let n = c.loop.counter in
    c.in_ok-push.ensures.items ∙ ap (λ bs. bs ++ block ∷ []) c.loop.invariant ∙ append_assoc before (replicate n block) (block ∷ []) ∙ ap (λ bs. before ++ bs) (replicate_more n block)
