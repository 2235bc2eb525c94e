use Rattle.std.proofs.Common.{◌≡◌, ◌∙◌, ◌+◌, ◌++◌, ◌∷◌, [], length, take, get_or, length-append, append_assoc, ◌≤◌, sym, subst, ap, arith}
use Rattle.std.proofs.lemmas.List.{take_more, take_all}
use Rattle.unison_world.specs.declared.step.Step.TheVariants.{Read}
use Rattle.unison_world.specs.Counting.{Counts, at_start}
use Rattle.run_schedule.specs.Mixing.{AreAmong, MayStand}
use Rattle.run_schedule.proofs.Fronts.{front-full}
use Rattle.run_schedule.proofs.Mixing.{among-more, both-more, front-exact}
use Rattle.run_schedule.proofs.refused.mix.Goals as goal

pub returns-then-len-limit : goal.returns-then-len-limit
returns-then-len-limit c =
    let w = c.loop-step.world in
    let i = c.loop-step.invariant in
    let k = c.loop-step.step-index in
    let steps = c.args.steps.now in
    let put = c.in_ok-put_some_refused.ensures in
    let s = get_or steps k (Read 0 0) in
    let first = at_start w.plan.network w.plan.start in
    let mixed = c.loop-step.mixed.items in
    let here = c.put_some_refused.new.steps.items in
    let front : take (k + 1) steps ≡ take k steps ++ s ∷ [] = take_more steps k (Read 0 0) (omega arith) in
    let refused = put.put.put.0 in
    let may : MayStand w.plan.network w.stop c.args.percent _ refused = subst (λ (x : Counts). MayStand w.plan.network w.stop c.args.percent x refused) (sym i.first) put.put.put.1 in
    let among : AreAmong w.plan w.stop c.args.percent (take (k + 1) steps) (mixed ++ (refused ++ s ∷ [])) =
    rw front (among-more w.plan.network w.stop c.args.percent first (take k steps) s mixed refused i.among may) in
    let cut : here ≡ take c.args.limit (mixed ++ (refused ++ s ∷ [])) =
    front-full c.args.limit (mixed ++ refused) (s ∷ []) here put.put.put.2 (omega arith) ∙ ap (take c.args.limit) (append_assoc mixed refused (s ∷ [])) in
    rw (sym i.plan, sym i.stop)
    (record { mixed = record { few = put.few; among = λ l. absurd (omega arith); cut = (k + 1, mixed ++ (refused ++ s ∷ []), among, cut); front = (k, put.same ∙ i.same); whole = λ l. absurd (omega arith) } })

pub loop-step-preserved : goal.loop-step-preserved
loop-step-preserved c =
    let w = c.loop-step.world in
    let i = c.loop-step.invariant in
    let k = c.loop-step.step-index in
    let steps = c.args.steps.now in
    let put = c.in_ok-put_some_refused.ensures in
    let s = get_or steps k (Read 0 0) in
    let first = at_start w.plan.network w.plan.start in
    let mixed = c.loop-step.mixed.items in
    let here = c.put_some_refused.new.steps.items in
    let front : take (k + 1) steps ≡ take k steps ++ s ∷ [] = take_more steps k (Read 0 0) (omega arith) in
    let items : c.push.new.self.items ≡ here ++ s ∷ [] = c.in_ok-push.ensures.items in
    let refused = put.put.put.0 in
    let may : MayStand w.plan.network w.stop c.args.percent _ refused = subst (λ (x : Counts). MayStand w.plan.network w.stop c.args.percent x refused) (sym i.first) put.put.put.1 in
    let more = among-more w.plan.network w.stop c.args.percent first (take k steps) s mixed refused i.among may in
    let all : here ++ s ∷ [] ≡ mixed ++ (refused ++ s ∷ []) =
    ap (λ ys. ys ++ s ∷ []) (front-exact c.args.limit (mixed ++ refused) here put.put.put.2 (omega arith)) ∙ append_assoc mixed refused (s ∷ []) in
    let among : AreAmong w.plan w.stop c.args.percent (take k steps ++ s ∷ []) (here ++ s ∷ []) = rw all more in
    let same = put.same ∙ i.same in
    let mine = both-more w.plan.network w.stop first w.counts here (take k steps) s put.arrives i.first same in
    let theirs = both-more w.plan.network w.stop first w.counts (take k steps) here s i.first put.arrives (sym same) in
    let room : length (here ++ s ∷ []) ≤ c.args.limit = omega (arith, length-append here (s ∷ [])) in
    rw (c.step.ensures.after, items, front)
    (record { plan = i.plan; stop = i.stop; linked = i.linked; some = i.some; few = room; among = among; arrives = mine.0; first = theirs.0; same = mine.1 })

pub returns : goal.returns
returns c =
    let w = c.loop-step.world in
    let i = c.loop-step.invariant in
    let steps = c.args.steps.now in
    let mixed = c.loop-step.mixed.items in
    let whole : take c.loop-step.step-index steps ≡ steps = take_all c.loop-step.step-index steps (omega arith) in
    let among : AreAmong w.plan w.stop c.args.percent steps mixed = rw whole at i.among in
    let same = rw whole at i.same in
    let limit : mixed ≡ take c.args.limit mixed = sym (take_all c.args.limit mixed i.few) in
    let all : take (length steps) steps ≡ steps = take_all (length steps) steps (omega arith) in
    rw (sym i.plan, sym i.stop)
    (record { mixed = record { few = i.few; among = λ _. among; cut = (length steps, mixed, rw all among, limit); front = (length steps, rw all same); whole = λ _. same } })
