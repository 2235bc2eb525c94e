-- Steps and results keep the whole picture.
use Rattle.std.proofs.Common.{◌≡◌, ℕ, zero, suc, ◌∷◌, ◌<◌, ◌≤◌, List, [], Some, slice_get, length, sym, refl, ap, ◌∙◌, ⊎_elim, arith}
use Rattle.std.proofs.lemmas.List.{length-map, get_or_past}
use Rattle.std.proofs.lemmas.Bool.{cases_lt}
use Rattle.rounds_plan.specs.Plans.{PlanView}
use Rattle.unison_world.specs.declared.node.Node.{Node}
use Rattle.unison_world.specs.declared.step.Step.{Step}
use Rattle.unison_world.specs.Counting.{moves_of, after, HasShape, InStep}
use Rattle.unison_world.specs.Pictures.{counts_of, IsDrawn, IsPicture}
use Rattle.unison_world.specs.declared.step.Step.TheVariants.{Write}
use Rattle.unison_world.specs.declared.step.WriteAnswer.{WriteAnswer}
use Rattle.unison_world.specs.declared.step.WriteAnswer.TheVariants.{Moved}
use Rattle.unison_world.specs.PictureViews.{view_of}
use Rattle.unison_world.specs.View.{WorldView}
use Rattle.unison_world.specs.WorkViews.{WorkView}
use Rattle.unison_world.specs.Work.{after_put}
use Rattle.unison_world.proofs.Sights.{moves_at, marks_at}
use Rattle.unison_world.proofs.Steps.{in_step-after}

-- the node at a place of the list
pub node_at : (nodes : List Node) (u : ℕ) → u < length nodes → (node : Node) × (slice_get nodes u ≡ Some node)
node_at [] u h = absurd (omega arith)
node_at (n ∷ nodes) zero h = (n, refl)
node_at (n ∷ nodes) (suc u) h = node_at nodes u (omega arith)

pub shape-drawn : (plan : PlanView) (nodes : List Node) → IsDrawn plan nodes → HasShape plan.network (counts_of nodes)
shape-drawn plan nodes d =
    record {
      moves = length-map nodes (λ (n : Node). n.moves) ∙ d.one_each;
      marks = length-map nodes (λ (n : Node). n.desk.marks) ∙ d.one_each;
      slots = λ u.
          ⊎_elim
          (λ h. (let n = node_at nodes u h in ap length (marks_at nodes u n.0 n.1) ∙ (d.each u n.0 n.1).slots))
          (λ h. (let short : length (counts_of nodes).marks ≤ u = omega (arith, length-map nodes (λ (n : Node). n.desk.marks)) in
          let past : length plan.network ≤ u = omega (arith, d.one_each) in
          rw (get_or_past (counts_of nodes).marks u [] short) (sym (ap length (get_or_past plan.network u [] past)))))
          (cases_lt u (length nodes));
    }

pub picture-after : (plan : PlanView) (stop : ℕ) (nodes after_nodes : List Node) (step : Step) → IsPicture plan stop nodes
    → counts_of after_nodes ≡ after plan.network stop (counts_of nodes) step → IsDrawn plan after_nodes → IsPicture plan stop after_nodes
picture-after plan stop nodes after_nodes step p e d =
    record {
      limit = p.limit;
      drawn = d;
      in_step = rw e (in_step-after plan.network stop (counts_of nodes) step d.well_formed.network (shape-drawn plan nodes p.drawn) p.in_step);
    }

-- a result keeps the whole picture
pub picture-put : (plan : PlanView) (stop : ℕ) (nodes after_nodes : List Node) (w : WorkView) (a : WriteAnswer) → IsPicture plan stop nodes
    → view_of plan stop after_nodes ≡ after_put (view_of plan stop nodes) w a → IsDrawn plan after_nodes → IsPicture plan stop after_nodes
picture-put plan stop nodes after_nodes w a p e d =
    let kept : (b : WriteAnswer) → InStep plan.network stop (after_put (view_of plan stop nodes) w b).counts =
    λ b. elim b as (λ b. InStep plan.network stop (after_put (view_of plan stop nodes) w b).counts)
    [ Moved ↦ in_step-after plan.network stop (counts_of nodes) (Write w.node) d.well_formed.network (shape-drawn plan nodes p.drawn) p.in_step | _ ↦ p.in_step ]
    in
    let counts : counts_of after_nodes ≡ (after_put (view_of plan stop nodes) w a).counts = ap (λ (v : WorldView). v.counts) e in
    record {
      limit = p.limit;
      drawn = d;
      in_step = rw counts (kept a);
    }

-- no node stands below the start
pub started-drawn : (plan : PlanView) (nodes : List Node) → IsDrawn plan nodes → (u : ℕ) → u < length plan.network → plan.start ≤ moves_of (counts_of nodes) u
started-drawn plan nodes d u h =
    let n = node_at nodes u (omega (arith, h, d.one_each)) in
    let m = moves_at nodes u n.0 n.1 in
    let s = (d.each u n.0 n.1).started in
    omega arith
