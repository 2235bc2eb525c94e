use Rattle.std.proofs.Common.{◌≡◌, ◌∙◌, ap, ℕ, [], ◌∷◌, Option, Some, None, slice_get, refl, zero, suc}
use Rattle.std.specs.Option.{option_map, option_zip}
use Rattle.link_net.specs.Neighbours.{Neighbours, row, slot_at}
use Rattle.rounds_plan.proofs.simple_plan.SimplePlan.link.Goals as goal

slot_row : (network : Neighbours) (u j : ℕ) → slot_at network u j ≡ slice_get (row network u) j
slot_row [] u j = refl
slot_row (r ∷ network) zero j = refl
slot_row (r ∷ network) (suc u) j = slot_row network u j

both : (o : Option (ℕ × ℕ)) → option_zip (option_map (λ (a : ℕ × ℕ). a.0) o) (option_map (λ (a : ℕ × ℕ). a.1) o) ≡ o
both None = refl
both (Some a) = refl

pub returns : goal.returns
returns c =
    let network = c.rows-rows.result in
    record {
      exact = c.zip.ensures
          ∙ ap (λ o. option_zip o c.weight.result) c.neighbour.ensures.value
          ∙ ap (option_zip (option_map (λ (a : ℕ × ℕ). a.0) (slot_at network c.args.node c.args.slot))) c.weight.ensures.value
          ∙ both (slot_at network c.args.node c.args.slot)
          ∙ slot_row network c.args.node c.args.slot
          ∙ ap (λ n. slice_get (row n c.args.node) c.args.slot) c.rows-rows.ensures.rows;
    }
