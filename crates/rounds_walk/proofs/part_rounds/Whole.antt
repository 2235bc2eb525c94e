-- A part's round is that of the whole network.
use Rattle.std.proofs.Common.{◌≡◌, ◌∙◌, ℕ, suc, ◌<◌, List, [], ◌∷◌, length, map, take, get_or, refl, ap, sym, arith, zero-add, slice_index}
use Rattle.std.proofs.lemmas.List.{ext_get_or, get_or-map, get_or-take, length-map, length-take-le}
use Rattle.std.proofs.lemmas.List.Sorted.{IsPermutation-map}
use Rattle.std.proofs.lemmas.List.FromFn.{get_or-map-range_with_len, length-map-range_with_len}
use Rattle.rule_check.specs.declared.state.State.{State}
use Rattle.rule_check.specs.Order.{OrderPlaysNoPart}
use Rattle.rule_check.specs.Value.{Rules, next_state}
use Rattle.link_net.specs.Neighbours.{Neighbours, row}
use Rattle.rounds_plan.specs.Configs.{blank}
use Rattle.rounds_plan.specs.Rounds.{near_at, nears_in, round_from}
use Rattle.rounds_plan.specs.Lockstep.{state_in}
use Rattle.rounds_walk.specs.part_rounds.Parts.{IsPart, PartsMakeTheRound, in_whole, part_near, part_nears, part_next, part_states}

-- neighbours seen in the part are those seen in the whole network, under their numbers there
seen_in_whole : (ids : List ℕ) (at : ℕ → State) (states : List State) (links : List (ℕ × ℕ))
    → ((j : ℕ) → j < length links → state_in states (get_or links j (0, 0)).0 ≡ at (slice_index ids (get_or links j (0, 0)).0))
    → map (part_near ids states) links ≡ map (near_at at) (map (in_whole ids) links)
seen_in_whole ids at states [] same = refl
seen_in_whole ids at states (a ∷ links) same =
    ap (λ s. record { id = slice_index ids a.0; weight = a.1; state = s } ∷ map (part_near ids states) links) (same 0 (omega arith))
    ∙ ap (λ ns. near_at at (in_whole ids a) ∷ ns) (seen_in_whole ids at states links (λ j h. same (suc j) (omega arith)))

-- where the order of the neighbours plays no part
module _ (order : OrderPlaysNoPart) (rules : Rules) (whole rows : Neighbours) (own : ℕ) (ids : List ℕ) (round : ℕ) (at : ℕ → State) (states : List State)
    (part : IsPart own ids rows whole) (same : (i : ℕ) → i < length ids → state_in states i ≡ at (slice_index ids i)) where
  next_in_whole : (i : ℕ) → i < own → part_next rules ids rows round states i ≡ round_from rules whole round at (slice_index ids i)
  next_in_whole i inside =
      let id = slice_index ids i in
      let numbered = map (in_whole ids) (row rows i) in
      let seen : part_nears ids rows states i ≡ map (near_at at) numbered = seen_in_whole ids at states (row rows i) (λ j h. same (get_or (row rows i) j (0, 0)).0 (omega (arith, part.numbers, part.sound.within i j h))) in
      ap (λ ns. next_state rules round id (state_in states i) ns) seen
      ∙ order rules round id (state_in states i) (map (near_at at) numbered) (nears_in whole at id) (IsPermutation-map (near_at at) numbered (row whole id) (part.links i inside))
      ∙ ap (λ s. next_state rules round id s (nears_in whole at id)) (same i (omega (arith, inside, part.numbers, part.within)))

  pub states_in_whole : part_states rules ids rows round states own ≡ map (round_from rules whole round at) (take own ids)
  states_in_whole =
      let next = part_next rules ids rows round states in
      let after = round_from rules whole round at in
      let long : length (part_states rules ids rows round states own) ≡ own = length-map-range_with_len next 0 own in
      let taken : length (take own ids) ≡ own = length-take-le own ids (omega (arith, part.within, part.numbers)) in
      ext_get_or blank (part_states rules ids rows round states own) (map after (take own ids)) (long ∙ sym (length-map (take own ids) after ∙ taken)) (λ i h.
      let inside : i < own = omega (arith, h, long) in
      get_or-map-range_with_len next 0 own i i blank inside (zero-add i)
      ∙ next_in_whole i inside
      ∙ ap after (sym (get_or-take own ids i 0 inside))
      ∙ sym (get_or-map after (take own ids) i 0 blank (omega (arith, inside, taken))))

pub parts_make_the_round : OrderPlaysNoPart → PartsMakeTheRound
parts_make_the_round order rules whole rows own ids round at states part same = states_in_whole order rules whole rows own ids round at states part same
