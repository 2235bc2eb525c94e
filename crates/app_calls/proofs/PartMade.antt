-- A round of a part is made on the rows of its lists.
use Rattle.std.proofs.Common.{◌≡◌, ◌∙◌, ◌-◌, ◌*◌, ◌<◌, ℕ, List, length, replicate, None, ap, sym, subst}
use Rattle.rule_check.specs.Value.{Rules}
use Rattle.link_net.specs.Layout.{rows_of}
use Rattle.link_net.specs.Neighbours.{Neighbours}
use Rattle.large_net.proofs.Parts.{rows_count}
use Rattle.rounds_walk.specs.part_rounds.Parts.{changed_count, own_nodes, part_fault_of, part_states}
use Rattle.rounds_walk.specs.part_rounds.States.{states_of, words_in}
use Rattle.app_calls.specs.Lists.{given_weights}
use Rattle.app_calls.specs.PartAnswers.{IsPartRound}
use Rattle.app_calls.proofs.Moves.{no_weights, some_weights}

-- what is so of some rows is so of those that they are
pub made_on : (program : Rules) (ids : List ℕ) (rows lists : Neighbours) (round : ℕ) (from : List ℕ) (room : ℕ) (to : List ℕ) (changed : ℕ) → rows ≡ lists
    → part_fault_of program ids rows (length from) room ≡ None
    → to ≡ words_in (length program.fields) (part_states program ids rows round (states_of (length program.fields) (length rows) from) (own_nodes program room))
    → changed ≡ changed_count program ids rows round (states_of (length program.fields) (length rows) from) (own_nodes program room)
    → IsPartRound program ids lists round from room to changed
made_on program ids rows lists round from room to changed are fits next count =
    subst (λ (r : Neighbours). IsPartRound program ids r round from room to changed) are (record { fits = fits; next = next; count = count })

-- the rows with a weight of 1 for each neighbour, where none are given
pub rows_of_ones : (offsets ns ws ones : List ℕ) (rows : Neighbours) → length ws ≡ 0 → ones ≡ replicate (length ns) 1 → rows ≡ rows_of offsets ns ones → rows ≡ rows_of offsets ns (given_weights ns ws)
rows_of_ones offsets ns ws ones rows none all are = are ∙ ap (rows_of offsets ns) (all ∙ sym (no_weights ns ws none))

-- the rows with the weights that are given
pub rows_of_given : (offsets ns ws : List ℕ) (rows : Neighbours) → 0 < length ws → rows ≡ rows_of offsets ns ws → rows ≡ rows_of offsets ns (given_weights ns ws)
rows_of_given offsets ns ws rows some are = are ∙ ap (rows_of offsets ns) (sym (some_weights ns ws some))

-- there is one row fewer than offsets
pub row_words : (offsets ns ws : List ℕ) (rows : Neighbours) (words fields : ℕ) → rows ≡ rows_of offsets ns ws → words ≡ (length offsets - 1) * fields → words ≡ length rows * fields
row_words offsets ns ws rows words fields are count = count ∙ ap (λ (n : ℕ). n * fields) (sym (ap length are ∙ rows_count offsets ns ws))
