-- Words that are written to their places.
use Rattle.std.proofs.Common.{◌≡◌, ◌<◌, ◌≤◌, ◌-◌, ◌⊎◌, inl, inr, ℕ, zero, suc, List, [], ◌∷◌, length, map, take, replicate, All, refl, sym, ap, ◌∙◌, arith, slice_index, slice_index_or, length-append}
use Rattle.std.specs.Prelude.{slice_set}
use Rattle.std.specs.Global.{Vec}
use Rattle.std.specs.List.{range_with_len}
use Rattle.std.proofs.lemmas.Bool.{cases_eq, cases_lt}
use Rattle.std.proofs.lemmas.List.{same_lists, length-map, length-set, length-take, length-replicate, get_or-map, get_or-set_same, get_or-set_other, get_or_default}
use Rattle.std.proofs.lemmas.List.FromFn.{length-map-range_with_len}
use Rattle.rule_check.specs.declared.state.State.{State}
use Rattle.rule_check.specs.Value.{Rules, here_at, names_of, updated, cleared, next_word}
use Rattle.rule_check.proofs.Rest.{rest_of_next}
use Rattle.link_net.specs.Neighbours.{Neighbours}
use Rattle.rounds_code.specs.Steps.{lane}
use Rattle.rounds_code.specs.Block.{column_words, state_at, scattered}
use Rattle.rounds_code.proofs.Columns.{no_column}
use Rattle.rounds_code.proofs.Nodes.{range_at}
use Rattle.rounds_blocks.specs.Rounds.{nears_in, round_from, IsNext}

-- writing keeps the length
pub length_scattered : (places words column : List ℕ) → length (scattered places words column) ≡ length column
length_scattered [] words column = refl
length_scattered (p ∷ ps) [] column = refl
length_scattered (p ∷ ps) (w ∷ ws) column = length_scattered ps ws (slice_set column p w) ∙ length-set column p w

set_kept : (g : ℕ → ℕ) (column : List ℕ) (p u : ℕ) → p < length column → slice_index column u ≡ g u → ((u ≡ p) ⊎ (u ≡ p → ⊥)) → slice_index (slice_set column p (g p)) u ≡ g u
set_kept g column p u inside here (inl same) =
    ap (slice_index (slice_set column p (g p))) same ∙ get_or-set_same column p (g p) 0 inside ∙ ap g (sym same)
set_kept g column p u inside here (inr apart) = get_or-set_other column p u (g p) 0 apart ∙ here

-- a place that has its word keeps it
pub scatter_kept : (g : ℕ → ℕ) (places column : List ℕ) (u : ℕ) → All (λ p. p < length column) places → slice_index column u ≡ g u → slice_index (scattered places (map g places) column) u ≡ g u
scatter_kept g [] column u within here = here
scatter_kept g (p ∷ ps) column u within here =
    scatter_kept g ps (slice_set column p (g p)) u
    (λ k d h. omega (arith, within (suc k) d (omega arith), length-set column p (g p)))
    (set_kept g column p u (within 0 0 (omega arith)) here (cases_eq u p))

-- and each of the places gets it
pub scatter_written : (g : ℕ → ℕ) (places column : List ℕ) (i d : ℕ) → All (λ p. p < length column) places → i < length places → slice_index (scattered places (map g places) column) (slice_index_or places i d) ≡ g (slice_index_or places i d)
scatter_written g [] column i d within inside = absurd (omega (arith, inside))
scatter_written g (p ∷ ps) column zero d within inside =
    scatter_kept g ps (slice_set column p (g p)) p
    (λ k e h. omega (arith, within (suc k) e (omega arith), length-set column p (g p)))
    (get_or-set_same column p (g p) 0 (within 0 0 (omega arith)))
scatter_written g (p ∷ ps) column (suc i) d within inside =
    scatter_written g ps (slice_set column p (g p)) i d
    (λ k e h. omega (arith, within (suc k) e (omega arith), length-set column p (g p)))
    (omega (arith, inside))

-- a word of a column
pub column_lane : (columns : List (Vec ℕ)) (u k : ℕ) (none : Vec ℕ) → k < length columns → lane (column_words columns) u k ≡ slice_index (slice_index_or columns k none).items u
column_lane columns u k none inside = ap (λ words. slice_index words u) (get_or-map (λ (column : Vec ℕ). column.items) columns k none [] inside)

length_updated : {A : Type 0} (change : A → ℕ → ℕ) (xs : List A) (ws : List ℕ) → length (updated change xs ws) ≡ length ws
length_updated change [] ws = refl
length_updated change (x ∷ xs) [] = refl
length_updated change (x ∷ xs) (w ∷ ws) = ap suc (length_updated change xs ws)

length_cleared : (n : ℕ) (ws : List ℕ) → length ws ≡ 8 → length (cleared n ws) ≡ 8
length_cleared n ws long = omega (arith, long, length-append (take n ws) (replicate (8 - n) 0), length-take n ws, length-replicate {A = ℕ} (8 - n) 0)

-- the next state has eight words
next_long : (rules : Rules) (network : Neighbours) (round : ℕ) (columns : List (Vec ℕ)) (u : ℕ) → length (round_from rules network round (state_at columns) u).words ≡ 8
next_long rules network round columns u =
    let at = state_at columns in
    let here = here_at rules round u (length (nears_in network at u)) (at u) (nears_in network at u) in
    length_updated (next_word rules here) (names_of rules) (cleared (length rules.fields) (at u).words)
    ∙ length_cleared (length rules.fields) (at u).words (length-map-range_with_len (lane (column_words columns) u) 0 8)

next_lane : (rules : Rules) (network : Neighbours) (round : ℕ) (from columns : List (Vec ℕ)) (u k : ℕ) → length columns ≡ length rules.fields → IsNext rules network round from columns u
    → ((k < length columns) ⊎ (length columns ≤ k)) → lane (column_words columns) u k ≡ slice_index (round_from rules network round (state_at from) u).words k
next_lane rules network round from columns u k fields next (inl h) = next k h
next_lane rules network round from columns u k fields next (inr h) =
    let at = state_at from in
    no_column (column_words columns) u k (omega (arith, h, length-map columns (λ (column : Vec ℕ). column.items)))
    ∙ sym (rest_of_next rules (here_at rules round u (length (nears_in network at u)) (at u) (nears_in network at u)) k (omega (arith, h, fields)))

abbrev make_state : List ℕ → State
make_state ws = record { words = ws }

-- columns that have the words of a node's next state have the state
pub next_whole : (rules : Rules) (network : Neighbours) (round : ℕ) (from columns : List (Vec ℕ)) (u : ℕ) → length columns ≡ length rules.fields → IsNext rules network round from columns u → state_at columns u ≡ round_from rules network round (state_at from) u
next_whole rules network round from columns u fields next =
    let word = lane (column_words columns) u in
    let state = round_from rules network round (state_at from) u in
    ap make_state (same_lists (map word (range_with_len 0 8)) state.words (length-map-range_with_len word 0 8 ∙ sym (next_long rules network round from u))
    (λ k d h.
    let inside : k < 8 = omega (arith, h, length-map-range_with_len word 0 8) in
    range_at word 8 k d inside
    ∙ next_lane rules network round from columns u k fields next (cases_lt k (length columns))
    ∙ get_or_default state.words k 0 d (omega (arith, inside, next_long rules network round from u))))
