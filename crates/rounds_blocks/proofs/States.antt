-- States and columns.
use Rattle.std.proofs.Common.{◌≡◌, ◌≢◌, ◌<◌, ◌≤◌, ◌+◌, ◌⊎◌, inl, inr, ℕ, zero, suc, List, [], ◌∷◌, ◌++◌, length, map, sym, ap, ◌∙◌, arith, slice_index, slice_index_or, zero-add, All, subst}
use Rattle.std.specs.Global.{Vec}
use Rattle.std.specs.List.{range_with_len}
use Rattle.std.proofs.lemmas.Bool.{cases_lt}
use Rattle.std.proofs.lemmas.List.{same_lists, length-map, get_or-map, get_or_default, get_or_past}
use Rattle.std.proofs.lemmas.List.FromFn.{map-range_with_len_more, length-map-range_with_len, get_or-map-range_with_len}
use Rattle.rule_check.specs.declared.state.State.{State}
use Rattle.link_net.specs.Neighbours.{numbers_below}
use Rattle.rounds_code.specs.Steps.{lane}
use Rattle.rounds_code.specs.Block.{column_words, state_at}
use Rattle.rounds_code.proofs.Columns.{no_column}
use Rattle.rounds_code.proofs.Nodes.{range_at}
use Rattle.rounds_blocks.specs.Rounds.{HaveWords, IsPlain}

abbrev make_state : List ℕ → State
make_state ws = record { words = ws }

-- eight words that are those of a node are its state
state_is : (words : List ℕ) (columns : List (Vec ℕ)) (u : ℕ) → length words ≡ 8 → ((j : ℕ) → j < 8 → slice_index words j ≡ lane (column_words columns) u j) → make_state words ≡ state_at columns u
state_is words columns u long are =
    let word = lane (column_words columns) u in
    ap make_state (same_lists words (map word (range_with_len 0 8)) (long ∙ sym (length-map-range_with_len word 0 8))
    (λ j d h.
    let inside : j < 8 = omega (arith, h, long) in
    get_or_default words j d 0 h ∙ are j inside ∙ sym (range_at word 8 j d inside)))

word_either : (words : List ℕ) (columns : List (Vec ℕ)) (n u j : ℕ) → ((j : ℕ) → j < n → slice_index words j ≡ lane (column_words columns) u j) → ((j : ℕ) → n ≤ j → slice_index words j ≡ 0) → length columns ≤ n
    → ((j < n) ⊎ (n ≤ j)) → slice_index words j ≡ lane (column_words columns) u j
word_either words columns n u j here rest past (inl h) = here j h
word_either words columns n u j here rest past (inr h) =
    rest j h ∙ sym (no_column (column_words columns) u j (omega (arith, h, past, length-map columns (λ (column : Vec ℕ). column.items))))

-- words that are read up to the last column, and 0 after it
pub state_read : (words : List ℕ) (columns : List (Vec ℕ)) (n u : ℕ) → length words ≡ 8 → ((j : ℕ) → j < n → slice_index words j ≡ lane (column_words columns) u j) → ((j : ℕ) → n ≤ j → slice_index words j ≡ 0) → length columns ≤ n
    → make_state words ≡ state_at columns u
state_read words columns n u long here rest past = state_is words columns u long (λ j _. word_either words columns n u j here rest past (cases_lt j n))

-- one state more
pub states_more : (f : ℕ → State) (n : ℕ) → map f (numbers_below (n + 1)) ≡ map f (numbers_below n) ++ f n ∷ []
states_more f n = map-range_with_len_more f 0 n n (zero-add n)

-- a word of a column that is known
lane_by : (columns : List (Vec ℕ)) (k u : ℕ) (words : List ℕ) → k < length columns → ((d : Vec ℕ) → (slice_index_or columns k d).items ≡ words) → lane (column_words columns) u k ≡ slice_index words u
lane_by [] k u words inside are = absurd (omega (arith, inside))
lane_by (x ∷ xs) zero u words inside are = ap (λ (ws : List ℕ). slice_index ws u) (are x)
lane_by (x ∷ xs) (suc k) u words inside are = lane_by xs k u words (omega (arith, inside)) are

word_made : (columns : List (Vec ℕ)) (states : List State) (fields u k : ℕ) (d : State) → length columns ≡ fields
    → ((k : ℕ) (d : Vec ℕ) → k < fields → (slice_index_or columns k d).items ≡ map (λ state. slice_index state.words k) states)
    → u < length states → IsPlain fields (slice_index_or states u d) → ((k < fields) ⊎ (fields ≤ k))
    → slice_index (slice_index_or states u d).words k ≡ lane (column_words columns) u k
word_made columns states fields u k d many made inside plain (inl h) =
    let word = λ (state : State). slice_index state.words k in
    sym (lane_by columns k u (map word states) (omega (arith, h, many)) (λ e. made k e h) ∙ get_or-map word states u d 0 inside)
word_made columns states fields u k d many made inside plain (inr h) =
    plain k h ∙ sym (no_column (column_words columns) u k (omega (arith, h, many, length-map columns (λ (column : Vec ℕ). column.items))))

-- columns that are made of states have them
pub states_kept : (columns : List (Vec ℕ)) (states : List State) (fields u : ℕ) (d : State) → length columns ≡ fields
    → ((k : ℕ) (d : Vec ℕ) → k < fields → (slice_index_or columns k d).items ≡ map (λ state. slice_index state.words k) states)
    → u < length states → length (slice_index_or states u d).words ≡ 8 → IsPlain fields (slice_index_or states u d) → state_at columns u ≡ slice_index_or states u d
states_kept columns states fields u d many made inside long plain =
    sym (state_is (slice_index_or states u d).words columns u long (λ k _. word_made columns states fields u k d many made inside plain (cases_lt k fields)))

word_read : (columns : List (Vec ℕ)) (u k : ℕ) (d : Vec ℕ) → length columns ≤ 8 → k < length columns → slice_index (state_at columns u).words k ≡ slice_index (slice_index_or columns k d).items u
word_read columns u k d few inside =
    range_at (lane (column_words columns) u) 8 k 0 (omega (arith, few, inside))
    ∙ ap (λ (ws : List ℕ). slice_index ws u) (get_or-map (λ (column : Vec ℕ). column.items) columns k d [] inside)

-- columns with different words for a node have different states of it
pub state_apart : (left right : List (Vec ℕ)) (u k : ℕ) (d e : Vec ℕ) → length left ≤ 8 → length left ≡ length right → k < length left
    → slice_index (slice_index_or left k d).items u ≢ slice_index (slice_index_or right k e).items u → state_at left u ≢ state_at right u
state_apart left right u k d e few many inside apart same =
    apart
    (sym (word_read left u k d few inside)
    ∙ ap (λ (s : State). slice_index s.words k) same
    ∙ word_read right u k e (omega (arith, few, many)) (omega (arith, inside, many)))

word_past : (columns : List (Vec ℕ)) (u k : ℕ) → length columns ≤ k → ((k < 8) ⊎ (8 ≤ k)) → slice_index (state_at columns u).words k ≡ 0
word_past columns u k past (inl h) =
    range_at (lane (column_words columns) u) 8 k 0 h ∙ no_column (column_words columns) u k (omega (arith, past, length-map columns (λ (column : Vec ℕ). column.items)))
word_past columns u k past (inr h) =
    let word = lane (column_words columns) u in
    get_or_past (map word (range_with_len 0 8)) k 0 (omega (arith, h, length-map-range_with_len word 0 8))

-- the words after the columns are 0
pub plain_all : (columns : List (Vec ℕ)) (n : ℕ) (states : List State) → states ≡ map (state_at columns) (numbers_below n) → All (IsPlain (length columns)) states
plain_all columns n states are k d h =
    let inside : k < n = omega (arith, h, ap length are, length-map-range_with_len (state_at columns) 0 n) in
    subst (IsPlain (length columns))
    (sym (ap (λ (xs : List State). slice_index_or xs k d) are ∙ get_or-map-range_with_len (state_at columns) 0 n k k d inside (zero-add k)))
    (λ j past. word_past columns k j past (cases_lt j 8))

some_column : (columns : List (Vec ℕ)) (k : ℕ) → k < length columns → Vec ℕ
some_column [] k inside = absurd (omega (arith, inside))
some_column (x ∷ xs) k inside = x

lane_same : (left right : List (Vec ℕ)) (u k : ℕ) → length left ≡ length right → ((j : ℕ) (d e : Vec ℕ) → j < length left → slice_index (slice_index_or left j d).items u ≡ slice_index (slice_index_or right j e).items u)
    → ((k < length left) ⊎ (length left ≤ k)) → lane (column_words left) u k ≡ lane (column_words right) u k
lane_same left right u k many same (inl h) =
    let none = some_column left k h in
    ap (λ (ws : List ℕ). slice_index ws u) (get_or-map (λ (column : Vec ℕ). column.items) left k none [] h)
    ∙ same k none none h
    ∙ sym (ap (λ (ws : List ℕ). slice_index ws u) (get_or-map (λ (column : Vec ℕ). column.items) right k none [] (omega (arith, h, many))))
lane_same left right u k many same (inr h) =
    no_column (column_words left) u k (omega (arith, h, length-map left (λ (column : Vec ℕ). column.items)))
    ∙ sym (no_column (column_words right) u k (omega (arith, h, many, length-map right (λ (column : Vec ℕ). column.items))))

-- columns with the same words for a node have the same state of it
pub state_same : (left right : List (Vec ℕ)) (u : ℕ) → length left ≡ length right → ((j : ℕ) (d e : Vec ℕ) → j < length left → slice_index (slice_index_or left j d).items u ≡ slice_index (slice_index_or right j e).items u) → state_at left u ≡ state_at right u
state_same left right u many same =
    let first = lane (column_words left) u in
    let second = lane (column_words right) u in
    ap make_state (same_lists (map first (range_with_len 0 8)) (map second (range_with_len 0 8)) (length-map-range_with_len first 0 8 ∙ sym (length-map-range_with_len second 0 8))
    (λ k d h.
    let inside : k < 8 = omega (arith, h, length-map-range_with_len first 0 8) in
    range_at first 8 k d inside
    ∙ lane_same left right u k many same (cases_lt k (length left))
    ∙ sym (range_at second 8 k d inside)))

-- columns with the same states of all nodes have the same words
pub words_same : (left right : List (Vec ℕ)) (n : ℕ) → length left ≤ 8 → length left ≡ length right → HaveWords n left → HaveWords n right
    → ((u : ℕ) → u < n → state_at left u ≡ state_at right u) → column_words left ≡ column_words right
words_same left right n few many long other_long same =
    let items = λ (column : Vec ℕ). column.items in
    same_lists (column_words left) (column_words right) (length-map left items ∙ many ∙ sym (length-map right items))
    (λ k d h.
    let inside : k < length left = omega (arith, h, length-map left items) in
    let there : k < length right = omega (arith, inside, many) in
    let here = some_column left k inside in
    let beside = some_column right k there in
    get_or-map items left k here d inside
    ∙ same_lists (slice_index_or left k here).items (slice_index_or right k beside).items (long k here inside ∙ sym (other_long k beside there))
    (λ u e l.
    let node : u < n = omega (arith, l, long k here inside) in
    get_or_default (slice_index_or left k here).items u e 0 l
    ∙ sym (word_read left u k here few inside)
    ∙ ap (λ (s : State). slice_index s.words k) (same u node)
    ∙ word_read right u k beside (omega (arith, few, many)) there
    ∙ sym (get_or_default (slice_index_or right k beside).items u e 0 (omega (arith, node, other_long k beside there))))
    ∙ sym (get_or-map items right k beside d there))
