-- A text is the spelling of one thing at most.
use Rattle.std.proofs.Common.{◌≡◌, ℕ, zero, suc, ◌<◌, ◌≤◌, ◌^◌, List, [], ◌∷◌, ◌++◌, length, get_or, refl, sym, ap, ◌∙◌, arith, append_assoc, inl, inr, codes}
use Rattle.std.specs.Fmt.{decimal}
use Rattle.std.proofs.lemmas.Bool.{cases_lt}
use Rattle.std.proofs.lemmas.List.{ext_get_or, append_cancel_left}
use Rattle.rule_check.specs.declared.state.State.{State}
use Rattle.report_text.specs.Front.{Ends}
use Rattle.report_text.specs.Report.{field_text, fields_text, node_line, round_line}
use Rattle.report_text.specs.ReadReport.{IsStateOf}
use Rattle.report_text.proofs.Digits.{number_once}

-- a field's text begins with a space, which is no digit
pub ends_fields : (names : List (List ℕ)) (words more : List ℕ) → Ends more → Ends (fields_text names words ++ more)
ends_fields [] words more ends = ends
ends_fields (name ∷ names) [] more ends = ends
ends_fields (name ∷ names) (w ∷ words) more ends = refl

field_apart : (name : List ℕ) (v : ℕ) (rest : List ℕ) → field_text name v ++ rest ≡ 32 ∷ (name ++ (61 ∷ (decimal v ++ rest)))
field_apart name v rest = ap (λ t. 32 ∷ t) (append_assoc name (61 ∷ decimal v) rest)

pub field_once : (name : List ℕ) (v w : ℕ) (rest more : List ℕ) → v < 2 ^ 32 → w < 2 ^ 32 → Ends rest → Ends more → field_text name v ++ rest ≡ field_text name w ++ more → (v ≡ w) × (rest ≡ more)
field_once name v w rest more small tiny ends stops same =
    let apart : 32 ∷ (name ++ (61 ∷ (decimal v ++ rest))) ≡ 32 ∷ (name ++ (61 ∷ (decimal w ++ more))) = sym (field_apart name v rest) ∙ same ∙ field_apart name w more in
    let space : name ++ (61 ∷ (decimal v ++ rest)) ≡ name ++ (61 ∷ (decimal w ++ more)) = cc in
    let equal = append_cancel_left name (61 ∷ (decimal v ++ rest)) (61 ∷ (decimal w ++ more)) space in
    number_once v w rest more small tiny ends stops (append_cancel_left (61 ∷ []) (decimal v ++ rest) (decimal w ++ more) equal)

-- words below 2 ^ 32, as many as there are names
abbrev pub SmallWords : List (List ℕ) → List ℕ → Type 0
SmallWords names words = (k : ℕ) → k < length names → get_or words k 0 < 2 ^ 32

-- the words of the named fields are equal
abbrev SameWords : List (List ℕ) → List ℕ → List ℕ → Type 0
SameWords names words others = (k : ℕ) → k < length names → get_or words k 0 ≡ get_or others k 0

same_more : (name : List ℕ) (names : List (List ℕ)) (v w : ℕ) (words others : List ℕ) → v ≡ w → SameWords names words others → SameWords (name ∷ names) (v ∷ words) (w ∷ others)
same_more name names v w words others head tail zero h = head
same_more name names v w words others head tail (suc k) h = tail k (omega arith)

words_once : (names : List (List ℕ)) (words others rest more : List ℕ) → length names ≤ length words → length names ≤ length others → SmallWords names words → SmallWords names others → Ends rest → Ends more → fields_text names words ++ rest ≡ fields_text names others ++ more → SameWords names words others × (rest ≡ more)
words_once [] words others rest more long wide small tiny ends stops same = (λ k h. absurd (omega arith), same)
words_once (name ∷ names) [] others rest more long wide small tiny ends stops same = absurd (omega arith)
words_once (name ∷ names) (v ∷ words) [] rest more long wide small tiny ends stops same = absurd (omega arith)
words_once (name ∷ names) (v ∷ words) (w ∷ others) rest more long wide small tiny ends stops same =
    let apart : field_text name v ++ (fields_text names words ++ rest) ≡ field_text name w ++ (fields_text names others ++ more) = sym (append_assoc (field_text name v) (fields_text names words) rest) ∙ same ∙ append_assoc (field_text name w) (fields_text names others) more in
    let head = field_once name v w (fields_text names words ++ rest) (fields_text names others ++ more) (small 0 (omega arith)) (tiny 0 (omega arith)) (ends_fields names words rest ends) (ends_fields names others more stops) apart in
    let tail = words_once names words others rest more (omega arith) (omega arith) (λ k h. small (suc k) (omega arith)) (λ k h. tiny (suc k) (omega arith)) ends stops head.1 in
    (same_more name names v w words others head.0 tail.0, tail.1)

pub small_words : (names : List (List ℕ)) (fields : ℕ) (state : State) → length names ≡ fields → fields ≤ 8 → IsStateOf fields state → SmallWords names state.words
small_words names fields state count few fits k h = fits.small k 0 (omega (arith, count, fits.count))

-- the fields' text gives the state
pub fields_once : (names : List (List ℕ)) (fields : ℕ) (s t : State) (rest more : List ℕ) → length names ≡ fields → fields ≤ 8 → IsStateOf fields s → IsStateOf fields t → Ends rest → Ends more → fields_text names s.words ++ rest ≡ fields_text names t.words ++ more → (s ≡ t) × (rest ≡ more)
fields_once names fields s t rest more count few fits suits ends stops same =
    let once = words_once names s.words t.words rest more (omega (arith, count, fits.count)) (omega (arith, count, suits.count)) (small_words names fields s count few fits) (small_words names fields t count few suits) ends stops same in
    let at : (k : ℕ) → k < length s.words → get_or s.words k 0 ≡ get_or t.words k 0 = λ k h. elim (cases_lt k (length names)) [ inl near ↦ once.0 k near | inr far ↦ fits.plain k (omega (arith, count)) ∙ sym (suits.plain k (omega (arith, count))) ] in
    let words : s.words ≡ t.words = ext_get_or 0 s.words t.words (fits.count ∙ sym suits.count) at in
    (ap (λ ws. record { words = ws }) words, once.1)

pub line_apart : (names : List (List ℕ)) (u : ℕ) (s : State) (rest : List ℕ) → node_line names u s ++ rest ≡ decimal u ++ (fields_text names s.words ++ (10 ∷ rest))
line_apart names u s rest = append_assoc (decimal u) (fields_text names s.words ++ 10 ∷ []) rest ∙ ap (λ r. decimal u ++ r) (append_assoc (fields_text names s.words) (10 ∷ []) rest)

-- a node's line gives its state
pub node_once : (names : List (List ℕ)) (fields u : ℕ) (s t : State) (rest more : List ℕ) → length names ≡ fields → fields ≤ 8 → IsStateOf fields s → IsStateOf fields t → node_line names u s ++ rest ≡ node_line names u t ++ more → (s ≡ t) × (rest ≡ more)
node_once names fields u s t rest more count few fits suits same =
    let lines : decimal u ++ (fields_text names s.words ++ (10 ∷ rest)) ≡ decimal u ++ (fields_text names t.words ++ (10 ∷ more)) = sym (line_apart names u s rest) ∙ same ∙ line_apart names u t more in
    let inner = append_cancel_left (decimal u) _ _ lines in
    let once = fields_once names fields s t (10 ∷ rest) (10 ∷ more) count few fits suits refl refl inner in
    (once.0, append_cancel_left (10 ∷ []) rest more once.1)

pub round_apart : (t : ℕ) (rest : List ℕ) → round_line t ++ rest ≡ codes "round " ++ (decimal t ++ (10 ∷ rest))
round_apart t rest = append_assoc (codes "round ") (decimal t ++ 10 ∷ []) rest ∙ ap (λ r. codes "round " ++ r) (append_assoc (decimal t) (10 ∷ []) rest)

-- the round's line gives the round
pub round_once : (s t : ℕ) (rest more : List ℕ) → s < 2 ^ 32 → t < 2 ^ 32 → round_line s ++ rest ≡ round_line t ++ more → (s ≡ t) × (rest ≡ more)
round_once s t rest more small tiny same =
    let lines : codes "round " ++ (decimal s ++ (10 ∷ rest)) ≡ codes "round " ++ (decimal t ++ (10 ∷ more)) = sym (round_apart s rest) ∙ same ∙ round_apart t more in
    let inner = append_cancel_left (codes "round ") (decimal s ++ (10 ∷ rest)) (decimal t ++ (10 ∷ more)) lines in
    let once = number_once s t (10 ∷ rest) (10 ∷ more) small tiny refl refl inner in
    (once.0, append_cancel_left (10 ∷ []) rest more once.1)
