-- Names of values, and numbers where there are none.
use Rattle.std.proofs.Common.{◌≡◌, ◌∙◌, ◌<◌, ◌^◌, ℕ, zero, suc, List, [], ◌∷◌, Bool, true, false, Global, String, Vec, All, arith, get_or, inl, inr, length, map, nat_lt, ◌⊎◌, refl, slice_get, slice_index_or, subst, sym}
use Rattle.std.proofs.lemmas.Bool.Decides.{nat_tests}
use Rattle.std.proofs.lemmas.Fmt.{decimal_injective, digits_decimal}
use Rattle.std.proofs.lemmas.Map.Keys.{apart_from_distinct}
use Rattle.std.proofs.lemmas.Slice.Eq.{bytes_eq-Decides}
use Rattle.std.proofs.lemmas.Str.Parse.{IsNumeralModel, numerals_by_value, tells_by_index}
use Rattle.std.specs.Fmt.{decimal}
use Rattle.std.specs.Int.{IsInRange}
use Rattle.std.specs.List.{IsDistinct}
use Rattle.std.specs.Option.{option_map}
use Rattle.std.specs.Prelude.{IfSome}
use Rattle.std.specs.Str.{bytes_eq}
use Rattle.std.specs.Str.Parse.{digits_value}
use Rattle.rule_lang.specs.Tokens.{IsWord}
use Rattle.rule_lang.proofs.Bytes.{letter_bounds}
use Rattle.run_watch.specs.Records.{AreNames}
use Rattle.run_watch.specs.Watching.{label_of, names_in}

by_place : IsNumeralModel (λ ds. (i : ℕ) → i < length ds → IsInRange 48 57 (get_or ds i 0)) (digits_value 10)
by_place = numerals_by_value _ tells_by_index

digits_no_word : (ds : List ℕ) → ((i : ℕ) → i < length ds → IsInRange 48 57 (get_or ds i 0)) → IsWord ds → ⊥
digits_no_word [] digits word = word
digits_no_word (b ∷ ds) digits word =
    let digit = (digits 0 (omega arith)).1 in
    let letter = (letter_bounds b word.0).0 in
    omega (arith, digit, letter)

-- a word is the decimal of no number
pub word_no_decimal : (name : List ℕ) (n : ℕ) → n < 2 ^ 32 → IsWord name → name ≡ decimal n → ⊥
word_no_decimal name n small word same = digits_no_word (decimal n) (digits_decimal by_place n (omega (arith, small))) (subst IsWord same word)

-- what stands for a number is its decimal, or a name at its place
pub label_by : {A : Type 0} (bytes : A → List ℕ) (names : List A) (k u : ℕ)
    → (label_of (option_map bytes (slice_get names k)) u ≡ decimal u)
    ⊎ ((k < length (map bytes names)) × (label_of (option_map bytes (slice_get names k)) u ≡ slice_index_or (map bytes names) k []))
label_by bytes [] k u = inl refl
label_by bytes (x ∷ xs) zero u = inr (omega arith, refl)
label_by bytes (x ∷ xs) (suc k) u = elim (label_by bytes xs k u) [ inl e ↦ inl e | inr e ↦ inr (omega (arith, e.0), e.1) ]

-- ---- names that are distinct

equal_by : (i j : ℕ) (b c : Bool) → nat_lt i j ≡ b → nat_lt j i ≡ c → (i < j → ⊥) → (j < i → ⊥) → i ≡ j
equal_by i j true c is other up down = absurd (up (grind (arith, nat_tests, is)))
equal_by i j false true is other up down = absurd (down (grind (arith, nat_tests, other)))
equal_by i j false false is other up down = grind (arith, nat_tests, is, other)

apart_at : (names : List (List ℕ)) (i j : ℕ) → IsDistinct bytes_eq names → j < length names → slice_index_or names i [] ≡ slice_index_or names j [] → i < j → ⊥
apart_at names i j once inside same up =
    let other : bytes_eq (slice_index_or names i []) (slice_index_or names j []) ≡ false = apart_from_distinct bytes_eq names i j [] once up inside in
    let is : bytes_eq (slice_index_or names i []) (slice_index_or names j []) ≡ true = (bytes_eq-Decides (slice_index_or names i []) (slice_index_or names j [])).1 same in
    let e : false ≡ true = sym other ∙ is in
    absurd cc

-- a name that stands at two places stands at one
once_at : (names : List (List ℕ)) (i j : ℕ) → IsDistinct bytes_eq names → i < length names → j < length names → slice_index_or names i [] ≡ slice_index_or names j [] → i ≡ j
once_at names i j once left right same =
    equal_by i j (nat_lt i j) (nat_lt j i) refl refl (apart_at names i j once right same) (apart_at names j i once left (sym same))

name_word : (names : List (List ℕ)) (k : ℕ) → k < length names → AreNames names → IsWord (slice_index_or names k [])
name_word names k inside are = are.words k [] inside

-- what stands for a value tells the value
pub label_tells : {A : Type 0} (bytes : A → List ℕ) (names : List A) (v w : ℕ) → v < 2 ^ 32 → w < 2 ^ 32 → AreNames (map bytes names)
    → label_of (option_map bytes (slice_get names v)) v ≡ label_of (option_map bytes (slice_get names w)) w → v ≡ w
label_tells bytes names v w small tiny are same =
    let texts = map bytes names in
    elim (label_by bytes names v v) [
      | inl e ↦ elim (label_by bytes names w w) [
        | inl d ↦ decimal_injective v w (omega (arith, small)) (omega (arith, tiny)) (sym e ∙ same ∙ d)
        | inr d ↦ absurd (word_no_decimal (slice_index_or texts w []) v small (name_word texts w d.0 are) (sym d.1 ∙ sym same ∙ e))
      ]
      | inr e ↦ elim (label_by bytes names w w) [
        | inl d ↦ absurd (word_no_decimal (slice_index_or texts v []) w tiny (name_word texts v e.0 are) (sym e.1 ∙ same ∙ d))
        | inr d ↦ once_at texts v w are.once e.0 d.0 (sym e.1 ∙ same ∙ d.1)
      ]
    ]

-- ---- what holds of the names of a field

-- what holds of the names of each field and of none holds of those at each place
pub names_at : (Q : List (String Global) → Type 0) (names : List (Vec (String Global) Global)) (k : ℕ) → Q [] → All (λ ns. Q ns.items) names → Q (names_in (slice_get names k))
names_at Q [] k none all = none
names_at Q (x ∷ xs) zero none all = all zero x (omega arith)
names_at Q (x ∷ xs) (suc k) none all = names_at Q xs k none (λ j d inside. all (suc j) d (omega (arith, inside)))

-- what holds of each name holds of the name of a value, where it has one
pub name_has : {A : Type 0} (bytes : A → List ℕ) (P : List ℕ → Type 0) (names : List A) (v : ℕ) → All (λ n. P (bytes n)) names → IfSome (option_map bytes (slice_get names v)) P
name_has bytes P [] v all = tt
name_has bytes P (x ∷ xs) zero all = all zero x (omega arith)
name_has bytes P (x ∷ xs) (suc v) all = name_has bytes P xs v (λ j d inside. all (suc j) d (omega (arith, inside)))
