-- The names of the fields that the first line has.
use Rattle.std.proofs.Common.{◌⊎◌, inl, inr, ◌≡◌, ℕ, ◌+◌, ◌<◌, ◌≤◌, ◌^◌, Bool, true, false, List, [], ◌∷◌, ◌++◌, length, refl, sym, ap, subst, ◌∙◌, arith, append_assoc, length-append, All, Some, None, codes, IsTrue}
use Rattle.std.specs.Fmt.{decimal}
use Rattle.std.specs.Char.{is_ascii_alphabetic}
use Rattle.std.specs.List.{AllByRecursion, slice_get}
use Rattle.std.proofs.lemmas.List.{append-nil, append_cancel_left}
use Rattle.rule_check.specs.WellFormed.{IsFieldName}
use Rattle.rule_lang.specs.declared.keyword.Keyword.{Keyword}
use Rattle.rule_lang.specs.Keywords.{keyword_of}
use Rattle.rule_lang.specs.Tokens.{IsWord, IsSpan, is_word_byte}
use Rattle.rule_lang.proofs.Bytes.{span_same, letter_in_word}
use Rattle.rule_lang.proofs.Words.{name_of_none, none_of_name}
use Rattle.report_text.specs.Front.{IsFront, Ends}
use Rattle.report_text.specs.Report.{field_text, fields_text}
use Rattle.report_text.proofs.Digits.{number_once}
use Rattle.report_text.proofs.Once.{ends_fields}
use Rattle.report_text.proofs.ReportOnce.{all_behind}
use Rattle.report_files.specs.declared.tables.row.Row.{Row}
use Rattle.report_files.specs.tables.Tables.{IsRow, row_text, row_line}
use Rattle.report_files.proofs.tables.RowLines.{ending, ends_ending, row_ends, row_moved}
use Rattle.report_text.proofs.ReadFields.{Small}

word_each : (word : List ℕ) → IsWord word → AllByRecursion (λ b. IsTrue (is_word_byte b)) word
word_each [] h = absurd h
word_each (b ∷ bytes) h = (letter_in_word b h.0, h.1)

-- a name before `=` is the word that stands there
pub name_span : (name more : List ℕ) → IsFieldName name → IsSpan is_word_byte (name ++ (61 ∷ more)) name (61 ∷ more)
name_span name more is = record { cut = refl; each = word_each name is.0; stops = refl }

field_apart : (name : List ℕ) (v : ℕ) (rest : List ℕ) → field_text name v ++ rest ≡ 32 ∷ (name ++ (61 ∷ (decimal v ++ rest)))
field_apart name v rest = ap (λ t. 32 ∷ t) (append_assoc name (61 ∷ decimal v) rest)

-- the parts of a field at the front
module _ (bytes named name more : List ℕ) (value : ℕ) (cut : bytes ≡ codes " " ++ named) (same : bytes ≡ field_text name value ++ more) (is : IsFieldName name) where
  pub named_is : named ≡ name ++ (61 ∷ (decimal value ++ more))
  named_is = append_cancel_left (32 ∷ []) named (name ++ (61 ∷ (decimal value ++ more))) (sym cut ∙ same ∙ field_apart name value more)

  module _ (word equal : List ℕ) (span : IsSpan is_word_byte named word equal) where
    pub span_is : (word ≡ name) × (equal ≡ 61 ∷ (decimal value ++ more))
    span_is = span_same is_word_byte named word equal name (61 ∷ (decimal value ++ more)) span (subst (λ b. IsSpan is_word_byte b name (61 ∷ (decimal value ++ more))) (sym named_is) (name_span name (decimal value ++ more) is))

    pub value_is : (behind : List ℕ) → equal ≡ codes "=" ++ behind → behind ≡ decimal value ++ more
    value_is behind at = append_cancel_left (61 ∷ []) behind (decimal value ++ more) (sym at ∙ span_is.1)

-- the text of a field that was read
pub field_whole : (bytes named word equal value rest name : List ℕ) (n : ℕ) → bytes ≡ codes " " ++ named → IsSpan is_word_byte named word equal → equal ≡ codes "=" ++ value → value ≡ decimal n ++ rest → name ≡ word → bytes ≡ field_text name n ++ rest
field_whole bytes named word equal value rest name n cut span at num same =
    cut ∙ ap (λ t. 32 ∷ t) (span.cut ∙ ap (λ t. word ++ t) (at ∙ ap (λ t. 61 ∷ t) num)) ∙ ap (λ w. 32 ∷ (w ++ (61 ∷ (decimal n ++ rest)))) (sym same) ∙ sym (field_apart name n rest)

-- what is left of some fields whose first ones were found
pub record Left (names : List (List ℕ)) (more : List ℕ) (found : List (List ℕ)) (rest : List ℕ) : Type 0 where
  pub tail : List (List ℕ)
  pub others : List ℕ
  pub whole : names ≡ found ++ tail
  pub enough : length tail ≤ length others
  pub small : All (λ w. w < 2 ^ 32) others
  pub named : All IsFieldName tail
  pub left : rest ≡ fields_text tail others ++ (10 ∷ more)

-- the first of them
pub record FirstLeft (names : List (List ℕ)) (more : List ℕ) (found : List (List ℕ)) (rest : List ℕ) : Type 0 where
  pub name : List ℕ
  pub value : ℕ
  pub behind : List ℕ
  pub named : IsFieldName name
  pub small : value < 2 ^ 32
  pub ends : Ends behind
  pub is : rest ≡ field_text name value ++ behind
  pub then : Left names more (found ++ name ∷ []) behind

pub none_or_first : (names : List (List ℕ)) (more : List ℕ) (found : List (List ℕ)) (rest : List ℕ) → (l : Left names more found rest) → ((names ≡ found) × (rest ≡ 10 ∷ more)) ⊎ FirstLeft names more found rest
none_or_first names more found rest l = cases l.tail l.others l.whole l.enough l.small l.named l.left
  where
    cases : (tail : List (List ℕ)) (others : List ℕ) → names ≡ found ++ tail → length tail ≤ length others → All (λ w. w < 2 ^ 32) others → All IsFieldName tail → rest ≡ fields_text tail others ++ (10 ∷ more) → ((names ≡ found) × (rest ≡ 10 ∷ more)) ⊎ FirstLeft names more found rest
    cases [] others whole enough small named left = inl (whole ∙ append-nil found, left)
    cases (n ∷ tail) [] whole enough small named left = absurd (omega arith)
    cases (n ∷ tail) (v ∷ others) whole enough small named left = inr (record {
      name = n;
      value = v;
      behind = fields_text tail others ++ (10 ∷ more);
      named = named 0 [] (omega arith);
      small = small 0 0 (omega arith);
      ends = ends_fields tail others (10 ∷ more) refl;
      is = left ∙ append_assoc (field_text n v) (fields_text tail others) (10 ∷ more);
      then = record {
        tail = tail;
        others = others;
        whole = whole ∙ sym (append_assoc found (n ∷ []) tail);
        enough = omega arith;
        small = all_behind (λ w. w < 2 ^ 32) v others small;
        named = all_behind IsFieldName n tail named;
        left = refl;
      };
    })

-- what stands after the number of node 0
module _ (names : List (List ℕ)) (fields : ℕ) (row : Row) (more : List ℕ) where
  pub number_behind : (counted : Bool) → IsRow fields counted row → (bytes : List ℕ) → bytes ≡ row_line names 0 row ++ more → (n : ℕ) (rest : List ℕ) → bytes ≡ decimal n ++ rest → Small n → Ends rest → rest ≡ row_text names row ++ more
  number_behind counted fits bytes e n rest cut small ends =
      (number_once n 0 rest (row_text names row ++ more) small (omega arith) ends (row_ends names fields row more counted fits) (sym cut ∙ e ∙ append_assoc (decimal 0) (row_text names row) more)).1

  module _ (moved : IsRow fields true row) (rest number : List ℕ) (is : rest ≡ row_text names row ++ more) (cut : rest ≡ codes " moves " ++ number) where
    number_is : number ≡ decimal (row_moved names fields row more moved).count ++ ending names row.state.words more
    number_is = append_cancel_left (codes " moves ") number _ (sym cut ∙ is ∙ (row_moved names fields row more moved).text)

    pub moves_there : IsFront decimal Small Ends number None → ⊥
    moves_there none = none (row_moved names fields row more moved).count (ending names row.state.words more) (row_moved names fields row more moved).small (ends_ending names row.state.words more) number_is

    pub moves_number : (n : ℕ) (values : List ℕ) → number ≡ decimal n ++ values → Small n → Ends values → values ≡ ending names row.state.words more
    moves_number n values at small ends =
        (number_once n (row_moved names fields row more moved).count values (ending names row.state.words more) small (row_moved names fields row more moved).small ends (ends_ending names row.state.words more) (sym at ∙ number_is)).1

-- words that are names of fields
pub is_named : (word name : List ℕ) (b : ℕ) → AllByRecursion (λ c. IsTrue (is_word_byte c)) word → Some b ≡ slice_get word 0 → is_ascii_alphabetic b ≡ true → name ≡ word → None ≡ keyword_of name → IsFieldName word × (name ≡ word)
is_named [] name b each first letter same none = cc
is_named (x ∷ word) name b each first letter same none =
    let one : b ≡ x = cc in
    (((subst (λ c. is_ascii_alphabetic c ≡ true) one letter, each.1), name_of_none (x ∷ word) (sym (none ∙ ap keyword_of same))), same)

pub is_reserved : (word name : List ℕ) (k : Keyword) → name ≡ word → Some k ≡ keyword_of name → IsFieldName word → ⊥
is_reserved word name k same some is = let none : Some k ≡ None = some ∙ ap keyword_of same ∙ none_of_name word is.1 in cc

pub all_eight : (found tail names : List (List ℕ)) → names ≡ found ++ tail → length names ≤ 8 → 8 ≤ length found → found ≡ names
all_eight found [] names whole few full = sym (whole ∙ append-nil found)
all_eight found (n ∷ tail) names whole few full = (let size : length names ≡ length found + length (n ∷ tail) = ap length whole ∙ length-append found (n ∷ tail) in absurd (omega arith))

-- where no field stands, all are found
pub none_left : (names : List (List ℕ)) (more : List ℕ) (found : List (List ℕ)) (rest : List ℕ) → Left names more found rest
    → ((name behind : List ℕ) (value : ℕ) → IsFieldName name → value < 2 ^ 32 → Ends behind → rest ≡ field_text name value ++ behind → ⊥) → found ≡ names
none_left names more found rest l none =
    elim (none_or_first names more found rest l) [ inl done ↦ sym done.0 | inr f ↦ absurd (none f.name f.behind f.value f.named f.small f.ends f.is) ]

-- where one stands, it is the next
pub next_left : (names : List (List ℕ)) (more : List ℕ) (found later : List (List ℕ)) (rest name after : List ℕ) (n : ℕ) → Left names more found rest → rest ≡ field_text name n ++ after
    → ((other behind : List ℕ) (value : ℕ) → IsFieldName other → value < 2 ^ 32 → Ends behind → rest ≡ field_text other value ++ behind → (name ≡ other) × (after ≡ behind)) → later ≡ found ++ name ∷ [] → Left names more later after
next_left names more found later rest name after n l is only same =
    elim (none_or_first names more found rest l) [
      | inl done ↦ (let bad : 10 ∷ more ≡ 32 ∷ (name ++ (61 ∷ (decimal n ++ after))) = sym done.1 ∙ is ∙ field_apart name n after in cc)
      | inr f ↦ (let h = only f.name f.behind f.value f.named f.small f.ends f.is in
          rw (same, h.0, h.1) f.then)
    ]
