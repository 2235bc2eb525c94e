-- Lines of JSON and their objects.
use Rattle.std.proofs.Common.{◌≡◌, ◌≢◌, ◌∙◌, ◌<◌, ◌≤◌, ◌^◌, ◌==◌, ℕ, zero, suc, List, [], ◌∷◌, ◌++◌, true, false, All, Option, None, Some, ap, append-nil, append_assoc, arith, codes, nat_lt, refl, slice_get, slice_index, slice_index_or, string_bytes, subst, sym}
use Rattle.std.proofs.lemmas.Bool.Decides.{nat_tests}
use Rattle.std.proofs.lemmas.List.Elements.{All-append}
use Rattle.std.specs.Fmt.{decimal}
use Rattle.std.specs.List.{flat_map}
use Rattle.json.specs.Json as json
use Rattle.json.specs.Print.{escape, escape_byte, print, print_from, quoted}
use Rattle.json.specs.Token.{Token}
use Rattle.json.specs.Tree.{HasNumbers, MembersHaveNumbers, depth, json_tokens, members_depth, members_tokens}
use Rattle.json.proofs.Printed.Decimals.{IsNumber-decimal}
use Rattle.json.proofs.Printed.Trees.{document-print}
use Rattle.std.specs.Prelude.{IfSome}
use Rattle.rule_lang.specs.Tokens.{IsWord, is_word_byte}
use Rattle.rule_check.specs.declared.state.State.{State}
use Rattle.rule_check.specs.WellFormed.{IsFieldName}
use Rattle.run_watch.specs.declared.show.Format.{Format}
use Rattle.run_watch.specs.declared.show.Show.{Show}
use Rattle.run_watch.specs.Objects.{HasWords, JsonNodesAreNumbers, JsonRowsAreObjects, ShowsJson, field_members, row_object, value_json}
use Rattle.run_watch.specs.Records.{AreWords, node_name}
use Rattle.run_watch.specs.Watching.{cell_text, names_in, row_end, row_start, row_text, value_name, json_label}
use Rattle.run_watch.proofs.Lines.{at_each, bytes_in_word, decimal_plain, field_name_plain, name_bytes, no_end, number_is, word_byte_is_other, word_plain, written_no_end}
use Rattle.run_watch.proofs.Names.{name_has, names_at}

-- ---- names in quotes

word_byte_high : (x : ℕ) → is_word_byte x ≡ true → nat_lt x 32 ≡ false
word_byte_high x is = grind (arith, nat_tests, is)

-- a byte of a word stands for itself
byte_itself : (x : ℕ) → is_word_byte x ≡ true → escape_byte x ≡ x ∷ []
unfolding escape_byte
byte_itself x is =
    let quote : (x == 34) ≡ false = word_byte_is_other 34 x refl is in
    let backslash : (x == 92) ≡ false = word_byte_is_other 92 x refl is in
    let backspace : (x == 8) ≡ false = word_byte_is_other 8 x refl is in
    let feed : (x == 12) ≡ false = word_byte_is_other 12 x refl is in
    let end : (x == 10) ≡ false = word_byte_is_other 10 x refl is in
    let back : (x == 13) ≡ false = word_byte_is_other 13 x refl is in
    let tab : (x == 9) ≡ false = word_byte_is_other 9 x refl is in
    let high = word_byte_high x is in
    rw (quote, backslash, backspace, feed, end, back, tab, high) refl

escape_itself : (text : List ℕ) → All (λ b. is_word_byte b ≡ true) text → escape text ≡ text
escape_itself [] all = refl
escape_itself (x ∷ xs) all =
    ap (λ (front : List ℕ). front ++ escape xs) (byte_itself x (all zero x (omega arith)))
    ∙ ap (λ (rest : List ℕ). x ∷ rest) (escape_itself xs (λ k d inside. all (suc k) d (omega (arith, inside))))

-- ---- the text of an object

-- a value that is no array and no object, before other tokens
value_first : (node : json.Json) (ts : List Token) → depth node ≡ 0 → print_from false (json_tokens node ++ ts) ≡ print (json_tokens node) ++ print_from true ts
unfolding print_from
value_first json.null ts flat = refl
value_first (json.boolean true) ts flat = refl
value_first (json.boolean false) ts flat = refl
value_first (json.number s) ts flat = ap (λ (text : List ℕ). text ++ print_from true ts) (sym (append-nil s))
value_first (json.string s) ts flat = ap (λ (text : List ℕ). text ++ print_from true ts) (sym (append-nil (quoted s)))
value_first (json.array js) ts flat = absurd (omega (arith, flat))
value_first (json.object ms) ts flat = absurd (omega (arith, flat))

apart : (name digits rest : List ℕ) → ((name ++ 34 ∷ []) ++ 58 ∷ []) ++ (digits ++ rest) ≡ (name ++ (34 ∷ 58 ∷ digits)) ++ rest
apart name digits rest =
    append_assoc (name ++ 34 ∷ []) (58 ∷ []) (digits ++ rest)
    ∙ append_assoc name (34 ∷ []) (58 ∷ (digits ++ rest))
    ∙ sym (append_assoc name (34 ∷ 58 ∷ digits) rest)

-- ---- values

-- a value before other tokens
value_printed : (name : Option (List ℕ)) (v : ℕ) (ts : List Token) → IfSome name (λ n. escape n ≡ n) → print_from false (json_tokens (value_json name v) ++ ts) ≡ json_label name v ++ print_from true ts
unfolding print_from
value_printed None v ts itself = refl
value_printed (Some name) v ts itself = ap (λ (text : List ℕ). 34 ∷ ((text ++ 34 ∷ []) ++ print_from true ts)) itself

value_flat : (name : Option (List ℕ)) (v : ℕ) → depth (value_json name v) ≡ 0
value_flat None v = refl
value_flat (Some name) v = refl

value_numbers : (name : Option (List ℕ)) (v : ℕ) → v < 2 ^ 32 → HasNumbers (value_json name v)
value_numbers None v small = IsNumber-decimal v (omega (arith, small))
value_numbers (Some name) v small = tt

value_no_end : (name : Option (List ℕ)) (v : ℕ) → v < 2 ^ 32 → IfSome name IsWord → All (λ b. b ≢ 10) (json_label name v)
value_no_end None v small word = no_end (decimal v) (decimal_plain v small)
value_no_end (Some name) v small word =
    All-append (λ b. b ≢ 10) (codes "\"") (name ++ codes "\"") (written_no_end (codes "\"") refl)
    (All-append (λ b. b ≢ 10) name (codes "\"") (no_end name (word_plain name word)) (written_no_end (codes "\"") refl))

word_itself : (name : Option (List ℕ)) → IfSome name IsWord → IfSome name (λ n. escape n ≡ n)
word_itself None word = tt
word_itself (Some name) word = escape_itself name (bytes_in_word name word)

-- the name of a value is a word
name_word : (show : Show) (k v : ℕ) → HasWords show → IfSome (value_name show k v) IsWord
name_word show k v words =
    name_has string_bytes IsWord (names_in (slice_get show.names.now k)) v
    (names_at (λ ns. All (λ n. IsWord (string_bytes n)) ns) show.names.now k (λ j d inside. absurd (omega (arith, inside))) words)

-- ---- members

-- the members of fields, each after a comma
abbrev members_behind : Show → List (List ℕ) → State → List ℕ → List ℕ
members_behind show names state fields =
    flat_map (λ (k : ℕ). codes ",\"" ++ (slice_index_or names k [] ++ (codes "\":" ++ json_label (value_name show k (slice_index state.words k)) (slice_index state.words k)))) fields

fields_text : (show : Show) (names : List (List ℕ)) (state : State) (fields : List ℕ) → HasWords show → ((k : ℕ) → escape (slice_index_or names k []) ≡ slice_index_or names k [])
    → print_from true (members_tokens (field_members show names state fields)) ≡ members_behind show names state fields ++ codes "}"
unfolding print_from
fields_text show names state [] words each = refl
fields_text show names state (k ∷ fields) words each =
    let name = slice_index_or names k [] in
    let v = slice_index state.words k in
    let own = value_name show k v in
    let shown = json_label own v in
    let others = members_tokens (field_members show names state fields) in
    ap (λ (text : List ℕ). 44 ∷ 34 ∷ (((text ++ 34 ∷ []) ++ 58 ∷ []) ++ print_from false (json_tokens (value_json own v) ++ others))) (each k)
    ∙ ap (λ (text : List ℕ). 44 ∷ 34 ∷ (((name ++ 34 ∷ []) ++ 58 ∷ []) ++ text)) (value_printed own v others (word_itself own (name_word show k v words)))
    ∙ ap (λ (text : List ℕ). 44 ∷ 34 ∷ text) (apart name shown (print_from true others))
    ∙ ap (λ (text : List ℕ). (codes ",\"" ++ (name ++ (codes "\":" ++ shown))) ++ text) (fields_text show names state fields words each)
    ∙ sym (append_assoc (codes ",\"" ++ (name ++ (codes "\":" ++ shown))) (members_behind show names state fields) (codes "}"))

members_flat : (show : Show) (names : List (List ℕ)) (state : State) (fields : List ℕ) → members_depth (field_members show names state fields) ≡ 0
members_flat show names state [] = refl
members_flat show names state (k ∷ fields) =
    let first = value_flat (value_name show k (slice_index state.words k)) (slice_index state.words k) in
    let rest = members_flat show names state fields in
    omega (arith, first, rest)

members_numbers : (show : Show) (names : List (List ℕ)) (state : State) (fields : List ℕ) → All (λ w. w < 2 ^ 32) state.words → MembersHaveNumbers (field_members show names state fields)
members_numbers show names state [] small = tt
members_numbers show names state (k ∷ fields) small =
    let word : slice_index state.words k < 2 ^ 32 = at_each (λ w. w < 2 ^ 32) 0 state.words k (omega arith) small in
    (value_numbers (value_name show k (slice_index state.words k)) (slice_index state.words k) word, members_numbers show names state fields small)

members_no_end : (show : Show) (names : List (List ℕ)) (state : State) (fields : List ℕ) → ((k : ℕ) → All (λ b. b ≢ 10) (slice_index_or names k []))
    → ((k : ℕ) → All (λ b. b ≢ 10) (json_label (value_name show k (slice_index state.words k)) (slice_index state.words k))) → All (λ b. b ≢ 10) (members_behind show names state fields)
members_no_end show names state [] names_end words_end = λ k d inside. absurd (omega (arith, inside))
members_no_end show names state (k ∷ fields) names_end words_end =
    let name = slice_index_or names k [] in
    let shown = json_label (value_name show k (slice_index state.words k)) (slice_index state.words k) in
    All-append (λ b. b ≢ 10) (codes ",\"" ++ (name ++ (codes "\":" ++ shown))) (members_behind show names state fields)
    (All-append (λ b. b ≢ 10) (codes ",\"") (name ++ (codes "\":" ++ shown)) (written_no_end (codes ",\"") refl)
    (All-append (λ b. b ≢ 10) name (codes "\":" ++ shown) (names_end k)
    (All-append (λ b. b ≢ 10) (codes "\":") shown (written_no_end (codes "\":") refl) (words_end k))))
    (members_no_end show names state fields names_end words_end)

module _ (show : Show) (names : List (List ℕ)) (t u : ℕ) (state : State) (node : json.Json) (shows : ShowsJson show u node) (are : AreWords t u state) (fields : All IsFieldName names) where
  abbrev cells : List ℕ
  cells = members_behind show names state show.fields.now

  abbrev name : List ℕ
  name = node_name show u

  -- the line without its LF
  abbrev line : List ℕ
  line = codes "{\"round\":" ++ (decimal t ++ (codes ",\"node\":" ++ (name ++ (cells ++ codes "}"))))

  name_itself : (k : ℕ) → escape (slice_index_or names k []) ≡ slice_index_or names k []
  name_itself k = at_each (λ text. escape text ≡ text) [] names k refl (λ j d inside. escape_itself (slice_index_or names j d) (name_bytes (slice_index_or names j d) (fields j d inside)))

  field_no_end : (k : ℕ) → All (λ b. b ≢ 10) (slice_index_or names k [])
  field_no_end k =
      at_each (λ text. All (λ b. b ≢ 10) text) [] names k (λ j d inside. absurd (omega (arith, inside)))
      (λ j d inside. no_end (slice_index_or names j d) (field_name_plain (slice_index_or names j d) (fields j d inside)))

  digits_no_end : (n : ℕ) → n < 2 ^ 32 → All (λ b. b ≢ 10) (decimal n)
  digits_no_end n small = no_end (decimal n) (decimal_plain n small)

  word_no_end : (k : ℕ) → All (λ b. b ≢ 10) (json_label (value_name show k (slice_index state.words k)) (slice_index state.words k))
  word_no_end k =
      let v = slice_index state.words k in
      value_no_end (value_name show k v) v (at_each (λ w. w < 2 ^ 32) 0 state.words k (omega arith) are.words) (name_word show k v shows.words)

  line_no_end : All (λ b. b ≢ 10) line
  line_no_end =
      All-append (λ b. b ≢ 10) (codes "{\"round\":") (decimal t ++ (codes ",\"node\":" ++ (name ++ (cells ++ codes "}")))) (written_no_end (codes "{\"round\":") refl)
      (All-append (λ b. b ≢ 10) (decimal t) (codes ",\"node\":" ++ (name ++ (cells ++ codes "}"))) (digits_no_end t are.round)
      (All-append (λ b. b ≢ 10) (codes ",\"node\":") (name ++ (cells ++ codes "}")) (written_no_end (codes ",\"node\":") refl)
      (All-append (λ b. b ≢ 10) name (cells ++ codes "}") shows.one
      (All-append (λ b. b ≢ 10) cells (codes "}") (members_no_end show names state show.fields.now field_no_end word_no_end) (written_no_end (codes "}") refl)))))

  row_ends : row_text show names t u state ≡ line ++ codes "\n"
  row_ends =
      ap (λ (format : Format). row_start format t ++ (name ++ (flat_map (λ (k : ℕ). cell_text format (slice_index_or names k []) (value_name show k (slice_index state.words k)) (slice_index state.words k)) show.fields.now ++ row_end format))) shows.json
      ∙ ap (λ (text : List ℕ). codes "{\"round\":" ++ text)
      (append_assoc (decimal t) (codes ",\"node\":") (name ++ (cells ++ codes "}\n"))
      ∙ ap (λ (text : List ℕ). decimal t ++ (codes ",\"node\":" ++ text))
      (ap (λ (text : List ℕ). name ++ text) (sym (append_assoc cells (codes "}") (codes "\n"))) ∙ sym (append_assoc name (cells ++ codes "}") (codes "\n")))
      ∙ sym (append_assoc (decimal t) (codes ",\"node\":" ++ (name ++ (cells ++ codes "}"))) (codes "\n")))

  abbrev object : json.Json
  object = row_object show names t node state

  printed : print (json_tokens object) ≡ line
  unfolding print_from escape_byte
  printed =
      ap (λ (text : List ℕ). codes "{\"round\":" ++ (decimal t ++ (codes ",\"node\":" ++ text)))
      (value_first node (members_tokens (field_members show names state show.fields.now)) shows.flat
      ∙ ap (λ (text : List ℕ). text ++ print_from true (members_tokens (field_members show names state show.fields.now))) (sym shows.text)
      ∙ ap (λ (text : List ℕ). name ++ text) (fields_text show names state show.fields.now shows.words name_itself))

  object_numbers : HasNumbers object
  object_numbers = (IsNumber-decimal t (let small = are.round in omega (arith, small)), (shows.numbers, members_numbers show names state show.fields.now are.words))

  object_shallow : depth object ≤ 128
  object_shallow =
      let flat = shows.flat in
      let rest = members_flat show names state show.fields.now in
      omega (arith, flat, rest)

  object_read : json.document line ≡ Some object
  object_read = ap json.document (sym printed) ∙ document-print object object_numbers object_shallow

pub json_rows_are_objects : JsonRowsAreObjects
json_rows_are_objects show names t u state node shows are fields = record {
  line = line show names t u state node shows are fields;
  ended = row_ends show names t u state node shows are fields;
  one = line_no_end show names t u state node shows are fields;
  read = object_read show names t u state node shows are fields;
}

-- ---- nodes by their numbers

pub json_nodes_are_numbers : JsonNodesAreNumbers
unfolding print_from
json_nodes_are_numbers show t u state shown words none are =
    let named : node_name show u ≡ decimal u = number_is string_bytes show.labels.now u none in
    record {
      json = shown;
      words = words;
      text = named ∙ sym (append-nil (decimal u));
      numbers = IsNumber-decimal u (let small = are.node in omega (arith, small));
      flat = refl;
      one = subst (λ (text : List ℕ). All (λ b. b ≢ 10) text) (sym named) (no_end (decimal u) (decimal_plain u are.node));
    }
