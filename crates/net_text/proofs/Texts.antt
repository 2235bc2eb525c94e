-- The text of a network file is read as its document.
use Rattle.std.proofs.Common.{◌≡◌, ℕ, ◌-◌, ◌<◌, ◌≤◌, ℤ, pos, suc, Bool, true, false, ◌==◌, List, [], ◌∷◌, ◌++◌, map, length, codes, Option, Some, None, option_and_then, append_assoc, length-append, refl, ap, sym, ◌∙◌, inl, inr, arith}
use Rattle.std.specs.Fmt.{decimal}
use Rattle.std.specs.Int.{w64}
use Rattle.std.specs.Prelude.{FitsSigned}
use Rattle.std.specs.List.Sorted.{IsStrictlySortedBy}
use Rattle.std.proofs.lemmas.Bool.{cases_Bool}
use Rattle.std.proofs.lemmas.Bool.Decides.{nat_tests}
use Rattle.std.proofs.lemmas.Option.{none-some, same_Some}
use Rattle.toml_parser.specs.Lexical.{first, skip_blank, skip_ws}
use Rattle.toml_parser.proofs.LexicalLemmas.{skip_ws_none}
use Rattle.toml_writer.specs.Text.{key_text}
use Rattle.toml.specs.Data.{array, no_items, items_have_valid_dates, is_before, items_are_sorted, members_are_sorted}
use Rattle.toml.specs.Tables.{Nodes, no_nodes, Document, Expression, define, key_value, along_header}
use Rattle.toml.specs.Parse.{val, line, lines, expression, ends_line, skip_bom, parse_document}
use Rattle.toml.specs.Text.{IsValueText, IsItemsText, IsDocumentText, is_section, pairs, sections, section, expressions}
use Rattle.toml.specs.View.{items_of}
use Rattle.toml.proofs.Turns.{val_array, keyval_ok, lines_more, lines_refused, document_some}
use Rattle.toml.proofs.Blanks.{skip_none, skip_newline}
use Rattle.toml.proofs.ReadValues.{read_items, key_equals-pair}
use Rattle.toml.proofs.ReadLines.{run, AllPrinted, read_lines}
use Rattle.toml.proofs.Fill.{roots, body_from, run_sections}
use Rattle.toml.proofs.Filled.{fill_filled}
use Rattle.link_net.specs.declared.field_set.FieldSet.{FieldSet}
use Rattle.link_net.specs.Limits.{most_nodes, most_weight}
use Rattle.link_net.specs.Links.{AllWithin}
use Rattle.link_net.specs.Names.{AreRising}
use Rattle.net_text.specs.Listing.{Link}
use Rattle.net_text.specs.Written.{link_data, weight_items, pair_data, sets_members, set_part, AllWeights, rest_document, network_document, weight_text, link_text, link_lines, links_text}
use Rattle.net_text.proofs.ReadBack.{links_depth, pairs_depth}

-- ---- the links

small_fits : (k : ℕ) → k ≤ most_weight → FitsSigned w64 (pos k)
small_fits k low = omega arith

weight_is : (w : ℕ) → w ≤ most_weight → IsItemsText false false false (weight_items w) (weight_text w ++ codes "]")
weight_is w low =
    elim (cases_Bool (w == 1)) [
      | inl one ↦ rw one refl
      | inr other ↦ rw other (decimal w, codes "]", refl, (refl, small_fits w low), refl)
    ]

link_is : (l : Link) → l.0 ≤ most_weight → l.1 ≤ most_weight → l.2 ≤ most_weight → IsValueText false (link_data l) (link_text l)
link_is l a b c = (
  decimal l.0 ++ (codes ", " ++ (decimal l.1 ++ (weight_text l.2 ++ codes "]"))),
  refl,
  (
    decimal l.0,
    codes ", " ++ (decimal l.1 ++ (weight_text l.2 ++ codes "]")),
    refl,
    (refl, small_fits l.0 a),
    (decimal l.1, weight_text l.2 ++ codes "]", refl, (refl, small_fits l.1 b), weight_is l.2 c),
  ),
)

lines_are : (n : ℕ) (is_first : Bool) (ls : List Link) → n ≤ most_nodes → AllWithin n ls → AllWeights ls
    → IsItemsText false true is_first (items_of (map link_data ls)) (link_lines ls ++ codes "\n]")
lines_are n is_first [] small within words = refl
lines_are n is_first (l ∷ ls) small within words = (
  link_text l,
  link_lines ls ++ codes "\n]",
  simp append_assoc refl,
  link_is l (omega (arith, within.0.0)) (omega (arith, within.0.1)) words.0,
  lines_are n false ls small within.1 words.1,
)

links_valid : (ls : List Link) → items_have_valid_dates (items_of (map link_data ls)) ≡ true
links_valid [] = refl
links_valid (l ∷ ls) =
    elim (cases_Bool (l.2 == 1)) [
      | inl one ↦ rw one (links_valid ls)
      | inr other ↦ rw other (links_valid ls)
    ]

links_sorted : (ls : List Link) → items_are_sorted (items_of (map link_data ls)) ≡ true
links_sorted [] = refl
links_sorted (l ∷ ls) =
    elim (cases_Bool (l.2 == 1)) [
      | inl one ↦ rw one (links_sorted ls)
      | inr other ↦ rw other (links_sorted ls)
    ]

no_section : (ls : List Link) → is_section (array (items_of (map link_data ls))) ≡ false
no_section [] = refl
no_section (l ∷ ls) = refl

no_sections : (key : List (List ℕ) × List ℕ) (ls : List Link) → section key (array (items_of (map link_data ls))) ≡ []
no_sections key [] = refl
no_sections key (l ∷ ls) = refl

-- ---- the field sets

pairs_sorted : (ps : List (ℤ × ℤ)) → items_are_sorted (items_of (map pair_data ps)) ≡ true
pairs_sorted [] = refl
pairs_sorted (p ∷ ps) = pairs_sorted ps

pairs_valid : (ps : List (ℤ × ℤ)) → items_have_valid_dates (items_of (map pair_data ps)) ≡ true
pairs_valid [] = refl
pairs_valid (p ∷ ps) = pairs_valid ps

no_pair_section : (ps : List (ℤ × ℤ)) → is_section (array (items_of (map pair_data ps))) ≡ false
no_pair_section [] = refl
no_pair_section (p ∷ ps) = refl

no_pair_sections : (key : List (List ℕ) × List ℕ) (ps : List (ℤ × ℤ)) → section key (array (items_of (map pair_data ps))) ≡ []
no_pair_sections key [] = refl
no_pair_sections key (p ∷ ps) = refl

before_next : (s : FieldSet) (ss : List FieldSet) → AreRising (s ∷ ss) → is_before s.name (sets_members ss) ≡ true
unfolding IsStrictlySortedBy
before_next s [] rise = refl
before_next s (t ∷ ss) rise = rw rise.0.0 refl

sets_sorted : (ss : List FieldSet) → AreRising ss → members_are_sorted (sets_members ss) ≡ true
unfolding IsStrictlySortedBy
sets_sorted [] rise = refl
sets_sorted (s ∷ ss) rise = rw (before_next s ss rise, pairs_sorted s.pairs, sets_sorted ss rise.1) refl

sets_printed : (ss : List FieldSet) → AllPrinted (pairs (sets_members ss))
sets_printed [] = tt
sets_printed (s ∷ ss) =
    rw (no_pair_section s.pairs) ((refl, omega (arith, pairs_depth s.pairs), pairs_valid s.pairs), sets_printed ss)

no_set_sections : (path : List (List ℕ)) (ss : List FieldSet) → sections path (sets_members ss) ≡ []
no_set_sections path [] = refl
no_set_sections path (s ∷ ss) = rw (no_pair_sections (path, s.name) s.pairs, no_set_sections path ss) refl

all_of : (es : List Expression) → es ++ [] ≡ es
all_of [] = refl
all_of (e ∷ es) = ap (λ t. e ∷ t) (all_of es)

part_printed : (ss : List FieldSet) → AllPrinted (sections [] (set_part ss))
part_printed [] = tt
part_printed (s ∷ ss) =
    rw (no_pair_section s.pairs, no_pair_sections (codes "set" ∷ [], s.name) s.pairs, no_set_sections (codes "set" ∷ []) ss, all_of (pairs (sets_members ss)), all_of (pairs (sets_members ss)))
    (omega arith, ((refl, omega (arith, pairs_depth s.pairs), pairs_valid s.pairs), sets_printed ss))

part_pairs : (ss : List FieldSet) → pairs (set_part ss) ≡ []
part_pairs [] = refl
part_pairs (s ∷ ss) = refl

rest_printed : (n phase : ℕ) (ss : List FieldSet) → AllPrinted (expressions (rest_document n phase ss))
rest_printed n phase ss = rw (part_pairs ss) ((refl, omega arith, refl), ((refl, omega arith, refl), part_printed ss))

part_sorted : (ss : List FieldSet) → AreRising ss → members_are_sorted (set_part ss) ≡ true
part_sorted [] rise = refl
part_sorted (s ∷ ss) rise = rw (sets_sorted (s ∷ ss) rise) refl

part_after : (ss : List FieldSet) → is_before (codes "phase") (set_part ss) ≡ true
part_after [] = refl
part_after (s ∷ ss) = refl

-- ---- the document

from_roots : (o : Option Document) (m : Nodes) → roots o ≡ Some m → (doc : Document) × (o ≡ Some doc) × (doc.0 ≡ m)
from_roots None m e = absurd (none-some m e)
from_roots (Some doc) m e = (doc, refl, same_Some doc.0 m e)

not_marked : (text : List ℕ) → (first text == 239) ≡ false → lines (suc (length text)) (no_nodes, []) (skip_bom text) ≡ lines (suc (length text)) (no_nodes, []) text
unfolding skip_bom
not_marked text h = rw h refl

module _ (n : ℕ) (ls : List Link) (phase : ℕ) (sets : List FieldSet) (small : n ≤ most_nodes) (within : AllWithin n ls) (words : AllWeights ls) (rise : AreRising sets) where
  document_sorted : members_are_sorted (network_document n ls phase sets) ≡ true
  document_sorted = rw (links_sorted ls, part_after sets, part_sorted sets rise) refl

  read_array : (rest : List ℕ) → val 80 (91 ∷ ((link_lines ls ++ codes "\n]") ++ rest)) ≡ Some (array (items_of (map link_data ls)), rest)
  read_array rest =
      let t = (link_lines ls ++ codes "\n]") ++ rest in
      val_array 79 (91 ∷ t) refl
      ∙ rw (read_items false true true (items_of (map link_data ls)) 79 (link_lines ls ++ codes "\n]") rest t no_items (length (91 ∷ t)) (lines_are n true ls small within words) (omega (arith, links_depth ls)) (links_valid ls) refl (omega arith)) refl

  key_is : key_text (codes "links") ≡ codes "links"
  unfolding key_text
  key_is = refl

  read_line : (rest : List ℕ) → line (codes "links = [" ++ ((link_lines ls ++ codes "\n]") ++ 10 ∷ rest)) ≡ Some ((([], codes "links"), key_value (array (items_of (map link_data ls)))), 10 ∷ rest)
  unfolding line expression
  read_line rest =
      let value_at = 91 ∷ ((link_lines ls ++ codes "\n]") ++ 10 ∷ rest) in
      let key = rw key_is at (key_equals-pair (codes "links") value_at refl) in
      let pair = keyval_ok (val 80) (codes "links = " ++ value_at) value_at (10 ∷ rest) ([], codes "links") (array (items_of (map link_data ls))) key (read_array (10 ∷ rest)) in
      let ends : ends_line (skip_ws (10 ∷ rest)) ≡ true = rw (skip_ws_none (10 ∷ rest) refl) (grind (arith, nat_tests)) in
      rw (pair, ends) refl

  step : (m : ℕ) (text after : List ℕ) (e : Expression) (es : List Expression) (doc : Document) (defined : Option Document) → defined ≡ define doc e → 0 < m → (length (skip_blank text) == 0) ≡ false
      → line (skip_blank text) ≡ Some (e, after) → ((next : Document) → lines (m - 1) next after ≡ run next es) → lines m doc text ≡ option_and_then (λ next. run next es) defined
  step m text after e es doc None same some other read more = lines_refused m doc text e after some other read (sym same)
  step m text after e es doc (Some next) same some other read more = lines_more m doc next text e after some other read (sym same) ∙ more next

  pub parsed : (rest : List ℕ) → IsDocumentText false (rest_document n phase sets) rest → parse_document (links_text ls ++ rest) ≡ Some (network_document n ls phase sets)
  unfolding along_header
  parsed rest printed =
      let ms = network_document n ls phase sets in
      let text = codes "links = [" ++ ((link_lines ls ++ codes "\n]") ++ 10 ∷ rest) in
      let same : links_text ls ++ rest ≡ text = simp append_assoc refl in
      let e : Expression = (([], codes "links"), key_value (array (items_of (map link_data ls)))) in
      let es = expressions (rest_document n phase sets) in
      let at_start : skip_blank text ≡ text = skip_none text 108 refl refl in
      let read : lines (suc (length text)) (no_nodes, []) text ≡ run (no_nodes, []) (e ∷ es) =
      step (suc (length text)) text (10 ∷ rest) e es (no_nodes, []) (define (no_nodes, []) e) refl (omega arith) (rw at_start (grind (arith, nat_tests))) (rw at_start (read_line rest))
      (λ next. read_lines false true es rest (10 ∷ rest) next (suc (length text) - 1) printed (rest_printed n phase sets) (skip_newline rest) (omega (arith, length-append (link_lines ls ++ codes "\n]") (10 ∷ rest)))) in
      let all : expressions ms ≡ e ∷ es = rw (no_section ls, no_sections ([], codes "links") ls) refl in
      let (nodes, filled, closed) = fill_filled ms document_sorted in
      let body = body_from ms [] no_nodes refl (λ root s there. run_sections ms [] root s there) in
      let (doc, ran, is) = from_roots (run (no_nodes, []) (expressions ms)) nodes (body ∙ filled) in
      rw same (document_some text doc (not_marked text refl ∙ read ∙ ap (λ parts. run (no_nodes, []) parts) (sym all) ∙ ran) ∙ rw (is, closed) refl)
