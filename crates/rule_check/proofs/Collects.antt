-- Turns of the loops that collect code: what the item at a place adds to that of the items after it.
use Rattle.std.proofs.Common.{◌≡◌, ◌∙◌, ℕ, ◌+◌, ◌<◌, List, [], ◌∷◌, ◌++◌, length, get_or, drop, map, string_bytes, refl, sym, ap, append_assoc, String, Global}
use Rattle.std.proofs.lemmas.List.{drop_more, map-append}
use Rattle.rule_lang.specs.declared.tree.Agg.{Agg}
use Rattle.rule_lang.specs.declared.tree.Expr.{Expr}
use Rattle.rule_lang.specs.declared.tree.Item.{Item}
use Rattle.rule_lang.specs.declared.tree.Item.TheVariants as item
use Rattle.rule_lang.specs.View.{tree_of, items_of}
use Rattle.rule_check.specs.declared.code.Instr.{Instr}
use Rattle.rule_check.specs.declared.parts.Gatherer.{Gatherer}
use Rattle.rule_check.specs.declared.parts.Rule.{Rule}
use Rattle.rule_check.specs.Compiled.{rule_code, part_code}
use Rattle.rule_check.specs.Gathering.{numbered}
use Rattle.rule_check.specs.Items.{fields_of, nexts_of}
use Rattle.rule_check.specs.Shapes.{rule_shape, part_shape}
use Rattle.rule_check.specs.Value.{Next, parts}
use Rattle.rule_check.specs.WellFormed.{all_parts}

module _ (items : List Item) (k : ℕ) (i : Item) (within : k < length items) (here : i ≡ get_or items k i) where
  begins : drop k items ≡ i ∷ drop (k + 1) items
  begins = drop_more items k i within ∙ ap (λ x. x ∷ drop (k + 1) items) (sym here)

  pub field_begins : (name : String Global) (value : ℕ) → i ≡ item.Field name value
      → fields_of (items_of (drop k items)) ≡ record { name = string_bytes name; opening = value } ∷ fields_of (items_of (drop (k + 1) items))
  field_begins name value is = ap (λ xs. fields_of (items_of xs)) (begins ∙ ap (λ x. x ∷ drop (k + 1) items) is)

  pub next_begins : (name : String Global) (body : Expr) → i ≡ item.Next name body
      → nexts_of (items_of (drop k items)) ≡ record { name = string_bytes name; body = tree_of body } ∷ nexts_of (items_of (drop (k + 1) items))
  next_begins name body is = ap (λ xs. nexts_of (items_of xs)) (begins ∙ ap (λ x. x ∷ drop (k + 1) items) is)

  -- an item of the other kind adds nothing
  pub no_field_begins : ((name : String Global) (value : ℕ) → i ≡ item.Field name value → ⊥) → fields_of (items_of (drop k items)) ≡ fields_of (items_of (drop (k + 1) items))
  no_field_begins other = ap (λ xs. fields_of (items_of xs)) begins ∙ at i other where
    at : (x : Item) → ((name : String Global) (value : ℕ) → x ≡ item.Field name value → ⊥) → fields_of (items_of (x ∷ drop (k + 1) items)) ≡ fields_of (items_of (drop (k + 1) items))
    at (item.Field name value) none = absurd (none name value refl)
    at (item.Next name body) none = refl

  pub no_next_begins : ((name : String Global) (body : Expr) → i ≡ item.Next name body → ⊥) → nexts_of (items_of (drop k items)) ≡ nexts_of (items_of (drop (k + 1) items))
  no_next_begins other = ap (λ xs. nexts_of (items_of xs)) begins ∙ at i other where
    at : (x : Item) → ((name : String Global) (body : Expr) → x ≡ item.Next name body → ⊥) → nexts_of (items_of (x ∷ drop (k + 1) items)) ≡ nexts_of (items_of (drop (k + 1) items))
    at (item.Field name value) none = refl
    at (item.Next name body) none = absurd (none name body refl)

-- the code of one more next item's aggregates
pub parts_turn : (names : List (List ℕ)) (done more : List Gatherer) (n : Next) (ns : List Next) (all : List (Agg × List Instr))
    → map part_shape more ≡ map part_shape done ++ map (part_code names) (parts n.body)
    → map part_shape done ++ map (part_code names) (all_parts (n ∷ ns)) ≡ all → map part_shape more ++ map (part_code names) (all_parts ns) ≡ all
parts_turn names done more n ns all made before =
    ap (λ gs. gs ++ map (part_code names) (all_parts ns)) made
    ∙ append_assoc (map part_shape done) (map (part_code names) (parts n.body)) (map (part_code names) (all_parts ns))
    ∙ ap (λ gs. map part_shape done ++ gs) (sym (map-append (part_code names) (parts n.body) (all_parts ns)))
    ∙ before

-- the code of one more next item
pub rules_turn : (names : List (List ℕ)) (done : List Rule) (r : Rule) (first : ℕ) (n : Next) (ns : List Next) (all : List (ℕ × List Instr))
    → rule_shape r ≡ rule_code names (record { name = n.name; body = n.body; first = first })
    → map rule_shape done ++ map (rule_code names) (numbered first (n ∷ ns)) ≡ all
    → map rule_shape (done ++ r ∷ []) ++ map (rule_code names) (numbered (first + length (parts n.body)) ns) ≡ all
rules_turn names done r first n ns all made before =
    let rest : List (ℕ × List Instr) = map (rule_code names) (numbered (first + length (parts n.body)) ns) in
    ap (λ rs. rs ++ rest) (map-append rule_shape done (r ∷ []))
    ∙ append_assoc (map rule_shape done) (rule_shape r ∷ []) rest
    ∙ ap (λ x. map rule_shape done ++ x ∷ rest) made
    ∙ before
