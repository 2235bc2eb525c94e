-- The items before a place and those from it on, counted.
use Rattle.std.proofs.Common.{◌≡◌, ℕ, ◌+◌, ◌<◌, ◌≤◌, List, [], ◌∷◌, length, zero, suc, min, take, drop, get_or, refl, ap, ◌∙◌, arith, zero-add, length-append, String, Global}
use Rattle.std.proofs.lemmas.List.{drop_more}
use Rattle.rule_lang.specs.declared.tree.Expr.{Expr}
use Rattle.rule_lang.specs.declared.tree.Item.{Item}
use Rattle.rule_lang.specs.declared.tree.Item.TheVariants as item
use Rattle.rule_lang.specs.View.{tree_of, items_of}
use Rattle.rule_check.specs.Value.{parts}
use Rattle.rule_check.specs.WellFormed.{all_parts}
use Rattle.rule_check.specs.Items.{fields_of, nexts_of}
use Rattle.rule_check.specs.Table.{M}

-- how many field items, and how many aggregates, some items have
abbrev pub field_count : List Item → ℕ
field_count items = length (fields_of (items_of items))

abbrev pub part_count : List Item → ℕ
part_count items = length (all_parts (nexts_of (items_of items)))

fields_parted : (items : List Item) (k : ℕ) → length (fields_of (take k (items_of items))) + field_count (drop k items) ≡ field_count items
fields_parted items zero = zero-add (field_count items)
fields_parted [] (suc k) = refl
fields_parted (item.Field name value ∷ items) (suc k) = omega (arith, fields_parted items k)
fields_parted (item.Next name body ∷ items) (suc k) = fields_parted items k

parts_parted : (items : List Item) (k : ℕ) → length (all_parts (nexts_of (take k (items_of items)))) + part_count (drop k items) ≡ part_count items
parts_parted items zero = zero-add (part_count items)
parts_parted [] (suc k) = refl
parts_parted (item.Field name value ∷ items) (suc k) = parts_parted items k
parts_parted (item.Next name body ∷ items) (suc k) =
    omega (arith, parts_parted items k, length-append (parts (tree_of body)) (all_parts (nexts_of (take k (items_of items)))), length-append (parts (tree_of body)) (all_parts (nexts_of (items_of items))))

-- a ninth field item
pub record Ninth (items : List Item) (k : ℕ) : Type 0 where
  pub many : 8 < field_count items
  pub before : length (fields_of (take k (items_of items))) ≡ 8
  pub with : length (fields_of (take (k + 1) (items_of items))) ≡ 9

pub ninth : (items : List Item) (k : ℕ) (i : Item) (name : String Global) (value : ℕ) → k < length items → get_or items k i ≡ item.Field name value → 8 + field_count (drop k items) ≡ field_count items → Ninth items k
ninth items k i name value within is rest =
    let here : field_count (drop k items) ≡ suc (field_count (drop (k + 1) items)) =
    ap field_count (drop_more items k i within ∙ ap (λ x. x ∷ drop (k + 1) items) is) in
    let one = fields_parted items k in
    let two = fields_parted items (k + 1) in
    record { many = omega arith; before = omega arith; with = omega arith }

-- an item with the seventeenth aggregate
pub record Seventeenth (items : List Item) (k : ℕ) : Type 0 where
  pub many : 16 < part_count items
  pub before : length (all_parts (nexts_of (take k (items_of items)))) ≤ 16
  pub with : 16 < length (all_parts (nexts_of (take (k + 1) (items_of items))))

pub seventeenth : (items : List Item) (k : ℕ) (i : Item) (name : String Global) (body : Expr) (left : ℕ) → k < length items → get_or items k i ≡ item.Next name body → left ≤ 16 → part_count (drop k items) + 16 ≡ part_count items + left → left < min (length (parts (tree_of body))) M → Seventeenth items k
seventeenth items k i name body left within is few rest more =
    let here : part_count (drop k items) ≡ length (parts (tree_of body)) + part_count (drop (k + 1) items) =
    ap part_count (drop_more items k i within ∙ ap (λ x. x ∷ drop (k + 1) items) is)
    ∙ length-append (parts (tree_of body)) (all_parts (nexts_of (items_of (drop (k + 1) items)))) in
    let one = parts_parted items k in
    let two = parts_parted items (k + 1) in
    record { many = omega arith; before = omega arith; with = omega arith }
