-- Rules with one more are as much as they were and as it is.
use Rattle.std.proofs.Common.{◌≡◌, ◌≤◌, ◌<◌, ◌^◌, ◌-◌, ℕ, ◌+◌, length, List, [], ◌∷◌, ◌++◌, refl, sym, ap, ◌∙◌, subst, min, arith}
use Rattle.std.specs.Prelude.{nat_lt, true, false, Some, None}
use Rattle.std.proofs.lemmas.List.{length-append, map_push}
use Rattle.rule_lang.specs.declared.tree.Item.{Item}
use Rattle.rule_lang.specs.Tree.{ItemTree, FieldTree, NextTree}
use Rattle.rule_lang.specs.Canonical.{item_text, program_text}
use Rattle.rule_lang.specs.View.{item_of, items_of}
use Rattle.rule_check.specs.Table.{M}
use Rattle.rule_check.specs.Value.{parts}
use Rattle.rule_check.specs.Items.{nexts_of}
use Rattle.rule_check.specs.WellFormed.{all_parts}
use Rattle.model_rules.specs.declared.expansion.Expansion.{Expansion}
use Rattle.model_rules.specs.declared.fault.Cause.TheVariants as cause
use Rattle.model_rules.specs.Bounds.{size_cause}
use Rattle.model_rules.specs.Counts.{IsCounted}

parts_more : (items : List ItemTree) (item : ItemTree) → length (all_parts (nexts_of (items ++ item ∷ []))) ≡ length (all_parts (nexts_of items)) + length (all_parts (nexts_of (item ∷ [])))
parts_more [] item = omega arith
parts_more (FieldTree name v ∷ items) item = parts_more items item
parts_more (NextTree name body ∷ items) item =
    let a = length-append (parts body) (all_parts (nexts_of (items ++ item ∷ []))) in
    let b = length-append (parts body) (all_parts (nexts_of items)) in
    let e = parts_more items item in
    omega arith

text_more : (items : List ItemTree) (item : ItemTree) → length (program_text (items ++ item ∷ [])) ≡ length (program_text items) + length (item_text item)
text_more [] item = let a = length-append (item_text item) [] in omega arith
text_more (i ∷ items) item =
    let a = length-append (item_text i) (program_text (items ++ item ∷ [])) in
    let b = length-append (item_text i) (program_text items) in
    let e = text_more items item in
    omega arith

-- numbers that were cut and are small were not cut
small_sum : (a b new k m : ℕ) → k ≤ 65536 → 65536 < m → new ≡ min (a + min b m) m → new ≤ k → new ≡ a + b
small_sum a b new k m h g e l = omega arith

pub counted_more : (old new : Expansion) (rule : Item) → new.rules.items ≡ old.rules.items ++ rule ∷ [] → new.aggregates ≡ min (old.aggregates + min (length (all_parts (nexts_of (item_of rule ∷ [])))) M) M → new.aggregates ≤ 16 → new.bytes ≡ min (old.bytes + min (length (item_text (item_of rule))) (2 ^ 64 - 1)) (2 ^ 64 - 1) → new.bytes ≤ 65536 → IsCounted old → IsCounted new
counted_more old new rule i a few b short h =
    let items : items_of new.rules.items ≡ items_of old.rules.items ++ item_of rule ∷ [] = ap items_of i ∙ map_push item_of old.rules.items rule in
    let p : length (all_parts (nexts_of (items_of new.rules.items))) ≡ length (all_parts (nexts_of (items_of old.rules.items))) + length (all_parts (nexts_of (item_of rule ∷ []))) =
    ap (λ (xs : List ItemTree). length (all_parts (nexts_of xs))) items ∙ parts_more (items_of old.rules.items) (item_of rule) in
    let t : length (program_text (items_of new.rules.items)) ≡ length (program_text (items_of old.rules.items)) + length (item_text (item_of rule)) =
    ap (λ (xs : List ItemTree). length (program_text xs)) items ∙ text_more (items_of old.rules.items) (item_of rule) in
    let c : new.aggregates ≡ length (all_parts (nexts_of (items_of new.rules.items))) =
    small_sum old.aggregates (length (all_parts (nexts_of (item_of rule ∷ [])))) new.aggregates 16 M (omega arith) (omega arith) a few ∙ (ap (λ k. k + length (all_parts (nexts_of (item_of rule ∷ [])))) h.aggregates ∙ sym p) in
    let d : new.bytes ≡ length (program_text (items_of new.rules.items)) =
    small_sum old.bytes (length (item_text (item_of rule))) new.bytes 65536 (2 ^ 64 - 1) (omega arith) (omega arith) b short ∙ (ap (λ k. k + length (item_text (item_of rule))) h.bytes ∙ sym t) in
    record {
      aggregates = c;
      bytes = d;
      within = record { few_aggregates = subst (λ k. k ≤ 16) c few; short = subst (λ k. k ≤ 65536) d short };
    }

-- a sum that was cut is above a bound where the sum is
past_sum : (a b new k m : ℕ) → new ≡ min (a + min b m) m → k < new → k < a + b
past_sum a b new k m e l = omega arith

is_less : (a b : ℕ) → a < b → nat_lt a b ≡ true
is_less a b h = grind arith

is_not_less : (a b : ℕ) → b ≤ a → nat_lt a b ≡ false
is_not_less a b h = grind arith

-- with one rule more there are more aggregates than a program may have, or more bytes, or neither
pub too_many : (old : Expansion) (rule : Item) (new : ℕ) → new ≡ min (old.aggregates + min (length (all_parts (nexts_of (item_of rule ∷ [])))) M) M → 16 < new → IsCounted old
    → size_cause (items_of old.rules.items ++ item_of rule ∷ []) ≡ Some cause.TooManyAggregates
too_many old rule new a many h =
    let own = length (all_parts (nexts_of (item_of rule ∷ []))) in
    let p = parts_more (items_of old.rules.items) (item_of rule) in
    let n : 16 < old.aggregates + own = past_sum old.aggregates own new 16 M a many in
    let q = h.aggregates in
    let l : nat_lt 16 (length (all_parts (nexts_of (items_of old.rules.items ++ item_of rule ∷ [])))) ≡ true = is_less 16 _ (omega arith) in
    rw l refl

pub too_long : (old : Expansion) (rule : Item) (new bytes : ℕ) → new ≡ min (old.aggregates + min (length (all_parts (nexts_of (item_of rule ∷ [])))) M) M → new ≤ 16 → bytes ≡ min (old.bytes + min (length (item_text (item_of rule))) (2 ^ 64 - 1)) (2 ^ 64 - 1) → 65536 < bytes → IsCounted old
    → size_cause (items_of old.rules.items ++ item_of rule ∷ []) ≡ Some cause.TooLong
too_long old rule new bytes a few b long h =
    let own = length (all_parts (nexts_of (item_of rule ∷ []))) in
    let text = length (item_text (item_of rule)) in
    let p = parts_more (items_of old.rules.items) (item_of rule) in
    let t = text_more (items_of old.rules.items) (item_of rule) in
    let s : new ≡ old.aggregates + own = small_sum old.aggregates own new 16 M (omega arith) (omega arith) a few in
    let n : 65536 < old.bytes + text = past_sum old.bytes text bytes 65536 (2 ^ 64 - 1) b long in
    let q = h.aggregates in
    let r = h.bytes in
    let l : nat_lt 16 (length (all_parts (nexts_of (items_of old.rules.items ++ item_of rule ∷ [])))) ≡ false = is_not_less 16 _ (omega arith) in
    let g : nat_lt 65536 (length (program_text (items_of old.rules.items ++ item_of rule ∷ []))) ≡ true = is_less 65536 _ (omega arith) in
    rw (l, g) refl

pub in_size : (old : Expansion) (rule : Item) (new bytes : ℕ) → new ≡ min (old.aggregates + min (length (all_parts (nexts_of (item_of rule ∷ [])))) M) M → new ≤ 16 → bytes ≡ min (old.bytes + min (length (item_text (item_of rule))) (2 ^ 64 - 1)) (2 ^ 64 - 1) → bytes ≤ 65536 → IsCounted old
    → size_cause (items_of old.rules.items ++ item_of rule ∷ []) ≡ None
in_size old rule new bytes a few b short h =
    let own = length (all_parts (nexts_of (item_of rule ∷ []))) in
    let text = length (item_text (item_of rule)) in
    let p = parts_more (items_of old.rules.items) (item_of rule) in
    let t = text_more (items_of old.rules.items) (item_of rule) in
    let s : new ≡ old.aggregates + own = small_sum old.aggregates own new 16 M (omega arith) (omega arith) a few in
    let n : bytes ≡ old.bytes + text = small_sum old.bytes text bytes 65536 (2 ^ 64 - 1) (omega arith) (omega arith) b short in
    let q = h.aggregates in
    let r = h.bytes in
    let l : nat_lt 16 (length (all_parts (nexts_of (items_of old.rules.items ++ item_of rule ∷ [])))) ≡ false = is_not_less 16 _ (omega arith) in
    let g : nat_lt 65536 (length (program_text (items_of old.rules.items ++ item_of rule ∷ []))) ≡ false = is_not_less 65536 _ (omega arith) in
    rw (l, g) refl
