-- The loop that compares two lists of items.
use Rattle.std.proofs.Common.{◌≡◌, ℕ, ◌+◌, ◌<◌, List, [], ◌∷◌, ◌++◌, Some, refl, ap, ◌∙◌, take, length, get_or}
use Rattle.std.specs.List.{slice_get}
use Rattle.std.specs.Option.{option_map}
use Rattle.std.proofs.lemmas.List.{map_more}
use Rattle.std.proofs.lemmas.Option.{slice_get_read, slice_get-map}
use Rattle.rule_lang.specs.declared.tree.Item.{Item}
use Rattle.rule_lang.specs.View.{item_of, items_of}

-- one item more
pub more_same : (xs ys : List Item) (i : ℕ) (x y : Item) → i < length xs → i < length ys → x ≡ get_or xs i x → y ≡ get_or ys i y → items_of (take i xs) ≡ items_of (take i ys) → item_of x ≡ item_of y → items_of (take (i + 1) xs) ≡ items_of (take (i + 1) ys)
more_same xs ys i x y hx hy ex ey e f =
    let p : items_of (take (i + 1) xs) ≡ items_of (take i xs) ++ item_of x ∷ [] = rw (← ex) at (map_more item_of xs i x hx) in
    let q : items_of (take (i + 1) ys) ≡ items_of (take i ys) ++ item_of y ∷ [] = rw (← ey) at (map_more item_of ys i y hy) in
    cc

item_at : (xs : List Item) (i : ℕ) (x : Item) → i < length xs → x ≡ get_or xs i x → slice_get (items_of xs) i ≡ Some (item_of x)
item_at xs i x h e = slice_get-map item_of xs i ∙ ap (option_map item_of) (slice_get_read xs (length xs) i x refl h e)

-- equal lists have the same item at each place
pub each_same : (xs ys : List Item) (i : ℕ) (x y : Item) → i < length xs → i < length ys → x ≡ get_or xs i x → y ≡ get_or ys i y → items_of xs ≡ items_of ys → item_of x ≡ item_of y
each_same xs ys i x y hx hy ex ey e =
    let p = item_at xs i x hx ex in
    let q = item_at ys i y hy ey in
    let r : slice_get (items_of xs) i ≡ slice_get (items_of ys) i = ap (λ l. slice_get l i) e in
    cc
