-- Steps of the search for what is wrong with the shape of a document.
use Rattle.std.proofs.Common.{◌≡◌, ◌∙◌, ℕ, ◌+◌, suc, Bool, true, false, ◌||◌, List, [], ◌∷◌, ◌++◌, cond, Option, Some, None, option_map, is_some, is_none, string_bytes, Less, Greater, nat_cmp, refl, sym, ap, append_assoc, arith, ℤ}
use Rattle.std.specs.Prelude.{option_and_then}
use Rattle.std.specs.List.{list_any, position, position_from, AllByRecursion}
use Rattle.std.specs.List.Sorted.{IsStrictlySortedBy}
use Rattle.std.specs.Map.{keys_of}
use Rattle.std.specs.String.{string_cmp}
use Rattle.std.specs.Cmp.{tied_itself}
use Rattle.std.specs.Cmp.Lexicographic.{slice_cmp}
use Rattle.std.specs.Ordering.{ordering_reverse}
use Rattle.std.proofs.lemmas.Cmp.{nat_list_cmp_total}
use Rattle.std.proofs.lemmas.Iterator.Adapters.{position_from-zero}
use Rattle.toml.proofs.Views.{Entry}
use Rattle.toml.specs.Data.{Data, Items, no_items, item, Members, member, get_member, as_array}
use Rattle.toml.specs.View.{view, items_view, members_view}
use Rattle.toml.specs.declared.value.Value.{Value}
use Rattle.link_net.specs.declared.field_set.FieldSet.{FieldSet}
use Rattle.link_net.specs.Causes.{IsFirstUnread}
use Rattle.link_net.specs.Document.{pair_of, pairs_of, link_of, links_in, sets_of}

no_further : (i : ℕ) → i ≡ i + 0
no_further i = omega arith

further : (i k n : ℕ) → n ≡ (i + 1) + k → n ≡ i + suc k
further i k n h = omega arith

module _ {A : Type 0} (read : Data → Option A) where
  abbrev pub unread : Value → Bool
  unread v = is_none (read (view v))

  abbrev FirstFrom : ℕ → ℕ → List Value → Type 0
  FirstFrom i n vs = (k : ℕ) × (n ≡ i + k) × IsFirstUnread read k (items_view vs)

  is_read : (o : Option A) (x : A) → o ≡ Some x → is_some o ≡ true
  is_read o x h = rw h refl

  first_from : (vs : List Value) (i n : ℕ) → position_from unread i vs ≡ Some n → FirstFrom i n vs
  first_from [] i n h = cc
  first_from (v ∷ vs) i n h = at (read (view v)) refl (λ e. first_from vs (i + 1) n e) h where
    at : (o : Option A) → read (view v) ≡ o → (position_from unread (i + 1) vs ≡ Some n → FirstFrom (i + 1) n vs) → cond (is_none o) (Some i) (position_from unread (i + 1) vs) ≡ Some n → FirstFrom i n (v ∷ vs)
    at None is more e = let same : i ≡ n = cc in (0, sym same ∙ no_further i, is)
    at (Some x) is more e = let rest = more e in (suc rest.0, further i rest.0 n rest.1, (is_read (read (view v)) x is, rest.2))

  -- the first place at which a value is not read
  pub first_unread : (vs : List Value) (n : ℕ) → position unread vs ≡ Some n → IsFirstUnread read n (items_view vs)
  first_unread vs n h =
      let first = first_from vs 0 n (sym (position_from-zero unread vs) ∙ h) in
      let same : first.0 ≡ n = omega (arith, first.1) in
      rw same at first.2

  -- all are read where none is unread
  module _ (all : Items → Option (List A)) (none : all no_items ≡ Some []) (more : (d : Data) (ds : Items) → all (item d ds) ≡ option_and_then (λ x. option_map (λ xs. x ∷ xs) (all ds)) (read d)) where
    unread_all : (vs : List Value) → is_none (all (items_view vs)) ≡ list_any unread vs
    unread_all [] = rw none refl
    unread_all (v ∷ vs) = ap is_none (more (view v) (items_view vs)) ∙ at (read (view v)) (all (items_view vs)) (unread_all vs) where
      at : (o : Option A) (rest : Option (List A)) → is_none rest ≡ list_any unread vs → is_none (option_and_then (λ x. option_map (λ xs. x ∷ xs) rest) o) ≡ (is_none o || list_any unread vs)
      at None rest h = refl
      at (Some x) None h = h
      at (Some x) (Some xs) h = h

pub no_links : (vs : List Value) → is_none (links_in (items_view vs)) ≡ list_any (λ v. is_none (link_of (view v))) vs
no_links vs = unread_all link_of links_in refl (λ d ds. refl) vs

pub no_pairs : (vs : List Value) → is_none (pairs_of (items_view vs)) ≡ list_any (λ v. is_none (pair_of (view v))) vs
no_pairs vs = unread_all pair_of pairs_of refl (λ d ds. refl) vs

below_middle : (x : Entry) (done : List Entry) (e : Entry) (rest : List Entry) → AllByRecursion (λ y. string_cmp x.0 y ≡ Less) (keys_of (done ++ e ∷ rest)) → string_cmp x.0 e.0 ≡ Less
below_middle x [] e rest h = h.0
below_middle x (y ∷ done) e rest h = below_middle x done e rest h.1

-- the value at the key of an entry is that of the entry
found_between : (done : List Entry) (e : Entry) (rest : List Entry) → IsStrictlySortedBy string_cmp (keys_of (done ++ e ∷ rest)) → get_member (string_bytes e.0) (members_view (done ++ e ∷ rest)) ≡ Some (view e.1)
unfolding IsStrictlySortedBy
found_between [] e rest sorted = rw (tied_itself nat_list_cmp_total (string_bytes e.0)) refl
found_between (x ∷ done) e rest sorted =
    let above : slice_cmp nat_cmp (string_bytes e.0) (string_bytes x.0) ≡ Greater =
    nat_list_cmp_total.antisymm (string_bytes e.0) (string_bytes x.0) ∙ ap ordering_reverse (below_middle x done e rest sorted.0) in
    rw above (found_between done e rest sorted.1)

pub found_at : (entries done : List Entry) (e : Entry) (rest : List Entry) → entries ≡ done ++ e ∷ rest → IsStrictlySortedBy string_cmp (keys_of entries) → get_member (string_bytes e.0) (members_view entries) ≡ Some (view e.1)
found_at entries done e rest is sorted = rw is (found_between done e rest (rw is at sorted))

abbrev set_from : List ℕ → List (ℤ × ℤ) → FieldSet
set_from key ps = record { name = key; pairs = ps }

-- one more value that is read
pub sets_read : (key : List ℕ) (d : Data) (ms : Members) → is_none (option_and_then pairs_of (as_array d)) ≡ false → is_none (sets_of (member key d ms)) ≡ is_none (sets_of ms)
sets_read key d ms h = at (option_and_then pairs_of (as_array d)) (sets_of ms) h where
  at : (o : Option (List (ℤ × ℤ))) (rest : Option (List FieldSet)) → is_none o ≡ false
      → is_none (option_and_then (λ ps. option_map (λ sets. set_from key ps ∷ sets) rest) o) ≡ is_none rest
  at None rest e = cc
  at (Some ps) None e = refl
  at (Some ps) (Some sets) e = refl

-- one that is not
pub sets_unread : (key : List ℕ) (d : Data) (ms : Members) → is_none (option_and_then pairs_of (as_array d)) ≡ true → is_none (sets_of (member key d ms)) ≡ true
sets_unread key d ms h = at (option_and_then pairs_of (as_array d)) (sets_of ms) h where
  at : (o : Option (List (ℤ × ℤ))) (rest : Option (List FieldSet)) → is_none o ≡ true
      → is_none (option_and_then (λ ps. option_map (λ sets. set_from key ps ∷ sets) rest) o) ≡ true
  at None rest e = refl
  at (Some ps) rest e = cc

-- one more entry gone by
pub one_more : (entries done : List Entry) (e : Entry) (rest : List Entry) → entries ≡ done ++ e ∷ rest → entries ≡ (done ++ e ∷ []) ++ rest
one_more entries done e rest is = is ∙ sym (append_assoc done (e ∷ []) rest)
