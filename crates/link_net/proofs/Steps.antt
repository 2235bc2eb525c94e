-- Steps of the readers of a document.
use Rattle.std.proofs.Common.{◌≡◌, ◌≢◌, ◌∙◌, Ok, Err, Result, ℕ, ℤ, pos, ◌+◌, ◌<◌, ◌≤◌, List, [], ◌∷◌, ◌++◌, length, get_or, drop, Option, Some, None, option_map, refl, sym, ap, append_assoc, append-nil, arith}
use Rattle.std.proofs.lemmas.List.{drop_more, drop_all}
use Rattle.std.specs.Prelude.{option_and_then}
use Rattle.std.specs.Option.{ok_or}
use Rattle.toml.specs.Data.{Data, Items, no_items, item, Members, member, as_array, as_integer}
use Rattle.toml.specs.View.{view, items_view}
use Rattle.toml.specs.declared.value.Value.{Value}
use Rattle.link_net.specs.declared.field_set.FieldSet.{FieldSet}
use Rattle.link_net.specs.Document.{pair_in, pairs_of, link_in, sets_of}

-- an array whose items are read one by one, each before those after it
module _ {A : Type 0} (read : Data → Option A) (all : Items → Option (List A)) (none : all no_items ≡ Some []) (more : (d : Data) (ds : Items) → all (item d ds) ≡ option_and_then (λ x. option_map (λ xs. x ∷ xs) (all ds)) (read d)) where
  -- the values before this place are read to the list
  abbrev pub AreRead : List Value → ℕ → List A → Type 0
  AreRead vs i done = all (items_view vs) ≡ option_map (λ xs. done ++ xs) (all (items_view (drop i vs)))

  module _ (vs : List Value) (i : ℕ) (v : Value) (done : List A) (inside : i < length vs) (is : v ≡ get_or vs i v) (before : AreRead vs i done) where
    from_here : all (items_view vs) ≡ option_map (λ xs. done ++ xs) (option_and_then (λ x. option_map (λ xs. x ∷ xs) (all (items_view (drop (i + 1) vs)))) (read (view v)))
    from_here =
        before
        ∙ ap (λ rest. option_map (λ xs. done ++ xs) (all (items_view rest))) (drop_more vs i v inside)
        ∙ ap (λ x. option_map (λ xs. done ++ xs) (all (item (view x) (items_view (drop (i + 1) vs))))) (sym is)
        ∙ ap (option_map (λ xs. done ++ xs)) (more (view v) (items_view (drop (i + 1) vs)))

    pub one_unread : None ≡ read (view v) → all (items_view vs) ≡ None
    one_unread h = rw (← h) at from_here

    pub one_read : (x : A) → Some x ≡ read (view v) → AreRead vs (i + 1) (done ++ x ∷ [])
    one_read x h = at (all (items_view (drop (i + 1) vs))) (rw (← h) at from_here) where
      at : (rest : Option (List A)) → all (items_view vs) ≡ option_map (λ xs. done ++ xs) (option_map (λ xs. x ∷ xs) rest) → all (items_view vs) ≡ option_map (λ xs. (done ++ x ∷ []) ++ xs) rest
      at None e = e
      at (Some xs) e = rw append_assoc e

  pub all_read : (vs : List Value) (i : ℕ) (done : List A) → length vs ≤ i → AreRead vs i done → all (items_view vs) ≡ Some done
  all_read vs i done past before =
      before ∙ ap (λ rest. option_map (λ xs. done ++ xs) (all (items_view rest))) (drop_all i vs past) ∙ ap (option_map (λ xs. done ++ xs)) none ∙ ap Some (append-nil done)

-- a list of another length is no pair
pub pair_in-other : (vs : List Value) → length vs ≢ 2 → pair_in (items_view vs) ≡ None
pair_in-other [] h = refl
pair_in-other (a ∷ []) h = refl
pair_in-other (a ∷ b ∷ []) h = absurd (h refl)
pair_in-other (a ∷ b ∷ c ∷ vs) h = refl

-- a list of another length is no link
pub link_in-other : (vs : List Value) → length vs ≢ 2 → length vs ≢ 3 → link_in (items_view vs) ≡ None
link_in-other [] two three = refl
link_in-other (a ∷ []) two three = refl
link_in-other (a ∷ b ∷ []) two three = absurd (two refl)
link_in-other (a ∷ b ∷ c ∷ []) two three = absurd (three refl)
link_in-other (a ∷ b ∷ c ∷ d ∷ vs) two three = refl

-- two values are a link of weight 1, where both are integers
pub link_in-two : (vs : List Value) (a b : Value) → length vs ≡ 2 → a ≡ get_or vs 0 a → b ≡ get_or vs 1 b
    → link_in (items_view vs) ≡ option_and_then (λ x. option_map (λ y. (x, y, pos 1)) (as_integer (view b))) (as_integer (view a))
link_in-two [] a b two first second = cc
link_in-two (v ∷ []) a b two first second = cc
link_in-two (v ∷ w ∷ []) a b two first second = rw (first, second) refl
link_in-two (v ∷ w ∷ x ∷ vs) a b two first second = absurd (omega arith)

-- one more set read
pub sets_of-step : (all : Option (List FieldSet)) (done : List FieldSet) (key : List ℕ) (d : Data) (ms : Members) (ps : List (ℤ × ℤ)) → option_and_then pairs_of (as_array d) ≡ Some ps
    → all ≡ option_map (λ more. done ++ more) (sets_of (member key d ms)) → all ≡ option_map (λ more. (done ++ record { name = key; pairs = ps } ∷ []) ++ more) (sets_of ms)
sets_of-step all done key d ms ps is_set before = more (sets_of ms) (rw is_set at before) where
  more : (rest : Option (List FieldSet)) → all ≡ option_map (λ tail. done ++ tail) (option_map (λ tail. record { name = key; pairs = ps } ∷ tail) rest)
      → all ≡ option_map (λ tail. (done ++ record { name = key; pairs = ps } ∷ []) ++ tail) rest
  more None e = e
  more (Some tail) e = rw append_assoc e

pub some_from_ok_or : {A E : Type 0} (o : Option A) (e : E) (x : A) → ok_or o e ≡ Ok x → o ≡ Some x
some_from_ok_or None e x h = cc
some_from_ok_or (Some y) e x h = cc

pub same_Ok : {A E : Type 0} (x y : A) → ◌≡◌ {A = Result A E} (Ok x) (Ok y) → x ≡ y
same_Ok x y h = cc

pub none_from_ok_or : {A E : Type 0} (o : Option A) (e fault : E) → ◌≡◌ {A = Result A E} (Err fault) (ok_or o e) → (o ≡ None) × (fault ≡ e)
none_from_ok_or None e fault h = (refl, cc)
none_from_ok_or (Some x) e fault h = cc
