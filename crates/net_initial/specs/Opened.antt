-- What openings make of the initial values of a network file.
use Rattle.std.specs.Prelude.{◌≡◌, ℕ, ℤ, pos, negsuc, ◌==◌, ◌&&◌, ◌||◌, not, Bool, true, false, List, [], ◌∷◌, fold, nat_lt, nat_le, Option, Some, None, option_map, if◌then◌else◌}
use Rattle.std.specs.List.{list_any, find, filter, filter_map, slice_get}
use Rattle.std.specs.Option.{option_or, unwrap_or}
use Rattle.std.specs.Str.{bytes_eq}
use Rattle.link_net.specs.declared.field_set.FieldSet.{FieldSet}
use Rattle.link_net.specs.Names.{AreRising}
use Rattle.link_net.specs.Neighbours.{numbers_below}
use Rattle.net_initial.specs.declared.opening.Chosen.{Chosen}
use Rattle.net_initial.specs.declared.opening.Opening.{Opening}
use Rattle.net_initial.specs.declared.opening.Values.{Values}

-- an integer from 0 on, below a bound
abbrev pub is_below : ℕ → ℤ → Bool
is_below bound (pos k) = nat_lt k bound
is_below bound (negsuc k) = false

-- the number that an integer from 0 on is
abbrev pub number_of : ℤ → ℕ
number_of (pos k) = k
number_of (negsuc k) = 0

-- the node of a pair
abbrev pub node_of : ℤ × ℤ → ℕ
node_of p = number_of p.0

-- the choice has the node
abbrev pub chooses : Chosen → ℕ → Bool
chooses Chosen.Every u = true
chooses (Chosen.One w) u = w == u
chooses (Chosen.Range first last) u = nat_le first u && nat_le u last
chooses (Chosen.These ws) u = list_any (λ w. w == u) ws.items

-- the value that the node gets, where it gets one
abbrev pub value_at : Values → ℕ → Option ℕ
value_at (Values.Same nodes value) u = if chooses nodes u then Some value else None
value_at (Values.Each values) u = slice_get values.items u

-- the pair is of a node below n and of a word
abbrev pub is_entry : ℕ → ℤ × ℤ → Bool
is_entry n p = is_below n p.0 && is_below 4294967296 p.1

-- one node stands in two pairs
abbrev pub has_node_twice : List (ℤ × ℤ) → Bool
has_node_twice [] = false
has_node_twice (p ∷ pairs) = list_any (λ q. node_of q == node_of p) pairs || has_node_twice pairs

-- what the pairs give to n nodes is not defined: a number is no node or no word, or one node stands twice
abbrev pub is_undefined : ℕ → List (ℤ × ℤ) → Bool
is_undefined n pairs = list_any (λ p. not (is_entry n p)) pairs || has_node_twice pairs

-- the value that the last pair of a node gives it
abbrev pub given : List (ℤ × ℤ) → ℕ → Option ℕ
given pairs u = fold (λ v p. if node_of p == u then Some (number_of p.1) else v) None pairs

-- the value that the last opening of the field gives the node, and where none gives it one the value at hand
abbrev pub opened_value : List Opening → List ℕ → ℕ → Option ℕ → Option ℕ
opened_value openings f u v = fold (λ v o. if bytes_eq o.field f then option_or (value_at o.values u) v else v) v openings

-- the sets that are left where those of some fields are cleared
abbrev pub kept_sets : List (List ℕ) → List FieldSet → List FieldSet
kept_sets cleared sets = filter (λ s. not (list_any (bytes_eq s.name) cleared)) sets

-- the set of a field, where there is one
abbrev pub set_at : List FieldSet → List ℕ → Option FieldSet
set_at sets f = find (λ s. bytes_eq s.name f) sets

-- the pairs of a field
abbrev pub pairs_at : List FieldSet → List ℕ → List (ℤ × ℤ)
pairs_at sets f = unwrap_or (option_map (λ s. s.pairs) (set_at sets f)) []

-- the pairs that show the values of n nodes, by rising number, where there is a value
abbrev pub shown_pairs : ℕ → (ℕ → Option ℕ) → List (ℤ × ℤ)
shown_pairs n value = filter_map (λ u. option_map (λ v. (pos u, pos v)) (value u)) (numbers_below n)

-- the set of a field, opened: for each of n nodes by rising number the value that the last opening of the field gives it, else the file's, and no pair where neither gives one
abbrev pub opened_set : ℕ → List FieldSet → List Opening → List ℕ → FieldSet
opened_set n sets openings f = record { name = f; pairs = shown_pairs n (λ u. opened_value openings f u (given (pairs_at sets f) u)) }

-- some opening is of the field
abbrev pub is_named : List Opening → List ℕ → Bool
is_named openings f = list_any (λ o. bytes_eq o.field f) openings

-- the set of a field once some of the openings are looked at: opened where one of them is of the field, else the file's
abbrev pub set_after : ℕ → List FieldSet → List Opening → List Opening → List ℕ → Option FieldSet
set_after n sets openings looked f = if is_named looked f then Some (opened_set n sets openings f) else set_at sets f

-- what the file gives to a field of an opening is not defined
abbrev pub has_undefined : ℕ → List FieldSet → List Opening → Bool
has_undefined n sets openings = list_any (λ o. is_undefined n (pairs_at sets o.field)) openings

-- the sets by rising names: opened where an opening is of the field, else those of the file
pub record AreOpened (n : ℕ) (sets : List FieldSet) (openings : List Opening) (opened : List FieldSet) : Type 0 where
  pub rising : AreRising opened
  pub named : (f : List ℕ) → is_named openings f ≡ true → set_at opened f ≡ Some (opened_set n sets openings f)
  pub kept : (f : List ℕ) → is_named openings f ≡ false → set_at opened f ≡ set_at sets f
