-- Nodes and links that are read one after another.
use Rattle.std.proofs.Common.{◌≡◌, ℕ, ◌+◌, List, [], ◌∷◌, ◌++◌, map, Option, Result, Ok, Err, refl, sym, ap, ◌∙◌, append_assoc, append-nil}
use Rattle.serde_json.specs.View.{view}
use Rattle.serde_json.specs.declared.value.Value.{Value}
use Rattle.import_links.specs.declared.placed.PlacedLink.{PlacedLink}
use Rattle.import_formats.specs.declared.json.fault.JsonFault.{JsonFault}
use Rattle.import_formats.specs.declared.json.fault.LinkList.{LinkList}
use Rattle.import_formats.specs.json.Graphs.{and_then, with_node, names_from, link_in, links_from}

-- one node more
pub names_more : (most k : ℕ) (names more : List (List ℕ)) (v : Value) (vs rest : List Value) → vs ≡ v ∷ rest → with_node most k names (view v) ≡ Ok more → names_from most (k + 1) more (map view rest) ≡ names_from most k names (map view vs)
names_more most k names more v vs rest shape is = rw (shape, is) refl

-- the links so far before those that are left
abbrev pub with_front : List PlacedLink → Result (List PlacedLink) JsonFault → Result (List PlacedLink) JsonFault
with_front front read = and_then read (λ ls. Ok (front ++ ls))

front_more : (front : List PlacedLink) (l : PlacedLink) (read : Result (List PlacedLink) JsonFault) → with_front (front ++ l ∷ []) read ≡ with_front front (and_then read (λ ls. Ok (l ∷ ls)))
front_more front l (Ok ls) = ap Ok (append_assoc front (l ∷ []) ls)
front_more front l (Err fault) = refl

module _ (names : List (List ℕ)) (factor : Option ℕ) (list : LinkList) where
  -- one link more
  pub links_more : (k : ℕ) (front later : List PlacedLink) (l : PlacedLink) (v : Value) (vs rest : List Value) → later ≡ front ++ l ∷ [] → vs ≡ v ∷ rest → link_in names factor list k (view v) ≡ Ok l
      → with_front later (links_from names factor list (k + 1) (map view rest)) ≡ with_front front (links_from names factor list k (map view vs))
  links_more k front later l v vs rest is shape said = rw (is, shape, said) (front_more front l (links_from names factor list (k + 1) (map view rest)))

  -- no link is left
  pub links_all : (k : ℕ) (front : List PlacedLink) (vs : List Value) (defined : Result (List PlacedLink) JsonFault) → vs ≡ [] → with_front front (links_from names factor list k (map view vs)) ≡ defined → defined ≡ Ok front
  links_all k front vs defined none is = sym (rw none at is) ∙ ap Ok (append-nil front)

  -- the first link that is bad
  pub links_stop : (k : ℕ) (front : List PlacedLink) (fault : JsonFault) (v : Value) (vs rest : List Value) (defined : Result (List PlacedLink) JsonFault) → vs ≡ v ∷ rest → link_in names factor list k (view v) ≡ Err fault
      → with_front front (links_from names factor list k (map view vs)) ≡ defined → defined ≡ Err fault
  links_stop k front fault v vs rest defined shape said is = sym (rw (shape, said) at is)
