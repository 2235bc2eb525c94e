-- The document that a network is written as.
use Rattle.std.specs.Prelude.{◌==◌, ◌≤◌, ℕ, ℤ, pos, List, [], ◌∷◌, ◌++◌, map, codes, if◌then◌else◌}
use Rattle.std.specs.Fmt.{decimal}
use Rattle.std.specs.Ordering.{nat_cmp, match_ordering}
use Rattle.std.specs.Cmp.Lexicographic.{slice_cmp}
use Rattle.std.specs.List.{AllByRecursion}
use Rattle.link_net.specs.Limits.{most_weight}
use Rattle.toml.specs.Data.{Data, integer, array, table, Items, no_items, item, Members, no_members, member}
use Rattle.link_net.specs.declared.field_set.FieldSet.{FieldSet}
use Rattle.toml.specs.View.{items_of}
use Rattle.net_text.specs.Listing.{Link}

-- the weight of a link, which is left out where it is 1
abbrev pub weight_items : ℕ → Items
weight_items w = if w == 1 then no_items else item (integer (pos w)) no_items

-- each weight is one
abbrev pub AllWeights : List Link → Type 0
AllWeights ls = AllByRecursion (λ l. l.2 ≤ most_weight) ls

-- a link as an array
abbrev pub link_data : Link → Data
link_data l = array (item (integer (pos l.0)) (item (integer (pos l.1)) (weight_items l.2)))

-- the members with the value at the key
abbrev pub put_member : List ℕ → Data → Members → Members
put_member k d no_members = member k d no_members
put_member k d (member l e ms) = match_ordering (slice_cmp nat_cmp k l) (member k d (member l e ms)) (member l d ms) (member l e (put_member k d ms))

-- a pair as an array
abbrev pub pair_data : ℤ × ℤ → Data
pair_data p = array (item (integer p.0) (item (integer p.1) no_items))

-- field sets as members
abbrev pub sets_members : List FieldSet → Members
sets_members [] = no_members
sets_members (s ∷ ss) = member s.name (array (items_of (map pair_data s.pairs))) (sets_members ss)

-- the key `set`, which is left out where there is nothing to say
abbrev pub set_part : List FieldSet → Members
set_part [] = no_members
set_part (s ∷ ss) = member (codes "set") (table (sets_members (s ∷ ss))) no_members

-- nodes, the phase and field sets as a document
abbrev pub rest_document : ℕ → ℕ → List FieldSet → Members
rest_document n phase sets = member (codes "nodes") (integer (pos n)) (member (codes "phase") (integer (pos phase)) (set_part sets))

-- the same with the links before it
abbrev pub network_document : ℕ → List Link → ℕ → List FieldSet → Members
network_document n links phase sets = member (codes "links") (array (items_of (map link_data links))) (rest_document n phase sets)

-- the weight of a link as text, which is left out where it is 1
abbrev pub weight_text : ℕ → List ℕ
weight_text w = if w == 1 then [] else codes ", " ++ decimal w

-- a link as the text of an array
abbrev pub link_text : Link → List ℕ
link_text l = codes "[" ++ (decimal l.0 ++ (codes ", " ++ (decimal l.1 ++ (weight_text l.2 ++ codes "]"))))

-- the links, each with a line of its own
abbrev pub link_lines : List Link → List ℕ
link_lines [] = []
link_lines (l ∷ ls) = (codes "\n    " ++ (link_text l ++ codes ",")) ++ link_lines ls

-- the links as the first lines of a document
abbrev pub links_text : List Link → List ℕ
links_text ls = codes "links = [" ++ (link_lines ls ++ codes "\n]\n")
