-- What a network file is read to.
use Rattle.std.specs.Prelude.{◌≡◌, ◌≢◌, ◌-◌, MatchResult, ℕ, ℤ, pos, Bool, ◌&&◌, List, [], ◌∷◌, length, nat_lt, nat_le, Option, Some, None, option_map, option_and_then, Result, Ok, Err, if◌then◌else◌}
use Rattle.std.specs.Option.{ok_or}
use Rattle.std.specs.List.{list_any}
use Rattle.std.specs.Str.{is_utf8}
use Rattle.toml.specs.Data.{Members}
use Rattle.toml.specs.Parse.{parse_document}
use Rattle.link_net.specs.declared.field_set.FieldSet.{FieldSet}
use Rattle.link_net.specs.declared.draft.Draft.{Draft}
use Rattle.link_net.specs.declared.fault.NetFault.{NetFault}
use Rattle.link_net.specs.declared.fault.NetFault.TheVariants.{NotToml, UnknownKey, BadShape, NodeCount, BadLink, SelfLink, LinkTwice, TooManyLinks, TooManyNeighbours, BadPhase, Memory, BadWeight}
use Rattle.link_net.specs.Document.{has_unknown_key, draft_of}
use Rattle.link_net.specs.Limits.{most_nodes, most_links, most_neighbours, most_weight}
use Rattle.link_net.specs.Links.{is_self_link, has_link_twice, linked_with, network_of}
use Rattle.link_net.specs.Neighbours.{Neighbours, numbers_below}

-- a network with its opening phase and the pairs of `set`
pub record Description : Type 0 where
  pub network : Neighbours
  pub phase : ℕ
  pub sets : List FieldSet

-- the next step, at the value of a step that succeeds
abbrev pub and_then : {A B : Type 0} → Result A NetFault → (A → Result B NetFault) → Result B NetFault
and_then (Ok x) next = next x
and_then (Err fault) next = Err fault

-- the number, where it is from low to high
abbrev pub number_in : ℕ → ℕ → ℤ → Option ℕ
number_in low high (pos k) = if nat_le low k && nat_le k high then Some k else None
number_in low high _ = None

-- the link, where both ends are numbers of nodes, up to the last one; its weight is not looked at
abbrev pub placed : ℕ → ℤ × ℤ × ℤ → Option (ℕ × ℕ × ℤ)
placed last l = option_and_then (λ u. option_map (λ w. (u, w, l.2)) (number_in 0 last l.1)) (number_in 0 last l.0)

-- all links, where their ends are numbers of nodes
abbrev pub all_placed : ℕ → List (ℤ × ℤ × ℤ) → Option (List (ℕ × ℕ × ℤ))
all_placed last [] = Some []
all_placed last (l ∷ ls) = option_and_then (λ p. option_map (λ ps. p ∷ ps) (all_placed last ls)) (placed last l)

-- some node has more neighbours than are allowed
abbrev pub is_crowded : {W : Type 0} → ℕ → List (ℕ × ℕ × W) → Bool
is_crowded n links = list_any (λ u. nat_lt most_neighbours (length (linked_with n links u))) (numbers_below n)

-- the links, or the first fault of those that lie in their ends
abbrev pub sound : {W : Type 0} → ℕ → List (ℕ × ℕ × W) → Result (List (ℕ × ℕ × W)) NetFault
sound n links =
    if list_any is_self_link links then Err SelfLink
    else if has_link_twice links then Err LinkTwice
    else if nat_lt most_links (length links) then Err TooManyLinks
    else if is_crowded n links then Err TooManyNeighbours
    else Ok links

-- the link, where its weight is one
abbrev pub weighed : ℕ × ℕ × ℤ → Option (ℕ × ℕ × ℕ)
weighed l = option_map (λ x. (l.0, l.1, x)) (number_in 0 most_weight l.2)

-- all links, where each weight is one
abbrev pub all_weighed : List (ℕ × ℕ × ℤ) → Option (List (ℕ × ℕ × ℕ))
all_weighed [] = Some []
all_weighed (l ∷ ls) = option_and_then (λ p. option_map (λ ps. p ∷ ps) (all_weighed ls)) (weighed l)

-- what a draft describes, or the first fault of its numbers
abbrev pub description_of : Draft → Result Description NetFault
description_of d =
    and_then (ok_or (number_in 1 most_nodes d.nodes) NodeCount) (λ n.
    and_then (ok_or (all_placed (n - 1) d.links) BadLink) (λ ends.
    and_then (sound n ends) (λ links.
    and_then (ok_or (number_in 0 2 d.phase) BadPhase) (λ phase.
    and_then (ok_or (all_weighed links) BadWeight) (λ whole.
    Ok (record { network = network_of n whole; phase = phase; sets = d.sets }))))))

-- the document that the bytes are
abbrev pub document_of : List ℕ → Option Members
document_of bytes = if is_utf8 bytes then parse_document bytes else None

-- what a document describes, or its first fault
abbrev pub description_in : Members → Result Description NetFault
description_in ms = if has_unknown_key ms then Err UnknownKey else and_then (ok_or (draft_of ms) BadShape) description_of

-- what the bytes describe, or their first fault
abbrev pub reading_of : List ℕ → Result Description NetFault
reading_of bytes = and_then (ok_or (document_of bytes) NotToml) description_in

-- the result stands for the defined one, or for running out of memory
abbrev pub IsAnswerBy : {A B : Type 0} → (B → A) → Result A NetFault → Result B NetFault → Type 0
IsAnswerBy view defined r = MatchResult r (λ x. defined ≡ Ok (view x)) (λ fault. fault ≢ Memory → defined ≡ Err fault)

-- the result is the defined one, or stands for running out of memory
abbrev pub IsAnswer : {A : Type 0} → Result A NetFault → Result A NetFault → Type 0
IsAnswer defined r = IsAnswerBy (λ x. x) defined r
