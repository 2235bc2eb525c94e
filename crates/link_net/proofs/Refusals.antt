-- Refusals, step by step.
use Rattle.std.proofs.Common.{◌≡◌, ◌∙◌, ℕ, ℤ, ◌-◌, Bool, true, false, ◌||◌, List, [], ◌∷◌, length, map, nat_lt, Option, Some, None, option_map, is_none, Result, Ok, Err, refl, sym, ap, inl, inr}
use Rattle.std.specs.Prelude.{option_and_then, take, slice_get, IsSomeAnd, find}
use Rattle.std.specs.List.{list_any}
use Rattle.std.proofs.lemmas.Bool.{cases_Bool}
use Rattle.std.proofs.lemmas.List.{length-map, take-map}
use Rattle.std.proofs.lemmas.Option.{slice_get-map}
use Rattle.toml.specs.Data.{Members}
use Rattle.link_net.specs.declared.cause.NetCause.{NetCause}
use Rattle.link_net.specs.declared.cause.NetCause.TheVariants as cause
use Rattle.link_net.specs.declared.draft.Draft.{Draft}
use Rattle.link_net.specs.declared.field_set.FieldSet.{FieldSet}
use Rattle.link_net.specs.declared.fault.NetFault.{NetFault}
use Rattle.link_net.specs.declared.fault.NetFault.TheVariants.{TooManyNeighbours}
use Rattle.link_net.specs.Arcs.{Arc}
use Rattle.link_net.specs.Causes.{refusal_of, fault_if, AreTwice, IsLinkCause, IsNumberCause}
use Rattle.link_net.specs.Document.{has_unknown_key, nodes_of, links_of, phase_of, field_sets_of, draft_of}
use Rattle.link_net.specs.Limits.{most_nodes, most_links, most_neighbours}
use Rattle.link_net.specs.Links.{is_self_link, has_link_twice, joins, linked_with}
use Rattle.link_net.specs.Neighbours.{numbers_below}
use Rattle.link_net.specs.Reading.{number_in, placed, all_placed, is_crowded, description_in, description_of}
use Rattle.link_net.specs.Tables.{settled, network_in}
use Rattle.link_net.proofs.Checks.{linked_settled, twice_settled}
use Rattle.link_net.proofs.LinkSteps.{Raw, Half}
use Rattle.link_net.proofs.Places.{position-map, find_agrees}

-- a refusal is one fault, and where there is none there is a value
pub refused_by : {A : Type 0} (r : Result A NetFault) (f : NetFault) → Some f ≡ refusal_of r → r ≡ Err f
refused_by (Ok x) f h = cc
refused_by (Err g) f h = let same : f ≡ g = cc in ap Err (sym same)

pub accepted_by : {A : Type 0} (r : Result A NetFault) → None ≡ refusal_of r → (x : A) × (r ≡ Ok x)
accepted_by (Ok x) h = (x, refl)
accepted_by (Err g) h = cc

-- one test after another
pub first_fault : (a b : Bool) (f g : NetFault) → Some f ≡ fault_if a g → Some f ≡ fault_if (a || b) g
first_fault true b f g h = h
first_fault false b f g h = cc

pub later_fault : (a b : Bool) (g : NetFault) (r : Option NetFault) → None ≡ fault_if a g → r ≡ fault_if b g → r ≡ fault_if (a || b) g
later_fault true b g r h k = cc
later_fault false b g r h k = k

-- the draft of these parts
abbrev draft_from : ℤ → List Raw → ℤ → List FieldSet → Draft
draft_from nodes links phase sets = record { nodes = nodes; links = links; phase = phase; sets = sets }

-- a draft is there where its four parts are
pub draft_none : (ms : Members) → is_none (draft_of ms) ≡ (is_none (nodes_of ms) || (is_none (links_of ms) || (is_none (phase_of ms) || is_none (field_sets_of ms))))
draft_none ms = at (nodes_of ms) (links_of ms) (phase_of ms) (field_sets_of ms) where
  at : (nodes : Option ℤ) (links : Option (List Raw)) (phase : Option ℤ) (sets : Option (List FieldSet))
      → is_none (option_and_then (λ n. option_and_then (λ ls. option_and_then (λ p. option_and_then (λ ss. Some (draft_from n ls p ss)) sets) phase) links) nodes)
      ≡ (is_none nodes || (is_none links || (is_none phase || is_none sets)))
  at None links phase sets = refl
  at (Some n) None phase sets = refl
  at (Some n) (Some ls) None sets = refl
  at (Some n) (Some ls) (Some p) None = refl
  at (Some n) (Some ls) (Some p) (Some ss) = refl

pub some_from_not_none : {A : Type 0} (o : Option A) → is_none o ≡ false → (x : A) × (o ≡ Some x)
some_from_not_none None h = cc
some_from_not_none (Some x) h = (x, refl)

pub none_from_is_none : {A : Type 0} (o : Option A) → is_none o ≡ true → o ≡ None
none_from_is_none None h = refl
none_from_is_none (Some x) h = cc

pub numbers_of : (ms : Members) (d : Draft) → has_unknown_key ms ≡ false → draft_of ms ≡ Some d → description_in ms ≡ description_of d
numbers_of ms d known is = rw (known, is) refl

-- links that stand once, and not too many: what is left is how many neighbours there are
pub crowded_refusal : (n : ℕ) (links : List Arc) → list_any is_self_link links ≡ false → has_link_twice links ≡ false → nat_lt most_links (length links) ≡ false
    → refusal_of (network_in n links) ≡ fault_if (is_crowded n links) TooManyNeighbours
crowded_refusal n links straight once few =
    elim (cases_Bool (is_crowded n links)) [
      | inl crowded ↦ rw (straight, once, few, crowded) refl
      | inr sparse ↦ rw (straight, once, few, sparse) refl
    ]

-- all ends are nodes where none is astray
pub none_placed : (last : ℕ) (ls : List Raw) → is_none (all_placed last ls) ≡ list_any (λ l. is_none (placed last l)) ls
none_placed last [] = refl
none_placed last (l ∷ ls) = at (placed last l) (all_placed last ls) (none_placed last ls) where
  at : (here : Option Half) (rest : Option (List Half)) → is_none rest ≡ list_any (λ k. is_none (placed last k)) ls
      → is_none (option_and_then (λ p. option_map (λ ps. p ∷ ps) rest) here) ≡ (is_none here || list_any (λ k. is_none (placed last k)) ls)
  at None rest h = refl
  at (Some p) None h = h
  at (Some p) (Some ps) h = h

-- what is so of links with settled weights is so of the links
twice_of : (links : List Half) (earlier later : ℕ) → AreTwice (map settled links) earlier later → AreTwice links earlier later
twice_of links earlier later h =
    (h.0, at (slice_get links earlier) (slice_get links later) (rw (slice_get-map settled links earlier, slice_get-map settled links later) at h.1)) where
      at : (e l : Option Half) → IsSomeAnd (option_map settled e) (λ x. IsSomeAnd (option_map settled l) (λ y. joins x.0 x.1 y ≡ true)) → IsSomeAnd e (λ x. IsSomeAnd l (λ y. joins x.0 x.1 y ≡ true))
      at None l h = h
      at (Some x) None h = h
      at (Some x) (Some y) h = h

crowd_of : (n : ℕ) (links : List Half) → find (λ u. nat_lt most_neighbours (length (linked_with n (map settled links) u))) (numbers_below n) ≡ find (λ u. nat_lt most_neighbours (length (linked_with n links u))) (numbers_below n)
crowd_of n links = find_agrees _ _ 0 n (λ u low high. ap (λ ws. nat_lt most_neighbours (length ws)) (linked_settled n links u))

pub link_cause_of : (n : ℕ) (links : List Half) (c : NetCause) → IsLinkCause n (map settled links) c → IsLinkCause n links c
link_cause_of n links (cause.SelfLink link) h = sym (position-map settled is_self_link links) ∙ h
link_cause_of n links (cause.LinkTwice link earlier) h =
    (twice_of links earlier link h.0, sym (twice_settled (take link links)) ∙ ap has_link_twice (sym (take-map settled link links)) ∙ h.1)
link_cause_of n links (cause.TooManyLinks count) h = (h.0 ∙ length-map links settled, h.1)
link_cause_of n links (cause.TooManyNeighbours node count) h = (sym (crowd_of n links) ∙ h.0, h.1 ∙ ap length (linked_settled n links node))
link_cause_of n links _ h = absurd h

-- a cause that lies in the links of a draft
pub number_cause_of : (d : Draft) (n : ℕ) (links : List Half) (c : NetCause) → number_in 1 most_nodes d.nodes ≡ Some n → all_placed (n - 1) d.links ≡ Some links
    → IsLinkCause n links c → IsNumberCause d c
number_cause_of d n links (cause.SelfLink link) is_n is_links h = rw (is_n, is_links) h
number_cause_of d n links (cause.LinkTwice link earlier) is_n is_links h = rw (is_n, is_links) h
number_cause_of d n links (cause.TooManyLinks count) is_n is_links h = rw (is_n, is_links) h
number_cause_of d n links (cause.TooManyNeighbours node count) is_n is_links h = rw (is_n, is_links) h
number_cause_of d n links _ is_n is_links h = absurd h
