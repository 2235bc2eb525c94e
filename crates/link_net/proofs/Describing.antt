-- What a draft describes, step by step.
use Rattle.std.proofs.Common.{◌≡◌, ℕ, ◌-◌, Bool, true, false, ◌||◌, List, [], ◌∷◌, map, Option, Some, None, option_map, Result, Ok, Err, refl, sym, ap, ◌∙◌, if◌then◌else◌}
use Rattle.std.specs.Prelude.{option_and_then}
use Rattle.std.specs.Option.{ok_or, unwrap_or, is_none}
use Rattle.std.specs.List.{list_any}
use Rattle.link_net.specs.declared.draft.Draft.{Draft}
use Rattle.link_net.specs.declared.fault.NetFault.{NetFault}
use Rattle.link_net.specs.declared.fault.NetFault.TheVariants.{NodeCount, BadLink, BadPhase, BadWeight}
use Rattle.link_net.specs.Limits.{most_nodes, most_weight}
use Rattle.link_net.specs.Neighbours.{Neighbours}
use Rattle.link_net.specs.Reading.{and_then, number_in, placed, all_placed, all_weighed, description_of}
use Rattle.link_net.specs.Tables.{settled, is_off, network_in, drawn, opened}
use Rattle.link_net.specs.Arcs.{Arc}
use Rattle.link_net.proofs.LinkSteps.{Raw, Half}
use Rattle.link_net.proofs.Checks.{refused, accepted}

-- what the reader of links has read
pub from_read : (o : Option (List Half)) (items : List Arc) → ok_or (option_map (map settled) o) BadLink ≡ Ok items → (ls : List Half) × (o ≡ Some ls) × (items ≡ map settled ls)
from_read None items h = cc
from_read (Some ls) items h = (ls, refl, same h) where
  same : ◌≡◌ {A = Result (List Arc) NetFault} (Ok (map settled ls)) (Ok items) → items ≡ map settled ls
  same e = cc

-- placing a link leaves its weight
weight_stays : (last : ℕ) (l : Raw) (p : Half) → placed last l ≡ Some p → p.2 ≡ l.2
weight_stays last l p h = at (number_in 0 last l.0) (number_in 0 last l.1) h where
  at : (first second : Option ℕ) → option_and_then (λ u. option_map (λ w. (u, w, l.2)) second) first ≡ Some p → p.2 ≡ l.2
  at None second e = cc
  at (Some u) None e = cc
  at (Some u) (Some w) e = let same : (u, w, l.2) ≡ p = cc in ap (λ t. t.2) (sym same)

off_same : (last : ℕ) (ls : List Raw) (ps : List Half) → all_placed last ls ≡ Some ps → list_any is_off ls ≡ list_any is_off ps
off_same last [] ps h = let same : [] ≡ ps = cc in rw (← same) refl
off_same last (l ∷ ls) ps h = at (placed last l) (all_placed last ls) refl (λ qs is. off_same last ls qs is) refl h where
  at : (here : Option Half) (rest : Option (List Half)) → placed last l ≡ here → ((qs : List Half) → all_placed last ls ≡ Some qs → list_any is_off ls ≡ list_any is_off qs) → all_placed last ls ≡ rest
      → option_and_then (λ p. option_map (λ qs. p ∷ qs) rest) here ≡ Some ps → list_any is_off (l ∷ ls) ≡ list_any is_off ps
  at None rest is before others e = cc
  at (Some p) None is before others e = cc
  at (Some p) (Some qs) is before others e =
      let same : p ∷ qs ≡ ps = cc in
      rw (← same, weight_stays last l p is, before qs others)

-- the third numbers are weights, or one is none
all_off : (ps : List Half) → list_any is_off ps ≡ true → all_weighed ps ≡ None
all_off [] h = cc
all_off (p ∷ ps) h = at (number_in 0 most_weight p.2) (all_off ps) h where
  at : (o : Option ℕ) → (list_any is_off ps ≡ true → all_weighed ps ≡ None) → (is_none o || list_any is_off ps) ≡ true
      → option_and_then (λ q. option_map (λ qs. q ∷ qs) (all_weighed ps)) (option_map (λ x. (p.0, p.1, x)) o) ≡ None
  at None rest e = refl
  at (Some x) rest e = rw (rest e)

none_off : (ps : List Half) → list_any is_off ps ≡ false → all_weighed ps ≡ Some (map settled ps)
none_off [] h = refl
none_off (p ∷ ps) h = at (number_in 0 most_weight p.2) (none_off ps) h where
  at : (o : Option ℕ) → (list_any is_off ps ≡ false → all_weighed ps ≡ Some (map settled ps)) → (is_none o || list_any is_off ps) ≡ false
      → option_and_then (λ q. option_map (λ qs. q ∷ qs) (all_weighed ps)) (option_map (λ x. (p.0, p.1, x)) o) ≡ Some ((p.0, p.1, unwrap_or o 0) ∷ map settled ps)
  at None rest e = cc
  at (Some x) rest e = rw (rest e)

module _ (d : Draft) (n : ℕ) (links : List Half) (is_n : number_in 1 most_nodes d.nodes ≡ Some n) (is_links : all_placed (n - 1) d.links ≡ Some links) where
  pub network_refused : (fault : NetFault) → network_in n (map settled links) ≡ Err fault → description_of d ≡ Err fault
  network_refused fault h = rw (is_n, is_links, refused n links fault h)

  module _ (net : Neighbours) (is_net : network_in n (map settled links) ≡ Ok net) where
    pub phase_refused : number_in 0 2 d.phase ≡ None → description_of d ≡ Err BadPhase
    phase_refused h = rw (is_n, is_links, (accepted n links net is_net).0, h)

    module _ (phase : ℕ) (is_phase : number_in 0 2 d.phase ≡ Some phase) where
      pub weight_refused : list_any is_off d.links ≡ true → description_of d ≡ Err BadWeight
      weight_refused h = rw (is_n, is_links, (accepted n links net is_net).0, is_phase, all_off links (sym (off_same (n - 1) d.links links is_links) ∙ h))

      pub described : list_any is_off d.links ≡ false → description_of d ≡ Ok (record { network = net; phase = phase; sets = d.sets })
      described h = rw (is_n, is_links, (accepted n links net is_net).0, is_phase, none_off links (sym (off_same (n - 1) d.links links is_links) ∙ h), (accepted n links net is_net).1)

pub drawn_is : (d : Draft) (n : ℕ) (links : List Half) → number_in 1 most_nodes d.nodes ≡ Some n → all_placed (n - 1) d.links ≡ Some links → drawn d ≡ network_in n (map settled links)
drawn_is d n links is_n is_links = rw (is_n, is_links) refl

-- a draft whose nodes and links make no network
module _ (d : Draft) (fault : NetFault) where
  pub drawn_refused : drawn d ≡ Err fault → description_of d ≡ Err fault
  drawn_refused h = at_nodes (number_in 1 most_nodes d.nodes) refl h where
    at_links : (n : ℕ) → number_in 1 most_nodes d.nodes ≡ Some n → (o : Option (List Half)) → all_placed (n - 1) d.links ≡ o
        → and_then (ok_or o BadLink) (λ ends. network_in n (map settled ends)) ≡ Err fault → description_of d ≡ Err fault
    at_links n is_n None is e = let same : BadLink ≡ fault = cc in rw (is_n, is) (ap Err same)
    at_links n is_n (Some links) is e = network_refused d n links is_n is fault e

    at_nodes : (o : Option ℕ) → number_in 1 most_nodes d.nodes ≡ o
        → and_then (ok_or o NodeCount) (λ n. and_then (ok_or (all_placed (n - 1) d.links) BadLink) (λ ends. network_in n (map settled ends))) ≡ Err fault → description_of d ≡ Err fault
    at_nodes None is e = let same : NodeCount ≡ fault = cc in rw is (ap Err same)
    at_nodes (Some n) is e = at_links n is (all_placed (n - 1) d.links) refl e

-- a draft whose nodes and links make a network
module _ (d : Draft) (net : Neighbours) (is_drawn : drawn d ≡ Ok net) where
  abbrev Parts : Type 0
  Parts = (n : ℕ) × (links : List Half) × (number_in 1 most_nodes d.nodes ≡ Some n) × (all_placed (n - 1) d.links ≡ Some links) × (network_in n (map settled links) ≡ Ok net)

  parts : Parts
  parts = at_nodes (number_in 1 most_nodes d.nodes) refl is_drawn where
    at_links : (n : ℕ) → number_in 1 most_nodes d.nodes ≡ Some n → (o : Option (List Half)) → all_placed (n - 1) d.links ≡ o
        → and_then (ok_or o BadLink) (λ ends. network_in n (map settled ends)) ≡ Ok net → Parts
    at_links n is_n None is e = cc
    at_links n is_n (Some links) is e = (n, links, is_n, is, e)

    at_nodes : (o : Option ℕ) → number_in 1 most_nodes d.nodes ≡ o
        → and_then (ok_or o NodeCount) (λ n. and_then (ok_or (all_placed (n - 1) d.links) BadLink) (λ ends. network_in n (map settled ends))) ≡ Ok net → Parts
    at_nodes None is e = cc
    at_nodes (Some n) is e = at_links n is (all_placed (n - 1) d.links) refl e

  pub opened_refused : (fault : NetFault) → opened d ≡ Err fault → description_of d ≡ Err fault
  opened_refused fault h = at (number_in 0 2 d.phase) refl (list_any is_off d.links) refl h where
    at : (o : Option ℕ) → number_in 0 2 d.phase ≡ o → (off : Bool) → list_any is_off d.links ≡ off
        → and_then (ok_or o BadPhase) (λ phase. if off then Err BadWeight else Ok phase) ≡ Err fault → description_of d ≡ Err fault
    at None is off bad e = let same : BadPhase ≡ fault = cc in phase_refused d parts.0 parts.1 parts.2 parts.3 net parts.4 is ∙ ap Err same
    at (Some p) is true bad e = let same : BadWeight ≡ fault = cc in weight_refused d parts.0 parts.1 parts.2 parts.3 net parts.4 p is bad ∙ ap Err same
    at (Some p) is false bad e = cc

  pub drawn_opened : (phase : ℕ) → opened d ≡ Ok phase → description_of d ≡ Ok (record { network = net; phase = phase; sets = d.sets })
  drawn_opened phase h = at (number_in 0 2 d.phase) refl (list_any is_off d.links) refl h where
    at : (o : Option ℕ) → number_in 0 2 d.phase ≡ o → (off : Bool) → list_any is_off d.links ≡ off
        → and_then (ok_or o BadPhase) (λ p. if off then Err BadWeight else Ok p) ≡ Ok phase → description_of d ≡ Ok (record { network = net; phase = phase; sets = d.sets })
    at None is off bad e = cc
    at (Some p) is true bad e = cc
    at (Some p) is false bad e =
        let same : p ≡ phase = cc in
        described d parts.0 parts.1 parts.2 parts.3 net parts.4 p is bad ∙ ap (λ q. Ok (record { network = net; phase = q; sets = d.sets })) same
