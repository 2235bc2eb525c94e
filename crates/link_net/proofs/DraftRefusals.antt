-- What is refused in links and in drafts.
use Rattle.std.proofs.Common.{◌≡◌, ◌∙◌, ℕ, ◌-◌, ◌<◌, true, false, List, length, map, nat_lt, Some, None, is_none, refl, sym, ap, arith}
use Rattle.std.proofs.lemmas.Bool.Decides.{nat_tests}
use Rattle.std.specs.Prelude.{position}
use Rattle.std.specs.List.{list_any}
use Rattle.link_net.specs.declared.draft.Draft.{Draft}
use Rattle.link_net.specs.declared.fault.NetFault.{NetFault}
use Rattle.link_net.specs.declared.fault.NetFault.TheVariants.{BadLink, SelfLink, LinkTwice, TooManyLinks, BadPhase, BadWeight}
use Rattle.link_net.specs.Arcs.{Arc}
use Rattle.link_net.specs.Causes.{refusal_of}
use Rattle.link_net.specs.Limits.{most_nodes, most_links}
use Rattle.link_net.specs.Links.{is_self_link, has_link_twice}
use Rattle.link_net.specs.Reading.{number_in, placed, all_placed, description_of}
use Rattle.link_net.specs.Tables.{settled, is_off, network_in}
use Rattle.link_net.proofs.Describing.{network_refused, phase_refused, weight_refused, described}
use Rattle.link_net.proofs.LinkSteps.{Half}
use Rattle.link_net.proofs.Places.{any_from_place, none_from_place}
use Rattle.link_net.proofs.Refusals.{refused_by, accepted_by, none_placed, none_from_is_none, some_from_not_none}

module _ (n : ℕ) (links : List Arc) where
  pub self_refusal : (link : ℕ) → position is_self_link links ≡ Some link → Some SelfLink ≡ refusal_of (network_in n links)
  self_refusal link is = rw (any_from_place is_self_link links link is) refl

  pub twice_refusal : list_any is_self_link links ≡ false → has_link_twice links ≡ true → Some LinkTwice ≡ refusal_of (network_in n links)
  twice_refusal straight twice = rw (straight, twice) refl

  pub many_refusal : list_any is_self_link links ≡ false → has_link_twice links ≡ false → most_links < length links → Some TooManyLinks ≡ refusal_of (network_in n links)
  many_refusal straight once many =
      let more : nat_lt most_links (length links) ≡ true = grind (arith, nat_tests) in
      rw (straight, once, more) refl

module _ (d : Draft) (n : ℕ) (is_n : number_in 1 most_nodes d.nodes ≡ Some n) where
  pub astray_refusal : (link : ℕ) → position (λ l. is_none (placed (n - 1) l)) d.links ≡ Some link → Some BadLink ≡ refusal_of (description_of d)
  astray_refusal link is =
      let none = none_from_is_none (all_placed (n - 1) d.links) (none_placed (n - 1) d.links ∙ any_from_place (λ l. is_none (placed (n - 1) l)) d.links link is) in
      rw (is_n, none) refl

  module _ (links : List Half) (is_links : all_placed (n - 1) d.links ≡ Some links) where
    pub links_refusal : (f : NetFault) → Some f ≡ refusal_of (network_in n (map settled links)) → Some f ≡ refusal_of (description_of d)
    links_refusal f h = sym (ap refusal_of (network_refused d n links is_n is_links f (refused_by (network_in n (map settled links)) f h)))

    module _ (fine : None ≡ refusal_of (network_in n (map settled links))) where
      pub phase_refusal : number_in 0 2 d.phase ≡ None → Some BadPhase ≡ refusal_of (description_of d)
      phase_refusal is =
          let net = accepted_by (network_in n (map settled links)) fine in
          sym (ap refusal_of (phase_refused d n links is_n is_links net.0 net.1 is))

      pub weight_refusal : (link : ℕ) → is_none (number_in 0 2 d.phase) ≡ false → position is_off d.links ≡ Some link → Some BadWeight ≡ refusal_of (description_of d)
      weight_refusal link some is =
          let net = accepted_by (network_in n (map settled links)) fine in
          let phase = some_from_not_none (number_in 0 2 d.phase) some in
          sym (ap refusal_of (weight_refused d n links is_n is_links net.0 net.1 phase.0 phase.1 (any_from_place is_off d.links link is)))

      pub no_refusal : is_none (number_in 0 2 d.phase) ≡ false → position is_off d.links ≡ None → None ≡ refusal_of (description_of d)
      no_refusal some is =
          let net = accepted_by (network_in n (map settled links)) fine in
          let phase = some_from_not_none (number_in 0 2 d.phase) some in
          sym (ap refusal_of (described d n links is_n is_links net.0 net.1 phase.0 phase.1 (none_from_place is_off d.links is)))
