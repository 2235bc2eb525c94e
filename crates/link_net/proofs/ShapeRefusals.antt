-- What is refused in the values at `links` and at a key of `set`.
use Rattle.std.proofs.Common.{◌≡◌, ◌∙◌, ℕ, true, false, List, Some, None, is_none, refl, sym}
use Rattle.std.specs.Prelude.{codes, option_and_then, position, IsSomeAnd}
use Rattle.toml.specs.Data.{Data, Members, get_member, as_array}
use Rattle.toml.specs.View.{view, items_view}
use Rattle.toml.specs.declared.value.Value.{Value}
use Rattle.link_net.specs.declared.cause.NetCause.TheVariants as cause
use Rattle.link_net.specs.declared.fault.NetFault.TheVariants.{BadShape}
use Rattle.link_net.specs.Causes.{fault_if, IsFirstUnread, IsShapeCause}
use Rattle.link_net.specs.Document.{pair_of, pairs_of, link_of, links_in, links_of}
use Rattle.link_net.proofs.Places.{any_from_place, none_from_place}
use Rattle.link_net.proofs.ShapeSteps.{first_unread, no_links, no_pairs}

-- the items of the array at `links`
pub links_here : (ms : Members) (d : Data) (vs : List Value) → Some d ≡ get_member (codes "links") ms → Some (items_view vs) ≡ as_array d → option_and_then as_array (get_member (codes "links") ms) ≡ Some (items_view vs)
links_here ms d vs found is = rw (← found) (sym is)

module _ (ms : Members) (vs : List Value) (here : option_and_then as_array (get_member (codes "links") ms) ≡ Some (items_view vs)) where
  pub links_fine : None ≡ position (λ v. is_none (link_of (view v))) vs → None ≡ fault_if (is_none (links_of ms)) BadShape
  links_fine h =
      let none : is_none (links_in (items_view vs)) ≡ false = no_links vs ∙ none_from_place (λ v. is_none (link_of (view v))) vs (sym h) in
      rw (here, none) refl

  pub links_fault : (link : ℕ) → Some link ≡ position (λ v. is_none (link_of (view v))) vs → Some BadShape ≡ fault_if (is_none (links_of ms)) BadShape
  links_fault link h =
      let some : is_none (links_in (items_view vs)) ≡ true = no_links vs ∙ any_from_place (λ v. is_none (link_of (view v))) vs link (sym h) in
      rw (here, some) refl

  pub links_named : (link : ℕ) → Some link ≡ position (λ v. is_none (link_of (view v))) vs → IsShapeCause ms (cause.LinkShape link)
  links_named link h = rw here (first_unread link_of vs link (sym h))

-- the value at a key of `set`
module _ (d : Data) (vs : List Value) (is : Some (items_view vs) ≡ as_array d) where
  pub value_read : None ≡ position (λ v. is_none (pair_of (view v))) vs → is_none (option_and_then pairs_of (as_array d)) ≡ false
  value_read h = rw (← is) (no_pairs vs ∙ none_from_place (λ v. is_none (pair_of (view v))) vs (sym h))

  pub value_unread : (entry : ℕ) → Some entry ≡ position (λ v. is_none (pair_of (view v))) vs → is_none (option_and_then pairs_of (as_array d)) ≡ true
  value_unread entry h = rw (← is) (no_pairs vs ∙ any_from_place (λ v. is_none (pair_of (view v))) vs entry (sym h))

  pub value_named : (entry : ℕ) → Some entry ≡ position (λ v. is_none (pair_of (view v))) vs → IsSomeAnd (as_array d) (IsFirstUnread pair_of entry)
  value_named entry h = rw (← is) (first_unread pair_of vs entry (sym h))
