use Rattle.std.proofs.Common.{◌≡◌, ℕ, ◌<◌, true, false, List, ◌++◌, ◌∷◌, [], ◌+◌, length, drop, get_or, ap, sym, ◌∙◌, append_assoc, append-nil}
use Rattle.std.proofs.lemmas.List.{at_drop_more, at_drop_all}
use Rattle.import_links.specs.declared.placed.PlacedLink.{PlacedLink}
use Rattle.import_links.specs.Settling.{is_self_loop, straight}
use Rattle.import_links.proofs.straight.straight.Goals as goal
use Rattle.import_links.proofs.straight.straight.Goals.{then-not-is_self_loop+in_ok-push, else-not-is_self_loop}

-- a link that joins different nodes is kept, and another is not
module _ (links : List PlacedLink) (i : ℕ) (d : PlacedLink) (low : i < length links) (left : List PlacedLink) (were : left ++ straight (drop i links) ≡ straight links) where
  abbrev here : PlacedLink
  here = get_or links i d

  from_here : left ++ straight (here ∷ drop (i + 1) links) ≡ straight links
  from_here = sym (at_drop_more (λ ps. left ++ straight ps) links i d low) ∙ were

  kept : (now : List PlacedLink) → is_self_loop here ≡ false → now ≡ left ++ here ∷ [] → now ++ straight (drop (i + 1) links) ≡ straight links
  kept now is put = ap (λ ps. ps ++ straight (drop (i + 1) links)) put ∙ append_assoc left (here ∷ []) (straight (drop (i + 1) links)) ∙ (rw is at from_here)

  passed : (now : List PlacedLink) → is_self_loop here ≡ true → now ≡ left → now ++ straight (drop (i + 1) links) ≡ straight links
  passed now is same = ap (λ ps. ps ++ straight (drop (i + 1) links)) same ∙ (rw is at from_here)

pub loop-placed-preserved : goal.loop-placed-preserved
loop-placed-preserved c =
    let links = c.args.links.now in
    let i = c.loop-placed.placed-index in
    let low = c.loop-placed-test.true in
    let none : PlacedLink = record { link = (0, 0, 0); line = 0; exact = false } in
    let left = c.loop-placed.left.items in
    let were = c.loop-placed.invariant in
    elim c.if-not-is_self_loop.branch [
      | then-not-is_self_loop+in_ok-push w ↦
          kept links i none low left were c.if-not-is_self_loop.left.items (sym w.if-not-is_self_loop.ensures) (ap (λ v. v.items) w.left-is ∙ w.in_ok-push.ensures.items)
      | else-not-is_self_loop w ↦
          passed links i none low left were c.if-not-is_self_loop.left.items (sym w.if-not-is_self_loop.ensures) (ap (λ v. v.items) w.left-is)
    ]

pub returns : goal.returns
returns c =
    let left = c.loop-placed.left.items in
    sym (append-nil left) ∙ sym (at_drop_all (λ ps. left ++ straight ps) c.args.links.now c.loop-placed.placed-index c.loop-placed-test.false) ∙ c.loop-placed.invariant
