-- What is left of links is no more than they were.
use Rattle.std.proofs.Common.{◌≡◌, ◌≤◌, Bool, not, List, [], ◌∷◌, length, ap, ◌∙◌, arith, inl, inr}
use Rattle.std.proofs.lemmas.Bool.{cases_Bool}
use Rattle.std.proofs.lemmas.List.{length-map}
use Rattle.std.specs.List.{filter}
use Rattle.net_text.specs.Listing.{Link}
use Rattle.import_links.specs.declared.kept.Kept.{Kept}
use Rattle.import_links.specs.declared.placed.PlacedLink.{PlacedLink}
use Rattle.import_links.specs.Merging.{are_parallel, merged}
use Rattle.import_links.specs.Settling.{is_self_loop, links_of, straight}

filter_short : {X : Type 0} (p : X → Bool) (xs : List X) → length (filter p xs) ≤ length xs
filter_short p [] = omega arith
filter_short p (x ∷ xs) =
    let less = filter_short p xs in
    elim (cases_Bool (p x)) [
      | inl here ↦ rw here (omega (arith, less))
      | inr gone ↦ rw gone (omega (arith, less))
    ]

merged_short : (k : Kept) (ls : List Link) → length (merged k ls) ≤ length ls
merged_short k [] = omega arith
merged_short k (l ∷ ls) =
    let others = filter_short (λ m. not (are_parallel l m)) (merged k ls) in
    let less = merged_short k ls in
    omega (arith, others, less)

pub fewer_straight : (ps left : List PlacedLink) → left ≡ straight ps → length left ≤ length ps
fewer_straight ps left is = rw is (filter_short (λ p. not (is_self_loop p)) ps)

pub fewer_merged : (k : Kept) (ps : List PlacedLink) (plain left : List Link) → plain ≡ links_of ps → left ≡ merged k plain → length left ≤ length ps
fewer_merged k ps plain left of is =
    let less = merged_short k plain in
    let same = ap length of ∙ length-map ps (λ p. p.link) in
    let these = ap length is in
    omega (arith, less, same, these)
