-- Links that are put one by one.
use Rattle.std.proofs.Math.Seq.{drop-cons}
use Rattle.std.proofs.lemmas.List.{drop_all}
use Rattle.std.proofs.Common.{◌≡◌, ◌+◌, ◌<◌, ◌≤◌, suc, arith, get_or, drop, length, ℕ, Bool, not, List, [], ◌∷◌, refl, sym, ap, ◌∙◌, inl, inr}
use Rattle.std.proofs.lemmas.Bool.{cases_Bool}
use Rattle.std.specs.Prelude.{Option, Some, None}
use Rattle.std.specs.List.{filter}
use Rattle.std.specs.Map.{lookup, values_of}
use Rattle.indexmap.specs.IndexMap.{insert_entry}
use Rattle.net_text.specs.Listing.{Link}
use Rattle.import_links.specs.declared.kept.Kept.{Kept}
use Rattle.import_links.specs.Merging.{kept_of, are_parallel, with_kept, merged}
use Rattle.import_links.specs.Puts.{ends, are_same, put}
use Rattle.import_links.proofs.Twins.{parallel_same, others_merged}

-- the links of the entries with what is kept of later links, and after them what the others of those make
abbrev pub absorbed : Kept → List ((ℕ × ℕ) × Link) → List Link → List Link
absorbed k [] ls = merged k ls
absorbed k (e ∷ es) ls = with_kept k e.1 (filter (λ m. are_same (ends m) e.0) ls) ∷ absorbed k es (filter (λ m. not (are_same (ends m) e.0)) ls)

-- the link that is put, where this one stands under its ends, or none
abbrev pub chosen : Kept → Link → Option Link → Link
chosen k l None = l
chosen k l (Some f) = (f.0, f.1, kept_of k f.2 l.2)

pub insert_chosen : (k : Kept) (l : Link) (es : List ((ℕ × ℕ) × Link)) → insert_entry are_same es (ends l) (chosen k l (lookup (are_same (ends l)) es)) ≡ put k l es
insert_chosen k l [] = refl
insert_chosen k l (e ∷ es) =
    elim (cases_Bool (are_same (ends l) e.0)) [
      | inl here ↦ rw here refl
      | inr other ↦ rw other (ap (λ r. e ∷ r) (insert_chosen k l es))
    ]

-- the filters of two tests that agree
pub filter_like : {X : Type 0} (p q : X → Bool) → ((x : X) → p x ≡ q x) → (xs : List X) → filter p xs ≡ filter q xs
filter_like p q h [] = refl
filter_like p q h (x ∷ xs) = rw (h x, filter_like p q h xs) refl

pub one_more : (k : Kept) (l : Link) (es : List ((ℕ × ℕ) × Link)) (ls : List Link) → absorbed k es (l ∷ ls) ≡ absorbed k (put k l es) ls
one_more k l [] ls =
    let own = filter_like (are_parallel l) (λ m. are_same (ends m) (ends l)) (parallel_same l) ls in
    let rest = filter_like (λ m. not (are_parallel l m)) (λ m. not (are_same (ends m) (ends l))) (λ m. ap not (parallel_same l m)) ls in
    rw (sym own, sym rest, others_merged k l ls) refl
one_more k l (e ∷ es) ls =
    elim (cases_Bool (are_same (ends l) e.0)) [
      | inl here ↦ rw here refl
      | inr other ↦ rw other (ap (λ r. with_kept k e.1 (filter (λ m. are_same (ends m) e.0) ls) ∷ r) (one_more k l es (filter (λ m. not (are_same (ends m) e.0)) ls)))
    ]

pub none_left : (k : Kept) (es : List ((ℕ × ℕ) × Link)) → absorbed k es [] ≡ values_of es
none_left k [] = refl
none_left k (e ∷ es) = ap (λ r. e.1 ∷ r) (none_left k es)

pub put_new : (k : Kept) (l : Link) (es new : List ((ℕ × ℕ) × Link)) (key : ℕ × ℕ) (link : Link) → key ≡ ends l → link ≡ l
    → None ≡ lookup (are_same key) es → new ≡ insert_entry are_same es key link → new ≡ put k l es
put_new k l es new key link at_ends own none given =
    let i = insert_chosen k l es in cc

pub put_again : (k : Kept) (l f : Link) (es new : List ((ℕ × ℕ) × Link)) (key : ℕ × ℕ) (link : Link) → key ≡ ends l → link ≡ (f.0, f.1, kept_of k f.2 l.2)
    → Some f ≡ lookup (are_same key) es → new ≡ insert_entry are_same es key link → new ≡ put k l es
put_again k l f es new key link at_ends own here given =
    let i = insert_chosen k l es in cc

pub next_link : (k : Kept) (ls all : List Link) (n : ℕ) (d : Link) (es new : List ((ℕ × ℕ) × Link)) → n < length ls
    → new ≡ put k (get_or ls n d) es → absorbed k es (drop n ls) ≡ all → absorbed k new (drop (n + 1) ls) ≡ all
next_link k ls all n d es new low given known =
    let step = one_more k (get_or ls n d) es (drop (n + 1) ls) in
    let turn : suc n ≡ n + 1 = omega arith in
    let cut = drop-cons ls n d low ∙ ap (λ i. get_or ls n d ∷ drop i ls) turn in
    rw given (sym step ∙ sym (ap (absorbed k es) cut) ∙ known)

pub all_put : (k : Kept) (ls all : List Link) (n : ℕ) (es : List ((ℕ × ℕ) × Link)) → length ls ≤ n → absorbed k es (drop n ls) ≡ all → values_of es ≡ all
all_put k ls all n es done known = sym (none_left k es) ∙ sym (ap (absorbed k es) (drop_all n ls done)) ∙ known
