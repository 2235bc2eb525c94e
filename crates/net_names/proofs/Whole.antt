-- A file of names has no bad line.
use Rattle.std.proofs.Common.{◌≡◌, ℕ, ◌<◌, true, false, ◌||◌, List, [], ◌∷◌, ◌++◌, length, refl, ap, sym, ◌∙◌, arith}
use Rattle.std.specs.List.{AllByRecursion, IsDistinct, list_any}
use Rattle.std.specs.Cmp.Lexicographic.{nat_list_eq_equiv}
use Rattle.std.specs.Str.{bytes_eq}
use Rattle.std.proofs.lemmas.Bool.{both_ways}
use Rattle.std.proofs.lemmas.List.{length-append}
use Rattle.link_net.specs.Limits.{most_rows}
use Rattle.net_names.specs.declared.fault.NamesFileFault.{NamesFileFault}
use Rattle.net_names.specs.declared.fault.NamesFileFault.TheVariants.{BadName, NameTwice, TooManyNames, Memory}
use Rattle.net_names.specs.Naming.{AreNames, is_name, has_name}
use Rattle.net_names.specs.NamesFiles.{HasNames, IsLineFault, IsFirstBadLine}
use Rattle.net_names.proofs.Texts.{any-place}

each-mid : {X : Type 0} (P : X → Type 0) (xs ys : List X) (x : X) → AllByRecursion P (xs ++ x ∷ ys) → P x
each-mid P [] ys x all = all.0
each-mid P (z ∷ zs) ys x all = each-mid P zs ys x all.1

new-mid : (xs ys : List (List ℕ)) (x : List ℕ) → IsDistinct bytes_eq (xs ++ x ∷ ys) → list_any (bytes_eq x) xs ≡ false
unfolding IsDistinct
new-mid [] ys x apart = refl
new-mid (z ∷ zs) ys x apart =
    let other : bytes_eq x z ≡ false = nat_list_eq_equiv.symm x z ∙ each-mid (λ y. bytes_eq z y ≡ false) zs ys x apart.0 in
    ap (λ b. b || list_any (bytes_eq x) zs) other ∙ new-mid zs ys x apart.1

module _ (earlier later : List (List ℕ)) (here : List ℕ) (are : AreNames (earlier ++ here ∷ later)) where
  named : is_name here ≡ true
  named = each-mid (λ n. is_name n ≡ true) earlier later here are.each

  new : has_name earlier here ≡ false
  new = sym (any-place (bytes_eq here) earlier) ∙ new-mid earlier later here are.distinct

  room : length earlier < most_rows
  room = let few = are.few in omega (arith, length-append earlier (here ∷ later))

  not_bad : (fault : NamesFileFault) → IsLineFault earlier here fault → fault ≡ Memory
  not_bad (BadName line) why = absurd (both_ways (is_name here) why.1 named)
  not_bad (NameTwice line first) why = absurd (both_ways (has_name earlier here) new why.1)
  not_bad (TooManyNames line) why = let full = why.3 in absurd (omega (arith, full, room))
  not_bad Memory why = refl

-- where bytes are a file of names, none of its lines refuses it
pub only_memory : (bytes : List ℕ) (names : List (List ℕ)) (fault : NamesFileFault) → HasNames bytes names → IsFirstBadLine bytes fault → fault ≡ Memory
only_memory bytes names fault has bad =
    let are : AreNames (bad.earlier ++ bad.here ∷ bad.later) = rw (sym has.on_lines ∙ bad.on_lines) at has.are_names in
    not_bad bad.earlier bad.later bad.here are fault bad.why
