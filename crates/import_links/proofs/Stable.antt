-- Names keep their places when more are put after them.
use Rattle.std.proofs.Common.{◌≡◌, ℕ, Bool, true, false, not, List, [], ◌∷◌, ◌++◌, length, map, refl, ap, sym, ◌∙◌, append_assoc, arith, if◌then◌else◌}
use Rattle.std.specs.Str.{bytes_eq}
use Rattle.std.proofs.lemmas.Bool.{ltb-true, lt-ltb, ne_eqb, eq-eqb}
use Rattle.std.proofs.lemmas.List.{length-append, append-nil}
use Rattle.std.proofs.lemmas.List.Folds.{prefix_len-append, position_or_len_push}
use Rattle.std.proofs.lemmas.Slice.Eq.{bytes_eq-Decides}
use Rattle.net_names.specs.Naming.{place_in, has_name, with_name}
use Rattle.net_names.proofs.Names.{place_of_new}
use Rattle.import_lines.specs.Named.{NamedEdge}
use Rattle.import_links.specs.Joining.{with_ends, names_with, link_in, links_with}

module _ (names : List (List ℕ)) (x : List ℕ) where
  pub place_kept : (more : List (List ℕ)) → has_name names x ≡ true → place_in (names ++ more) x ≡ place_in names x
  place_kept more has =
      let low = ltb-true (place_in names x) (length names) has in
      prefix_len-append (λ n. not (bytes_eq x n)) names more ∙ rw (ne_eqb (place_in names x) (length names) (λ e. omega (arith, e, low))) refl

  pub has_kept : (more : List (List ℕ)) → has_name names x ≡ true → has_name (names ++ more) x ≡ true
  has_kept more has =
      let low = ltb-true (place_in names x) (length names) has in
      let at = place_kept more has in
      lt-ltb (place_in (names ++ more) x) (length (names ++ more)) (omega (arith, at, low, length-append names more))

  pub grown : (more : List (List ℕ)) × (with_name names x ≡ names ++ more)
  grown = by (has_name names x) where
    by : (b : Bool) → (more : List (List ℕ)) × ((if b then names else names ++ x ∷ []) ≡ names ++ more)
    by true = ([], sym (append-nil names))
    by false = (x ∷ [], refl)

  put_last : has_name names x ≡ false → place_in (names ++ x ∷ []) x ≡ length names
  put_last new =
      let itself : bytes_eq x x ≡ true = (bytes_eq-Decides x x).1 refl in
      let at : place_in names x ≡ length names = place_of_new names x new in
      position_or_len_push (bytes_eq x) names x ∙ rw (at, eq-eqb (length names) (length names) refl, itself) (omega arith)

  pub has_with : has_name (with_name names x) x ≡ true
  has_with = by (has_name names x) refl where
    by : (b : Bool) → has_name names x ≡ b → has_name (if b then names else names ++ x ∷ []) x ≡ true
    by true is = is
    by false is = let at = put_last is in lt-ltb (place_in (names ++ x ∷ []) x) (length (names ++ x ∷ [])) (omega (arith, at, length-append names (x ∷ [])))

  pub place_with : place_in (with_name names x) x ≡ place_in names x
  place_with = by (has_name names x) refl where
    by : (b : Bool) → has_name names x ≡ b → place_in (if b then names else names ++ x ∷ []) x ≡ place_in names x
    by true is = refl
    by false is = put_last is ∙ sym (place_of_new names x is)

-- the names with the ends of edges begin with those before
pub ends_grown : (names : List (List ℕ)) (e : NamedEdge) → (more : List (List ℕ)) × (with_ends names e ≡ names ++ more)
ends_grown names e =
    let one = grown names e.first in
    let two = grown (with_name names e.first) e.second in
    (one.0 ++ two.0, two.1 ∙ ap (λ ns. ns ++ two.0) one.1 ∙ append_assoc names one.0 two.0)

pub all_grown : (names : List (List ℕ)) (es : List NamedEdge) → (more : List (List ℕ)) × (names_with names es ≡ names ++ more)
all_grown names [] = ([], sym (append-nil names))
all_grown names (e ∷ es) =
    let one = ends_grown names e in
    let two = all_grown (with_ends names e) es in
    (one.0 ++ two.0, two.1 ∙ ap (λ ns. ns ++ two.0) one.1 ∙ append_assoc names one.0 two.0)

module _ (names : List (List ℕ)) (e : NamedEdge) where
  pub first_there : has_name (with_ends names e) e.first ≡ true
  first_there =
      let two = grown (with_name names e.first) e.second in
      rw (two.1) (has_kept (with_name names e.first) e.first two.0 (has_with names e.first))

  -- the places of the ends once the first has its number, and once both have
  pub ends_placed : link_in (with_ends names e) e ≡ record { link = (place_in names e.first, place_in (with_name names e.first) e.second, e.weight); line = e.line; exact = e.exact }
  ends_placed =
      let two = grown (with_name names e.first) e.second in
      let first : place_in (with_ends names e) e.first ≡ place_in names e.first =
      ap (λ ns. place_in ns e.first) two.1 ∙ place_kept (with_name names e.first) e.first two.0 (has_with names e.first) ∙ place_with names e.first in
      let second : place_in (with_ends names e) e.second ≡ place_in (with_name names e.first) e.second = place_with (with_name names e.first) e.second in
      λ j. record { link = (first j, second j, e.weight); line = e.line; exact = e.exact }

  link_kept : (more : List (List ℕ)) → link_in (with_ends names e ++ more) e ≡ link_in (with_ends names e) e
  link_kept more =
      let first = place_kept (with_ends names e) e.first more first_there in
      let second = place_kept (with_ends names e) e.second more (has_with (with_name names e.first) e.second) in
      λ j. record { link = (first j, second j, e.weight); line = e.line; exact = e.exact }

-- links made one after another are those between the places of all names
pub links_all : (names : List (List ℕ)) (es : List NamedEdge) → links_with names es ≡ map (link_in (names_with names es)) es
links_all names [] = refl
links_all names (e ∷ es) =
    let rest = all_grown (with_ends names e) es in
    let here = sym (ap (λ ns. link_in ns e) rest.1 ∙ link_kept names e rest.0) in
    λ j. here j ∷ links_all (with_ends names e) es j

-- one more edge
pub names-push : (names : List (List ℕ)) (es : List NamedEdge) (e : NamedEdge) → names_with names (es ++ e ∷ []) ≡ with_ends (names_with names es) e
names-push names [] e = refl
names-push names (d ∷ es) e = names-push (with_ends names d) es e
