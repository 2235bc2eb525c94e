-- The names read so far, and the tokens after them.
use Rattle.std.proofs.Common.{◌≡◌, ℕ, ◌+◌, ◌-◌, ◌≤◌, ◌<◌, List, [], ◌∷◌, ◌++◌, Option, Some, None, refl, sym, ap, ◌∙◌, arith, length, drop, length-drop, drop-drop}
use Rattle.std.specs.Prelude.{map}
use Rattle.std.proofs.lemmas.List.{length-map, drop-map}
use Rattle.model_text.specs.declared.stuck.Stuck.{Stuck}
use Rattle.model_text.specs.declared.stuck.Stuck.TheVariants.{Token, Memory}
use Rattle.model_text.specs.declared.expect.Ending.{Ending}
use Rattle.model_text.specs.declared.token.Lexeme.{Lexeme}
use Rattle.model_text.specs.Tokens.{Placed}
use Rattle.model_text.specs.Tree.{NameAt}
use Rattle.model_text.specs.View.{placed_of, placed_all}
use Rattle.model_text.specs.Causes.{Fails}
use Rattle.model_text.specs.Reading.{◌>>=◌, ending_at, another_at, names_at}
use Rattle.model_text.proofs.ItemsRead.{more_read, more_long, none_read, last_read}

-- no name stands after a comma
pub stuck_more : (s : Stuck) (e : Ending) (names : List NameAt) (ts : List Placed) (whole : Option (List NameAt × List Placed)) → names_at e names ts ≡ whole → Fails s (another_at ts) → Fails s whole
stuck_more Memory e names ts whole q h = tt
stuck_more (Token left expected) e names ts whole q h = sym q ∙ none_read e names ts h

-- no bracket ends the list
pub stuck_last : (s : Stuck) (e : Ending) (names : List NameAt) (ts : List Placed) (whole : Option (List NameAt × List Placed)) → names_at e names ts ≡ whole → another_at ts ≡ Some None → Fails s (ending_at e ts) → Fails s whole
stuck_last Memory e names ts whole q h f = tt
stuck_last (Token left expected) e names ts whole q h f = sym q ∙ last_read e names ts h ∙ ap (λ (o : Option (List Placed)). o >>= λ rest. Some (names, rest)) f

-- the list ends here
pub listed : (e : Ending) (names : List NameAt) (ts rest : List Placed) (whole : Option (List NameAt × List Placed)) → names_at e names ts ≡ whole → another_at ts ≡ Some None → ending_at e ts ≡ Some rest → whole ≡ Some (names, rest)
listed e names ts rest whole q h f = sym q ∙ last_read e names ts h ∙ ap (λ (o : Option (List Placed)). o >>= λ r. Some (names, r)) f

-- it goes on at a place
pub further : (e : Ending) (names : List NameAt) (n : NameAt) (all : List Lexeme) (at : ℕ) → another_at (placed_all (drop at all)) ≡ Some (Some n) → names_at e names (placed_all (drop at all)) ≡ names_at e (names ++ n ∷ []) (placed_all (drop (at + 2) all))
further e names n all at h =
    more_read e names n (placed_all (drop at all)) h
    ∙ ap (names_at e (names ++ n ∷ [])) (drop-map placed_of 2 (drop at all) ∙ ap placed_all (drop-drop 2 at all))

pub two_left : (n : NameAt) (all : List Lexeme) (at : ℕ) → at ≤ length all → another_at (placed_all (drop at all)) ≡ Some (Some n) → at + 2 ≤ length all
two_left n all at l h =
    let m : 2 ≤ length (placed_all (drop at all)) = more_long n (placed_all (drop at all)) h in
    let k : 2 ≤ length all - at = simp (length-map, length-drop) at m in
    omega arith
