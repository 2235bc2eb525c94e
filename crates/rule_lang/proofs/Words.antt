-- The reserved words, as bytes and as keywords.
use Rattle.std.proofs.Common.{◌≡◌, ℕ, List, [], ◌∷◌, true, false, Some, None, cond, refl, ap, ◌∙◌, map}
use Rattle.std.specs.Prelude.{◌≢◌}
use Rattle.std.specs.Str.{bytes_eq}
use Rattle.std.specs.List.{AllByRecursion}
use Rattle.std.proofs.lemmas.Slice.Eq.{bytes_eq-Decides}
use Rattle.rule_lang.specs.declared.keyword.Keyword.{Keyword}
use Rattle.rule_lang.specs.declared.keyword.Keyword.TheVariants.{Field, Next, Id, Degree, Not, Min, Max, Total, Least, Most, Count, Any, All, If, Then, Else, Round, Weight}
use Rattle.rule_lang.specs.Keywords.{keywords, word_of, first_keyword, keyword_of}
use Rattle.rule_lang.specs.Tree.{IsName}

-- the test of two texts
eq_of : (w r : List ℕ) → bytes_eq w r ≡ true → w ≡ r
eq_of w r e = (bytes_eq-Decides w r).0 e

ne_of : (w r : List ℕ) → bytes_eq w r ≡ false → w ≢ r
ne_of w r e = λ q. let t : bytes_eq w r ≡ true = (bytes_eq-Decides w r).1 q in cc

test_of_ne : (w r : List ℕ) → w ≢ r → bytes_eq w r ≡ false
test_of_ne w r n = elim (bytes_eq w r) as (λ b. bytes_eq w r ≡ b → b ≡ false) [ true ↦ (λ t. absurd (n (eq_of w r t))) | false ↦ (λ t. refl) ] refl

-- the keyword that was found has these bytes
found_word : (w : List ℕ) (ks : List Keyword) (k : Keyword) → first_keyword w ks ≡ Some k → w ≡ word_of k
found_word w [] k e = cc
found_word w (h ∷ ks) k e =
    elim (bytes_eq w (word_of h)) as (λ b. bytes_eq w (word_of h) ≡ b → cond b (Some h) (first_keyword w ks) ≡ Some k → w ≡ word_of k) [
      | true ↦ (λ t f. let s : h ≡ k = cc in eq_of w (word_of h) t ∙ ap word_of s)
      | false ↦ (λ t f. found_word w ks k f)
    ] refl e

pub keyword_word : (w : List ℕ) (k : Keyword) → keyword_of w ≡ Some k → w ≡ word_of k
unfolding keyword_of
keyword_word w k e = found_word w keywords k e

pub word_keyword : (k : Keyword) → keyword_of (word_of k) ≡ Some k
unfolding keyword_of
word_keyword Field = refl
word_keyword Next = refl
word_keyword Id = refl
word_keyword Degree = refl
word_keyword Not = refl
word_keyword Min = refl
word_keyword Max = refl
word_keyword Total = refl
word_keyword Least = refl
word_keyword Most = refl
word_keyword Count = refl
word_keyword Any = refl
word_keyword All = refl
word_keyword If = refl
word_keyword Then = refl
word_keyword Else = refl
word_keyword Round = refl
word_keyword Weight = refl

-- the word of none of these keywords
abbrev FitsNone : List ℕ → List Keyword → Type 0
FitsNone w ks = AllByRecursion (λ r. w ≢ r) (map word_of ks)

none_apart : (w : List ℕ) (ks : List Keyword) → first_keyword w ks ≡ None → FitsNone w ks
none_apart w [] e = tt
none_apart w (h ∷ ks) e =
    elim (bytes_eq w (word_of h)) as (λ b. bytes_eq w (word_of h) ≡ b → cond b (Some h) (first_keyword w ks) ≡ None → FitsNone w (h ∷ ks)) [
      | true ↦ (λ t f. cc)
      | false ↦ (λ t f. (ne_of w (word_of h) t, none_apart w ks f))
    ] refl e

apart_none : (w : List ℕ) (ks : List Keyword) → FitsNone w ks → first_keyword w ks ≡ None
apart_none w [] n = refl
apart_none w (h ∷ ks) n = rw (test_of_ne w (word_of h) n.0) (apart_none w ks n.1)

-- a name is a word of no keyword
pub name_of_none : (w : List ℕ) → keyword_of w ≡ None → IsName w
unfolding keyword_of
name_of_none w e = none_apart w keywords e

pub none_of_name : (w : List ℕ) → IsName w → keyword_of w ≡ None
unfolding keyword_of
none_of_name w n = apart_none w keywords n
