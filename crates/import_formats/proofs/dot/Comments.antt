-- Comments between /* and */: where they end.
use Rattle.std.proofs.Common.{◌≡◌, ℕ, ◌+◌, ◌<◌, Bool, true, false, List, [], ◌∷◌, ◌++◌, length, refl, sym, ap, ◌∙◌, arith, eqb-true, ◌&&◌}
use Rattle.std.specs.Prelude.{◌==◌, codes}
use Rattle.std.proofs.lemmas.Bool.{false≢true, eqb-false}
use Rattle.import_formats.specs.dot.Runs.{slash_place}
use Rattle.import_formats.specs.dot.Lexemes.{Lacks}
use Rattle.import_formats.proofs.dot.ByteTests.{by_test, and_false, and_true}

-- no slash comes first
abbrev pub NoSlash : List ℕ → Type 0
NoSlash [] = Unit {0}
NoSlash (b ∷ bytes) = (b == 47) ≡ false

behind_star : (b : ℕ) (inside : List ℕ) → Lacks (codes "*/") (b ∷ inside) → (b == 42) ≡ true → NoSlash inside
behind_star b [] lacks star = tt
behind_star b (c ∷ inside) lacks star = by_test (c == 47) (λ slash. absurd (lacks [] inside (ap (λ x. x ∷ c ∷ inside) (eqb-true b 42 star) ∙ ap (λ x. 42 ∷ x ∷ inside) (eqb-true c 47 slash)))) (λ slash. slash)

not_here : (b : ℕ) (starred : Bool) (inside : List ℕ) → (starred ≡ true → NoSlash (b ∷ inside)) → (b == 47 && starred) ≡ false
not_here b true inside free = and_true (b == 47) ∙ free refl
not_here b false inside free = and_false (b == 47)

pub slash_place-Lacks : (inside : List ℕ) (starred : Bool) → Lacks (codes "*/") inside → (starred ≡ true → NoSlash inside) → (behind : List ℕ) → slash_place starred (inside ++ (42 ∷ 47 ∷ behind)) ≡ length inside + 1
slash_place-Lacks [] starred lacks free behind = refl
slash_place-Lacks (b ∷ inside) starred lacks free behind =
    (let more = slash_place-Lacks inside (b == 42) (λ front back e. lacks (b ∷ front) back (ap (λ x. b ∷ x) e)) (behind_star b inside lacks) behind in
    rw (not_here b starred inside free, more) (omega arith))

-- ---- a comment that ends

pub record CommentAt (bytes : List ℕ) : Type 0 where
  pub inside : List ℕ
  pub behind : List ℕ
  pub cut : bytes ≡ inside ++ (42 ∷ 47 ∷ behind)
  pub lacks : Lacks (codes "*/") inside

-- the bytes, with a star before them where one stands there
abbrev pub behind_a : Bool → List ℕ → List ℕ
behind_a true bytes = 42 ∷ bytes
behind_a false bytes = bytes

same_tail : (a b : ℕ) (x y : List ℕ) → a ∷ x ≡ b ∷ y → x ≡ y
same_tail a b x y e = cc

same_head : (a b : ℕ) (x y : List ℕ) → a ∷ x ≡ b ∷ y → a ≡ b
same_head a b x y e = cc

lacks_none : Lacks (codes "*/") []
lacks_none [] back e = cc
lacks_none (b ∷ front) back e = cc

lacks_cons : (b : ℕ) (inside : List ℕ) → ((back : List ℕ) → b ∷ inside ≡ 42 ∷ 47 ∷ back → ⊥) → Lacks (codes "*/") inside → Lacks (codes "*/") (b ∷ inside)
lacks_cons b inside here more [] back e = here back e
lacks_cons b inside here more (f ∷ front) back e = more front back (same_tail b f inside (front ++ (42 ∷ 47 ∷ back)) e)

ended_at : (b : ℕ) (bytes : List ℕ) (starred : Bool) → (b == 47 && starred) ≡ true → CommentAt (behind_a starred (b ∷ bytes))
ended_at b bytes true ends = record { inside = []; behind = bytes; cut = ap (λ x. 42 ∷ x ∷ bytes) (eqb-true b 47 (sym (and_true (b == 47)) ∙ ends)); lacks = lacks_none }
ended_at b bytes false ends = absurd (false≢true (sym (and_false (b == 47)) ∙ ends))

-- a comment with its first byte
from_first : (b : ℕ) (bytes : List ℕ) (star : Bool) → (b == 42) ≡ star → CommentAt (behind_a star bytes) → CommentAt (b ∷ bytes)
from_first b bytes true is at = record { inside = at.inside; behind = at.behind; cut = ap (λ x. x ∷ bytes) (eqb-true b 42 is) ∙ at.cut; lacks = at.lacks }
from_first b bytes false is at = record {
  inside = b ∷ at.inside;
  behind = at.behind;
  cut = ap (λ x. b ∷ x) at.cut;
  lacks = lacks_cons b at.inside (λ back e. eqb-false b 42 is (same_head b 42 at.inside (47 ∷ back) e)) at.lacks;
}

no_slash_first : (b : ℕ) (bytes inside behind back : List ℕ) → (b == 47) ≡ false → b ∷ bytes ≡ inside ++ (42 ∷ 47 ∷ behind) → inside ≡ 47 ∷ back → ⊥
no_slash_first b bytes inside behind back other cut e = eqb-false b 47 other (same_head b 47 bytes (back ++ (42 ∷ 47 ∷ behind)) (cut ∙ ap (λ x. x ++ (42 ∷ 47 ∷ behind)) e))

with_star : (b : ℕ) (bytes : List ℕ) (starred : Bool) → (b == 47 && starred) ≡ false → CommentAt (b ∷ bytes) → CommentAt (behind_a starred (b ∷ bytes))
with_star b bytes false on at = at
with_star b bytes true on at = record {
  inside = 42 ∷ at.inside;
  behind = at.behind;
  cut = ap (λ x. 42 ∷ x) at.cut;
  lacks = lacks_cons 42 at.inside (λ back e. no_slash_first b bytes at.inside at.behind back (sym (and_true (b == 47)) ∙ on) at.cut (same_tail 42 42 at.inside (47 ∷ back) e)) at.lacks;
}

pub comment_found : (bytes : List ℕ) (starred : Bool) → slash_place starred bytes < length bytes → CommentAt (behind_a starred bytes)
comment_found [] starred h = absurd (omega arith)
comment_found (b ∷ bytes) starred h =
    by_test (b == 47 && starred) (λ ends. ended_at b bytes starred ends)
    (λ on.
    let passed : slash_place starred (b ∷ bytes) ≡ 1 + slash_place (b == 42) bytes = rw on refl in
    with_star b bytes starred on (from_first b bytes (b == 42) refl (comment_found bytes (b == 42) (omega (arith, passed, h)))))
