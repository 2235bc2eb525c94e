-- The lines of links tell the links.
use Rattle.std.proofs.Common.{◌≡◌, ◌∙◌, ◌<◌, ◌^◌, ◌==◌, ℕ, suc, List, [], ◌∷◌, ◌++◌, Bool, true, false, if◌then◌else◌, ap, append_assoc, arith, codes, drop, get_or, length, refl, sym}
use Rattle.std.proofs.lemmas.Bool.Decides.{nat_tests}
use Rattle.std.proofs.lemmas.List.{append_cancel_left}
use Rattle.std.specs.Fmt.{decimal}
use Rattle.report_text.specs.Front.{Ends}
use Rattle.report_text.proofs.Digits.{number_once}
use Rattle.run_picture.specs.Drawn.{link_line, weight_text}
use Rattle.run_picture.specs.DrawnLinks.{FitsWords, LinesTellLinks, lines_of}

-- a weight as it is shown, by whether it is 1
abbrev shown : Bool → ℕ → List ℕ
shown one x = if one then [] else codes " [label=\"" ++ (decimal x ++ codes "\"]")

-- what stands after the second node: the weight, and the line's end
abbrev tail_of : Bool → ℕ → List ℕ → List ℕ
tail_of one x rest = shown one x ++ (codes ";\n" ++ rest)

tail_ends : (one : Bool) (x : ℕ) (rest : List ℕ) → Ends (tail_of one x rest)
tail_ends true x rest = refl
tail_ends false x rest = refl

label_apart : (x : ℕ) (rest : List ℕ) → tail_of false x rest ≡ codes " [label=\"" ++ (decimal x ++ (codes "\"];\n" ++ rest))
label_apart x rest = ap (λ (text : List ℕ). codes " [label=\"" ++ text) (append_assoc (decimal x) (codes "\"]") (codes ";\n" ++ rest))

tail_once : (one other : Bool) (x y : ℕ) (rest more : List ℕ) → (x == 1) ≡ one → (y == 1) ≡ other → x < 2 ^ 32 → y < 2 ^ 32 → tail_of one x rest ≡ tail_of other y more → (x ≡ y) × (rest ≡ more)
tail_once true true x y rest more is are small tiny same =
    let first : x ≡ 1 = grind (arith, nat_tests, is) in
    let second : y ≡ 1 = grind (arith, nat_tests, are) in
    (first ∙ sym second, append_cancel_left (codes ";\n") rest more same)
tail_once true false x y rest more is are small tiny same = absurd (let e : 59 ≡ 32 = ap (λ (text : List ℕ). get_or text 0 0) same in omega (arith, e))
tail_once false true x y rest more is are small tiny same = absurd (let e : 32 ≡ 59 = ap (λ (text : List ℕ). get_or text 0 0) same in omega (arith, e))
tail_once false false x y rest more is are small tiny same =
    let labels = append_cancel_left (codes " [label=\"") (decimal x ++ (codes "\"];\n" ++ rest)) (decimal y ++ (codes "\"];\n" ++ more)) (sym (label_apart x rest) ∙ same ∙ label_apart y more) in
    let parts = number_once x y (codes "\"];\n" ++ rest) (codes "\"];\n" ++ more) small tiny refl refl labels in
    (parts.0, append_cancel_left (codes "\"];\n") rest more parts.1)

-- the parts of a line, and what stands after it
line_apart : (u w x : ℕ) (rest : List ℕ) → link_line u w x ++ rest ≡ codes "  " ++ (decimal u ++ (codes " -- " ++ (decimal w ++ tail_of (x == 1) x rest)))
unfolding link_line
line_apart u w x rest =
    ap (λ (text : List ℕ). codes "  " ++ text)
    (append_assoc (decimal u) (codes " -- " ++ (decimal w ++ (weight_text x ++ codes ";\n"))) rest
    ∙ ap (λ (text : List ℕ). decimal u ++ (codes " -- " ++ text))
    (append_assoc (decimal w) (weight_text x ++ codes ";\n") rest ∙ ap (λ (text : List ℕ). decimal w ++ text) (append_assoc (weight_text x) (codes ";\n") rest)))

-- the line at the front of a text tells its link
record SameFront (k l : ℕ × ℕ × ℕ) (rest more : List ℕ) : Type 0 where
  link : k ≡ l
  behind : rest ≡ more

line_once : (k l : ℕ × ℕ × ℕ) (rest more : List ℕ) → FitsWords k → FitsWords l → link_line k.0 k.1 k.2 ++ rest ≡ link_line l.0 l.1 l.2 ++ more → SameFront k l rest more
line_once k l rest more small tiny same =
    let one = tail_of (k.2 == 1) k.2 rest in
    let other = tail_of (l.2 == 1) l.2 more in
    let lines = sym (line_apart k.0 k.1 k.2 rest) ∙ same ∙ line_apart l.0 l.1 l.2 more in
    let firsts = append_cancel_left (codes "  ") (decimal k.0 ++ (codes " -- " ++ (decimal k.1 ++ one))) (decimal l.0 ++ (codes " -- " ++ (decimal l.1 ++ other))) lines in
    let first = number_once k.0 l.0 (codes " -- " ++ (decimal k.1 ++ one)) (codes " -- " ++ (decimal l.1 ++ other)) small.0 tiny.0 refl refl firsts in
    let seconds = append_cancel_left (codes " -- ") (decimal k.1 ++ one) (decimal l.1 ++ other) first.1 in
    let second = number_once k.1 l.1 one other small.1 tiny.1 (tail_ends (k.2 == 1) k.2 rest) (tail_ends (l.2 == 1) l.2 more) seconds in
    let third = tail_once (k.2 == 1) (l.2 == 1) k.2 l.2 rest more refl refl small.2 tiny.2 second.1 in
    record { link = λ i. (first.0 i, second.0 i, third.0 i); behind = third.1 }

-- no line is empty
line_some : (l : ℕ × ℕ × ℕ) (rest : List ℕ) → [] ≡ link_line l.0 l.1 l.2 ++ rest → ⊥
line_some l rest same = let e : 0 ≡ suc (length (drop 1 (codes "  " ++ (decimal l.0 ++ (codes " -- " ++ (decimal l.1 ++ tail_of (l.2 == 1) l.2 rest)))))) = ap length (same ∙ line_apart l.0 l.1 l.2 rest) in omega (arith, e)

pub lines_tell_links : LinesTellLinks
lines_tell_links [] [] small tiny same = refl
lines_tell_links [] (l ∷ others) small tiny same = absurd (line_some l (lines_of others) same)
lines_tell_links (k ∷ links) [] small tiny same = absurd (line_some k (lines_of links) (sym same))
lines_tell_links (k ∷ links) (l ∷ others) small tiny same =
    let front = line_once k l (lines_of links) (lines_of others) (small 0 k (omega arith)) (tiny 0 l (omega arith)) same in
    let rest = lines_tell_links links others (λ i d inside. small (suc i) d (omega (arith, inside))) (λ i d inside. tiny (suc i) d (omega (arith, inside))) front.behind in
    λ i. front.link i ∷ rest i
