-- Two programs are equal where their fields and their code are.
use Rattle.std.proofs.Common.{◌≡◌, ℕ, zero, suc, ◌<◌, List, [], ◌∷◌, length, get_or, map, refl, sym, ap, ◌∙◌, arith}
use Rattle.rule_lang.specs.declared.tree.Agg.{Agg}
use Rattle.rule_check.specs.declared.code.Instr.{Instr}
use Rattle.rule_check.specs.declared.parts.Field.{Field}
use Rattle.rule_check.specs.declared.parts.Gatherer.{Gatherer}
use Rattle.rule_check.specs.declared.parts.Rule.{Rule}
use Rattle.rule_check.specs.declared.program.Program.TheInside.{Inside}
use Rattle.rule_check.specs.Value.{Rules, Next, Part}
use Rattle.rule_check.specs.Gathering.{numbered}
use Rattle.rule_check.specs.Fields.{field_names}
use Rattle.rule_check.specs.Shapes.{rule_shape, part_shape}
use Rattle.rule_check.specs.Code.{name_at, tree_of_code}
use Rattle.rule_check.specs.Compiled.{decoded, decoded_part, decoded_next, IsCompiled, rule_code}

-- where two lists of shapes are equal, so are the shapes at one place
pub same_at : {A B : Type 0} (shape : A → B) (xs ys : List A) (k : ℕ) (x y : A) → x ≡ get_or xs k x → y ≡ get_or ys k y → k < length xs → k < length ys → map shape xs ≡ map shape ys → shape x ≡ shape y
same_at shape [] ys k x y at_x at_y in_xs in_ys e = absurd (omega arith)
same_at shape (v ∷ xs) [] k x y at_x at_y in_xs in_ys e = absurd (omega arith)
same_at shape (v ∷ xs) (w ∷ ys) zero x y at_x at_y in_xs in_ys e =
    let head : shape v ≡ shape w = cc in
    let at_x' : x ≡ v = at_x in
    let at_y' : y ≡ w = at_y in ap shape at_x' ∙ head ∙ sym (ap shape at_y')
same_at shape (v ∷ xs) (w ∷ ys) (suc k) x y at_x at_y in_xs in_ys e =
    let tail : map shape xs ≡ map shape ys = cc in same_at shape xs ys k x y at_x at_y (omega arith) (omega arith) tail

-- the aggregate, and the next item, that shapes stand for
abbrev shown_part : List (List ℕ) → Agg × List Instr → Part
shown_part names s = record { agg = s.0; body = tree_of_code names [] s.1 }

abbrev shown_next : List (List ℕ) → List Part → ℕ × List Instr → Next
shown_next names sums s = record { name = name_at names s.0; body = tree_of_code names sums s.1 }

-- the program that fields and shapes stand for
abbrev shown : List Field → List (Agg × List Instr) → List (ℕ × List Instr) → Rules
shown fields parts rules =
    record { fields = fields; nexts = map (shown_next (field_names fields) (map (shown_part (field_names fields)) parts)) rules }

shown_parts : (names : List (List ℕ)) (gs : List Gatherer) → map (decoded_part names) gs ≡ map (shown_part names) (map part_shape gs)
shown_parts names [] = refl
shown_parts names (g ∷ gs) = ap (λ ps. decoded_part names g ∷ ps) (shown_parts names gs)

shown_nexts : (names : List (List ℕ)) (sums : List Part) (rs : List Rule) → map (decoded_next names sums) rs ≡ map (shown_next names sums) (map rule_shape rs)
shown_nexts names sums [] = refl
shown_nexts names sums (r ∷ rs) = ap (λ ns. decoded_next names sums r ∷ ns) (shown_nexts names sums rs)

abbrev make_rules : List Field → List Next → Rules
make_rules fields nexts = record { fields = fields; nexts = nexts }

decoded_shown : (p : Inside) → decoded p ≡ shown p.fields.items (map part_shape p.gatherers.items) (map rule_shape p.rules.items)
decoded_shown p =
    let names = field_names p.fields.items in
    ap (λ sums. make_rules p.fields.items (map (decoded_next names sums) p.rules.items)) (shown_parts names p.gatherers.items)
    ∙ ap (make_rules p.fields.items) (shown_nexts names (map (shown_part names) (map part_shape p.gatherers.items)) p.rules.items)

-- programs of equal fields and code are equal
pub equal_from_code : (p q : Inside) → p.fields.items ≡ q.fields.items → map part_shape p.gatherers.items ≡ map part_shape q.gatherers.items → map rule_shape p.rules.items ≡ map rule_shape q.rules.items → decoded p ≡ decoded q
equal_from_code p q fields parts rules =
    decoded_shown p
    ∙ ap (λ fs. shown fs (map part_shape p.gatherers.items) (map rule_shape p.rules.items)) fields
    ∙ ap (λ ps. shown q.fields.items ps (map rule_shape p.rules.items)) parts
    ∙ ap (shown q.fields.items (map part_shape q.gatherers.items)) rules
    ∙ sym (decoded_shown q)

-- equal programs have rules of equal code
pub rules_from_equal : (p q : Inside) → IsCompiled p → IsCompiled q → decoded p ≡ decoded q → map rule_shape p.rules.items ≡ map rule_shape q.rules.items
rules_from_equal p q ok ok' e =
    ok.rules ∙ ap (λ (v : Rules). map (rule_code (field_names v.fields)) (numbered 0 v.nexts)) e ∙ sym ok'.rules
