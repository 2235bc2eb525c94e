-- Expressions: what is spelled so is read.
use Rattle.std.proofs.Common.{◌≡◌, ℕ, zero, suc, ◌+◌, ◌-◌, ◌≤◌, ◌<◌, List, ◌∷◌, true, false, Option, Some, None, refl, sym, subst, ◌∙◌, arith, nat_lt}
use Rattle.std.proofs.lemmas.Bool.Decides.{nat_tests}
use Rattle.model_text.specs.declared.tree.Operator.{Operator}
use Rattle.model_text.specs.declared.tree.Decimal.{Decimal}
use Rattle.model_text.specs.declared.tree.Function.{Function}
use Rattle.model_text.specs.declared.token.Sign.TheVariants as sign
use Rattle.model_text.specs.Tokens.{SignTok, Placed, placed}
use Rattle.model_text.specs.Tree.{Tree, NumberTree, NothingTree, NameTree, IdTree, DegreeTree, RoundTree, NearTree, NearIdTree, NearWeightTree, InfixTree, NotTree, ParensTree, IfTree, CasesTree, CallTree, ApplyTree, ChanceTree, ChanceOfTree, ArmTree, OneArm, ElseArm, ArgumentTree, NoArgument, OneArgument}
use Rattle.model_text.specs.Grammar.{operator_token, operator_level, level, is_open, is_chain, Precedes, IsLevelled, AreLevelledArms, AreLevelled, Spells, SpellsArms, SpellsArguments, SpellsMore, SpellsChance}
use Rattle.model_text.specs.Reading.{Reads, open_at, close_at, then_at, else_at, colon_at, semicolon_at, operator_at, parens_at, if_at, not_at, cases_at, named_at, chance_at, keyword_at, form_at, ended_at, joined_at, more_at, value_at, else_arm_at, one_arm_at, arm_at, argument_at, first_at, next_at, expr_at, arms_at, arguments_at, others_at}
use Rattle.model_text.proofs.Nesting.{row, nesting, arms_nesting, arguments_nesting}
use Rattle.model_text.proofs.SingleTokens.{close_reads, open_reads, then_reads, else_reads, brace_open_reads, brace_close_reads, colon_reads, semicolon_reads, decimal_reads, operator_reads, operator_no_open, below_not, Closed, close_closes, comma_closes, semicolon_closes, colon_closes, then_closes, else_closes}

-- what may stand after an expression: an operator that it precedes, or no operator; and no opening bracket
pub record Behind (t : Tree) (rest : List Placed) : Type 0 where
  pub operator : (x : Operator × ℕ × List Placed) → operator_at rest ≡ Some x → Precedes t x.0
  pub no_open : open_at rest ≡ None

pub behind_closed : (t : Tree) (rest : List Placed) → Closed rest → Behind t rest
behind_closed t rest c = record { operator = λ x q. absurd (let n = c.no_operator in let e : None ≡ Some x = sym n ∙ q in cc); no_open = c.no_open }

-- the expression is read from a level on, up to the operators after it
abbrev pub Begins : Tree → Type 0
Begins t = (d l j : ℕ) (ts rest : List Placed) → l ≤ level t → nesting t ≤ suc d → row t + j ≡ d → IsLevelled t → Spells t ts rest → Behind t rest → expr_at (suc d) l ts ≡ more_at (expr_at d) j l t rest

-- the expression is read, where no operator of its level or a greater one stands after it
abbrev pub Reads_whole : Tree → Type 0
Reads_whole t = (d l : ℕ) (ts rest : List Placed) → l ≤ level t → nesting t ≤ d → IsLevelled t → Spells t ts rest → Behind t rest → ((x : Operator × ℕ × List Placed) → operator_at rest ≡ Some x → operator_level x.0 < l) → expr_at d l ts ≡ Some (t, rest)

lt_true : (m n : ℕ) → m < n → nat_lt m n ≡ true
lt_true m n h = grind (arith, nat_tests)

lt_false : (m n : ℕ) → n ≤ m → nat_lt m n ≡ false
lt_false m n h = grind (arith, nat_tests)

row_nesting : (t : Tree) → row t + 1 ≤ nesting t
row_nesting (InfixTree o at a b) = omega arith
row_nesting (NumberTree n at) = omega arith
row_nesting (NothingTree at) = omega arith
row_nesting (NameTree w at) = omega arith
row_nesting (IdTree at) = omega arith
row_nesting (DegreeTree at) = omega arith
row_nesting (RoundTree at) = omega arith
row_nesting (NearTree w at) = omega arith
row_nesting (NearIdTree at) = omega arith
row_nesting (NearWeightTree at) = omega arith
row_nesting (NotTree at a) = omega arith
row_nesting (ParensTree at a) = omega arith
row_nesting (IfTree at a b c) = omega arith
row_nesting (CasesTree at a) = omega arith
row_nesting (CallTree f at a) = omega arith
row_nesting (ApplyTree w at a) = omega arith
row_nesting (ChanceTree at d) = omega arith
row_nesting (ChanceOfTree at d) = omega arith

some_nesting : (t : Tree) → 1 ≤ nesting t
some_nesting (InfixTree o at a b) = omega arith
some_nesting (NumberTree n at) = omega arith
some_nesting (NothingTree at) = omega arith
some_nesting (NameTree w at) = omega arith
some_nesting (IdTree at) = omega arith
some_nesting (DegreeTree at) = omega arith
some_nesting (RoundTree at) = omega arith
some_nesting (NearTree w at) = omega arith
some_nesting (NearIdTree at) = omega arith
some_nesting (NearWeightTree at) = omega arith
some_nesting (NotTree at a) = omega arith
some_nesting (ParensTree at a) = omega arith
some_nesting (IfTree at a b c) = omega arith
some_nesting (CasesTree at a) = omega arith
some_nesting (CallTree f at a) = omega arith
some_nesting (ApplyTree w at a) = omega arith
some_nesting (ChanceTree at d) = omega arith
some_nesting (ChanceOfTree at d) = omega arith

-- no operator of this level or a greater one: nothing more is read
ended_stops : (l : ℕ) (left : Tree) (ts : List Placed) (o : Option (Operator × ℕ × List Placed)) → operator_at ts ≡ o → ((x : Operator × ℕ × List Placed) → operator_at ts ≡ Some x → operator_level x.0 < l) → ended_at l left o ts ≡ Some (left, ts)
ended_stops l left ts None q h = refl
ended_stops l left ts (Some y) q h = rw (lt_true (operator_level y.0) l (h y q)) refl

joined_stops : (expr : ℕ → Reads Tree) (more : Tree → Reads Tree) (l : ℕ) (left : Tree) (ts : List Placed) (o : Option (Operator × ℕ × List Placed)) → operator_at ts ≡ o → ((x : Operator × ℕ × List Placed) → operator_at ts ≡ Some x → operator_level x.0 < l) → joined_at expr more l left o ts ≡ Some (left, ts)
joined_stops expr more l left ts None q h = refl
joined_stops expr more l left ts (Some y) q h = rw (lt_true (operator_level y.0) l (h y q)) refl

more_stops : (expr : ℕ → Reads Tree) (j l : ℕ) (left : Tree) (ts : List Placed) → ((x : Operator × ℕ × List Placed) → operator_at ts ≡ Some x → operator_level x.0 < l) → more_at expr j l left ts ≡ Some (left, ts)
unfolding more_at
more_stops expr zero l left ts h = ended_stops l left ts (operator_at ts) refl h
more_stops expr (suc j) l left ts h = joined_stops expr (more_at expr j l) l left ts (operator_at ts) refl h

-- an operator and a right part
more_joins : (expr : ℕ → Reads Tree) (j l : ℕ) (left right : Tree) (o : Operator) (at : ℕ) (b rest : List Placed) → l ≤ operator_level o → is_chain left o ≡ false → expr (suc (operator_level o)) b ≡ Some (right, rest) → more_at expr (suc j) l left (placed (operator_token o) at ∷ b) ≡ more_at expr j l (InfixTree o at left right) rest
unfolding more_at
more_joins expr j l left right o at b rest h c e = rw (operator_reads o at b) (rw (lt_false (operator_level o) l h) (rw c (rw e refl)))

pub whole : (t : Tree) → Begins t → Reads_whole t
whole t g zero l ts rest h k v s b n = absurd (let m = some_nesting t in omega arith)
whole t g (suc d) l ts rest h k v s b n =
    let r = row_nesting t in
    g d l (d - row t) ts rest h k (omega arith) v s b ∙ more_stops (expr_at d) (d - row t) l t rest n

-- the expression is read with no level wanted, where no operator stands after it
pub part : (t : Tree) → Begins t → (d : ℕ) (ts rest : List Placed) → nesting t ≤ d → IsLevelled t → Spells t ts rest → Closed rest → expr_at d 0 ts ≡ Some (t, rest)
part t g d ts rest k v s c = whole t g d 0 ts rest (omega arith) k v s (behind_closed t rest c) (λ x q. absurd (let n = c.no_operator in let e : None ≡ Some x = sym n ∙ q in cc))

-- an infix
infix_behind : (o : Operator) (at : ℕ) (left right : Tree) (b : List Placed) → Precedes left o → Behind left (placed (operator_token o) at ∷ b)
infix_behind o at left right b p = record {
  operator = λ x q. let e : Some (o, at, b) ≡ Some x = sym (operator_reads o at b) ∙ q in let m : (o, at, b) ≡ x = cc in subst (λ z. Precedes left z.0) m p;
  no_open = operator_no_open o at b;
}

-- after the right part of an infix
chain_false : (right : Tree) (o p : Operator) → operator_level o < level right → operator_level p ≤ operator_level o → is_chain right p ≡ false
chain_false right o p h k = grind (arith, nat_tests)

right_behind : (o : Operator) (at : ℕ) (left right : Tree) (rest : List Placed) → operator_level o < level right → Behind (InfixTree o at left right) rest → Behind right rest
right_behind o at left right rest h b = record {
  operator = λ x q. let p = b.operator x q in let k = p.0 in ((omega arith), chain_false right o x.0 h k, p.2);
  no_open = b.no_open;
}

infix_begins : (o : Operator) (at : ℕ) (left right : Tree) → Begins left → Begins right → Begins (InfixTree o at left right)
infix_begins o at left right gl gr d l j ts rest h k r v s b =
    let p = v.2 in
    gl d l (suc j) ts (placed (operator_token o) at ∷ s.0) (let m = p.0 in omega arith) (omega arith) (omega arith) v.0 s.1 (infix_behind o at left right s.0 p)
    ∙ more_joins (expr_at d) j l left right o at s.0 rest h p.1
    (whole right gr d (suc (operator_level o)) s.0 rest (let m = v.3 in omega arith) (omega arith) v.1 s.2 (right_behind o at left right rest v.3 b) (λ x q. let m = (b.operator x q).0 in omega arith))

-- the others: what form_at reads
form_begins : (t : Tree) → row t ≡ 0 → ((d l : ℕ) (ts rest : List Placed) → l ≤ level t → nesting t ≤ suc d → IsLevelled t → Spells t ts rest → Behind t rest → form_at (expr_at d) (arms_at d) (arguments_at d) l ts ≡ Some (t, rest)) → Begins t
unfolding expr_at
form_begins t z f d l j ts rest h k r v s b =
    let m : j ≡ d = omega arith in
    rw (m, f d l ts rest h k v s b) refl

-- leaves
leaf_number : (n at : ℕ) → Begins (NumberTree n at)
unfolding form_at
leaf_number n at = form_begins (NumberTree n at) refl (λ d l ts rest h k v s b. rw s refl)

leaf_near : (w : List ℕ) (at : ℕ) → Begins (NearTree w at)
unfolding form_at
leaf_near w at = form_begins (NearTree w at) refl (λ d l ts rest h k v s b. rw s refl)

leaf_near_id : (at : ℕ) → Begins (NearIdTree at)
unfolding form_at
leaf_near_id at = form_begins (NearIdTree at) refl (λ d l ts rest h k v s b. rw s refl)

leaf_near_weight : (at : ℕ) → Begins (NearWeightTree at)
unfolding form_at
leaf_near_weight at = form_begins (NearWeightTree at) refl (λ d l ts rest h k v s b. rw s refl)

leaf_nothing : (at : ℕ) → Begins (NothingTree at)
unfolding form_at keyword_at
leaf_nothing at = form_begins (NothingTree at) refl (λ d l ts rest h k v s b. rw s refl)

leaf_id : (at : ℕ) → Begins (IdTree at)
unfolding form_at keyword_at
leaf_id at = form_begins (IdTree at) refl (λ d l ts rest h k v s b. rw s refl)

leaf_degree : (at : ℕ) → Begins (DegreeTree at)
unfolding form_at keyword_at
leaf_degree at = form_begins (DegreeTree at) refl (λ d l ts rest h k v s b. rw s refl)

leaf_round : (at : ℕ) → Begins (RoundTree at)
unfolding form_at keyword_at
leaf_round at = form_begins (RoundTree at) refl (λ d l ts rest h k v s b. rw s refl)

-- names
named_plain : (arguments : Reads ArgumentTree) (w : List ℕ) (at : ℕ) (ts : List Placed) → open_at ts ≡ None → named_at arguments w at ts ≡ Some (NameTree w at, ts)
unfolding named_at open_at
named_plain arguments w at (placed (SignTok sign.Open) p ∷ ts) e = absurd (cc)
named_plain arguments w at ts e = refl

name_begins : (w : List ℕ) (at : ℕ) → Begins (NameTree w at)
unfolding form_at
name_begins w at = form_begins (NameTree w at) refl (λ d l ts rest h k v s b. rw s (named_plain (arguments_at d) w at rest b.no_open))

-- brackets
parens_reads : (expr : ℕ → Reads Tree) (at : ℕ) (a : Tree) (ts b rest : List Placed) → expr 0 ts ≡ Some (a, b) → close_at b ≡ Some rest → parens_at expr at ts ≡ Some (ParensTree at a, rest)
unfolding parens_at
parens_reads expr at a ts b rest e f = rw (e, f) refl

parens_begins : (at : ℕ) (a : Tree) → Begins a → Begins (ParensTree at a)
unfolding form_at
parens_begins at a g = form_begins (ParensTree at a) refl (λ d l ts rest h k v s b.
    rw s.2 (parens_reads (expr_at d) at a s.0 s.1 rest (part a g d s.0 s.1 (omega arith) v s.3 (close_closes s.1 rest s.4)) (close_reads s.1 rest s.4)))

-- `not`
not_reads : (expr : ℕ → Reads Tree) (l at : ℕ) (a : Tree) (ts rest : List Placed) → l ≤ 3 → expr 3 ts ≡ Some (a, rest) → not_at expr l at ts ≡ Some (NotTree at a, rest)
unfolding not_at
not_reads expr l at a ts rest h e = rw (lt_false 3 l h) (rw e refl)

not_chain : (a : Tree) (p : Operator) → operator_level p ≤ 3 → is_chain a p ≡ false
not_chain a p k = grind (arith, nat_tests)

not_behind : (at : ℕ) (a : Tree) (rest : List Placed) → 3 ≤ level a → Behind (NotTree at a) rest → Behind a rest
not_behind at a rest h b = record {
  operator = λ x q. let p = b.operator x q in let k = p.0 in ((omega arith), not_chain a x.0 k, p.2);
  no_open = b.no_open;
}

not_begins : (at : ℕ) (a : Tree) → Begins a → Begins (NotTree at a)
unfolding form_at keyword_at
not_begins at a g = form_begins (NotTree at a) refl (λ d l ts rest h k v s b.
    rw s.1 (not_reads (expr_at d) l at a s.0 rest h (whole a g d 3 s.0 rest v.1 (omega arith) v.0 s.2 (not_behind at a rest v.1 b) (λ x q. below_not x.0 (b.operator x q).0))))

-- `if`
if_reads : (expr : ℕ → Reads Tree) (at : ℕ) (t y n : Tree) (a b c d e rest : List Placed) → expr 0 a ≡ Some (t, b) → then_at b ≡ Some c → expr 0 c ≡ Some (y, d) → else_at d ≡ Some e → expr 0 e ≡ Some (n, rest) → if_at expr at a ≡ Some (IfTree at t y n, rest)
unfolding if_at
if_reads expr at t y n a b c d e rest h1 h2 h3 h4 h5 = rw (h1, h2, h3, h4, h5) refl

-- after an open expression stands no operator
no_operator : (rest : List Placed) (t : Tree) → is_open t ≡ true → Behind t rest → (x : Operator × ℕ × List Placed) → operator_at rest ≡ Some x → ⊥
no_operator rest t o b x q = let p = (b.operator x q).2 in let c : true ≡ false = sym o ∙ p in cc

if_begins : (at : ℕ) (t y n : Tree) → Begins t → Begins y → Begins n → Begins (IfTree at t y n)
unfolding form_at keyword_at
if_begins at t y n gt gy gn = form_begins (IfTree at t y n) refl (λ d l ts rest h k v s b.
    rw s.5 (if_reads (expr_at d) at t y n s.0 s.1 s.2 s.3 s.4 rest
    (part t gt d s.0 s.1 (omega arith) v.0 s.6 (then_closes s.1 s.2 s.7)) (then_reads s.1 s.2 s.7)
    (part y gy d s.2 s.3 (omega arith) v.1 s.8 (else_closes s.3 s.4 s.9)) (else_reads s.3 s.4 s.9)
    (whole n gn d 0 s.4 rest (omega arith) (omega arith) v.2 s.10 (record { operator = λ x q. absurd (no_operator rest (IfTree at t y n) refl b x q); no_open = b.no_open }) (λ x q. absurd (no_operator rest (IfTree at t y n) refl b x q)))))

-- `chance` and `chance_of`
chance_reads : (d : Decimal) (ts rest : List Placed) → SpellsChance d ts rest → chance_at ts ≡ Some (d, rest)
unfolding chance_at
chance_reads d ts rest s = rw (open_reads ts s.0 s.3) (rw (decimal_reads s.0 s.1 d s.2 s.4 s.5) (rw (close_reads s.1 rest s.6) refl))

chance_begins : (at : ℕ) (d : Decimal) → Begins (ChanceTree at d)
unfolding form_at keyword_at
chance_begins at d = form_begins (ChanceTree at d) refl (λ e l ts rest h k v s b. rw s.1 (rw (chance_reads d s.0 rest s.2) refl))

chance_of_begins : (at : ℕ) (d : Decimal) → Begins (ChanceOfTree at d)
unfolding form_at keyword_at
chance_of_begins at d = form_begins (ChanceOfTree at d) refl (λ e l ts rest h k v s b. rw s.1 (rw (chance_reads d s.0 rest s.2) refl))

-- `cases`, calls
abbrev pub ArmsRead : ArmTree → Type 0
ArmsRead arms = (d : ℕ) (ts rest : List Placed) → arms_nesting arms ≤ d → AreLevelledArms arms → SpellsArms arms ts rest → arms_at d ts ≡ Some (arms, rest)

abbrev pub ArgumentsRead : ArgumentTree → Type 0
ArgumentsRead a = (d : ℕ) (ts rest : List Placed) → arguments_nesting a ≤ d → AreLevelled a → SpellsArguments a ts rest → arguments_at d ts ≡ Some (a, rest)

abbrev pub OthersRead : ArgumentTree → Type 0
OthersRead a = (d : ℕ) (ts rest : List Placed) → arguments_nesting a ≤ d → AreLevelled a → SpellsMore a ts rest → others_at d ts ≡ Some (a, rest)

cases_begins : (at : ℕ) (arms : ArmTree) → ArmsRead arms → Begins (CasesTree at arms)
unfolding form_at keyword_at cases_at
cases_begins at arms g = form_begins (CasesTree at arms) refl (λ d l ts rest h k v s b.
    rw s.2 (rw (brace_open_reads s.0 s.1 s.3) (rw (g d s.1 rest (omega arith) v s.4) refl)))

call_begins : (f : Function) (at : ℕ) (a : ArgumentTree) → ArgumentsRead a → Begins (CallTree f at a)
unfolding form_at keyword_at
call_begins f at a g = form_begins (CallTree f at a) refl (λ d l ts rest h k v s b.
    rw s.2 (rw (open_reads s.0 s.1 s.3) (rw (g d s.1 rest (omega arith) v s.4) refl)))

apply_begins : (w : List ℕ) (at : ℕ) (a : ArgumentTree) → ArgumentsRead a → Begins (ApplyTree w at a)
unfolding form_at named_at
apply_begins w at a g = form_begins (ApplyTree w at a) refl (λ d l ts rest h k v s b.
    rw s.2 (rw s.3.1 (rw (g d s.1 rest (omega arith) v s.4) refl)))

-- an expression begins neither with `else` nor with a closing bracket
pub starts : (t : Tree) (ts rest : List Placed) → Spells t ts rest → (else_at ts ≡ None) × (close_at ts ≡ None)
unfolding else_at close_at
starts (InfixTree o at a b) ts rest s = starts a ts (placed (operator_token o) at ∷ s.0) s.1
starts (NumberTree n at) ts rest s = rw s (refl, refl)
starts (NothingTree at) ts rest s = rw s (refl, refl)
starts (NameTree w at) ts rest s = rw s (refl, refl)
starts (IdTree at) ts rest s = rw s (refl, refl)
starts (DegreeTree at) ts rest s = rw s (refl, refl)
starts (RoundTree at) ts rest s = rw s (refl, refl)
starts (NearTree w at) ts rest s = rw s (refl, refl)
starts (NearIdTree at) ts rest s = rw s (refl, refl)
starts (NearWeightTree at) ts rest s = rw s (refl, refl)
starts (NotTree at a) ts rest s = rw s.1 (refl, refl)
starts (ParensTree at a) ts rest s = rw s.2 (refl, refl)
starts (IfTree at a b c) ts rest s = rw s.5 (refl, refl)
starts (CasesTree at a) ts rest s = rw s.2 (refl, refl)
starts (CallTree f at a) ts rest s = rw s.2 (refl, refl)
starts (ApplyTree w at a) ts rest s = rw s.2 (refl, refl)
starts (ChanceTree at d) ts rest s = rw s.1 (refl, refl)
starts (ChanceOfTree at d) ts rest s = rw s.1 (refl, refl)

-- a colon, a value and a semicolon
value_reads : (expr : ℕ → Reads Tree) (v : Tree) (a b c rest : List Placed) → colon_at a ≡ Some b → expr 0 b ≡ Some (v, c) → semicolon_at c ≡ Some rest → value_at expr a ≡ Some (v, rest)
unfolding value_at
value_reads expr v a b c rest e f g = rw (e, f, g) refl

else_arm_reads : (v : Tree) → Begins v → ArmsRead (ElseArm v)
unfolding expr_at arm_at else_at else_arm_at
else_arm_reads v g zero ts rest k l s = absurd (omega arith)
else_arm_reads v g (suc d) ts rest k l s =
    rw s.4.1 (rw (value_reads (expr_at d) v s.0 s.1 s.2 s.3 (colon_reads s.0 s.1 s.5) (part v g d s.1 s.2 (omega arith) l s.6 (semicolon_closes s.2 s.3 s.7)) (semicolon_reads s.2 s.3 s.7)) (rw (brace_close_reads s.3 rest s.8) refl))

arm_plain : (expr : ℕ → Reads Tree) (arms : Reads ArmTree) (ts : List Placed) → else_at ts ≡ None → arm_at expr arms ts ≡ one_arm_at expr arms ts
unfolding arm_at
arm_plain expr arms ts e = rw e refl

one_arm_chain : (expr : ℕ → Reads Tree) (arms : Reads ArmTree) (t v : Tree) (r : ArmTree) (ts a b rest : List Placed) → expr 0 ts ≡ Some (t, a) → value_at expr a ≡ Some (v, b) → arms b ≡ Some (r, rest) → one_arm_at expr arms ts ≡ Some (OneArm t v r, rest)
unfolding one_arm_at
one_arm_chain expr arms t v r ts a b rest e f g = rw (e, f, g) refl

one_arm_reads : (t v : Tree) (r : ArmTree) → Begins t → Begins v → ArmsRead r → ArmsRead (OneArm t v r)
unfolding expr_at
one_arm_reads t v r gt gv gr zero ts rest k l s = absurd (omega arith)
one_arm_reads t v r gt gv gr (suc d) ts rest k l s =
    arm_plain (expr_at d) (arms_at d) ts (starts t ts s.0 s.4).0
    ∙ one_arm_chain (expr_at d) (arms_at d) t v r ts s.0 s.3 rest (part t gt d ts s.0 (omega arith) l.0 s.4 (colon_closes s.0 s.1 s.5))
    (value_reads (expr_at d) v s.0 s.1 s.2 s.3 (colon_reads s.0 s.1 s.5) (part v gv d s.1 s.2 (omega arith) l.1 s.6 (semicolon_closes s.2 s.3 s.7)) (semicolon_reads s.2 s.3 s.7))
    (gr d s.3 rest (omega arith) l.2 s.8)

-- arguments
argument_chain : (expr : ℕ → Reads Tree) (others : Reads ArgumentTree) (t : Tree) (r : ArgumentTree) (ts a rest : List Placed) → expr 0 ts ≡ Some (t, a) → others a ≡ Some (r, rest) → argument_at expr others ts ≡ Some (OneArgument t r, rest)
unfolding argument_at
argument_chain expr others t r ts a rest e f = rw (e, f) refl

-- what follows an argument closes it
more_closes : (r : ArgumentTree) (ts rest : List Placed) → SpellsMore r ts rest → Closed ts
more_closes NoArgument ts rest s = close_closes ts rest s
more_closes (OneArgument t r) ts rest s = comma_closes ts s.0 s.2

first_plain : (expr : ℕ → Reads Tree) (others : Reads ArgumentTree) (ts : List Placed) → close_at ts ≡ None → first_at expr others ts ≡ argument_at expr others ts
unfolding first_at
first_plain expr others ts e = rw e refl

no_first : ArgumentsRead NoArgument
unfolding expr_at first_at close_at
no_first zero ts rest k l s = absurd (omega arith)
no_first (suc d) ts rest k l s = rw s.1 refl

no_next : OthersRead NoArgument
unfolding expr_at next_at
no_next zero ts rest k l s = absurd (omega arith)
no_next (suc d) ts rest k l s = rw s.1 refl

first_reads : (t : Tree) (r : ArgumentTree) → Begins t → OthersRead r → ArgumentsRead (OneArgument t r)
unfolding expr_at
first_reads t r gt gr zero ts rest k l s = absurd (omega arith)
first_reads t r gt gr (suc d) ts rest k l s =
    first_plain (expr_at d) (others_at d) ts (starts t ts s.0 s.1).1
    ∙ argument_chain (expr_at d) (others_at d) t r ts s.0 rest (part t gt d ts s.0 (omega arith) l.0 s.1 (more_closes r s.0 rest s.2)) (gr d s.0 rest (omega arith) l.1 s.2)

next_reads : (t : Tree) (r : ArgumentTree) → Begins t → OthersRead r → OthersRead (OneArgument t r)
unfolding expr_at next_at
next_reads t r gt gr zero ts rest k l s = absurd (omega arith)
next_reads t r gt gr (suc d) ts rest k l s =
    rw s.2.1 (argument_chain (expr_at d) (others_at d) t r s.0 s.1 rest (part t gt d s.0 s.1 (omega arith) l.0 s.3 (more_closes r s.1 rest s.4)) (gr d s.1 rest (omega arith) l.1 s.4))

-- all of it
mutual
  pub expr_begins : (t : Tree) → Begins t
  expr_begins (NumberTree n at) = leaf_number n at
  expr_begins (NothingTree at) = leaf_nothing at
  expr_begins (NameTree w at) = name_begins w at
  expr_begins (IdTree at) = leaf_id at
  expr_begins (DegreeTree at) = leaf_degree at
  expr_begins (RoundTree at) = leaf_round at
  expr_begins (NearTree w at) = leaf_near w at
  expr_begins (NearIdTree at) = leaf_near_id at
  expr_begins (NearWeightTree at) = leaf_near_weight at
  expr_begins (InfixTree o at a b) = infix_begins o at a b (expr_begins a) (expr_begins b)
  expr_begins (NotTree at a) = not_begins at a (expr_begins a)
  expr_begins (ParensTree at a) = parens_begins at a (expr_begins a)
  expr_begins (IfTree at a b c) = if_begins at a b c (expr_begins a) (expr_begins b) (expr_begins c)
  expr_begins (CasesTree at arms) = cases_begins at arms (arms_read arms)
  expr_begins (CallTree f at a) = call_begins f at a (arguments_read a)
  expr_begins (ApplyTree w at a) = apply_begins w at a (arguments_read a)
  expr_begins (ChanceTree at d) = chance_begins at d
  expr_begins (ChanceOfTree at d) = chance_of_begins at d

  pub arms_read : (arms : ArmTree) → ArmsRead arms
  arms_read (OneArm t v r) = one_arm_reads t v r (expr_begins t) (expr_begins v) (arms_read r)
  arms_read (ElseArm v) = else_arm_reads v (expr_begins v)

  pub arguments_read : (a : ArgumentTree) → ArgumentsRead a
  arguments_read NoArgument = no_first
  arguments_read (OneArgument t r) = first_reads t r (expr_begins t) (others_read r)

  pub others_read : (a : ArgumentTree) → OthersRead a
  others_read NoArgument = no_next
  others_read (OneArgument t r) = next_reads t r (expr_begins t) (others_read r)
