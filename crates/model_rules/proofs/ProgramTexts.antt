-- The text of a program with its comments has that program.
use Rattle.std.proofs.Common.{◌≡◌, ℕ, zero, suc, ◌+◌, ◌≤◌, ◌<◌, ◌^◌, List, [], ◌∷◌, ◌++◌, Bool, true, false, cond, Option, Some, None, refl, sym, ap, subst, ◌∙◌, arith, take, length, map, append_assoc, codes, flat_map, inl, inr}
use Rattle.std.specs.Prelude.{◌==◌, ◌||◌, not, nat_le, nat_lt, IsTrue}
use Rattle.std.specs.List.{AllByRecursion, list_any, filter_map}
use Rattle.std.specs.Fmt.{decimal}
use Rattle.std.specs.Char.{digit_value}
use Rattle.std.specs.Str.{bytes_eq}
use Rattle.std.specs.Str.Parse.{AllDigits}
use Rattle.std.proofs.lemmas.Fmt.{decimal_is_IsNumeral}
use Rattle.std.proofs.lemmas.Str.Parse.{digit_from_value}
use Rattle.std.proofs.lemmas.Bool.Decides.{Decides-eqb, nat_tests}
use Rattle.std.proofs.lemmas.Slice.Eq.{bytes_eq-Decides}
use Rattle.rule_lang.specs.declared.tree.Op.{Op}
use Rattle.rule_lang.specs.declared.tree.Op.TheVariants.{Plus, Minus, Times, Quot, Rem, BitAnd, BitOr, BitXor, Equal, Differ, Less, LessEq, Greater, GreaterEq, Min, Max}
use Rattle.rule_lang.specs.declared.tree.Agg.{Agg}
use Rattle.rule_lang.specs.declared.tree.Agg.TheVariants.{Total, Least, Most, Count, Some1, Every}
use Rattle.rule_lang.specs.Tokens.{Tok, WordTok, IsTok, HasTokens, IsSpan, is_inside_line, at_end, after_blank, after_comment}
use Rattle.rule_lang.specs.Tree.{Tree, NumberTree, OwnTree, IdTree, DegreeTree, RoundTree, NearTree, NearIdTree, NearWeightTree, InfixTree, NotTree, OverTree, ChoiceTree, ItemTree as RuleTree, FieldTree as FieldRule, NextTree as NextRule, op_token, agg_word, spell, spell_item, depth, HasNames, IsItem}
use Rattle.rule_lang.specs.Canonical.{item_text, program_text}
use Rattle.rule_lang.specs.Program.{HasProgram, IsProgram}
use Rattle.rule_lang.proofs.Bytes.{or_cases}
use Rattle.rule_lang.proofs.Canonical.{put_program}
use Rattle.rule_check.specs.Value.{names_of}
use Rattle.rule_check.specs.Items.{rules_of as program_of, fields_of as rule_fields, nexts_of}
use Rattle.rule_check.specs.WellFormed.{is_among, names_unknown, is_unknown, has_twice, next_names, first_fault, IsFieldName}
use Rattle.rule_check.specs.declared.fault.CheckFault.{CheckFault}
use Rattle.rule_check.specs.declared.fault.CheckFault.TheVariants.{TooManyFields, FieldTwice, NextTwice, UnknownName}
use Rattle.rule_check.proofs.Lists.{all_append, all_behind}
use Rattle.model_text.specs.Tree.{ItemTree}
use Rattle.model_text.specs.Models.{HasModel}
use Rattle.model_rules.specs.Bounds.{IsAccepted}
use Rattle.model_rules.specs.Models.{fields_of}
use Rattle.model_rules.proofs.Values.{neither}
use Rattle.model_rules.specs.Lines.{line_feeds, line_of, rule_place, lines_of}
use Rattle.rule_lang.specs.Numbers.{HasNumbers, HasItemNumbers}
use Rattle.model_rules.specs.Written.{comment, commented, text_made}
use Rattle.model_rules.proofs.ProgramNames.{names_of_fields}
use Rattle.rule_lang.proofs.Canonical.{put_item, all_left as front_of}

-- a declared name is one of the names
not_false : (t : Bool) → not t ≡ false → t ≡ true
not_false true e = refl
not_false false e = cc

named_one : (names : List (List ℕ)) → AllByRecursion IsFieldName names → (x : List ℕ) → is_among names x ≡ true → IsFieldName x
named_one [] h x e = cc
named_one (y ∷ names) h x e = elim (or_cases (bytes_eq y x) (is_among names x) e) [
  | inl k ↦ subst IsFieldName ((bytes_eq-Decides y x).0 k) h.0
  | inr k ↦ named_one names h.1 x k
]

-- the tokens of an expression
op_tok : (op : Op) → IsTok (op_token op)
op_tok Plus = tt
op_tok Minus = tt
op_tok Times = tt
op_tok Quot = tt
op_tok Rem = tt
op_tok BitAnd = tt
op_tok BitOr = tt
op_tok BitXor = tt
op_tok Equal = tt
op_tok Differ = tt
op_tok Less = tt
op_tok LessEq = tt
op_tok Greater = tt
op_tok GreaterEq = tt
op_tok Min = (refl, (refl, (refl, tt)))
op_tok Max = (refl, (refl, (refl, tt)))

agg_tok : (agg : Agg) → IsTok (WordTok (agg_word agg))
agg_tok Total = (refl, (refl, (refl, (refl, (refl, tt)))))
agg_tok Least = (refl, (refl, (refl, (refl, (refl, tt)))))
agg_tok Most = (refl, (refl, (refl, (refl, tt))))
agg_tok Count = (refl, (refl, (refl, (refl, (refl, tt)))))
agg_tok Some1 = (refl, (refl, (refl, tt)))
agg_tok Every = (refl, (refl, (refl, tt)))

pub record Spelled (t : Tree) : Type 0 where
  pub names : HasNames t
  pub toks : AllByRecursion IsTok (spell t)

tree_spelled : (names : List (List ℕ)) → AllByRecursion IsFieldName names → (t : Tree) → names_unknown names t ≡ false → HasNumbers t → Spelled t
tree_spelled names h (NumberTree n) e k = record { names = tt; toks = (k, tt) }
tree_spelled names h (OwnTree w) e k = let f = named_one names h w (not_false (is_among names w) e) in record { names = f.1; toks = (f.0, tt) }
tree_spelled names h IdTree e k = record { names = tt; toks = ((refl, (refl, tt)), tt) }
tree_spelled names h DegreeTree e k = record { names = tt; toks = ((refl, (refl, (refl, (refl, (refl, (refl, tt)))))), tt) }
tree_spelled names h RoundTree e k = record { names = tt; toks = ((refl, (refl, (refl, (refl, (refl, tt))))), tt) }
tree_spelled names h (NearTree w) e k = let f = named_one names h w (not_false (is_among names w) e) in record { names = f.1; toks = (f.0, tt) }
tree_spelled names h NearIdTree e k = record { names = tt; toks = ((refl, (refl, tt)), tt) }
tree_spelled names h NearWeightTree e k = record { names = tt; toks = ((refl, (refl, (refl, (refl, (refl, (refl, tt)))))), tt) }
tree_spelled names h (InfixTree op a b) e k =
    let n = neither (names_unknown names a) (names_unknown names b) e in
    let x = tree_spelled names h a n.0 k.0 in
    let y = tree_spelled names h b n.1 k.1 in
    record { names = (x.names, y.names); toks = (tt, all_append IsTok (spell a) _ x.toks (op_tok op, all_append IsTok (spell b) _ y.toks (tt, tt))) }
tree_spelled names h (NotTree a) e k = let x = tree_spelled names h a e k in record { names = x.names; toks = ((refl, (refl, (refl, tt))), x.toks) }
tree_spelled names h (OverTree agg a) e k = let x = tree_spelled names h a e k in record { names = x.names; toks = (agg_tok agg, x.toks) }
tree_spelled names h (ChoiceTree a b c) e k =
    let n = neither (names_unknown names a) (names_unknown names b || names_unknown names c) e in
    let m = neither (names_unknown names b) (names_unknown names c) n.1 in
    let x = tree_spelled names h a n.0 k.0 in
    let y = tree_spelled names h b m.0 k.1 in
    let z = tree_spelled names h c m.1 k.2 in
    record {
      names = (x.names, y.names, z.names);
      toks = ((refl, (refl, tt)), all_append IsTok (spell a) _ x.toks ((refl, (refl, (refl, (refl, tt)))), all_append IsTok (spell b) _ y.toks ((refl, (refl, (refl, (refl, tt)))), z.toks)));
    }

-- the tokens of rules whose names are among these
rules_spelled : (names : List (List ℕ)) → AllByRecursion IsFieldName names → (rules : List RuleTree) → AllByRecursion IsFieldName (names_of (program_of rules)) → list_any (is_unknown names) (nexts_of rules) ≡ false → AllByRecursion (λ n. depth n.body ≤ 64) (nexts_of rules) → AllByRecursion HasItemNumbers rules → AllByRecursion IsItem rules × AllByRecursion IsTok (flat_map spell_item rules)
rules_spelled names h [] own e d k = (tt, tt)
rules_spelled names h (FieldRule w n ∷ rules) own e d k =
    let r = rules_spelled names h rules own.1 e d k.1 in
    let f = own.0 in
    ((f.1, r.0), ((refl, (refl, (refl, (refl, (refl, tt))))), (f.0, (tt, (k.0, (tt, r.1))))))
rules_spelled names h (NextRule w b ∷ rules) own e d k =
    let n = neither (not (is_among names w) || names_unknown names b) (list_any (is_unknown names) (nexts_of rules)) e in
    let m = neither (not (is_among names w)) (names_unknown names b) n.0 in
    let f = named_one names h w (not_false (is_among names w) m.0) in
    let x = tree_spelled names h b m.1 k.0 in
    let r = rules_spelled names h rules own n.1 d.1 k.1 in
    (((f.1, x.names, d.0), r.0), ((refl, (refl, (refl, (refl, tt)))), (f.0, (tt, all_append IsTok (spell b ++ _) (flat_map spell_item rules) (all_append IsTok (spell b) _ x.toks (tt, tt)) r.1))))

-- a program without a fault has no unknown name
fourth_not : (a b c d : Bool) (x y z w : CheckFault) (o : Option CheckFault) → cond a (Some x) (cond b (Some y) (cond c (Some z) (cond d (Some w) o))) ≡ None → d ≡ false
fourth_not true b c d x y z w o e = cc
fourth_not false true c d x y z w o e = cc
fourth_not false false true d x y z w o e = cc
fourth_not false false false true x y z w o e = cc
fourth_not false false false false x y z w o e = refl

none_unknown : (rules : List RuleTree) → first_fault (program_of rules) ≡ None → list_any (is_unknown (names_of (program_of rules))) (nexts_of rules) ≡ false
none_unknown rules e =
    fourth_not (nat_lt 8 (length (rule_fields rules))) (has_twice (names_of (program_of rules))) (has_twice (next_names (program_of rules))) (list_any (is_unknown (names_of (program_of rules))) (nexts_of rules))
    TooManyFields FieldTwice NextTwice UnknownName _ e

pub is_program : (text : List ℕ) (items : List ItemTree) (rules : List RuleTree) → HasModel text items → names_of (program_of rules) ≡ fields_of items → IsAccepted rules → AllByRecursion HasItemNumbers rules → IsProgram rules
is_program text items rules model same fit k =
    let own : AllByRecursion IsFieldName (names_of (program_of rules)) = subst (AllByRecursion IsFieldName) (sym same) (names_of_fields (length text) text model.tokens items model.words model.tree) in
    rules_spelled (names_of (program_of rules)) own rules own (none_unknown rules fit.faultless) fit.shallow k

-- a comment is dropped
digit_inside : (b : ℕ) → digit_value b < 10 → is_inside_line b ≡ true
digit_inside b h = let p = digit_from_value b h in grind (arith, nat_tests)

digits_inside : (ds : List ℕ) → AllDigits 10 ds → AllByRecursion (λ b. IsTrue (is_inside_line b)) ds
digits_inside [] h = tt
digits_inside (b ∷ ds) h = (digit_inside b h.0, digits_inside ds h.1)

comment_span : (n : ℕ) (rest : List ℕ) → n < 2 ^ 64 → IsSpan is_inside_line (codes " line " ++ (decimal n ++ (10 ∷ rest))) (codes " line " ++ decimal n) (10 ∷ rest)
comment_span n rest h = record {
  cut = sym (append_assoc (codes " line ") (decimal n) (10 ∷ rest));
  each = (refl, (refl, (refl, (refl, (refl, (refl, digits_inside (decimal n) (decimal_is_IsNumeral n h).0.1))))));
  stops = refl;
}

put_comment : (n : ℕ) (rest : List ℕ) (ts : List Tok) → n < 2 ^ 64 → HasTokens rest ts → HasTokens (comment n ++ rest) ts
put_comment n rest ts h d = simp append_assoc (after_comment (codes " line " ++ (decimal n ++ (10 ∷ rest))) (codes " line " ++ decimal n) (10 ∷ rest) ts (comment_span n rest h) (after_blank 10 rest ts refl d))

put_commented : (lines : List ℕ) (rules : List RuleTree) → AllByRecursion (λ n. n < 2 ^ 64) lines → AllByRecursion IsTok (flat_map spell_item rules) → HasTokens (commented lines rules) (flat_map spell_item rules)
put_commented lines [] small h = at_end
put_commented [] (r ∷ rules) small h =
    put_item r (front_of (spell_item r) _ h) (commented [] rules) (flat_map spell_item rules) (put_commented [] rules tt (all_behind IsTok (spell_item r) (flat_map spell_item rules) h))
put_commented (l ∷ lines) (r ∷ rules) small h =
    put_comment l _ _ small.0 (put_item r (front_of (spell_item r) _ h) (commented lines rules) (flat_map spell_item rules) (put_commented lines rules small.1 (all_behind IsTok (spell_item r) (flat_map spell_item rules) h)))

-- the text with the comments, and that without
text_case : (t : Bool) (lines : List ℕ) (rules : List RuleTree) → AllByRecursion (λ n. n < 2 ^ 64) lines → IsProgram rules → HasProgram (cond t (commented lines rules) (program_text rules)) rules
text_case true lines rules small p = record { tokens = flat_map spell_item rules; words = put_commented lines rules small p.1; tree = record { spelling = refl; each = p.0 } }
text_case false lines rules small p = record { tokens = flat_map spell_item rules; words = put_program rules p.1; tree = record { spelling = refl; each = p.0 } }

-- the lines of a text
feeds_few : (bytes : List ℕ) (at : ℕ) → line_feeds (take at bytes) ≤ length bytes
feeds_few [] zero = omega arith
feeds_few [] (suc at) = omega arith
feeds_few (b ∷ bytes) zero = omega arith
feeds_few (b ∷ bytes) (suc at) = let k = feeds_few bytes at in elim (b == 10) as (λ t. cond t (suc (line_feeds (take at bytes))) (line_feeds (take at bytes)) ≤ length (b ∷ bytes)) [ true ↦ omega arith | false ↦ omega arith ]

lines_small : (text : List ℕ) (ps : List ℕ) → length text ≤ 65536 → AllByRecursion (λ n. n < 2 ^ 64) (map (line_of text) ps)
lines_small text [] h = tt
lines_small text (p ∷ ps) h = ((let k = feeds_few text p in omega arith), lines_small text ps h)

pub text_has_program : (text : List ℕ) (items : List ItemTree) (rules : List RuleTree) → length text ≤ 65536 → HasModel text items → names_of (program_of rules) ≡ fields_of items → IsAccepted rules → AllByRecursion HasItemNumbers rules → HasProgram (text_made (lines_of text items) rules) rules
text_has_program text items rules short model same fit k =
    text_case (nat_le (length (commented (lines_of text items) rules)) 65536) (lines_of text items) rules (lines_small text (filter_map rule_place items) short) (is_program text items rules model same fit k)

fits_case : (t : Bool) (written plain : List ℕ) → nat_le (length written) 65536 ≡ t → length plain ≤ 65536 → length (cond t written plain) ≤ 65536
fits_case true written plain e h = grind (arith, nat_tests)
fits_case false written plain e h = h

pub text_fits : (lines : List ℕ) (rules : List RuleTree) → IsAccepted rules → length (text_made lines rules) ≤ 65536
text_fits lines rules fit = fits_case (nat_le (length (commented lines rules)) 65536) (commented lines rules) (program_text rules) refl fit.short

-- rules without lines
pub plain_is : (rules : List RuleTree) → commented [] rules ≡ program_text rules
plain_is [] = refl
plain_is (r ∷ rules) = ap (λ xs. item_text r ++ xs) (plain_is rules)
