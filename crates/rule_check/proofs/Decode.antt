-- Code stands for the expression that it was made from.
use Rattle.std.proofs.Common.{◌≡◌, ℕ, zero, suc, ◌+◌, List, [], ◌∷◌, ◌++◌, length, refl, sym, ap, ◌∙◌, subst, arith, append_assoc, drop, map, append-nil}
use Rattle.std.specs.Prelude.{Bool, true, false, not, ◌||◌, if◌then◌else◌}
use Rattle.std.specs.Str.{bytes_eq}
use Rattle.std.specs.List.{list_any, AllByRecursion}
use Rattle.std.proofs.lemmas.List.{drop-drop}
use Rattle.std.proofs.Math.Seq.{drop-append_seam}
use Rattle.std.proofs.lemmas.Slice.Eq.{bytes_eq-Decides}
use Rattle.rule_lang.specs.declared.tree.Agg.{Agg}
use Rattle.rule_lang.specs.Tree.{Tree, NumberTree, OwnTree, IdTree, DegreeTree, RoundTree, NearTree, NearIdTree, NearWeightTree, InfixTree, NotTree, OverTree, ChoiceTree}
use Rattle.rule_check.specs.declared.code.Instr.{Instr}
use Rattle.rule_check.specs.declared.code.Instr.TheVariants.{Apply, Negate, Pick}
use Rattle.rule_check.specs.declared.parts.Field.{Field}
use Rattle.rule_check.specs.declared.parts.Gatherer.{Gatherer}
use Rattle.rule_check.specs.declared.parts.Rule.{Rule}
use Rattle.rule_check.specs.declared.program.Program.TheInside.{Inside}
use Rattle.rule_check.specs.Value.{Rules, Next, Part, parts, place, names_of}
use Rattle.rule_check.specs.WellFormed.{is_among, names_unknown, all_parts, is_unknown}
use Rattle.rule_check.specs.Code.{code_of, decode, tree_of_code, top, name_at, part_at}
use Rattle.rule_check.specs.Gathering.{numbered}
use Rattle.rule_check.specs.WellFormed.{IsWellFormed}
use Rattle.rule_check.specs.Shapes.{rule_shape, part_shape}
use Rattle.rule_check.specs.Compiled.{decoded, decoded_part, decoded_next, IsCompiled, rule_code, part_code}
use Rattle.rule_check.specs.Fields.{field_names}
use Rattle.rule_check.proofs.Lists.{all_append}
use Rattle.rule_check.proofs.Flat.{AreFlat, flat_from_all}
use Rattle.rule_check.proofs.Booleans.{neither}
use Rattle.rule_check.proofs.Booleans.{not_false}

abbrev make_part : Agg → Tree → Part
make_part agg body = record { agg = agg; body = body }

abbrev make_next : List ℕ → Tree → Next
make_next name body = record { name = name; body = body }

abbrev make_rules : List Field → List Next → Rules
make_rules fields nexts = record { fields = fields; nexts = nexts }

-- the name at a name's place is that name
name_step : (b rest : Bool) (x name : List ℕ) (xs : List (List ℕ)) (n : ℕ) → (b ≡ true → x ≡ name) → (rest ≡ true → name_at xs n ≡ name) → (b || rest) ≡ true → name_at (x ∷ xs) (if b then 0 else n + 1) ≡ name
name_step true rest x name xs n same other h = same refl
name_step false rest x name xs n same other h = ap (name_at (x ∷ xs)) (let e : n + 1 ≡ suc n = omega arith in e) ∙ other h

name_at-place : (names : List (List ℕ)) (name : List ℕ) → is_among names name ≡ true → name_at names (place names name) ≡ name
name_at-place [] name h = cc
name_at-place (x ∷ xs) name h =
    name_step (bytes_eq x name) (is_among xs name) x name xs (place xs name) (bytes_eq-Decides x name).0 (name_at-place xs name) h

-- the aggregate where a list of them begins
part_at-drop : (sums : List Part) (k : ℕ) (p : Part) (more : List Part) → drop k sums ≡ p ∷ more → part_at sums k ≡ OverTree p.agg p.body
part_at-drop [] zero p more e = cc
part_at-drop [] (suc k) p more e = cc
part_at-drop (x ∷ xs) zero p more e = let same : x ≡ p = cc in ap (λ q. OverTree q.agg q.body) same
part_at-drop (x ∷ xs) (suc k) p more e = part_at-drop xs k p more e

part_seam : (xs ys zs : List Part) (k : ℕ) → drop k zs ≡ xs ++ ys → drop (k + length xs) zs ≡ ys
part_seam xs ys zs k e = sym (drop-drop (length xs) k zs) ∙ ap (drop (length xs)) e ∙ drop-append_seam xs ys

module _ (names : List (List ℕ)) (sums : List Part) where
  decode-code_of : (e : Tree) (k : ℕ) (rest : List Instr) (es : List Tree) (more : List Part) → names_unknown names e ≡ false → drop k sums ≡ parts e ++ more → decode names sums (code_of names e k ++ rest) es ≡ decode names sums rest (e ∷ es)
  decode-code_of (NumberTree n) k rest es more known h = refl
  decode-code_of (OwnTree name) k rest es more known h =
      ap (λ x. decode names sums rest (OwnTree x ∷ es)) (name_at-place names name (not_false _ known))
  decode-code_of IdTree k rest es more known h = refl
  decode-code_of DegreeTree k rest es more known h = refl
  decode-code_of RoundTree k rest es more known h = refl
  decode-code_of (NearTree name) k rest es more known h =
      ap (λ x. decode names sums rest (NearTree x ∷ es)) (name_at-place names name (not_false _ known))
  decode-code_of NearIdTree k rest es more known h = refl
  decode-code_of NearWeightTree k rest es more known h = refl
  decode-code_of (InfixTree op a b) k rest es more known h =
      let n = neither (names_unknown names a) (names_unknown names b) known in
      let split : drop k sums ≡ parts a ++ (parts b ++ more) = h ∙ append_assoc (parts a) (parts b) more in
      let kb = k + length (parts a) in
      let cb = code_of names b kb in
      let at_b = part_seam (parts a) (parts b ++ more) sums k split in
      ap (λ c. decode names sums c es) (append_assoc (code_of names a k) (cb ++ Apply op ∷ []) rest)
      ∙ decode-code_of a k ((cb ++ Apply op ∷ []) ++ rest) es (parts b ++ more) n.0 split
      ∙ ap (λ c. decode names sums c (a ∷ es)) (append_assoc cb (Apply op ∷ []) rest)
      ∙ decode-code_of b kb (Apply op ∷ rest) (a ∷ es) more n.1 at_b
  decode-code_of (NotTree e) k rest es more known h =
      ap (λ c. decode names sums c es) (append_assoc (code_of names e k) (Negate ∷ []) rest)
      ∙ decode-code_of e k (Negate ∷ rest) es more known h
  decode-code_of (OverTree agg e) k rest es more known h =
      ap (λ x. decode names sums rest (x ∷ es)) (part_at-drop sums k (record { agg = agg; body = e }) more h)
  decode-code_of (ChoiceTree a b c) k rest es more known h =
      let n = neither (names_unknown names a) (names_unknown names b || names_unknown names c) known in
      let m = neither (names_unknown names b) (names_unknown names c) n.1 in
      let split : drop k sums ≡ parts a ++ ((parts b ++ parts c) ++ more) = h ∙ append_assoc (parts a) (parts b ++ parts c) more in
      let kb = k + length (parts a) in
      let kc = kb + length (parts b) in
      let cb = code_of names b kb in
      let cc' = code_of names c kc in
      let at_b : drop kb sums ≡ parts b ++ (parts c ++ more) = part_seam (parts a) ((parts b ++ parts c) ++ more) sums k split ∙ append_assoc (parts b) (parts c) more in
      let at_c = part_seam (parts b) (parts c ++ more) sums kb at_b in
      ap (λ x. decode names sums x es) (append_assoc (code_of names a k) (cb ++ (cc' ++ Pick ∷ [])) rest)
      ∙ decode-code_of a k ((cb ++ (cc' ++ Pick ∷ [])) ++ rest) es ((parts b ++ parts c) ++ more) n.0 split
      ∙ ap (λ x. decode names sums x (a ∷ es)) (append_assoc cb (cc' ++ Pick ∷ []) rest)
      ∙ decode-code_of b kb ((cc' ++ Pick ∷ []) ++ rest) (a ∷ es) (parts c ++ more) m.0 at_b
      ∙ ap (λ x. decode names sums x (b ∷ a ∷ es)) (append_assoc cc' (Pick ∷ []) rest)
      ∙ decode-code_of c kc (Pick ∷ rest) (b ∷ a ∷ es) more m.1 at_c

  tree_of_code-code_of : (e : Tree) (k : ℕ) (more : List Part) → names_unknown names e ≡ false → drop k sums ≡ parts e ++ more → tree_of_code names sums (code_of names e k) ≡ e
  tree_of_code-code_of e k more known h =
      ap (tree_of_code names sums) (sym (append-nil (code_of names e k))) ∙ ap top (decode-code_of e k [] [] more known h)

module _ (names : List (List ℕ)) where
  -- names are known in each aggregate
  abbrev KnowsNames : Part → Type 0
  KnowsNames part = names_unknown names part.body ≡ false

  known_parts : (e : Tree) → names_unknown names e ≡ false → AllByRecursion KnowsNames (parts e)
  known_parts (NumberTree n) h = tt
  known_parts (OwnTree name) h = tt
  known_parts IdTree h = tt
  known_parts DegreeTree h = tt
  known_parts RoundTree h = tt
  known_parts (NearTree name) h = tt
  known_parts NearIdTree h = tt
  known_parts NearWeightTree h = tt
  known_parts (InfixTree op a b) h =
      let n = neither (names_unknown names a) (names_unknown names b) h in all_append KnowsNames (parts a) (parts b) (known_parts a n.0) (known_parts b n.1)
  known_parts (NotTree e) h = known_parts e h
  known_parts (OverTree agg e) h = (h, tt)
  known_parts (ChoiceTree a b c) h =
      let n = neither (names_unknown names a) (names_unknown names b || names_unknown names c) h in
      let m = neither (names_unknown names b) (names_unknown names c) n.1 in
      all_append KnowsNames (parts a) (parts b ++ parts c) (known_parts a n.0) (all_append KnowsNames (parts b) (parts c) (known_parts b m.0) (known_parts c m.1))

  known_all : (nexts : List Next) → list_any (is_unknown names) nexts ≡ false → AllByRecursion KnowsNames (all_parts nexts)
  known_all [] h = tt
  known_all (n ∷ ns) h =
      let k = neither (is_unknown names n) (list_any (is_unknown names) ns) h in
      let l = neither (not (is_among names n.name)) (names_unknown names n.body) k.0 in
      all_append KnowsNames (parts n.body) (all_parts ns) (known_parts n.body l.1) (known_all ns k.1)

  -- the aggregates that code stands for
  decoded_parts : (gs : List Gatherer) (ps : List Part) → map part_shape gs ≡ map (part_code names) ps → AllByRecursion KnowsNames ps → AreFlat ps → map (decoded_part names) gs ≡ ps
  decoded_parts [] [] e known flat = refl
  decoded_parts [] (p ∷ ps) e known flat = cc
  decoded_parts (g ∷ gs) [] e known flat = cc
  decoded_parts (g ∷ gs) (p ∷ ps) e known flat =
      let head : part_shape g ≡ part_code names p = cc in
      let rest : map part_shape gs ≡ map (part_code names) ps = cc in
      let body : tree_of_code names [] g.code.items ≡ p.body = ap (λ s. tree_of_code names [] s.1) head ∙ tree_of_code-code_of names [] p.body 0 [] known.0 (ap (λ ps. ps ++ []) (sym flat.0)) in
      let agg : g.agg ≡ p.agg = ap (λ s. s.0) head in
      let one : decoded_part names g ≡ p = ap (λ a. make_part a (tree_of_code names [] g.code.items)) agg ∙ ap (make_part p.agg) body in
      ap (λ x. x ∷ map (decoded_part names) gs) one ∙ ap (λ xs. p ∷ xs) (decoded_parts gs ps rest known.1 flat.1)

  decoded_nexts : (sums : List Part) (rs : List Rule) (ns : List Next) (k : ℕ) (more : List Part) → map rule_shape rs ≡ map (rule_code names) (numbered k ns) → list_any (is_unknown names) ns ≡ false → drop k sums ≡ all_parts ns ++ more → map (decoded_next names sums) rs ≡ ns
  decoded_nexts sums [] [] k more e known h = refl
  decoded_nexts sums [] (n ∷ ns) k more e known h = cc
  decoded_nexts sums (r ∷ rs) [] k more e known h = cc
  decoded_nexts sums (r ∷ rs) (n ∷ ns) k more e known h =
      let one' : rule_shape r ≡ (place names n.name, code_of names n.body k) = cc in
      let rest : map rule_shape rs ≡ map (rule_code names) (numbered (k + length (parts n.body)) ns) = cc in
      let g = neither (is_unknown names n) (list_any (is_unknown names) ns) known in
      let l = neither (not (is_among names n.name)) (names_unknown names n.body) g.0 in
      let split : drop k sums ≡ parts n.body ++ (all_parts ns ++ more) = h ∙ append_assoc (parts n.body) (all_parts ns) more in
      let name : name_at names r.field ≡ n.name = ap (λ s. name_at names s.0) one' ∙ name_at-place names n.name (not_false _ l.0) in
      let body : tree_of_code names sums r.code.items ≡ n.body = ap (λ s. tree_of_code names sums s.1) one' ∙ tree_of_code-code_of names sums n.body k (all_parts ns ++ more) l.1 split in
      let one : decoded_next names sums r ≡ n = ap (λ x. make_next x (tree_of_code names sums r.code.items)) name ∙ ap (make_next n.name) body in
      ap (λ x. x ∷ map (decoded_next names sums) rs) one
      ∙ ap (λ xs. n ∷ xs) (decoded_nexts sums rs ns (k + length (parts n.body)) more rest g.1 (part_seam (parts n.body) (all_parts ns ++ more) sums k split))

-- code stands for the program that it was made from
pub decoded_is : (p : Inside) (v : Rules) → p.fields.items ≡ v.fields → IsWellFormed v → map rule_shape p.rules.items ≡ map (rule_code (field_names p.fields.items)) (numbered 0 v.nexts) → map part_shape p.gatherers.items ≡ map (part_code (field_names p.fields.items)) (all_parts v.nexts) → decoded p ≡ v
decoded_is p v fields well rules sums =
    let names = field_names p.fields.items in
    let same : names ≡ names_of v = ap field_names fields in
    let known : list_any (is_unknown names) v.nexts ≡ false = subst (λ ns. list_any (is_unknown ns) v.nexts ≡ false) (sym same) well.known in
    let ps : map (decoded_part names) p.gatherers.items ≡ all_parts v.nexts = decoded_parts names p.gatherers.items (all_parts v.nexts) sums (known_all names v.nexts known) (flat_from_all v.nexts well.flat) in
    let ns : map (decoded_next names (map (decoded_part names) p.gatherers.items)) p.rules.items ≡ v.nexts = decoded_nexts names (map (decoded_part names) p.gatherers.items) p.rules.items v.nexts 0 [] rules known (ps ∙ sym (append-nil (all_parts v.nexts))) in
    ap (λ f. make_rules f (decoded p).nexts) fields ∙ ap (make_rules v.fields) ns

pub is_compiled : (p : Inside) (v : Rules) → p.fields.items ≡ v.fields → IsWellFormed v → map rule_shape p.rules.items ≡ map (rule_code (field_names p.fields.items)) (numbered 0 v.nexts) → map part_shape p.gatherers.items ≡ map (part_code (field_names p.fields.items)) (all_parts v.nexts) → IsCompiled p
is_compiled p v fields well rules sums =
    let e = sym (decoded_is p v fields well rules sums) in
    record {
      well = subst IsWellFormed e well;
      rules = subst (λ w. map rule_shape p.rules.items ≡ map (rule_code (field_names p.fields.items)) (numbered 0 w.nexts)) e rules;
      parts = subst (λ w. map part_shape p.gatherers.items ≡ map (part_code (field_names p.fields.items)) (all_parts w.nexts)) e sums;
    }
