-- A program's code reads the number of the round where its expressions do.
use Rattle.std.proofs.Common.{◌≡◌, ℕ, ◌+◌, List, [], ◌∷◌, ◌++◌, length, refl, ap, ◌∙◌, map}
use Rattle.std.specs.Prelude.{Bool, true, false, ◌||◌}
use Rattle.std.specs.List.{list_any}
use Rattle.std.proofs.Math.Bool.{or-false}
use Rattle.std.proofs.lemmas.List.{map-append}
use Rattle.std.proofs.lemmas.List.Folds.{list_any-append}
use Rattle.rule_lang.specs.Tree.{Tree, NumberTree, OwnTree, IdTree, DegreeTree, RoundTree, NearTree, NearIdTree, NearWeightTree, InfixTree, NotTree, OverTree, ChoiceTree}
use Rattle.rule_check.specs.declared.code.Instr.{Instr}
use Rattle.rule_check.specs.declared.code.Instr.TheVariants.{Apply, Negate, Pick}
use Rattle.rule_check.specs.declared.program.Program.TheInside.{Inside}
use Rattle.rule_check.specs.Value.{Part, Next, parts}
use Rattle.rule_check.specs.WellFormed.{nests, all_parts}
use Rattle.rule_check.specs.Code.{code_of}
use Rattle.rule_check.specs.Gathering.{numbered}
use Rattle.rule_check.specs.Fields.{field_names}
use Rattle.rule_check.specs.Shapes.{rule_shape, part_shape}
use Rattle.rule_check.specs.Compiled.{decoded, IsCompiled, rule_code, part_code}
use Rattle.rule_check.specs.Rounds.{names_round, reads_round, is_round, code_reads_round}
use Rattle.rule_check.proofs.Booleans.{neither}
use Rattle.rule_check.proofs.Flat.{none_from_length}

-- a rule's or an aggregate's code reads it
abbrev pub shape_reads : {A : Type 0} → A × List Instr → Bool
shape_reads shape = code_reads_round shape.1

-- one of two, and one of two others
or_across : (a b p q : Bool) → ((a || b) || (p || q)) ≡ ((a || p) || (b || q))
or_across true b p q = refl
or_across false true true q = refl
or_across false true false q = refl
or_across false false p q = refl

-- code of two operands, and an operator that does not read it
reads_two : (x y : List Instr) (i : Instr) → code_reads_round (i ∷ []) ≡ false → code_reads_round (x ++ (y ++ i ∷ [])) ≡ (code_reads_round x || code_reads_round y)
reads_two x y i quiet =
    list_any-append is_round x (y ++ i ∷ [])
    ∙ ap (λ r. code_reads_round x || r) (list_any-append is_round y (i ∷ []) ∙ ap (λ r. code_reads_round y || r) quiet ∙ or-false (code_reads_round y))

-- two lists that make none
both_empty : {A : Type 0} (xs ys : List A) → xs ++ ys ≡ [] → (xs ≡ []) × (ys ≡ [])
both_empty [] ys h = (refl, h)
both_empty (x ∷ xs) ys h = cc

module _ (names : List (List ℕ)) where
  -- an expression without aggregates
  round_of_flat : (e : Tree) (k : ℕ) → parts e ≡ [] → code_reads_round (code_of names e k) ≡ names_round e
  round_of_flat (NumberTree n) k h = refl
  round_of_flat (OwnTree name) k h = refl
  round_of_flat IdTree k h = refl
  round_of_flat DegreeTree k h = refl
  round_of_flat RoundTree k h = refl
  round_of_flat (NearTree name) k h = refl
  round_of_flat NearIdTree k h = refl
  round_of_flat NearWeightTree k h = refl
  round_of_flat (InfixTree op a b) k h =
      let e = both_empty (parts a) (parts b) h in
      let ca = code_of names a k in
      let cb = code_of names b (k + length (parts a)) in
      reads_two ca cb (Apply op) refl
      ∙ ap (λ r. r || code_reads_round cb) (round_of_flat a k e.0)
      ∙ ap (λ r. names_round a || r) (round_of_flat b (k + length (parts a)) e.1)
  round_of_flat (NotTree e) k h = list_any-append is_round (code_of names e k) (Negate ∷ []) ∙ or-false (code_reads_round (code_of names e k)) ∙ round_of_flat e k h
  round_of_flat (OverTree agg e) k h = cc
  round_of_flat (ChoiceTree a b c) k h =
      let e = both_empty (parts a) (parts b ++ parts c) h in
      let g = both_empty (parts b) (parts c) e.1 in
      let kb = k + length (parts a) in
      let ca = code_of names a k in
      let cb = code_of names b kb in
      let code_c = code_of names c (kb + length (parts b)) in
      list_any-append is_round ca (cb ++ (code_c ++ Pick ∷ []))
      ∙ ap (λ r. code_reads_round ca || r) (reads_two cb code_c Pick refl)
      ∙ ap (λ r. r || (code_reads_round cb || code_reads_round code_c)) (round_of_flat a k e.0)
      ∙ ap (λ r. names_round a || (r || code_reads_round code_c)) (round_of_flat b kb g.0)
      ∙ ap (λ r. names_round a || (names_round b || r)) (round_of_flat c (kb + length (parts b)) g.1)

  -- the code of an expression's aggregates reads it
  abbrev parts_read : List Part → Bool
  parts_read ps = list_any shape_reads (map (part_code names) ps)

  parts_read_two : (ps qs : List Part) → parts_read (ps ++ qs) ≡ (parts_read ps || parts_read qs)
  parts_read_two ps qs = ap (list_any shape_reads) (map-append (part_code names) ps qs) ∙ list_any-append shape_reads (map (part_code names) ps) (map (part_code names) qs)

  -- an expression that nests no aggregates: its own code, or that of its aggregates
  round_of_code : (e : Tree) (k : ℕ) → nests e ≡ false → (code_reads_round (code_of names e k) || parts_read (parts e)) ≡ names_round e
  round_of_code (NumberTree n) k h = refl
  round_of_code (OwnTree name) k h = refl
  round_of_code IdTree k h = refl
  round_of_code DegreeTree k h = refl
  round_of_code RoundTree k h = refl
  round_of_code (NearTree name) k h = refl
  round_of_code NearIdTree k h = refl
  round_of_code NearWeightTree k h = refl
  round_of_code (InfixTree op a b) k h =
      let n = neither (nests a) (nests b) h in
      let kb = k + length (parts a) in
      let ra = code_reads_round (code_of names a k) in
      let rb = code_reads_round (code_of names b kb) in
      ap (λ r. r || parts_read (parts a ++ parts b)) (reads_two (code_of names a k) (code_of names b kb) (Apply op) refl)
      ∙ ap (λ r. (ra || rb) || r) (parts_read_two (parts a) (parts b))
      ∙ or_across ra rb (parts_read (parts a)) (parts_read (parts b))
      ∙ ap (λ r. r || (rb || parts_read (parts b))) (round_of_code a k n.0)
      ∙ ap (λ r. names_round a || r) (round_of_code b kb n.1)
  round_of_code (NotTree e) k h =
      ap (λ r. r || parts_read (parts e)) (list_any-append is_round (code_of names e k) (Negate ∷ []) ∙ or-false (code_reads_round (code_of names e k)))
      ∙ round_of_code e k h
  round_of_code (OverTree agg e) k h = or-false (code_reads_round (code_of names e 0)) ∙ round_of_flat e 0 (none_from_length (parts e) h)
  round_of_code (ChoiceTree a b c) k h =
      let n = neither (nests a) (nests b || nests c) h in
      let m = neither (nests b) (nests c) n.1 in
      let kb = k + length (parts a) in
      let kc = kb + length (parts b) in
      let ra = code_reads_round (code_of names a k) in
      let rb = code_reads_round (code_of names b kb) in
      let rc = code_reads_round (code_of names c kc) in
      ap (λ r. r || parts_read (parts a ++ (parts b ++ parts c)))
      (list_any-append is_round (code_of names a k) (code_of names b kb ++ (code_of names c kc ++ Pick ∷ []))
      ∙ ap (λ r. ra || r) (reads_two (code_of names b kb) (code_of names c kc) Pick refl))
      ∙ ap (λ r. (ra || (rb || rc)) || r) (parts_read_two (parts a) (parts b ++ parts c) ∙ ap (λ r. parts_read (parts a) || r) (parts_read_two (parts b) (parts c)))
      ∙ or_across ra (rb || rc) (parts_read (parts a)) (parts_read (parts b) || parts_read (parts c))
      ∙ ap (λ r. (ra || parts_read (parts a)) || r) (or_across rb rc (parts_read (parts b)) (parts_read (parts c)))
      ∙ ap (λ r. r || ((rb || parts_read (parts b)) || (rc || parts_read (parts c)))) (round_of_code a k n.0)
      ∙ ap (λ r. names_round a || (r || (rc || parts_read (parts c)))) (round_of_code b kb m.0)
      ∙ ap (λ r. names_round a || (names_round b || r)) (round_of_code c kc m.1)

  -- and all next items
  round_of_nexts : (nexts : List Next) (k : ℕ) → list_any (λ n. nests n.body) nexts ≡ false → (list_any shape_reads (map (rule_code names) (numbered k nexts)) || parts_read (all_parts nexts)) ≡ list_any (λ n. names_round n.body) nexts
  round_of_nexts [] k h = refl
  round_of_nexts (n ∷ ns) k h =
      let g = neither (nests n.body) (list_any (λ n. nests n.body) ns) h in
      let rn = code_reads_round (code_of names n.body k) in
      let rest = list_any shape_reads (map (rule_code names) (numbered (k + length (parts n.body)) ns)) in
      ap (λ r. (rn || rest) || r) (parts_read_two (parts n.body) (all_parts ns))
      ∙ or_across rn rest (parts_read (parts n.body)) (parts_read (all_parts ns))
      ∙ ap (λ r. r || (rest || parts_read (all_parts ns))) (round_of_code n.body k g.0)
      ∙ ap (λ r. names_round n.body || r) (round_of_nexts ns (k + length (parts n.body)) g.1)

-- the program that code stands for reads it where the code does
pub reads_by_code : (p : Inside) → IsCompiled p → (list_any shape_reads (map rule_shape p.rules.items) || list_any shape_reads (map part_shape p.gatherers.items)) ≡ reads_round (decoded p)
reads_by_code p ok =
    ap (λ shapes. list_any shape_reads shapes || list_any shape_reads (map part_shape p.gatherers.items)) ok.rules
    ∙ ap (λ shapes. list_any shape_reads (map (rule_code (field_names p.fields.items)) (numbered 0 (decoded p).nexts)) || list_any shape_reads shapes) ok.parts
    ∙ round_of_nexts (field_names p.fields.items) (decoded p).nexts 0 ok.well.flat
