-- The text of a program, with the lines of its model in comments.
use Rattle.std.specs.Prelude.{ℕ, nat_le, List, [], ◌∷◌, ◌++◌, length, codes, if◌then◌else◌}
use Rattle.std.specs.Fmt.{decimal}
use Rattle.rule_lang.specs.Tree.{ItemTree}
use Rattle.rule_lang.specs.Canonical.{item_text, program_text}

-- the comment that names a line of the model, a line of its own
abbrev pub comment : ℕ → List ℕ
comment line = codes "# line " ++ (decimal line ++ 10 ∷ [])

-- rules in the canonical spelling, each after the comment with its line, as far as there are lines
abbrev pub commented : List ℕ → List ItemTree → List ℕ
commented lines [] = []
commented [] (rule ∷ rules) = item_text rule ++ commented [] rules
commented (line ∷ lines) (rule ∷ rules) = comment line ++ (item_text rule ++ commented lines rules)

-- The text of rules: with the comments where it then has no more bytes than a program text may have, and else the canonical
-- spelling alone.
abbrev pub text_made : List ℕ → List ItemTree → List ℕ
text_made lines rules = if nat_le (length (commented lines rules)) 65536 then commented lines rules else program_text rules
