-- A program text and its items, and why a text is refused.
use Rattle.std.specs.Prelude.{ℕ, List, Option, Some, None, Result, Ok, Err, length, flat_map, ◌≤◌, ◌<◌}
use Rattle.std.specs.List.{AllByRecursion}
use Rattle.rule_lang.specs.declared.cause.LangCause.{LangCause}
use Rattle.rule_lang.specs.declared.cause.LangCause.TheVariants as cause
use Rattle.rule_lang.specs.declared.fault.LangFault.{LangFault}
use Rattle.rule_lang.specs.declared.fault.LangFault.TheVariants.{TooLong, Lex, Syntax, Memory}
use Rattle.rule_lang.specs.Tokens.{Tok, IsTok, HasTokens}
use Rattle.rule_lang.specs.Tree.{ItemTree, HasTree, IsItem, spell_item}

-- the text has these items: its tokens have this tree
pub record HasProgram (text : List ℕ) (items : List ItemTree) : Type 0 where
  pub tokens : List Tok
  pub words : HasTokens text tokens
  pub tree : HasTree tokens items

-- Why a text is refused, the first cause that holds: too many bytes, no token list, a token list without a tree.
-- Running out of memory can come in place of each but the first.
abbrev pub IsRefusedAs : List ℕ → LangFault → Type 0
IsRefusedAs text TooLong = 65536 < length text
IsRefusedAs text (Lex at) = (length text ≤ 65536) × ((tokens : List Tok) → HasTokens text tokens → ⊥)
IsRefusedAs text (Syntax at) = (length text ≤ 65536) × (tokens : List Tok) × HasTokens text tokens × ((items : List ItemTree) → HasProgram text items → ⊥)
IsRefusedAs text Memory = length text ≤ 65536

-- the fault that a cause is
abbrev pub fault_of : LangCause → LangFault
fault_of cause.TooLong = TooLong
fault_of (cause.Lex at) = Lex at
fault_of (cause.Syntax at expected) = Syntax at

-- the place of a cause in the text, in bytes from 0; of a text that is too long that of the first byte too many
abbrev pub place_of : LangCause → ℕ
place_of cause.TooLong = 65536
place_of (cause.Lex at) = at
place_of (cause.Syntax at expected) = at

-- a text has a program where there is no cause, and else is refused for the fault that the cause is
abbrev pub IsExplained : List ℕ → Option LangCause → Type 0
IsExplained text None = (length text ≤ 65536) × (items : List ItemTree) × HasProgram text items
IsExplained text (Some cause) = IsRefusedAs text (fault_of cause)

-- what a text is read to: its items, seen by view, or why it has none
abbrev pub IsReadAs : {X : Type 0} → List ℕ → (X → List ItemTree) → Result X LangFault → Type 0
IsReadAs text view (Ok x) = (length text ≤ 65536) × HasProgram text (view x)
IsReadAs text view (Err e) = IsRefusedAs text e

-- items that have a text: none uses a reserved word as a name or is deeper than 64, names are words, and numbers are below 2 ^ 32
abbrev pub IsProgram : List ItemTree → Type 0
IsProgram items = AllByRecursion IsItem items × AllByRecursion IsTok (flat_map spell_item items)
