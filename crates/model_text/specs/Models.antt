-- A text and the model that it is, and why a text is none.
use Rattle.std.specs.Prelude.{ℕ, List, Result, Ok, Err, length, ◌≤◌, ◌<◌}
use Rattle.model_text.specs.declared.fault.ModelFault.{ModelFault}
use Rattle.model_text.specs.declared.fault.ModelFault.TheVariants.{TooLong, Lex, Syntax, Memory}
use Rattle.model_text.specs.declared.stuck.Stuck.{Stuck}
use Rattle.model_text.specs.declared.stuck.Stuck.TheVariants as stuck
use Rattle.model_text.specs.Tokens.{Placed, HasTokens}
use Rattle.model_text.specs.Tree.{ItemTree}
use Rattle.model_text.specs.Grammar.{HasTree}

-- the text is this model: its tokens have this tree
pub record HasModel (text : List ℕ) (items : List ItemTree) : Type 0 where
  pub tokens : List Placed
  pub words : HasTokens (length text) text tokens
  pub tree : HasTree tokens items

-- Why a text is refused, the first cause that holds: too many bytes, no token list, a token list without a tree.
-- Running out of memory can come in place of each but the first. Places lie in the text, or at its end.
abbrev pub IsRefusedAs : List ℕ → ModelFault → Type 0
IsRefusedAs text TooLong = 65536 < length text
IsRefusedAs text (Lex at) = (length text ≤ 65536) × (at ≤ length text) × ((tokens : List Placed) → HasTokens (length text) text tokens → ⊥)
IsRefusedAs text (Syntax at expected) = (length text ≤ 65536) × (at ≤ length text) × (tokens : List Placed) × HasTokens (length text) text tokens × ((items : List ItemTree) → HasModel text items → ⊥)
IsRefusedAs text Memory = length text ≤ 65536

-- what a text is read to: its items, seen by view, or why it has none
abbrev pub IsReadAs : {X : Type 0} → List ℕ → (X → List ItemTree) → Result X ModelFault → Type 0
IsReadAs text view (Ok x) = (length text ≤ 65536) × HasModel text (view x)
IsReadAs text view (Err e) = IsRefusedAs text e

-- the tokens have no tree, unless memory ran out
abbrev pub NoTreeOf : List Placed → Stuck → Type 0
NoTreeOf tokens (stuck.Token left expected) = (items : List ItemTree) → HasTree tokens items → ⊥
NoTreeOf tokens stuck.Memory = Unit {0}

-- the tree of the tokens, seen by view, or why there is none
abbrev pub IsTreeOf : {X : Type 0} → List Placed → (X → List ItemTree) → Result X Stuck → Type 0
IsTreeOf tokens view (Ok x) = HasTree tokens (view x)
IsTreeOf tokens view (Err e) = NoTreeOf tokens e
