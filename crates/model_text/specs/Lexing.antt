-- Internal: what the steps of the tokenizer return. No public clause cites it.
use Rattle.std.specs.Prelude.{ℕ, List, [], ◌∷◌, ◌++◌, ◌≡◌, Bool, length, Option, Some, None, Result, Ok, Err}
use Rattle.model_text.specs.declared.lex.Numeral.{Numeral}
use Rattle.model_text.specs.declared.fault.ModelFault.{ModelFault}
use Rattle.model_text.specs.declared.fault.ModelFault.TheVariants as fault
use Rattle.model_text.specs.Tokens.{Tok, Placed, placed, HasTokens}

-- a numeral so far
abbrev pub state_of : Numeral → ℕ × Bool
state_of n = (n.value, n.parted)

-- no token or one, as a list
abbrev pub added : Option Tok → ℕ → List Placed
added None at = []
added (Some t) at = placed t at ∷ []

-- these tokens stand first: a token list of the rest makes one of the whole, and no other is
pub record Lexes (end : ℕ) (all : List ℕ) (tokens : List Placed) (rest : List ℕ) : Type 0 where
  pub on : (more : List Placed) → HasTokens end rest more → HasTokens end all (tokens ++ more)
  pub only : (others : List Placed) → HasTokens end all others → (more : List Placed) × (others ≡ tokens ++ more) × HasTokens end rest more

-- why a text has no token list
abbrev pub NoTokensOf : List ℕ → ModelFault → Type 0
NoTokensOf text (fault.Lex at) = (tokens : List Placed) → HasTokens (length text) text tokens → ⊥
NoTokensOf text fault.TooLong = ⊥
NoTokensOf text (fault.Syntax at expected) = ⊥
NoTokensOf text fault.Memory = Unit {0}

-- the only token list of a text, seen by view, or why there is none
abbrev pub IsTokensOf : {X : Type 0} → List ℕ → (X → List Placed) → Result X ModelFault → Type 0
IsTokensOf text view (Ok x) = HasTokens (length text) text (view x) × ((others : List Placed) → HasTokens (length text) text others → others ≡ view x)
IsTokensOf text view (Err e) = NoTokensOf text e
