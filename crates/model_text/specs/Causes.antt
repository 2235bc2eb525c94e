-- Internal: what a function of the parser returns for what can be read, and why nothing can be. No public clause cites it.
use Rattle.std.specs.Prelude.{ℕ, List, Option, Some, None, Result, Ok, Err, length, ◌≡◌, ◌≤◌}
use Rattle.model_text.specs.declared.fault.Expected.{Expected}
use Rattle.model_text.specs.declared.fault.ModelFault.{ModelFault}
use Rattle.model_text.specs.declared.fault.ModelFault.TheVariants as fault
use Rattle.model_text.specs.declared.stuck.Stuck.{Stuck}
use Rattle.model_text.specs.declared.stuck.Stuck.TheVariants.{Token, Memory}
use Rattle.model_text.specs.declared.token.Lexeme.{Lexeme}

-- nothing can be read here, unless memory ran out
abbrev pub Fails : {Y : Type 0} → Stuck → Option Y → Type 0
Fails (Token left expected) read = read ≡ None
Fails Memory read = Unit {0}

-- what a function returned, seen by view, is what can be read
abbrev pub Gives : {X Y : Type 0} → (X → Y) → Result X Stuck → Option Y → Type 0
Gives view (Ok x) read = read ≡ Some (view x)
Gives view (Err e) read = Fails e read

-- the first of these tokens cannot stand here, or their end where there is none, but this could
abbrev pub stuck_before : List Lexeme → Expected → Stuck
stuck_before tokens expected = Token (length tokens) expected

-- the fault stands for the cause: a token that cannot stand somewhere, or running out of memory
abbrev pub IsStuckAs : Stuck → ModelFault → Type 0
IsStuckAs (Token left expected) r = (at : ℕ) × (r ≡ fault.Syntax at expected)
IsStuckAs Memory r = r ≡ fault.Memory

-- the place of the fault lies in a text of this length, or at its end
abbrev pub IsPlaced : ℕ → ModelFault → Type 0
IsPlaced end fault.TooLong = Unit {0}
IsPlaced end (fault.Lex at) = at ≤ end
IsPlaced end (fault.Syntax at expected) = at ≤ end
IsPlaced end fault.Memory = Unit {0}
