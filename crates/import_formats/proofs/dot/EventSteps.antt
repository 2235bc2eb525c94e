-- What tokens say, read one after another.
use Rattle.std.proofs.Common.{◌≡◌, ℕ, Bool, List, [], ◌∷◌, refl, sym, ap, ◌∙◌, Option, Some, Result, Ok, Err}
use Rattle.std.specs.Result.{result_err}
use Rattle.import_formats.specs.declared.dot.fault.DotFault.{DotFault}
use Rattle.import_formats.specs.declared.dot.state.State.{State}
use Rattle.import_formats.specs.declared.dot.builder.Builder.{Builder}
use Rattle.import_formats.specs.dot.Lexing.{DotToken}
use Rattle.import_formats.specs.dot.Graphs.{DotEvent, DotGraph, and_then, at_line, token_turn, events_from, graph_in}
use Rattle.import_formats.specs.dot.View.{finished}

-- what is said so far, with what is read
abbrev pub with_built : Builder → Result (List DotEvent) DotFault → Result DotGraph DotFault
with_built b read = and_then read (λ es. Ok (finished b es))

more_built : (b later : Builder) (e : DotEvent) (read : Result (List DotEvent) DotFault) → ((es : List DotEvent) → finished later es ≡ finished b (e ∷ es)) → with_built later read ≡ with_built b (and_then read (λ es. Ok (e ∷ es)))
more_built b later e (Ok es) takes = ap Ok (takes es)
more_built b later e (Err bad) takes = refl

-- one token more
pub built_more : (undirected : Bool) (factor : Option ℕ) (s next : State) (b later : Builder) (e : DotEvent) (t : DotToken) (tokens rest : List DotToken)
    → tokens ≡ t ∷ rest → at_line t.line (token_turn undirected factor s t rest) ≡ Ok (next, e) → ((es : List DotEvent) → finished later es ≡ finished b (e ∷ es))
    → with_built later (events_from undirected factor next rest) ≡ with_built b (events_from undirected factor s tokens)
built_more undirected factor s next b later e t tokens rest shape told takes = rw (shape, told) (more_built b later e (events_from undirected factor next rest) takes)

fault_more : {A B : Type 0} (f : A → B) (read : Result A DotFault) → result_err (and_then read (λ x. Ok (f x))) ≡ result_err read
fault_more f (Ok x) = refl
fault_more f (Err bad) = refl

-- a token without a fault does not change the first fault
pub skip_good : (undirected : Bool) (factor : Option ℕ) (s next : State) (e : DotEvent) (t : DotToken) (tokens rest : List DotToken)
    → tokens ≡ t ∷ rest → at_line t.line (token_turn undirected factor s t rest) ≡ Ok (next, e)
    → result_err (events_from undirected factor s tokens) ≡ result_err (events_from undirected factor next rest)
skip_good undirected factor s next e t tokens rest shape told = rw (shape, told) (fault_more (λ es. e ∷ es) (events_from undirected factor next rest))

-- a token's fault is the first
pub stop_bad : (undirected : Bool) (factor : Option ℕ) (s : State) (t : DotToken) (tokens rest : List DotToken) (bad : DotFault)
    → tokens ≡ t ∷ rest → at_line t.line (token_turn undirected factor s t rest) ≡ Err bad
    → result_err (events_from undirected factor s tokens) ≡ Some bad
stop_bad undirected factor s t tokens rest bad shape told = rw (shape, told) refl
