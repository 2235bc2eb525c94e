-- What a text says is what is read of it.
use Rattle.std.proofs.Common.{◌≡◌, ◌≢◌, ℕ, Bool, List, refl, sym, ap, ◌∙◌, Option, Result, Ok, Err}
use Rattle.std.specs.Option.{unwrap_or}
use Rattle.std.specs.Result.{result_err}
use Rattle.import_formats.specs.declared.dot.fault.DotFault.{DotFault}
use Rattle.import_formats.specs.declared.dot.fault.DotFault.TheVariants.{Memory}
use Rattle.import_formats.specs.dot.Graphs.{DotGraph, graph_of, Says}
use Rattle.import_formats.specs.dot.Reading.{read_graph}
use Rattle.import_formats.specs.dot.Tokens.{tokens_of}
use Rattle.import_formats.proofs.dot.TokensRead.{tokens_read, has_tokens}

pub says : (undirected : Bool) (factor : Option ℕ) (text : List ℕ) → Says undirected factor text (read_graph undirected factor text)
says undirected factor text = record { tokens = tokens_of text; are = has_tokens text; graph = refl }

pub said_read : (undirected : Bool) (factor : Option ℕ) (text : List ℕ) (said : Result DotGraph DotFault) → Says undirected factor text said → said ≡ read_graph undirected factor text
said_read undirected factor text said s = s.graph ∙ ap (graph_of undirected factor) (sym (tokens_read text s.tokens s.are))

-- a fault that is told, or running out of memory
pub fault_said : (read : Result DotGraph DotFault) (bad : DotFault) → bad ≡ unwrap_or (result_err read) Memory → bad ≢ Memory → read ≡ Err bad
fault_said (Ok g) bad is other = absurd (other is)
fault_said (Err fault) bad is other = ap Err (sym is)

-- a text that is read has no fault
pub no_fault_said : (undirected : Bool) (factor : Option ℕ) (text : List ℕ) (fault : DotFault) (g : DotGraph) → Says undirected factor text (Err fault) → read_graph undirected factor text ≡ Ok g → ⊥
no_fault_said undirected factor text fault g s is = (let clash = said_read undirected factor text (Err fault) s ∙ is in cc)

pub fault_given : (undirected : Bool) (factor : Option ℕ) (text : List ℕ) (fault given : DotFault) → Says undirected factor text (Err fault) → given ≡ unwrap_or (result_err (read_graph undirected factor text)) Memory → given ≡ fault
fault_given undirected factor text fault given s is = is ∙ ap (λ r. unwrap_or (result_err r) Memory) (sym (said_read undirected factor text (Err fault) s))
