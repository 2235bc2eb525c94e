-- What functions return, as the definitions speak of it.
use Rattle.std.specs.Prelude.{◌≡◌, List, [], ◌++◌, map, drop, MatchResult, Result, Ok, Err, if◌then◌else◌}
use Rattle.import_lines.specs.declared.mention.Mention.{Mention}
use Rattle.import_formats.specs.declared.dot.events.Event.{Event}
use Rattle.import_formats.specs.declared.dot.events.Event.TheVariants.{Nothing, Begins, Joins, Weighs}
use Rattle.import_formats.specs.declared.dot.builder.Graph.{Graph}
use Rattle.import_formats.specs.declared.dot.builder.Builder.{Builder}
use Rattle.import_formats.specs.declared.dot.pieces.Cut.{Cut}
use Rattle.import_formats.specs.declared.dot.tokens.Token.{Token}
use Rattle.import_formats.specs.declared.dot.tokens.Tokens.{Tokens}
use Rattle.import_formats.specs.dot.Lexing.{DotToken}
use Rattle.import_formats.specs.dot.Tokens.{Piece, tokens_at}
use Rattle.import_formats.specs.dot.Graphs.{DotMention, DotEvent, NoEvent, BeginsEvent, JoinsEvent, WeighsEvent, DotGraph, mentions, edges_in}

-- what stands at the front of bytes
abbrev pub piece_of : Cut → Piece
piece_of c = record { kind = c.kind; text = c.text.now; size = c.size }

-- a token
abbrev pub token_of : Token → DotToken
token_of t = record { line = t.line; kind = t.kind; text = t.text.now }

-- the tokens that are left
abbrev pub tokens_left : Tokens → List DotToken
tokens_left t = if t.ended then [] else tokens_at 0 t.fresh t.line t.bytes.now

-- what was returned, seen by view, is the defined result
abbrev pub IsGiven : {A B E : Type 0} → (B → A) → Result A E → Result B E → Type 0
IsGiven view defined r = MatchResult r (λ x. defined ≡ Ok (view x)) (λ fault. defined ≡ Err fault)

-- a node that is named
abbrev pub mention_of : Mention → DotMention
mention_of m = record { name = m.name.now; line = m.line }

-- what a token says
abbrev pub event_of : Event → DotEvent
event_of Nothing = NoEvent
event_of (Begins m) = BeginsEvent (mention_of m)
event_of (Joins m) = JoinsEvent (mention_of m)
event_of (Weighs w) = WeighsEvent w

-- a graph
abbrev pub graph_view : Graph → DotGraph
graph_view g = record { nodes = map mention_of g.nodes.items; edges = g.edges.items }

-- the graph so far, with what the tokens that are left say
abbrev pub finished : Builder → List DotEvent → DotGraph
finished b es = record {
  nodes = map mention_of b.nodes.items ++ mentions es;
  edges = b.edges.items ++ edges_in b.unsaid b.weight (map mention_of (drop b.passed b.nodes.items)) es;
}
