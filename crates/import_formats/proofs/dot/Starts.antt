-- Where a statement may begin, and that it does not matter which of these places it is.
use Rattle.std.proofs.Common.{◌≡◌, ℕ, Bool, List, refl, ◌∙◌, Option, Result}
use Rattle.import_formats.specs.declared.dot.token_kind.TokenKind.{TokenKind}
use Rattle.import_formats.specs.declared.dot.token_kind.TokenKind.TheVariants.{Node, BracketOpen, Semicolon, Colon, Dashes, Arrow, End}
use Rattle.import_formats.specs.declared.dot.state.Place.{Place}
use Rattle.import_formats.specs.declared.dot.state.Place.TheVariants as stands
use Rattle.import_formats.specs.declared.dot.state.State.{State}
use Rattle.import_formats.specs.declared.dot.token_kind.TokenKind.TheVariants as kind
use Rattle.import_formats.specs.declared.dot.fault.DotFault.{DotFault}
use Rattle.import_formats.specs.declared.dot.state.Owner.{Owner}
use Rattle.import_formats.specs.dot.Lexing.{DotToken}
use Rattle.import_formats.specs.dot.Grammar.{Turn, at_statement, at_done, at_closed, at_node, at_ported, at_sided, at_listed, turn_at}
use Rattle.import_formats.specs.dot.Graphs.{DotGraph, and_then, at_line, unsaid_weight}
use Rattle.import_formats.specs.dot.Syntax.{Mark}
use Rattle.import_formats.proofs.dot.Building.{Built, build, built_with}
use Rattle.import_formats.proofs.dot.SignTurns.{told}
use Rattle.import_formats.proofs.dot.Marked.{marked_tokens}

-- ---- states and steps

abbrev pub at : Place → ℕ → Bool → Owner → Bool → State
at place depth directed owner weighs = record { place = place; depth = depth; directed = directed; owner = owner; weighs = weighs }

-- what is built from marks
abbrev pub go : Bool → Option ℕ → Built → State → List Mark → Result DotGraph DotFault
go undirected factor b s ms = build undirected factor b s (marked_tokens ms)

-- what is built after a turn
abbrev pub behind : Bool → Option ℕ → Built → TokenKind → List ℕ → ℕ → List Mark → Turn → Result DotGraph DotFault
behind undirected factor b k text line ms turn = and_then (at_line line (told factor k text line turn)) (λ n. build undirected factor (built_with (unsaid_weight factor) b n.1) n.0 (marked_tokens ms))

-- after a statement
pub data Behind : Type 0 where
  AtDone : Behind
  AtClosed : Behind
  AtNode : Behind
  AtPorted : Behind
  AtSided : Behind
  AtListed : Behind

abbrev pub behind_place : Behind → Place
behind_place AtDone = stands.Done
behind_place AtClosed = stands.Closed
behind_place AtNode = stands.Node
behind_place AtPorted = stands.Ported
behind_place AtSided = stands.Sided
behind_place AtListed = stands.Listed

-- where a statement may begin
pub data Ready : Type 0 where
  Fresh : Ready
  Later : (behind : Behind) → Ready

abbrev pub ready_place : Ready → Place
ready_place Fresh = stands.Statement
ready_place (Later x) = behind_place x

-- a token that goes on no statement
abbrev pub IsFirst : TokenKind → Type 0
IsFirst kind.Semicolon = ⊥
IsFirst kind.Dashes = ⊥
IsFirst kind.Arrow = ⊥
IsFirst kind.BracketOpen = ⊥
IsFirst kind.Colon = ⊥
IsFirst k = Unit {0}

pub done_first : (s : State) (a : List DotToken) (k : TokenKind) → IsFirst k → at_done s a k ≡ at_statement s a k
done_first s a kind.Semicolon is = absurd is
done_first s a k is = refl

pub sided_first : (s : State) (a : List DotToken) (k : TokenKind) → IsFirst k → at_sided s a k ≡ at_statement s a k
sided_first s a kind.Semicolon is = absurd is
sided_first s a kind.Dashes is = absurd is
sided_first s a kind.Arrow is = absurd is
sided_first s a kind.BracketOpen is = absurd is
sided_first s a k is = refl

pub closed_first : (s : State) (a : List DotToken) (k : TokenKind) → IsFirst k → at_closed s a k ≡ at_statement s a k
closed_first s a kind.Semicolon is = absurd is
closed_first s a kind.Dashes is = absurd is
closed_first s a kind.Arrow is = absurd is
closed_first s a k is = refl

pub node_first : (s : State) (a : List DotToken) (k : TokenKind) → IsFirst k → at_node s a k ≡ at_statement s a k
node_first s a kind.Colon is = absurd is
node_first s a kind.Semicolon is = absurd is
node_first s a kind.Dashes is = absurd is
node_first s a kind.Arrow is = absurd is
node_first s a kind.BracketOpen is = absurd is
node_first s a k is = refl

pub ported_first : (s : State) (a : List DotToken) (k : TokenKind) → IsFirst k → at_ported s a k ≡ at_statement s a k
ported_first s a kind.Colon is = absurd is
ported_first s a kind.Semicolon is = absurd is
ported_first s a kind.Dashes is = absurd is
ported_first s a kind.Arrow is = absurd is
ported_first s a kind.BracketOpen is = absurd is
ported_first s a k is = refl

pub listed_first : (s : State) (a : List DotToken) (k : TokenKind) → IsFirst k → at_listed s a k ≡ at_statement s a k
listed_first s a kind.Semicolon is = absurd is
listed_first s a kind.BracketOpen is = absurd is
listed_first s a k is = refl

-- the place before a token does not matter beyond the choice of a row
pub statement_place : (p q : Place) (depth : ℕ) (directed : Bool) (owner : Owner) (w : Bool) (a : List DotToken) (k : TokenKind) → at_statement (at p depth directed owner w) a k ≡ at_statement (at q depth directed owner w) a k
statement_place p q depth directed owner w a kind.End = refl
statement_place p q depth directed owner w a k = refl

pub ready_turn : (r : Ready) (undirected : Bool) (depth : ℕ) (directed : Bool) (owner : Owner) (w : Bool) (k : TokenKind) (text : List ℕ) (a : List DotToken) → IsFirst k
    → turn_at (ready_place r) undirected (at (ready_place r) depth directed owner w) k text a ≡ at_statement (at stands.Statement depth directed owner w) a k
ready_turn Fresh undirected depth directed owner w k text a is = refl
ready_turn (Later AtDone) undirected depth directed owner w k text a is = done_first (at stands.Done depth directed owner w) a k is ∙ statement_place stands.Done stands.Statement depth directed owner w a k
ready_turn (Later AtClosed) undirected depth directed owner w k text a is = closed_first (at stands.Closed depth directed owner w) a k is ∙ statement_place stands.Closed stands.Statement depth directed owner w a k
ready_turn (Later AtNode) undirected depth directed owner w k text a is = node_first (at stands.Node depth directed owner w) a k is ∙ statement_place stands.Node stands.Statement depth directed owner w a k
ready_turn (Later AtPorted) undirected depth directed owner w k text a is = ported_first (at stands.Ported depth directed owner w) a k is ∙ statement_place stands.Ported stands.Statement depth directed owner w a k
ready_turn (Later AtSided) undirected depth directed owner w k text a is = sided_first (at stands.Sided depth directed owner w) a k is ∙ statement_place stands.Sided stands.Statement depth directed owner w a k
ready_turn (Later AtListed) undirected depth directed owner w k text a is = listed_first (at stands.Listed depth directed owner w) a k is ∙ statement_place stands.Listed stands.Statement depth directed owner w a k
