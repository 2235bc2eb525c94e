-- Terms without where they lie in memory.
use Rattle.std.specs.Prelude.{List, map, string_bytes}
use Rattle.model_rules.specs.declared.term.Term.{Term}
use Rattle.model_rules.specs.declared.term.Term.TheVariants.{Number, Own, Id, Degree, Round, Parameter, Near, NearId, NearWeight, Infix', Not', Over', Choice'}
use Rattle.model_rules.specs.Terms.{TermTree, NumberTerm, OwnTerm, IdTerm, DegreeTerm, RoundTerm, ParameterTerm, NearTerm, NearIdTerm, NearWeightTerm, InfixTerm, NotTerm, OverTerm, ChoiceTerm}

-- the tree of a term, whose names are bytes
abbrev pub term_of : Term → TermTree
term_of (Number n) = NumberTerm n
term_of (Own name) = OwnTerm (string_bytes name)
term_of Id = IdTerm
term_of Degree = DegreeTerm
term_of Round = RoundTerm
term_of (Parameter k) = ParameterTerm k
term_of (Near name) = NearTerm (string_bytes name)
term_of NearId = NearIdTerm
term_of NearWeight = NearWeightTerm
term_of (Infix' op p a q b) = InfixTerm op (term_of a) (term_of b)
term_of (Not' p a) = NotTerm (term_of a)
term_of (Over' agg p a) = OverTerm agg (term_of a)
term_of (Choice' p a q b r c) = ChoiceTerm (term_of a) (term_of b) (term_of c)

-- terms as trees
abbrev pub terms_of : List Term → List TermTree
terms_of terms = map term_of terms
