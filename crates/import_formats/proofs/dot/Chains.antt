-- Chains of nodes.
use Rattle.std.proofs.Common.{◌≡◌, ◌<◌, List, [], ◌∷◌, ◌++◌, map, length, refl, sym, ◌∙◌, append-nil, arith}
use Rattle.import_lines.specs.declared.weight.Weight.{Weight}
use Rattle.import_lines.specs.Named.{NamedEdge}
use Rattle.import_lines.specs.declared.mention.Mention.{Mention}
use Rattle.import_formats.specs.dot.Graphs.{chain}
use Rattle.import_formats.specs.dot.View.{mention_of}

chain_short : (w : Weight) (ends : List Mention) → length ends < 2 → chain w (map mention_of ends) ≡ []
chain_short w [] short = refl
chain_short w (a ∷ []) short = refl
chain_short w (a ∷ b ∷ ms) short = absurd (omega arith)

-- a chain of one node or none has no edge more
pub chain_ends : (edges all : List NamedEdge) (w : Weight) (ends : List Mention) → length ends < 2 → edges ++ chain w (map mention_of ends) ≡ all → edges ≡ all
chain_ends edges all w ends short is = sym (append-nil edges) ∙ rw (chain_short w ends short) at is
