-- Terms that are worth what is drawn.
use Rattle.std.specs.Prelude.{ℕ}
use Rattle.rule_lang.specs.declared.tree.Op.TheVariants as op
use Rattle.model_rules.specs.Draws.{key}
use Rattle.model_rules.specs.Terms.{TermTree, NumberTerm, IdTerm, RoundTerm, NearIdTerm, InfixTerm}

-- a number spread over 32 bits
abbrev pub spread_term : ℕ → ℕ → TermTree → TermTree
spread_term prime factor t = InfixTerm op.Times (InfixTerm op.Rem t (NumberTerm prime)) (NumberTerm factor)

-- the bits in which two numbers differ
abbrev pub differing_term : TermTree → TermTree → TermTree
differing_term a b = InfixTerm op.BitXor a b

-- what there is so far, spread anew, with a word and a key
abbrev pub stirred_term : ℕ → ℕ → TermTree → TermTree → ℕ → TermTree
stirred_term prime factor so_far t key = differing_term (spread_term prime factor so_far) (differing_term t (NumberTerm key))

-- 16 bits of a number
abbrev pub folded_term : TermTree → TermTree
folded_term t = InfixTerm op.Rem (InfixTerm op.Rem (spread_term 1048573 3299 t) (NumberTerm 1048573)) (NumberTerm 65536)

-- the words of a node and of the round, and those of a link
abbrev pub node_term : ℕ → ℕ → ℕ → TermTree
node_term prime of_id of_round = differing_term (spread_term prime of_id IdTerm) (spread_term prime of_round RoundTerm)

abbrev pub low_term : TermTree
low_term = InfixTerm op.Min IdTerm NearIdTerm

abbrev pub high_term : TermTree
high_term = InfixTerm op.Max IdTerm NearIdTerm

abbrev pub link_term : ℕ → ℕ → ℕ → ℕ → TermTree
link_term prime of_low of_high of_round =
    differing_term (differing_term (spread_term prime of_low low_term) (spread_term prime of_high high_term)) (spread_term prime of_round RoundTerm)

-- the first steps of a draw at a node, and all
abbrev pub node_begun : ℕ → ℕ → TermTree
node_begun seed draw =
    stirred_term 1040021 4093 (differing_term (spread_term 104729 40507 IdTerm) (NumberTerm (key seed draw 1))) (spread_term 104729 39119 RoundTerm) (key seed draw 2)

abbrev pub node_draw_term : ℕ → ℕ → TermTree
node_draw_term seed draw =
    folded_term (stirred_term 990001 4327 (stirred_term 1020001 4201 (node_begun seed draw) (node_term 99991 41893 42083) (key seed draw 3)) (node_term 93997 44111 45007) (key seed draw 4))

-- and for a link
abbrev pub link_begun : ℕ → ℕ → TermTree
link_begun seed draw =
    stirred_term 1040021 4093 (differing_term (spread_term 104729 40507 low_term) (NumberTerm (key seed draw 1))) (spread_term 104729 39119 high_term) (key seed draw 2)

abbrev pub link_draw_term : ℕ → ℕ → TermTree
link_draw_term seed draw =
    folded_term (stirred_term 970027 4421 (stirred_term 990001 4327 (stirred_term 1020001 4201 (link_begun seed draw) (spread_term 104729 37397 RoundTerm) (key seed draw 3)) (link_term 99991 41893 42083 38653) (key seed draw 4)) (link_term 93997 44111 45007 43067) (key seed draw 5))

-- a number below a bound, of one from 0 to 65535
abbrev pub scaled_term : TermTree → TermTree → TermTree
scaled_term t u = InfixTerm op.Quot (InfixTerm op.Times t u) (NumberTerm 65536)
