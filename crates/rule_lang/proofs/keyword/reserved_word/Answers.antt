use Rattle.std.proofs.Common.{◌≡◌, ◌∙◌, ℕ, List, map, refl}
use Rattle.rule_lang.specs.declared.keyword.TheConstants.{RESERVED}
use Rattle.rule_lang.specs.Keywords.{first_reserved, keyword_of}
use Rattle.rule_lang.proofs.keyword.reserved_word.Goals as goal

-- the table has all reserved words, in order
table : (word : List ℕ) → first_reserved word (map (λ k. (k.0.now, k.1)) RESERVED) ≡ keyword_of word
unfolding keyword_of
table word = refl

pub returns : goal.returns
returns c = c.first_reserved.ensures ∙ table c.args.word.now
