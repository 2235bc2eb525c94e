use Rattle.std.proofs.Common.{◌≡◌, ◌∙◌, ap, map, refl}
use Rattle.model_text.specs.declared.keyword.TheConstants.{RESERVED}
use Rattle.model_text.specs.Keywords.{first_reserved, keyword_of, reserved}
use Rattle.model_text.proofs.keyword.reserved_word.Goals as goal

-- the table has the reserved words
table : map (λ k. (k.0.now, k.1)) RESERVED ≡ reserved
table = refl

pub returns : goal.returns
unfolding keyword_of
returns c = c.first_reserved.ensures ∙ ap (first_reserved c.args.word.now) table
