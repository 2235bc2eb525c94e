use Rattle.std.proofs.Common.{ap, ◌∙◌, inl, inr}
use Rattle.import_formats.specs.dot.Grammar.{keyed}
use Rattle.import_formats.proofs.dot.grammar.at_list.Goals as goal

-- an attribute that is the weight, or another
pub returns-in-Name : goal.returns-in-Name
returns-in-Name c =
    let told = c.keyed.ensures ∙ ap (keyed c.args.state) c.eq.ensures in
    elim c.in-Name.is [
      | inl name ↦ rw name told
      | inr quoted ↦ rw quoted told
    ]
