use Rattle.std.proofs.Common.{[], ap, ◌∙◌, ◌++◌, string_bytes}
use Rattle.net_patterns.specs.OnGrids.{spelling_of}
use Rattle.net_patterns.proofs.writer.Writer.put_last.Goals as goal

pub returns : goal.returns
returns c =
    record {
      text = c.in_ok-put_ending.ensures.text
          ∙ ap (λ kind. string_bytes c.put_span.new.self.out ++ (spelling_of kind).ending) c.in_ok-put_span.ensures.kind
          ∙ c.in_ok-put_span.ensures.text [];
    }
