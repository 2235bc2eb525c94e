use Rattle.net_names.proofs.FirstLines.{lines-text_of}
use Rattle.net_names.proofs.writer.names_text.Goals as goal

pub returns-clause-reads_back : goal.returns-clause-reads_back
returns-clause-reads_back c = record {
  on_lines = rw (c.into_bytes.ensures.value, c.in_ok-put_lines.ensures, c.new-out.ensures.bytes, c.texts.ensures.texts) (lines-text_of c.args.names.now c.texts.ensures.names.each);
  are_names = c.texts.ensures.names;
}
