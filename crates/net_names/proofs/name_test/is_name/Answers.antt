use Rattle.std.proofs.Common.{arith}
use Rattle.std.proofs.lemmas.Str.{is_utf8-from_IsUtf8}
use Rattle.net_names.proofs.Names.{name_when}
use Rattle.net_names.proofs.name_test.is_name.Goals as goal

pub returns : goal.returns
returns c =
    let bytes = c.args.text.now in
    rw (c.has_control.ensures, c.as_bytes.ensures.value) (name_when bytes (is_utf8-from_IsUtf8 bytes c.utf8.text) (omega arith) (omega arith))
