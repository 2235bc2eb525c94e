use Rattle.net_text.proofs.Members.{members-put}
use Rattle.net_text.proofs.document.put.Goals as goal

pub returns : goal.returns
returns c =
    rw (c.in_ok-insert.ensures.entries, members-put c.in_ok-key.key c.args.value c.args.table.now.entries, c.in_ok-key.ensures.ok)
