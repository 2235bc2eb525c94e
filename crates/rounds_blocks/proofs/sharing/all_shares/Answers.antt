use Rattle.rounds_blocks.proofs.sharing.all_shares.Goals as goal

pub returns : goal.returns
returns c = record {
  shares = record {
    apart = λ _. c.in_ok-all-2.ensures.shares c.args.nodes c.requires.long;
    ranged = λ is. absurd (cc is);
    one = λ is. absurd (cc is);
    together = c.requires.spans;
  };
}
