use Rattle.import_network.proofs.finish.finished.Goals as goal

pub returns-in-File-clause-made : goal.returns-in-File-clause-made
returns-in-File-clause-made c = rw (c.in-File.is) c.filed.ensures.made

pub returns-in-Packed-clause-made : goal.returns-in-Packed-clause-made
returns-in-Packed-clause-made c = rw (c.in-Packed.is) c.packed_network.ensures.made
