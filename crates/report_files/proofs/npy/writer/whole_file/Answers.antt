use Rattle.std.proofs.Common.{◌≡◌, ◌∙◌, ◌++◌, ap, arith}
use Rattle.std.specs.Int.{to_le_bytes, w32}
use Rattle.std.specs.List.{flat_map}
use Rattle.report_files.specs.npy.Written.{npy_file}
use Rattle.report_files.proofs.npy.Writes.{written_whole, row_back}
use Rattle.report_files.proofs.npy.writer.whole_file.Goals as goal

items : (c : goal.In_ok-push_words) → c.push_words.new.bytes.items ≡ npy_file c.args.shape c.args.words.now
items c =
    c.in_ok-push_words.ensures.pushed
    ∙ ap (λ xs. xs ++ flat_map (to_le_bytes w32) c.args.words.now) c.in_ok-bytes.ensures.front
    ∙ written_whole c.args.shape (flat_map (to_le_bytes w32) c.args.words.now) c.in_ok-bytes.ensures.small

pub returns-clause-file : goal.returns-clause-file
returns-clause-file c = items c

pub returns-clause-reads_back : goal.returns-clause-reads_back
returns-clause-reads_back c = λ row few.
    rw (items c) (row_back c.args.shape c.args.words.now row c.requires.whole c.in_ok-bytes.ensures.small few (λ k. omega (arith, c.type_inv.words k)))
