use Rattle.std.proofs.Common.{◌≡◌, ◌++◌, [], map, take}
use Rattle.csv.specs.Records.{fields_of, partial_of}
use Rattle.report_files.proofs.tables.records.put_names.Given as goal

abbrev pub invariant-loop-field : goal.invariant-loop-field
invariant-loop-field l = record {
  whole : partial_of l.line ≡ [];
  cells : fields_of l.line ≡ fields_of l.fn.line ++ map (λ f. f.now) (take l.field-index l.fields);
}
