use Rattle.std.proofs.Common.{◌≡◌, ◌∙◌, ◌++◌, ◌∷◌, [], length, ap, refl, arith}
use Rattle.std.proofs.lemmas.List.{length-append}
use Rattle.report_files.specs.declared.npy.front.Version.TheVariants.{One}
use Rattle.report_files.specs.npy.Files.{magic, version_bytes, length_bytes}
use Rattle.report_files.specs.npy.Written.{axes_text}
use Rattle.report_files.specs.npy.Parts.{bare_header}
use Rattle.report_files.proofs.npy.Writes.{axes_short, bare_length, front_is}
use Rattle.report_files.proofs.npy.writer.front_bytes.Goals as goal

pub push_blanks-requires : goal.push_blanks-requires
push_blanks-requires c =
    let axes = axes_text c.args.shape in
    let items : c.extend_from_slice-4.new.self.items ≡ magic ++ (version_bytes One ++ (length_bytes One 118 ++ bare_header axes)) =
    rw (c.in_ok-extend_from_slice-4.ensures.items, c.in_ok-extend_from_slice-3.ensures.items, c.in_ok-extend_from_slice-2.ensures.items, c.in_ok-extend_from_slice.ensures.items, c.in_ok-bytes.ensures.items, c.to_le_bytes.ensures, c.as_bytes.ensures.value, c.in_ok-header.ensures.text) refl in
    record {
      room = omega (arith, ap length items, length-append (magic ++ (version_bytes One ++ length_bytes One 118)) (bare_header axes), bare_length axes, axes_short c.args.shape c.in_ok-header.ensures.small);
      few = omega arith;
    }

pub returns : goal.returns
returns c =
    let axes = axes_text c.args.shape in
    let items : c.extend_from_slice-4.new.self.items ≡ magic ++ (version_bytes One ++ (length_bytes One 118 ++ bare_header axes)) =
    rw (c.in_ok-extend_from_slice-4.ensures.items, c.in_ok-extend_from_slice-3.ensures.items, c.in_ok-extend_from_slice-2.ensures.items, c.in_ok-extend_from_slice.ensures.items, c.in_ok-bytes.ensures.items, c.to_le_bytes.ensures, c.as_bytes.ensures.value, c.in_ok-header.ensures.text) refl in
    record {
      front =
          c.in_ok-push.ensures.items
          ∙ ap (λ xs. xs ++ 10 ∷ []) c.in_ok-push_blanks.ensures.pushed
          ∙ front_is c.args.shape c.in_ok-header.ensures.small c.extend_from_slice-4.new.self.items items;
      small = c.in_ok-header.ensures.small;
    }
