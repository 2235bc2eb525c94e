-- Lines that may be shown.
use Rattle.std.proofs.Common.{◌≡◌, inl, inr, ◌<◌, ◌≤◌, ℕ, Bool, true, false, List, length, nat_lt, refl, sym, ◌∙◌, arith, Ok, Err, IsUtf8}
use Rattle.std.specs.List.{list_any}
use Rattle.std.specs.Str.{is_utf8}
use Rattle.std.proofs.lemmas.Bool.{cases_Bool}
use Rattle.std.proofs.lemmas.Bool.Decides.{nat_tests}
use Rattle.std.proofs.lemmas.Str.{IsUtf8-from_is_utf8, is_utf8-from_IsUtf8}
use Rattle.import_lines.specs.declared.words_fault.WordsFault.TheVariants.{NotUtf8, ControlCharacter, LongLine}
use Rattle.import_lines.specs.Parts.{is_control, most_bytes, shown}

not_utf8 : (line : List ℕ) → (IsUtf8 line → ⊥) → is_utf8 line ≡ false
not_utf8 line bad =
    elim (cases_Bool (is_utf8 line)) [
      | inl good ↦ absurd (bad (IsUtf8-from_is_utf8 line good))
      | inr other ↦ other
    ]

pub shown-not_utf8 : (line : List ℕ) → (IsUtf8 line → ⊥) → shown line ≡ Err NotUtf8
shown-not_utf8 line bad = rw (not_utf8 line bad) refl

module _ (line : List ℕ) (control : Bool) (utf8 : IsUtf8 line) (tells : control ≡ list_any is_control line) where
  pub shown-control : control ≡ true → shown line ≡ Err ControlCharacter
  shown-control holds = rw (is_utf8-from_IsUtf8 line utf8, sym tells ∙ holds) refl

  pub shown-long : control ≡ false → most_bytes < length line → shown line ≡ Err LongLine
  shown-long holds long = (let test : nat_lt most_bytes (length line) ≡ true = grind (arith, nat_tests) in rw (is_utf8-from_IsUtf8 line utf8, sym tells ∙ holds, test) refl)

  pub shown-whole : (text : List ℕ) → text ≡ line → control ≡ false → length line ≤ most_bytes → shown line ≡ Ok text
  shown-whole text same holds short =
      let test : nat_lt most_bytes (length line) ≡ false = grind (arith, nat_tests) in
      rw (is_utf8-from_IsUtf8 line utf8, sym tells ∙ holds, test, same) refl
