-- Tokens with a text.
use Rattle.std.proofs.Common.{◌≡◌, inl, inr, ℕ, false, List, refl, Ok, Err, Some, IsUtf8}
use Rattle.std.specs.Str.{is_utf8}
use Rattle.std.proofs.lemmas.Bool.{cases_Bool}
use Rattle.std.proofs.lemmas.Str.{IsUtf8-from_is_utf8, is_utf8-from_IsUtf8}
use Rattle.import_formats.specs.declared.dot.token_kind.TokenKind.{TokenKind}
use Rattle.import_formats.specs.declared.dot.fault.DotLineFault.TheVariants.{NotUtf8}
use Rattle.import_formats.specs.dot.Tokens.{texted}

not_utf8 : (bytes : List ℕ) → (IsUtf8 bytes → ⊥) → is_utf8 bytes ≡ false
not_utf8 bytes bad =
    elim (cases_Bool (is_utf8 bytes)) [
      | inl good ↦ absurd (bad (IsUtf8-from_is_utf8 bytes good))
      | inr other ↦ other
    ]

pub texted-utf8 : (kind : TokenKind) (bytes text : List ℕ) (size : ℕ) → text ≡ bytes → IsUtf8 bytes → texted kind bytes size ≡ Ok (record { kind = Some kind; text = text; size = size })
texted-utf8 kind bytes text size same utf8 = rw (is_utf8-from_IsUtf8 bytes utf8, same) refl

pub texted-not_utf8 : (kind : TokenKind) (bytes : List ℕ) (size : ℕ) → (IsUtf8 bytes → ⊥) → texted kind bytes size ≡ Err NotUtf8
texted-not_utf8 kind bytes size bad = rw (not_utf8 bytes bad) refl
