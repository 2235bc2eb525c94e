-- Bytes, the document that they are, and its keys.
use Rattle.std.proofs.Common.{◌≡◌, ℕ, suc, length, true, false, not, ◌||◌, List, [], Option, Some, None, Result, Ok, Err, is_some, refl, ap, arith, inl, inr}
use Rattle.std.specs.Prelude.{IsSomeAnd, IsUtf8, IfErr}
use Rattle.std.proofs.lemmas.Bool.{cases_Bool}
use Rattle.std.proofs.lemmas.Str.{IsUtf8-from_is_utf8, is_utf8-from_IsUtf8}
use Rattle.std.specs.Str.{is_utf8}
use Rattle.toml.specs.Data.{Data, Members, member, no_members}
use Rattle.toml.specs.Errors.{IsBlank, IsMemory}
use Rattle.toml.specs.declared.de.error.Error.{Error}
use Rattle.toml.specs.Tables.{no_nodes}
use Rattle.toml.proofs.Turns.{document_some, lines_end}
use Rattle.toml.specs.Parse.{parse_document, skip_bom}
use Rattle.link_net.specs.declared.cause.NetCause.{NetCause}
use Rattle.link_net.specs.declared.fault.NetFault.TheVariants.{NotToml}
use Rattle.link_net.specs.Causes.{refusal_of, IsDocumentCause, IsCause}
use Rattle.link_net.specs.Document.{is_known, has_unknown_key}
use Rattle.link_net.specs.Reading.{document_of, description_in, reading_of}

-- the document of a text
pub document_is : (text : List ℕ) (ms : Members) → IsUtf8 text → parse_document text ≡ Some ms → document_of text ≡ Some ms
document_is text ms utf8 parsed = rw (is_utf8-from_IsUtf8 text utf8, parsed) refl

-- bytes that are no text
pub no_document : (bytes : List ℕ) → (IsUtf8 bytes → ⊥) → document_of bytes ≡ None
no_document bytes other =
    elim (cases_Bool (is_utf8 bytes)) [
      | inl text ↦ absurd (other (IsUtf8-from_is_utf8 bytes text))
      | inr raw ↦ rw raw refl
    ]

pub reading_is : (bytes : List ℕ) (ms : Members) → document_of bytes ≡ Some ms → reading_of bytes ≡ description_in ms
reading_is bytes ms is = rw is refl

pub no_reading : (bytes : List ℕ) → document_of bytes ≡ None → Some NotToml ≡ refusal_of (reading_of bytes)
no_reading bytes is = rw is refl

-- a cause that lies in the document of the bytes
pub cause_of : (bytes : List ℕ) (ms : Members) (c : NetCause) → document_of bytes ≡ Some ms → IsDocumentCause ms c → IsCause bytes c
cause_of bytes ms c is h = inr (at (document_of bytes) is) where
  at : (o : Option Members) → o ≡ Some ms → IsSomeAnd o (λ m. IsDocumentCause m c)
  at None e = cc
  at (Some x) e = let same : x ≡ ms = cc in rw same h

-- a key that is one of the four
pub known_step : (key : List ℕ) (d : Data) (ms : Members) → is_known key ≡ true → has_unknown_key (member key d ms) ≡ has_unknown_key ms
known_step key d ms h = ap (λ t. not t || has_unknown_key ms) h

pub is_there : {A : Type 0} (o : Option A) (x : A) → o ≡ Some x → is_some o ≡ true
is_there o x h = ap is_some h

pub unknown_step : (key : List ℕ) (d : Data) (ms : Members) → is_known key ≡ false → has_unknown_key (member key d ms) ≡ true
unknown_step key d ms h = ap (λ t. not t || has_unknown_key ms) h

-- a text of nothing but white space and comments is a document with no key
pub blank_document : (text : List ℕ) → IsBlank text → parse_document text ≡ Some no_members
blank_document text blank = document_some text (no_nodes, []) (lines_end (suc (length text)) (no_nodes, []) (skip_bom text) (omega arith) blank)

-- so such a text is read, or memory ran out, which it wants none of
pub blank_is_read : (text : List ℕ) (e : Error) → ((IsMemory e → ⊥) → parse_document text ≡ None) → (IsMemory e → IsBlank text → ⊥) → IsBlank text → ⊥
blank_is_read text e refused memory blank =
    let none = refused (λ m. memory m blank) in
    let some = blank_document text blank in
    cc

-- what holds anyhow holds where there is an error
pub if_err : {T E X : Type 0} (r : Result T E) → X → IfErr r (λ _. X)
if_err (Ok x) h = tt
if_err (Err e) h = h
