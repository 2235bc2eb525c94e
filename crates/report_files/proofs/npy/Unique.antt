-- Bytes have one reading.
use Rattle.std.proofs.Common.{◌≡◌, ◌≢◌, ◌∙◌, ℕ, List, refl, sym, ap, Result, Ok, Err, MatchResult, Vec, Global, inl, inr}
use Rattle.report_files.specs.declared.npy.fault.NpyFault.{NpyFault}
use Rattle.report_files.specs.declared.npy.fault.NpyFault.TheVariants.{Magic, Version, Header, Kind, Shape, Length, Value, Memory}
use Rattle.report_files.specs.npy.Arrays.{kind_text, IsNoArray, IsReading, HasVerdict}
use Rattle.report_files.proofs.npy.Fronts.{file_version}
use Rattle.report_files.proofs.npy.Arrays.{whole_once, same_verdict, no_array}

-- bytes are no array for one reason
pub one_fault : (bytes : List ℕ) (f g : NpyFault) → IsNoArray bytes f → IsNoArray bytes g → f ≡ g
one_fault bytes Magic Magic h k = refl
one_fault bytes Magic Version h k = absurd (h k.0.0 k.0.1)
one_fault bytes Magic Header h k = absurd (h _ k.0.text)
one_fault bytes Magic Kind h k = absurd (h _ k.whole.file.text)
one_fault bytes Magic Shape h k = absurd (h _ k.whole.file.text)
one_fault bytes Magic (Length x y) h k = absurd k
one_fault bytes Magic (Value p) h k = absurd k
one_fault bytes Magic Memory h k = absurd k
one_fault bytes Version Magic h k = absurd (k h.0.0 h.0.1)
one_fault bytes Version Version h k = refl
one_fault bytes Version Header h k = absurd (h.1 k.0)
one_fault bytes Version Kind h k = absurd (h.1 (file_version bytes k.whole.header k.body k.whole.file))
one_fault bytes Version Shape h k = absurd (h.1 (file_version bytes k.whole.header k.body k.whole.file))
one_fault bytes Version (Length x y) h k = absurd k
one_fault bytes Version (Value p) h k = absurd k
one_fault bytes Version Memory h k = absurd k
one_fault bytes Header Magic h k = absurd (k _ h.0.text)
one_fault bytes Header Version h k = absurd (k.1 h.0)
one_fault bytes Header Header h k = refl
one_fault bytes Header Kind h k = absurd (h.1 k.kind k.shape k.body k.whole)
one_fault bytes Header Shape h k = absurd (h.1 (kind_text k.element) k.shape k.body k.whole)
one_fault bytes Header (Length x y) h k = absurd k
one_fault bytes Header (Value p) h k = absurd k
one_fault bytes Header Memory h k = absurd k
one_fault bytes Kind Magic h k = absurd (k _ h.whole.file.text)
one_fault bytes Kind Version h k = absurd (k.1 (file_version bytes h.whole.header h.body h.whole.file))
one_fault bytes Kind Header h k = absurd (k.1 h.kind h.shape h.body h.whole)
one_fault bytes Kind Kind h k = refl
one_fault bytes Kind Shape h k = absurd (h.other k.element (whole_once bytes h.kind h.shape h.body (kind_text k.element) k.shape k.body h.whole k.whole).0)
one_fault bytes Kind (Length x y) h k = absurd k
one_fault bytes Kind (Value p) h k = absurd k
one_fault bytes Kind Memory h k = absurd k
one_fault bytes Shape Magic h k = absurd (k _ h.whole.file.text)
one_fault bytes Shape Version h k = absurd (k.1 (file_version bytes h.whole.header h.body h.whole.file))
one_fault bytes Shape Header h k = absurd (k.1 (kind_text h.element) h.shape h.body h.whole)
one_fault bytes Shape Kind h k = absurd (k.other h.element (whole_once bytes k.kind k.shape k.body (kind_text h.element) h.shape h.body k.whole h.whole).0)
one_fault bytes Shape Shape h k = refl
one_fault bytes Shape (Length x y) h k = absurd k
one_fault bytes Shape (Value p) h k = absurd k
one_fault bytes Shape Memory h k = absurd k
one_fault bytes (Length x y) g h k = absurd h
one_fault bytes (Value p) g h k = absurd h
one_fault bytes Memory g h k = absurd h

one_verdict : (bytes : List ℕ) (r s : Result (List ℕ) NpyFault) → HasVerdict bytes r → HasVerdict bytes s → r ≡ s
one_verdict bytes r s h k = sym h.same ∙ same_verdict bytes k.element k.count k.body h.element h.count h.body k.array h.array ∙ k.same

-- bytes have one reading
pub one_reading : (bytes : List ℕ) (r s : Result (List ℕ) NpyFault) → IsReading bytes r → IsReading bytes s → r ≡ s
one_reading bytes (Ok v) (Ok w) h k = one_verdict bytes (Ok v) (Ok w) h k
one_reading bytes (Ok v) (Err g) h (inl none) = absurd (no_array bytes g h.element h.count h.body none h.array)
one_reading bytes (Ok v) (Err g) h (inr found) = one_verdict bytes (Ok v) (Err g) h found
one_reading bytes (Err f) (Ok w) (inl none) k = absurd (no_array bytes f k.element k.count k.body none k.array)
one_reading bytes (Err f) (Ok w) (inr found) k = one_verdict bytes (Err f) (Ok w) found k
one_reading bytes (Err f) (Err g) (inl none) (inl other) = ap (λ e. Err e) (one_fault bytes f g none other)
one_reading bytes (Err f) (Err g) (inl none) (inr other) = absurd (no_array bytes f other.element other.count other.body none other.array)
one_reading bytes (Err f) (Err g) (inr found) (inl other) = absurd (no_array bytes g found.element found.count found.body other found.array)
one_reading bytes (Err f) (Err g) (inr found) (inr other) = one_verdict bytes (Err f) (Err g) found other

same_fault : (bytes : List ℕ) (f g : NpyFault) → IsReading bytes (Err f) → IsReading bytes (Err g) → f ≡ g
same_fault bytes f g h k = let same = one_reading bytes (Err f) (Err g) h k in cc

no_words : (bytes : List ℕ) (words : List ℕ) (g : NpyFault) → IsReading bytes (Ok words) → IsReading bytes (Err g) → ⊥
no_words bytes words g h k = let same = one_reading bytes (Ok words) (Err g) h k in cc

-- what has a fault is refused with it
pub refused : (bytes : List ℕ) (r : Result (Vec ℕ Global) NpyFault)
    → MatchResult r (λ v. IsReading bytes (Ok v.items)) (λ fault. fault ≢ Memory → IsReading bytes (Err fault))
    → (r ≡ Err Memory → (words : List ℕ) × IsReading bytes (Ok words))
    → (fault : NpyFault) → IsReading bytes (Err fault) → r ≡ Err fault
refused bytes (Ok v) h out fault k = absurd (no_words bytes v.items fault h k)
refused bytes (Err Memory) h out fault k = let words = out refl in absurd (no_words bytes words.0 fault words.1 k)
refused bytes (Err Magic) h out fault k = ap (λ e. Err e) (same_fault bytes Magic fault (h (λ is. absurd cc)) k)
refused bytes (Err Version) h out fault k = ap (λ e. Err e) (same_fault bytes Version fault (h (λ is. absurd cc)) k)
refused bytes (Err Header) h out fault k = ap (λ e. Err e) (same_fault bytes Header fault (h (λ is. absurd cc)) k)
refused bytes (Err Kind) h out fault k = ap (λ e. Err e) (same_fault bytes Kind fault (h (λ is. absurd cc)) k)
refused bytes (Err Shape) h out fault k = ap (λ e. Err e) (same_fault bytes Shape fault (h (λ is. absurd cc)) k)
refused bytes (Err (Length x y)) h out fault k = ap (λ e. Err e) (same_fault bytes (Length x y) fault (h (λ is. absurd cc)) k)
refused bytes (Err (Value p)) h out fault k = ap (λ e. Err e) (same_fault bytes (Value p) fault (h (λ is. absurd cc)) k)
