-- A file has one array.
use Rattle.std.proofs.Common.{◌≡◌, ◌≢◌, ◌∙◌, ℕ, ◌<◌, ◌^◌, ◌==◌, ◌∷◌, [], List, cond, get_or, refl, sym, ap, subst, Result, Ok, Err, MatchResult, Vec, Global, inl, inr}
use Rattle.report_text.proofs.Digits.{number_once}
use Rattle.report_files.specs.declared.npy.element.Element.{Element}
use Rattle.report_files.specs.declared.npy.element.Element.TheVariants.{U8, U16, U32, U64, I32, I64}
use Rattle.report_files.specs.declared.npy.fault.NpyFault.{NpyFault}
use Rattle.report_files.specs.declared.npy.fault.NpyFault.TheVariants.{Magic, Version, Header, Kind, Shape, Length, Value, Memory}
use Rattle.report_files.specs.npy.Headers.{IsHeader}
use Rattle.report_files.specs.npy.Arrays.{kind_text, shape_text, verdict, HasHeader, IsArray, IsNoArray, IsReading}
use Rattle.report_files.specs.npy.Parts.{IsFrontFault}
use Rattle.report_files.proofs.npy.Fronts.{file_once, file_version}
use Rattle.report_files.proofs.npy.Headers.{words_once}

-- bytes with no header are no array
pub no_front : (bytes : List ℕ) (fault : NpyFault) → IsFrontFault bytes fault → IsNoArray bytes fault
no_front bytes Magic h = h
no_front bytes Version h = h
no_front bytes Header h = (h.0, λ kind shape body whole. h.1 whole.header body whole.file)
no_front bytes Kind h = absurd h
no_front bytes Shape h = absurd h
no_front bytes (Length e f) h = h
no_front bytes (Value p) h = h
no_front bytes Memory h = h

-- a file has one type, one shape and one body
pub whole_once : (bytes k s b l t d : List ℕ) → HasHeader bytes k s b → HasHeader bytes l t d → (k ≡ l) × (s ≡ t) × (b ≡ d)
whole_once bytes k s b l t d first second =
    let files = file_once bytes first.header b second.header d first.file second.file in
    let words = words_once second.header k s l t (subst (λ h. IsHeader h k s) files.0 first.words) second.words in
    (words.0, words.1, files.1)

-- the type that a word names
abbrev named : List ℕ → Element
named kind =
    cond (get_or kind 1 0 == 105) (cond (get_or kind 2 0 == 52) I32 I64)
    (cond (get_or kind 2 0 == 49) U8 (cond (get_or kind 2 0 == 50) U16 (cond (get_or kind 2 0 == 52) U32 U64)))

named_back : (e : Element) → named (kind_text e) ≡ e
named_back U8 = refl
named_back U16 = refl
named_back U32 = refl
named_back U64 = refl
named_back I32 = refl
named_back I64 = refl

pub kind_once : (e f : Element) → kind_text e ≡ kind_text f → e ≡ f
kind_once e f same = sym (named_back e) ∙ ap named same ∙ named_back f

pub shape_once : (m n : ℕ) → m < 2 ^ 32 → n < 2 ^ 32 → shape_text m ≡ shape_text n → m ≡ n
shape_once m n small tiny same = (number_once m n (44 ∷ []) (44 ∷ []) small tiny refl refl same).0

-- a file has one array, and one verdict
pub same_verdict : (bytes : List ℕ) (e : Element) (n : ℕ) (b : List ℕ) (f : Element) (m : ℕ) (d : List ℕ) → IsArray bytes e n b → IsArray bytes f m d → verdict f m d ≡ verdict e n b
same_verdict bytes e n b f m d first second =
    let once = whole_once bytes (kind_text f) (shape_text m) d (kind_text e) (shape_text n) b second.whole first.whole in
    ap (λ g. verdict g m d) (kind_once f e once.0) ∙ ap (λ k. verdict e k d) (shape_once m n second.few first.few once.1) ∙ ap (λ x. verdict e n x) once.2

-- what is no array is none
pub no_array : (bytes : List ℕ) (fault : NpyFault) (e : Element) (n : ℕ) (b : List ℕ) → IsNoArray bytes fault → IsArray bytes e n b → ⊥
no_array bytes Magic e n b h array = h _ array.whole.file.text
no_array bytes Version e n b h array = h.1 (file_version bytes array.whole.header b array.whole.file)
no_array bytes Header e n b h array = h.1 (kind_text e) (shape_text n) b array.whole
no_array bytes Kind e n b h array = h.other e (whole_once bytes h.kind h.shape h.body (kind_text e) (shape_text n) b h.whole array.whole).0
no_array bytes Shape e n b h array = h.other n array.few (whole_once bytes (kind_text h.element) h.shape h.body (kind_text e) (shape_text n) b h.whole array.whole).1
no_array bytes (Length x y) e n b h array = h
no_array bytes (Value p) e n b h array = h
no_array bytes Memory e n b h array = h

-- what is read is the verdict of each array that the file has
pub every_verdict : (bytes : List ℕ) (r : Result (Vec ℕ Global) NpyFault)
    → MatchResult r (λ v. IsReading bytes (Ok v.items)) (λ fault. fault ≢ Memory → IsReading bytes (Err fault))
    → (e : Element) (n : ℕ) (b : List ℕ) → IsArray bytes e n b → MatchResult r (λ v. verdict e n b ≡ Ok v.items) (λ fault. fault ≢ Memory → verdict e n b ≡ Err fault)
every_verdict bytes (Ok v) h e n b array = same_verdict bytes h.element h.count h.body e n b h.array array ∙ h.same
every_verdict bytes (Err fault) h e n b array = λ other.
    elim (h other) [
      | inl none ↦ absurd (no_array bytes fault e n b none array)
      | inr found ↦ same_verdict bytes found.element found.count found.body e n b found.array array ∙ found.same
    ]
