-- Lines that are read say what they are read as, and those that are refused say nothing.
use Rattle.std.proofs.Common.{◌≡◌, ℕ, Bool, true, false, not, List, [], ◌∷◌, ◌++◌, length, map, nat_lt, if◌then◌else◌, subst, refl, ap, ◌∙◌, Option, Result, Ok, Err, inl, inr, arith}
use Rattle.std.specs.List.{AllZip, list_any}
use Rattle.std.specs.Str.{is_utf8}
use Rattle.import_lines.specs.Parts.{shown, is_control, most_bytes}
use Rattle.import_lines.specs.declared.words_fault.WordsFault.{WordsFault}
use Rattle.import_lines.specs.declared.words_fault.WordsFault.TheVariants as words_fault
use Rattle.link_net.specs.Neighbours.{Neighbours}
use Rattle.link_net.specs.Simple.{IsSimple}
use Rattle.run_steps.specs.declared.script.line.Line.{Line}
use Rattle.run_steps.specs.declared.script.fault.StepTextFault.{StepTextFault}
use Rattle.run_steps.specs.declared.script.fault.StepTextFault.TheVariants.{NotUtf8, ControlCharacter, LongLine}
use Rattle.run_steps.specs.script.Words.{words_in}
use Rattle.run_steps.specs.script.Meaning.{and_then, text_at, line_of, line_at}
use Rattle.run_steps.specs.script.Spelled.{Said}
use Rattle.run_steps.specs.script.Unsaid.{IsUnsaid}
use Rattle.run_steps.proofs.script.Choosing.{then-ok, then-err}
use Rattle.run_steps.proofs.script.Spellings.{words-spelled, spelled-read}
use Rattle.run_steps.proofs.script.Reasons.{unsaid, words-why}

-- ---- lines that may be shown

of-choice : {A : Type 0} (P : A → Type 0) (b : Bool) (x y : A) → P x → P y → P (if b then x else y)
of-choice P true x y p q = p
of-choice P false x y p q = q

-- what is so of a line that may be shown, and of each reason why it may not
pub of-shown : (line : List ℕ) (P : Result (List ℕ) WordsFault → Type 0) → P (Ok line) → P (Err words_fault.NotUtf8) → P (Err words_fault.ControlCharacter) → P (Err words_fault.LongLine) → P (shown line)
of-shown line P may utf8 control long =
    of-choice P (not (is_utf8 line)) _ _ utf8 (of-choice P (list_any is_control line) _ _ control (of-choice P (nat_lt most_bytes (length line)) _ _ long may))

-- a text that is read is the line, which may be shown
text-shown : (number : ℕ) (line text : List ℕ) → text_at number (shown line) ≡ Ok text → (shown line ≡ Ok line) × (line ≡ text)
text-shown number line text h =
    of-shown line (λ s. text_at number s ≡ Ok text → (s ≡ Ok line) × (line ≡ text)) (λ e. (refl, cc)) (λ e. absurd (cc)) (λ e. absurd (cc)) (λ e. absurd (cc)) h

module _ (network : Neighbours) (names : Option (List (List ℕ))) where
  -- a line that may not be shown says nothing
  text-hidden : (here : ℕ × List ℕ) (fault : StepTextFault) → text_at here.0 (shown here.1) ≡ Err fault → IsUnsaid network names here fault
  text-hidden here fault h =
      of-shown here.1 (λ s. shown here.1 ≡ s → text_at here.0 s ≡ Err fault → IsUnsaid network names here fault) (λ is e. absurd (cc))
      (λ is e. (let same : NotUtf8 here.0 ≡ fault = cc in subst (λ f. IsUnsaid network names here f) same (refl, is)))
      (λ is e. (let same : ControlCharacter here.0 ≡ fault = cc in subst (λ f. IsUnsaid network names here f) same (refl, is)))
      (λ is e. (let same : LongLine here.0 ≡ fault = cc in subst (λ f. IsUnsaid network names here f) same (refl, is)))
      refl h

  -- ---- lines

  -- a line that is read says what it is read as
  pub line-said : (here : ℕ × List ℕ) (said : Line) → line_at network names here ≡ Ok said → Said network names here said
  unfolding line_at
  line-said here said h =
      let x = then-ok (text_at here.0 (shown here.1)) (λ text. line_of network names here.0 (words_in text)) said h in
      let t = text-shown here.0 here.1 x.0 x.1 in
      record {
        may_be_shown = t.0;
        spelled = words-spelled network names here.0 (words_in here.1) said (ap (λ text. line_of network names here.0 (words_in text)) t.1 ∙ x.2);
      }

  module _ (whole : IsSimple network) where
    -- a line that is refused says nothing, for that reason
    pub line-unsaid : (here : ℕ × List ℕ) (fault : StepTextFault) → line_at network names here ≡ Err fault → IsUnsaid network names here fault
    unfolding line_at
    line-unsaid here fault h =
        elim (then-err (text_at here.0 (shown here.1)) (λ text. line_of network names here.0 (words_in text)) fault h) [
          | inl hidden ↦ text-hidden here fault hidden
          | inr x ↦ (
              let t = text-shown here.0 here.1 x.0 x.1 in
              unsaid network names here fault t.0 (words-why network names here.0 whole (words_in here.1) fault (ap (λ text. line_of network names here.0 (words_in text)) t.1 ∙ x.2)))
        ]

    -- a line that says something is read as it
    said-read : (here : ℕ × List ℕ) (said : Line) → Said network names here said → line_at network names here ≡ Ok said
    unfolding line_at
    said-read here said h =
        ap (λ s. and_then (text_at here.0 s) (λ text. line_of network names here.0 (words_in text))) h.may_be_shown
        ∙ spelled-read network names here.0 whole (words_in here.1) said h.spelled

    pub all-read : (told : List (ℕ × List ℕ)) (lines : List Line) → AllZip (Said network names) told lines → map (line_at network names) told ≡ map Ok lines
    all-read [] [] h = refl
    all-read [] (x ∷ lines) h = absurd h
    all-read (l ∷ told) [] h = absurd h
    all-read (l ∷ told) (x ∷ lines) h = (let one = said-read l x h.0 in let more = all-read told lines h.1 in cc)

-- ---- lists, place by place

pub zip-push : {A B : Type 0} (R : A → B → Type 0) (xs : List A) (ys : List B) (x : A) (y : B) → AllZip R xs ys → R x y → AllZip R (xs ++ x ∷ []) (ys ++ y ∷ [])
zip-push R [] [] x y h r = (r, tt)
zip-push R [] (b ∷ ys) x y h r = absurd h
zip-push R (a ∷ xs) [] x y h r = absurd h
zip-push R (a ∷ xs) (b ∷ ys) x y h r = (h.0, zip-push R xs ys x y h.1 r)

pub zip-length : {A B : Type 0} (R : A → B → Type 0) (xs : List A) (ys : List B) → AllZip R xs ys → length xs ≡ length ys
zip-length R [] [] h = refl
zip-length R [] (b ∷ ys) h = absurd h
zip-length R (a ∷ xs) [] h = absurd h
zip-length R (a ∷ xs) (b ∷ ys) h = (let e = zip-length R xs ys h.1 in omega arith)
