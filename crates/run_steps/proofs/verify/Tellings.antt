-- Lines that are read say what they are read as, and those that are refused say nothing.
use Rattle.std.proofs.Common.{◌≡◌, ◌⊎◌, ℕ, ◌≤◌, true, false, if◌then◌else◌, List, [], ◌∷◌, length, map, Option, Some, None, Ok, Err, inl, inr, refl, sym, ap, ◌∙◌, subst}
use Rattle.std.specs.List.{AllZip}
use Rattle.std.proofs.lemmas.Bool.{cases_Bool}
use Rattle.std.proofs.lemmas.Bool.Decides.{Decides-eqb}
use Rattle.import_lines.specs.Parts.{shown}
use Rattle.import_lines.specs.Texts.{words_of}
use Rattle.link_net.specs.Simple.{IsSimple}
use Rattle.rule_check.specs.Value.{names_of}
use Rattle.rounds_plan.specs.Plans.{PlanView}
use Rattle.serde_json.specs.Data.{Data}
use Rattle.serde_json.specs.Read.{read}
use Rattle.run_steps.specs.script.Words.{words_in}
use Rattle.run_steps.proofs.script.Choosing.{choice}
use Rattle.run_steps.proofs.script.Tellings.{of-shown}
use Rattle.run_steps.specs.declared.verify.entry.Entry.{Entry}
use Rattle.run_steps.specs.declared.verify.fault.VerifyFault.{VerifyFault}
use Rattle.run_steps.specs.declared.verify.fault.VerifyFault.TheVariants.{NotUtf8, ControlCharacter, LongLine, NotJson, NoStep, NoNode, NotNeighbour, BadState}
use Rattle.run_steps.specs.verify.Fields.{and_then}
use Rattle.run_steps.specs.verify.Objects.{object_entry}
use Rattle.run_steps.specs.verify.Meaning.{text_at, line_of, begins_object, text_entry, entry_at}
use Rattle.run_steps.specs.verify.Spelled.{BeginObject, TextSays, Said}
use Rattle.run_steps.specs.verify.Unsaid.{IsHidden, SaysNothing, IsNoObject, IsUnspelled, IsUnsaid}
use Rattle.run_steps.proofs.verify.Choosing.{then-ok, then-err}
use Rattle.run_steps.proofs.verify.Keys.{AreDistinct}
use Rattle.run_steps.proofs.verify.SaidObjects.{object-said, said-object, object-refused}
use Rattle.run_steps.proofs.verify.SpelledLines.{words-spelled, spelled-read, words-unspelled}

-- ---- words that begin an object

begins : (words : List (List ℕ)) → begins_object words ≡ true → BeginObject words
begins [] h = absurd (cc)
begins ([] ∷ words) h = absurd (cc)
begins ((b ∷ bytes) ∷ words) h = (bytes, words, ap (λ (x : ℕ). (x ∷ bytes) ∷ words) ((Decides-eqb b 123).0 h))

begun : (words : List (List ℕ)) → BeginObject words → begins_object words ≡ true
begun words h = ap begins_object h.2

begun-not : (words : List (List ℕ)) → begins_object words ≡ false → BeginObject words → ⊥
begun-not words never h = (let yes = begun words h in let bad : true ≡ false = sym yes ∙ never in cc)

not-begun : (words : List (List ℕ)) → (BeginObject words → ⊥) → begins_object words ≡ false
not-begun words never =
    elim (cases_Bool (begins_object words)) [
      | inl is ↦ absurd (never (begins words is))
      | inr not ↦ not
    ]

-- a text that is read is the line, which may be shown
text-shown : (number : ℕ) (line text : List ℕ) → text_at number (shown line) ≡ Ok text → (shown line ≡ Ok line) × (line ≡ text)
text-shown number line text h =
    of-shown line (λ s. text_at number s ≡ Ok text → (s ≡ Ok line) × (line ≡ text)) (λ e. (refl, cc)) (λ e. absurd (cc)) (λ e. absurd (cc)) (λ e. absurd (cc)) h

-- a line that may not be shown
text-hidden : (here : ℕ × List ℕ) (fault : VerifyFault) → text_at here.0 (shown here.1) ≡ Err fault → IsHidden here fault
text-hidden here fault h =
    of-shown here.1 (λ s. shown here.1 ≡ s → text_at here.0 s ≡ Err fault → IsHidden here fault) (λ is e. absurd (cc))
    (λ is e. (let same : NotUtf8 here.0 ≡ fault = cc in subst (λ f. IsHidden here f) same (refl, is)))
    (λ is e. (let same : ControlCharacter here.0 ≡ fault = cc in subst (λ f. IsHidden here f) same (refl, is)))
    (λ is e. (let same : LongLine here.0 ≡ fault = cc in subst (λ f. IsHidden here f) same (refl, is)))
    refl h

module _ (plan : PlanView) (names : Option (List (List ℕ))) (few : length (names_of plan.program) ≤ 8) (distinct : AreDistinct (names_of plan.program)) where
  -- ---- texts

  object-read : (line : ℕ) (o : Option Data) (e : Entry) → object_entry plan names line o ≡ Ok e → (d : Data) × (o ≡ Some d) × (object_entry plan names line (Some d) ≡ Ok e)
  unfolding object_entry
  object-read line None e h = absurd (cc)
  object-read line (Some d) e h = (d, refl, h)

  text-said : (line : ℕ) (text : List ℕ) (e : Entry) → text_entry plan names line text ≡ Ok e → TextSays plan names text e
  unfolding text_entry object_entry
  text-said line text e h =
      elim (choice (begins_object (words_of text)) _ _ _ h) [
        | inl a ↦ (
            let r = object-read line (read text) e a.1 in
            inl (begins (words_of text) a.0, (r.0, r.1, object-said plan names line few distinct r.0 e r.2)))
        | inr b ↦ inr (begun-not (words_of text) b.0, words-spelled plan names line few (words_in text) e b.1)
      ]

  -- a line that is read says what it is read as
  pub line-said : (here : ℕ × List ℕ) (e : Entry) → entry_at plan names here ≡ Ok e → Said plan names here e
  unfolding entry_at
  line-said here e h =
      let x = then-ok (text_at here.0 (shown here.1)) (text_entry plan names here.0) e h in
      let t = text-shown here.0 here.1 x.0 x.1 in
      record { may_be_shown = t.0; says = text-said here.0 here.1 e (ap (text_entry plan names here.0) t.1 ∙ x.2) }

  module _ (whole : IsSimple plan.network) where
    said-text : (line : ℕ) (text : List ℕ) (e : Entry) → TextSays plan names text e → text_entry plan names line text ≡ Ok e
    unfolding text_entry object_entry
    said-text line text e (inl h) =
        ap (λ t. if t then object_entry plan names line (read text) else line_of plan names line (words_in text)) (begun (words_of text) h.0)
        ∙ ap (object_entry plan names line) h.1.1
        ∙ said-object plan names line few distinct whole h.1.0 e h.1.2
    said-text line text e (inr h) =
        ap (λ t. if t then object_entry plan names line (read text) else line_of plan names line (words_in text)) (not-begun (words_of text) h.0)
        ∙ spelled-read plan names line few whole (words_in text) e h.1

    -- a line that says something is read as it
    pub said-line : (here : ℕ × List ℕ) (e : Entry) → Said plan names here e → entry_at plan names here ≡ Ok e
    unfolding entry_at
    said-line here e h = ap (λ s. and_then (text_at here.0 s) (text_entry plan names here.0)) h.may_be_shown ∙ said-text here.0 here.1 e h.says

    -- ---- texts that are refused

    nothing-said : (line : ℕ) (text : List ℕ) (o : Data) (fault : VerifyFault) → read text ≡ Some o → SaysNothing plan names line o fault → IsNoObject plan names line text fault
    nothing-said line text o (NoStep number) is h = (o, is, h)
    nothing-said line text o (NoNode number) is h = (o, is, h)
    nothing-said line text o (NotNeighbour number) is h = (o, is, h)
    nothing-said line text o (BadState number) is h = (o, is, h)
    nothing-said line text o fault is h = absurd h

    object-none : (line : ℕ) (text : List ℕ) (o : Option Data) (fault : VerifyFault) → read text ≡ o → object_entry plan names line o ≡ Err fault → IsNoObject plan names line text fault
    unfolding object_entry
    object-none line text None fault is h = (let same : NotJson line ≡ fault = cc in subst (λ f. IsNoObject plan names line text f) same (refl, is))
    object-none line text (Some d) fault is h = nothing-said line text d fault is (object-refused plan names line few distinct whole d fault h)

    text-refused : (here : ℕ × List ℕ) (fault : VerifyFault) → text_entry plan names here.0 here.1 ≡ Err fault
        → (((BeginObject (words_of here.1) → ⊥) × IsUnspelled plan names here.0 (words_in here.1) fault) ⊎ (BeginObject (words_of here.1) × IsNoObject plan names here.0 here.1 fault))
    unfolding text_entry
    text-refused here fault h =
        elim (choice (begins_object (words_of here.1)) _ _ _ h) [
          | inl a ↦ inr (begins (words_of here.1) a.0, object-none here.0 here.1 (read here.1) fault refl a.1)
          | inr b ↦ inl (begun-not (words_of here.1) b.0, words-unspelled plan names here.0 few whole (words_in here.1) fault b.1)
        ]

    -- a line that is refused says nothing, for that reason
    pub line-unsaid : (here : ℕ × List ℕ) (fault : VerifyFault) → entry_at plan names here ≡ Err fault → IsUnsaid plan names here fault
    unfolding entry_at
    line-unsaid here fault h =
        elim (then-err (text_at here.0 (shown here.1)) (text_entry plan names here.0) fault h) [
          | inl hidden ↦ inl (text-hidden here fault hidden)
          | inr x ↦ (
              let t = text-shown here.0 here.1 x.0 x.1 in
              inr (t.0, text-refused here fault (ap (text_entry plan names here.0) t.1 ∙ x.2)))
        ]

  -- ---- lines, one after another

  pub all-said : (told : List (ℕ × List ℕ)) (entries : List Entry) → map (entry_at plan names) told ≡ map Ok entries → AllZip (Said plan names) told entries
  all-said [] [] h = tt
  all-said [] (e ∷ entries) h = absurd (cc)
  all-said (l ∷ told) [] h = absurd (cc)
  all-said (l ∷ told) (e ∷ entries) h = (let one : entry_at plan names l ≡ Ok e = cc in let rest : map (entry_at plan names) told ≡ map Ok entries = cc in (line-said l e one, all-said told entries rest))

  pub all-read : IsSimple plan.network → (told : List (ℕ × List ℕ)) (entries : List Entry) → AllZip (Said plan names) told entries → map (entry_at plan names) told ≡ map Ok entries
  all-read whole [] [] h = refl
  all-read whole [] (e ∷ entries) h = absurd h
  all-read whole (l ∷ told) [] h = absurd h
  all-read whole (l ∷ told) (e ∷ entries) h = (let one = said-line whole l e h.0 in let more = all-read whole told entries h.1 in cc)
