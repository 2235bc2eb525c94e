-- A fixed word in front of what is read, and the end of a line after it.
use Rattle.std.proofs.Common.{◌≡◌, ◌≢◌, ℕ, List, [], ◌∷◌, ◌++◌, refl, Option, Some, None, sym, ap, ◌∙◌, append_assoc}
use Rattle.std.proofs.lemmas.List.{append_cancel_left}
use Rattle.report_text.specs.Front.{IsFront, Ends, Anything}

-- what is read after the word is read with it
pub lead : {X : Type 0} (spell : X → List ℕ) (Fits : X → Type 0) (Behind : List ℕ → Type 0) (word bytes rest : List ℕ) (found : Option (X × List ℕ)) → bytes ≡ word ++ rest → IsFront spell Fits Behind rest found → IsFront (λ x. word ++ spell x) Fits Behind bytes found
lead spell Fits Behind word bytes rest (Some f) is h = (is ∙ ap (λ r. word ++ r) h.0 ∙ sym (append_assoc word (spell f.0) f.1), h.1, h.2)
lead spell Fits Behind word bytes rest None is h =
    λ x behind fits stops e. h x behind fits stops (append_cancel_left word rest (spell x ++ behind) (sym is ∙ e ∙ append_assoc word (spell x) behind))

-- without the word nothing is read
pub lead_none : {X : Type 0} (spell : X → List ℕ) (Fits : X → Type 0) (Behind : List ℕ → Type 0) (word bytes : List ℕ) → ((rest : List ℕ) → bytes ≢ word ++ rest) → IsFront (λ x. word ++ spell x) Fits Behind bytes None
lead_none spell Fits Behind word bytes none = λ x behind fits stops e. none (spell x ++ behind) (e ∙ append_assoc word (spell x) behind)

module _ {X : Type 0} (spell : X → List ℕ) (Fits : X → Type 0) where
  -- a text is the spelling of one value at most
  abbrev pub Once : Type 0
  Once = (x y : X) (rest more : List ℕ) → Fits x → Fits y → Ends rest → Ends more → spell x ++ rest ≡ spell y ++ more → (x ≡ y) × (rest ≡ more)

  -- what isn't read is not read as a line
  pub line_none : (bytes : List ℕ) → IsFront spell Fits Ends bytes None → IsFront (λ x. spell x ++ 10 ∷ []) Fits Anything bytes None
  line_none bytes h = λ x behind fits any e. h x (10 ∷ behind) fits refl (e ∙ append_assoc (spell x) (10 ∷ []) behind)

  -- what is read, with no LF after it, is no line
  pub line_open : (bytes rest : List ℕ) (x : X) → Once → bytes ≡ spell x ++ rest → Fits x → Ends rest → ((more : List ℕ) → rest ≢ 10 ∷ more) → IsFront (λ x. spell x ++ 10 ∷ []) Fits Anything bytes None
  line_open bytes rest x once is suits ends none = λ y behind fits any e. none behind (once x y rest (10 ∷ behind) suits fits ends refl (sym is ∙ e ∙ append_assoc (spell y) (10 ∷ []) behind)).1

  -- what is read, and a LF after it, is a line
  pub line_whole : (bytes rest more : List ℕ) (x : X) → bytes ≡ spell x ++ rest → Fits x → rest ≡ 10 ∷ more → IsFront (λ x. spell x ++ 10 ∷ []) Fits Anything bytes (Some (x, more))
  line_whole bytes rest more x is fits end = (is ∙ ap (λ r. spell x ++ r) end ∙ sym (append_assoc (spell x) (10 ∷ []) more), fits, tt)
