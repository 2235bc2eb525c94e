-- Why words that are refused spell no line.
use Rattle.std.proofs.Common.{◌≡◌, ◌≢◌, All, ℕ, zero, suc, ◌+◌, ◌<◌, ◌&&◌, List, [], ◌∷◌, codes, slice_get, subst, refl, ap, Option, Some, Result, Ok, Err, inl, inr, arith}
use Rattle.std.specs.Str.{bytes_eq}
use Rattle.std.proofs.lemmas.Bool.{cases_Bool}
use Rattle.link_net.specs.Neighbours.{Neighbours}
use Rattle.link_net.specs.Simple.{IsSimple}
use Rattle.import_lines.specs.Parts.{shown}
use Rattle.run_steps.specs.declared.script.action.Action.{Action}
use Rattle.run_steps.specs.declared.script.action.Action.TheVariants.{ReadSlot, Move, Turn}
use Rattle.run_steps.specs.declared.script.line.Line.TheVariants.{Repeat}
use Rattle.run_steps.specs.declared.script.fault.StepTextFault.{StepTextFault}
use Rattle.run_steps.specs.declared.script.fault.StepTextFault.TheVariants.{NoSuchLine, BadCount, NoNode, NotNeighbour}
use Rattle.run_steps.specs.script.Words.{words_in, node_at, slot_at, count_at}
use Rattle.run_steps.specs.script.Meaning.{and_then, as_line, one_word as read_one, two_words as read_two, reads_line, three_words as read_three, long_line, line_of}
use Rattle.run_steps.specs.script.Spelled.{Calls, AreOfRead}
use Rattle.run_steps.specs.script.Unsaid.{Place, this, a_node, shapes, HaveShape, IsShapeOf, CallsNone, ReadStranger, CountBadly, IsUnsaid}
use Rattle.run_steps.proofs.script.Choosing.{then-err, choice}
use Rattle.run_steps.proofs.script.Numbers.{and-split}
use Rattle.run_steps.proofs.script.Callings.{node-calls, node-none, slot-none, count-none}
use Rattle.run_steps.proofs.script.Shapes.{no-words, one-word, two-words, of-moves, of-turn, three-words, of-reads_all, of-reads, many-words}
use Rattle.run_steps.proofs.script.Spellings.{is-word, no-word, no-repeat, read-on}

as-line-err : (r : Result Action StepTextFault) (fault : StepTextFault) → as_line r ≡ Err fault → r ≡ Err fault
as-line-err (Ok a) fault h = absurd (cc)
as-line-err (Err e) fault h = cc

module _ (network : Neighbours) (names : Option (List (List ℕ))) where
  -- why these words of the line of that number spell nothing
  abbrev pub Why : ℕ → List (List ℕ) → StepTextFault → Type 0
  Why number words (NoSuchLine line) = (line ≡ number) × All (λ shape. HaveShape words shape → ⊥) shapes
  Why number words (BadCount line) = (line ≡ number) × CountBadly words
  Why number words (NoNode line place) = (line ≡ number) × CallsNone network names words place
  Why number words (NotNeighbour line) = (line ≡ number) × ReadStranger network names words
  Why number words fault = ⊥

  pub unsaid : (here : ℕ × List ℕ) (fault : StepTextFault) → shown here.1 ≡ Ok here.1 → Why here.0 (words_in here.1) fault → IsUnsaid network names here fault
  unsaid here (NoSuchLine line) may h = (h.0, may, h.1)
  unsaid here (BadCount line) may h = (h.0, may, h.1)
  unsaid here (NoNode line place) may h = (h.0, may, h.1)
  unsaid here (NotNeighbour line) may h = (h.0, may, h.1)
  unsaid here fault may h = absurd h

  module _ (line : ℕ) where
    -- no shape fits
    no-shape : (words : List (List ℕ)) (fault : StepTextFault) → NoSuchLine line ≡ fault → All (λ shape. HaveShape words shape → ⊥) shapes → Why line words fault
    no-shape words fault same none = subst (λ f. Why line words f) same (refl, none)

    one-why : (word : List ℕ) (fault : StepTextFault) → read_one line word ≡ Err fault → Why line (word ∷ []) fault
    one-why word fault h =
        elim (choice (bytes_eq word (codes "sweep")) _ _ _ h) [
          | inl a ↦ (let e = a.1 in absurd (cc))
          | inr b ↦ elim (choice (bytes_eq word (codes "}")) _ _ _ b.1) [
            | inl a ↦ (let e = a.1 in absurd (cc))
            | inr c ↦ (let e = c.1 in no-shape (word ∷ []) fault (cc) (one-word word (no-word word (codes "sweep") b.0) (no-word word (codes "}") c.0)))
          ]
        ]

    module _ (whole : IsSimple network) where
      -- the first word is to call a node, and calls none
      first-none : (first : List ℕ) (rest : List (List ℕ)) (shape : List Place) (fault : StepTextFault) → IsShapeOf (first ∷ rest) (a_node ∷ shape) → node_at network names line 1 first ≡ Err fault → Why line (first ∷ rest) fault
      first-none first rest shape fault shaped h =
          let n = node-none network whole.nodes names line 1 first fault h in
          let none : CallsNone network names (first ∷ rest) 1 =
          record { shape = a_node ∷ shape; shaped = shaped; counted = omega arith; node = refl; word = first; stands = refl; none = n.1; earlier = λ i other low _ _. absurd (omega arith) } in
          subst (λ f. Why line (first ∷ rest) f) n.0 (refl, none)

      two-why : (first second : List ℕ) (fault : StepTextFault) → read_two network names line first second ≡ Err fault → Why line (first ∷ second ∷ []) fault
      two-why first second fault h =
          elim (choice (bytes_eq second (codes "moves")) _ _ _ h) [
            | inl a ↦ elim (then-err (node_at network names line 1 first) (λ u. Ok (Move u)) fault a.1) [
              | inl stops ↦ first-none first (second ∷ []) _ fault (of-moves first second (is-word second (codes "moves") a.0)) stops
              | inr x ↦ (let e = x.2 in absurd (cc))
            ]
            | inr b ↦ elim (choice (bytes_eq second (codes "turn")) _ _ _ b.1) [
              | inl a ↦ elim (then-err (node_at network names line 1 first) (λ u. Ok (Turn u)) fault a.1) [
                | inl stops ↦ first-none first (second ∷ []) _ fault (of-turn first second (no-word second (codes "moves") b.0) (is-word second (codes "turn") a.0)) stops
                | inr x ↦ (let e = x.2 in absurd (cc))
              ]
              | inr c ↦ (let e = c.1 in no-shape (first ∷ second ∷ []) fault (cc) (two-words first second (no-word second (codes "moves") b.0) (no-word second (codes "turn") c.0)))
            ]
          ]

      -- before the third word, the first calls a node
      earlier : (first second third : List ℕ) (u i : ℕ) (other : List ℕ) → Calls network names first u → i + 1 < 3 → slice_get (a_node ∷ this (codes "reads") ∷ a_node ∷ []) i ≡ Some a_node → slice_get (first ∷ second ∷ third ∷ []) i ≡ Some other
          → (v : ℕ) × Calls network names other v
      earlier first second third u zero other h low n s = (let same : first ≡ other = cc in (u, subst (λ w. Calls network names w u) same h))
      earlier first second third u (suc zero) other h low n s = absurd (cc)
      earlier first second third u (suc (suc i)) other h low n s = absurd (omega arith)

      -- the first word calls a node, and what is read stands at fault
      read-why : (first second third : List ℕ) (u : ℕ) (fault : StepTextFault) → (first ≡ codes "repeat" → third ≢ codes "{") → second ≡ codes "reads" → Calls network names first u → read-on network names line third u ≡ Err fault → Why line (first ∷ second ∷ third ∷ []) fault
      read-why first second third u fault other reads reader h =
          elim (choice (bytes_eq third (codes "all")) _ _ _ h) [
            | inl a ↦ (let e = a.1 in absurd (cc))
            | inr b ↦ elim (then-err (node_at network names line 3 third) (λ v. and_then (slot_at network line u v) (λ j. Ok (ReadSlot u j))) fault b.1) [
              | inl stops ↦ (
                  let n = node-none network whole.nodes names line 3 third fault stops in
                  let none : CallsNone network names (first ∷ second ∷ third ∷ []) 3 =
                  record {
                    shape = a_node ∷ this (codes "reads") ∷ a_node ∷ [];
                    shaped = of-reads first second third other reads (no-word third (codes "all") b.0);
                    counted = omega arith;
                    node = refl;
                    word = third;
                    stands = refl;
                    none = n.1;
                    earlier = λ i word low node stands. earlier first second third u i word reader low node stands;
                  } in
                  subst (λ f. Why line (first ∷ second ∷ third ∷ []) f) n.0 (refl, none))
              | inr y ↦ elim (then-err (slot_at network line u y.0) (λ j. Ok (ReadSlot u j)) fault y.2) [
                | inl stops ↦ (
                    let s = slot-none network line u y.0 fault stops in
                    let are : AreOfRead (first ∷ second ∷ third ∷ []) first third = record { are = ap (λ w. first ∷ w ∷ third ∷ []) reads; not_all = no-word third (codes "all") b.0; no_repeat = other } in
                    let stranger : ReadStranger network names (first ∷ second ∷ third ∷ []) =
                    record { who = first; whom = third; are = are; reader = u; calls_reader = reader; other = y.0; calls_other = node-calls network names line 3 third y.0 y.1; strange = s.1 } in
                    subst (λ f. Why line (first ∷ second ∷ third ∷ []) f) s.0 (refl, stranger))
                | inr z ↦ (let e = z.2 in absurd (cc))
              ]
            ]
          ]

      reads-why : (first second third : List ℕ) (fault : StepTextFault) → (first ≡ codes "repeat" → third ≢ codes "{") → second ≡ codes "reads" → reads_line network names line first third ≡ Err fault → Why line (first ∷ second ∷ third ∷ []) fault
      reads-why first second third fault other reads h =
          elim (then-err (node_at network names line 1 first) (read-on network names line third) fault h) [
            | inl stops ↦ elim (cases_Bool (bytes_eq third (codes "all"))) [
              | inl all ↦ first-none first (second ∷ third ∷ []) _ fault (of-reads_all first second third other reads (is-word third (codes "all") all)) stops
              | inr not ↦ first-none first (second ∷ third ∷ []) _ fault (of-reads first second third other reads (no-word third (codes "all") not)) stops
            ]
            | inr x ↦ read-why first second third x.0 fault other reads (node-calls network names line 1 first x.0 x.1) x.2
          ]

      three-why : (first second third : List ℕ) (fault : StepTextFault) → read_three network names line first second third ≡ Err fault → Why line (first ∷ second ∷ third ∷ []) fault
      three-why first second third fault h =
          elim (choice (bytes_eq first (codes "repeat") && bytes_eq third (codes "{")) _ _ _ h) [
            | inl a ↦ elim (then-err (count_at line second) (λ k. Ok (Repeat k)) fault a.1) [
              | inl stops ↦ (
                  let both = and-split (bytes_eq first (codes "repeat")) (bytes_eq third (codes "{")) a.0 in
                  let c = count-none line second fault stops in
                  let f = is-word first (codes "repeat") both.0 in
                  let t = is-word third (codes "{") both.1 in
                  let bad : CountBadly (first ∷ second ∷ third ∷ []) = record { count = second; are = cc; none = c.1 } in
                  subst (λ f. Why line (first ∷ second ∷ third ∷ []) f) c.0 (refl, bad))
              | inr x ↦ (let e = x.2 in absurd (cc))
            ]
            | inr b ↦ elim (choice (bytes_eq second (codes "reads")) _ _ _ b.1) [
              | inl a ↦ reads-why first second third fault (no-repeat first third b.0) (is-word second (codes "reads") a.0) (as-line-err (reads_line network names line first third) fault a.1)
              | inr c ↦ (let e = c.1 in no-shape (first ∷ second ∷ third ∷ []) fault (cc) (three-words first second third (no-repeat first third b.0) (no-word second (codes "reads") c.0)))
            ]
          ]

      long-why : (first second : List ℕ) (words : List (List ℕ)) (fault : StepTextFault) → long_line network names line first second words ≡ Err fault → Why line (first ∷ second ∷ words) fault
      long-why first second [] fault h = two-why first second fault (as-line-err (read_two network names line first second) fault h)
      long-why first second (third ∷ []) fault h = three-why first second third fault h
      long-why first second (third ∷ more ∷ words) fault h = no-shape (first ∷ second ∷ third ∷ more ∷ words) fault (cc) (many-words first second third more words)

      pub words-why : (words : List (List ℕ)) (fault : StepTextFault) → line_of network names line words ≡ Err fault → Why line words fault
      words-why [] fault h = no-shape [] fault (cc) no-words
      words-why (first ∷ []) fault h = one-why first fault h
      words-why (first ∷ second ∷ words) fault h = long-why first second words fault h
