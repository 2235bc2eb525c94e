-- Lines that are read are those that their words spell.
use Rattle.std.proofs.Common.{◌≡◌, ◌≢◌, ℕ, true, false, ◌&&◌, List, [], ◌∷◌, codes, if◌then◌else◌, subst, refl, sym, ap, ◌∙◌, Option, Some, Result, Ok, Err, inl, inr}
use Rattle.std.specs.Fmt.{decimal}
use Rattle.std.specs.Str.{bytes_eq}
use Rattle.std.proofs.lemmas.Bool.{cases_Bool}
use Rattle.std.proofs.lemmas.Slice.Eq.{bytes_eq-Decides}
use Rattle.link_net.specs.Neighbours.{Neighbours, neighbour_at}
use Rattle.link_net.specs.Simple.{IsSimple}
use Rattle.run_steps.specs.declared.script.action.Action.{Action}
use Rattle.run_steps.specs.declared.script.action.Action.TheVariants.{ReadSlot, ReadAll, Move, Turn, Sweep}
use Rattle.run_steps.specs.declared.script.line.Line.{Line}
use Rattle.run_steps.specs.declared.script.line.Line.TheVariants.{Act, Repeat, End}
use Rattle.run_steps.specs.declared.script.fault.StepTextFault.{StepTextFault}
use Rattle.run_steps.specs.script.Words.{node_at, slot_at, count_at}
use Rattle.run_steps.specs.script.Meaning.{and_then, as_line, one_word, two_words, reads_line, three_words, long_line, line_of}
use Rattle.run_steps.specs.script.Spelled.{Calls, AreOfRead, IsSpelled}
use Rattle.run_steps.proofs.script.Choosing.{then-ok, choice}
use Rattle.run_steps.proofs.script.Numbers.{and-split, and-join}
use Rattle.run_steps.proofs.script.Callings.{node-calls, node-read, slot-stands, slot-read, count-spells, count-read}

-- ---- tests of words

pub is-word : (word fixed : List ℕ) → bytes_eq word fixed ≡ true → word ≡ fixed
is-word word fixed h = (bytes_eq-Decides word fixed).0 h

pub no-word : (word fixed : List ℕ) → bytes_eq word fixed ≡ false → word ≢ fixed
no-word word fixed h is = (let same = (bytes_eq-Decides word fixed).1 is in let bad : true ≡ false = sym same ∙ h in cc)

word-other : (word fixed : List ℕ) → word ≢ fixed → bytes_eq word fixed ≡ false
word-other word fixed other =
    elim (cases_Bool (bytes_eq word fixed)) [
      | inl is ↦ absurd (other (is-word word fixed is))
      | inr not ↦ not
    ]

-- the first and the third word are not both those of a `repeat`
pub no-repeat : (first third : List ℕ) → (bytes_eq first (codes "repeat") && bytes_eq third (codes "{")) ≡ false → first ≡ codes "repeat" → third ≢ codes "{"
no-repeat first third h a b =
    let both = and-join (bytes_eq first (codes "repeat")) (bytes_eq third (codes "{")) ((bytes_eq-Decides first (codes "repeat")).1 a) ((bytes_eq-Decides third (codes "{")).1 b) in
    let bad : true ≡ false = sym both ∙ h in
    cc

repeat-not : (first third : List ℕ) → (first ≡ codes "repeat" → third ≢ codes "{") → (bytes_eq first (codes "repeat") && bytes_eq third (codes "{")) ≡ false
repeat-not first third other =
    elim (cases_Bool (bytes_eq first (codes "repeat") && bytes_eq third (codes "{"))) [
      | inl is ↦ (let both = and-split (bytes_eq first (codes "repeat")) (bytes_eq third (codes "{")) is in absurd (other (is-word first (codes "repeat") both.0) (is-word third (codes "{") both.1)))
      | inr not ↦ not
    ]

pub as-line : (r : Result Action StepTextFault) (said : Line) → as_line r ≡ Ok said → (a : Action) × (r ≡ Ok a) × (Act a ≡ said)
as-line (Ok a) said h = (a, refl, cc)
as-line (Err e) said h = absurd (cc)

module _ (network : Neighbours) (names : Option (List (List ℕ))) (line : ℕ) where
  -- ---- what is read is spelled

  one-spelled : (word : List ℕ) (said : Line) → one_word line word ≡ Ok said → IsSpelled network names (word ∷ []) said
  one-spelled word said h =
      elim (choice (bytes_eq word (codes "sweep")) _ _ _ h) [
        | inl a ↦ (let e = a.1 in let same : Act Sweep ≡ said = cc in subst (λ x. IsSpelled network names (word ∷ []) x) same (ap (λ w. w ∷ []) (is-word word (codes "sweep") a.0)))
        | inr b ↦ elim (choice (bytes_eq word (codes "}")) _ _ _ b.1) [
          | inl a ↦ (let e = a.1 in let same : End ≡ said = cc in subst (λ x. IsSpelled network names (word ∷ []) x) same (ap (λ w. w ∷ []) (is-word word (codes "}") a.0)))
          | inr c ↦ (let e = c.1 in absurd (cc))
        ]
      ]

  two-spelled : (first second : List ℕ) (action : Action) → two_words network names line first second ≡ Ok action → IsSpelled network names (first ∷ second ∷ []) (Act action)
  two-spelled first second action h =
      elim (choice (bytes_eq second (codes "moves")) _ _ _ h) [
        | inl a ↦ (
            let x = then-ok (node_at network names line 1 first) (λ u. Ok (Move u)) action a.1 in
            let e = x.2 in
            let same : Move x.0 ≡ action = cc in
            subst (λ a. IsSpelled network names (first ∷ second ∷ []) (Act a)) same (first, ap (λ w. first ∷ w ∷ []) (is-word second (codes "moves") a.0), node-calls network names line 1 first x.0 x.1))
        | inr b ↦ elim (choice (bytes_eq second (codes "turn")) _ _ _ b.1) [
          | inl a ↦ (
              let x = then-ok (node_at network names line 1 first) (λ u. Ok (Turn u)) action a.1 in
              let e = x.2 in
              let same : Turn x.0 ≡ action = cc in
              subst (λ a. IsSpelled network names (first ∷ second ∷ []) (Act a)) same (first, ap (λ w. first ∷ w ∷ []) (is-word second (codes "turn") a.0), node-calls network names line 1 first x.0 x.1))
          | inr c ↦ (let e = c.1 in absurd (cc))
        ]
      ]

  -- what a read of a neighbour does, once its reader is known
  abbrev pub read-on : List ℕ → ℕ → Result Action StepTextFault
  read-on third u =
      if bytes_eq third (codes "all") then Ok (ReadAll u) else
      and_then (node_at network names line 3 third) (λ v.
      and_then (slot_at network line u v) (λ j.
      Ok (ReadSlot u j)))

  reads-spelled : (first third : List ℕ) (action : Action) → (first ≡ codes "repeat" → third ≢ codes "{") → reads_line network names line first third ≡ Ok action → IsSpelled network names (first ∷ codes "reads" ∷ third ∷ []) (Act action)
  reads-spelled first third action other h =
      let x = then-ok (node_at network names line 1 first) (read-on third) action h in
      let reader = node-calls network names line 1 first x.0 x.1 in
      elim (choice (bytes_eq third (codes "all")) _ _ _ x.2) [
        | inl a ↦ (
            let e = a.1 in
            let same : ReadAll x.0 ≡ action = cc in
            subst (λ a. IsSpelled network names (first ∷ codes "reads" ∷ third ∷ []) (Act a)) same (first, ap (λ w. first ∷ codes "reads" ∷ w ∷ []) (is-word third (codes "all") a.0), reader))
        | inr b ↦ (
            let y = then-ok (node_at network names line 3 third) (λ v. and_then (slot_at network line x.0 v) (λ j. Ok (ReadSlot x.0 j))) action b.1 in
            let z = then-ok (slot_at network line x.0 y.0) (λ j. Ok (ReadSlot x.0 j)) action y.2 in
            let e = z.2 in
            let same : ReadSlot x.0 z.0 ≡ action = cc in
            let are : AreOfRead (first ∷ codes "reads" ∷ third ∷ []) first third = record { are = refl; not_all = no-word third (codes "all") b.0; no_repeat = other } in
            subst (λ a. IsSpelled network names (first ∷ codes "reads" ∷ third ∷ []) (Act a)) same
            (first, third, y.0, are, reader, slot-stands network line x.0 y.0 z.0 z.1, node-calls network names line 3 third y.0 y.1))
      ]

  three-spelled : (first second third : List ℕ) (said : Line) → three_words network names line first second third ≡ Ok said → IsSpelled network names (first ∷ second ∷ third ∷ []) said
  three-spelled first second third said h =
      elim (choice (bytes_eq first (codes "repeat") && bytes_eq third (codes "{")) _ _ _ h) [
        | inl a ↦ (
            let both = and-split (bytes_eq first (codes "repeat")) (bytes_eq third (codes "{")) a.0 in
            let x = then-ok (count_at line second) (λ k. Ok (Repeat k)) said a.1 in
            let e = x.2 in
            let same : Repeat x.0 ≡ said = cc in
            let c = count-spells line second x.0 x.1 in
            let f = is-word first (codes "repeat") both.0 in
            let t = is-word third (codes "{") both.1 in
            let words : first ∷ second ∷ third ∷ [] ≡ codes "repeat" ∷ decimal x.0 ∷ codes "{" ∷ [] = ap (λ w. w ∷ second ∷ third ∷ []) f ∙ ap (λ w. codes "repeat" ∷ w ∷ third ∷ []) c.0 ∙ ap (λ w. codes "repeat" ∷ decimal x.0 ∷ w ∷ []) t in
            subst (λ l. IsSpelled network names (first ∷ second ∷ third ∷ []) l) same (words, c.1, c.2))
        | inr b ↦ elim (choice (bytes_eq second (codes "reads")) _ _ _ b.1) [
          | inl a ↦ (
              let l = as-line (reads_line network names line first third) said a.1 in
              let s = reads-spelled first third l.0 (no-repeat first third b.0) l.1 in
              let second-is = sym (is-word second (codes "reads") a.0) in
              subst (λ x. IsSpelled network names (first ∷ second ∷ third ∷ []) x) l.2 (subst (λ w. IsSpelled network names (first ∷ w ∷ third ∷ []) (Act l.0)) second-is s))
          | inr c ↦ (let e = c.1 in absurd (cc))
        ]
      ]

  long-spelled : (first second : List ℕ) (words : List (List ℕ)) (said : Line) → long_line network names line first second words ≡ Ok said → IsSpelled network names (first ∷ second ∷ words) said
  long-spelled first second [] said h =
      let l = as-line (two_words network names line first second) said h in
      subst (λ x. IsSpelled network names (first ∷ second ∷ []) x) l.2 (two-spelled first second l.0 l.1)
  long-spelled first second (third ∷ []) said h = three-spelled first second third said h
  long-spelled first second (third ∷ more ∷ words) said h = absurd (cc)

  pub words-spelled : (words : List (List ℕ)) (said : Line) → line_of network names line words ≡ Ok said → IsSpelled network names words said
  words-spelled [] said h = absurd (cc)
  words-spelled (first ∷ []) said h = one-spelled first said h
  words-spelled (first ∷ second ∷ words) said h = long-spelled first second words said h

  -- ---- what is spelled is read

  module _ (whole : IsSimple network) where
    -- a line that reads, and is no `repeat`
    three-reads : (first third : List ℕ) → (first ≡ codes "repeat" → third ≢ codes "{") → three_words network names line first (codes "reads") third ≡ as_line (reads_line network names line first third)
    three-reads first third other =
        ap (λ t. if t then and_then (count_at line (codes "reads")) (λ k. Ok (Repeat k)) else as_line (reads_line network names line first third)) (repeat-not first third other)

    read-slot : (first third : List ℕ) (u v j : ℕ) → Calls network names first u → third ≢ codes "all" → Calls network names third v → neighbour_at network u j ≡ Some v → reads_line network names line first third ≡ Ok (ReadSlot u j)
    read-slot first third u v j reader other whom stands =
        ap (λ r. and_then r (read-on third)) (node-read network whole.nodes names line 1 first u reader)
        ∙ ap (λ t. if t then Ok (ReadAll u) else and_then (node_at network names line 3 third) (λ v. and_then (slot_at network line u v) (λ j. Ok (ReadSlot u j)))) (word-other third (codes "all") other)
        ∙ ap (λ r. and_then r (λ v. and_then (slot_at network line u v) (λ j. Ok (ReadSlot u j)))) (node-read network whole.nodes names line 3 third v whom)
        ∙ ap (λ r. and_then r (λ j. Ok (ReadSlot u j))) (slot-read network whole line u v j stands)

    pub spelled-read : (words : List (List ℕ)) (said : Line) → IsSpelled network names words said → line_of network names line words ≡ Ok said
    spelled-read words (Act Sweep) h = ap (line_of network names line) h
    spelled-read words (Act (Move u)) h =
        ap (line_of network names line) h.1 ∙ ap (λ r. as_line (and_then r (λ u. Ok (Move u)))) (node-read network whole.nodes names line 1 h.0 u h.2)
    spelled-read words (Act (Turn u)) h =
        ap (line_of network names line) h.1 ∙ ap (λ r. as_line (and_then r (λ u. Ok (Turn u)))) (node-read network whole.nodes names line 1 h.0 u h.2)
    spelled-read words (Act (ReadAll u)) h =
        let other : codes "all" ≢ codes "{" = no-word (codes "all") (codes "{") refl in
        ap (line_of network names line) h.1
        ∙ three-reads h.0 (codes "all") (λ _. other)
        ∙ ap (λ r. as_line (and_then r (read-on (codes "all")))) (node-read network whole.nodes names line 1 h.0 u h.2)
    spelled-read words (Act (ReadSlot u j)) h =
        let are = h.3 in
        ap (line_of network names line) are.are
        ∙ three-reads h.0 h.1 are.no_repeat
        ∙ ap as_line (read-slot h.0 h.1 u h.2 j h.4 are.not_all h.6 h.5)
    spelled-read words (Repeat k) h =
        ap (line_of network names line) h.0 ∙ ap (λ r. and_then r (λ k. Ok (Repeat k))) (count-read line k h.1 h.2)
    spelled-read words End h = ap (line_of network names line) h
