-- Lines of words that are read are those that their words spell.
use Rattle.std.proofs.Common.{◌≡◌, ◌≢◌, ℕ, ◌≤◌, true, false, List, [], ◌∷◌, codes, length, if◌then◌else◌, Option, Some, None, Ok, Err, inl, inr, refl, sym, ap, ◌∙◌, subst}
use Rattle.std.specs.Str.{bytes_eq}
use Rattle.std.proofs.lemmas.Slice.Eq.{bytes_eq-Decides}
use Rattle.link_net.specs.Simple.{IsSimple}
use Rattle.rule_check.specs.Value.{names_of}
use Rattle.rounds_plan.specs.Plans.{PlanView}
use Rattle.unison_world.specs.declared.step.Step.{Step}
use Rattle.unison_world.specs.declared.step.Step.TheVariants.{Read, Write}
use Rattle.run_steps.specs.script.Words.{node_called}
use Rattle.run_steps.specs.script.Spelled.{Calls}
use Rattle.run_steps.proofs.script.Callings.{called, calls}
use Rattle.run_steps.proofs.script.Choosing.{choice}
use Rattle.run_steps.specs.declared.verify.entry.Given.{Given}
use Rattle.run_steps.specs.declared.verify.entry.Entry.{Entry}
use Rattle.run_steps.specs.declared.verify.fault.VerifyFault.{VerifyFault}
use Rattle.run_steps.specs.declared.verify.fault.VerifyFault.TheVariants.{NoSuchLine}
use Rattle.run_steps.specs.verify.Fields.{and_then, none_gathered, with_words}
use Rattle.run_steps.specs.verify.Nodes.{node_found, slot_found}
use Rattle.run_steps.specs.verify.Meaning.{without_colon, is_move, entry_of, move_entry, read_entry, reads_line, line_of}
use Rattle.run_steps.specs.verify.Given.{Gives}
use Rattle.run_steps.specs.verify.Spelled.{SaysMove, AreOfMove, AreOfRead, SaysStep, IsSpelled}
use Rattle.run_steps.specs.verify.Unsaid.{IsUnspelled}
use Rattle.run_steps.proofs.verify.Choosing.{then-ok, then-err}
use Rattle.run_steps.proofs.verify.Colons.{stands-for, stands-only, move-said, said-move}
use Rattle.run_steps.proofs.verify.Gathering.{words-give, give-words, words-refused}
use Rattle.run_steps.proofs.verify.Neighbouring.{node-ok, node-err, slot-ok, slot-err, slot-there}

is-reads : (word : List ℕ) → bytes_eq word (codes "reads") ≡ true → word ≡ codes "reads"
is-reads word h = (bytes_eq-Decides word (codes "reads")).0 h

module _ (plan : PlanView) (names : Option (List (List ℕ))) (line : ℕ) (few : length (names_of plan.program) ≤ 8) where
  abbrev fields : List (List ℕ)
  fields = names_of plan.program

  abbrev called_by : List ℕ → Option ℕ
  called_by word = node_called plan.network names word

  -- ---- what is read is spelled

  -- values behind a step
  entry-spelled : (words rest : List (List ℕ)) (step : Step) (e : Entry) → SaysStep plan.network names words step rest → entry_of fields line step rest ≡ Ok e → IsSpelled plan names words e
  entry-spelled words rest step e says h =
      let x = then-ok (with_words fields line none_gathered rest) (λ given. Ok (record { step = step; given = given })) e h in
      let made = x.2 in
      let entry : Entry = record { step = step; given = x.0 } in
      let same : entry ≡ e = cc in
      subst (λ e. IsSpelled plan names words e) same (record { rest = rest; step = says; given = words-give fields few line rest x.0 x.1 })

  move-spelled : (first second : List ℕ) (words : List (List ℕ)) (e : Entry) → SaysMove second → move_entry plan names line first words ≡ Ok e → IsSpelled plan names (first ∷ second ∷ words) e
  unfolding move_entry
  move-spelled first second words e says h =
      let x = then-ok (node_found line (called_by first)) (λ u. entry_of fields line (Write u) words) e h in
      let u = called plan.network names first x.0 (node-ok line (called_by first) x.0 x.1) in
      entry-spelled (first ∷ second ∷ words) words (Write x.0) e (first, (second, refl, says), u) x.2

  read-spelled : (first third : List ℕ) (words : List (List ℕ)) (e : Entry) → read_entry plan names line first third words ≡ Ok e → IsSpelled plan names (first ∷ codes "reads" ∷ third ∷ words) e
  unfolding read_entry
  read-spelled first third words e h =
      let x = then-ok (node_found line (called_by first)) (λ u. and_then (slot_found plan.network line u (called_by (without_colon third))) (λ j. entry_of fields line (Read u j) words)) e h in
      let y = then-ok (slot_found plan.network line x.0 (called_by (without_colon third))) (λ j. entry_of fields line (Read x.0 j) words) e x.2 in
      let s = slot-ok plan.network line x.0 (called_by (without_colon third)) y.0 y.1 in
      let u = called plan.network names first x.0 (node-ok line (called_by first) x.0 x.1) in
      let v = called plan.network names (without_colon third) s.0 s.1 in
      entry-spelled (first ∷ codes "reads" ∷ third ∷ words) words (Read x.0 y.0) e (first, third, without_colon third, s.0, refl, u, stands-for third, s.2, v) y.2

  reads-spelled : (first : List ℕ) (words : List (List ℕ)) (e : Entry) → reads_line plan names line first words ≡ Ok e → IsSpelled plan names (first ∷ codes "reads" ∷ words) e
  reads-spelled first [] e h = absurd (cc)
  reads-spelled first (third ∷ words) e h = read-spelled first third words e h

  pub words-spelled : (words : List (List ℕ)) (e : Entry) → line_of plan names line words ≡ Ok e → IsSpelled plan names words e
  words-spelled [] e h = absurd (cc)
  words-spelled (first ∷ []) e h = absurd (cc)
  words-spelled (first ∷ second ∷ words) e h =
      elim (choice (is_move (without_colon second)) _ _ _ h) [
        | inl a ↦ move-spelled first second words e (move-said second a.0) a.1
        | inr b ↦ elim (choice (bytes_eq second (codes "reads")) _ _ _ b.1) [
          | inl a ↦ subst (λ w. IsSpelled plan names (first ∷ w ∷ words) e) (sym (is-reads second a.0)) (reads-spelled first words e a.1)
          | inr c ↦ (let e = c.1 in absurd (cc))
        ]
      ]

  module _ (whole : IsSimple plan.network) where
    -- ---- what is spelled is read

    node-there : (word : List ℕ) (u : ℕ) → Calls plan.network names word u → called_by word ≡ Some u
    node-there word u h = calls plan.network whole.nodes names word u h

    entry-read : (rest : List (List ℕ)) (step : Step) (given : Given) → Gives fields rest given → entry_of fields line step rest ≡ Ok (record { step = step; given = given })
    entry-read rest step given h = ap (λ g. and_then g (λ given. Ok (record { step = step; given = given }))) (give-words fields few line rest given h)

    step-read : (words rest : List (List ℕ)) (step : Step) → SaysStep plan.network names words step rest → line_of plan names line words ≡ entry_of fields line step rest
    unfolding move_entry read_entry
    step-read words rest (Write u) h =
        let of = h.1 in
        let second = of.0 in
        ap (line_of plan names line) of.1
        ∙ ap (λ t. if t then move_entry plan names line h.0 rest else if bytes_eq second (codes "reads") then reads_line plan names line h.0 rest else Err (NoSuchLine line)) (said-move second of.2)
        ∙ ap (λ o. and_then (node_found line o) (λ u. entry_of fields line (Write u) rest)) (node-there h.0 u h.2)
    step-read words rest (Read u j) h =
        let plain = sym (stands-only h.1 h.2 h.6) in
        ap (line_of plan names line) h.4
        ∙ ap (λ o. and_then (node_found line o) (λ u. and_then (slot_found plan.network line u (called_by (without_colon h.1))) (λ j. entry_of fields line (Read u j) rest))) (node-there h.0 u h.5)
        ∙ ap (λ w. and_then (slot_found plan.network line u (called_by w)) (λ j. entry_of fields line (Read u j) rest)) plain
        ∙ ap (λ o. and_then (slot_found plan.network line u o) (λ j. entry_of fields line (Read u j) rest)) (node-there h.2 h.3 h.8)
        ∙ ap (λ s. and_then s (λ j. entry_of fields line (Read u j) rest)) (slot-there plan.network line u whole h.3 j h.7)

    pub spelled-read : (words : List (List ℕ)) (e : Entry) → IsSpelled plan names words e → line_of plan names line words ≡ Ok e
    spelled-read words e h = step-read words h.rest e.step h.step ∙ entry-read h.rest e.step e.given h.given

    -- ---- what is refused

    -- a word that calls nothing
    calls-none : (word : List ℕ) → called_by word ≡ None → (u : ℕ) → Calls plan.network names word u → ⊥
    calls-none word none u h = (let some = node-there word u h in let bad : ◌≡◌ {A = Option ℕ} None (Some u) = sym none ∙ some in cc)

    values-refused : (words rest : List (List ℕ)) (step : Step) (fault : VerifyFault) → SaysStep plan.network names words step rest → entry_of fields line step rest ≡ Err fault → IsUnspelled plan names line words fault
    values-refused words rest step fault says h =
        elim (then-err (with_words fields line none_gathered rest) (λ given. Ok (record { step = step; given = given })) fault h) [
          | inl stops ↦ elim (words-refused fields few line fault rest stops) [
            | inl bad ↦ subst (λ f. IsUnspelled plan names line words f) bad.0 (refl, (step, rest, says, bad.1))
            | inr twice ↦ subst (λ f. IsUnspelled plan names line words f) twice.0 (refl, (step, rest, says, twice.1))
          ]
          | inr x ↦ (let e = x.2 in absurd (cc))
        ]

    move-refused : (first second : List ℕ) (words : List (List ℕ)) (fault : VerifyFault) → SaysMove second → move_entry plan names line first words ≡ Err fault → IsUnspelled plan names line (first ∷ second ∷ words) fault
    unfolding move_entry
    move-refused first second words fault says h =
        elim (then-err (node_found line (called_by first)) (λ u. entry_of fields line (Write u) words) fault h) [
          | inl stops ↦ (
              let n = node-err line (called_by first) fault stops in
              subst (λ f. IsUnspelled plan names line (first ∷ second ∷ words) f) n.1 (refl, (first, inl (words, (second, refl, says)), calls-none first n.0)))
          | inr x ↦ (
              let u = called plan.network names first x.0 (node-ok line (called_by first) x.0 x.1) in
              values-refused (first ∷ second ∷ words) words (Write x.0) fault (first, (second, refl, says), u) x.2)
        ]

    read-refused : (first third : List ℕ) (words : List (List ℕ)) (fault : VerifyFault) → read_entry plan names line first third words ≡ Err fault → IsUnspelled plan names line (first ∷ codes "reads" ∷ third ∷ words) fault
    unfolding read_entry
    read-refused first third words fault h =
        let all = first ∷ codes "reads" ∷ third ∷ words in
        let whom = without_colon third in
        elim (then-err (node_found line (called_by first)) (λ u. and_then (slot_found plan.network line u (called_by whom)) (λ j. entry_of fields line (Read u j) words)) fault h) [
          | inl stops ↦ (
              let n = node-err line (called_by first) fault stops in
              subst (λ f. IsUnspelled plan names line all f) n.1 (refl, (first, inr (third, words, refl), calls-none first n.0)))
          | inr x ↦ (
              let u = called plan.network names first x.0 (node-ok line (called_by first) x.0 x.1) in
              elim (then-err (slot_found plan.network line x.0 (called_by whom)) (λ j. entry_of fields line (Read x.0 j) words) fault x.2) [
                | inl stops ↦ (
                    let s = slot-err plan.network line x.0 (called_by whom) fault stops in
                    subst (λ f. IsUnspelled plan names line all f) s.0 (refl, (first, third, whom, words, x.0, refl, u, stands-for third, λ j v stands calls_it. s.1 j v stands (node-there whom v calls_it))))
                | inr y ↦ (
                    let s = slot-ok plan.network line x.0 (called_by whom) y.0 y.1 in
                    let v = called plan.network names whom s.0 s.1 in
                    values-refused all words (Read x.0 y.0) fault (first, third, whom, s.0, refl, u, stands-for third, s.2, v) y.2)
              ])
        ]

    -- words of no form
    no-form : (words : List (List ℕ)) (fault : VerifyFault) → NoSuchLine line ≡ fault → ((who : List ℕ) (rest : List (List ℕ)) → AreOfMove words who rest → ⊥) → ((who third : List ℕ) (rest : List (List ℕ)) → AreOfRead words who third rest → ⊥) → IsUnspelled plan names line words fault
    no-form words fault same move read = subst (λ f. IsUnspelled plan names line words f) same (refl, move, read)

    move-not : (first second : List ℕ) (words : List (List ℕ)) → is_move (without_colon second) ≡ false → (who : List ℕ) (rest : List (List ℕ)) → AreOfMove (first ∷ second ∷ words) who rest → ⊥
    move-not first second words never who rest of =
        let are = of.1 in
        let same : second ≡ of.0 = cc in
        let yes = ap (λ w. is_move (without_colon w)) same ∙ said-move of.0 of.2 in
        let bad : true ≡ false = sym yes ∙ never in
        cc

    read-not : (first second : List ℕ) (words : List (List ℕ)) → second ≢ codes "reads" → (who third : List ℕ) (rest : List (List ℕ)) → AreOfRead (first ∷ second ∷ words) who third rest → ⊥
    read-not first second words never who third rest of = (let same : second ≡ codes "reads" = cc in never same)

    reads-refused : (first : List ℕ) (words : List (List ℕ)) (fault : VerifyFault) → is_move (without_colon (codes "reads")) ≡ false → reads_line plan names line first words ≡ Err fault → IsUnspelled plan names line (first ∷ codes "reads" ∷ words) fault
    reads-refused first [] fault never h = no-form (first ∷ codes "reads" ∷ []) fault (cc) (move-not first (codes "reads") [] never) (λ who third rest of. (let bad = of in cc))
    reads-refused first (third ∷ words) fault never h = read-refused first third words fault h

    pub words-unspelled : (words : List (List ℕ)) (fault : VerifyFault) → line_of plan names line words ≡ Err fault → IsUnspelled plan names line words fault
    words-unspelled [] fault h = no-form [] fault (cc) (λ who rest of. (let bad = of.1 in cc)) (λ who third rest of. (let bad = of in cc))
    words-unspelled (first ∷ []) fault h = no-form (first ∷ []) fault (cc) (λ who rest of. (let bad = of.1 in cc)) (λ who third rest of. (let bad = of in cc))
    words-unspelled (first ∷ second ∷ words) fault h =
        elim (choice (is_move (without_colon second)) _ _ _ h) [
          | inl a ↦ move-refused first second words fault (move-said second a.0) a.1
          | inr b ↦ elim (choice (bytes_eq second (codes "reads")) _ _ _ b.1) [
            | inl a ↦ subst (λ w. IsUnspelled plan names line (first ∷ w ∷ words) fault) (sym (is-reads second a.0)) (reads-refused first words fault refl a.1)
            | inr c ↦ (
                let e = c.1 in
                let other : second ≢ codes "reads" = λ same. (let yes = (bytes_eq-Decides second (codes "reads")).1 same in let never = c.0 in let bad : true ≡ false = sym yes ∙ never in cc) in
                no-form (first ∷ second ∷ words) fault (cc) (move-not first second words b.0) (read-not first second words other))
          ]
        ]
