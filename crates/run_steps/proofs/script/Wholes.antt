-- Texts that are read.
use Rattle.std.proofs.Common.{◌≡◌, ℕ, ◌≤◌, List, [], ◌∷◌, ◌++◌, length, ◌⊎◌, inl, inr, subst, refl, sym, ap, ◌∙◌, append_assoc, append-nil, Option, Some, None, Ok, Err, arith}
use Rattle.import_lines.specs.Texts.{told_from}
use Rattle.link_net.specs.Neighbours.{Neighbours}
use Rattle.link_net.specs.Simple.{IsSimple}
use Rattle.unison_world.specs.declared.step.Step.{Step}
use Rattle.unison_trace.specs.Histories.{most_steps}
use Rattle.run_steps.specs.declared.script.open_repeat.OpenRepeat.{OpenRepeat}
use Rattle.run_steps.specs.declared.script.line.Line.{Line}
use Rattle.run_steps.specs.declared.script.line.Line.TheVariants.{Act, Repeat, End}
use Rattle.run_steps.specs.declared.script.fault.StepTextFault.{StepTextFault}
use Rattle.run_steps.specs.declared.script.fault.StepTextFault.TheVariants.{RepeatWithoutEnd}
use Rattle.run_steps.specs.script.Meaning.{line_at}
use Rattle.run_steps.specs.script.Texts.{Parts, none, act, Says, steps_of}
use Rattle.run_steps.specs.script.Refusals.{Beginning, whole, inside, IsFirstBadLine, IsUnclosed}
use Rattle.run_steps.specs.script.Runs.{Reading, unread, behind_line, behind_told, behind_all, closed, last_open, read_text}
use Rattle.run_steps.proofs.script.Choosing.{then-ok, then-err}
use Rattle.run_steps.proofs.script.Following.{grown}
use Rattle.run_steps.proofs.script.Tellings.{line-unsaid}
use Rattle.run_steps.proofs.script.Readings.{HasRead, last-push, behind-act, behind-repeat, behind-end, misplaced}

module _ (network : Neighbours) (names : Option (List (List ℕ))) where
  one-more : (told : List (ℕ × List ℕ)) (r : Reading) (b : Beginning) (l : ℕ × List ℕ) (said : Line) (q : Reading) → HasRead network names told r b → line_at network names l ≡ Ok said → behind_line network l.0 r said ≡ Ok q → (next : Beginning) × HasRead network names (told ++ l ∷ []) q next
  one-more told r b l (Act action) q read is h = (grown b (act action none), behind-act network names told r b l read action q is h)
  one-more told r b l (Repeat k) q read is h = (inside b k none, behind-repeat network names told r b l read k q is h)
  one-more told r b l End q read is h = behind-end network names told r b l read q is h

  all-read : (told todo : List (ℕ × List ℕ)) (r : Reading) (b : Beginning) (q : Reading) → HasRead network names told r b → behind_all network names r todo ≡ Ok q → (next : Beginning) × HasRead network names (told ++ todo) q next
  all-read told [] r b q read h =
      let same : r ≡ q = cc in
      (b, subst (λ (t : List (ℕ × List ℕ)). HasRead network names t q b) (sym (append-nil told)) (subst (λ q. HasRead network names told q b) same read))
  all-read told (l ∷ ls) r b q read h =
      let x = then-ok (behind_told network names r l) (λ q. behind_all network names q ls) q h in
      let y = then-ok (line_at network names l) (λ line. behind_line network l.0 r line) x.0 x.1 in
      let one = one-more told r b l y.0 x.0 read y.1 y.2 in
      let rest = all-read (told ++ l ∷ []) ls x.0 one.0 q one.1 x.2 in
      (rest.0, subst (λ (t : List (ℕ × List ℕ)). HasRead network names t q rest.0) (append_assoc told (l ∷ []) ls) rest.1)

  bad-line : IsSimple network → (told todo : List (ℕ × List ℕ)) (r : Reading) (b : Beginning) (fault : StepTextFault) → HasRead network names told r b → behind_all network names r todo ≡ Err fault → IsFirstBadLine network names (told ++ todo) fault
  bad-line valid told [] r b fault read h = cc
  bad-line valid told (l ∷ ls) r b fault read h =
      elim (then-err (behind_told network names r l) (λ q. behind_all network names q ls) fault h) [
        | inl stops ↦ elim (then-err (line_at network names l) (λ line. behind_line network l.0 r line) fault stops) [
          | inl own ↦ record { earlier = told; here = l; later = ls; all = refl; begun = b; stand = read.stand; why = inl (line-unsaid network names valid l fault own) }
          | inr y ↦ record { earlier = told; here = l; later = ls; all = refl; begun = b; stand = read.stand; why = inr (misplaced network names told r b l read y.0 fault y.1 y.2) }
        ]
        | inr x ↦ (
            let y = then-ok (line_at network names l) (λ line. behind_line network l.0 r line) x.0 x.1 in
            let one = one-more told r b l y.0 x.0 read y.1 y.2 in
            subst (λ (t : List (ℕ × List ℕ)). IsFirstBadLine network names t fault) (append_assoc told (l ∷ []) ls) (bad-line valid (told ++ l ∷ []) ls x.0 one.0 fault one.1 x.2))
      ]

  begun-unread : HasRead network names [] unread (whole none)
  begun-unread = record { stand = record { lines = tt; deep = omega arith; few = omega arith }; steps = refl; opens = refl }

  module _ (told : List (ℕ × List ℕ)) (r : Reading) where
    closed-whole : (steps : List Step) (b : Beginning) → HasRead network names told r b → closed r.steps (last_open r.opens) ≡ Ok steps
        → (parts : Parts) × (b ≡ whole parts) × (r.steps ≡ steps)
    closed-whole steps (whole ps) read h =
        let e : last_open r.opens ≡ None = ap last_open read.opens in
        let g : closed r.steps None ≡ Ok steps = subst (λ (x : Option OpenRepeat). closed r.steps x ≡ Ok steps) e h in
        (ps, refl, cc)
    closed-whole steps (inside outer k ps) read h =
        let o = read.opens in
        let e : last_open r.opens ≡ Some o.1 = ap last_open o.2 ∙ last-push o.0 o.1 in
        let g : closed r.steps (Some o.1) ≡ Ok steps = subst (λ (x : Option OpenRepeat). closed r.steps x ≡ Ok steps) e h in
        absurd (cc)

    unclosed : (fault : StepTextFault) (b : Beginning) → HasRead network names told r b → closed r.steps (last_open r.opens) ≡ Err fault → IsUnclosed network names told fault
    unclosed fault (whole ps) read h =
        let e : last_open r.opens ≡ None = ap last_open read.opens in
        let g : closed r.steps None ≡ Err fault = subst (λ (x : Option OpenRepeat). closed r.steps x ≡ Err fault) e h in
        absurd (cc)
    unclosed fault (inside outer k ps) read h =
        let o = read.opens in
        let e : last_open r.opens ≡ Some o.1 = ap last_open o.2 ∙ last-push o.0 o.1 in
        let g : closed r.steps (Some o.1) ≡ Err fault = subst (λ (x : Option OpenRepeat). closed r.steps x ≡ Err fault) e h in
        let same : fault ≡ RepeatWithoutEnd o.1.line = cc in
        record { outer = outer; count = k; parts = ps; stand = read.stand; line = o.1.line; place = o.6; names_it = same }

  -- what is read is said, and why what isn't read is refused
  module _ (text : List ℕ) where
    pub text-said : (steps : List Step) → read_text network names text ≡ Ok steps → Says network names text steps
    text-said steps h =
        let told = told_from 1 text in
        let x = then-ok (behind_all network names unread told) (λ r. closed r.steps (last_open r.opens)) steps h in
        let a = all-read [] told unread (whole none) x.0 begun-unread x.1 in
        let w = closed-whole told x.0 steps a.0 a.1 x.2 in
        let read : HasRead network names told x.0 (whole w.0) = subst (λ b. HasRead network names told x.0 b) w.1 a.1 in
        let made : steps ≡ steps_of network w.0 = sym w.2 ∙ read.steps in
        record {
          parts = w.0;
          lines = read.stand.lines;
          made = made;
          deep = read.stand.deep;
          few = subst (λ (ss : List Step). length ss ≤ most_steps) (sym made) read.stand.few;
        }

    pub text-refused : IsSimple network → (fault : StepTextFault) → read_text network names text ≡ Err fault → IsFirstBadLine network names (told_from 1 text) fault ⊎ IsUnclosed network names (told_from 1 text) fault
    text-refused valid fault h =
        let told = told_from 1 text in
        elim (then-err (behind_all network names unread told) (λ r. closed r.steps (last_open r.opens)) fault h) [
          | inl stops ↦ inl (bad-line valid [] told unread (whole none) fault begun-unread stops)
          | inr x ↦ (let a = all-read [] told unread (whole none) x.0 begun-unread x.1 in inr (unclosed told x.0 fault a.0 a.1 x.2))
        ]
