-- What readings have read.
use Rattle.std.proofs.Common.{◌≡◌, ℕ, zero, suc, ◌+◌, ◌-◌, ◌<◌, ◌≤◌, max, List, [], ◌∷◌, ◌++◌, length, map, take, drop, nat_le, nat_lt, slice_get, inl, inr, subst, refl, sym, ap, ◌∙◌, append_assoc, append-nil, length-append, Option, Some, None, Ok, Err, arith}
use Rattle.std.specs.List.{repeat}
use Rattle.std.proofs.Math.Seq.{drop-append_seam, take-append_seam}
use Rattle.std.proofs.lemmas.Bool.Decides.{nat_tests}
use Rattle.std.proofs.lemmas.List.{map-append, length-map}
use Rattle.link_net.specs.Neighbours.{Neighbours}
use Rattle.unison_world.specs.declared.step.Step.{Step}
use Rattle.unison_trace.specs.Histories.{most_steps}
use Rattle.run_steps.specs.declared.script.open_repeat.OpenRepeat.{OpenRepeat}
use Rattle.run_steps.specs.declared.script.action.Action.{Action}
use Rattle.run_steps.specs.declared.script.line.Line.{Line}
use Rattle.run_steps.specs.declared.script.line.Line.TheVariants.{Act, Repeat, End}
use Rattle.run_steps.specs.declared.script.fault.StepTextFault.{StepTextFault}
use Rattle.run_steps.specs.declared.script.fault.StepTextFault.TheVariants.{TooDeep, EndWithoutRepeat, TooManySteps}
use Rattle.run_steps.specs.script.Meaning.{line_at}
use Rattle.run_steps.specs.script.Spelled.{Said}
use Rattle.run_steps.specs.script.Texts.{Parts, none, act, again, lines_of, steps_of, depth_of, made_by, most_deep, AreSaid}
use Rattle.run_steps.specs.script.Refusals.{Beginning, whole, inside, begun_lines, begun_steps, begun_depth, open_in, Stand, IsMisplaced}
use Rattle.run_steps.specs.script.Runs.{Reading, few_steps, repeated, last_open, but_last, ended, behind_line}
use Rattle.run_steps.proofs.script.Choosing.{then-ok, then-err, choice}
use Rattle.run_steps.proofs.script.Following.{grown, lines-grown, steps-grown, depth-grown, open-deep}
use Rattle.run_steps.proofs.script.Tellings.{line-said, zip-push, zip-length}

-- the number of a line
abbrev pub numbers : List (ℕ × List ℕ) → List ℕ
numbers told = map (λ l. l.0) told

-- the open repeats of a reading are those of a beginning
abbrev pub AreOpen : Neighbours → List ℕ → Beginning → List OpenRepeat → Type 0
AreOpen network lines (whole ps) opens = opens ≡ []
AreOpen network lines (inside outer k ps) opens =
    (others : List OpenRepeat) × (last : OpenRepeat) × (opens ≡ others ++ last ∷ []) × (1 ≤ k) × (last.again ≡ k - 1) × (last.start ≡ length (begun_steps network outer))
    × (slice_get lines (length (begun_lines outer)) ≡ Some last.line) × AreOpen network lines outer others

-- a reading has read these lines, which are those of a beginning
pub record HasRead (network : Neighbours) (names : Option (List (List ℕ))) (told : List (ℕ × List ℕ)) (r : Reading) (b : Beginning) : Type 0 where
  pub stand : Stand network names told b
  pub steps : r.steps ≡ begun_steps network b
  pub opens : AreOpen network (numbers told) b r.opens

-- ---- lists

get-front : {A : Type 0} (xs ys : List A) (i : ℕ) (x : A) → slice_get xs i ≡ Some x → slice_get (xs ++ ys) i ≡ Some x
get-front [] ys i x h = cc
get-front (a ∷ xs) ys zero x h = h
get-front (a ∷ xs) ys (suc i) x h = get-front xs ys i x h

get-seam : {A : Type 0} (xs : List A) (x : A) → slice_get (xs ++ x ∷ []) (length xs) ≡ Some x
get-seam [] x = refl
get-seam (a ∷ xs) x = get-seam xs x

less-one : (xs : List OpenRepeat) (x : OpenRepeat) → length (xs ++ x ∷ []) - 1 ≡ length xs
less-one xs x = omega (arith, length-append xs (x ∷ []))

pub last-push : (xs : List OpenRepeat) (x : OpenRepeat) → last_open (xs ++ x ∷ []) ≡ Some x
last-push xs x = ap (slice_get (xs ++ x ∷ [])) (less-one xs x) ∙ get-seam xs x

pub but-last-push : (xs : List OpenRepeat) (x : OpenRepeat) → but_last (xs ++ x ∷ []) ≡ xs
but-last-push xs x = ap (λ n. take n (xs ++ x ∷ [])) (less-one xs x) ∙ take-append_seam xs (x ∷ [])

-- ---- steps

pub few-ok : (line : ℕ) (ss made : List Step) → few_steps line ss ≡ Ok made → (ss ≡ made) × (length ss ≤ most_steps)
few-ok line ss made h =
    elim (choice (nat_le (length ss) most_steps) _ _ _ h) [
      | inl a ↦ (let e = a.1 in let t = a.0 in (cc, grind (arith, nat_tests)))
      | inr b ↦ (let e = b.1 in cc)
    ]

pub few-err : (line : ℕ) (ss : List Step) (fault : StepTextFault) → few_steps line ss ≡ Err fault → (TooManySteps line ≡ fault) × (most_steps < length ss)
few-err line ss fault h =
    elim (choice (nat_le (length ss) most_steps) _ _ _ h) [
      | inl a ↦ (let e = a.1 in cc)
      | inr b ↦ (let e = b.1 in let t = b.0 in (cc, grind (arith, nat_tests)))
    ]

-- a repeat that ends: its steps as often as it says
pub repeated-is : (ss front body : List Step) (last : OpenRepeat) (k : ℕ) → ss ≡ front ++ body → last.start ≡ length front → last.again ≡ k - 1 → 1 ≤ k → repeated ss last ≡ front ++ repeat k body
repeated-is ss front body last zero is start more least = absurd (omega arith)
repeated-is ss front body last (suc j) is start more least =
    let same : last.again ≡ j = omega arith in
    ap (λ s. s ++ repeat last.again (drop last.start s)) is
    ∙ ap (λ n. (front ++ body) ++ repeat last.again (drop n (front ++ body))) start
    ∙ ap (λ n. (front ++ body) ++ repeat n (drop (length front) (front ++ body))) same
    ∙ ap (λ s. (front ++ body) ++ repeat j s) (drop-append_seam front body)
    ∙ append_assoc front body (repeat j body)

module _ (network : Neighbours) where
  -- as many repeats are open
  open-length : (lines : List ℕ) (b : Beginning) (opens : List OpenRepeat) → AreOpen network lines b opens → length opens ≡ open_in b
  open-length lines (whole ps) opens h = ap length h
  open-length lines (inside outer k ps) opens h =
      let e = open-length lines outer h.0 h.7 in
      let len : length opens ≡ length (h.0 ++ h.1 ∷ []) = ap length h.2 in
      omega (arith, length-append h.0 (h.1 ∷ []))

  -- further lines change nothing of them
  open-more : (lines more : List ℕ) (b : Beginning) (opens : List OpenRepeat) → AreOpen network lines b opens → AreOpen network (lines ++ more) b opens
  open-more lines more (whole ps) opens h = h
  open-more lines more (inside outer k ps) opens h =
      (h.0, h.1, h.2, h.3, h.4, h.5, get-front lines more (length (begun_lines outer)) h.1.line h.6, open-more lines more outer h.0 h.7)

  -- nor do further parts
  open-grow : (lines : List ℕ) (b : Beginning) (qs : Parts) (opens : List OpenRepeat) → AreOpen network lines b opens → AreOpen network lines (grown b qs) opens
  open-grow lines (whole ps) qs opens h = h
  open-grow lines (inside outer k ps) qs opens h = h

  module _ (names : Option (List (List ℕ))) where
    said-more : (told : List (ℕ × List ℕ)) (ls : List Line) (l : ℕ × List ℕ) (said : Line) → AreSaid network names told ls → line_at network names l ≡ Ok said → AreSaid network names (told ++ l ∷ []) (ls ++ said ∷ [])
    said-more told ls l said are is = zip-push (Said network names) told ls l said are (line-said network names l said is)

    -- as many lines are said as were told
    said-length : (told : List (ℕ × List ℕ)) (ls : List Line) → AreSaid network names told ls → length told ≡ length ls
    said-length told ls are = zip-length (Said network names) told ls are

    module _ (told : List (ℕ × List ℕ)) (r : Reading) (b : Beginning) (l : ℕ × List ℕ) (read : HasRead network names told r b) where
      opens-more : AreOpen network (numbers (told ++ l ∷ [])) b r.opens
      opens-more = subst (λ ns. AreOpen network ns b r.opens) (sym (map-append (λ (l : ℕ × List ℕ). l.0) told (l ∷ []))) (open-more (numbers told) (l.0 ∷ []) b r.opens read.opens)

      -- parts that stand after a beginning, whose steps are few
      behind-grown : (q : Reading) (outer : Beginning) (qs : Parts) (ls : List Line) → AreSaid network names (told ++ l ∷ []) ls → ls ≡ begun_lines outer ++ lines_of qs
          → q.steps ≡ begun_steps network outer ++ steps_of network qs → length q.steps ≤ most_steps → begun_depth outer ≤ most_deep → open_in outer + depth_of qs ≤ most_deep
          → AreOpen network (numbers (told ++ l ∷ [])) outer q.opens → HasRead network names (told ++ l ∷ []) q (grown outer qs)
      behind-grown q outer qs ls are lines steps few deep inner opens =
          let made : q.steps ≡ begun_steps network (grown outer qs) = steps ∙ sym (steps-grown network outer qs) in
          let depth = depth-grown outer qs in
          record {
            stand = record {
              lines = subst (λ xs. AreSaid network names (told ++ l ∷ []) xs) (lines ∙ sym (lines-grown outer qs)) are;
              deep = omega arith;
              few = subst (λ (xs : List Step). length xs ≤ most_steps) made few;
            };
            steps = made;
            opens = open-grow (numbers (told ++ l ∷ [])) outer qs q.opens opens;
          }

      pub behind-act : (action : Action) (q : Reading) → line_at network names l ≡ Ok (Act action) → behind_line network l.0 r (Act action) ≡ Ok q → HasRead network names (told ++ l ∷ []) q (grown b (act action none))
      unfolding behind_line
      behind-act action q is h =
          let x = then-ok (few_steps l.0 (r.steps ++ made_by network action)) (λ steps. Ok (record { steps = steps; opens = r.opens })) q h in
          let few = few-ok l.0 (r.steps ++ made_by network action) x.0 x.1 in
          let p : Reading = record { steps = x.0; opens = r.opens } in
          let same : p ≡ q = cc in
          let made : x.0 ≡ begun_steps network b ++ (made_by network action ++ []) = sym few.0 ∙ ap (λ ss. ss ++ made_by network action) read.steps ∙ ap (λ ss. begun_steps network b ++ ss) (sym (append-nil (made_by network action))) in
          let low : length x.0 ≤ most_steps = subst (λ (xs : List Step). length xs ≤ most_steps) few.0 few.1 in
          let deep = open-deep b in
          let stood = read.stand.deep in
          subst (λ q. HasRead network names (told ++ l ∷ []) q (grown b (act action none))) same
          (behind-grown p b (act action none) (begun_lines b ++ Act action ∷ []) (said-more told (begun_lines b) l (Act action) read.stand.lines is) refl made low read.stand.deep (omega arith) opens-more)

      pub behind-repeat : (k : ℕ) (q : Reading) → line_at network names l ≡ Ok (Repeat k) → behind_line network l.0 r (Repeat k) ≡ Ok q → HasRead network names (told ++ l ∷ []) q (inside b k none)
      unfolding behind_line
      behind-repeat k q is h =
          let new : OpenRepeat = record { line = l.0; start = length r.steps; again = k - 1 } in
          let p : Reading = record { steps = r.steps; opens = r.opens ++ new ∷ [] } in
          elim (choice (nat_lt (length r.opens) most_deep) _ _ _ h) [
            | inl a ↦ (
                let e = a.1 in
                let same : p ≡ q = cc in
                let t = a.0 in
                let room : length r.opens < most_deep = grind (arith, nat_tests) in
                let count = open-length (numbers told) b r.opens read.opens in
                let stood = read.stand.deep in
                let many = said-length told (begun_lines b) read.stand.lines in
                let place : length (begun_lines b) ≡ length (numbers told) = sym many ∙ sym (length-map told (λ (l : ℕ × List ℕ). l.0)) in
                let got : slice_get (numbers told ++ l.0 ∷ []) (length (begun_lines b)) ≡ Some l.0 = ap (slice_get (numbers told ++ l.0 ∷ [])) place ∙ get-seam (numbers told) l.0 in
                let named : slice_get (numbers (told ++ l ∷ [])) (length (begun_lines b)) ≡ Some l.0 = subst (λ (ns : List ℕ). slice_get ns (length (begun_lines b)) ≡ Some l.0) (sym (map-append (λ (l : ℕ × List ℕ). l.0) told (l ∷ []))) got in
                let made : r.steps ≡ begun_steps network b ++ [] = read.steps ∙ sym (append-nil (begun_steps network b)) in
                subst (λ q. HasRead network names (told ++ l ∷ []) q (inside b k none)) same
                (record {
                  stand = record {
                    lines = said-more told (begun_lines b) l (Repeat k) read.stand.lines is;
                    deep = omega arith;
                    few = subst (λ (xs : List Step). length xs ≤ most_steps) (sym (append-nil (begun_steps network b))) read.stand.few;
                  };
                  steps = made;
                  opens = (r.opens, new, refl, (line-said network names l (Repeat k) is).spelled.1, refl, ap length read.steps, named, opens-more);
                }))
            | inr other ↦ (let e = other.1 in cc)
          ]

      pub behind-end : (q : Reading) → line_at network names l ≡ Ok End → behind_line network l.0 r End ≡ Ok q → (next : Beginning) × HasRead network names (told ++ l ∷ []) q next
      unfolding behind_line
      behind-end q is h = end_of b read.opens read.stand read.steps where
        end_of : (x : Beginning) → AreOpen network (numbers told) x r.opens → Stand network names told x → r.steps ≡ begun_steps network x → (next : Beginning) × HasRead network names (told ++ l ∷ []) q next
        end_of (whole ps) o stand steps =
            let e : last_open r.opens ≡ None = ap last_open o in
            let bad : ended l.0 r None ≡ Ok q = subst (λ (x : Option OpenRepeat). ended l.0 r x ≡ Ok q) e h in
            absurd (cc)
        end_of (inside outer k ps) o stand steps =
            let e : last_open r.opens ≡ Some o.1 = ap last_open o.2 ∙ last-push o.0 o.1 in
            let g : ended l.0 r (Some o.1) ≡ Ok q = subst (λ (x : Option OpenRepeat). ended l.0 r x ≡ Ok q) e h in
            let x = then-ok (few_steps l.0 (repeated r.steps o.1)) (λ steps. Ok (record { steps = steps; opens = but_last r.opens })) q g in
            let few = few-ok l.0 (repeated r.steps o.1) x.0 x.1 in
            let p : Reading = record { steps = x.0; opens = but_last r.opens } in
            let same : p ≡ q = cc in
            let front = begun_steps network outer in
            let body = steps_of network ps in
            let made : x.0 ≡ front ++ (repeat k body ++ []) = sym few.0 ∙ repeated-is r.steps front body o.1 k steps o.5 o.4 o.3 ∙ ap (λ ss. front ++ ss) (sym (append-nil (repeat k body))) in
            let low : length x.0 ≤ most_steps = subst (λ (xs : List Step). length xs ≤ most_steps) few.0 few.1 in
            let lines = append_assoc (begun_lines outer) (Repeat k ∷ lines_of ps) (End ∷ []) in
            let left : but_last r.opens ≡ o.0 = ap but_last o.2 ∙ but-last-push o.0 o.1 in
            let others : AreOpen network (numbers (told ++ l ∷ [])) outer o.0 = subst (λ ns. AreOpen network ns outer o.0) (sym (map-append (λ (l : ℕ × List ℕ). l.0) told (l ∷ []))) (open-more (numbers told) (l.0 ∷ []) outer o.0 o.7) in
            let opens : AreOpen network (numbers (told ++ l ∷ [])) outer (but_last r.opens) = subst (λ os. AreOpen network (numbers (told ++ l ∷ [])) outer os) (sym left) others in
            let stood : max (begun_depth outer) (open_in outer + 1 + depth_of ps) ≤ most_deep = stand.deep in (
              grown outer (again k ps none),
              subst (λ q. HasRead network names (told ++ l ∷ []) q (grown outer (again k ps none))) same
                  (behind-grown p outer (again k ps none) (begun_lines (inside outer k ps) ++ End ∷ []) (said-more told (begun_lines (inside outer k ps)) l End stand.lines is) lines made low (omega arith) (omega arith) opens),
            )

      misplaced-end : (fault : StepTextFault) → line_at network names l ≡ Ok End → ended l.0 r (last_open r.opens) ≡ Err fault → (x : Beginning) → AreOpen network (numbers told) x r.opens → r.steps ≡ begun_steps network x → IsMisplaced network names x l fault
      misplaced-end fault is h (whole ps) o steps =
          let e : last_open r.opens ≡ None = ap last_open o in
          let g : ended l.0 r None ≡ Err fault = subst (λ (x : Option OpenRepeat). ended l.0 r x ≡ Err fault) e h in
          let same : EndWithoutRepeat l.0 ≡ fault = cc in
          subst (λ f. IsMisplaced network names (whole ps) l f) same (refl, line-said network names l End is, refl)
      misplaced-end fault is h (inside outer k ps) o steps =
          let e : last_open r.opens ≡ Some o.1 = ap last_open o.2 ∙ last-push o.0 o.1 in
          let g : ended l.0 r (Some o.1) ≡ Err fault = subst (λ (x : Option OpenRepeat). ended l.0 r x ≡ Err fault) e h in
          let rep = repeated-is r.steps (begun_steps network outer) (steps_of network ps) o.1 k steps o.5 o.4 o.3 in
          elim (then-err (few_steps l.0 (repeated r.steps o.1)) (λ steps. Ok (record { steps = steps; opens = but_last r.opens })) fault g) [
            | inl few ↦ (
                let f = few-err l.0 (repeated r.steps o.1) fault few in
                let more : most_steps < length (begun_steps network outer ++ repeat k (steps_of network ps)) = subst (λ (ss : List Step). most_steps < length ss) rep f.1 in
                subst (λ f. IsMisplaced network names (inside outer k ps) l f) f.0 (refl, (End, line-said network names l End is, more)))
            | inr x ↦ (let bad = x.2 in absurd (cc))
          ]

      pub misplaced : (said : Line) (fault : StepTextFault) → line_at network names l ≡ Ok said → behind_line network l.0 r said ≡ Err fault → IsMisplaced network names b l fault
      unfolding behind_line
      misplaced (Act action) fault is h =
          elim (then-err (few_steps l.0 (r.steps ++ made_by network action)) (λ steps. Ok (record { steps = steps; opens = r.opens })) fault h) [
            | inl few ↦ (
                let f = few-err l.0 (r.steps ++ made_by network action) fault few in
                let more : most_steps < length (begun_steps network b ++ made_by network action) = subst (λ (ss : List Step). most_steps < length (ss ++ made_by network action)) read.steps f.1 in
                subst (λ f. IsMisplaced network names b l f) f.0 (refl, (Act action, line-said network names l (Act action) is, more)))
            | inr x ↦ (let bad = x.2 in absurd (cc))
          ]
      misplaced (Repeat k) fault is h =
          elim (choice (nat_lt (length r.opens) most_deep) _ _ _ h) [
            | inl a ↦ (let e = a.1 in absurd (cc))
            | inr other ↦ (
                let e = other.1 in
                let same : TooDeep l.0 ≡ fault = cc in
                let t = other.0 in
                let count = open-length (numbers told) b r.opens read.opens in
                let stood = read.stand.deep in
                let deep = open-deep b in
                let full : most_deep ≤ length r.opens = grind (arith, nat_tests) in
                subst (λ f. IsMisplaced network names b l f) same (refl, (k, line-said network names l (Repeat k) is), omega arith))
          ]
      misplaced End fault is h = misplaced-end fault is h b read.opens read.steps
