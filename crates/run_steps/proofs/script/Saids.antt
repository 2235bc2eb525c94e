-- What is said is read.
use Rattle.std.proofs.Common.{◌≡◌, ℕ, zero, suc, ◌+◌, ◌-◌, ◌<◌, ◌≤◌, max, true, List, [], ◌∷◌, ◌++◌, length, map, nat_le, nat_lt, subst, refl, sym, ap, ◌∙◌, append_assoc, append-nil, length-append, Option, Some, Result, Ok, arith}
use Rattle.std.specs.List.{repeat}
use Rattle.std.proofs.lemmas.Bool.Decides.{nat_tests}
use Rattle.std.proofs.lemmas.List.{map-append}
use Rattle.import_lines.specs.Texts.{told_from}
use Rattle.link_net.specs.Neighbours.{Neighbours}
use Rattle.link_net.specs.Simple.{IsSimple}
use Rattle.unison_world.specs.declared.step.Step.{Step}
use Rattle.unison_trace.specs.Histories.{most_steps}
use Rattle.run_steps.specs.declared.script.action.Action.{Action}
use Rattle.run_steps.specs.declared.script.open_repeat.OpenRepeat.{OpenRepeat}
use Rattle.run_steps.specs.declared.script.line.Line.{Line}
use Rattle.run_steps.specs.declared.script.line.Line.TheVariants.{Act, Repeat, End}
use Rattle.run_steps.specs.declared.script.fault.StepTextFault.{StepTextFault}
use Rattle.run_steps.specs.script.Meaning.{and_then, line_at}
use Rattle.run_steps.specs.script.Texts.{Parts, none, act, again, lines_of, steps_of, depth_of, made_by, most_deep, Says}
use Rattle.run_steps.specs.script.Runs.{Reading, unread, few_steps, repeated, last_open, but_last, ended, behind_line, behind_all, closed, read_text}
use Rattle.run_steps.proofs.script.Readings.{last-push, but-last-push, repeated-is}
use Rattle.run_steps.proofs.script.Tellings.{line-said, all-read}

few-is : (line : ℕ) (ss : List Step) → length ss ≤ most_steps → few_steps line ss ≡ Ok ss
few-is line ss few = (let t : nat_le (length ss) most_steps ≡ true = grind (arith, nat_tests) in rw t refl)

length-again : (k : ℕ) (ss : List Step) → 1 ≤ k → length ss ≤ length (repeat k ss)
length-again zero ss h = absurd (omega arith)
length-again (suc k) ss h = (let e = length-append ss (repeat k ss) in omega arith)

module _ (network : Neighbours) (names : Option (List (List ℕ))) where
  -- lines are told that begin with those of parts, and what stands after them is this
  abbrev Tells : List (ℕ × List ℕ) → Parts → List (Result Line StepTextFault) → Type 0
  Tells told ps more = map (line_at network names) told ≡ map Ok (lines_of ps) ++ more

  -- a reading behind parts
  abbrev behind : Reading → Parts → Reading
  behind r ps = record { steps = r.steps ++ steps_of network ps; opens = r.opens }

  -- reading lines that begin with those of parts is reading what stands after them
  abbrev Goes : Parts → Type 0
  Goes ps = (told : List (ℕ × List ℕ)) (more : List (Result Line StepTextFault)) (r : Reading) → Tells told ps more → length (r.steps ++ steps_of network ps) ≤ most_steps → length r.opens + depth_of ps ≤ most_deep
      → (rest : List (ℕ × List ℕ)) × (map (line_at network names) rest ≡ more) × (behind_all network names r told ≡ behind_all network names (behind r ps) rest)

  one-line : (r q : Reading) (l : ℕ × List ℕ) (ls : List (ℕ × List ℕ)) (said : Line) → line_at network names l ≡ Ok said → behind_line network l.0 r said ≡ Ok q → behind_all network names r (l ∷ ls) ≡ behind_all network names q ls
  one-line r q l ls said is goes =
      ap (λ t. and_then (and_then t (λ line. behind_line network l.0 r line)) (λ q. behind_all network names q ls)) is
      ∙ ap (λ t. and_then t (λ q. behind_all network names q ls)) goes

  line-act : (r : Reading) (line : ℕ) (action : Action) → length (r.steps ++ made_by network action) ≤ most_steps → behind_line network line r (Act action) ≡ Ok (record { steps = r.steps ++ made_by network action; opens = r.opens })
  unfolding behind_line
  line-act r line action few = ap (λ t. and_then t (λ steps. Ok (record { steps = steps; opens = r.opens }))) (few-is line (r.steps ++ made_by network action) few)

  -- the repeat that a line opens
  abbrev opened : ℕ → Reading → ℕ → OpenRepeat
  opened line r k = record { line = line; start = length r.steps; again = k - 1 }

  line-repeat : (r : Reading) (line k : ℕ) → length r.opens < most_deep → behind_line network line r (Repeat k) ≡ Ok (record { steps = r.steps; opens = r.opens ++ opened line r k ∷ [] })
  unfolding behind_line
  line-repeat r line k room = (let t : nat_lt (length r.opens) most_deep ≡ true = grind (arith, nat_tests) in rw t refl)

  line-end : (q : Reading) (line : ℕ) (front body : List Step) (others : List OpenRepeat) (last : OpenRepeat) (k : ℕ) → q.steps ≡ front ++ body → q.opens ≡ others ++ last ∷ [] → last.start ≡ length front → last.again ≡ k - 1 → 1 ≤ k
      → length (front ++ repeat k body) ≤ most_steps → behind_line network line q End ≡ Ok (record { steps = front ++ repeat k body; opens = others })
  unfolding behind_line
  line-end q line front body others last k steps opens start more least few =
      let rep : repeated q.steps last ≡ front ++ repeat k body = repeated-is q.steps front body last k steps start more least in
      let found : last_open q.opens ≡ Some last = ap last_open opens ∙ last-push others last in
      let left : but_last q.opens ≡ others = ap but_last opens ∙ but-last-push others last in
      ap (λ x. ended line q x) found
      ∙ ap (λ ss. and_then (few_steps line ss) (λ steps. Ok (record { steps = steps; opens = but_last q.opens }))) rep
      ∙ ap (λ t. and_then t (λ steps. Ok (record { steps = steps; opens = but_last q.opens }))) (few-is line (front ++ repeat k body) few)
      ∙ ap (λ os. Ok (record { steps = front ++ repeat k body; opens = os })) left

  goes-act : (action : Action) (ps : Parts) → Goes ps → Goes (act action ps)
  goes-act action ps goes [] more r tells few deep = absurd (cc)
  goes-act action ps goes (l ∷ ls) more r tells few deep =
      let is : line_at network names l ≡ Ok (Act action) = cc in
      let others : Tells ls ps more = cc in
      let made = made_by network action in
      let same : (r.steps ++ made) ++ steps_of network ps ≡ r.steps ++ (made ++ steps_of network ps) = append_assoc r.steps made (steps_of network ps) in
      let q : Reading = record { steps = r.steps ++ made; opens = r.opens } in
      let all : length ((r.steps ++ made) ++ steps_of network ps) ≤ most_steps = subst (λ (ss : List Step). length ss ≤ most_steps) (sym same) few in
      let low : length (r.steps ++ made) ≤ most_steps = (let e = length-append (r.steps ++ made) (steps_of network ps) in omega arith) in
      let x = goes ls more q others all deep in
      (x.0, x.1, one-line r q l ls (Act action) is (line-act r l.0 action low) ∙ x.2 ∙ ap (λ ss. behind_all network names (record { steps = ss; opens = r.opens }) x.0) same)

  -- the same behind what is repeated, from its end on
  goes-end : (k : ℕ) (body ps : Parts) → Goes ps → (told : List (ℕ × List ℕ)) (more : List (Result Line StepTextFault)) (r q : Reading) (last : OpenRepeat)
      → map (line_at network names) told ≡ Ok End ∷ (map Ok (lines_of ps) ++ more) → q.steps ≡ r.steps ++ steps_of network body → q.opens ≡ r.opens ++ last ∷ [] → last.start ≡ length r.steps → last.again ≡ k - 1 → 1 ≤ k
      → length (r.steps ++ (repeat k (steps_of network body) ++ steps_of network ps)) ≤ most_steps → length r.opens + depth_of ps ≤ most_deep
      → (rest : List (ℕ × List ℕ)) × (map (line_at network names) rest ≡ more) × (behind_all network names q told ≡ behind_all network names (behind r (again k body ps)) rest)
  goes-end k body ps goes [] more r q last tells steps opens start count least few deep = absurd (cc)
  goes-end k body ps goes (l ∷ ls) more r q last tells steps opens start count least few deep =
      let is : line_at network names l ≡ Ok End = cc in
      let others : Tells ls ps more = cc in
      let made = repeat k (steps_of network body) in
      let same : (r.steps ++ made) ++ steps_of network ps ≡ r.steps ++ (made ++ steps_of network ps) = append_assoc r.steps made (steps_of network ps) in
      let p : Reading = record { steps = r.steps ++ made; opens = r.opens } in
      let all : length ((r.steps ++ made) ++ steps_of network ps) ≤ most_steps = subst (λ (ss : List Step). length ss ≤ most_steps) (sym same) few in
      let low : length (r.steps ++ made) ≤ most_steps = (let e = length-append (r.steps ++ made) (steps_of network ps) in omega arith) in
      let x = goes ls more p others all deep in
      let ends = line-end q l.0 r.steps (steps_of network body) r.opens last k steps opens start count least low in
      (x.0, x.1, one-line q p l ls End is ends ∙ x.2 ∙ ap (λ ss. behind_all network names (record { steps = ss; opens = r.opens }) x.0) same)

  goes-again : (k : ℕ) (body ps : Parts) → Goes body → Goes ps → Goes (again k body ps)
  goes-again k body ps inner outer [] more r tells few deep = absurd (cc)
  goes-again k body ps inner outer (l ∷ ls) more r tells few deep =
      let is : line_at network names l ≡ Ok (Repeat k) = cc in
      let rest : map (line_at network names) ls ≡ map Ok (lines_of body ++ (End ∷ lines_of ps)) ++ more = cc in
      let others : Tells ls body (Ok End ∷ (map Ok (lines_of ps) ++ more)) =
      rest ∙ ap (λ rs. rs ++ more) (map-append Ok (lines_of body) (End ∷ lines_of ps)) ∙ append_assoc (map Ok (lines_of body)) (Ok End ∷ map Ok (lines_of ps)) more in
      let least = (line-said network names l (Repeat k) is).spelled.1 in
      let new = opened l.0 r k in
      let q : Reading = record { steps = r.steps; opens = r.opens ++ new ∷ [] } in
      let b = steps_of network body in
      let made = repeat k b in
      let low : length (r.steps ++ b) ≤ most_steps =
      (let e = length-append r.steps b in
      let f = length-append r.steps (made ++ steps_of network ps) in
      let g = length-append made (steps_of network ps) in
      let h = length-again k b least in
      omega arith) in
      let deeper : length r.opens + max (depth_of body + 1) (depth_of ps) ≤ most_deep = deep in
      let room : length r.opens < most_deep = omega arith in
      let shallow : length (r.opens ++ new ∷ []) + depth_of body ≤ most_deep = omega (arith, length-append r.opens (new ∷ [])) in
      let after : length r.opens + depth_of ps ≤ most_deep = omega arith in
      let x = inner ls (Ok End ∷ (map Ok (lines_of ps) ++ more)) q others low shallow in
      let y = goes-end k body ps outer x.0 more r (behind q body) new x.1 refl refl refl refl least few after in
      (y.0, y.1, one-line r q l ls (Repeat k) is (line-repeat r l.0 k room) ∙ x.2 ∙ y.2)

  goes-all : (ps : Parts) → Goes ps
  goes-all none told more r tells few deep = (told, tells, ap (λ ss. behind_all network names (record { steps = ss; opens = r.opens }) told) (sym (append-nil r.steps)))
  goes-all (act action ps) told more r tells few deep = goes-act action ps (goes-all ps) told more r tells few deep
  goes-all (again k body ps) told more r tells few deep = goes-again k body ps (goes-all body) (goes-all ps) told more r tells few deep

  all-behind : (rest : List (ℕ × List ℕ)) (r : Reading) → map (line_at network names) rest ≡ [] → behind_all network names r rest ≡ Ok r
  all-behind [] r h = refl
  all-behind (l ∷ ls) r h = cc

  -- a text that says steps is read as those
  pub text-read : IsSimple network → (text : List ℕ) (steps : List Step) → Says network names text steps → read_text network names text ≡ Ok steps
  text-read whole text steps said =
      let told = told_from 1 text in
      let tells : Tells told said.parts [] = all-read network names whole told (lines_of said.parts) said.lines ∙ sym (append-nil (map Ok (lines_of said.parts))) in
      let few : length (steps_of network said.parts) ≤ most_steps = subst (λ (ss : List Step). length ss ≤ most_steps) said.made said.few in
      let deeper : depth_of said.parts ≤ most_deep = said.deep in
      let x = goes-all said.parts told [] unread tells few (omega arith) in
      ap (λ t. and_then t (λ r. closed r.steps (last_open r.opens))) (x.2 ∙ all-behind x.0 (behind unread said.parts) x.1)
      ∙ ap Ok (sym said.made)
