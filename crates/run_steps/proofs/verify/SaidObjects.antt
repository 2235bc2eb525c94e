-- Objects that are read say what they are read as.
use Rattle.std.proofs.Common.{◌≡◌, ◌⊎◌, ℕ, ◌≤◌, ◌<◌, Bool, true, false, codes, if◌then◌else◌, List, length, Option, Some, None, Result, Ok, Err, inl, inr, refl, sym, ap, ◌∙◌, subst}
use Rattle.std.specs.Option.{option_and_then}
use Rattle.std.proofs.lemmas.Bool.{cases_Bool}
use Rattle.link_net.specs.Neighbours.{Neighbours}
use Rattle.link_net.specs.Simple.{IsSimple}
use Rattle.rule_check.specs.Value.{names_of}
use Rattle.rounds_plan.specs.Plans.{PlanView}
use Rattle.serde_json.specs.Data.{Data, null, boolean, number, string, array, object, unsigned, negative, float}
use Rattle.serde_json.specs.Find.{get}
use Rattle.unison_world.specs.declared.step.Step.{Step}
use Rattle.unison_world.specs.declared.step.Step.TheVariants.{Read, Write}
use Rattle.run_steps.proofs.script.Callings.{called, calls, node-within, within-node}
use Rattle.run_steps.proofs.script.Choosing.{choice}
use Rattle.run_steps.specs.declared.verify.entry.Given.{Given}
use Rattle.run_steps.specs.declared.verify.entry.Entry.{Entry}
use Rattle.run_steps.specs.declared.verify.fault.VerifyFault.{VerifyFault}
use Rattle.run_steps.specs.declared.verify.fault.VerifyFault.TheVariants.{NoStep, BadState}
use Rattle.run_steps.specs.verify.Fields.{and_then}
use Rattle.run_steps.specs.verify.Nodes.{node_found, slot_found}
use Rattle.run_steps.specs.verify.Objects.{numbered, node_by, is_true, lets_move, node_in, step_in, entry_in, values_by}
use Rattle.run_steps.specs.verify.SaidByObjects.{ValueCalls, LetsMove, HasNode, SaysStep, StateGives, SaysObject}
use Rattle.run_steps.specs.verify.Unsaid.{IsOfMove, IsOfRead, SaysNothing}
use Rattle.run_steps.proofs.verify.Choosing.{then-ok, then-err}
use Rattle.run_steps.proofs.verify.Colons.{or-split, or-first, or-second}
use Rattle.run_steps.proofs.verify.FieldValues.{then-some}
use Rattle.run_steps.proofs.verify.Keys.{AreDistinct}
use Rattle.run_steps.proofs.verify.Neighbouring.{node-ok, node-err, slot-ok, slot-err, slot-there}
use Rattle.run_steps.proofs.verify.States.{state-gives, gives-state, state-fault}

-- ---- moves

true-said : (o : Option Data) → is_true o ≡ true → o ≡ Some (boolean true)
true-said None h = absurd (cc)
true-said (Some null) h = absurd (cc)
true-said (Some (boolean b)) h = ap (λ (x : Bool). Some (boolean x)) h
true-said (Some (number n)) h = absurd (cc)
true-said (Some (string s)) h = absurd (cc)
true-said (Some (array ds)) h = absurd (cc)
true-said (Some (object ms)) h = absurd (cc)

module _ (d : Data) where
  lets : lets_move d ≡ true → LetsMove d
  lets h =
      elim (or-split (is_true (get (codes "moves") d)) (is_true (get (codes "turn") d)) h) [
        | inl moves ↦ inl (true-said (get (codes "moves") d) moves)
        | inr turn ↦ inr (true-said (get (codes "turn") d) turn)
      ]

  lets-so : LetsMove d → lets_move d ≡ true
  lets-so (inl moves) = or-first (is_true (get (codes "moves") d)) (is_true (get (codes "turn") d)) (ap is_true moves)
  lets-so (inr turn) = or-second (is_true (get (codes "moves") d)) (is_true (get (codes "turn") d)) (ap is_true turn)

  lets-not : lets_move d ≡ false → LetsMove d → ⊥
  lets-not never h = (let yes = lets-so h in let bad : true ≡ false = sym yes ∙ never in cc)

  not-lets : (LetsMove d → ⊥) → lets_move d ≡ false
  not-lets never =
      elim (cases_Bool (lets_move d)) [
        | inl is ↦ absurd (never (lets is))
        | inr not ↦ not
      ]

-- ---- nodes

module _ (network : Neighbours) where
  numbered-none : (names : Option (List (List ℕ))) → numbered network names None ≡ None
  numbered-none None = refl
  numbered-none (Some names) = refl

  numbered-some : (names : Option (List (List ℕ))) (n u : ℕ) → numbered network names (Some n) ≡ Some u → (u < length network) × (number (unsigned n) ≡ number (unsigned u)) × (names ≡ None)
  numbered-some None n u h = (let w = node-within network n u h in (subst (λ k. k < length network) w.0 w.1, ap (λ (k : ℕ). number (unsigned k)) w.0, refl))
  numbered-some (Some names) n u h = absurd (cc)

  unnumbered : (names : Option (List (List ℕ))) (u : ℕ) → numbered network names None ≡ Some u → ⊥
  unnumbered names u h = (let none = numbered-none names in let bad : ◌≡◌ {A = Option ℕ} None (Some u) = sym none ∙ h in cc)

  value-called : (names : Option (List (List ℕ))) (d : Data) (u : ℕ) → node_by network names d ≡ Some u → ValueCalls network names d u
  value-called names (string s) u h = called network names s u h
  value-called names (number (unsigned n)) u h = (let w = numbered-some names n u h in (w.0, (let e = w.1 in cc), w.2))
  value-called names (number (negative z)) u h = absurd (unnumbered names u h)
  value-called names (number (float x)) u h = absurd (unnumbered names u h)
  value-called names null u h = absurd (unnumbered names u h)
  value-called names (boolean b) u h = absurd (unnumbered names u h)
  value-called names (array ds) u h = absurd (unnumbered names u h)
  value-called names (object ms) u h = absurd (unnumbered names u h)

  value-calls : IsSimple network → (names : Option (List (List ℕ))) (d : Data) (u : ℕ) → ValueCalls network names d u → node_by network names d ≡ Some u
  value-calls whole names (string s) u h = calls network whole.nodes names s u h
  value-calls whole names (number n) u h =
      ap (λ ns. node_by network ns (number n)) h.2 ∙ ap (λ m. node_by network None (number m)) h.1 ∙ within-node network u h.0
  value-calls whole names null u h = absurd h
  value-calls whole names (boolean b) u h = absurd h
  value-calls whole names (array ds) u h = absurd h
  value-calls whole names (object ms) u h = absurd h

module _ (plan : PlanView) (names : Option (List (List ℕ))) (line : ℕ) where
  abbrev calls_node : Data → Option ℕ
  calls_node value = node_by plan.network names value

  node-had : (d : Data) (u : ℕ) → node_in plan names line d ≡ Ok u → HasNode plan.network names d u
  node-had d u h =
      let x = then-some calls_node (get (codes "node") d) u (node-ok line (option_and_then calls_node (get (codes "node") d)) u h) in
      (x.0, x.1, value-called plan.network names x.0 u x.2)

  step-said : (d : Data) (read : Option Data) (step : Step) → get (codes "reads") d ≡ read → step_in plan names line d read ≡ Ok step → SaysStep plan.network names d step
  step-said d None step is h =
      elim (choice (lets_move d) _ _ _ h) [
        | inl a ↦ (
            let x = then-ok (node_in plan names line d) (λ u. Ok (Write u)) step a.1 in
            let e = x.2 in
            let same : Write x.0 ≡ step = cc in
            subst (λ s. SaysStep plan.network names d s) same (is, lets d a.0, node-had d x.0 x.1))
        | inr b ↦ (let e = b.1 in absurd (cc))
      ]
  step-said d (Some whom) step is h =
      elim (choice (lets_move d) _ _ _ h) [
        | inl a ↦ (let e = a.1 in absurd (cc))
        | inr b ↦ (
            let x = then-ok (node_in plan names line d) (λ u. and_then (slot_found plan.network line u (calls_node whom)) (λ j. Ok (Read u j))) step b.1 in
            let y = then-ok (slot_found plan.network line x.0 (calls_node whom)) (λ j. Ok (Read x.0 j)) step x.2 in
            let s = slot-ok plan.network line x.0 (calls_node whom) y.0 y.1 in
            let e = y.2 in
            let same : Read x.0 y.0 ≡ step = cc in
            subst (λ s. SaysStep plan.network names d s) same (whom, s.0, is, lets-not d b.0, node-had d x.0 x.1, s.2, value-called plan.network names whom s.0 s.1))
      ]

  module _ (whole : IsSimple plan.network) where
    has-node : (d : Data) (u : ℕ) → HasNode plan.network names d u → node_in plan names line d ≡ Ok u
    has-node d u h = ap (λ o. node_found line (option_and_then calls_node o)) h.1 ∙ ap (node_found line) (value-calls plan.network whole names h.0 u h.2)

    step-read : (d : Data) (step : Step) → SaysStep plan.network names d step → step_in plan names line d (get (codes "reads") d) ≡ Ok step
    step-read d (Write u) h =
        ap (step_in plan names line d) h.0
        ∙ ap (λ t. if t then and_then (node_in plan names line d) (λ u. Ok (Write u)) else Err (NoStep line)) (lets-so d h.1)
        ∙ ap (λ r. and_then r (λ u. Ok (Write u))) (has-node d u h.2)
    step-read d (Read u j) h =
        ap (step_in plan names line d) h.2
        ∙ ap (λ t. if t then Err (NoStep line) else and_then (node_in plan names line d) (λ u. and_then (slot_found plan.network line u (calls_node h.0)) (λ j. Ok (Read u j)))) (not-lets d h.3)
        ∙ ap (λ r. and_then r (λ u. and_then (slot_found plan.network line u (calls_node h.0)) (λ j. Ok (Read u j)))) (has-node d u h.4)
        ∙ ap (λ o. and_then (slot_found plan.network line u o) (λ j. Ok (Read u j))) (value-calls plan.network whole names h.0 h.1 h.6)
        ∙ ap (λ s. and_then s (λ j. Ok (Read u j))) (slot-there plan.network line u whole h.1 j h.5)

    node-lacking : (d : Data) (fault : VerifyFault) → (IsOfMove d ⊎ ((whom : Data) × IsOfRead d whom)) → node_in plan names line d ≡ Err fault → SaysNothing plan names line d fault
    node-lacking d fault of h =
        let n = node-err line (option_and_then calls_node (get (codes "node") d)) fault h in
        subst (λ f. SaysNothing plan names line d f) n.1 (refl, of, λ u has. (let good = has-node d u has in let bad : ◌≡◌ {A = Result ℕ VerifyFault} (Err fault) (Ok u) = sym h ∙ good in cc))

    step-refused : (d : Data) (read : Option Data) (fault : VerifyFault) → get (codes "reads") d ≡ read → step_in plan names line d read ≡ Err fault → SaysNothing plan names line d fault
    step-refused d None fault is h =
        elim (choice (lets_move d) _ _ _ h) [
          | inl a ↦ elim (then-err (node_in plan names line d) (λ u. Ok (Write u)) fault a.1) [
            | inl stops ↦ node-lacking d fault (inl (is, lets d a.0)) stops
            | inr x ↦ (let e = x.2 in absurd (cc))
          ]
          | inr b ↦ (
              let e = b.1 in
              let same : NoStep line ≡ fault = cc in
              subst (λ f. SaysNothing plan names line d f) same
              (refl, λ of. lets-not d b.0 of.1, λ whom of. (let some = of.0 in let bad : ◌≡◌ {A = Option Data} None (Some whom) = sym is ∙ some in cc)))
        ]
    step-refused d (Some whom) fault is h =
        elim (choice (lets_move d) _ _ _ h) [
          | inl a ↦ (
              let e = a.1 in
              let same : NoStep line ≡ fault = cc in
              subst (λ f. SaysNothing plan names line d f) same
              (refl, λ of. (let none = of.0 in let bad : ◌≡◌ {A = Option Data} None (Some whom) = sym none ∙ is in cc), λ other of. of.1 (lets d a.0)))
          | inr b ↦ elim (then-err (node_in plan names line d) (λ u. and_then (slot_found plan.network line u (calls_node whom)) (λ j. Ok (Read u j))) fault b.1) [
            | inl stops ↦ node-lacking d fault (inr (whom, (is, lets-not d b.0))) stops
            | inr x ↦ elim (then-err (slot_found plan.network line x.0 (calls_node whom)) (λ j. Ok (Read x.0 j)) fault x.2) [
              | inl stops ↦ (
                  let s = slot-err plan.network line x.0 (calls_node whom) fault stops in
                  subst (λ f. SaysNothing plan names line d f) s.0
                  (refl, (whom, x.0, (is, lets-not d b.0), node-had d x.0 x.1, λ j v stands has. s.1 j v stands (value-calls plan.network whole names whom v has))))
              | inr y ↦ (let e = y.2 in absurd (cc))
            ]
          ]
        ]

  -- ---- objects

  module _ (few : length (names_of plan.program) ≤ 8) (distinct : AreDistinct (names_of plan.program)) where
    abbrev fields : List (List ℕ)
    fields = names_of plan.program

    pub object-said : (d : Data) (e : Entry) → entry_in plan names line d ≡ Ok e → SaysObject plan names d e
    object-said d e h =
        let x = then-ok (step_in plan names line d (get (codes "reads") d)) (λ step. and_then (values_by fields line (get (codes "state") d)) (λ given. Ok (record { step = step; given = given }))) e h in
        let y = then-ok (values_by fields line (get (codes "state") d)) (λ given. Ok (record { step = x.0; given = given })) e x.2 in
        let made = y.2 in
        let entry : Entry = record { step = x.0; given = y.0 } in
        let same : entry ≡ e = cc in
        subst (λ e. SaysObject plan names d e) same
        (record { step = step-said d (get (codes "reads") d) x.0 refl x.1; given = state-gives fields few line distinct (get (codes "state") d) y.0 y.1 })

    pub said-object : IsSimple plan.network → (d : Data) (e : Entry) → SaysObject plan names d e → entry_in plan names line d ≡ Ok e
    said-object whole d e h =
        ap (λ r. and_then r (λ step. and_then (values_by fields line (get (codes "state") d)) (λ given. Ok (record { step = step; given = given })))) (step-read whole d e.step h.step)
        ∙ ap (λ r. and_then r (λ given. Ok (record { step = e.step; given = given }))) (gives-state fields few line distinct (get (codes "state") d) e.given h.given)

    pub object-refused : IsSimple plan.network → (d : Data) (fault : VerifyFault) → entry_in plan names line d ≡ Err fault → SaysNothing plan names line d fault
    object-refused whole d fault h =
        let state = get (codes "state") d in
        elim (then-err (step_in plan names line d (get (codes "reads") d)) (λ step. and_then (values_by fields line state) (λ given. Ok (record { step = step; given = given }))) fault h) [
          | inl stops ↦ step-refused whole d (get (codes "reads") d) fault refl stops
          | inr x ↦ elim (then-err (values_by fields line state) (λ given. Ok (record { step = x.0; given = given })) fault x.2) [
            | inl stops ↦ (
                let bad = state-refused state fault stops in
                subst (λ f. SaysNothing plan names line d f) bad.0 (refl, (x.0, step-said d (get (codes "reads") d) x.0 refl x.1), bad.1))
            | inr y ↦ (let e = y.2 in absurd (cc))
          ]
        ] where
          state-refused : (state : Option Data) (fault : VerifyFault) → values_by fields line state ≡ Err fault → (BadState line ≡ fault) × ((given : Given) → StateGives fields state given → ⊥)
          state-refused state fault stops =
              (state-fault fields line state fault stops, λ given gives. (let good = gives-state fields few line distinct state given gives in let bad : ◌≡◌ {A = Result Given VerifyFault} (Err fault) (Ok given) = sym stops ∙ good in cc))
