-- The opening states of all nodes.
use Rattle.std.proofs.Common.{◌≡◌, ℕ, ◌≤◌, true, false, List, [], ◌∷◌, ◌++◌, length, refl, sym, ap, ◌∙◌, arith, ◌<◌, get_or, replicate, zero-add, zero, suc, All}
use Rattle.std.proofs.lemmas.List.{ext_get_or, get_or-replicate, length-replicate}
use Rattle.std.proofs.lemmas.List.FromFn.{get_or-map-range_with_len, length-map-range_with_len}
use Rattle.std.specs.Option.{unwrap_or}
use Rattle.rule_check.specs.declared.state.State.{State}
use Rattle.rule_check.specs.Value.{Rules, names_of, opening_of, place, updated}
use Rattle.rule_check.specs.WellFormed.{is_among, has_twice}
use Rattle.link_net.specs.declared.field_set.FieldSet.{FieldSet}
use Rattle.link_net.specs.Neighbours.{IsNetwork}
use Rattle.link_net.specs.Reading.{Description}
use Rattle.rounds_plan.specs.Opening.{with_value}
use Rattle.rounds_plan.specs.Plans.{value_in, value_set, replaced, openings_of, IsPlan}
use Rattle.rounds_plan.specs.Configs.{blank, IsPlain}
use Rattle.rounds_plan.proofs.Names.{name_count}
use Rattle.rounds_plan.proofs.Replaced.{replaced-more, replaced_none}

-- with no values yet, each node has the program's opening state
pub openings-none : (program : Rules) (n : ℕ) → length (names_of program) ≤ length (opening_of program).words → replicate n (opening_of program) ≡ openings_of program n []
openings-none program n long =
    ext_get_or blank _ _ (length-replicate n (opening_of program) ∙ sym (length-map-range_with_len (λ u. replaced (names_of program) [] u (opening_of program)) 0 n))
    (λ u h. let inside : u < n = omega (arith, h, length-replicate n (opening_of program)) in
    get_or-replicate n u (opening_of program) blank inside
    ∙ sym (replaced_none (names_of program) u (opening_of program) long)
    ∙ sym (get_or-map-range_with_len (λ v. replaced (names_of program) [] v (opening_of program)) 0 n u u blank inside (zero-add u)))

-- the values of one field more in all states
pub openings-more : (program : Rules) (n : ℕ) (sets : List FieldSet) (one : FieldSet) (field : ℕ) (before after : List State) → has_twice (names_of program) ≡ false → is_among (names_of program) one.name ≡ true → field ≡ place (names_of program) one.name → length (names_of program) ≤ length (opening_of program).words → before ≡ openings_of program n sets → length after ≡ n → ((u : ℕ) → u < n → get_or after u blank ≡ with_value field (value_in one.pairs u) (get_or before u blank)) → after ≡ openings_of program n (sets ++ one ∷ [])
openings-more program n sets one field before after differ among at long old count each =
    let names = names_of program in
    let opening = opening_of program in
    let more : ℕ → State = λ u. replaced names (sets ++ one ∷ []) u opening in
    ext_get_or blank after (openings_of program n (sets ++ one ∷ [])) (count ∙ sym (length-map-range_with_len more 0 n))
    (λ u h. let inside : u < n = omega (arith, h, count) in
    each u inside
    ∙ ap (λ ss. with_value field (value_in one.pairs u) (get_or ss u blank)) old
    ∙ ap (with_value field (value_in one.pairs u)) (get_or-map-range_with_len (λ v. replaced names sets v opening) 0 n u u blank inside (zero-add u))
    ∙ ap (λ k. with_value k (value_in one.pairs u) (replaced names sets u opening)) at
    ∙ sym (replaced-more names sets one u opening differ among long)
    ∙ sym (get_or-map-range_with_len more 0 n u u blank inside (zero-add u)))

updated_past : (f : List ℕ → ℕ → ℕ) (xs : List (List ℕ)) (ws : List ℕ) (k : ℕ) → length xs ≤ k → get_or (updated f xs ws) k 0 ≡ get_or ws k 0
updated_past f [] ws k past = refl
updated_past f (x ∷ xs) [] k past = refl
updated_past f (x ∷ xs) (w ∷ ws) zero past = absurd (omega arith)
updated_past f (x ∷ xs) (w ∷ ws) (suc k) past = updated_past f xs ws k (omega arith)

-- no value of `set` stands after the fields
pub openings-plain : (program : Rules) (n : ℕ) (sets : List FieldSet) → IsPlain (length program.fields) (opening_of program) → All (IsPlain (length program.fields)) (openings_of program n sets)
openings-plain program n sets plain u d inside k past =
    let names = names_of program in
    let state : ℕ → State = λ v. replaced names sets v (opening_of program) in
    let near : u < n = omega (arith, inside, length-map-range_with_len state 0 n) in
    ap (λ (s : State). get_or s.words k 0) (get_or-map-range_with_len state 0 n u u d near (zero-add u))
    ∙ updated_past (λ name w. unwrap_or (value_set sets name u) w) names (opening_of program).words k (omega (arith, past, name_count program))
    ∙ plain k past

-- what a plan of these parts is
pub plan_is : (program : Rules) (d : Description) (states : List State) → IsNetwork d.network → d.phase ≤ 2 → length program.fields ≤ 8 → states ≡ openings_of program (length d.network) d.sets → All (IsPlain (length program.fields)) states → IsPlan (record { program = program; network = d.network; phase = d.phase; opening = states; start = 0 })
plan_is program d states network phase fields made plain = record {
  network = network;
  phase = phase;
  fields = fields;
  opening = ap length made ∙ length-map-range_with_len (λ u. replaced (names_of program) d.sets u (opening_of program)) 0 (length d.network);
  plain = plain;
  start = omega arith;
}
