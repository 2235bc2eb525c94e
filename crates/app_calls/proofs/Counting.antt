-- What is refused of counts, and what is written of them.
use Rattle.std.proofs.Common.{◌≡◌, ◌∙◌, ℕ, ◌+◌, ◌-◌, ◌*◌, ◌≤◌, ◌<◌, ◌++◌, Bool, true, false, not, ◌==◌, nat_le, nat_lt, List, Some, None, if◌then◌else◌, ap, arith, drop, length, refl, subst, sym, take, zero-add}
use Rattle.std.proofs.lemmas.Bool.Decides.{nat_tests}
use Rattle.rule_check.specs.Value.{Rules}
use Rattle.link_net.specs.Layout.{rows_of}
use Rattle.link_net.specs.Neighbours.{Neighbours}
use Rattle.large_net.proofs.Parts.{rows_count}
use Rattle.app_calls.specs.declared.fault.Fault.{Fault}
use Rattle.app_calls.specs.declared.fault.Fault.TheVariants.{Texts, Round, Replay, Settle, NotRising, NoJob, Room, Memory}
use Rattle.app_calls.specs.Words.{list_fault}
use Rattle.app_calls.specs.declared.large.fault.LargeCallFault.{LargeCallFault}
use Rattle.app_calls.specs.declared.large.fault.LargeCallFault.TheVariants.{Call, Lists, Part, WordCount, NoField, TooManyValues}
use Rattle.app_calls.specs.CountAnswers.{AreCounted, AreRefusedCounts, AreUncounted, counts_at, counts_fault, most_values}
use Rattle.app_calls.specs.LargeAnswers.{words_plan}
use Rattle.app_calls.specs.WatchAnswers.{plan_from}
use Rattle.app_calls.proofs.RoundFaults.{of_list}
use Rattle.app_calls.proofs.Watches.{same_faults}

abbrev pub IsOfCounts : LargeCallFault → Type 0
IsOfCounts (Call Room) = Unit {0}
IsOfCounts WordCount = Unit {0}
IsOfCounts NoField = Unit {0}
IsOfCounts TooManyValues = Unit {0}
IsOfCounts f = ⊥

chosen : (a b c d : Bool) (f : LargeCallFault) → (if a then Some WordCount else if b then Some NoField else if c then Some TooManyValues else if d then Some (Call Room) else None) ≡ Some f → IsOfCounts f
chosen true b c d f h = let e : WordCount ≡ f = cc in subst IsOfCounts e tt
chosen false true c d f h = let e : NoField ≡ f = cc in subst IsOfCounts e tt
chosen false false true d f h = let e : TooManyValues ≡ f = cc in subst IsOfCounts e tt
chosen false false false true f h = let e : Call Room ≡ f = cc in subst IsOfCounts e tt
chosen false false false false f h = cc

-- counts are refused for one of four faults
pub of_counts : (nodes fields words field values rounds room : ℕ) (f : LargeCallFault) → counts_fault nodes fields words field values rounds room ≡ Some f → IsOfCounts f
of_counts nodes fields words field values rounds room f h =
    chosen (not (words == nodes * fields)) (nat_le fields field) (nat_lt most_values values) (nat_lt room (rounds * (values + 1))) f h

-- what is asked for is well
pub record IsWell (nodes fields words field values rounds room : ℕ) : Type 0 where
  pub count : words ≡ nodes * fields
  pub known : field < fields
  pub few : values ≤ most_values
  pub fits : rounds * (values + 1) ≤ room

none_of : (a b c d : Bool) → (if a then Some WordCount else if b then Some NoField else if c then Some TooManyValues else if d then Some (Call Room) else None) ≡ None
    → (a ≡ false) × (b ≡ false) × (c ≡ false) × (d ≡ false)
none_of true b c d h = cc
none_of false true c d h = cc
none_of false false true d h = cc
none_of false false false true h = cc
none_of false false false false h = (refl, refl, refl, refl)

pub well : (nodes fields words field values rounds room : ℕ) → counts_fault nodes fields words field values rounds room ≡ None → IsWell nodes fields words field values rounds room
well nodes fields words field values rounds room h =
    let wanted = rounds * (values + 1) in
    let none = none_of (not (words == nodes * fields)) (nat_le fields field) (nat_lt most_values values) (nat_lt room wanted) h in
    let a = none.0 in
    let b = none.1 in
    let c = none.2 in
    let d = none.3 in
    record {
      count = grind (arith, nat_tests);
      known = grind (arith, nat_tests);
      few = grind (arith, nat_tests);
      fits = grind (arith, nat_tests);
    }

not_listed : (program : Rules) (rows : Neighbours) (start : ℕ) (from rounds : List ℕ) (field values room nodes fields : ℕ) (f : Fault) → list_fault (words_plan program rows from start) start rounds ≡ Some f
    → AreUncounted program rows start from rounds field values room nodes fields (Call f)
not_listed program rows start from rounds field values room nodes fields (Texts g) h = absurd (of_list (words_plan program rows from start) start rounds (Texts g) h)
not_listed program rows start from rounds field values room nodes fields (Round g) h = h
not_listed program rows start from rounds field values room nodes fields (Replay g) h = absurd (of_list (words_plan program rows from start) start rounds (Replay g) h)
not_listed program rows start from rounds field values room nodes fields (Settle g) h = absurd (of_list (words_plan program rows from start) start rounds (Settle g) h)
not_listed program rows start from rounds field values room nodes fields NotRising h = h
not_listed program rows start from rounds field values room nodes fields NoJob h = absurd (of_list (words_plan program rows from start) start rounds NoJob h)
not_listed program rows start from rounds field values room nodes fields Room h = absurd (of_list (words_plan program rows from start) start rounds Room h)
not_listed program rows start from rounds field values room nodes fields Memory h = tt

not_asked : (program : Rules) (rows : Neighbours) (start : ℕ) (from rounds : List ℕ) (field values room nodes fields : ℕ) (f : LargeCallFault) → IsOfCounts f
    → AreRefusedCounts (words_plan program rows from start) start rounds nodes (length from) field values room fields f
    → AreUncounted program rows start from rounds field values room nodes fields f
not_asked program rows start from rounds field values room nodes fields (Call (Texts g)) of h = absurd of
not_asked program rows start from rounds field values room nodes fields (Call (Round g)) of h = absurd of
not_asked program rows start from rounds field values room nodes fields (Call (Replay g)) of h = absurd of
not_asked program rows start from rounds field values room nodes fields (Call (Settle g)) of h = absurd of
not_asked program rows start from rounds field values room nodes fields (Call NotRising) of h = absurd of
not_asked program rows start from rounds field values room nodes fields (Call NoJob) of h = absurd of
not_asked program rows start from rounds field values room nodes fields (Call Room) of h = h
not_asked program rows start from rounds field values room nodes fields (Call Memory) of h = absurd of
not_asked program rows start from rounds field values room nodes fields (Lists g) of h = absurd of
not_asked program rows start from rounds field values room nodes fields WordCount of h = h
not_asked program rows start from rounds field values room nodes fields (Part g) of h = absurd of
not_asked program rows start from rounds field values room nodes fields NoField of h = h
not_asked program rows start from rounds field values room nodes fields TooManyValues of h = h

module _ (program : Rules) (offsets ns ws : List ℕ) (start : ℕ) (from rounds : List ℕ) (field : ℕ) (values : List ℕ) (room fields : ℕ) where
  same_list : list_fault (words_plan program (rows_of offsets ns ws) from start) start rounds ≡ list_fault (plan_from start) start rounds
  same_list = sym (same_faults (plan_from start) (words_plan program (rows_of offsets ns ws) from start) refl start rounds)

  -- the fault of a list is the same for the plan that opens with the words
  pub list_uncounted : (f : Fault) → list_fault (plan_from start) start rounds ≡ Some f → AreUncounted program (rows_of offsets ns ws) start from rounds field (length values) room (length offsets - 1) fields (Call f)
  list_uncounted f h = not_listed program (rows_of offsets ns ws) start from rounds field (length values) room (length offsets - 1) fields f (same_list ∙ h)

  module _ (there : list_fault (plan_from start) start rounds ≡ None) (each : fields ≡ length program.fields) where
    -- what else is asked for has a fault
    pub asked_uncounted : (f : LargeCallFault) → counts_fault (length offsets - 1) fields (length from) field (length values) (length rounds) room ≡ Some f
        → AreUncounted program (rows_of offsets ns ws) start from rounds field (length values) room (length offsets - 1) fields f
    asked_uncounted f h =
        not_asked program (rows_of offsets ns ws) start from rounds field (length values) room (length offsets - 1) fields f
        (of_counts (length offsets - 1) fields (length from) field (length values) (length rounds) room f h)
        (record {
          there = same_list ∙ there;
          fault = subst (λ (n : ℕ). counts_fault (length offsets - 1) n (length from) field (length values) (length rounds) room ≡ Some f) each h;
          field_count = each;
        })

    -- the counts of all rounds are put in front
    pub put_counted : IsWell (length offsets - 1) fields (length from) field (length values) (length rounds) room → (old new found : List ℕ)
        → found ≡ counts_at (words_plan program (rows_of offsets ns ws) from start) field values rounds → new ≡ take 0 old ++ found ++ drop (0 + length found) old
        → AreCounted program (rows_of offsets ns ws) start from rounds field values old new fields
    put_counted is old new found are put =
        let front : new ≡ found ++ drop (length found) old = put ∙ ap (λ (k : ℕ). found ++ drop k old) (zero-add (length found)) in
        record {
          there = same_list ∙ there;
          count = is.count ∙ ap (λ (n : ℕ). n * fields) (sym (rows_count offsets ns ws)) ∙ ap (λ (n : ℕ). length (rows_of offsets ns ws) * n) each;
          known = subst (λ (n : ℕ). field < n) each is.known;
          few = is.few;
          counts = front ∙ ap (λ (w : List ℕ). w ++ drop (length w) old) are;
          field_count = each;
        }
