-- Which faults a list of rounds has, and what is watched of one that has none.
use Rattle.std.proofs.Common.{◌≡◌, ◌≢◌, ◌∙◌, ℕ, ◌+◌, ◌-◌, ◌*◌, ◌<◌, ◌++◌, Bool, true, false, List, [], ◌∷◌, Option, Some, None, nat_lt, if◌then◌else◌, ap, drop, length, refl, subst, sym, take, zero-add}
use Rattle.std.specs.Option.{option_or}
use Rattle.rounds_plan.specs.declared.fault.RoundFault.TheVariants.{TooManyRounds, RoundsBelowStart}
use Rattle.rounds_plan.specs.Configs.{most_rounds}
use Rattle.rounds_plan.specs.Plans.{PlanView}
use Rattle.rule_check.specs.Value.{Rules}
use Rattle.link_net.specs.Neighbours.{Neighbours}
use Rattle.app_calls.specs.declared.fault.Fault.{Fault}
use Rattle.app_calls.specs.declared.fault.Fault.TheVariants.{Texts, Round, Replay, Settle, NotRising, NoJob, Room, Memory}
use Rattle.app_calls.specs.Words.{entry_fault, list_fault, words_at}
use Rattle.link_net.specs.Layout.{rows_of}
use Rattle.large_net.proofs.Parts.{rows_count}
use Rattle.app_calls.specs.declared.large.fault.LargeCallFault.TheVariants.{Call, WordCount}
use Rattle.app_calls.specs.LargeAnswers.{words_plan}
use Rattle.app_calls.specs.WatchAnswers.{AreUnwatched, AreWatched, plan_from}
use Rattle.app_calls.proofs.Watches.{same_faults}

abbrev pub IsOfList : Fault → Type 0
IsOfList (Round f) = Unit {0}
IsOfList NotRising = Unit {0}
IsOfList f = ⊥

chosen : (a b c : Bool) (f : Fault) → (if a then Some (Round TooManyRounds) else if b then Some (Round RoundsBelowStart) else if c then Some NotRising else None) ≡ Some f → IsOfList f
chosen true b c f h = let e : Round TooManyRounds ≡ f = cc in subst IsOfList e tt
chosen false true c f h = let e : Round RoundsBelowStart ≡ f = cc in subst IsOfList e tt
chosen false false true f h = let e : NotRising ≡ f = cc in subst IsOfList e tt
chosen false false false f h = cc

either : (a b : Option Fault) (f : Fault) → ((g : Fault) → a ≡ Some g → IsOfList g) → ((g : Fault) → b ≡ Some g → IsOfList g) → option_or a b ≡ Some f → IsOfList f
either (Some g) b f first second h = first f h
either None b f first second h = second f h

pub of_list : (p : PlanView) (least : ℕ) (rounds : List ℕ) (f : Fault) → list_fault p least rounds ≡ Some f → IsOfList f
of_list p least [] f h = cc
of_list p least (t ∷ rounds) f h =
    either (entry_fault p least t) (list_fault p (t + 1) rounds) f
    (λ g e. chosen (nat_lt most_rounds t) (nat_lt t p.start) (nat_lt t least) g e)
    (λ g e. of_list p (t + 1) rounds g e) h

-- the rounds are not watched for the fault of their list
pub not_listed : (program : Rules) (rows : Neighbours) (start : ℕ) (from rounds : List ℕ) (room nodes fields : ℕ) (f : Fault)
    → list_fault (words_plan program rows from start) start rounds ≡ Some f → AreUnwatched program rows start from rounds room nodes fields (Call f)
not_listed program rows start from rounds room nodes fields (Texts g) h = absurd (of_list (words_plan program rows from start) start rounds (Texts g) h)
not_listed program rows start from rounds room nodes fields (Round g) h = h
not_listed program rows start from rounds room nodes fields (Replay g) h = absurd (of_list (words_plan program rows from start) start rounds (Replay g) h)
not_listed program rows start from rounds room nodes fields (Settle g) h = absurd (of_list (words_plan program rows from start) start rounds (Settle g) h)
not_listed program rows start from rounds room nodes fields NotRising h = h
not_listed program rows start from rounds room nodes fields NoJob h = absurd (of_list (words_plan program rows from start) start rounds NoJob h)
not_listed program rows start from rounds room nodes fields Room h = absurd (of_list (words_plan program rows from start) start rounds Room h)
not_listed program rows start from rounds room nodes fields Memory h = tt

module _ (program : Rules) (offsets ns ws : List ℕ) (start : ℕ) (from rounds : List ℕ) (room fields : ℕ) where
  -- the fault of a list is the same for the plan that opens with the words
  pub list_refused : (f : Fault) → list_fault (plan_from start) start rounds ≡ Some f → AreUnwatched program (rows_of offsets ns ws) start from rounds room (length offsets - 1) fields (Call f)
  list_refused f h =
      not_listed program (rows_of offsets ns ws) start from rounds room (length offsets - 1) fields f
      (sym (same_faults (plan_from start) (words_plan program (rows_of offsets ns ws) from start) refl start rounds) ∙ h)

  module _ (there : list_fault (plan_from start) start rounds ≡ None) (each : fields ≡ length program.fields) where
    listed : list_fault (words_plan program (rows_of offsets ns ws) from start) start rounds ≡ None
    listed = sym (same_faults (plan_from start) (words_plan program (rows_of offsets ns ws) from start) refl start rounds) ∙ there

    -- there is not one word for each field of each node
    pub words_refused : length from ≢ (length offsets - 1) * length program.fields → AreUnwatched program (rows_of offsets ns ws) start from rounds room (length offsets - 1) fields WordCount
    words_refused wrong = (listed, wrong, each)

    module _ (count : length from ≡ (length offsets - 1) * length program.fields) where
      row_count : length from ≡ length (rows_of offsets ns ws) * length program.fields
      row_count = count ∙ ap (λ (n : ℕ). n * length program.fields) (sym (rows_count offsets ns ws))

      -- there is, and the room is too small
      pub room_refused : room < length rounds * length from → AreUnwatched program (rows_of offsets ns ws) start from rounds room (length offsets - 1) fields (Call Room)
      room_refused small =
          (count, (listed, subst (λ (n : ℕ). room < length rounds * n) row_count small, record { node_count = sym (rows_count offsets ns ws); field_count = each }))

      -- the words of all rounds are put in front
      pub put_watched : (old new found : List ℕ) → found ≡ words_at (words_plan program (rows_of offsets ns ws) from start) rounds → new ≡ take 0 old ++ found ++ drop (0 + length found) old
          → AreWatched program (rows_of offsets ns ws) start from rounds old new (length offsets - 1) fields
      put_watched old new found are put =
          let front : new ≡ found ++ drop (length found) old = put ∙ ap (λ (k : ℕ). found ++ drop k old) (zero-add (length found)) in
          record {
            count = row_count;
            watched = record {
              there = listed;
              words = front ∙ ap (λ (w : List ℕ). w ++ drop (length w) old) are;
              shape = record { node_count = sym (rows_count offsets ns ws); field_count = each };
            };
          }
