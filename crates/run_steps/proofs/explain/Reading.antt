-- Slots that are counted one by one.
use Rattle.std.proofs.Common.{◌≡◌, ◌∙◌, ℕ, ◌+◌, ◌<◌, ◌≤◌, Bool, true, false, not, cond, [], length, drop, refl, sym, ap, ⊎_elim, arith}
use Rattle.std.proofs.lemmas.Bool.{cases_lt}
use Rattle.std.proofs.lemmas.Bool.Decides.{nat_tests}
use Rattle.std.proofs.lemmas.List.{get_or_past}
use Rattle.std.proofs.lemmas.List.Sums.{sum_by-drop_more, position_or_len_is}
use Rattle.link_net.specs.Neighbours.{Neighbours, degree}
use Rattle.link_net.proofs.Simples.{node_of_slot}
use Rattle.unison_world.specs.declared.step.Step.TheVariants.{Read}
use Rattle.unison_world.specs.declared.step.Answer.TheVariants.{Already}
use Rattle.unison_world.specs.Counting.{Counts, moves_of, marks_of, is_marked, answer_of, HasShape, InStep}
use Rattle.unison_world.specs.Progress.{marks_in}
use Rattle.unison_world.proofs.Sights.{cases_bool}
use Rattle.run_steps.specs.explain.Reads.{one_if_read}
use Rattle.run_steps.specs.explain.Sentences.{first_unread}

module _ (network : Neighbours) (stop : ℕ) (c : Counts) (u j : ℕ) (node : u < length network) (slot : j < degree network u) where
  read-marked : moves_of c u < stop → is_marked c u j ≡ true → answer_of network stop c (Read u j) ≡ Already
  read-marked below e = grind (arith, nat_tests)

  read-unmarked : is_marked c u j ≡ false → one_if_read (answer_of network stop c (Read u j)) ≡ 0
  read-unmarked e = grind (arith, nat_tests)

  read-one : InStep network stop c → one_if_read (answer_of network stop c (Read u j)) ≡ cond (is_marked c u j) 1 0
  read-one is =
      ⊎_elim
      (λ e. ap one_if_read (read-marked (is.unstopped u j e) e) ∙ sym (ap (λ b. cond b 1 0) e))
      (λ e. read-unmarked e ∙ sym (ap (λ b. cond b 1 0) e))
      (cases_bool (is_marked c u j))

-- one slot more
pub read-next : (network : Neighbours) (stop : ℕ) (c : Counts) (u j one read whole : ℕ) → HasShape network c → InStep network stop c → j < degree network u
    → one ≡ one_if_read (answer_of network stop c (Read u j)) → read + marks_in (drop j (marks_of c u)) ≡ whole → (read + one) + marks_in (drop (j + 1) (marks_of c u)) ≡ whole
read-next network stop c u j one read whole shape is slot e h =
    let long : j < length (marks_of c u) = omega (arith, shape.slots u) in
    let more = sum_by-drop_more (λ (b : Bool). cond b 1 0) (marks_of c u) j false long in
    let here = e ∙ read-one network stop c u j (node_of_slot network u j slot) slot is in
    omega (arith, more, here, h)

is_clear : (b : Bool) (n : ℕ) → n ≡ cond b 1 0 → n ≡ 0 → b ≡ false
is_clear true n e f = absurd (omega arith)
is_clear false n e f = refl

-- the first slot that was not read
pub unread-here : (network : Neighbours) (stop : ℕ) (c : Counts) (u j one : ℕ) → HasShape network c → InStep network stop c → j < degree network u → one ≡ one_if_read (answer_of network stop c (Read u j)) → one ≡ 0
    → ((i : ℕ) → i < j → is_marked c u i ≡ true) → j ≡ first_unread c u
unread-here network stop c u j one shape is slot e none before =
    let clear : is_marked c u j ≡ false = is_clear (is_marked c u j) one (e ∙ read-one network stop c u j (node_of_slot network u j slot) slot is) none in
    sym (position_or_len_is (λ (mark : Bool). not mark) (marks_of c u) j false (omega (arith, shape.slots u)) (λ i less. ap not (before i less)) (λ _. ap not clear))

-- or all were
pub unread-nowhere : (network : Neighbours) (c : Counts) (u j n : ℕ) → HasShape network c → n ≡ degree network u → n ≤ j → ((i : ℕ) → i < j → is_marked c u i ≡ true) → n ≡ first_unread c u
unread-nowhere network c u j n shape all past before =
    sym (position_or_len_is (λ (mark : Bool). not mark) (marks_of c u) n false (omega (arith, shape.slots u)) (λ i less. ap not (before i (omega arith))) (λ less. absurd (omega (arith, shape.slots u))))
