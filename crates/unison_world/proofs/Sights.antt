-- What a node sees of a neighbour, and what its desk does.
use Rattle.std.proofs.Common.{◌≡◌, ◌≢◌, ◌⊎◌, ℕ, ◌+◌, ◌-◌, ◌%◌, ◌<◌, ◌≤◌, ◌++◌, Bool, true, false, List, [], ◌∷◌, Some, option_map, slice_get, nat_lt, if◌then◌else◌, length, map, get_or, sym, refl, ap, ◌∙◌, inl, inr, ⊎_elim, arith, subst}
use Rattle.std.proofs.lemmas.Option.{get_or_from_slice_get, slice_get-map, slice_get_within, slice_get_read, same_Some}
use Rattle.std.proofs.lemmas.Bool.{cases_eq, cases_lt}
use Rattle.std.proofs.lemmas.Bool.Decides.{nat_tests}
use Rattle.rule_check.specs.declared.state.State.{State}
use Rattle.rule_check.specs.declared.state.Near.{Near}
use Rattle.rule_check.specs.Value.{Rules, here_at}
use Rattle.rule_check.specs.Gathering.{sums_at}
use Rattle.link_net.specs.Neighbours.{Neighbours, row, degree, neighbour, weight}
use Rattle.rounds_plan.specs.Plans.{PlanView}
use Rattle.rounds_plan.specs.Lockstep.{lockstep}
use Rattle.phase_register.specs.declared.register.Look.{Look}
use Rattle.phase_register.specs.declared.register.Look.TheVariants.{Behind, Level, Ahead}
use Rattle.phase_register.specs.Looks.{RegisterView, look_by_phases, look_by_counts}
use Rattle.unison_node.specs.declared.desk.Seat.{Seat}
use Rattle.unison_node.specs.declared.desk.Offer.{Offer}
use Rattle.unison_node.specs.declared.desk.Offer.TheVariants as offer
use Rattle.unison_node.specs.Desks.{DeskView, has_mark, sums_over, taken_in}
use Rattle.unison_node.specs.Offers.{answer_to, answer_given, after_offer, after_given, given}
use Rattle.unison_world.specs.declared.node.Node.{Node}
use Rattle.unison_world.specs.Counting.{moves_of, marks_of, is_marked, InStep}
use Rattle.unison_world.specs.Gathered.{sums_of_round}
use Rattle.unison_world.specs.Pictures.{counts_of, seat_of, IsNodePicture, IsDrawn}

at_map : {X Y : Type 0} (f : X → Y) (xs : List X) (i : ℕ) (x : X) (d : Y) → slice_get xs i ≡ Some x → get_or (map f xs) i d ≡ f x
at_map f xs i x d h = get_or_from_slice_get (map f xs) i (f x) d (slice_get-map f xs i ∙ ap (option_map f) h)

pub moves_at : (nodes : List Node) (u : ℕ) (node : Node) → slice_get nodes u ≡ Some node → moves_of (counts_of nodes) u ≡ node.moves
moves_at nodes u node h = at_map (λ (n : Node). n.moves) nodes u node 0 h

pub marks_at : (nodes : List Node) (u : ℕ) (node : Node) → slice_get nodes u ≡ Some node → marks_of (counts_of nodes) u ≡ node.desk.marks
marks_at nodes u node h = at_map (λ (n : Node). n.desk.marks) nodes u node [] h

pub mark_at : (nodes : List Node) (u j : ℕ) (node : Node) → slice_get nodes u ≡ Some node → is_marked (counts_of nodes) u j ≡ has_mark node.desk j
mark_at nodes u j node h = ap (λ bs. get_or bs j false) (marks_at nodes u node h)

pub cases_bool : (b : Bool) → (b ≡ true) ⊎ (b ≡ false)
cases_bool true = inl refl
cases_bool false = inr refl

-- by phases a register shows what it shows by counts
look_same : (opening mine theirs : ℕ) (own : ℕ) (r : RegisterView) → own ≡ (opening + mine) % 3 → r.phase ≡ (opening + theirs) % 3 → mine ≤ theirs + 1 → theirs ≤ mine + 1 → look_by_phases own r ≡ look_by_counts mine theirs r
look_same opening mine theirs own r e f g h = grind (arith, nat_tests)

look-behind : (mine theirs : ℕ) (r : RegisterView) → theirs < mine → look_by_counts mine theirs r ≡ Behind
look-behind mine theirs r h = grind (arith, nat_tests)

look-level : (mine theirs : ℕ) (r : RegisterView) → theirs ≡ mine → look_by_counts mine theirs r ≡ Level r.current
look-level mine theirs r h = grind (arith, nat_tests)

look-ahead : (mine theirs : ℕ) (r : RegisterView) → mine < theirs → look_by_counts mine theirs r ≡ Ahead r.previous
look-ahead mine theirs r h = grind (arith, nat_tests)

-- a register that is behind, or one that gives this state
abbrev pub Shows : ℕ → ℕ → State → Look → Type 0
Shows mine theirs s l = ((theirs < mine) × (l ≡ Behind)) ⊎ ((mine ≤ theirs) × ((l ≡ Level s) ⊎ (l ≡ Ahead s)))

-- a register that is not behind gives the state of the reader's round
pub seen : (plan : PlanView) (w own mine : ℕ) (theirs : Node) → IsNodePicture plan w theirs → own ≡ (plan.phase + mine) % 3 → mine ≤ theirs.moves + 1 → theirs.moves ≤ mine + 1
    → Shows mine theirs.moves (lockstep plan mine w) (look_by_phases own theirs.register)
seen plan w own mine theirs p e g h =
    let r = theirs.register in
    let same = look_same plan.phase mine theirs.moves own r e p.phase g h in
    ⊎_elim
    (λ a. inl (a, same ∙ look-behind mine theirs.moves r a))
    (λ a. inr (
      a,
      ⊎_elim
          (λ b. inl (same ∙ look-level mine theirs.moves r b ∙ ap Level (p.current ∙ ap (λ t. lockstep plan t w) b)))
          (λ b. (let c : mine < theirs.moves = omega arith in let d : theirs.moves - 1 ≡ mine = omega arith in inr (same ∙ look-ahead mine theirs.moves r c ∙ ap Ahead (p.previous ∙ ap (λ t. lockstep plan t w) d))))
          (cases_eq theirs.moves mine),
    ))
    (cases_lt theirs.moves mine)

pub given-shown : (s : State) (l : Look) → (l ≡ Level s) ⊎ (l ≡ Ahead s) → given l ≡ Some s
given-shown s l h = ⊎_elim (λ e. ap given e) (λ e. ap given e) h

pub not-behind : {s : State} {l : Look} → (l ≡ Level s) ⊎ (l ≡ Ahead s) → l ≡ Behind → ⊥
not-behind {s} {l} h b = ⊎_elim (λ e. (let x : Level s ≡ Behind = sym e ∙ b in cc)) (λ e. (let x : Ahead s ≡ Behind = sym e ∙ b in cc)) h

-- what a desk answers and leaves where it has the slot
module _ (rules : Rules) (seat : Seat) (j w k : ℕ) (desk : DeskView) (l : Look) (inside : j < length desk.marks) where
  offer-open : answer_to desk j l ≡ (if has_mark desk j then offer.Already else answer_given (given l))
  offer-open = grind (arith, nat_tests)

  after-open : after_offer rules seat j w k desk l ≡ (if has_mark desk j then desk else after_given rules seat j w k desk (given l))
  after-open = grind (arith, nat_tests)

  pub offer-marked : has_mark desk j ≡ true → (answer_to desk j l ≡ offer.Already) × (after_offer rules seat j w k desk l ≡ desk)
  offer-marked e = (offer-open ∙ rw e refl, after-open ∙ rw e refl)

  pub offer-behind : has_mark desk j ≡ false → l ≡ Behind → (answer_to desk j l ≡ offer.Behind) × (after_offer rules seat j w k desk l ≡ desk)
  offer-behind e b = (offer-open ∙ rw e (ap (λ (x : Look). answer_given (given x)) b), after-open ∙ rw e (ap (λ (x : Look). after_given rules seat j w k desk (given x)) b))

  pub offer-taken : has_mark desk j ≡ false → (s : State) → given l ≡ Some s
      → (answer_to desk j l ≡ offer.Taken) × (after_offer rules seat j w k desk l ≡ taken_in rules seat j (record { id = w; weight = k; state = s }) desk)
  offer-taken e s g = (offer-open ∙ rw e (ap answer_given g), after-open ∙ rw e (ap (after_given rules seat j w k desk) g))

pub lt_true : (a b : ℕ) → a < b → nat_lt a b ≡ true
lt_true a b h = grind (arith, nat_tests)

pub lt_false : (a b : ℕ) → b ≤ a → nat_lt a b ≡ false
lt_false a b h = grind (arith, nat_tests)

-- the node's sums are those of its round
pub seat-sums : (plan : PlanView) (u : ℕ) (node : Node) (nears : List Near) → IsNodePicture plan u node
    → sums_over plan.program (seat_of u node) (length node.desk.marks) nears ≡ sums_of_round plan u node.moves nears
seat-sums plan u node nears p =
    ap (λ d. sums_at plan.program (here_at plan.program node.moves u d node.register.current nears)) p.slots
    ∙ ap (λ own. sums_at plan.program (here_at plan.program node.moves u (degree plan.network u) own nears)) p.current

-- what an offer of the register at a slot answers and leaves
pub record IsOffered (rules : Rules) (seat : Seat) (j w k : ℕ) (desk : DeskView) (l : Look) (left : DeskView) (answer : Offer) : Type 0 where
  pub answered : answer ≡ answer_to desk j l
  pub changed : left ≡ after_offer rules seat j w k desk l
  pub summed : (state : State) (front back : List Near) → answer ≡ offer.Taken → given l ≡ Some state → length (front ++ back) < 4294967295
      → desk.sums ≡ sums_over rules seat (length desk.marks) (front ++ back)
      → left.sums ≡ sums_over rules seat (length desk.marks) (front ++ record { id = w; weight = k; state = state } ∷ back)

-- what a node's read has at hand: its own node, its neighbour's, and that it isn't stopped
pub record Found (plan : PlanView) (stop : ℕ) (nodes : List Node) (u j : ℕ) (node theirs : Node) : Type 0 where
  pub at : slice_get nodes u ≡ Some node
  pub slot : j < degree plan.network u
  pub there : slice_get nodes (neighbour plan.network u j) ≡ Some theirs
  pub unstopped : node.moves ≢ stop

-- the neighbour and the weight at a slot
pub slot_within : (network : Neighbours) (u j w k : ℕ) → Some (w, k) ≡ slice_get (row network u) j → (j < degree network u) × (w ≡ neighbour network u j) × (k ≡ weight network u j)
slot_within network u j w k e =
    let a : get_or (row network u) j (0, 0) ≡ (w, k) = get_or_from_slice_get (row network u) j (w, k) (0, 0) (sym e) in
    (slice_get_within (row network u) j (w, k) (sym e), sym (ap (λ (p : ℕ × ℕ). p.0) a), sym (ap (λ (p : ℕ × ℕ). p.1) a))

pub found : (plan : PlanView) (stop : ℕ) (nodes : List Node) (u j w k : ℕ) (node theirs : Node) → IsDrawn plan nodes → u < length nodes
    → Some (w, k) ≡ slice_get (row plan.network u) j → node ≡ get_or nodes u node → theirs ≡ get_or nodes w theirs → (node.moves ≡ stop → ⊥)
    → Found plan stop nodes u j node theirs
found plan stop nodes u j w k node theirs drawn h e b d ne =
    let s = slot_within plan.network u j w k e in
    let bound : neighbour plan.network u j < length nodes = omega (arith, drawn.well_formed.network.within u j s.0, drawn.one_each) in
    record {
      at = slice_get_read nodes (length nodes) u node refl h b;
      slot = s.0;
      there = rw (← s.1) (slice_get_read nodes (length nodes) w theirs refl (rw (← s.1) at bound) d);
      unstopped = ne;
    }

-- what a node sees of the neighbour at a slot
pub sees-there : (plan : PlanView) (stop : ℕ) (nodes : List Node) (u j own : ℕ) (node theirs : Node) → IsDrawn plan nodes → InStep plan.network stop (counts_of nodes)
    → slice_get nodes u ≡ Some node → j < degree plan.network u → slice_get nodes (neighbour plan.network u j) ≡ Some theirs → own ≡ node.register.phase
    → Shows node.moves theirs.moves (lockstep plan node.moves (neighbour plan.network u j)) (look_by_phases own theirs.register)
sees-there plan stop nodes u j own node theirs drawn is at slot there e =
    let near = is.near u j slot in
    let m = moves_at nodes u node at in
    let t = moves_at nodes (neighbour plan.network u j) theirs there in
    seen plan (neighbour plan.network u j) own node.moves theirs (drawn.each (neighbour plan.network u j) theirs there) (e ∙ (drawn.each u node at).phase) (omega arith) (omega arith)

-- what the reader sees there
pub sees : (plan : PlanView) (stop : ℕ) (nodes : List Node) (u j own : ℕ) (node theirs : Node) → IsDrawn plan nodes → InStep plan.network stop (counts_of nodes) → Found plan stop nodes u j node theirs → own ≡ node.register.phase
    → Shows node.moves theirs.moves (lockstep plan node.moves (neighbour plan.network u j)) (look_by_phases own theirs.register)
sees plan stop nodes u j own node theirs drawn is f e = sees-there plan stop nodes u j own node theirs drawn is f.at f.slot f.there e

pub same_node : (nodes : List Node) (u : ℕ) (a b : Node) → u < length nodes → a ≡ get_or nodes u a → b ≡ get_or nodes u b → a ≡ b
same_node nodes u a b h e f = same_Some a b (sym (slice_get_read nodes (length nodes) u a refl h e) ∙ slice_get_read nodes (length nodes) u b refl h f)

-- an offer of equal things
pub same_offer : {rules rules' : Rules} {seat seat' : Seat} {j w w' k k' : ℕ} {desk left : DeskView} {l : Look} {said : Offer} → rules ≡ rules' → seat ≡ seat' → w ≡ w' → k ≡ k'
    → IsOffered rules seat j w k desk l left said → IsOffered rules' seat' j w' k' desk l left said
same_offer {rules} {rules'} {seat} {seat'} {j} {w} {w'} {k} {k'} {desk} {left} {l} {said} a b d e o =
    subst (λ (x : Rules). IsOffered x seat' j w' k' desk l left said) a
    (subst (λ (x : Seat). IsOffered rules x j w' k' desk l left said) b
    (subst (λ (x : ℕ). IsOffered rules seat j x k' desk l left said) d
    (subst (λ (x : ℕ). IsOffered rules seat j w x desk l left said) e o)))
