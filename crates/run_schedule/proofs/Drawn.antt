-- What is known of nodes that are found free, and of those that are drawn.
use Rattle.std.proofs.Common.{◌≡◌, ℕ, zero, suc, ◌+◌, ◌<◌, ◌≤◌, Bool, true, false, ◌&&◌, List, [], ◌∷◌, ◌++◌, length, append-nil, get_or, Option, None, Result, Ok, Err, sym, refl, ap, subst, ◌∙◌, inl, inr, ⊎_elim, arith, if◌then◌else◌}
use Rattle.std.specs.List.{All, AllPairs, filter, range_with_len}
use Rattle.std.specs.Result.{IfOk}
use Rattle.std.proofs.lemmas.List.Elements.{All-nil, All-cons, All-push, filter-append, filter_passes}
use Rattle.std.proofs.lemmas.List.Kept.{AllPairs-cons, AllPairs-filter}
use Rattle.std.proofs.lemmas.List.Quantifiers.{all_pairs_push}
use Rattle.std.proofs.lemmas.Bool.{cases_lt, false≢true}
use Rattle.link_net.specs.Neighbours.{numbers_below}
use Rattle.unison_world.specs.View.{WorldView}
use Rattle.unison_world.proofs.Sights.{cases_bool, lt_false}
use Rattle.unison_world.proofs.Turnings.{Has, has_range}
use Rattle.run_schedule.specs.declared.daemon.Daemon.TheVariants.{Synchronous, Distributed}
use Rattle.run_schedule.specs.Daemons.{AreChosen, AreDrawn, MayBePut, MayMove, NoneFree, free_nodes, is_but, is_enabled, is_free}
use Rattle.run_schedule.proofs.Fronts.{range-next}

has-filter : (f : ℕ → Bool) (js : List ℕ) (k : ℕ) → Has k js → f k ≡ true → Has k (filter f js)
has-filter f [] k h e = absurd h
has-filter f (j ∷ js) k h e =
    ⊎_elim
    (λ s. (let t : f j ≡ true = rw s at e in rw t (inl s)))
    (λ r. ⊎_elim (λ t. rw t (inr (has-filter f js k r e))) (λ t. rw t (has-filter f js k r e)) (cases_bool (f j)))
    h

-- the numbers that pass a test, with one number more
pub free-more : (f : ℕ → Bool) (i : ℕ) (old new : List ℕ) → old ≡ filter f (range_with_len 0 i) → new ≡ (if f i then old ++ i ∷ [] else old) → new ≡ filter f (range_with_len 0 (i + 1))
free-more f i old new e put =
    let all : filter f (range_with_len 0 i) ++ filter f (i ∷ []) ≡ filter f (range_with_len 0 (i + 1)) = sym (filter-append f (range_with_len 0 i) (i ∷ [])) ∙ ap (filter f) (sym (range-next i)) in
    ⊎_elim
    (λ t.
    let g : new ≡ old ++ i ∷ [] = rw t at put in
    let kept : filter f (i ∷ []) ≡ i ∷ [] = rw t refl in
    g ∙ ap (λ xs. xs ++ i ∷ []) e ∙ ap (λ xs. filter f (range_with_len 0 i) ++ xs) (sym kept) ∙ all)
    (λ t.
    let g : new ≡ old = rw t at put in
    let lost : filter f (i ∷ []) ≡ [] = rw t refl in
    g ∙ e ∙ sym (append-nil (filter f (range_with_len 0 i))) ∙ ap (λ xs. filter f (range_with_len 0 i) ++ xs) (sym lost) ∙ all)
    (cases_bool (f i))

-- enabled nodes that were drawn below this one
pub record DrawnSoFar (w : WorldView) (share n : ℕ) (us : List ℕ) : Type 0 where
  pub enabled : All (λ u. is_free w None u ≡ true) us
  pub below : All (λ u. u < n) us
  pub rising : AllPairs (λ u v. u < v) us
  pub none : share ≡ 0 → us ≡ []
  pub all : 100 ≤ share → us ≡ filter (is_free w None) (range_with_len 0 n)

pub drawn-none : (w : WorldView) (share : ℕ) → DrawnSoFar w share 0 []
drawn-none w share =
    record { enabled = All-nil (λ u. is_free w None u ≡ true); below = All-nil (λ u. u < 0); rising = λ i j d l m. absurd (omega arith); none = λ _. refl; all = λ _. refl }

pub drawn-more : (w : WorldView) (share n : ℕ) (old new : List ℕ) → DrawnSoFar w share n old → MayBePut w share n old new → DrawnSoFar w share (n + 1) new
drawn-more w share n old new is put =
    let wider : All (λ u. u < n + 1) old = λ k d l. (let b = is.below k d l in omega arith) in
    ⊎_elim
    (λ p.
    let free = p.1 in
    let here : new ≡ (if is_free w None n then old ++ n ∷ [] else old) = rw free p.0 in
    let last : n < n + 1 = omega arith in
    let some = p.2 in
    record {
      enabled = rw p.0 (All-push (λ u. is_free w None u ≡ true) old n is.enabled free);
      below = rw p.0 (All-push (λ u. u < n + 1) old n wider last);
      rising = rw p.0 (all_pairs_push (λ u v. u < v) old n is.rising (λ k d l. is.below k d l));
      none = λ z. absurd (omega arith);
      all = λ full. free-more (is_free w None) n old new (is.all full) here;
    })
    (λ p.
    record {
      enabled = rw p.0 is.enabled;
      below = rw p.0 wider;
      rising = rw p.0 is.rising;
      none = λ z. p.0 ∙ is.none z;
      all = λ full. (let lost = p.1 full in let here : new ≡ (if is_free w None n then old ++ n ∷ [] else old) = rw lost p.0 in free-more (is_free w None) n old new (is.all full) here);
    })
    put.either

pub drawn-all : (w : WorldView) (share n : ℕ) (us : List ℕ) → DrawnSoFar w share n us → n ≡ length w.plan.network → AreDrawn w share us
drawn-all w share n us is e =
    record { enabled = is.enabled; rising = is.rising; none = is.none; all = λ full. is.all full ∙ ap (λ k. filter (is_free w None) (range_with_len 0 k)) e }

and-false : (a b : Bool) → b ≡ false → a && b ≡ false
and-false true b e = e
and-false false b e = refl

past-free : (w : WorldView) (but : Option ℕ) (u : ℕ) → length w.plan.network ≤ u → is_free w but u ≡ false
past-free w but u h =
    and-false (is_but but u) _ (rw (lt_false u (length w.plan.network) h) refl)

-- where no number of a node is free, none is
pub none-free : (w : WorldView) (but : Option ℕ) (us : List ℕ) → us ≡ free_nodes w but → us ≡ [] → NoneFree w but
none-free w but us e none u =
    ⊎_elim
    (λ l.
    ⊎_elim
    (λ t. absurd (subst (Has u) (sym e ∙ none) (has-filter (is_free w but) (numbers_below (length w.plan.network)) u (has_range 0 (length w.plan.network) u (omega arith) (omega arith)) t)))
    (λ t. t)
    (cases_bool (is_free w but u)))
    (λ l. past-free w but u l)
    (cases_lt u (length w.plan.network))

-- each of the free nodes is free
pub free-each : (w : WorldView) (but : Option ℕ) (us : List ℕ) (k d : ℕ) → us ≡ free_nodes w but → k < length us → is_free w but (get_or us k d) ≡ true
free-each w but us k d e l = (subst (All (λ u. is_free w but u ≡ true)) (sym e) (filter_passes (is_free w but) (numbers_below (length w.plan.network)))) k d l

range-rises : (a n : ℕ) → AllPairs (λ u v. u < v) (range_with_len a n) × All (λ u. a ≤ u) (range_with_len a n)
range-rises a zero = (λ i j d l m. absurd (omega arith), All-nil (λ u. a ≤ u))
range-rises a (suc n) =
    let r = range-rises (a + 1) n in
    let above : All (λ u. a < u) (range_with_len (a + 1) n) = λ k d l. (let b = r.1 k d l in omega arith) in
    let least : a ≤ a = omega arith in (
      AllPairs-cons (λ u v. u < v) a (range_with_len (a + 1) n) above r.0,
      All-cons (λ u. a ≤ u) a (range_with_len (a + 1) n) least (λ k d l. (let b = above k d l in omega arith)),
    )

-- one free node may move
pub one-may : (w : WorldView) (u : ℕ) → is_free w None u ≡ true → MayMove w.plan.network w.stop w.counts (u ∷ [])
one-may w u e =
    record {
      some = omega arith;
      enabled = All-cons (λ u. is_enabled w.plan.network w.stop w.counts u ≡ true) u [] e (All-nil (λ u. is_enabled w.plan.network w.stop w.counts u ≡ true));
      rising = λ i j d l m. absurd (omega arith);
    }

-- all free nodes, where there are some, may move
pub all-chosen : (w : WorldView) (us : List ℕ) → us ≡ free_nodes w None → AreChosen w Synchronous us
all-chosen w us e =
    let rising : AllPairs (λ u v. u < v) us = subst (AllPairs (λ u v. u < v)) (sym e) (AllPairs-filter (λ u v. u < v) (is_free w None) (numbers_below (length w.plan.network)) (range-rises 0 (length w.plan.network)).0) in
    record {
      choice = λ some. record { may = record { some = some; enabled = λ k d l. free-each w None us k d e l; rising = rising }; chosen = e };
      none = λ none. none-free w None us e none;
    }

one-some : (us : List ℕ) (u : ℕ) → us ≡ u ∷ [] → us ≡ [] → ⊥
one-some us u e none = (let m = ap length (sym e ∙ none) in omega arith)

pub if-ok : {X E : Type 0} (r : Result X E) (P Q : X → Type 0) → ((x : X) → P x → Q x) → IfOk r P → IfOk r Q
if-ok (Ok x) P Q f h = f x h
if-ok (Err e) P Q f h = h

pub share-one : (w : WorldView) (seed share u : ℕ) (drawn us : List ℕ) → AreDrawn w share drawn → drawn ≡ [] → us ≡ u ∷ [] → is_free w None u ≡ true → AreChosen w (Distributed seed share) us
share-one w seed share u drawn us is empty e free =
    record {
      choice = λ _. record {
        may = subst (MayMove w.plan.network w.stop w.counts) (sym e) (one-may w u free);
        chosen = record { one = λ _. ap length e; all = λ full. absurd (false≢true (sym (none-free w None drawn (is.all full) empty u) ∙ free)) };
      };
      none = λ none. absurd (one-some us u e none);
    }

and-then : (a b : Bool) → a && b ≡ false → a ≡ true → b ≡ false
and-then true b e t = e
and-then false b e t = cc
