-- What is known of edges that are sound.
use Rattle.std.proofs.Common.{◌≡◌, ℕ, ◌+◌, ◌<◌, ◌≤◌, Bool, true, false, List, [], ◌∷◌, map, max, drop, nat_le, zero, suc, refl, sym, ap, Option, Some, None, Result, Ok, Err, arith, inl, inr}
use Rattle.std.proofs.lemmas.Bool.{cases_Bool}
use Rattle.std.proofs.lemmas.Bool.Decides.{nat_tests}
use Rattle.std.specs.List.{filter_map, cons_option, slice_get, fold, AllByRecursion}
use Rattle.import_lines.specs.Texts.{edge_lines, words_of, told_from}
use Rattle.import_lines.specs.Parts.{shown, parts_of}
use Rattle.large_pack.specs.declared.edge_line.EdgeLine.{EdgeLine}
use Rattle.large_pack.specs.declared.options.PackOptions.{PackOptions}
use Rattle.large_pack.specs.declared.fault.End.TheVariants.{First, Second}
use Rattle.large_pack.specs.declared.fault.LineFault.TheVariants.{Words as BadWords, Weight as BadWeight}
use Rattle.large_pack.specs.declared.fault.PackFault.TheVariants.{BadLine}
use Rattle.large_pack.specs.declared.fault.PackFault.{PackFault}
use Rattle.large_pack.specs.declared.fault.LineFault.{LineFault}
use Rattle.large_pack.specs.declared.ranked.Ranked.{Ranked}
use Rattle.large_pack.specs.Lines.{and_then, fault_as, end_in, weight_in, edge_in, turned, edge_of, edges_in, edges_of}
use Rattle.large_pack.specs.Sound.{node_count, outside_fault, loop_fault, first_fault, node_fault, unless, sound_in, sound_of}
use Rattle.large_pack.specs.Packing.{refuses}
use Rattle.large_pack.specs.Ranks.{ranked, ranked_in, LinesRise, AreTied, RankedWithin}
use Rattle.large_pack.proofs.Rising.{Rise, numbers, told_rise, lines_rise, EndsBelow, ranked_below, all_tied}

-- ---- steps that succeed

step_given : {A B E : Type 0} (r : Result A E) (next : A → Result B E) (y : B) → and_then r next ≡ Ok y → (x : A) × (r ≡ Ok x) × (next x ≡ Ok y)
step_given (Ok x) next y h = (x, refl, h)
step_given (Err fault) next y h = cc

kind_given : {A E F : Type 0} (kind : E → F) (r : Result A E) (y : A) → fault_as kind r ≡ Ok y → r ≡ Ok y
kind_given kind (Ok x) y h = let same : x ≡ y = cc in ap Ok same
kind_given kind (Err fault) y h = cc

-- ---- lines

rest_rise : (ls : List (ℕ × List ℕ)) → Rise (numbers ls) → Rise (numbers (drop 1 ls))
rest_rise [] up = tt
rest_rise (l ∷ ls) up = up.1

edge_lines_rise : (header : Bool) (text : List ℕ) → Rise (numbers (edge_lines header text))
edge_lines_rise true text = rest_rise (told_from 1 text) (told_rise 1 text)
edge_lines_rise false text = told_rise 1 text

abbrev made : ℕ → ℕ → ℕ → ℕ → EdgeLine
made a b w n = record { first = a; second = b; weight = w; line = n }

abbrev read_as : {A E : Type 0} → A → Result A E
read_as x = Ok x

of_made : (a b w n : ℕ) (x : EdgeLine) → read_as {E = LineFault} (made a b w n) ≡ Ok x → x.line ≡ n
of_made a b w n x is = let same : made a b w n ≡ x = cc in ap (λ (y : EdgeLine). y.line) (sym same)

abbrev Words : Type 0
Words = List ℕ × List ℕ × Option (List ℕ)

at_numbers : (first second weight : Result ℕ LineFault) (n : ℕ) (e : EdgeLine)
    → and_then first (λ a. and_then second (λ b. and_then weight (λ w. read_as (made a b w n)))) ≡ Ok e → e.line ≡ n
at_numbers (Ok a) (Ok b) (Ok w) n e h = of_made a b w n e h
at_numbers (Ok a) (Ok b) (Err fault) n e h = cc
at_numbers (Ok a) (Err fault) weight n e h = cc
at_numbers (Err fault) second weight n e h = cc

at_parts : (parts : Result Words LineFault) (first second weight : Words → Result ℕ LineFault) (n : ℕ) (e : EdgeLine)
    → and_then parts (λ p. and_then (first p) (λ a. and_then (second p) (λ b. and_then (weight p) (λ w. read_as (made a b w n))))) ≡ Ok e → e.line ≡ n
at_parts (Ok p) first second weight n e h = at_numbers (first p) (second p) (weight p) n e h
at_parts (Err fault) first second weight n e h = cc

at_text : (text : Result (List ℕ) LineFault) (parts : List ℕ → Result Words LineFault) (first second weight : Words → Result ℕ LineFault) (n : ℕ) (e : EdgeLine)
    → and_then text (λ t. and_then (parts t) (λ p. and_then (first p) (λ a. and_then (second p) (λ b. and_then (weight p) (λ w. read_as (made a b w n)))))) ≡ Ok e → e.line ≡ n
at_text (Ok t) parts first second weight n e h = at_parts (parts t) first second weight n e h
at_text (Err fault) parts first second weight n e h = cc

turned_line : (reverse : Bool) (d e : EdgeLine) (n : ℕ) → read_as {E = PackFault} (turned reverse d) ≡ Ok e → d.line ≡ n → e.line ≡ n
turned_line true d e n is at = let same : turned true d ≡ e = cc in rw (← same) at
turned_line false d e n is at = let same : d ≡ e = cc in rw (← same) at

line_is : (o : PackOptions) (l : ℕ × List ℕ) (e : EdgeLine) → edge_of o l ≡ Ok e → e.line ≡ l.0
line_is o l e h =
    let step = step_given (fault_as (λ fault. BadLine l.0 fault) (edge_in o.factor l.0 l.1)) (λ d. read_as {E = PackFault} (turned o.reverse d)) e h in
    turned_line o.reverse step.0 e l.0 step.2
    (at_text (fault_as BadWords (shown l.1)) (λ t. fault_as BadWords (parts_of (words_of t))) (λ p. end_in First p.0) (λ p. end_in Second p.1) (λ p. fault_as BadWeight (weight_in o.factor p.2)) l.0 step.0
    (kind_given (λ fault. BadLine l.0 fault) (edge_in o.factor l.0 l.1) step.0 step.1))

lines_are : (o : PackOptions) (lines : List (ℕ × List ℕ)) (es : List EdgeLine) → edges_in o lines ≡ Ok es → map (λ e. e.line) es ≡ numbers lines
lines_are o [] es h = let none : [] ≡ es = cc in rw (← none) refl
lines_are o (l ∷ ls) es h =
    let first = step_given (edge_of o l) _ es h in
    let rest = step_given (edges_in o ls) _ es first.2 in
    joined first.0 rest.0 rest.2 (line_is o l first.0 first.1) (lines_are o ls rest.0 rest.1) where
      joined : (e : EdgeLine) (later : List EdgeLine) → read_as {E = PackFault} (e ∷ later) ≡ Ok es → e.line ≡ l.0 → map (λ x. x.line) later ≡ numbers ls → map (λ x. x.line) es ≡ l.0 ∷ numbers ls
      joined e later is here there = let same : e ∷ later ≡ es = cc in rw (← same, here, there) refl

-- ---- ends

abbrev above : ℕ → EdgeLine → ℕ
above n e = max (max n (e.first + 1)) (e.second + 1)

reach_more : (n : ℕ) (es : List EdgeLine) → n ≤ fold above n es
reach_more n [] = omega arith
reach_more n (e ∷ es) = omega (arith, reach_more (above n e) es)

reach_all : (n : ℕ) (es : List EdgeLine) → AllByRecursion (EndsBelow (fold above n es)) es
reach_all n [] = tt
reach_all n (e ∷ es) =
    let more : above n e ≤ fold above (above n e) es = reach_more (above n e) es in
    ((omega (arith, more), omega (arith, more)), reach_all (above n e) es)

first_none : {Y : Type 0} (here : Option Y) (later : List Y) → slice_get (cons_option here later) 0 ≡ None → (here ≡ None) × (slice_get later 0 ≡ None)
first_none None later h = (refl, h)
first_none (Some y) later h = cc

gt_test : (a b : ℕ) → nat_le a b ≡ false → b < a
gt_test a b h = grind (arith, nat_tests)

below_given : (n : ℕ) (e : EdgeLine) → outside_fault (Some n) e ≡ None → EndsBelow n e
below_given n e none =
    elim (cases_Bool (nat_le n e.first)) [
      | inl out ↦ (let bad = rw out at none in cc)
      | inr one ↦
          elim (cases_Bool (nat_le n e.second)) [
            | inl out ↦ (let bad = rw (one, out) at none in cc)
            | inr two ↦ (gt_test n e.first one, gt_test n e.second two)
          ]
    ]

all_given : (n : ℕ) (es : List EdgeLine) → first_fault (outside_fault (Some n)) es ≡ None → AllByRecursion (EndsBelow n) es
all_given n [] none = tt
all_given n (e ∷ es) none =
    let parts = first_none (outside_fault (Some n) e) (filter_map (outside_fault (Some n)) es) none in
    (below_given n e parts.0, all_given n es parts.1)

ends_below : (given : Option ℕ) (es : List EdgeLine) → first_fault (outside_fault given) es ≡ None → AllByRecursion (EndsBelow (node_count given es)) es
ends_below None es none = reach_all 0 es
ends_below (Some n) es none = all_given n es none

-- ---- the whole

all_passed : (a b c : Option PackFault) (es : List EdgeLine) (count : List EdgeLine → ℕ) (n : ℕ) → Ok n ≡ and_then (unless a (unless b (unless c (Ok es)))) (λ x. Ok (count x)) → (a ≡ None) × (b ≡ None) × (n ≡ count es)
all_passed None None None es count n h = (refl, refl, (let same : n ≡ count es = cc in same))
all_passed (Some x) b c es count n h = cc
all_passed None (Some x) c es count n h = cc
all_passed None None (Some x) es count n h = cc

some_nodes : (n : ℕ) → node_fault n ≡ None → 1 ≤ n
some_nodes zero none = cc
some_nodes (suc n) none = omega arith

-- edges whose nodes are counted are sound
pub record AreSound (o : PackOptions) (es : List EdgeLine) (n : ℕ) : Type 0 where
  pub count : n ≡ node_count o.nodes es
  pub some : 1 ≤ n
  pub within : AllByRecursion (EndsBelow n) es

pub sound_edges : (o : PackOptions) (es : List EdgeLine) (n : ℕ) → Ok n ≡ and_then (sound_in o es) (λ x. Ok (node_count o.nodes x)) → AreSound o es n
sound_edges o es n h =
    let passed = all_passed (node_fault (node_count o.nodes es)) (first_fault (outside_fault o.nodes) es) (first_fault (loop_fault o.self_loops) es) es (node_count o.nodes) n h in
    record {
      count = passed.2;
      some = rw (passed.2) (some_nodes (node_count o.nodes es) passed.0);
      within = rw (passed.2) (ends_below o.nodes es passed.1);
    }

-- what is known of edges as they are compared, where n nodes are counted
abbrev pub Known : PackOptions → ℕ → List Ranked → Type 0
Known o n items = (1 ≤ n) × RankedWithin n items × LinesRise items × (refuses o.parallel ≡ true → AreTied items)

module _ (o : PackOptions) (text : List ℕ) (n : ℕ) (items : List Ranked) (counted : Ok n ≡ and_then (sound_of o text) (λ es. Ok (node_count o.nodes es))) (read : ranked_in o (edges_of o text) ≡ Ok items) where
  known_of : (r : Result (List EdgeLine) PackFault) → edges_of o text ≡ r → Ok n ≡ and_then (and_then r (sound_in o)) (λ es. Ok (node_count o.nodes es)) → ranked_in o r ≡ Ok items → Known o n items
  known_of (Err fault) is c h = cc
  known_of (Ok es) is c h =
      let same : map (ranked o) es ≡ items = cc in
      let sound = sound_edges o es n c in
      let up : Rise (map (λ e. e.line) es) = rw (lines_are o (edge_lines o.header text) es is) (edge_lines_rise o.header text) in
      rw (← same) (sound.some, ranked_below o n es sound.within, lines_rise o es up, all_tied o es)

  -- what is known of the edges that are read
  pub known : Known o n items
  known = known_of (edges_of o text) refl counted read
