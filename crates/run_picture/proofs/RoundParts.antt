-- The values of each round among those of all rounds, and the pictures that are made of them.
use Rattle.std.proofs.Common.{◌≡◌, ◌∙◌, ◌<◌, ◌≤◌, ◌+◌, ◌-◌, ◌*◌, ℕ, zero, suc, List, [], ◌∷◌, ◌++◌, ap, append_assoc, arith, drop, get_or, length, map, refl, sym, take}
use Rattle.std.proofs.Math.Seq.{drop-append-add, take-append_seam}
use Rattle.std.proofs.lemmas.Grind.{common_steps}
use Rattle.std.proofs.lemmas.List.{map-append}
use Rattle.std.proofs.lemmas.List.FromFn.{get_or-map-range_with_len, length-map-range_with_len}
use Rattle.std.specs.List.{flat_map, range_with_len}
use Rattle.link_net.specs.Neighbours.{Neighbours, numbers_below}
use Rattle.rounds_plan.specs.Plans.{PlanView}
use Rattle.run_watch.specs.Spans.{SpanView, count_of, round_at, rounds_in}
use Rattle.run_watch.proofs.Ranges.{range_left}
use Rattle.run_picture.specs.declared.drawing.Drawing.{Drawing}
use Rattle.run_picture.specs.declared.each_round.Layout.{Layout}
use Rattle.run_picture.specs.Frames.{values_after, values_drawn, values_in}
use Rattle.run_picture.specs.Keys.{key_of}
use Rattle.run_picture.specs.Series.{round_sheet, round_sheets}
use Rattle.run_picture.specs.Shades.{KeyView}
use Rattle.run_picture.proofs.Counts.{values_count}

-- of lists of one length, one after the other, the r-th
part : (nodes : ℕ) (f : ℕ → List ℕ) → ((t : ℕ) → length (f t) ≡ nodes) → (ts : List ℕ) (r : ℕ) → r < length ts → take nodes (drop (r * nodes) (flat_map f ts)) ≡ f (get_or ts r 0)
part nodes f each [] r inside = absurd (omega (arith, inside))
part nodes f each (t ∷ ts) zero inside =
    let e : zero * nodes ≡ 0 = grind (arith, common_steps) in
    ap (λ (k : ℕ). take nodes (drop k (f t ++ flat_map f ts))) e
    ∙ ap (λ (k : ℕ). take k (f t ++ flat_map f ts)) (sym (each t))
    ∙ take-append_seam (f t) (flat_map f ts)
part nodes f each (t ∷ ts) (suc r) inside =
    let count = each t in
    let e : suc r * nodes ≡ length (f t) + r * nodes = grind (arith, common_steps, count) in
    ap (λ (k : ℕ). take nodes (drop k (f t ++ flat_map f ts))) e
    ∙ ap (take nodes) (drop-append-add (f t) (flat_map f ts) (r * nodes))
    ∙ part nodes f each ts r (omega (arith, inside))

-- the values after the round at a place of a span stand there
part_at : (p : PlanView) (span : SpanView) (field r : ℕ) → r < count_of span
    → take (length p.network) (drop (r * length p.network) (values_in p span field)) ≡ values_after p field (round_at span r)
part_at p span field r inside =
    let many = length-map-range_with_len (round_at span) 0 (count_of span) in
    let e : 0 + r ≡ r = omega arith in
    part (length p.network) (values_after p field) (values_count p field) (rounds_in span) r (omega (arith, inside, many))
    ∙ ap (values_after p field) (get_or-map-range_with_len (round_at span) 0 (count_of span) r r 0 inside e)

-- what is made of each number in order is made of each round
made_of_each : (g h : ℕ → List ℕ) (f : ℕ → ℕ) (i n : ℕ) → ((r : ℕ) → i ≤ r → r < i + n → g r ≡ h (f r)) → map g (range_with_len i n) ≡ map h (map f (range_with_len i n))
made_of_each g h f i zero each = refl
made_of_each g h f i (suc n) each =
    ap (λ (x : List ℕ). x ∷ map g (range_with_len (i + 1) n)) (each i (omega arith) (omega arith))
    ∙ ap (λ (xs : List (List ℕ)). h (f i) ∷ xs) (made_of_each g h f (i + 1) n (λ r from below. each r (omega (arith, from)) (omega (arith, below))))

-- one more is made
pub one_more : {A : Type 0} (items : A → List ℕ) (g : ℕ → List ℕ) (old new : List A) (made : A) (k n : ℕ) (whole : List (List ℕ)) → new ≡ old ++ (made ∷ []) → items made ≡ g k → k < n
    → map items old ++ map g (range_with_len k (n - k)) ≡ whole → map items new ++ map g (range_with_len (k + 1) (n - (k + 1))) ≡ whole
one_more {A} items g old new made k n whole grown is inside held =
    let rest = map g (range_with_len (k + 1) (n - (k + 1))) in
    ap (λ (xs : List A). map items xs ++ rest) grown
    ∙ ap (λ (xs : List (List ℕ)). xs ++ rest) (map-append items old (made ∷ []))
    ∙ append_assoc (map items old) (items made ∷ []) rest
    ∙ ap (λ (x : List ℕ). map items old ++ (x ∷ rest)) is
    ∙ ap (λ (xs : List (List ℕ)). map items old ++ xs) (sym (ap (map g) (range_left k n inside)))
    ∙ held

-- the pictures of so many parts of values, by a key
abbrev pub sheets_by : Layout → Neighbours → KeyView → List ℕ → ℕ → List (List ℕ)
sheets_by layout network key values rounds = map (λ (r : ℕ). round_sheet layout key network (take (length network) (drop (r * length network) values))) (numbers_below rounds)

-- those of all rounds of a span are the pictures of these rounds
pub sheets_are : (p : PlanView) (drawing : Drawing) (layout : Layout) (network : Neighbours) (key : KeyView) (values : List ℕ) (rounds : ℕ)
    → network ≡ p.network → key ≡ key_of drawing.colouring.styles.now (values_drawn p drawing) → values ≡ values_drawn p drawing → rounds ≡ count_of drawing.span.now
    → sheets_by layout network key values rounds ≡ round_sheets (key_of drawing.colouring.styles.now (values_drawn p drawing)) p drawing layout
sheets_are p drawing layout network key values rounds same_network same_key same_values same_count =
    let span = drawing.span.now in
    let field = drawing.colouring.field in
    let own = key_of drawing.colouring.styles.now (values_in p span field) in
    ap (λ (net : Neighbours). sheets_by layout net key values rounds) same_network
    ∙ ap (λ (k : KeyView). sheets_by layout p.network k values rounds) same_key
    ∙ ap (λ (vs : List ℕ). sheets_by layout p.network own vs rounds) same_values
    ∙ ap (λ (n : ℕ). sheets_by layout p.network own (values_in p span field) n) same_count
    ∙ made_of_each (λ (r : ℕ). round_sheet layout own p.network (take (length p.network) (drop (r * length p.network) (values_in p span field))))
    (λ (t : ℕ). round_sheet layout own p.network (values_after p field t)) (round_at span) 0 (count_of span)
    (λ r from below. ap (round_sheet layout own p.network) (part_at p span field r (omega (arith, below))))
