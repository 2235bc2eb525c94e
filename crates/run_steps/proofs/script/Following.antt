-- Parts of texts, one after another, and beginnings that grow.
use Rattle.std.proofs.Common.{◌≡◌, ◌+◌, ◌≤◌, max, ◌∷◌, ◌++◌, refl, sym, ap, ◌∙◌, append_assoc, arith}
use Rattle.std.specs.List.{repeat}
use Rattle.link_net.specs.Neighbours.{Neighbours}
use Rattle.run_steps.specs.declared.script.line.Line.TheVariants.{Act, Repeat, End}
use Rattle.run_steps.specs.script.Texts.{Parts, none, act, again, lines_of, steps_of, depth_of, made_by}
use Rattle.run_steps.specs.script.Refusals.{Beginning, whole, inside, begun_lines, begun_steps, begun_depth, open_in}

-- parts behind parts
abbrev pub followed : Parts → Parts → Parts
followed none qs = qs
followed (act a ps) qs = act a (followed ps qs)
followed (again k body ps) qs = again k body (followed ps qs)

lines-followed : (ps qs : Parts) → lines_of (followed ps qs) ≡ lines_of ps ++ lines_of qs
lines-followed none qs = refl
lines-followed (act a ps) qs = ap (λ ls. Act a ∷ ls) (lines-followed ps qs)
lines-followed (again k body ps) qs =
    ap (λ ls. Repeat k ∷ (lines_of body ++ (End ∷ ls))) (lines-followed ps qs)
    ∙ ap (λ ls. Repeat k ∷ ls) (sym (append_assoc (lines_of body) (End ∷ lines_of ps) (lines_of qs)))

steps-followed : (network : Neighbours) (ps qs : Parts) → steps_of network (followed ps qs) ≡ steps_of network ps ++ steps_of network qs
steps-followed network none qs = refl
steps-followed network (act a ps) qs =
    ap (λ ss. made_by network a ++ ss) (steps-followed network ps qs)
    ∙ sym (append_assoc (made_by network a) (steps_of network ps) (steps_of network qs))
steps-followed network (again k body ps) qs =
    ap (λ ss. repeat k (steps_of network body) ++ ss) (steps-followed network ps qs)
    ∙ sym (append_assoc (repeat k (steps_of network body)) (steps_of network ps) (steps_of network qs))

depth-followed : (ps qs : Parts) → depth_of (followed ps qs) ≡ max (depth_of ps) (depth_of qs)
depth-followed none qs = omega arith
depth-followed (act a ps) qs = depth-followed ps qs
depth-followed (again k body ps) qs = let ih = depth-followed ps qs in omega arith

-- a beginning with parts behind it
abbrev pub grown : Beginning → Parts → Beginning
grown (whole ps) qs = whole (followed ps qs)
grown (inside outer k ps) qs = inside outer k (followed ps qs)

pub lines-grown : (b : Beginning) (qs : Parts) → begun_lines (grown b qs) ≡ begun_lines b ++ lines_of qs
lines-grown (whole ps) qs = lines-followed ps qs
lines-grown (inside outer k ps) qs =
    ap (λ ls. begun_lines outer ++ (Repeat k ∷ ls)) (lines-followed ps qs)
    ∙ sym (append_assoc (begun_lines outer) (Repeat k ∷ lines_of ps) (lines_of qs))

pub steps-grown : (network : Neighbours) (b : Beginning) (qs : Parts) → begun_steps network (grown b qs) ≡ begun_steps network b ++ steps_of network qs
steps-grown network (whole ps) qs = steps-followed network ps qs
steps-grown network (inside outer k ps) qs =
    ap (λ ss. begun_steps network outer ++ ss) (steps-followed network ps qs)
    ∙ sym (append_assoc (begun_steps network outer) (steps_of network ps) (steps_of network qs))

pub open-grown : (b : Beginning) (qs : Parts) → open_in (grown b qs) ≡ open_in b
open-grown (whole ps) qs = refl
open-grown (inside outer k ps) qs = refl

pub depth-grown : (b : Beginning) (qs : Parts) → begun_depth (grown b qs) ≡ max (begun_depth b) (open_in b + depth_of qs)
depth-grown (whole ps) qs = let e = depth-followed ps qs in omega arith
depth-grown (inside outer k ps) qs = let e = depth-followed ps qs in omega arith

-- repeats that are open stand inside each other
pub open-deep : (b : Beginning) → open_in b ≤ begun_depth b
open-deep (whole ps) = omega arith
open-deep (inside outer k ps) = omega arith
