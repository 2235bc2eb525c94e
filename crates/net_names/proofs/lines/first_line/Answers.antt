use Rattle.std.proofs.Common.{◌≡◌, ◌+◌, ◌-◌, ℕ, ◌<◌, eqb, get_or, take, drop, length, arith}
use Rattle.std.proofs.lemmas.Bool.{eqb-true, false_from_ne_true}
use Rattle.std.proofs.lemmas.List.{take_all, length-drop}
use Rattle.net_names.proofs.FirstLines.{line_first, line_last}
use Rattle.net_names.proofs.lines.first_line.Goals as goal

pub returns-in-Some-clause-line : goal.returns-in-Some-clause-line
returns-in-Some-clause-line c =
    let bytes = c.args.bytes.now in
    let end = c.in-Some.end in
    let found = c.in-Some.ensures in
    let rest : take (length bytes - (end + 1)) (drop (end + 1) bytes) ≡ drop (end + 1) bytes = take_all (length bytes - (end + 1)) (drop (end + 1) bytes) (omega (arith, length-drop (end + 1) bytes)) in
    let before = λ (k : ℕ) (below : k < end). false_from_ne_true (eqb (get_or bytes k 0) 10) (found.0.before k (omega arith) below) in
    rw (c.without_return.ensures, rest) (line_first bytes end found.0.high (eqb-true _ _ found.1) before)

pub returns-in-None-clause-line : goal.returns-in-None-clause-line
returns-in-None-clause-line c =
    let bytes = c.args.bytes.now in
    let none : length bytes - length bytes ≡ 0 = omega arith in
    rw none (line_last bytes c.requires.some (λ k below. false_from_ne_true (eqb (get_or bytes k 0) 10) (c.in-None.ensures k (omega arith) below)))
