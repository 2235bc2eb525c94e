use Rattle.std.proofs.Common.{◌≡◌, ◌++◌, ◌∷◌, ◌+◌, [], Some, None, map, sym, ap, ◌∙◌, arith, drop}
use Rattle.std.proofs.lemmas.Result.{err_from_is_err_and}
use Rattle.std.proofs.lemmas.List.{map_push}
use Rattle.rule_lang.proofs.Bytes.{cut_at}
use Rattle.model_text.specs.View.{name_of, placed_all}
use Rattle.model_text.specs.Reading.{another_at}
use Rattle.model_text.proofs.Listing.{stuck_more, stuck_last, listed, further, two_left}
use Rattle.model_text.proofs.items.names.Goals as goal

pub returns-in_err-next : goal.returns-in_err-next
returns-in_err-next c =
    let p = err_from_is_err_and c.from_residual.result c.from_residual.ensures.1 in
    rw (p.1, p.2) (stuck_more c.in_err-next.field-0.0 c.args.end (map name_of c.loop-found.found.items) (placed_all (drop c.loop-found.at c.args.tokens.now)) _ c.loop-found.invariant.0 (rw (cut_at c.loop-found.at c.args.tokens.now) at c.in_err-next.ensures))

pub loop-found-smaller : goal.loop-found-smaller
loop-found-smaller c =
    let q : another_at (placed_all (drop c.loop-found.at c.args.tokens.now)) ≡ Some (Some (name_of c.in-Some.next)) = rw (cut_at c.loop-found.at c.args.tokens.now, c.in-Some.is) at c.in_ok-next.ensures in
    let h = two_left (name_of c.in-Some.next) c.args.tokens.now c.loop-found.at c.loop-found.invariant.1 q in omega arith

pub loop-found-preserved : goal.loop-found-preserved
loop-found-preserved c =
    let q : another_at (placed_all (drop c.loop-found.at c.args.tokens.now)) ≡ Some (Some (name_of c.in-Some.next)) = rw (cut_at c.loop-found.at c.args.tokens.now, c.in-Some.is) at c.in_ok-next.ensures in
    let e : map name_of c.push.new.self.items ≡ map name_of c.loop-found.found.items ++ name_of c.in-Some.next ∷ [] = rw c.in_ok-push.ensures.items (map_push _ c.loop-found.found.items c.in-Some.next) in (
      rw e (sym (further c.args.end (map name_of c.loop-found.found.items) (name_of c.in-Some.next) c.args.tokens.now c.loop-found.at q) ∙ c.loop-found.invariant.0),
      two_left (name_of c.in-Some.next) c.args.tokens.now c.loop-found.at c.loop-found.invariant.1 q,
    )

pub returns-in_err-rest : goal.returns-in_err-rest
returns-in_err-rest c =
    let p = err_from_is_err_and c.from_residual-in_err-rest.result c.from_residual-in_err-rest.ensures.1 in
    let q : another_at (placed_all (drop c.loop-found.at c.args.tokens.now)) ≡ Some None = rw (cut_at c.loop-found.at c.args.tokens.now, c.in_default.is) at c.in_ok-next.ensures in
    rw (p.1, p.2) (stuck_last c.in_err-rest.field-0.0 c.args.end (map name_of c.loop-found.found.items) (placed_all (drop c.loop-found.at c.args.tokens.now)) _ c.loop-found.invariant.0 q (rw (cut_at c.loop-found.at c.args.tokens.now) at c.in_err-rest.ensures))

pub returns : goal.returns
returns c =
    let q : another_at (placed_all (drop c.loop-found.at c.args.tokens.now)) ≡ Some None = rw (cut_at c.loop-found.at c.args.tokens.now, c.in_default.is) at c.in_ok-next.ensures in
    listed c.args.end (map name_of c.loop-found.found.items) (placed_all (drop c.loop-found.at c.args.tokens.now)) _ _ c.loop-found.invariant.0 q (rw (cut_at c.loop-found.at c.args.tokens.now) at c.in_ok-rest.ensures)
