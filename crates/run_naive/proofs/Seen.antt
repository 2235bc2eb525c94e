-- Nodes as they are shown.
use Rattle.std.proofs.Common.{◌≡◌, ℕ, zero, suc, ◌<◌, List, [], ◌∷◌, ◌++◌, length, map, set, get_or, Option, Some, None, Bool, true, false, nat_lt, if◌then◌else◌, refl, sym, ap, ◌∙◌, arith}
use Rattle.std.specs.Prelude.{option_map, slice_get}
use Rattle.std.proofs.lemmas.Bool.{lt-ltb}
use Rattle.std.proofs.lemmas.List.{get_or-map, map-set}
use Rattle.std.proofs.lemmas.Option.{slice_get-get_or, slice_get-map}
use Rattle.rule_check.specs.Value.{Rules}
use Rattle.rule_check.specs.declared.state.Near.{Near}
use Rattle.rounds_plan.specs.Lockstep.{near_at}
use Rattle.run_naive.specs.declared.node.Node.{Node}
use Rattle.run_naive.specs.declared.node.Move.{Move}
use Rattle.run_naive.specs.Naive.{NaiveNode, after_read, after_write, moved, node_in, nobody, state_now, with_copy}
use Rattle.run_naive.specs.Keeping.{made_by, past_in, past_of, pasts_after_write, shown}

-- a node, and its moves
pub shown_at : (nodes : List Node) (i : ℕ) (d : Node) → i < length nodes → node_in (map shown nodes) i ≡ shown (get_or nodes i d)
shown_at nodes i d inside = get_or-map shown nodes i d nobody inside

pub past_at : (nodes : List Node) (i : ℕ) (d : Node) → i < length nodes → past_in (map past_of nodes) i ≡ past_of (get_or nodes i d)
past_at nodes i d inside = get_or-map past_of nodes i d [] inside

there_at : (nodes : List Node) (i : ℕ) (d : Node) → i < length nodes → slice_get (map shown nodes) i ≡ Some (shown (get_or nodes i d))
there_at nodes i d inside = slice_get-map shown nodes i ∙ ap (option_map shown) (slice_get-get_or nodes i d inside)

-- after a read
pub read_shown : (nodes : List Node) (u slot : ℕ) (link : Option (ℕ × ℕ)) (near : Near) (d new : Node) → Some near ≡ option_map (near_at (state_now (map shown nodes))) link
    → u < length nodes → shown new ≡ with_copy slot near (shown (get_or nodes u d)) → map shown (set nodes u new) ≡ after_read (map shown nodes) u slot link
read_shown nodes u slot None near d new found inside copy = cc
read_shown nodes u slot (Some link) near d new found inside copy =
    let old = get_or nodes u d in
    let same : near ≡ near_at (state_now (map shown nodes)) link = cc in
    map-set shown nodes u new
    ∙ ap (set (map shown nodes) u)
    (copy ∙ ap (λ (x : Near). with_copy slot x (shown old)) same ∙ ap (with_copy slot (near_at (state_now (map shown nodes)) link)) (sym (shown_at nodes u d inside)))

-- after a write that moves its node
pub write_shown : (rules : Rules) (stop : ℕ) (nodes : List Node) (u : ℕ) (d new : Node) → u < length nodes → (get_or nodes u d).moves < stop
    → shown new ≡ moved rules u (shown (get_or nodes u d)) → map shown (set nodes u new) ≡ after_write rules stop (map shown nodes) u (slice_get (map shown nodes) u)
write_shown rules stop nodes u d new inside below moves =
    let ns = map shown nodes in
    let old = get_or nodes u d in
    map-set shown nodes u new ∙ ap (set ns u) moves
    ∙ sym (ap (after_write rules stop ns u) (there_at nodes u d inside) ∙ ap (λ (b : Bool). if b then set ns u (moved rules u (shown old)) else ns) (lt-ltb old.moves stop below))

pub write_past : (rules : Rules) (stop number : ℕ) (nodes : List Node) (u : ℕ) (d new : Node) → u < length nodes → (get_or nodes u d).moves < stop
    → past_of new ≡ past_of (get_or nodes u d) ++ made_by rules u number (shown (get_or nodes u d)) ∷ []
    → map past_of (set nodes u new) ≡ pasts_after_write rules stop number u (slice_get (map shown nodes) u) (map past_of nodes)
write_past rules stop number nodes u d new inside below past =
    let ps = map past_of nodes in
    let old = get_or nodes u d in
    let m = made_by rules u number (shown old) in
    map-set past_of nodes u new ∙ ap (set ps u) (past ∙ ap (λ (ms : List Move). ms ++ m ∷ []) (sym (past_at nodes u d inside)))
    ∙ sym (ap (λ o. pasts_after_write rules stop number u o ps) (there_at nodes u d inside) ∙ ap (λ (b : Bool). if b then set ps u (past_in ps u ++ m ∷ []) else ps) (lt-ltb old.moves stop below))

-- no move of any node, of one node more
pub empty_more : (pasts : List (List Move)) → ((u : ℕ) → past_in pasts u ≡ []) → (u : ℕ) → past_in (pasts ++ [] ∷ []) u ≡ []
empty_more [] none zero = refl
empty_more [] none (suc u) = refl
empty_more (ms ∷ pasts) none zero = none 0
empty_more (ms ∷ pasts) none (suc u) = empty_more pasts (λ v. none (suc v)) u
