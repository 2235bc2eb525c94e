use Rattle.std.proofs.Common.{◌≡◌, ◌∙◌, ℕ, ◌+◌, ◌≤◌, List, [], length, map, Ok, Err, ap, sym, subst}
use Rattle.link_net.specs.Limits.{most_rows}
use Rattle.import_lines.specs.Texts.{edge_lines, told_from}
use Rattle.import_formats.specs.edges.Edges.{edges_in}
use Rattle.import_links.specs.Joining.{names_with}
use Rattle.large_pack.specs.declared.ranked.Ranked.{Ranked}
use Rattle.large_pack.specs.Ranks.{ranked, RankedWithin}
use Rattle.large_pack.proofs.Rising.{all_tied}
use Rattle.import_network.specs.NamesFaults.{edges_fault}
use Rattle.import_network.specs.PackNaming.{numbered, packing_of, reading_of}
use Rattle.import_network.proofs.Numbering.{numbered_within, some_names}
use Rattle.import_network.proofs.NamedPacks.{Known, known, passed_on, packs_here, packed_answers, fault_answers}
use Rattle.import_network.proofs.packed_names.pack.pack_names.Goals as goal
use Rattle.import_network.proofs.packed_names.pack.pack_names.Goals.{In_ok-named}

known_here : (c : In_ok-named) → Known c.args.options.now.self_loops (edges_in (reading_of c.args.options.now) (edge_lines c.args.options.now.header c.args.text.now))
known_here c = known c.in_ok-check_edges.field-0 c.args.options.now.self_loops (edges_in (reading_of c.args.options.now) (edge_lines c.args.options.now.header c.args.text.now)) c.in_ok-check_edges.ensures

told_here : (c : In_ok-named) → edges_in (reading_of c.args.options.now) (told_from (c.edge_lines.result.passed + 1) c.edge_lines.result.bytes.now) ≡ Ok (known_here c).0
told_here c = rw (c.edge_lines.ensures.lines) (known_here c).1

names_here : (c : In_ok-named) → c.in_ok-named.named.names ≡ names_with [] (known_here c).0
names_here c = c.in_ok-named.ensures.names (known_here c).0 (told_here c)

edges_here : (c : In_ok-named) → c.in_ok-named.named.edges.items ≡ map (ranked c.args.options.now) (numbered c.args.options.now.reverse (names_with [] (known_here c).0) (known_here c).0)
edges_here c = c.in_ok-named.ensures.edges (known_here c).0 (told_here c)

pub pack_ranked-requires-clause-some : goal.pack_ranked-requires-clause-some
pack_ranked-requires-clause-some c =
    let b = (goal.at.pack_ranked-requires-clause-some c).In_ok-named in
    rw (c.count-nodes.ensures.count, names_here b) (some_names (known_here b).0 (known_here b).3)

pub pack_ranked-requires-clause-within : goal.pack_ranked-requires-clause-within
pack_ranked-requires-clause-within c =
    let b = (goal.at.pack_ranked-requires-clause-within c).In_ok-named in
    let es = (known_here b).0 in
    let as_many : c.count-nodes.result ≡ length (names_with [] es) = c.count-nodes.ensures.count ∙ ap length (names_here b) in
    subst (λ (items : List Ranked). RankedWithin c.count-nodes.result items) (sym (edges_here b))
    (subst (λ (n : ℕ). RankedWithin n (map (ranked c.args.options.now) (numbered c.args.options.now.reverse (names_with [] es) es))) (sym as_many) (numbered_within c.args.options.now es))

pub pack_ranked-requires-clause-tied : goal.pack_ranked-requires-clause-tied
pack_ranked-requires-clause-tied c h =
    let b = (goal.at.pack_ranked-requires-clause-tied c).In_ok-named in
    rw (edges_here b) (all_tied c.args.options.now (numbered c.args.options.now.reverse (names_with [] (known_here b).0) (known_here b).0) (rw c.named_options-packing.ensures at h))

pub returns-in_err-packed-clause-answer : goal.returns-in_err-packed-clause-answer
returns-in_err-packed-clause-answer c =
    let b = (goal.at.returns-in_err-packed-clause-answer c).In_ok-named in
    let options = c.args.options.now in
    let text = c.args.text.now in
    let es = (known_here b).0 in
    let fault = c.in_err-packed.field-0.0 in
    let few : length (names_with [] es) ≤ most_rows = rw (names_here b) at c.count-nodes.ensures.listed.few in
    passed_on (packing_of options text) (edges_fault fault) c.from_residual-in_err-packed.result c.from_residual-in_err-packed.ensures.1
    (fault_answers options text es (known_here b).2 few fault
    (packs_here options text es (known_here b).2 c.named_options-packing.result c.count-nodes.result c.in_ok-named.named.names c.in_ok-named.named.edges.items (Err fault)
    c.named_options-packing.ensures c.count-nodes.ensures.count (names_here b) (edges_here b) c.in_err-packed.ensures.answer))

pub returns-clause-answer : goal.returns-clause-answer
returns-clause-answer c =
    let b = (goal.at.returns-clause-answer c).In_ok-named in
    let options = c.args.options.now in
    let text = c.args.text.now in
    let es = (known_here b).0 in
    let packed = c.in_ok-packed.packed in
    let few : length (names_with [] es) ≤ most_rows = rw (names_here b) at c.count-nodes.ensures.listed.few in
    packed_answers options text es (known_here b).2 few packed
    (packs_here options text es (known_here b).2 c.named_options-packing.result c.count-nodes.result c.in_ok-named.named.names c.in_ok-named.named.edges.items (Ok packed)
    c.named_options-packing.ensures c.count-nodes.ensures.count (names_here b) (edges_here b) c.in_ok-packed.ensures.answer)
