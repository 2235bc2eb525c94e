-- Edges between named nodes, packed.
use Rattle.std.proofs.Common.{◌≡◌, ℕ, ◌≤◌, false, List, [], ◌∷◌, length, map, nat_lt, refl, ap, subst, ◌∙◌, arith, Option, Some, None, Result, Ok, Err}
use Rattle.std.specs.Result.{IsErrAnd, result_map_both}
use Rattle.std.proofs.lemmas.Bool.Decides.{nat_tests}
use Rattle.link_net.specs.Limits.{most_rows}
use Rattle.import_lines.specs.Named.{NamedEdge}
use Rattle.import_formats.specs.declared.edges.fault.EdgeFault.{EdgeFault}
use Rattle.import_formats.specs.edges.Edges.{and_then, fault_as}
use Rattle.import_links.specs.Joining.{names_with}
use Rattle.large_pack.specs.declared.options.PackOptions.{PackOptions}
use Rattle.large_pack.specs.declared.options.SelfLoops.{SelfLoops}
use Rattle.large_pack.specs.declared.fault.PackFault.{PackFault}
use Rattle.large_pack.specs.declared.pack.Packed.{Packed}
use Rattle.large_pack.specs.declared.edge_line.EdgeLine.{EdgeLine}
use Rattle.large_pack.specs.declared.ranked.Ranked.{Ranked}
use Rattle.large_pack.specs.Ranks.{ranked}
use Rattle.large_pack.specs.Sound.{node_count, node_fault, unless}
use Rattle.large_pack.specs.Packing.{Packing, packing_in, IsAnswer, IsAnswerOr}
use Rattle.import_network.specs.declared.packed_names.fault.NamesPackFault.{NamesPackFault}
use Rattle.import_network.specs.declared.packed_names.fault.NamesPackFault.TheVariants.{Memory}
use Rattle.import_network.specs.declared.packed_names.pack.NamedNetwork.{NamedNetwork}
use Rattle.import_network.specs.NamesFaults.{lines_fault, edges_fault}
use Rattle.import_network.specs.PackNaming.{first_loop, sound_in, sound_of, numbered, named_options, packing_of}

-- ---- sound edges

abbrev Read : Type 0
Read = Result (List NamedEdge) EdgeFault

abbrev pub sound_from : SelfLoops → Read → Result (List NamedEdge) NamesPackFault
sound_from self_loops read = and_then (fault_as lines_fault read) (λ es. fault_as edges_fault (sound_in self_loops es))

-- what is known where nothing is wrong
abbrev pub Known : SelfLoops → Read → Type 0
Known self_loops read = (es : List NamedEdge) × (read ≡ Ok es) × (sound_from self_loops read ≡ Ok es) × (1 ≤ length es)

abbrev nothing : Unit {0} → Result (Unit {0}) NamesPackFault
nothing u = Ok u

known_in : (u : Unit {0}) (self_loops : SelfLoops) (es : List NamedEdge) (none loop : Option PackFault) → none ≡ node_fault (length es) → loop ≡ first_loop self_loops es
    → nothing u ≡ and_then (fault_as edges_fault (unless none (unless loop (Ok es)))) (λ _. Ok tt) → Known self_loops (Ok es)
known_in u self_loops es (Some fault) loop is at h = cc
known_in u self_loops es None (Some fault) is at h = cc
known_in u self_loops [] None None is at h = cc
known_in u self_loops (e ∷ es) None None is at h = (e ∷ es, refl, (rw (← is, ← at) refl), omega arith)

pub known : (u : Unit {0}) (self_loops : SelfLoops) (read : Read) → nothing u ≡ and_then (sound_from self_loops read) (λ _. Ok tt) → Known self_loops read
known u self_loops (Ok es) h = known_in u self_loops es (node_fault (length es)) (first_loop self_loops es) refl refl h
known u self_loops (Err fault) h = cc

-- ---- packed

told_packed : (defined : Result Packing PackFault) (packed : Packed) → IsAnswer defined (Ok packed) → IsAnswerOr Memory (fault_as edges_fault defined) (Ok packed)
told_packed (Ok packing) packed h = h
told_packed (Err fault) packed h = absurd h

told_refused : (defined : Result Packing PackFault) (fault : PackFault) → IsAnswer defined (Err fault) → IsAnswerOr Memory (fault_as edges_fault defined) (Err (edges_fault fault))
told_refused (Ok packing) fault h = λ other. (let bad = h (λ e. other (ap edges_fault e)) in cc)
told_refused (Err first) fault h = λ other. (let same = h (λ e. other (ap edges_fault e)) in let is : first ≡ fault = cc in ap (λ x. Err (edges_fault x)) is)

abbrev pub seen : Result NamedNetwork NamesPackFault → Result Packed NamesPackFault
seen r = result_map_both (λ named. named.packed) (λ fault. fault) r

-- a fault that is passed on
pub passed_on : (defined : Result Packing NamesPackFault) (fault : NamesPackFault) (r : Result NamedNetwork NamesPackFault) → IsErrAnd r (λ e. e ≡ fault) → IsAnswerOr Memory defined (Err fault) → IsAnswerOr Memory defined (seen r)
passed_on defined fault (Ok packed) is h = absurd is
passed_on defined fault (Err other) is h = rw is h

few_test : (n m : ℕ) → m ≤ n → nat_lt n m ≡ false
few_test n m h = grind (arith, nat_tests)

module _ (options : PackOptions) (text : List ℕ) (es : List NamedEdge) (sound : sound_of options text ≡ Ok es) where
  abbrev names : List (List ℕ)
  names = names_with [] es

  abbrev pub packing : Result Packing PackFault
  packing = packing_in (named_options options (length (names_with [] es))) (numbered options.reverse (names_with [] es) es)

  -- what is packed by options for as many nodes as there are names is what is defined
  pub packs_here : (o : PackOptions) (n : ℕ) (found : List (List ℕ)) (items : List Ranked) (r : Result Packed PackFault) → o ≡ named_options options n → n ≡ length found → found ≡ names_with [] es → items ≡ map (ranked options) (numbered options.reverse (names_with [] es) es)
      → ((lines : List EdgeLine) → items ≡ map (ranked o) lines → n ≡ node_count o.nodes lines → IsAnswer (packing_in o lines) r) → IsAnswer packing r
  packs_here o n found items r is count named are packs =
      let as_many : n ≡ length names = count ∙ ap length named in
      subst (λ (q : PackOptions). (lines : List EdgeLine) → items ≡ map (ranked q) lines → n ≡ node_count q.nodes lines → IsAnswer (packing_in q lines) r)
      (is ∙ ap (named_options options) as_many) packs (numbered options.reverse names es) are as_many

  module _ (few : length (names_with [] es) ≤ most_rows) where
    defined_is : packing_of options text ≡ fault_as edges_fault packing
    defined_is =
        let less : nat_lt most_rows (length names) ≡ false = few_test most_rows (length names) few in
        rw (sound, less) refl

    -- they are packed
    pub packed_answers : (packed : Packed) → IsAnswer packing (Ok packed) → IsAnswerOr Memory (packing_of options text) (Ok packed)
    packed_answers packed h = rw defined_is (told_packed packing packed h)

    pub fault_answers : (fault : PackFault) → IsAnswer packing (Err fault) → IsAnswerOr Memory (packing_of options text) (Err (edges_fault fault))
    fault_answers fault h = rw defined_is (told_refused packing fault h)
