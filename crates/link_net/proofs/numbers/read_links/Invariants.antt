use Rattle.std.proofs.Common.{◌≡◌, ◌+◌, ◌++◌, drop, map, option_map}
use Rattle.link_net.specs.Links.{AllWithin}
use Rattle.link_net.specs.Reading.{all_placed}
use Rattle.link_net.specs.Tables.{settled}
use Rattle.link_net.proofs.numbers.read_links.Given as goal

abbrev pub invariant-loop-item : goal.invariant-loop-item
invariant-loop-item l =
    (option_map (map settled) (all_placed l.last l.draft) ≡ option_map (λ ls. l.links.items ++ map settled ls) (all_placed l.last (drop l.item-index l.draft)))
    × AllWithin (l.last + 1) l.links.items
