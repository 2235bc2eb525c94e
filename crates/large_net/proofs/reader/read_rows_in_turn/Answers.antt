use Rattle.std.proofs.Common.{◌≡◌, length, map, arith}
use Rattle.std.specs.Int.{from_le_bytes, w32, w64}
use Rattle.std.proofs.lemmas.List.{length-map}
use Rattle.large_net.proofs.Sound.{sound_lists}
use Rattle.large_net.proofs.reader.read_rows_in_turn.Goals as goal

pub new-requires : goal.new-requires
new-requires c =
    let offsets = c.eights-starts.result.now in
    let neighbours = c.fours-neighbours.result.now in
    let nodes : length (map (from_le_bytes w64) offsets) ≡ length offsets = length-map offsets (from_le_bytes w64) in
    let ends : length (map (from_le_bytes w32) neighbours) ≡ length neighbours = length-map neighbours (from_le_bytes w32) in
    record {
      laid_out =
          rw (c.in_ok-offsets.ensures, c.in_ok-neighbours.ensures.neighbours)
          (sound_lists (map (from_le_bytes w64) offsets) (map (from_le_bytes w32) neighbours) c.in_ok-neighbours.weights.items
          (omega (arith, nodes, c.eights-starts.ensures.count, c.offsets.ensures, c.requires.some))
          (omega (arith, nodes, c.eights-starts.ensures.count, c.offsets.ensures, c.requires.few))
          (omega (arith, ends, c.fours-neighbours.ensures.count, c.in_ok-neighbours.ensures.count))
          c.in_ok-check_rows.ensures);
    }
