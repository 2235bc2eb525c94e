use Rattle.std.proofs.Common.{◌<◌, ℕ, All, slice_index_or}
use Rattle.std.specs.Global.{Vec}
use Rattle.rounds_blocks.specs.declared.share.Share.{Share}
use Rattle.rounds_blocks.specs.Rounds.{HasWord, HasWordInside}
use Rattle.rounds_blocks.specs.Walks.{HoldsOfDue}
use Rattle.rounds_blocks.proofs.copying.copy_part.Given as goal

-- the first shares are copied
abbrev pub invariant-loop-share : goal.invariant-loop-share
invariant-loop-share l = record {
  copied : (word : ℕ → ℕ) (d : Vec ℕ) → All (λ share. HoldsOfDue (HasWord word (slice_index_or share.columns.items l.field d).items) l.task share.first share.behind) l.shares.all.items
      → (s : ℕ) (e : Share) → s < l.share-index → HoldsOfDue (HasWordInside l.low word l.part) l.task (slice_index_or l.shares.all.items s e).first (slice_index_or l.shares.all.items s e).behind;
  kept : (word : ℕ → ℕ) (d : Vec ℕ) (u : ℕ) → All (λ share. HoldsOfDue (HasWord word (slice_index_or share.columns.items l.field d).items) l.task share.first share.behind) l.shares.all.items
      → HasWordInside l.low word l.initial.part u → HasWordInside l.low word l.part u;
}
