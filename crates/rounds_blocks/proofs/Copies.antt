-- Words that are copied from columns to columns.
use Rattle.std.proofs.Common.{[], ◌∷◌, ◌≡◌, ◌<◌, ◌≤◌, ℕ, List, length, map, All, sym, subst, ap, ◌∙◌, arith, slice_index, slice_index_or}
use Rattle.std.specs.Global.{Vec}
use Rattle.std.proofs.lemmas.List.{same_lists, length-map, get_or-map}
use Rattle.rounds_code.specs.Block.{scattered}
use Rattle.rounds_blocks.specs.declared.batch.Batch.{Batch}
use Rattle.rounds_blocks.specs.declared.share.Share.{Share}
use Rattle.rounds_blocks.specs.declared.task.Task.{Task}
use Rattle.rounds_blocks.specs.Rounds.{HaveWords, HasWord, HasWordInside, HasWords}
use Rattle.rounds_blocks.specs.Walks.{HoldsOfDue, IsCopied}
use Rattle.rounds_blocks.proofs.Pieces.{of_whole, to_whole, whole_kept}
use Rattle.rounds_blocks.proofs.Words.{scatter_kept, scatter_written, column_lane}

module _ (old new source nodes : List ℕ) (word : ℕ → ℕ) (within : All (λ u. u < length old) nodes) (exact : new ≡ scattered nodes (map (slice_index source) nodes) old) (there : All (HasWord word source) nodes) where
  copied_words : map (slice_index source) nodes ≡ map word nodes
  copied_words =
      same_lists (map (slice_index source) nodes) (map word nodes) (length-map nodes (slice_index source) ∙ sym (length-map nodes word))
      (λ i d h.
      let low : i < length nodes = omega (arith, h, length-map nodes (slice_index source)) in
      get_or-map (slice_index source) nodes i 0 d low ∙ there i 0 low ∙ sym (get_or-map word nodes i 0 d low))

  copied_column : new ≡ scattered nodes (map word nodes) old
  copied_column = exact ∙ ap (λ (ws : List ℕ). scattered nodes ws old) copied_words

  -- copied nodes have their words
  pub nodes_copied : All (HasWord word new) nodes
  nodes_copied i d place = ap (λ (ws : List ℕ). slice_index ws (slice_index_or nodes i d)) copied_column ∙ scatter_written word nodes old i d within place

  -- and others keep them
  pub nodes_kept : (u : ℕ) → HasWord word old u → HasWord word new u
  nodes_kept u here = ap (λ (ws : List ℕ). slice_index ws u) copied_column ∙ scatter_kept word nodes old u within here

-- the same of columns that are parts of all nodes
module _ (old new source nodes : List ℕ) (word : ℕ → ℕ) (low : ℕ) (zero : low ≡ 0) (long : length source ≡ length old) (same : length new ≡ length old)
    (within : All (λ u. u < length old) nodes) (exact : new ≡ scattered nodes (map (slice_index source) nodes) old) (there : All (HasWordInside low word source) nodes) where
  there_whole : All (HasWord word source) nodes
  there_whole k e h =
      let u = slice_index_or nodes k e in
      to_whole word source u (omega (arith, within k e h, long)) (subst (λ n. HasWordInside n word source u) zero (there k e h))

  pub runs_copied : All (HasWordInside low word new) nodes
  runs_copied k e h =
      let u = slice_index_or nodes k e in
      subst (λ n. HasWordInside n word new u) (sym zero) (of_whole word new u (nodes_copied old new source nodes word within exact there_whole k e h))

  pub runs_kept : (u : ℕ) → HasWordInside low word old u → HasWordInside low word new u
  runs_kept u here after before =
      subst (λ n. HasWordInside n word new u) (sym zero)
      (of_whole word new u (nodes_kept old new source nodes word within exact there_whole u
      (to_whole word old u (omega (arith, before, same, zero)) (subst (λ n. HasWordInside n word old u) zero here)))) after before

-- an element of a list that has one
some_of : {A : Type 0} (xs : List A) (k : ℕ) → k < length xs → A
some_of [] k inside = absurd (omega (arith, inside))
some_of (x ∷ xs) k inside = x

module _ (task : Task) (shares : List Share) (nodes : ℕ) (old new : List (Vec ℕ)) (words : ℕ → ℕ → ℕ) (many : length new ≡ length old)
    (long : HaveWords nodes old)
    (each : (k : ℕ) (d : Vec ℕ) → k < length old → IsCopied task shares k 0 (slice_index_or old k d).items (slice_index_or new k d).items)
    (within : (i : ℕ) (d : Batch) → i < length task.batches.now → All (λ u. u < nodes) (slice_index_or task.batches.now i d).nodes)
    (inside : All (λ share. share.behind ≤ length task.batches.now) shares)
    (fields : All (λ share. length share.columns.items ≡ length old) shares)
    (all : All (λ share. HoldsOfDue (HasWords words share.columns.items) task share.first share.behind) shares) where
  -- what the shares' columns have, field by field
  field_there : (k : ℕ) (none : Vec ℕ) → k < length old → All (λ share. HoldsOfDue (HasWord (λ u. words u k) (slice_index_or share.columns.items k none).items) task share.first share.behind) shares
  field_there k none low s e there i d from up is j f place =
      let share = slice_index_or shares s e in
      let u = slice_index_or (slice_index_or task.batches.now i d).nodes j f in
      let here : k < length share.columns.items = omega (arith, low, fields s e there) in
      sym (column_lane share.columns.items u k none here) ∙ all s e there i d from up is j f place k here

  -- copied columns have their words
  pub columns_copied : All (λ share. HoldsOfDue (HasWords words new) task share.first share.behind) shares
  columns_copied s e there i d from up is j f place k low =
      let here : k < length old = omega (arith, low, many) in
      let none = some_of new k low in
      let column = each k none here in
      let u = slice_index_or (slice_index_or task.batches.now i d).nodes j f in
      let below : u < length (slice_index_or new k none).items =
      omega (arith, within i d (omega (arith, up, inside s e there)) j f place, long k none here, column.long) in
      column_lane new u k none low
      ∙ to_whole (λ u. words u k) (slice_index_or new k none).items u below (column.copied (λ u. words u k) none (field_there k none here) s e there i d from up is j f place)

  -- and keep others
  pub columns_kept : (u : ℕ) → HasWords words old u → HasWords words new u
  columns_kept u there k low =
      let here : k < length old = omega (arith, low, many) in
      let none = some_of new k low in
      let column = each k none here in
      column_lane new u k none low
      ∙ whole_kept (λ u. words u k) (slice_index_or old k none).items (slice_index_or new k none).items u column.long (column.kept (λ u. words u k) none u (field_there k none here))
      (sym (column_lane old u k none here) ∙ there k here)
