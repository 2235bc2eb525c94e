use Rattle.std.proofs.Common.{◌≡◌, ◌<◌, ◌∙◌, ℕ, List, All, ap, sym, subst, arith, drop, take, length, slice_index_or}
use Rattle.std.proofs.lemmas.List.{get_or_default}
use Rattle.std.specs.Global.{Vec}
use Rattle.rounds_blocks.specs.declared.share.Share.{Share}
use Rattle.rounds_blocks.specs.Rounds.{HaveWords, HasWord, HasWordInside}
use Rattle.rounds_blocks.specs.Walks.{HoldsOfDue}
use Rattle.rounds_blocks.proofs.Due.{shares_more}
use Rattle.rounds_blocks.proofs.Pieces.{inside_slice, slice_long}
use Rattle.rounds_blocks.proofs.copying.copy_part.Goals as goal

pub loop-share-preserved : goal.loop-share-preserved
loop-share-preserved c =
    let a = c.args in
    let l = c.loop-share in
    let task = a.task.now in
    let shares = a.shares.now.all.items in
    let field = a.field in
    let item = c.share-item.result in
    let copy = c.copy_share in
    let n = length l.part in
    let column = c.deref.result.now in
    let source = c.words_from-source.result.now in
    let here : l.share-index < length shares = omega (arith, c.loop-share-test.true, ap length c.deref-share-items.ensures.value) in
    let is : item ≡ slice_index_or shares l.share-index item = c.share-item.is ∙ ap (λ (ss : List Share). slice_index_or ss l.share-index item) c.deref-share-items.ensures.value in
    let inside : field < length item.columns.items = subst (λ (s : Share). field < length s.columns.items) (sym is) (c.requires.wide l.share-index item here) in
    let words : HaveWords (length task.network.now) item.columns.items = subst (λ (s : Share). HaveWords (length task.network.now) s.columns.items) (sym is) (c.requires.computed.long l.share-index item here) in
    let whole : length column ≡ length task.network.now = ap length c.deref.ensures.value ∙ ap (λ (v : Vec ℕ). length v.items) c.index.ensures ∙ words field c.index.result.now inside in
    let long : length (take n (drop a.low column)) ≡ n = slice_long a.low n column (omega (arith, c.requires.inside, l.auto.part, whole)) in
    let there : (word : ℕ → ℕ) (d : Vec ℕ) → All (λ share. HoldsOfDue (HasWord word (slice_index_or share.columns.items field d).items) task share.first share.behind) shares → HoldsOfDue (HasWordInside a.low word source) task item.first item.behind = λ word d all i b from below marked k e h.
    let u = slice_index_or (slice_index_or task.batches.now i b).nodes k e in
    let first = subst (λ (s : Share). HoldsOfDue (HasWord word (slice_index_or s.columns.items field d).items) task s.first s.behind) (sym is) (all l.share-index item here) in
    let same : column ≡ (slice_index_or item.columns.items field d).items = c.deref.ensures.value ∙ ap (λ (v : Vec ℕ). v.items) (c.index.ensures ∙ get_or_default item.columns.items field c.index.result.now d inside) in
    subst (λ (ws : List ℕ). HasWordInside a.low word ws u) (sym c.words_from-source.ensures.exact)
    (inside_slice word column a.low n u long (subst (λ (ws : List ℕ). HasWord word ws u) (sym same) (first i b from below marked k e h))) in
    record {
      copied = λ word d all.
          shares_more (HasWordInside a.low word l.part) (HasWordInside a.low word copy.new.part) task shares l.share-index item here is
          (λ u. copy.ensures.kept word u (there word d all))
          (l.invariant.copied word d all)
          (copy.ensures.copied word (there word d all));
      kept = λ word d u all first. copy.ensures.kept word u (there word d all) (l.invariant.kept word d u all first);
    }

pub returns : goal.returns
returns c = record {
  copied = record {
    long = c.loop-share.auto.part;
    copied = λ word d all s e h. c.loop-share.invariant.copied word d all s e (omega (arith, h, c.loop-share-test.false, ap length c.deref-share-items.ensures.value));
    kept = c.loop-share.invariant.kept;
  };
}
