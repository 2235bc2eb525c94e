use Rattle.std.proofs.Common.{◌≡◌, ◌∙◌, ◌++◌, ℕ, List, ap, append_assoc, codes, string_bytes}
use Rattle.run_picture.specs.Moving.{clock_text, last_text}
use Rattle.run_picture.proofs.Joined.{then_ok}
use Rattle.run_picture.proofs.moving.put_clock.Goals as goal

joined : (a b d t : List ℕ) → b ≡ a ++ codes "\" keyTimes=\"0" → d ≡ b ++ t → d ≡ a ++ (codes "\" keyTimes=\"0" ++ t)
joined a b d t first then = then ∙ ap (λ (x : List ℕ). x ++ t) first ∙ append_assoc a (codes "\" keyTimes=\"0") t

pub returns : goal.returns
unfolding clock_text
returns c =
    let text = last_text c.args.frames c.args.changes.now in
    let f : string_bytes c.put_last.new.out ≡ string_bytes c.push_str.new.self ++ text → string_bytes c.put_last.new.out ≡ string_bytes c.args.out.now ++ (codes "\" keyTimes=\"0" ++ text) =
    joined (string_bytes c.args.out.now) (string_bytes c.push_str.new.self) (string_bytes c.put_last.new.out) text c.in_ok-push_str.ensures.bytes in
    record { text = then_ok c.put_last.result f c.put_last.ensures.text }
