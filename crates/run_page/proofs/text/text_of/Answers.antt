use Rattle.std.proofs.Common.{◌≡◌, ◌≢◌, ◌∙◌, ℕ, All, ap, sym, subst, string_bytes}
use Rattle.serde_json.specs.Read.{read}
use Rattle.serde_json.specs.View.{view}
use Rattle.serde_json.specs.Written.{compact_text}
use Rattle.run_page.proofs.Closing.{closed_text, no_float}
use Rattle.run_page.proofs.text.text_of.Goals as goal

pub returns : goal.returns
returns c =
    let page = view c.args.page.now in
    let items : c.into_bytes.result.items ≡ string_bytes c.in_ok-text.text = ap (λ v. v.items) c.into_bytes.ensures.value in
    let text : c.into_bytes.result.items ≡ compact_text page = items ∙ c.in_ok-text.ensures.text (no_float page c.requires.closed) in
    record {
      text = text;
      reads_back = ap read items ∙ c.in_ok-text.ensures.reads_back c.requires.shallow;
      closed = subst (All (λ (b : ℕ). b ≢ 60)) (sym text) (closed_text page c.requires.closed);
    }
