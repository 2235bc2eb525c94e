-- What an expression is read to, by its first token.
use denote.Bor.{Bor}
use Rattle.std.proofs.Common.{◌≡◌, ℕ, zero, suc, ◌-◌, ◌≤◌, List, [], ◌∷◌, Some, refl, arith, length, drop, slice_index_or}
use Rattle.rule_lang.specs.declared.keyword.Keyword.{Keyword}
use Rattle.rule_lang.specs.declared.token.Lexeme.{Lexeme}
use Rattle.rule_lang.specs.declared.token.Sign.{Sign}
use Rattle.rule_lang.specs.declared.token.Sign.TheVariants as sign
use Rattle.rule_lang.specs.declared.token.Token.TheVariants as token
use Rattle.rule_lang.specs.Keywords.{keyword_of}
use Rattle.rule_lang.specs.View.{toks_of}
use Rattle.rule_lang.specs.Reading.{expr_at, form_at, infix_at, prefix_at}

-- a reserved word: what follows it
pub word_at : (d : ℕ) (tokens : List Lexeme) (blank : Lexeme) (w : Bor (List ℕ)) (k : Keyword) → (d ≡ 0 → ⊥) → 1 ≤ length tokens → (slice_index_or tokens 0 blank).token ≡ token.Word w → keyword_of w.now ≡ Some k → expr_at d (toks_of tokens) ≡ prefix_at (expr_at (d - 1)) k (toks_of (drop 1 tokens))
unfolding expr_at form_at
word_at zero tokens blank w k z n e f = absurd (z refl)
word_at (suc d) [] blank w k z n e f = absurd (omega arith)
word_at (suc d) (l ∷ ls) blank w k z n e f = let h : suc d - 1 ≡ d = omega arith in rw (e, f, h) refl

-- an opening bracket: what follows it
pub open_at : (d : ℕ) (tokens : List Lexeme) (blank : Lexeme) (s : Sign) → (d ≡ 0 → ⊥) → 1 ≤ length tokens → (slice_index_or tokens 0 blank).token ≡ token.Sign s → s ≡ sign.Open → expr_at d (toks_of tokens) ≡ infix_at (expr_at (d - 1)) (toks_of (drop 1 tokens))
unfolding expr_at form_at
open_at zero tokens blank s z n e f = absurd (z refl)
open_at (suc d) [] blank s z n e f = absurd (omega arith)
open_at (suc d) (l ∷ ls) blank s z n e f = let h : suc d - 1 ≡ d = omega arith in rw (e, f, h) refl
