-- From the tokens and the tree to the program.
use Rattle.std.proofs.Common.{◌≡◌, ℕ, ◌≤◌, List, Result, Ok, Err, MatchResult, subst, length, flat_map, refl, arith}
use Rattle.std.specs.List.{AllByRecursion}
use Rattle.rule_lang.specs.Canonical.{program_text}
use Rattle.rule_lang.proofs.Canonical.{all_toks, put_program}
use Rattle.rule_lang.specs.declared.fault.LangFault.{LangFault}
use Rattle.rule_lang.specs.declared.fault.LangFault.TheVariants.{TooLong, Lex, Syntax, Memory}
use Rattle.rule_lang.specs.Tokens.{Tok, IsTok, HasTokens}
use Rattle.rule_lang.specs.Tree.{ItemTree, HasTree, spell_item}
use Rattle.rule_lang.specs.Lexing.{NoTokensOf}
use Rattle.rule_lang.specs.declared.stuck.Stuck.{Stuck}
use Rattle.rule_lang.specs.declared.stuck.Stuck.TheVariants as stuck
use Rattle.rule_lang.specs.declared.cause.LangCause.TheVariants as cause
use Rattle.rule_lang.specs.declared.cause.Refusal.{Refusal}
use Rattle.rule_lang.specs.declared.cause.Refusal.TheVariants as refusal
use Rattle.rule_lang.specs.Causes.{IsStuckAs, NoProgramOf, refusal_fault}
use Rattle.rule_lang.specs.Program.{HasProgram, IsRefusedAs, IsReadAs, IsProgram}
use Rattle.rule_lang.proofs.Once.{one_program}

pub no_tokens : (text : List ℕ) (e : Refusal) → length text ≤ 65536 → NoTokensOf text e → IsRefusedAs text (refusal_fault e)
no_tokens text (refusal.Cause cause.TooLong) h n = absurd n
no_tokens text (refusal.Cause (cause.Lex at)) h n = (h, n)
no_tokens text (refusal.Cause (cause.Syntax at expected)) h n = absurd n
no_tokens text refusal.Memory h n = h

pub no_tree : (text : List ℕ) (tokens : List Tok) (e : Stuck) (r : Refusal) → length text ≤ 65536 → HasTokens text tokens → ((others : List Tok) → HasTokens text others → others ≡ tokens) → NoProgramOf tokens e → IsStuckAs e r → IsRefusedAs text (refusal_fault r)
no_tree text tokens (stuck.Token left expected) r h t only n s = rw s.1 (h, tokens, t, λ items p. n items (subst (λ x. HasTree x items) (only p.tokens p.words) p.tree))
no_tree text tokens stuck.Memory r h t only n s = rw s h

pub is_program : (text : List ℕ) (tokens : List Tok) (items : List ItemTree) → HasTokens text tokens → HasTree tokens items → IsProgram items
is_program text tokens items w t = (t.each, subst (AllByRecursion IsTok) t.spelling (all_toks text tokens w))

pub text_is_program : (text : List ℕ) (items : List ItemTree) → text ≡ program_text items → IsProgram items → HasProgram text items
text_is_program text items e p = record { tokens = flat_map spell_item items; words = rw e (put_program items p.1); tree = record { spelling = refl; each = p.0 } }

-- the canonical spelling of a program has its items
pub canonical_has : (items : List ItemTree) → IsProgram items → HasProgram (program_text items) items
canonical_has items p = text_is_program (program_text items) items refl p

-- what a canonical spelling of at most 65,536 bytes is read to
pub canonical_read : (items : List ItemTree) (answer : Result (List ItemTree) LangFault) → IsProgram items → length (program_text items) ≤ 65536 → IsReadAs (program_text items) (λ read. read) answer → MatchResult answer (λ read. read ≡ items) (λ e. e ≡ Memory)
canonical_read items (Ok read) p h r = one_program (program_text items) read items r.1 (canonical_has items p)
canonical_read items (Err TooLong) p h r = absurd (omega arith)
canonical_read items (Err (Lex at)) p h r = let k = canonical_has items p in absurd (r.1 k.tokens k.words)
canonical_read items (Err (Syntax at)) p h r = absurd (r.3 items (canonical_has items p))
canonical_read items (Err Memory) p h r = refl
