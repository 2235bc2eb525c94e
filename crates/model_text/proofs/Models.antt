-- From the tokens and the tree to the model.
use Rattle.std.proofs.Common.{◌≡◌, ℕ, ◌≤◌, List, subst, length}
use Rattle.model_text.specs.declared.fault.ModelFault.{ModelFault}
use Rattle.model_text.specs.declared.fault.ModelFault.TheVariants as fault
use Rattle.model_text.specs.declared.stuck.Stuck.{Stuck}
use Rattle.model_text.specs.declared.stuck.Stuck.TheVariants.{Token, Memory}
use Rattle.model_text.specs.Tokens.{Placed, HasTokens}
use Rattle.model_text.specs.Tree.{ItemTree}
use Rattle.model_text.specs.Grammar.{HasTree}
use Rattle.model_text.specs.Causes.{IsStuckAs, IsPlaced}
use Rattle.model_text.specs.Lexing.{NoTokensOf}
use Rattle.model_text.specs.Models.{HasModel, IsRefusedAs, NoTreeOf}
use Rattle.model_text.proofs.Lexing.{one_list}
use Rattle.model_text.proofs.Leads.{one_tree}

pub no_tokens : (text : List ℕ) (e : ModelFault) → length text ≤ 65536 → NoTokensOf text e → IsPlaced (length text) e → IsRefusedAs text e
no_tokens text fault.TooLong h n p = absurd n
no_tokens text (fault.Lex at) h n p = (h, p, n)
no_tokens text (fault.Syntax at expected) h n p = absurd n
no_tokens text fault.Memory h n p = h

pub no_tree : (text : List ℕ) (tokens : List Placed) (e : Stuck) (r : ModelFault) → length text ≤ 65536 → HasTokens (length text) text tokens → ((others : List Placed) → HasTokens (length text) text others → others ≡ tokens) → NoTreeOf tokens e → IsStuckAs e r → IsPlaced (length text) r → IsRefusedAs text r
no_tree text tokens (Token left expected) (fault.Syntax at x) h t only n s p = (h, p, tokens, t, λ items m. n items (subst (λ z. HasTree z items) (only m.tokens m.words) m.tree))
no_tree text tokens (Token left expected) fault.TooLong h t only n s p = absurd (let q = s.1 in cc)
no_tree text tokens (Token left expected) (fault.Lex at) h t only n s p = absurd (let q = s.1 in cc)
no_tree text tokens (Token left expected) fault.Memory h t only n s p = absurd (let q = s.1 in cc)
no_tree text tokens Memory r h t only n s p = rw s h

pub one_model : (text : List ℕ) (is js : List ItemTree) → HasModel text is → HasModel text js → is ≡ js
one_model text is js h k = one_tree is js h.tokens h.tree (subst (λ z. HasTree z js) (one_list (length text) text k.tokens k.words h.tokens h.words) k.tree)
