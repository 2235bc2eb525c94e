-- The places of a text's operations, and that there is one for each operation of its program.
use Rattle.std.proofs.Common.{◌≡◌, ℕ, ◌+◌, List, [], ◌∷◌, length, map, refl, sym, ap, subst, ◌∙◌, true, false, arith, length-append}
use Rattle.std.specs.Prelude.{Bool, codes, flat_map, zip, cond, if◌then◌else◌}
use Rattle.std.specs.List.{filter}
use Rattle.std.specs.Str.{bytes_eq}
use Rattle.std.proofs.lemmas.List.{length-map}
use Rattle.rule_lang.specs.declared.token.Lexeme.{Lexeme}
use Rattle.rule_lang.specs.declared.token.Sign.TheVariants.{Assign, Semicolon, Open, Close, Plus, Minus, Star, Slash, Percent, Ampersand, Bar, Caret, Equal, Differ, Less, LessEq, Greater, GreaterEq}
use Rattle.rule_lang.specs.declared.token.Sign.{Sign}
use Rattle.rule_lang.specs.Tokens.{Tok, WordTok, NearTok, NumberTok, SignTok, HasTokens, at_end, after_blank, after_comment, after_token, lefts, places}
use Rattle.rule_lang.specs.Tree.{ItemTree, HasTree}
use Rattle.rule_lang.specs.View.{tok_of, toks_of, StandIn}
use Rattle.rule_lang.specs.Program.{HasProgram}
use Rattle.rule_lang.proofs.Once.{one_list}
use Rattle.rule_cuts.specs.Operations.{operations_of}
use Rattle.rule_cuts.specs.Places.{IsTotal, kind_of, is_some, sign_kinds, token_kinds, places_in, operation_places, AreOperationPlaces}
use Rattle.rule_cuts.proofs.InOrder.{stand_in_order}

-- tokens in memory with their places
abbrev placed : List Lexeme → List (Tok × ℕ)
placed lexemes = zip (toks_of lexemes) (map (λ l. l.at) lexemes)

-- one token more
put : (b : Bool) (l : Lexeme) (ls : List Lexeme) (ps : List (Tok × ℕ)) → map (λ l. l.at) ls ≡ map (λ p. p.1) ps
    → map (λ l. l.at) (cond b (l ∷ ls) ls) ≡ map (λ p. p.1) (cond b ((tok_of l.token, l.at) ∷ ps) ps)
put true l ls ps same = ap (λ ats. l.at ∷ ats) same
put false l ls ps same = same

pub placed_same : (lexemes : List Lexeme) → places_in lexemes ≡ operation_places (placed lexemes)
placed_same [] = refl
placed_same (l ∷ lexemes) =
    put (is_some (token_kinds (tok_of l.token))) l (filter (λ l. is_some (token_kinds (tok_of l.token))) lexemes) (filter (λ p. is_some (token_kinds p.0)) (placed lexemes)) (placed_same lexemes)

pub are_places : (text at : List ℕ) (lexemes : List Lexeme) → StandIn text lexemes → at ≡ places_in lexemes → AreOperationPlaces text at
are_places text at lexemes stand is = record {
  tokens = toks_of lexemes;
  words = stand.words;
  is = is ∙ placed_same lexemes ∙ ap (λ ats. operation_places (zip (toks_of lexemes) ats)) (sym stand.at);
}

-- a token is one operation or none
word_one : (b : Bool) → length (if b then IsTotal ∷ [] else []) ≡ (if is_some (if b then IsTotal ∷ [] else []) then 1 else 0)
word_one true = refl
word_one false = refl

sign_one : (s : Sign) → length (sign_kinds s) ≡ (if is_some (sign_kinds s) then 1 else 0)
sign_one Assign = refl
sign_one Semicolon = refl
sign_one Open = refl
sign_one Close = refl
sign_one Plus = refl
sign_one Minus = refl
sign_one Star = refl
sign_one Slash = refl
sign_one Percent = refl
sign_one Ampersand = refl
sign_one Bar = refl
sign_one Caret = refl
sign_one Equal = refl
sign_one Differ = refl
sign_one Less = refl
sign_one LessEq = refl
sign_one Greater = refl
sign_one GreaterEq = refl

token_one : (t : Tok) → length (token_kinds t) ≡ (if is_some (token_kinds t) then 1 else 0)
token_one (WordTok w) = word_one (bytes_eq w (codes "total"))
token_one (NearTok w) = refl
token_one (NumberTok n) = refl
token_one (SignTok s) = sign_one s

-- as many places as operations
chosen : (b : Bool) (p : Tok × ℕ) (ps : List (Tok × ℕ)) → length (map (λ p. p.1) (cond b (p ∷ ps) ps)) ≡ (if b then 1 else 0) + length (map (λ p. p.1) ps)
chosen true p ps = omega arith
chosen false p ps = omega arith

as_many : (tokens : List Tok) (ats : List ℕ) → length ats ≡ length tokens → length (operation_places (zip tokens ats)) ≡ length (flat_map token_kinds tokens)
as_many [] ats even = refl
as_many (t ∷ tokens) [] even = absurd (omega (arith, even))
as_many (t ∷ tokens) (at ∷ ats) even =
    let rest : length (operation_places (zip tokens ats)) ≡ length (flat_map token_kinds tokens) = as_many tokens ats (omega (arith, even)) in
    omega (
      arith,
      chosen (is_some (token_kinds t)) (t, at) (filter (λ p. is_some (token_kinds p.0)) (zip tokens ats)),
      token_one t,
      rest,
      length-append (token_kinds t) (flat_map token_kinds tokens),
    )

one_place : (text : List ℕ) (tokens : List Tok) (words : HasTokens text tokens) → length (lefts text tokens words) ≡ length tokens
one_place _ _ at_end = refl
one_place _ _ (after_blank b rest tokens blank words) = one_place rest tokens words
one_place _ _ (after_comment bytes line rest tokens span words) = one_place rest tokens words
one_place _ _ (after_token bytes rest token tokens longest fits words) = omega (arith, one_place rest tokens words)

-- one place for each operation of the program
pub one_each : (text at : List ℕ) (items : List ItemTree) → HasProgram text items → AreOperationPlaces text at → length at ≡ length (operations_of items)
one_each text at items program found =
    let same : program.tokens ≡ found.tokens = one_list text program.tokens program.words found.tokens found.words in
    let tree : HasTree found.tokens items = subst (λ ts. HasTree ts items) same program.tree in
    ap length found.is
    ∙ as_many found.tokens (places text found.tokens found.words)
    (length-map (lefts text found.tokens found.words) _ ∙ one_place text found.tokens found.words)
    ∙ ap length (stand_in_order found.tokens items tree)
    ∙ length-map (operations_of items) kind_of
