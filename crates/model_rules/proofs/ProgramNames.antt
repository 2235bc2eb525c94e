-- The names of a model's fields are words, and no reserved words of the rule language.
use Rattle.std.proofs.Common.{◌≡◌, ℕ, suc, ◌+◌, ◌-◌, List, [], ◌∷◌, ◌++◌, Bool, true, false, cond, Option, Some, None, refl, sym, ap, subst, ◌∙◌, arith, take, drop, length, codes}
use Rattle.std.specs.Prelude.{◌==◌, ◌≢◌, nat_le, nat_eq}
use Rattle.std.specs.List.{AllByRecursion, prefix_len}
use Rattle.std.specs.Option.{option_map}
use Rattle.std.specs.Char.{is_ascii_alphabetic, is_ascii_digit}
use Rattle.rule_lang.specs.Tokens.{IsWord, is_blank, is_word_byte}
use Rattle.rule_lang.specs.Tree.{IsName}
use Rattle.rule_lang.proofs.Bytes.{letter_in_word, span_at}
use Rattle.rule_check.specs.WellFormed.{IsFieldName}
use Rattle.rule_check.proofs.Lists.{all_behind}
use Rattle.model_text.specs.declared.keyword.Keyword.{Keyword}
use Rattle.model_text.specs.declared.keyword.Keyword.TheVariants as word
use Rattle.model_text.specs.declared.tree.Function.TheVariants as function
use Rattle.model_text.specs.declared.token.Sign.{Sign}
use Rattle.model_text.specs.declared.lex.Sort.TheVariants as sort
use Rattle.model_text.specs.Keywords.{keyword_of}
use Rattle.model_text.specs.Tokens.{Tok, KeywordTok, NameTok, NearTok, NearIdTok, NearWeightTok, NumberTok, DecimalTok, SignTok, Placed, placed, belongs, run, word_only, word_tok, near_only, near_tok, sized, sign_only, short_sign_of, long_sign_of, long_or_short, sign_at, begins_near, word_at, near_at, begins_fraction, fraction_behind, whole_value, decimal_only, decimal_tok, decimal_at, numeral_value, number_at, token_at, stepped, step_at, HasTokens, at_end, after_gap, after_token}
use Rattle.model_text.specs.Tree.{ItemTree, ConstTree, StatesTree, FieldTree, LetTree, NextTree, NameAt}
use Rattle.model_text.specs.Grammar.{Comes, SpellsName, HasTree}
use Rattle.model_text.proofs.Ends.{Ends, item_ends}
use Rattle.model_rules.specs.Models.{fields_of}

-- a name is a word, and none that is reserved
abbrev pub IsNamed : Tok → Type 0
IsNamed (KeywordTok k) = Unit {0}
IsNamed (NameTok w) = IsWord w × (keyword_of w ≡ None)
IsNamed (NearTok w) = Unit {0}
IsNamed NearIdTok = Unit {0}
IsNamed NearWeightTok = Unit {0}
IsNamed (NumberTok n) = Unit {0}
IsNamed (DecimalTok d) = Unit {0}
IsNamed (SignTok s) = Unit {0}

abbrev pub IsNamedAt : Placed → Type 0
IsNamedAt (placed token at) = IsNamed token

-- the same of a token that may be there
abbrev pub MaybeNamed : Option Tok → Type 0
MaybeNamed None = Unit {0}
MaybeNamed (Some token) = IsNamed token

abbrev pub SizedNamed : Option (Tok × ℕ) → Type 0
SizedNamed None = Unit {0}
SizedNamed (Some x) = IsNamed x.0

abbrev pub StepNamed : Option (Option Tok × ℕ) → Type 0
StepNamed None = Unit {0}
StepNamed (Some x) = MaybeNamed x.0

-- one of two
either_maybe : (t : Bool) (o p : Option Tok) → MaybeNamed o → MaybeNamed p → MaybeNamed (cond t o p)
either_maybe true o p h g = h
either_maybe false o p h g = g

either_sized : (t : Bool) (o p : Option (Tok × ℕ)) → (t ≡ true → SizedNamed o) → SizedNamed p → SizedNamed (cond t o p)
either_sized true o p h g = h refl
either_sized false o p h g = g

either_step : (t : Bool) (o p : Option (Option Tok × ℕ)) → StepNamed o → StepNamed p → StepNamed (cond t o p)
either_step true o p h g = h
either_step false o p h g = g

sized_named : (o : Option Tok) (n : ℕ) → MaybeNamed o → SizedNamed (sized o n)
sized_named None n h = tt
sized_named (Some t) n h = h

-- words
run_word : (b : ℕ) (bytes : List ℕ) → is_ascii_alphabetic b ≡ true → IsWord (run sort.Word (b ∷ bytes))
run_word b bytes e =
    let w : belongs sort.Word b ≡ true = letter_in_word b e in
    let n : 1 + prefix_len (belongs sort.Word) bytes ≡ suc (prefix_len (belongs sort.Word) bytes) = omega arith in
    let k : prefix_len (belongs sort.Word) (b ∷ bytes) ≡ suc (prefix_len (belongs sort.Word) bytes) = rw w n in
    subst (λ (m : ℕ). IsWord (take m (b ∷ bytes))) (sym k) (e, (span_at (belongs sort.Word) bytes).each)

word_named : (w : List ℕ) → IsWord w → IsNamed (word_tok w)
word_named w h = elim (keyword_of w) as (λ o. keyword_of w ≡ o → IsNamed (word_only o w)) [
  | None ↦ (λ e. (h, e))
  | Some k ↦ (λ e. tt)
] refl

near_one : (o : Option Keyword) (w : List ℕ) → MaybeNamed (near_only o w)
near_one None w = tt
near_one (Some word.Id) w = tt
near_one (Some word.Weight) w = tt
near_one (Some _) w = tt

near_named : (w : List ℕ) → MaybeNamed (near_tok w)
unfolding near_tok
near_named w = near_one (keyword_of w) w

-- numbers
decimal_one : (o : Option ℕ) (n : ℕ) → MaybeNamed (decimal_only o n)
decimal_one None n = tt
decimal_one (Some m) n = tt

number_one : (o : Option ℕ) → MaybeNamed (option_map NumberTok o)
number_one None = tt
number_one (Some m) = tt

decimal_named : (a b : List ℕ) → MaybeNamed (decimal_tok a b)
decimal_named a b = either_maybe (nat_le (length b) 9) _ None (decimal_one _ (length b)) tt

-- signs
sign_one : (o : Option Sign) (n : ℕ) → SizedNamed (sign_only o n)
sign_one None n = tt
sign_one (Some s) n = tt

long_one : (o p : Option Sign) → SizedNamed (long_or_short o p)
long_one None p = sign_one p 0
long_one (Some s) p = tt

sign_named : (b : ℕ) (bytes : List ℕ) → SizedNamed (sign_at b bytes)
unfolding sign_at
sign_named b [] = sign_one (short_sign_of b) 0
sign_named b (c ∷ bytes) = either_sized (nat_eq c 61) _ _ (λ e. long_one (long_sign_of b) (short_sign_of b)) (sign_one (short_sign_of b) 0)

-- what stands at the front of bytes
near_front : (bytes : List ℕ) → SizedNamed (near_at bytes)
near_front bytes = sized_named (near_tok (run sort.Word (drop 2 bytes))) _ (near_named (run sort.Word (drop 2 bytes)))

decimal_front : (bytes : List ℕ) → SizedNamed (decimal_at bytes)
decimal_front bytes =
    let digits = run sort.Digit bytes in
    let fraction = fraction_behind (length digits) bytes in
    sized_named (decimal_tok digits fraction) (length digits + length fraction) (decimal_named digits fraction)

number_front : (bytes : List ℕ) → SizedNamed (number_at bytes)
number_front bytes =
    let digits = run sort.Numeral bytes in
    sized_named (option_map NumberTok (numeral_value digits)) (length digits - 1) (number_one (numeral_value digits))

token_named : (b : ℕ) (bytes : List ℕ) → SizedNamed (token_at (b ∷ bytes))
unfolding token_at
token_named b bytes =
    either_sized (is_ascii_alphabetic b) _ _
    (λ e. either_sized (begins_near (b ∷ bytes)) (near_at (b ∷ bytes)) (word_at (b ∷ bytes)) (λ f. near_front (b ∷ bytes)) (word_named _ (run_word b bytes e)))
    (either_sized (is_ascii_digit b) _ _
    (λ e. either_sized (begins_fraction (drop (length (run sort.Digit (b ∷ bytes))) (b ∷ bytes))) (decimal_at (b ∷ bytes)) (number_at (b ∷ bytes)) (λ f. decimal_front (b ∷ bytes)) (number_front (b ∷ bytes)))
    (sign_named b bytes))

stepped_named : (o : Option (Tok × ℕ)) → SizedNamed o → StepNamed (stepped o)
stepped_named None h = tt
stepped_named (Some x) h = h

step_named : (b : ℕ) (bytes : List ℕ) → StepNamed (step_at (b ∷ bytes))
unfolding step_at
step_named b bytes = either_step (is_blank b) _ _ tt (either_step (b == 35) _ _ tt (stepped_named (token_at (b ∷ bytes)) (token_named b bytes)))

all_named : (end : ℕ) (bytes : List ℕ) (ts : List Placed) → HasTokens end bytes ts → AllByRecursion IsNamedAt ts
all_named _ _ _ (at_end end) = tt
all_named _ _ _ (after_gap end b size bytes ts s h) = all_named end (drop size bytes) ts h
all_named _ _ _ (after_token end b size bytes token ts s h) = (subst StepNamed s (step_named b bytes), all_named end (drop size bytes) ts h)

-- what is reserved in the rule language is so in models
differs : (w r : List ℕ) (k : Keyword) → keyword_of r ≡ Some k → keyword_of w ≡ None → w ≢ r
differs w r k f e = λ q. let c : Some k ≡ None = sym f ∙ ap keyword_of (sym q) ∙ e in cc

free_name : (w : List ℕ) → keyword_of w ≡ None → IsName w
unfolding keyword_of
free_name w e = (
  differs w (codes "field") word.Field refl e,
  (
    differs w (codes "next") word.Next refl e,
    (
      differs w (codes "id") word.Id refl e,
      (
        differs w (codes "degree") word.Degree refl e,
        (
          differs w (codes "not") word.Not refl e,
          (
            differs w (codes "min") (word.Function function.Min) refl e,
            (
              differs w (codes "max") (word.Function function.Max) refl e,
              (
                differs w (codes "total") (word.Function function.Total) refl e,
                (
                  differs w (codes "least") (word.Function function.Least) refl e,
                  (
                    differs w (codes "most") (word.Function function.Most) refl e,
                    (
                      differs w (codes "count") (word.Function function.Count) refl e,
                      (
                        differs w (codes "any") (word.Function function.Any) refl e,
                        (
                          differs w (codes "all") (word.Function function.All) refl e,
                          (
                            differs w (codes "if") word.If refl e,
                            (
                              differs w (codes "then") word.Then refl e,
                              (
                                differs w (codes "else") word.Else refl e,
                                (
                                  differs w (codes "round") word.Round refl e,
                                  (differs w (codes "weight") word.Weight refl e, tt),
                                ),
                              ),
                            ),
                          ),
                        ),
                      ),
                    ),
                  ),
                ),
              ),
            ),
          ),
        ),
      ),
    ),
  ),
)

-- the names of fields
comes_named : (token : Tok) (ts rest : List Placed) → Comes token ts rest → AllByRecursion IsNamedAt ts → AllByRecursion IsNamedAt rest
comes_named token ts rest c h = (subst (AllByRecursion IsNamedAt) c.1 h).1

name_named : (n : NameAt) (ts rest : List Placed) → SpellsName n ts rest → AllByRecursion IsNamedAt ts → IsFieldName n.name
name_named n ts rest s h = let p = (subst (AllByRecursion IsNamedAt) s h).0 in (p.0, free_name n.name p.1)

ends_named : (ts rest : List Placed) → Ends ts rest → AllByRecursion IsNamedAt ts → AllByRecursion IsNamedAt rest
ends_named ts rest e h = all_behind IsNamedAt e.front rest (subst (AllByRecursion IsNamedAt) e.cut h)

fields_named : (items : List ItemTree) (ts : List Placed) → HasTree ts items → AllByRecursion IsNamedAt ts → AllByRecursion IsFieldName (fields_of items)
fields_named [] ts h a = tt
fields_named (ConstTree n v ∷ items) ts h a = fields_named items h.0 h.2 (ends_named ts h.0 (item_ends (ConstTree n v) ts h.0 h.1).ends a)
fields_named (StatesTree n members ∷ items) ts h a = fields_named items h.0 h.2 (ends_named ts h.0 (item_ends (StatesTree n members) ts h.0 h.1).ends a)
fields_named (FieldTree n states v ∷ items) ts h a =
    let s = h.1 in
    (name_named n s.0 s.1 s.4 (comes_named _ ts s.0 s.3 a), fields_named items h.0 h.2 (ends_named ts h.0 (item_ends (FieldTree n states v) ts h.0 h.1).ends a))
fields_named (LetTree n parameters v ∷ items) ts h a = fields_named items h.0 h.2 (ends_named ts h.0 (item_ends (LetTree n parameters v) ts h.0 h.1).ends a)
fields_named (NextTree n v ∷ items) ts h a = fields_named items h.0 h.2 (ends_named ts h.0 (item_ends (NextTree n v) ts h.0 h.1).ends a)

-- the names of the fields of a text's model are names of the rule language
pub names_of_fields : (end : ℕ) (text : List ℕ) (ts : List Placed) (items : List ItemTree) → HasTokens end text ts → HasTree ts items → AllByRecursion IsFieldName (fields_of items)
names_of_fields end text ts items words tree = fields_named items ts tree (all_named end text ts words)
