-- The text of closed JSON has no `<`.
use Rattle.std.proofs.Common.{◌≡◌, ◌≢◌, ◌==◌, ◌<◌, ◌+◌, ◌/◌, ◌%◌, ◌++◌, ◌||◌, ℕ, zero, suc, pos, negsuc, List, [], ◌∷◌, Bool, true, false, All, cond, arith, decimal, nat_lt, not, refl}
use Rattle.std.proofs.lemmas.Bool.{and_parts}
use Rattle.std.proofs.lemmas.Grind.{common_steps}
use Rattle.std.proofs.lemmas.List.Elements.{All-from_recursion}
use Rattle.std.specs.Char.{digit_char}
use Rattle.std.specs.Fmt.{digit_glyph, digits, digits_onto}
use Rattle.std.specs.List.{AllByRecursion}
use Rattle.json.specs.Print.{escape, escape_byte, escape_letter, quoted}
use Rattle.serde_json.specs.Data.{Num, unsigned, negative, float, Data, null, boolean, number, string, array, object, Items, no_items, item, Members, no_members, member}
use Rattle.serde_json.specs.Find.{is_float}
use Rattle.serde_json.specs.Written.{comma_if, compact_text, has_float, items_have_float, items_text, members_have_float, members_text, number_text}
use Rattle.run_page.specs.Closed.{IsClosed, ItemsAreClosed, MembersAreClosed, is_closed}

abbrev Other : ℕ → Type 0
Other b = b ≢ 60

abbrev Others : List ℕ → Type 0
Others = AllByRecursion Other

either : {A : Type 0} (P : A → Type 0) (b : Bool) (x y : A) → P x → P y → P (cond b x y)
either P true x y p q = p
either P false x y p q = q

other : (b : ℕ) → not (b == 60) ≡ true → Other b
other b test is = grind (arith, common_steps, test, is)

others : (text : List ℕ) → is_closed text ≡ true → Others text
others [] test = tt
others (b ∷ text) test = let parts = and_parts (not (b == 60)) (is_closed text) test in (other b parts.0, others text parts.1)

joined : (xs ys : List ℕ) → Others xs → Others ys → Others (xs ++ ys)
joined [] ys p q = q
joined (x ∷ xs) ys p q = (p.0, joined xs ys p.1 q)

-- digits
figure : (b : Bool) (d : ℕ) → nat_lt d 10 ≡ b → cond b (48 + d) (87 + d) ≢ 60
figure true d low is = let small : d < 10 = grind (arith, common_steps, low) in absurd (omega (arith, small, is))
figure false d low is = absurd (omega (arith, is))

onto : (k n : ℕ) (rest : List ℕ) → Others rest → Others (digits_onto k 10 false n rest)
onto zero n rest p = p
onto (suc k) n rest p =
    let d = digit_glyph false (n % 10) in
    let here : Others (d ∷ rest) = (figure (nat_lt (n % 10) 10) (n % 10) refl, p) in
    either Others (n / 10 == 0) (d ∷ rest) (digits_onto k 10 false (n / 10) (d ∷ rest)) here (onto k (n / 10) (d ∷ rest) here)

decimals : (n : ℕ) → Others (decimal n)
unfolding digits
decimals n = onto 64 n [] tt

numerals : (n : Num) → is_float n ≡ false → Others (number_text n)
numerals (unsigned n) whole = decimals n
numerals (negative (pos n)) whole = decimals n
numerals (negative (negsuc n)) whole = (other 45 refl, decimals (suc n))
numerals (float x) whole = absurd cc

-- texts in quotes
letter : (x : ℕ) → Other x → Other (escape_letter x)
letter x p =
    either Other ((x == 34) || (x == 92)) x _ p
    (either Other (x == 8) 98 _ (other 98 refl)
    (either Other (x == 12) 102 _ (other 102 refl)
    (either Other (x == 10) 110 _ (other 110 refl)
    (either Other (x == 13) 114 _ (other 114 refl)
    (either Other (x == 9) 116 0 (other 116 refl) (other 0 refl))))))

escaped : (x : ℕ) → Other x → Others (escape_byte x)
unfolding escape_byte
escaped x p =
    either Others (nat_lt 0 (escape_letter x)) (92 ∷ escape_letter x ∷ []) _ (other 92 refl, (letter x p, tt))
    (either Others (nat_lt x 32) (92 ∷ 117 ∷ 48 ∷ 48 ∷ digit_char (x / 16) ∷ digit_char (x % 16) ∷ []) (x ∷ [])
    (other 92 refl, (other 117 refl, (other 48 refl, (other 48 refl, (figure (nat_lt (x / 16) 10) (x / 16) refl, (figure (nat_lt (x % 16) 10) (x % 16) refl, tt))))))
    (p, tt))

escapes : (s : List ℕ) → Others s → Others (escape s)
escapes [] p = tt
escapes (x ∷ s) p = joined (escape_byte x) (escape s) (escaped x p.0) (escapes s p.1)

quotes : (s : List ℕ) → is_closed s ≡ true → Others (quoted s)
quotes s test = (other 34 refl, joined (escape s) (34 ∷ []) (escapes s (others s test)) (other 34 refl, tt))

comma : (later : Bool) → Others (comma_if later)
comma true = (other 44 refl, tt)
comma false = tt

mutual
  text_others : (d : Data) → IsClosed d → Others (compact_text d)
  text_others null closed = others (compact_text null) refl
  text_others (boolean true) closed = others (compact_text (boolean true)) refl
  text_others (boolean false) closed = others (compact_text (boolean false)) refl
  text_others (number n) closed = numerals n closed
  text_others (string s) closed = quotes s closed
  text_others (array ds) closed = (other 91 refl, items_others false ds closed)
  text_others (object ms) closed = (other 123 refl, members_others false ms closed)

  items_others : (later : Bool) (ds : Items) → ItemsAreClosed ds → Others (items_text later ds)
  items_others later no_items closed = (other 93 refl, tt)
  items_others later (item d ds) closed =
      joined (comma_if later) (compact_text d ++ items_text true ds) (comma later)
      (joined (compact_text d) (items_text true ds) (text_others d closed.0) (items_others true ds closed.1))

  members_others : (later : Bool) (ms : Members) → MembersAreClosed ms → Others (members_text later ms)
  members_others later no_members closed = (other 125 refl, tt)
  members_others later (member k d ms) closed =
      joined (comma_if later) (quoted k ++ 58 ∷ (compact_text d ++ members_text true ms)) (comma later)
      (joined (quoted k) (58 ∷ (compact_text d ++ members_text true ms)) (quotes k closed.0)
      (other 58 refl, joined (compact_text d) (members_text true ms) (text_others d closed.1) (members_others true ms closed.2)))

-- no key and no text has a `<`, and no number is a float: then the text has no `<`
pub closed_text : (d : Data) → IsClosed d → All (λ b. b ≢ 60) (compact_text d)
closed_text d closed = All-from_recursion (λ b. b ≢ 60) (compact_text d) (text_others d closed)

mutual
  -- and the data has no float
  pub no_float : (d : Data) → IsClosed d → has_float d ≡ false
  no_float null closed = refl
  no_float (boolean b) closed = refl
  no_float (number n) closed = closed
  no_float (string s) closed = refl
  no_float (array ds) closed = no_float_in ds closed
  no_float (object ms) closed = no_float_under ms closed

  no_float_in : (ds : Items) → ItemsAreClosed ds → items_have_float ds ≡ false
  no_float_in no_items closed = refl
  no_float_in (item d ds) closed = rw (no_float d closed.0) (no_float_in ds closed.1)

  no_float_under : (ms : Members) → MembersAreClosed ms → members_have_float ms ≡ false
  no_float_under no_members closed = refl
  no_float_under (member k d ms) closed = rw (no_float d closed.1) (no_float_under ms closed.2)
