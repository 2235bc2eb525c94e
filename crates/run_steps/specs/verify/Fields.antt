-- How values of fields are read from words, function by function: the clauses of private functions speak of this. What words give stands in Given.
use Rattle.std.specs.Prelude.{◌≡◌, ◌≢◌, ℕ, ◌==◌, Bool, true, false, MatchResult, List, [], ◌∷◌, length, nat_lt, set, Option, Some, None, Result, Ok, Err, if◌then◌else◌}
use Rattle.std.specs.List.{before_first, after_first, position_or_len}
use Rattle.std.specs.Option.{option_map, option_and_then, is_some}
use Rattle.rule_check.specs.Value.{place}
use Rattle.rule_check.specs.WellFormed.{is_among}
use Rattle.run_steps.specs.script.Words.{number_in}
use Rattle.run_steps.specs.declared.verify.entry.Given.{Given}
use Rattle.run_steps.specs.declared.verify.entry.Gathered.{Gathered}
use Rattle.run_steps.specs.declared.verify.fault.VerifyFault.{VerifyFault}
use Rattle.run_steps.specs.declared.verify.fault.VerifyFault.TheVariants.{BadField, FieldTwice, Memory}
use Rattle.run_steps.specs.verify.Given.{value_given}

-- =
abbrev pub is_equals : ℕ → Bool
is_equals b = b == 61

-- what stands before the first = of a word, and behind it, where it has one
abbrev pub split_equals : List ℕ → Option (List ℕ × List ℕ)
split_equals word =
    if nat_lt (position_or_len is_equals word) (length word) then Some (before_first is_equals word, after_first is_equals word) else None

-- the place of the field of this name, where one of these fields has it
abbrev pub field_called : List (List ℕ) → List ℕ → Option ℕ
field_called fields name = if is_among fields name then Some (place fields name) else None

-- the place of the field of this name, and the number that the other word spells
abbrev pub given_parts : List (List ℕ) → List ℕ × List ℕ → Option (ℕ × ℕ)
given_parts fields p = option_and_then (λ k. option_map (λ v. (k, v)) (number_in p.1)) (field_called fields p.0)

-- what a word `FIELD=VALUE` gives: the place of the field of the name before the first =, and the number after it
abbrev pub given_by : List (List ℕ) → List ℕ → Option (ℕ × ℕ)
given_by fields word = option_and_then (given_parts fields) (split_equals word)

-- no values
abbrev pub none_given : Given
none_given = record { values = None ∷ None ∷ None ∷ None ∷ None ∷ None ∷ None ∷ None ∷ [] }

-- nothing is given yet
abbrev pub none_gathered : Gathered
none_gathered = record { given = none_given; twice = false }

-- what is given so far, and what one word more gives
abbrev pub with_word : ℕ → Gathered → Option (ℕ × ℕ) → Result Gathered VerifyFault
with_word line gathered None = Err (BadField line)
with_word line gathered (Some p) =
    if is_some (value_given gathered.given p.0) then Ok (record { given = gathered.given; twice = true })
    else Ok (record { given = record { values = set gathered.given.values p.0 (Some p.1) }; twice = gathered.twice })

-- the values, where none is of a field that has one already
abbrev pub if_once : ℕ → Gathered → Result Given VerifyFault
if_once line gathered = if gathered.twice then Err (FieldTwice line) else Ok gathered.given

-- the next step, at the value of a step that succeeds
abbrev pub and_then : {A B : Type 0} → Result A VerifyFault → (A → Result B VerifyFault) → Result B VerifyFault
and_then (Ok x) next = next x
and_then (Err fault) next = Err fault

-- what was returned is the defined result, or stands for running out of memory
abbrev pub IsAnswer : {A : Type 0} → Result A VerifyFault → Result A VerifyFault → Type 0
IsAnswer defined r = MatchResult r (λ x. defined ≡ Ok x) (λ fault. fault ≢ Memory → defined ≡ Err fault)

-- the values that are given so far, and those that words give
abbrev pub with_words : List (List ℕ) → ℕ → Gathered → List (List ℕ) → Result Given VerifyFault
with_words fields line gathered [] = if_once line gathered
with_words fields line gathered (word ∷ words) = and_then (with_word line gathered (given_by fields word)) (λ more. with_words fields line more words)
