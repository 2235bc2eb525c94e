-- Where names are refused.
use Rattle.std.proofs.Common.{◌≡◌, ℕ, List, [], refl, ap}
use Rattle.std.specs.Prelude.{Bool, true, false, ◌||◌, Some, None}
use Rattle.rule_check.specs.Value.{place}
use Rattle.rule_check.specs.WellFormed.{is_among}
use Rattle.model_rules.specs.declared.fault.Cause.TheVariants as cause
use Rattle.model_rules.specs.Terms.{OwnTerm, ParameterTerm, NearTerm}
use Rattle.model_rules.specs.Frames.{Frame}
use Rattle.model_rules.specs.Refusals.{let_for, apply_cause, call_cause, name_cause, near_let_cause, near_cause}
use Rattle.model_rules.specs.Parts.{unless_wrong, let_parts, seen_parts, name_parts, near_parts}
use Rattle.model_rules.specs.TermFor.{let_term, named_term, near_let_term, near_named_term}

-- no argument names the neighbour, where there is none
or_none : (b : Bool) → b ≡ (b || false)
or_none true = refl
or_none false = refl

pub name_parameter : (f : Frame) (later : List (List ℕ)) (name : List ℕ) (inside : Bool) → is_among f.parameters name ≡ true → name_cause f later name inside ≡ None
name_parameter f later name inside h = rw h refl

pub name_field : (f : Frame) (later : List (List ℕ)) (name : List ℕ) (inside : Bool) → is_among f.parameters name ≡ false → is_among f.fields name ≡ true → name_cause f later name inside ≡ None
name_field f later name inside h k = rw (h, k) refl

pub name_let : (f : Frame) (later : List (List ℕ)) (name : List ℕ) (inside : Bool) → is_among f.parameters name ≡ false → is_among f.fields name ≡ false → name_cause f later name inside ≡ apply_cause (let_for f.lets name) later name 0 (inside || false)
name_let f later name inside h k = rw (h, k) (ap (apply_cause (let_for f.lets name) later name 0) (or_none inside))

pub near_field : (f : Frame) (later : List (List ℕ)) (name : List ℕ) (inside : Bool) → inside ≡ true → is_among f.fields name ≡ true → near_cause f later name inside ≡ None
near_field f later name inside h k = rw (h, k) refl

pub near_let : (f : Frame) (later : List (List ℕ)) (name : List ℕ) (inside : Bool) → inside ≡ true → is_among f.fields name ≡ false → near_cause f later name inside ≡ near_let_cause (let_for f.lets name) later name
near_let f later name inside h k = rw (h, k) refl

pub near_outside : (f : Frame) (later : List (List ℕ)) (name : List ℕ) (inside : Bool) → inside ≡ false → near_cause f later name inside ≡ Some cause.NeighbourOutside
near_outside f later name inside h = rw h refl

-- the parts of names
pub free_parameter : (f : Frame) (later : List (List ℕ)) (name : List ℕ) (inside : Bool) → is_among f.parameters name ≡ true → unless_wrong (name_cause f later name inside) (name_parts f name) ≡ 0
free_parameter f later name inside h = rw h refl

pub free_field : (f : Frame) (later : List (List ℕ)) (name : List ℕ) (inside : Bool) → is_among f.parameters name ≡ false → is_among f.fields name ≡ true → unless_wrong (name_cause f later name inside) (name_parts f name) ≡ 0
free_field f later name inside h k = rw (h, k) refl

pub parts_let : (f : Frame) (name : List ℕ) → is_among f.parameters name ≡ false → is_among f.fields name ≡ false → name_parts f name ≡ let_parts (let_for f.lets name) []
parts_let f name h k = rw (h, k) refl

pub free_near : (f : Frame) (later : List (List ℕ)) (name : List ℕ) (inside : Bool) → inside ≡ true → is_among f.fields name ≡ true → unless_wrong (near_cause f later name inside) (near_parts f name) ≡ 0
free_near f later name inside h k = rw (h, k) refl

pub parts_near_let : (f : Frame) (name : List ℕ) → is_among f.fields name ≡ false → near_parts f name ≡ seen_parts (let_for f.lets name)
parts_near_let f name h = rw h refl

-- the terms of names
pub term_parameter : (f : Frame) (name : List ℕ) → is_among f.parameters name ≡ true → named_term f name ≡ ParameterTerm (place f.parameters name)
term_parameter f name h = rw h refl

pub term_field : (f : Frame) (name : List ℕ) → is_among f.parameters name ≡ false → is_among f.fields name ≡ true → named_term f name ≡ OwnTerm name
term_field f name h k = rw (h, k) refl

pub term_let : (f : Frame) (name : List ℕ) → is_among f.parameters name ≡ false → is_among f.fields name ≡ false → named_term f name ≡ let_term (let_for f.lets name) []
term_let f name h k = rw (h, k) refl

pub near_term_field : (f : Frame) (name : List ℕ) → is_among f.fields name ≡ true → near_named_term f name ≡ NearTerm name
near_term_field f name h = rw h refl

pub near_term_let : (f : Frame) (name : List ℕ) → is_among f.fields name ≡ false → near_named_term f name ≡ near_let_term (let_for f.lets name)
near_term_let f name h = rw h refl

-- a name with arguments: a parameter or a field, or another
pub call_alone : (f : Frame) (later : List (List ℕ)) (name : List ℕ) (count : ℕ) (within : Bool) → (is_among f.parameters name || is_among f.fields name) ≡ true → call_cause f later name count within ≡ Some cause.WrongCount
call_alone f later name count within h = rw h refl

pub call_let : (f : Frame) (later : List (List ℕ)) (name : List ℕ) (count : ℕ) (within : Bool) → (is_among f.parameters name || is_among f.fields name) ≡ false → call_cause f later name count within ≡ apply_cause (let_for f.lets name) later name count within
call_let f later name count within h = rw h refl
