-- The first and the last of a list of which something is found, where that depends on what stands before it.
use Rattle.std.proofs.Common.{◌≡◌, List, [], ◌∷◌, ◌++◌, refl, sym, ap, ◌∙◌, subst}
use Rattle.std.specs.Prelude.{Option, Some, None}
use Rattle.std.specs.Option.{option_or}
use Rattle.std.proofs.lemmas.List.{append-nil, append_assoc}
use Rattle.model_rules.specs.declared.fault.ExpandFault.{ExpandFault}

-- there is nothing, or something
pub none_some : {A B : Type 0} {x : A} → None ≡ Some x → B
none_some h = absurd (cc)

pub some_none : {A B : Type 0} {x : A} → Some x ≡ None → B
some_none h = absurd (cc)

pub same_some : {A : Type 0} {x y : A} → Some x ≡ Some y → x ≡ y
same_some h = cc

pub or_assoc : (a b c : Option ExpandFault) → option_or a (option_or b c) ≡ option_or (option_or a b) c
or_assoc None b c = refl
or_assoc (Some x) b c = refl

pub or_none : (a : Option ExpandFault) → option_or a None ≡ a
or_none None = refl
or_none (Some x) = refl

-- one after others, and more after them
pub behind_one : {A : Type 0} (a : List A) (x : A) (b : List A) → (a ++ x ∷ []) ++ b ≡ a ++ x ∷ b
behind_one a x b = append_assoc a (x ∷ []) b

pub none_cut : {A : Type 0} (a : List A) (x : A) (b : List A) → [] ≡ a ++ x ∷ b → ⊥
none_cut [] x b e = absurd (cc)
none_cut (y ∷ a) x b e = absurd (cc)

module _ (A : Type 0) (F : List A → A → Option ExpandFault) where
  -- the first that is found of a list after others
  abbrev pub first_at : List A → List A → Option ExpandFault
  first_at passed [] = None
  first_at passed (x ∷ xs) = option_or (F passed x) (first_at (passed ++ x ∷ []) xs)

  -- nothing is found of any of a list
  abbrev pub AllNone : List A → List A → Type 0
  AllNone passed xs = (ahead : List A) (x : A) (rest : List A) → xs ≡ ahead ++ x ∷ rest → F (passed ++ ahead) x ≡ None

  pub record IsFirstAt (passed xs : List A) (e : ExpandFault) : Type 0 where
    pub ahead : List A
    pub here : A
    pub rest : List A
    pub cut : xs ≡ ahead ++ here ∷ rest
    pub is : F (passed ++ ahead) here ≡ Some e
    pub none : AllNone passed ahead

  pub none_empty : (passed : List A) → AllNone passed []
  none_empty passed ahead x rest e = absurd (none_cut ahead x rest e)

  at_nil : (passed : List A) (x : A) (o : Option ExpandFault) → F passed x ≡ o → F (passed ++ []) x ≡ o
  at_nil passed x o h = ap (λ (p : List A). F p x) (append-nil passed) ∙ h

  none_cons_at : (passed : List A) (y : A) (xs ahead : List A) (x : A) (rest : List A) → F passed y ≡ None → AllNone (passed ++ y ∷ []) xs → y ∷ xs ≡ ahead ++ x ∷ rest → F (passed ++ ahead) x ≡ None
  none_cons_at passed y xs [] x rest h r e =
      let same : y ≡ x = cc in
      subst (λ (z : A). F (passed ++ []) z ≡ None) same (at_nil passed y None h)
  none_cons_at passed y xs (z ∷ ahead) x rest h r e =
      let same : y ≡ z = cc in
      let tail : xs ≡ ahead ++ x ∷ rest = cc in
      subst (λ (w : A). F (passed ++ w ∷ ahead) x ≡ None) same (ap (λ (p : List A). F p x) (sym (behind_one passed y ahead)) ∙ r ahead x rest tail)

  pub none_cons : (passed : List A) (y : A) (xs : List A) → F passed y ≡ None → AllNone (passed ++ y ∷ []) xs → AllNone passed (y ∷ xs)
  none_cons passed y xs h r ahead x rest e = none_cons_at passed y xs ahead x rest h r e

  none_case : (passed : List A) (x : A) (xs : List A) (o : Option ExpandFault) → F passed x ≡ o → (first_at (passed ++ x ∷ []) xs ≡ None → AllNone (passed ++ x ∷ []) xs)
      → option_or o (first_at (passed ++ x ∷ []) xs) ≡ None → AllNone passed (x ∷ xs)
  none_case passed x xs None n rest g = none_cons passed x xs n (rest g)
  none_case passed x xs (Some e) n rest g = some_none g

  pub first_none : (passed xs : List A) → first_at passed xs ≡ None → AllNone passed xs
  first_none passed [] h = none_empty passed
  first_none passed (x ∷ xs) h = none_case passed x xs (F passed x) refl (first_none (passed ++ x ∷ []) xs) h

  pub none_first : (passed xs : List A) → AllNone passed xs → first_at passed xs ≡ None
  none_first passed [] h = refl
  none_first passed (x ∷ xs) h =
      let own : F passed x ≡ None = ap (λ (p : List A). F p x) (sym (append-nil passed)) ∙ h [] x xs refl in
      ap (λ (o : Option ExpandFault). option_or o (first_at (passed ++ x ∷ []) xs)) own
      ∙ none_first (passed ++ x ∷ []) xs (λ ahead y rest e. ap (λ (p : List A). F p y) (behind_one passed x ahead) ∙ h (x ∷ ahead) y rest (ap (λ (t : List A). x ∷ t) e))

  found_case : (passed : List A) (x : A) (xs : List A) (e : ExpandFault) (o : Option ExpandFault) → F passed x ≡ o → (first_at (passed ++ x ∷ []) xs ≡ Some e → IsFirstAt (passed ++ x ∷ []) xs e)
      → option_or o (first_at (passed ++ x ∷ []) xs) ≡ Some e → IsFirstAt passed (x ∷ xs) e
  found_case passed x xs e None n rest g =
      let r = rest g in
      record {
        ahead = x ∷ r.ahead;
        here = r.here;
        rest = r.rest;
        cut = ap (λ (t : List A). x ∷ t) r.cut;
        is = ap (λ (p : List A). F p r.here) (sym (behind_one passed x r.ahead)) ∙ r.is;
        none = none_cons passed x r.ahead n r.none;
      }
  found_case passed x xs e (Some y) n rest g = record { ahead = []; here = x; rest = xs; cut = refl; is = at_nil passed x (Some e) (n ∙ g); none = none_empty passed }

  pub first_found : (passed xs : List A) (e : ExpandFault) → first_at passed xs ≡ Some e → IsFirstAt passed xs e
  first_found passed [] e h = none_some h
  first_found passed (x ∷ xs) e h = found_case passed x xs e (F passed x) refl (first_found (passed ++ x ∷ []) xs e) h

  pub first_both : (passed xs ys : List A) → first_at passed (xs ++ ys) ≡ option_or (first_at passed xs) (first_at (passed ++ xs) ys)
  first_both passed [] ys = ap (λ (p : List A). first_at p ys) (sym (append-nil passed))
  first_both passed (x ∷ xs) ys =
      ap (option_or (F passed x)) (first_both (passed ++ x ∷ []) xs ys ∙ ap (λ (p : List A). option_or (first_at (passed ++ x ∷ []) xs) (first_at p ys)) (behind_one passed x xs))
      ∙ or_assoc (F passed x) (first_at (passed ++ x ∷ []) xs) (first_at (passed ++ x ∷ xs) ys)

  pub found_first : (passed xs : List A) (e : ExpandFault) → IsFirstAt passed xs e → first_at passed xs ≡ Some e
  found_first passed xs e h =
      ap (first_at passed) h.cut
      ∙ (first_both passed h.ahead (h.here ∷ h.rest)
      ∙ (ap (λ (o : Option ExpandFault). option_or o (first_at (passed ++ h.ahead) (h.here ∷ h.rest))) (none_first passed h.ahead h.none)
      ∙ ap (λ (o : Option ExpandFault). option_or o (first_at ((passed ++ h.ahead) ++ h.here ∷ []) h.rest)) h.is))

  -- the last that is found of a list after others
  abbrev pub last_at : List A → List A → Option ExpandFault
  last_at passed [] = None
  last_at passed (x ∷ xs) = option_or (last_at (passed ++ x ∷ []) xs) (F passed x)

  pub record IsLastAt (passed xs : List A) (e : ExpandFault) : Type 0 where
    pub ahead : List A
    pub here : A
    pub rest : List A
    pub cut : xs ≡ ahead ++ here ∷ rest
    pub is : F (passed ++ ahead) here ≡ Some e
    pub none : AllNone (passed ++ (ahead ++ here ∷ [])) rest

  or_both : (a b : Option ExpandFault) → option_or a b ≡ None → (a ≡ None) × (b ≡ None)
  or_both None b h = (refl, h)
  or_both (Some x) b h = some_none h

  pub last_none : (passed xs : List A) → last_at passed xs ≡ None → AllNone passed xs
  last_none passed [] h = none_empty passed
  last_none passed (x ∷ xs) h =
      let p = or_both (last_at (passed ++ x ∷ []) xs) (F passed x) h in
      none_cons passed x xs p.1 (last_none (passed ++ x ∷ []) xs p.0)

  pub none_last : (passed xs : List A) → AllNone passed xs → last_at passed xs ≡ None
  none_last passed [] h = refl
  none_last passed (x ∷ xs) h =
      let own : F passed x ≡ None = ap (λ (p : List A). F p x) (sym (append-nil passed)) ∙ h [] x xs refl in
      ap (λ (o : Option ExpandFault). option_or o (F passed x))
      (none_last (passed ++ x ∷ []) xs (λ ahead y rest e. ap (λ (p : List A). F p y) (behind_one passed x ahead) ∙ h (x ∷ ahead) y rest (ap (λ (t : List A). x ∷ t) e))) ∙ own

  last_case : (passed : List A) (x : A) (xs : List A) (e : ExpandFault) (o : Option ExpandFault) → last_at (passed ++ x ∷ []) xs ≡ o → (last_at (passed ++ x ∷ []) xs ≡ Some e → IsLastAt (passed ++ x ∷ []) xs e)
      → option_or o (F passed x) ≡ Some e → IsLastAt passed (x ∷ xs) e
  last_case passed x xs e None n rest g = record { ahead = []; here = x; rest = xs; cut = refl; is = at_nil passed x (Some e) g; none = last_none (passed ++ x ∷ []) xs n }
  last_case passed x xs e (Some y) n rest g =
      let r = rest (n ∙ g) in
      record {
        ahead = x ∷ r.ahead;
        here = r.here;
        rest = r.rest;
        cut = ap (λ (t : List A). x ∷ t) r.cut;
        is = ap (λ (p : List A). F p r.here) (sym (behind_one passed x r.ahead)) ∙ r.is;
        none = subst (λ (p : List A). AllNone p r.rest) (behind_one passed x (r.ahead ++ r.here ∷ [])) r.none;
      }

  pub last_found : (passed xs : List A) (e : ExpandFault) → last_at passed xs ≡ Some e → IsLastAt passed xs e
  last_found passed [] e h = none_some h
  last_found passed (x ∷ xs) e h = last_case passed x xs e (last_at (passed ++ x ∷ []) xs) refl (last_found (passed ++ x ∷ []) xs e) h

  pub last_both : (passed xs ys : List A) → last_at passed (xs ++ ys) ≡ option_or (last_at (passed ++ xs) ys) (last_at passed xs)
  last_both passed [] ys = ap (λ (p : List A). last_at p ys) (sym (append-nil passed)) ∙ sym (or_none (last_at (passed ++ []) ys))
  last_both passed (x ∷ xs) ys =
      ap (λ (o : Option ExpandFault). option_or o (F passed x)) (last_both (passed ++ x ∷ []) xs ys ∙ ap (λ (p : List A). option_or (last_at p ys) (last_at (passed ++ x ∷ []) xs)) (behind_one passed x xs))
      ∙ sym (or_assoc (last_at (passed ++ x ∷ xs) ys) (last_at (passed ++ x ∷ []) xs) (F passed x))

  pub found_last : (passed xs : List A) (e : ExpandFault) → IsLastAt passed xs e → last_at passed xs ≡ Some e
  found_last passed xs e h =
      let rest : AllNone ((passed ++ h.ahead) ++ h.here ∷ []) h.rest = subst (λ (p : List A). AllNone p h.rest) (sym (append_assoc passed h.ahead (h.here ∷ []))) h.none in
      ap (last_at passed) h.cut
      ∙ (last_both passed h.ahead (h.here ∷ h.rest)
      ∙ (ap (λ (o : Option ExpandFault). option_or (option_or o (F (passed ++ h.ahead) h.here)) (last_at passed h.ahead)) (none_last ((passed ++ h.ahead) ++ h.here ∷ []) h.rest rest)
      ∙ ap (λ (o : Option ExpandFault). option_or o (last_at passed h.ahead)) h.is))
