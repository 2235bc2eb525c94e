-- States that are read are those that their members give.
use Rattle.std.proofs.Common.{◌≡◌, ℕ, zero, suc, ◌+◌, ◌≤◌, ◌<◌, ◌^◌, ◌==◌, true, cond, List, [], ◌∷◌, length, get_or, slice_get, Option, Some, None, Ok, Err, inl, inr, refl, sym, ap, ◌∙◌, subst, arith}
use Rattle.std.specs.List.{count_by}
use Rattle.std.specs.Option.{is_some}
use Rattle.std.proofs.lemmas.Bool.Decides.{Decides-eqb}
use Rattle.std.proofs.lemmas.List.Sums.{sum_by-cons}
use Rattle.serde_json.specs.Data.{Data, null, boolean, number, string, array, object, unsigned, Members}
use Rattle.serde_json.specs.Find.{get, get_member}
use Rattle.run_steps.specs.declared.verify.entry.Given.{Given}
use Rattle.run_steps.specs.declared.verify.fault.VerifyFault.{VerifyFault}
use Rattle.run_steps.specs.declared.verify.fault.VerifyFault.TheVariants.{BadState}
use Rattle.run_steps.specs.verify.Fields.{and_then, none_given}
use Rattle.run_steps.specs.verify.Given.{value_given}
use Rattle.run_steps.specs.verify.Objects.{word_by, with_word, with_member, with_fields, members_in, if_all, size_of, values_by}
use Rattle.run_steps.specs.verify.SaidByObjects.{AreApart, SaysValue, Give, StateGives}
use Rattle.run_steps.proofs.script.Choosing.{choice}
use Rattle.run_steps.proofs.verify.Choosing.{then-ok, then-err}
use Rattle.run_steps.proofs.verify.Filling.{word-number, number-word, by_member, Fills, fills, filling}
use Rattle.run_steps.proofs.verify.Gathering.{none-given, same-given}
use Rattle.run_steps.proofs.verify.Keys.{found-member, member-found, AreDistinct, AreAllNamed, hits, has_member, hits-all, all-hit}

-- ---- how many values are given

-- as many values are given as names have a member
given-count : (ms : Members) (values : List (Option ℕ)) (names : List (List ℕ)) → length names ≤ length values → ((i : ℕ) (name : List ℕ) → slice_get names i ≡ Some name → is_some (get_or values i None) ≡ has_member ms name)
    → ((i : ℕ) → length names ≤ i → get_or values i None ≡ None) → count_by is_some values ≡ hits names ms
given-count ms [] [] low at past = refl
given-count ms [] (name ∷ names) low at past = absurd (omega arith)
given-count ms (x ∷ xs) [] low at past =
    let ih = given-count ms xs [] (omega arith) (λ i name is. absurd (cc)) (λ i less. past (suc i) (omega arith)) in
    let none : x ≡ None = past 0 (omega arith) in
    let c = sum_by-cons (λ (o : Option ℕ). cond (is_some o) 1 0) x xs ∙ ap (λ (o : Option ℕ). cond (is_some o) 1 0 + count_by is_some xs) none in
    omega (arith, c, ih)
given-count ms (x ∷ xs) (name ∷ names) low at past =
    let ih = given-count ms xs names (omega arith) (λ i n is. at (suc i) n is) (λ i less. past (suc i) (omega arith)) in
    let one : is_some x ≡ has_member ms name = at 0 name refl in
    let a = sum_by-cons (λ (o : Option ℕ). cond (is_some o) 1 0) x xs ∙ ap (λ b. cond b 1 0 + count_by is_some xs) one in
    let b = sum_by-cons (λ (n : List ℕ). cond (has_member ms n) 1 0) name names in
    omega (arith, a, b, ih)

module _ (fields : List (List ℕ)) (few : length fields ≤ 8) (line : ℕ) where
  -- what is read of the fields of a state's members
  module _ (ms : Members) (given : Given) (read : with_fields line (object ms) none_given 0 fields ≡ Ok given) where
    f : Fills line (object ms) 0 none_given fields given
    f = fills line (object ms) fields 0 none_given given (omega arith) refl read

    -- the value of the field of a name
    at-name : (k : ℕ) (name : List ℕ) → slice_get fields k ≡ Some name → value_given given k ≡ by_member None (get_member name ms)
    at-name k name is =
        let here : 0 + k ≡ k = omega arith in
        sym (ap (value_given given) here) ∙ f.at k name is ∙ ap (λ o. by_member o (get_member name ms)) (none-given (0 + k))

    past-names : (k : ℕ) → length fields ≤ k → value_given given k ≡ None
    past-names k more = f.behind k (omega arith) ∙ none-given k

    named : (k v : ℕ) → value_given given k ≡ Some v → (name : List ℕ) × (slice_get fields k ≡ Some name)
    named k v h =
        within (slice_get fields k) refl where
          within : (o : Option (List ℕ)) → slice_get fields k ≡ o → (name : List ℕ) × (slice_get fields k ≡ Some name)
          within None none = absurd (let past = past-none fields k none in let no = past-names k past in let bad : ◌≡◌ {A = Option ℕ} None (Some v) = sym no ∙ h in cc) where
            past-none : (xs : List (List ℕ)) (i : ℕ) → slice_get xs i ≡ None → length xs ≤ i
            past-none [] i e = omega arith
            past-none (x ∷ xs) zero e = absurd (cc)
            past-none (x ∷ xs) (suc i) e = (let ih = past-none xs i e in omega arith)
          within (Some name) some = (name, some)

    -- values that are given are those of members
    value-said : (k v : ℕ) → value_given given k ≡ Some v → SaysValue fields ms k v
    value-said k v h = (let n = named k v h in by_name n.0 n.1 (get_member n.0 ms) refl) where
      by_name : (name : List ℕ) → slice_get fields k ≡ Some name → (o : Option Data) → get_member name ms ≡ o → SaysValue fields ms k v
      by_name name is None none = (let e = sym (at-name k name is ∙ ap (by_member None) none) ∙ h in absurd (cc))
      by_name name is (Some d) found =
          let w = word-number d v (sym (at-name k name is ∙ ap (by_member None) found) ∙ h) in
          (name, is, found-member name (number (unsigned v)) ms (found ∙ ap Some w.0), w.1)

    said-value : AreApart ms → (k v : ℕ) → SaysValue fields ms k v → value_given given k ≡ Some v
    said-value apart k v s = at-name k s.0 s.1 ∙ ap (by_member None) (member-found s.0 (number (unsigned v)) ms apart s.2) ∙ number-word v s.3

    -- as many are given as fields have a member
    count : count_by is_some given.values ≡ hits fields ms
    count =
        let wide = f.places in
        given-count ms given.values fields (omega arith) (λ i name is. ap is_some (at-name i name is) ∙ has i name is (get_member name ms) refl) past-names where
          has : (i : ℕ) (name : List ℕ) → slice_get fields i ≡ Some name → (o : Option Data) → get_member name ms ≡ o → is_some (by_member None (get_member name ms)) ≡ is_some (get_member name ms)
          has i name is None none = ap (λ o. is_some (by_member None o)) none ∙ sym (ap is_some none)
          has i name is (Some d) found = (let w = f.good i name d is found in ap (λ o. is_some (by_member None o)) found ∙ ap is_some w.1 ∙ sym (ap is_some found))

  module _ (distinct : AreDistinct fields) where
    -- what members that are read give
    members-give : (ms : Members) (given : Given) → with_fields line (object ms) none_given 0 fields ≡ Ok given → count_by is_some given.values ≡ members_in ms → Give fields ms given
    members-give ms given read as_many =
        let all = hits-all fields distinct ms (sym (count ms given read) ∙ as_many) in
        record {
          each = λ name value is. (
              let n = all.1 name value is in
              let w = (f ms given read).good n.0 name value n.1 (member-found name value ms all.0 is) in
              let v = word-number value w.0 w.1 in
              (n.0, w.0, n.1, v.0, v.1));
          apart = all.0;
          places = (f ms given read).places;
          exactly = λ k v. (λ h. value-said ms given read k v h, λ s. said-value ms given read all.0 k v s);
        }

    -- members that give values are read as those
    give-members : (ms : Members) (given : Given) → Give fields ms given → (with_fields line (object ms) none_given 0 fields ≡ Ok given) × (count_by is_some given.values ≡ members_in ms)
    give-members ms given h =
        let good = λ (i : ℕ) (name : List ℕ) (d : Data) (is : slice_get fields i ≡ Some name) (found : get_member name ms ≡ Some d). numbered name d (h.each name d (found-member name d ms found)) in
        let r = filling line (object ms) fields 0 none_given good in
        let same = same-given r.0 given (f ms r.0 r.1).places h.places (λ k v. (λ e. (h.exactly k v).1 (value-said ms r.0 r.1 k v e), λ e. said-value ms r.0 r.1 h.apart k v ((h.exactly k v).0 e))) in
        let named_all : AreAllNamed fields distinct ms = λ name value is. (let e = h.each name value is in (e.0, e.2)) in
        let counted = count ms r.0 r.1 ∙ all-hit fields distinct ms h.apart named_all in
        (r.1 ∙ ap Ok same, ap (λ (g : Given). count_by is_some g.values) (sym same) ∙ counted) where
          numbered : (name : List ℕ) (d : Data) → ((k v : ℕ) × (slice_get fields k ≡ Some name) × (d ≡ number (unsigned v)) × (v < 2 ^ 32)) → (v : ℕ) × (word_by d ≡ Some v)
          numbered name d e = (e.1, ap word_by e.3 ∙ number-word e.1 e.4)

    -- ---- what an object has as `state`

    -- what is read of it is given
    pub state-gives : (state : Option Data) (given : Given) → values_by fields line state ≡ Ok given → StateGives fields state given
    unfolding values_by
    state-gives None given h =
        let same : none_given ≡ given = cc in
        (ap (λ (g : Given). length g.values) (sym same), λ k v e. (let none = none-given k in let some = ap (λ (g : Given). value_given g k) same ∙ e in let bad : ◌≡◌ {A = Option ℕ} None (Some v) = sym none ∙ some in cc))
    state-gives (Some state) given h =
        let x = then-ok (with_fields line state none_given 0 fields) (if_all line (size_of state)) given h in
        by_kind state x.0 x.1 x.2 where
          by_kind : (state : Data) (read : Given) → with_fields line state none_given 0 fields ≡ Ok read → if_all line (size_of state) read ≡ Ok given → StateGives fields (Some state) given
          by_kind (object ms) read is all =
              elim (choice (count_by is_some read.values == members_in ms) _ _ _ all) [
                | inl a ↦ (
                    let e = a.1 in
                    let same : read ≡ given = cc in
                    subst (λ g. Give fields ms g) same (members-give ms read is ((Decides-eqb _ _).0 a.0)))
                | inr b ↦ (let e = b.1 in absurd (cc))
              ]
          by_kind null read is all = absurd (cc)
          by_kind (boolean b) read is all = absurd (cc)
          by_kind (number n) read is all = absurd (cc)
          by_kind (string s) read is all = absurd (cc)
          by_kind (array ds) read is all = absurd (cc)

    -- and what it gives is read
    pub gives-state : (state : Option Data) (given : Given) → StateGives fields state given → values_by fields line state ≡ Ok given
    unfolding values_by
    gives-state None given h =
        ap Ok (same-given none_given given refl h.0 (λ k v. (λ e. absurd (let none = none-given k in let bad : ◌≡◌ {A = Option ℕ} None (Some v) = sym none ∙ e in cc), λ e. absurd (h.1 k v e))))
    gives-state (Some (object ms)) given h =
        let r = give-members ms given h in
        let test : (count_by is_some given.values == members_in ms) ≡ true = (Decides-eqb _ _).1 r.1 in
        ap (λ g. and_then g (if_all line (size_of (object ms)))) r.0 ∙ rw test refl
    gives-state (Some null) given h = absurd h
    gives-state (Some (boolean b)) given h = absurd h
    gives-state (Some (number n)) given h = absurd h
    gives-state (Some (string s)) given h = absurd h
    gives-state (Some (array ds)) given h = absurd h

-- a state that is refused is a bad one
module _ (fields : List (List ℕ)) (line : ℕ) where
  member-fault : (given : Given) (k : ℕ) (o : Option Data) (fault : VerifyFault) → with_member line given k o ≡ Err fault → BadState line ≡ fault
  member-fault given k None fault h = absurd (cc)
  member-fault given k (Some d) fault h = by_word (word_by d) h where
    by_word : (w : Option ℕ) → with_word line given k w ≡ Err fault → BadState line ≡ fault
    by_word None e = cc
    by_word (Some v) e = absurd (cc)

  fields-fault : (names : List (List ℕ)) (state : Data) (given : Given) (k : ℕ) (fault : VerifyFault) → with_fields line state given k names ≡ Err fault → BadState line ≡ fault
  fields-fault [] state given k fault h = absurd (cc)
  fields-fault (name ∷ names) state given k fault h =
      elim (then-err (with_member line given k (get name state)) (λ more. with_fields line state more (k + 1) names) fault h) [
        | inl stops ↦ member-fault given k (get name state) fault stops
        | inr x ↦ fields-fault names state x.0 (k + 1) fault x.2
      ]

  all-fault : (size : Option ℕ) (given : Given) (fault : VerifyFault) → if_all line size given ≡ Err fault → BadState line ≡ fault
  all-fault None given fault h = cc
  all-fault (Some n) given fault h =
      elim (choice (count_by is_some given.values == n) _ _ _ h) [
        | inl a ↦ (let e = a.1 in absurd (cc))
        | inr b ↦ (let e = b.1 in cc)
      ]

  pub state-fault : (state : Option Data) (fault : VerifyFault) → values_by fields line state ≡ Err fault → BadState line ≡ fault
  unfolding values_by
  state-fault None fault h = absurd (cc)
  state-fault (Some state) fault h =
      elim (then-err (with_fields line state none_given 0 fields) (if_all line (size_of state)) fault h) [
        | inl stops ↦ fields-fault fields state none_given 0 fault stops
        | inr x ↦ all-fault (size_of state) x.0 fault x.2
      ]
