-- Values that are read from words are those that the words give.
use Rattle.std.proofs.Common.{◌≡◌, ◌≢◌, ◌↔◌, ◌⊎◌, ℕ, zero, suc, ◌≤◌, ◌<◌, ◌==◌, true, false, List, [], ◌∷◌, length, get_or, set, Option, Some, None, Ok, Err, inl, inr, refl, sym, ap, ◌∙◌, subst, arith}
use Rattle.std.specs.Option.{is_some}
use Rattle.std.proofs.lemmas.Bool.{cases_Bool}
use Rattle.std.proofs.lemmas.Bool.Decides.{Decides-eqb}
use Rattle.std.proofs.lemmas.List.{get_or-set_same, get_or-set_other, length-set}
use Rattle.std.proofs.lemmas.Option.{slice_get_within}
use Rattle.run_steps.specs.declared.verify.entry.Given.{Given}
use Rattle.run_steps.specs.declared.verify.entry.Gathered.{Gathered}
use Rattle.run_steps.specs.declared.verify.fault.VerifyFault.{VerifyFault}
use Rattle.run_steps.specs.declared.verify.fault.VerifyFault.TheVariants.{BadField, FieldTwice}
use Rattle.run_steps.specs.verify.Fields.{and_then, none_given, none_gathered, given_by, with_word, if_once, with_words}
use Rattle.run_steps.specs.verify.Given.{value_given, IsFieldValue, SaysValue, AreFieldValues, Gives, HasBadField, HasFieldTwice}
use Rattle.run_steps.proofs.script.Choosing.{choice}
use Rattle.run_steps.proofs.verify.Choosing.{then-ok, then-err}
use Rattle.run_steps.proofs.verify.FieldValues.{read-value, value-read}

-- ---- values

-- what is given of no field
pub none-given : (k : ℕ) → value_given none_given k ≡ None
none-given zero = refl
none-given (suc zero) = refl
none-given (suc (suc zero)) = refl
none-given (suc (suc (suc zero))) = refl
none-given (suc (suc (suc (suc zero)))) = refl
none-given (suc (suc (suc (suc (suc zero))))) = refl
none-given (suc (suc (suc (suc (suc (suc zero)))))) = refl
none-given (suc (suc (suc (suc (suc (suc (suc zero))))))) = refl
none-given (suc (suc (suc (suc (suc (suc (suc (suc k)))))))) = refl

not-some : (o : Option ℕ) → is_some o ≡ false → o ≡ None
not-some None h = refl
not-some (Some x) h = absurd (cc)

one-of : (o p : Option ℕ) → ((v : ℕ) → (o ≡ Some v) ↔ (p ≡ Some v)) → o ≡ p
one-of None None h = refl
one-of None (Some y) h = (h y).1 refl
one-of (Some x) p h = sym ((h x).0 refl)

-- values are the same where the same are given
pub same-given : (a b : Given) → length a.values ≡ 8 → length b.values ≡ 8 → ((k v : ℕ) → (value_given a k ≡ Some v) ↔ (value_given b k ≡ Some v)) → a ≡ b
same-given a b m n h =
    let each = λ (k : ℕ). one-of (value_given a k) (value_given b k) (h k) in
    let lists : a.values ≡ b.values = by_places a.values b.values (m ∙ sym n) each in
    ap (λ (vs : List (Option ℕ)). record { values = vs }) lists where
      by_places : (xs ys : List (Option ℕ)) → length xs ≡ length ys → ((k : ℕ) → get_or xs k None ≡ get_or ys k None) → xs ≡ ys
      by_places [] [] e f = refl
      by_places [] (y ∷ ys) e f = absurd (omega arith)
      by_places (x ∷ xs) [] e f = absurd (omega arith)
      by_places (x ∷ xs) (y ∷ ys) e f = (let first : x ≡ y = f 0 in let rest = by_places xs ys (omega arith) (λ k. f (suc k)) in cc)

-- with one more value
pub given-one : (values : List (Option ℕ)) (n k w v : ℕ) → n < length values → (get_or (set values n (Some w)) k None ≡ Some v) → ((k ≡ n) × (w ≡ v)) ⊎ ((k ≢ n) × (get_or values k None ≡ Some v))
given-one values n k w v less h =
    elim (cases_Bool (k == n)) [
      | inl is ↦ (
          let same = (Decides-eqb k n).0 is in
          let here : get_or (set values n (Some w)) k None ≡ Some w = ap (λ i. get_or (set values n (Some w)) i None) same ∙ get_or-set_same values n (Some w) None less in
          let both : Some w ≡ Some v = sym here ∙ h in
          inl (same, cc))
      | inr not ↦ (
          let other : k ≢ n = λ same. (let yes = (Decides-eqb k n).1 same in let bad : true ≡ false = sym yes ∙ not in cc) in
          inr (other, sym (get_or-set_other values n k (Some w) None other) ∙ h))
    ]

module _ (fields : List (List ℕ)) where
  -- one word says one value of one field
  once-said : (words : List (List ℕ)) (i k v l w : ℕ) → SaysValue fields words i k v → SaysValue fields words i l w → (k ≡ l) × (v ≡ w)
  once-said words i k v l w a b =
      let one = a.1 in
      let other = b.1 in
      let same : a.0 ≡ b.0 = cc in
      let p = value-read fields a.0 k v a.2 in
      let q = value-read fields b.0 l w b.2 in
      let both : Some (k, v) ≡ Some (l, w) = sym p ∙ ap (given_by fields) same ∙ q in
      let pair : (k, v) ≡ (l, w) = cc in
      (ap (λ (x : ℕ × ℕ). x.0) pair, ap (λ (x : ℕ × ℕ). x.1) pair)

  module _ (few : length fields ≤ 8) where
    field-low : (words : List (List ℕ)) (i k v : ℕ) → SaysValue fields words i k v → k < 8
    field-low words i k v s = (let f = s.2 in let low = slice_get_within fields k f.name f.named in omega arith)

    -- what is so of values that were given before words, and behind them
    record Gathers (g : Gathered) (words : List (List ℕ)) (given : Given) : Type 0 where
      once_each : g.twice ≡ false
      each : AreFieldValues fields words
      apart : (i k v : ℕ) → SaysValue fields words i k v → value_given g.given k ≡ None
      once : (i j k v w : ℕ) → SaysValue fields words i k v → SaysValue fields words j k w → i ≡ j
      places : length given.values ≡ 8
      before : (k v : ℕ) → value_given g.given k ≡ Some v → value_given given k ≡ Some v
      here : (i k v : ℕ) → SaysValue fields words i k v → value_given given k ≡ Some v
      only : (k v : ℕ) → value_given given k ≡ Some v → (value_given g.given k ≡ Some v) ⊎ ((i : ℕ) × SaysValue fields words i k v)

    -- values with that of one word more, where its field has none yet
    abbrev with_one : Gathered → ℕ → ℕ → Gathered
    with_one g k v = record { given = record { values = set g.given.values k (Some v) }; twice = g.twice }

    module _ (g : Gathered) (word : List ℕ) (words : List (List ℕ)) (k v : ℕ) (wide : length g.given.values ≡ 8) (is : IsFieldValue fields word k v) where
      first : SaysValue fields (word ∷ words) 0 k v
      first = (word, refl, is)

      low : k < length g.given.values
      low = (let l = field-low (word ∷ words) 0 k v first in omega arith)

      one-at : value_given (with_one g k v).given k ≡ Some v
      one-at = get_or-set_same g.given.values k (Some v) None low

      one-off : (l : ℕ) → l ≢ k → value_given (with_one g k v).given l ≡ value_given g.given l
      one-off l other = get_or-set_other g.given.values k l (Some v) None other

      -- one word more
      gathers-more : (given : Given) → value_given g.given k ≡ None → Gathers (with_one g k v) words given → Gathers g (word ∷ words) given
      gathers-more given free ih =
          record {
            once_each = ih.once_each;
            each = each;
            apart = apart;
            once = once;
            places = ih.places;
            before = before;
            here = here;
            only = only;
          } where
            behind : (i l w : ℕ) → SaysValue fields words i l w → l ≢ k
            behind i l w s same = (let none = ih.apart i l w s in let some = ap (value_given (with_one g k v).given) same ∙ one-at in let bad : ◌≡◌ {A = Option ℕ} None (Some v) = sym none ∙ some in cc)

            each : AreFieldValues fields (word ∷ words)
            each zero less = (k, v, first)
            each (suc i) less = ih.each i (omega arith)

            apart : (i l w : ℕ) → SaysValue fields (word ∷ words) i l w → value_given g.given l ≡ None
            apart zero l w s = ap (value_given g.given) (once-said (word ∷ words) 0 l w k v s first).0 ∙ free
            apart (suc i) l w s = sym (one-off l (behind i l w s)) ∙ ih.apart i l w s

            once : (i j l w x : ℕ) → SaysValue fields (word ∷ words) i l w → SaysValue fields (word ∷ words) j l x → i ≡ j
            once zero zero l w x a b = refl
            once zero (suc j) l w x a b = absurd (behind j l x b (once-said (word ∷ words) 0 l w k v a first).0)
            once (suc i) zero l w x a b = absurd (behind i l w a (once-said (word ∷ words) 0 l x k v b first).0)
            once (suc i) (suc j) l w x a b = ap suc (ih.once i j l w x a b)

            before : (l w : ℕ) → value_given g.given l ≡ Some w → value_given given l ≡ Some w
            before l w h = ih.before l w (one-off l (λ same. (let none = ap (value_given g.given) same ∙ free in let bad : ◌≡◌ {A = Option ℕ} None (Some w) = sym none ∙ h in cc)) ∙ h)

            here : (i l w : ℕ) → SaysValue fields (word ∷ words) i l w → value_given given l ≡ Some w
            here zero l w s = (let o = once-said (word ∷ words) 0 l w k v s first in ap (value_given given) o.0 ∙ ih.before k v one-at ∙ ap Some (sym o.1))
            here (suc i) l w s = ih.here i l w s

            only : (l w : ℕ) → value_given given l ≡ Some w → (value_given g.given l ≡ Some w) ⊎ ((i : ℕ) × SaysValue fields (word ∷ words) i l w)
            only l w h =
                elim (ih.only l w h) [
                  | inl made ↦ elim (given-one g.given.values k l v w low made) [
                    | inl at ↦ inr (0, subst (λ x. SaysValue fields (word ∷ words) 0 l x) at.1 (subst (λ x. SaysValue fields (word ∷ words) 0 x v) (sym at.0) first))
                    | inr off ↦ inl off.1
                  ]
                  | inr s ↦ inr (suc s.0, s.1)
                ]

    -- ---- words that are read give what is read

    gathers-none : (line : ℕ) (g : Gathered) (given : Given) → length g.given.values ≡ 8 → if_once line g ≡ Ok given → Gathers g [] given
    gathers-none line g given wide h =
        elim (choice g.twice _ _ _ h) [
          | inl a ↦ (let e = a.1 in absurd (cc))
          | inr b ↦ (
              let e = b.1 in
              let same : g.given ≡ given = cc in
              record {
                once_each = b.0;
                each = λ i less. absurd (omega arith);
                apart = λ i k v s. absurd (none-there i k v s);
                once = λ i j k v w s t. absurd (none-there i k v s);
                places = ap (λ (x : Given). length x.values) (sym same) ∙ wide;
                before = λ k v e. ap (λ (x : Given). value_given x k) (sym same) ∙ e;
                here = λ i k v s. absurd (none-there i k v s);
                only = λ k v e. inl (ap (λ (x : Given). value_given x k) same ∙ e);
              })
        ] where
          none-there : (i k v : ℕ) → SaysValue fields [] i k v → ⊥
          none-there i k v s = (let e = s.1 in cc)

    gathered : (line : ℕ) (words : List (List ℕ)) (g : Gathered) (given : Given) → length g.given.values ≡ 8 → with_words fields line g words ≡ Ok given → Gathers g words given
    gathered line [] g given wide h = gathers-none line g given wide h
    gathered line (word ∷ words) g given wide h =
        let x = then-ok (with_word line g (given_by fields word)) (λ more. with_words fields line more words) given h in
        by_word (given_by fields word) refl x.0 x.1 (λ m w e. gathered line words m given w e) x.2 where
          by_word : (o : Option (ℕ × ℕ)) → given_by fields word ≡ o → (more : Gathered) → with_word line g o ≡ Ok more → ((m : Gathered) → length m.given.values ≡ 8 → with_words fields line m words ≡ Ok given → Gathers m words given)
              → with_words fields line more words ≡ Ok given → Gathers g (word ∷ words) given
          by_word None is more e ih rest = absurd (cc)
          by_word (Some p) is more e ih rest =
              let value = read-value fields word p.0 p.1 is in
              elim (choice (is_some (value_given g.given p.0)) _ _ _ e) [
                | inl a ↦ (
                    let made = a.1 in
                    let again : Gathered = record { given = g.given; twice = true } in
                    let same : again ≡ more = cc in
                    let r = ih again wide (ap (λ m. with_words fields line m words) same ∙ rest) in
                    let bad : true ≡ false = r.once_each in
                    absurd (cc))
                | inr b ↦ (
                    let made = b.1 in
                    let one = with_one g p.0 p.1 in
                    let same : one ≡ more = cc in
                    let r = ih one (length-set g.given.values p.0 (Some p.1) ∙ wide) (ap (λ m. with_words fields line m words) same ∙ rest) in
                    gathers-more g word words p.0 p.1 wide value given (not-some (value_given g.given p.0) b.0) r)
              ]

    -- values that are read from words are given by them
    pub words-give : (line : ℕ) (words : List (List ℕ)) (given : Given) → with_words fields line none_gathered words ≡ Ok given → Gives fields words given
    words-give line words given h =
        let r = gathered line words none_gathered given refl h in
        record {
          each = r.each;
          once = r.once;
          places = r.places;
          exactly = λ k v. (
            λ e. elim (r.only k v e) [
              | inl was ↦ absurd (let none = none-given k in let bad : ◌≡◌ {A = Option ℕ} None (Some v) = sym none ∙ was in cc)
              | inr s ↦ s
            ],
            λ s. r.here s.0 k v s.1,
          );
        }

    -- ---- words that give values are read as those

    one-read : (line : ℕ) (g : Gathered) (word : List ℕ) (k v : ℕ) → IsFieldValue fields word k v → value_given g.given k ≡ None → with_word line g (given_by fields word) ≡ Ok (with_one g k v)
    one-read line g word k v is free =
        let test : is_some (value_given g.given k) ≡ false = ap is_some free in
        let made : with_word line g (Some (k, v)) ≡ Ok (with_one g k v) = rw test refl in
        ap (with_word line g) (value-read fields word k v is) ∙ made

    gather-on : (line : ℕ) (g : Gathered) (word : List ℕ) (words : List (List ℕ)) (one : Gathered) → with_word line g (given_by fields word) ≡ Ok one → ((given : Given) × (with_words fields line one words ≡ Ok given))
        → (given : Given) × (with_words fields line g (word ∷ words) ≡ Ok given)
    gather-on line g word words one step r = (r.0, ap (λ m. and_then m (λ more. with_words fields line more words)) step ∙ r.1)

    gather : (line : ℕ) (words : List (List ℕ)) (g : Gathered) → length g.given.values ≡ 8 → g.twice ≡ false → AreFieldValues fields words → ((i k v : ℕ) → SaysValue fields words i k v → value_given g.given k ≡ None)
        → ((i j k v w : ℕ) → SaysValue fields words i k v → SaysValue fields words j k w → i ≡ j) → (given : Given) × (with_words fields line g words ≡ Ok given)
    gather line [] g wide fresh each apart once = (g.given, rw fresh refl)
    gather line (word ∷ words) g wide fresh each apart once =
        let f = each 0 (omega arith) in
        let k = f.0 in
        let v = f.1 in
        let s = f.2 in
        let own = s.1 in
        let same : word ≡ s.0 = cc in
        let is : IsFieldValue fields word k v = subst (λ w. IsFieldValue fields w k v) (sym same) s.2 in
        let free = apart 0 k v s in
        let one = with_one g k v in
        let step = one-read line g word k v is free in
        let off : (i l w : ℕ) → SaysValue fields words i l w → l ≢ k = λ i l w t same. (let e = once 0 (suc i) k v w s (subst (λ x. SaysValue fields (word ∷ words) (suc i) x w) same t) in omega arith) in
        let r =
        gather line words one (length-set g.given.values k (Some v) ∙ wide) fresh (λ i less. each (suc i) (omega arith)) (λ i l w t. one-off g word words k v wide is l (off i l w t) ∙ apart (suc i) l w t)
        (λ i j l w x a b. (let e = once (suc i) (suc j) l w x a b in omega arith)) in
        gather-on line g word words one step r

    pub give-words : (line : ℕ) (words : List (List ℕ)) (given : Given) → Gives fields words given → with_words fields line none_gathered words ≡ Ok given
    give-words line words given h =
        let r = gather line words none_gathered refl refl h.each (λ i k v s. none-given k) h.once in
        let s = words-give line words r.0 r.1 in
        let same = same-given r.0 given s.places h.places (λ k v. (λ e. (h.exactly k v).1 ((s.exactly k v).0 e), λ e. (s.exactly k v).1 ((h.exactly k v).0 e))) in
        r.1 ∙ ap Ok same

    -- ---- words that are refused

    -- a field has a value before the words, or has two among them
    abbrev Again : Gathered → List (List ℕ) → Type 0
    Again g words =
        (g.twice ≡ true) ⊎ (((i k v : ℕ) × SaysValue fields words i k v × (value_given g.given k ≢ None)) ⊎ ((i j k v w : ℕ) × (i < j) × SaysValue fields words i k v × SaysValue fields words j k w))

    abbrev Refused : ℕ → VerifyFault → Gathered → List (List ℕ) → Type 0
    Refused line fault g words = ((BadField line ≡ fault) × HasBadField fields words) ⊎ ((FieldTwice line ≡ fault) × AreFieldValues fields words × Again g words)

    refused-more : (line : ℕ) (fault : VerifyFault) (g more : Gathered) (word : List ℕ) (words : List (List ℕ)) (k v : ℕ) → IsFieldValue fields word k v
        → (Again more words → Again g (word ∷ words)) → Refused line fault more words → Refused line fault g (word ∷ words)
    refused-more line fault g more word words k v is again (inl a) = inl (a.0, (suc a.1.0, omega (arith, a.1.1), a.1.2))
    refused-more line fault g more word words k v is again (inr b) = inr (b.0, each, again b.2) where
      each : AreFieldValues fields (word ∷ words)
      each zero less = (k, v, (word, refl, is))
      each (suc i) less = b.1 i (omega arith)

    -- a field that has a value already
    again-first : (g more : Gathered) (word : List ℕ) (words : List (List ℕ)) (k v : ℕ) → IsFieldValue fields word k v → value_given g.given k ≢ None → Again more words → Again g (word ∷ words)
    again-first g more word words k v is taken again = inr (inl (0, k, v, (word, refl, is), taken))

    -- a field that has none yet
    again-behind : (g : Gathered) (word : List ℕ) (words : List (List ℕ)) (k v : ℕ) → length g.given.values ≡ 8 → IsFieldValue fields word k v → Again (with_one g k v) words → Again g (word ∷ words)
    again-behind g word words k v wide is (inl a) = inl a
    again-behind g word words k v wide is (inr (inl b)) =
        let l = b.1 in
        let s = b.3 in
        elim (cases_Bool (l == k)) [
          | inl same ↦ (
              let e = (Decides-eqb l k).0 same in
              inr (inr (0, suc b.0, k, v, b.2, omega arith, (word, refl, is), subst (λ x. SaysValue fields (word ∷ words) (suc b.0) x b.2) e s)))
          | inr not ↦ (
              let other : l ≢ k = λ same. (let yes = (Decides-eqb l k).1 same in let bad : true ≡ false = sym yes ∙ not in cc) in
              inr (inl (suc b.0, l, b.2, s, λ none. b.4 (one-off g word words k v wide is l other ∙ none))))
        ]
    again-behind g word words k v wide is (inr (inr c)) = inr (inr (suc c.0, suc c.1, c.2, c.3, c.4, omega (arith, c.5), c.6, c.7))

    refused : (line : ℕ) (fault : VerifyFault) (words : List (List ℕ)) (g : Gathered) → length g.given.values ≡ 8 → with_words fields line g words ≡ Err fault → Refused line fault g words
    refused line fault [] g wide h =
        elim (choice g.twice _ _ _ h) [
          | inl a ↦ (let e = a.1 in inr (cc, λ i less. absurd (omega arith), inl a.0))
          | inr b ↦ (let e = b.1 in absurd (cc))
        ]
    refused line fault (word ∷ words) g wide h = by_word (given_by fields word) refl (then-err (with_word line g (given_by fields word)) (λ more. with_words fields line more words) fault h) (λ m w e. refused line fault words m w e) where
      by_word : (o : Option (ℕ × ℕ)) → given_by fields word ≡ o → (with_word line g (given_by fields word) ≡ Err fault) ⊎ ((more : Gathered) × (with_word line g (given_by fields word) ≡ Ok more) × (with_words fields line more words ≡ Err fault))
          → ((m : Gathered) → length m.given.values ≡ 8 → with_words fields line m words ≡ Err fault → Refused line fault m words) → Refused line fault g (word ∷ words)
      by_word None is (inl stops) ih =
          let e : Err (BadField line) ≡ Err fault = ap (with_word line g) (sym is) ∙ stops in
          inl (
            cc,
            (
              0,
              omega arith,
              λ k v s. (
                  let own = s.1 in
                  let same : word ≡ s.0 = cc in
                  let some = ap (given_by fields) same ∙ value-read fields s.0 k v s.2 in
                  let bad : ◌≡◌ {A = Option (ℕ × ℕ)} None (Some (k, v)) = sym is ∙ some in
                  cc),
            ),
          )
      by_word None is (inr x) ih = (let e : Err (BadField line) ≡ Ok x.0 = ap (with_word line g) (sym is) ∙ x.1 in absurd (cc))
      by_word (Some p) is (inl stops) ih =
          elim (choice (is_some (value_given g.given p.0)) _ _ _ (ap (with_word line g) (sym is) ∙ stops)) [
            | inl a ↦ (let e = a.1 in absurd (cc))
            | inr b ↦ (let e = b.1 in absurd (cc))
          ]
      by_word (Some p) is (inr x) ih =
          let value = read-value fields word p.0 p.1 is in
          elim (choice (is_some (value_given g.given p.0)) _ _ _ (ap (with_word line g) (sym is) ∙ x.1)) [
            | inl a ↦ (
                let made = a.1 in
                let again : Gathered = record { given = g.given; twice = true } in
                let same : again ≡ x.0 = cc in
                let taken : value_given g.given p.0 ≢ None = λ none. (let yes = a.0 in let no = ap is_some none in let bad : true ≡ false = sym yes ∙ no in cc) in
                refused-more line fault g again word words p.0 p.1 value (again-first g again word words p.0 p.1 value taken) (ih again wide (ap (λ m. with_words fields line m words) same ∙ x.2)))
            | inr b ↦ (
                let made = b.1 in
                let one = with_one g p.0 p.1 in
                let same : one ≡ x.0 = cc in
                refused-more line fault g one word words p.0 p.1 value (again-behind g word words p.0 p.1 wide value)
                (ih one (length-set g.given.values p.0 (Some p.1) ∙ wide) (ap (λ m. with_words fields line m words) same ∙ x.2)))
          ]

    -- words that are refused have a word that is no value of a field, or else two of one field
    pub words-refused : (line : ℕ) (fault : VerifyFault) (words : List (List ℕ)) → with_words fields line none_gathered words ≡ Err fault → ((BadField line ≡ fault) × HasBadField fields words) ⊎ ((FieldTwice line ≡ fault) × HasFieldTwice fields words)
    words-refused line fault words h = twice (refused line fault words none_gathered refl h) where
      twice : Refused line fault none_gathered words → ((BadField line ≡ fault) × HasBadField fields words) ⊎ ((FieldTwice line ≡ fault) × HasFieldTwice fields words)
      twice (inl a) = inl a
      twice (inr b) =
          elim b.2 [
            | inl was ↦ absurd (cc)
            | inr rest ↦ elim rest [
              | inl taken ↦ absurd (taken.4 (none-given taken.1))
              | inr c ↦ inr (b.0, record { each = b.1; one = c.0; other = c.1; apart = c.5; field = c.2; value = c.3; another = c.4; said = c.6; again = c.7 })
            ]
          ]
