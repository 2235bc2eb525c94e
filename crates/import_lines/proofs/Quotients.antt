-- Quotients, and the weights nearest to them.
use Rattle.std.proofs.Common.{◌≡◌, ◌⊎◌, ◌≢◌, inl, inr, ◌<◌, ◌≤◌, ◌^◌, ◌+◌, ◌-◌, ◌*◌, ◌/◌, ◌%◌, ℕ, zero, suc, min, Bool, true, ◌==◌, nat_le, refl, sym, ap, ◌∙◌, arith, Err, eq-eqb}
use Rattle.std.proofs.Math.Nat.{div-eq_of_lt, zero-mod, mod-eq_of_lt, mod-eq-sub-mul-div, mul-sub, mul_comm, mul_assoc, mul_left_comm, mul-add, mul-suc, suc-mul, mul-div-mul_left, pow-le-pow_right, one-le-pow, eq-zero-or-pos}
use Rattle.std.proofs.lemmas.Nat.{div-mul-add, mod-mul-add, pow-add}
use Rattle.std.proofs.lemmas.Bool.{cases_Bool, ne_eqb, leb-true, leb-false, lt-leb}
use Rattle.import_lines.specs.declared.weight_fault.WeightFault.TheVariants.{WeightTooLarge}
use Rattle.import_lines.specs.Weights.{most_weight, fitting, weight_near}

pub ten_power : (k : ℕ) → 1 ≤ 10 ^ k
ten_power k = one-le-pow k 10 (omega arith)

pub power_most : (k : ℕ) → k < 30 → 10 ^ k ≤ 100000000000000000000000000000
power_most k low = pow-le-pow_right {n = 10} (omega arith) {i = k} {j = 29} (omega arith)

power_least : (k : ℕ) → 30 ≤ k → 1000000000000000000000000000000 ≤ 10 ^ k
power_least k high = pow-le-pow_right {n = 10} (omega arith) {i = 30} {j = k} high

power_ten : (k : ℕ) → 10 ≤ k → 10000000000 ≤ 10 ^ k
power_ten k high = pow-le-pow_right {n = 10} (omega arith) {i = 10} {j = k} high

fits_same : (v w : ℕ) (e f : Bool) → v ≡ w → e ≡ f → fitting v e ≡ fitting w f
fits_same v w e f same alike = rw (same, alike) refl

pub near_same : (a b x y : ℕ) → a ≡ x → b ≡ y → weight_near a b ≡ weight_near x y
near_same a b x y same alike = rw (same, alike) refl

-- ---- quotients by one, of nothing, and small ones

-- nothing divided by anything is 0
near_zero : (a b : ℕ) → a ≡ 0 → 1 ≤ b → weight_near a b ≡ fitting 0 true
near_zero a b none some = rw none (fits_same ((2 * 0 + b) / (2 * b)) 0 (0 % b == 0) true (div-eq_of_lt (omega arith)) (eq-eqb (0 % b) 0 (zero-mod b)))

-- divided by 1 a number stays
near_one : (a : ℕ) → weight_near a 1 ≡ fitting a true
near_one a =
    let half : (a * 2 + 1) / 2 ≡ a = div-mul-add a 2 1 (omega arith) in
    let whole : (a * 1 + 0) % 1 ≡ 0 = mod-mul-add a 1 0 (omega arith) in
    let twice : 2 * a + 1 ≡ a * 2 + 1 = omega arith in
    let once : a ≡ a * 1 + 0 = omega arith in
    fits_same ((2 * a + 1) / 2) a (a % 1 == 0) true (ap (λ t. t / 2) twice ∙ half) (eq-eqb (a % 1) 0 (ap (λ t. t % 1) once ∙ whole))

fits_not : (v : ℕ) (e : Bool) → most_weight < v → fitting v e ≡ Err WeightTooLarge
fits_not v e high = rw (lt-leb v most_weight high) refl

times_more : (a p m : ℕ) → 1 ≤ a → m ≤ p → m ≤ a * p
times_more zero p m some least = absurd (omega arith)
times_more (suc a) p m some least = let apart : suc a * p ≡ a * p + p = suc-mul a p in omega arith

pub raised_large : (number power : ℕ) → number ≢ 0 → 10 ≤ power → Err WeightTooLarge ≡ weight_near (number * 10 ^ power) 1
raised_large number power some high =
    let large = times_more number (10 ^ power) 10000000000 (omega arith) (power_ten power high) in
    sym (near_one (number * 10 ^ power) ∙ fits_not (number * 10 ^ power) true (omega (arith, large)))

-- a number below 2^96 divided by 10^30 or more is less than a half
pub lowered_small : (number power : ℕ) → number < 2 ^ 96 → 30 ≤ power → fitting 0 (number == 0) ≡ weight_near number (10 ^ power)
lowered_small number power small high =
    let large = power_least power high in
    sym (fits_same ((2 * number + 10 ^ power) / (2 * 10 ^ power)) 0 (number % 10 ^ power == 0) (number == 0) (div-eq_of_lt (omega (arith, large))) (ap (λ t. t == 0) (mod-eq_of_lt (omega (arith, large)))))

-- ---- a factor above and below

module _ (k a b : ℕ) (some : 1 ≤ k) where
  quotient_same : (2 * (k * a) + k * b) / (2 * (k * b)) ≡ (2 * a + b) / (2 * b)
  quotient_same =
      let below : 2 * (k * b) ≡ k * (2 * b) = mul_left_comm 2 k b in
      let above : 2 * (k * a) + k * b ≡ k * (2 * a + b) = ap (λ t. t + k * b) (mul_left_comm 2 k a) ∙ sym (mul-add k (2 * a) b) in
      rw (above, below) (mul-div-mul_left (2 * a + b) (2 * b) (omega arith))

  rest_times : (k * a) % (k * b) ≡ k * (a % b)
  rest_times =
      mod-eq-sub-mul-div (k * a) (k * b)
      ∙ rw (mul-div-mul_left {m = k} a b (omega arith), mul_assoc k b (a / b), ← mul-sub k a (b * (a / b)), ← mod-eq-sub-mul-div a b) refl

times_zero : (k r : ℕ) → 1 ≤ k → (k * r == 0) ≡ (r == 0)
times_zero k zero some = let none : k * 0 ≡ 0 = omega arith in rw none refl
times_zero k (suc r) some = let more = mul-suc k r in ne_eqb (k * suc r) 0 (λ (e : k * suc r ≡ 0). omega arith) ∙ sym (ne_eqb (suc r) 0 (λ (e : suc r ≡ 0). omega arith))

near_times : (k a b : ℕ) → 1 ≤ k → weight_near (k * a) (k * b) ≡ weight_near a b
near_times k a b some =
    fits_same ((2 * (k * a) + k * b) / (2 * (k * b))) ((2 * a + b) / (2 * b)) ((k * a) % (k * b) == 0) (a % b == 0) (quotient_same k a b some)
    (ap (λ t. t == 0) (rest_times k a b some) ∙ times_zero k (a % b) some)

power_parts : (low high : ℕ) → low ≤ high → 10 ^ high ≡ 10 ^ low * 10 ^ (high - low)
power_parts low high le = let parts : high ≡ low + (high - low) = omega arith in ap (λ t. 10 ^ t) parts ∙ pow-add 10 low (high - low)

-- powers of ten above and below
pub shift_up : (number up down : ℕ) → down ≤ up → weight_near (number * 10 ^ up) (10 ^ down) ≡ weight_near (number * 10 ^ (up - down)) 1
shift_up number up down le =
    let above : number * 10 ^ up ≡ 10 ^ down * (number * 10 ^ (up - down)) = rw (power_parts down up le) (grind (arith, mul_comm, mul_assoc)) in
    let below : 10 ^ down ≡ 10 ^ down * 1 = omega arith in
    near_same (number * 10 ^ up) (10 ^ down) (10 ^ down * (number * 10 ^ (up - down))) (10 ^ down * 1) above below
    ∙ near_times (10 ^ down) (number * 10 ^ (up - down)) 1 (ten_power down)

pub shift_down : (number up down : ℕ) → up ≤ down → weight_near (number * 10 ^ up) (10 ^ down) ≡ weight_near number (10 ^ (down - up))
shift_down number up down le =
    near_same (number * 10 ^ up) (10 ^ down) (10 ^ up * number) (10 ^ up * 10 ^ (down - up)) (mul_comm number (10 ^ up)) (power_parts up down le)
    ∙ near_times (10 ^ up) number (10 ^ (down - up)) (ten_power up)

-- ---- powers that are too large to count

raised_far : (number up down : ℕ) → number ≢ 0 → down + 10 ≤ up → weight_near (number * 10 ^ up) (10 ^ down) ≡ Err WeightTooLarge
raised_far number up down some far = shift_up number up down (omega arith) ∙ sym (raised_large number (up - down) some (omega arith))

pub low_or_high : (n m : ℕ) → (n ≤ m) ⊎ (m < n)
low_or_high n m = elim (cases_Bool (nat_le n m)) [ inl low ↦ inl (leb-true n m low) | inr high ↦ inr (leb-false n m high) ]

pub min_low : (most power : ℕ) → power ≤ most → min most power ≡ power
min_low most power low = omega arith

pub min_high : (most power : ℕ) → most < power → min most power ≡ most
min_high most power high = omega arith

module _ (most power number down : ℕ) where
  -- a power of most and one above it, where most is far
  far_up : most < power → down + 10 ≤ most → weight_near (number * 10 ^ most) (10 ^ down) ≡ weight_near (number * 10 ^ power) (10 ^ down)
  far_up high far = elim (eq-zero-or-pos number) [
    | inl none ↦ (
        let here : number * 10 ^ most ≡ 0 = rw none (omega arith) in
        let there : number * 10 ^ power ≡ 0 = rw none (omega arith) in
        near_zero (number * 10 ^ most) (10 ^ down) here (ten_power down) ∙ sym (near_zero (number * 10 ^ power) (10 ^ down) there (ten_power down)))
    | inr some ↦ raised_far number most down (λ (e : number ≡ 0). omega arith) far ∙ sym (raised_far number power down (λ (e : number ≡ 0). omega arith) (omega arith))
  ]

  pub cap_up : down + 10 ≤ most → weight_near (number * 10 ^ min most power) (10 ^ down) ≡ weight_near (number * 10 ^ power) (10 ^ down)
  cap_up far = elim (low_or_high power most) [
    | inl low ↦ ap (λ t. weight_near (number * 10 ^ t) (10 ^ down)) (min_low most power low)
    | inr high ↦ ap (λ t. weight_near (number * 10 ^ t) (10 ^ down)) (min_high most power high) ∙ far_up high far
  ]

  pub cap_down : number < 2 ^ 96 → 30 ≤ most → weight_near number (10 ^ (down + min most power)) ≡ weight_near number (10 ^ (down + power))
  cap_down small far = elim (low_or_high power most) [
    | inl low ↦ ap (λ t. weight_near number (10 ^ (down + t))) (min_low most power low)
    | inr high ↦
        ap (λ t. weight_near number (10 ^ (down + t))) (min_high most power high)
        ∙ sym (lowered_small number (down + most) small (omega arith)) ∙ lowered_small number (down + power) small (omega arith)
  ]
