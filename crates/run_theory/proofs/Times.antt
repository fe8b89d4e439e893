-- Times as f64, no NaN and not negative: their order, and that a gap in range does not take a time back.
-- Finite gaps may sum to infinity, which is a time too.
use mathlib.Core.Bool.{Bool, true, false, cond, ◌||◌, ◌&&◌, true≢false}
use mathlib.Core.Path.{◌≡◌, refl, sym, ap, ◌∙◌, subst}
use Prim.Native.Nat.{ℕ, zero, suc, ◌+◌, ◌-◌, ◌*◌, ◌^◌, ◌/◌, ◌%◌, ◌≤◌, ◌<◌, compare}
use native.Mathlib.Nat.{zero-mul, mul_assoc, mul_right_comm, eq_of_mul-eq-mul_right, mul-pos, mul-le-mul_right, le_of_eq, lt_irrefl, zero-lt-suc, lt_of_lt_of_le}
use native.Mathlib.Omega.{arith}
use borrow.Author.Tests.{ltb-true, ltb-false, le-ltb, eqb-true}
use lib.Dec.{T, leb, leb→le, ltb, eqb, eqb→eq, ltb→lt}
use lib.IntN.{ℤ, pos, negsuc}
use lib.Ieee.{Float, Format, nan, inf, fin, binary64, up, down, lt, le, eq, add, sum, round, units, odd, fits, prec, emax, low, size, nearest, level}
use lib.Ieee.Fits.{add-fits, up_pos, down_pos, core, round_is, and_l, and_r, reach}
use native.Mathlib.Decide.{dec_le}
use lib.Pow.{pow-lt, pow_pos, pow-add, shl_lt, pow_mono}
use lib.Ieee.Exact.{HasValue, round_exact}
use lib.Ieee.Order.{round_mono}
use lib.Ieee.Positive.{through}

-- no NaN, and no minus sign
abbrev pub NonNeg : Float → Type 0
NonNeg nan = ⊥
NonNeg (inf s) = s ≡ false
NonNeg (fin s m e) = s ≡ false

pub record GoodTime (t : Float) : Type 0 where
  pub non_neg : NonNeg t
  pub fit : T (fits binary64 t)

pub not_before_itself : (t : Float) → NonNeg t → lt t t ≡ false
unfolding lt
not_before_itself nan g = absurd g
not_before_itself (inf true) g = absurd (true≢false g)
not_before_itself (inf false) g = refl
not_before_itself (fin true m e) g = absurd (true≢false g)
not_before_itself (fin false m e) g = le-ltb (m * up e * down e) (m * up e * down e) (omega arith)

-- a is not after b, b is not after c: a is not after c
pub not_after_trans : (a b c : Float) → NonNeg a → NonNeg b → NonNeg c → lt b a ≡ false → lt c b ≡ false → lt c a ≡ false
unfolding lt
not_after_trans nan b c ga gb gc p q = absurd ga
not_after_trans (inf true) b c ga gb gc p q = absurd (true≢false ga)
not_after_trans (inf false) nan c ga gb gc p q = absurd gb
not_after_trans (inf false) (inf true) c ga gb gc p q = absurd (true≢false gb)
not_after_trans (inf false) (inf false) nan ga gb gc p q = absurd gc
not_after_trans (inf false) (inf false) (inf true) ga gb gc p q = absurd (true≢false gc)
not_after_trans (inf false) (inf false) (inf false) ga gb gc p q = refl
not_after_trans (inf false) (inf false) (fin s m e) ga gb gc p q = absurd (true≢false q)
not_after_trans (inf false) (fin s m e) c ga gb gc p q = absurd (true≢false p)
not_after_trans (fin true m e) b c ga gb gc p q = absurd (true≢false ga)
not_after_trans (fin false m e) nan c ga gb gc p q = absurd gb
not_after_trans (fin false m e) (inf t) nan ga gb gc p q = absurd gc
not_after_trans (fin false m e) (inf t) (inf s) ga gb gc p q = gc
not_after_trans (fin false m e) (inf true) (fin s n d) ga gb gc p q = absurd (true≢false gb)
not_after_trans (fin false m e) (inf false) (fin s n d) ga gb gc p q = absurd (true≢false q)
not_after_trans (fin false m e) (fin t n d) nan ga gb gc p q = absurd gc
not_after_trans (fin false m e) (fin t n d) (inf s) ga gb gc p q = gc
not_after_trans (fin false m e) (fin true n d) (fin s k f) ga gb gc p q = absurd (true≢false gb)
not_after_trans (fin false m e) (fin false n d) (fin true k f) ga gb gc p q = absurd (true≢false gc)
not_after_trans (fin false m e) (fin false n d) (fin false k f) ga gb gc p q =
    le-ltb (k * up f * down e) (m * up e * down f)
    (through (m * up e) (n * up d) (k * up f) (down e) (down d) (down f) (down_pos d)
    (ltb-false (n * up d * down e) (m * up e * down d) p) (ltb-false (k * up f * down d) (n * up d * down f) q))

-- a rounded fraction has the sign it was given
odd_non_neg : (d q k l : ℕ) → NonNeg (odd d false q k l)
unfolding odd
odd_non_neg d zero k l = refl
odd_non_neg d (suc q) k l = refl

units_non_neg : (f : Format) (q k : ℕ) → NonNeg (units f false q k)
unfolding units
units_non_neg f q k = go (ltb (q * 2 ^ k) (2 ^ (low f + suc (emax f))))
  where
    go : (b : Bool) → NonNeg (cond b (odd (suc (prec f)) false q k (low f)) (inf false))
    go true = odd_non_neg (suc (prec f)) q k (low f)
    go false = refl

core_non_neg : (f : Format) (n den k : ℕ) → NonNeg (core f false n den k)
core_non_neg f n den k = units_non_neg f (nearest (n / (den * 2 ^ k)) (compare (n % (den * 2 ^ k) * 2) (den * 2 ^ k))) k

round_non_neg : (f : Format) (num den : ℕ) → NonNeg (round f false num den)
round_non_neg f num den =
    subst (λ (x : Float). NonNeg x) (sym (round_is f false num den)) (core_non_neg f (num * 2 ^ low f) den (size (num * 2 ^ low f / den) - prec f))

level_le : (x y : ℕ) → T (ltb x y || level false x false y) → x ≤ y
level_le x y h = go (ltb x y) refl (eqb x y) refl h
  where
    go : (b : Bool) → ltb x y ≡ b → (c : Bool) → eqb x y ≡ c → T (b || (c && (true || eqb x 0))) → x ≤ y
    go true p c q t = omega (arith, ltb-true x y p)
    go false p true q t = omega (arith, eqb-true x y q)
    go false p false q t = absurd t

le→not-after : (x y : Float) → NonNeg x → NonNeg y → T (le x y) → lt y x ≡ false
unfolding le lt eq
le→not-after nan y gx gy h = absurd gx
le→not-after (inf true) y gx gy h = absurd (true≢false gx)
le→not-after (inf false) nan gx gy h = absurd gy
le→not-after (inf false) (inf true) gx gy h = absurd (true≢false gy)
le→not-after (inf false) (inf false) gx gy h = refl
le→not-after (inf false) (fin s m e) gx gy h = absurd h
le→not-after (fin true m e) y gx gy h = absurd (true≢false gx)
le→not-after (fin false m e) nan gx gy h = absurd gy
le→not-after (fin false m e) (inf s) gx gy h = gy
le→not-after (fin false m e) (fin true n d) gx gy h = absurd (true≢false gy)
le→not-after (fin false m e) (fin false n d) gx gy h = le-ltb (n * up d * down e) (m * up e * down d) (level_le (m * up e * down d) (n * up d * down e) h)

-- a value that has that of a time is not before it
value_not_before : (m : ℕ) (e : ℤ) (r : Float) (k : ℕ) → 0 < k → HasValue r false (m * up e * k) (down e * k) → lt r (fin false m e) ≡ false
unfolding lt
value_not_before m e nan k kp h = absurd h
value_not_before m e (inf s) k kp h = absurd h
value_not_before m e (fin true n d) k kp h = absurd (true≢false h.0)
value_not_before m e (fin false n d) k kp h =
    le-ltb (n * up d * down e) (m * up e * down d) (le_of_eq (sym same))
  where
    same : n * up d * down e ≡ m * up e * down d
    same = eq_of_mul-eq-mul_right k kp (n * up d * down e) (m * up e * down d) (mul_assoc (n * up d) (down e) k ∙ h.1 ∙ mul_right_comm (m * up e) k (down d))

times_pow : (a x l : ℕ) → a * 2 ^ x * 2 ^ l ≡ a * 2 ^ (x + l)
times_pow a x l = mul_assoc a (2 ^ x) (2 ^ l) ∙ ap (λ (n : ℕ). a * n) (sym (pow-add 2 x l))

-- what a format's finite values fit by
fits_parts : (f : Format) (m : ℕ) (e : ℤ) → T (fits f (fin false (suc m) e)) → (suc m < 2 ^ prec f) × (down e ≤ 2 ^ low f) × (suc m * up e < 2 ^ suc (emax f) * down e)
unfolding fits
fits_parts f m e h = (
  ltb→lt (suc m) (2 ^ prec f) (and_r (eqb (suc m % 2) 1) (ltb (suc m) (2 ^ prec f)) (and_l (eqb (suc m % 2) 1 && ltb (suc m) (2 ^ prec f)) (leb (down e) (2 ^ low f)) (and_l (eqb (suc m % 2) 1 && ltb (suc m) (2 ^ prec f) && leb (down e) (2 ^ low f)) (ltb (suc m * up e) (2 ^ suc (emax f) * down e)) h))),
  leb→le (down e) (2 ^ low f) (and_r (eqb (suc m % 2) 1 && ltb (suc m) (2 ^ prec f)) (leb (down e) (2 ^ low f)) (and_l (eqb (suc m % 2) 1 && ltb (suc m) (2 ^ prec f) && leb (down e) (2 ^ low f)) (ltb (suc m * up e) (2 ^ suc (emax f) * down e)) h)),
  ltb→lt (suc m * up e) (2 ^ suc (emax f) * down e) (and_r (eqb (suc m % 2) 1 && ltb (suc m) (2 ^ prec f) && leb (down e) (2 ^ low f)) (ltb (suc m * up e) (2 ^ suc (emax f) * down e)) h),
)

pow_le_inv : (i j : ℕ) → 2 ^ i ≤ 2 ^ j → i ≤ j
pow_le_inv i j h = go (dec_le i j)
  where
    go : Dec (i ≤ j) → i ≤ j
    go (yes p) = p
    go (no p) = absurd (omega (arith, pow-lt {i = j} {j = i} (omega arith)))

-- rounding does not move a time
own : (f : Format) (m : ℕ) (e : ℤ) (k : ℕ) → 0 < k → T (fits f (fin false m e)) → HasValue (round f false (m * up e * k) (down e * k)) false (m * up e * k) (down e * k)
unfolding fits
own f zero e k kp h =
    round_exact f false (zero * up e * k) (down e * k) 0 0 (mul-pos (down_pos e) kp) (pow_pos (prec f)) (omega (arith, pow_pos (low f + suc (emax f))))
    (ap (λ (n : ℕ). n * 2 ^ low f) {x = zero * up e * k} {y = 0} (omega arith) ∙ omega arith)
own f (suc m) (pos x) k kp h =
    let p = fits_parts f m (pos x) h in
    round_exact f false (suc m * 2 ^ x * k) (1 * k) (suc m) (x + low f) (mul-pos (down_pos (pos x)) kp) p.0
    (subst (λ (n : ℕ). n < 2 ^ (low f + suc (emax f))) (times_pow (suc m) x (low f))
    (subst (λ (n : ℕ). suc m * 2 ^ x * 2 ^ low f < 2 ^ n) {x = suc (emax f) + low f} {y = low f + suc (emax f)} (omega arith) (shl_lt (suc (emax f)) (low f) (omega (arith, p.2)))))
    (mul_right_comm (suc m * 2 ^ x) k (2 ^ low f) ∙ ap (λ (n : ℕ). n * k) (times_pow (suc m) x (low f)) ∙ ap (λ (n : ℕ). suc m * 2 ^ (x + low f) * n) {x = k} {y = 1 * k} (omega arith))
own f (suc m) (negsuc x) k kp h =
    let p = fits_parts f m (negsuc x) h in
    let le : suc x ≤ low f = pow_le_inv (suc x) (low f) p.1 in
    round_exact f false (suc m * 1 * k) (2 ^ suc x * k) (suc m) (low f - suc x) (mul-pos (down_pos (negsuc x)) kp) p.0
    (lt_of_lt_of_le (shl_lt (prec f) (low f - suc x) p.0) (pow_mono {i = prec f + (low f - suc x)} {j = low f + suc (emax f)} (omega (arith, reach f))))
    (ap (λ (n : ℕ). n * k * 2 ^ low f) {x = suc m * 1} {y = suc m} (omega arith)
    ∙ mul_right_comm (suc m) k (2 ^ low f)
    ∙ ap (λ (n : ℕ). suc m * 2 ^ n * k) {x = low f} {y = low f - suc x + suc x} (omega arith)
    ∙ ap (λ (n : ℕ). n * k) (sym (times_pow (suc m) (low f - suc x) (suc x)))
    ∙ mul_assoc (suc m * 2 ^ (low f - suc x)) (2 ^ suc x) k)

-- a gap: finite, and not negative, so a minus sign stands only on zero
abbrev pub Gap : Float → Type 0
Gap nan = ⊥
Gap (inf s) = ⊥
Gap (fin false m e) = Unit {0}
Gap (fin true m e) = m ≡ 0

-- a time that grew, as a fraction, and was rounded, is not before what it was
grown : (m : ℕ) (e : ℤ) (k n : ℕ) → 0 < k → T (fits binary64 (fin false m e)) → m * up e * k ≤ n → lt (round binary64 false n (down e * k)) (fin false m e) ≡ false
grown m e k n kp h le =
    not_after_trans (fin false m e) (round binary64 false (m * up e * k) (down e * k)) (round binary64 false n (down e * k))
    refl (round_non_neg binary64 (m * up e * k) (down e * k)) (round_non_neg binary64 n (down e * k))
    (value_not_before m e (round binary64 false (m * up e * k) (down e * k)) k kp (own binary64 m e k kp h))
    (le→not-after (round binary64 false (m * up e * k) (down e * k)) (round binary64 false n (down e * k)) (round_non_neg binary64 (m * up e * k) (down e * k)) (round_non_neg binary64 n (down e * k))
    (round_mono binary64 (m * up e * k) (down e * k) n (down e * k) (mul-pos (down_pos e) kp) (mul-pos (down_pos e) kp) (mul-le-mul_right (down e * k) le)))

-- a sum with minus zero
less_nothing : (a b c : ℕ) → b ≡ 0 → sum binary64 false a true b c ≡ round binary64 false a c
unfolding sum
less_nothing a b c e = rw (e, le-ltb a 0 (omega arith)) (ap (λ (x : ℕ). round binary64 false x c) {x = a - 0} {y = a} (omega arith))

-- the sum of a time and a gap, as a rounded fraction
sum_is : (m : ℕ) (e : ℤ) (g : Float) → Gap g → (n : ℕ) × (k : ℕ) × (0 < k) × (m * up e * k ≤ n) × (add binary64 (fin false m e) g ≡ round binary64 false n (down e * k))
unfolding add
sum_is m e nan h = absurd h
sum_is m e (inf s) h = absurd h
sum_is m e (fin false n d) h = (m * up e * down d + n * up d * down e, down d, down_pos d, omega arith, refl)
sum_is m e (fin true n d) h = (m * up e * down d, down d, down_pos d, omega arith, less_nothing (m * up e * down d) (n * up d * down e) (down e * down d) (ap (λ (x : ℕ). x * up d * down e) h ∙ omega arith))

pub time_on : (t g : Float) → GoodTime t → Gap g → lt (add binary64 t g) t ≡ false
time_on nan g h k = absurd h.non_neg
time_on (inf true) g h k = absurd (true≢false h.non_neg)
time_on (inf false) nan h k = absurd k
time_on (inf false) (inf s) h k = absurd k
time_on (inf false) (fin s m e) h k = unfold add lt in refl
time_on (fin true m e) g h k = absurd (true≢false h.non_neg)
time_on (fin false m e) g h k =
    let r = sum_is m e g k in
    subst (λ (x : Float). lt x (fin false m e) ≡ false) (sym r.4) (grown m e r.1 r.0 r.2 h.fit r.3)

pub good_on : (t g : Float) → GoodTime t → Gap g → GoodTime (add binary64 t g)
good_on t g h k = record { non_neg = stays t g h.non_neg k; fit = add-fits binary64 t g }
  where
    stays : (t g : Float) → NonNeg t → Gap g → NonNeg (add binary64 t g)
    stays nan g h k = absurd h
    stays (inf s) nan h k = absurd k
    stays (inf s) (inf u) h k = absurd k
    stays (inf s) (fin u m e) h k = unfold add in h
    stays (fin true m e) g h k = absurd (true≢false h)
    stays (fin false m e) g h k =
        let r = sum_is m e g k in
        subst (λ (x : Float). NonNeg x) (sym r.4) (round_non_neg binary64 r.0 (down e * r.1))

-- no time is before 0.0
pub not_before_zero : (t : Float) → NonNeg t → lt t (fin false 0 (pos 0)) ≡ false
unfolding lt
not_before_zero nan g = absurd g
not_before_zero (inf true) g = absurd (true≢false g)
not_before_zero (inf false) g = refl
not_before_zero (fin true m e) g = absurd (true≢false g)
not_before_zero (fin false m e) g = le-ltb (m * up e * down (pos 0)) (0 * up (pos 0) * down e) (omega (arith, zero-mul (down e)))

-- and no other is as early, since 0.0 is written in one way
pub zero_alone : (t : Float) → GoodTime t → lt (fin false 0 (pos 0)) t ≡ false → t ≡ fin false 0 (pos 0)
unfolding lt fits
zero_alone nan g h = absurd g.non_neg
zero_alone (inf true) g h = absurd (true≢false g.non_neg)
zero_alone (inf false) g h = absurd (true≢false h)
zero_alone (fin true m e) g h = absurd (true≢false g.non_neg)
zero_alone (fin false (suc m) e) g h =
    absurd (lt_irrefl 0 (lt_of_lt_of_le (mul-pos (mul-pos (zero-lt-suc m) (up_pos e)) (down_pos (pos 0))) (omega (arith, zero-mul (down e), ltb-false (0 * up (pos 0) * down e) (suc m * up e * down (pos 0)) h))))
zero_alone (fin false zero (pos zero)) g h = refl
zero_alone (fin false zero (pos (suc k))) g h =
    let above : 1 < 2 ^ suc k = pow-lt {i = 0} {j = suc k} (omega arith) in
    absurd (omega (arith, eqb→eq (2 ^ suc k * 1) 1 g.fit))
zero_alone (fin false zero (negsuc k)) g h =
    let above : 1 < 2 ^ suc k = pow-lt {i = 0} {j = suc k} (omega arith) in
    absurd (omega (arith, eqb→eq (1 * 2 ^ suc k) 1 g.fit))
