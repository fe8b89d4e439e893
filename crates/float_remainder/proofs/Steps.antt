-- Taking multiples of a turn off a number, the largest first: each difference is exact, and what is left of the number by a turn stays.
use mathlib.Core.Path.{◌≡◌, refl, sym, ap, ◌∙◌, subst}
use Prim.Native.Nat.{ℕ, suc, ◌+◌, ◌-◌, ◌*◌, ◌%◌, ◌^◌, ◌≤◌, ◌<◌}
use native.Mathlib.Nat.{mul_assoc, mul_comm, mul_left_comm, mul-sub, one-mul, mul-pos, pow-suc, lt_of_lt_of_le, lt_of_le_of_lt, le_of_lt, le_of_eq, lt_irrefl, lt_of_mul-lt-mul_right, mul-add-mod_self_right, mod-eq_of_lt, mul-mod_left, mul-le-mul_right, le_trans, sub-le, zero-mod}
use native.Mathlib.Omega.{arith}
use mathlib.Core.Bool.{Bool, true, false, not, cond, true≢false, false≢true}
use lib.IntN.{ℤ, negsuc}
use lib.Dec.{T, eqb, leb, lit<, lit≤}
use borrow.Author.Tests.{leb-true, leb-false}
use lib.Pow.{pow-add, pow_pos, pow_mono, shl_lt}
use lib.Ieee.{Float, nan, inf, fin, binary64, fits, le, sub, add, mul, neg, rem, div, eq, round, of_bits, up, down}
use lib.Ieee.Scale.{finite}
use lib.Ieee.Bits.{of_bits-fits}
use lib.Ieee.Fits.{sub-fits, rem-fits, neg-fits}
use Rattle.float_rounding.proofs.Units.{G}
use Rattle.float_rounding.proofs.More.{Rep, G-rep, rep_of, sub_is}
use Rattle.float_rounding.proofs.Units.{G-exact}
use Rattle.float_rounding.proofs.Val.{Val, val_units, neg_val, add_opposite, mul_val, le_val, val_le, val_of}
use Rattle.float_rounding.proofs.Order.{round_neg}
use Rattle.float_rounding.proofs.Remainder.{rem_val}
use Rattle.float_remainder.specs.Turn.{two_pi, taken}
use Rattle.float_remainder.proofs.Unique.{unique, under}

-- ---- a turn, half of one, and the largest multiple, in units
abbrev significand : ℕ
significand = 7074237752028440

pub turn_units : ℕ
turn_units = significand * 2 ^ 1024

pub half_units : ℕ
half_units = significand * 2 ^ 1023

halves : turn_units ≡ 2 * half_units
unfolding turn_units half_units
halves = refl

turn_pos : 0 < turn_units
unfolding turn_units
turn_pos = lit< tt

turn_val : Val two_pi false turn_units
unfolding two_pi of_bits turn_units
turn_val = (refl, refl)

abbrev largest : Float
largest = of_bits binary64 0x7fe9_21fb_5444_2d18

largest_val : Val largest false (2 ^ 1022 * half_units)
unfolding of_bits half_units
largest_val = (refl, refl)

abbrev half : Float
half = of_bits binary64 0x3fe0_0000_0000_0000

half_val : Val half false (2 ^ 1073)
unfolding of_bits
half_val = (refl, refl)

zero_val : Val (of_bits binary64 0) false 0
unfolding of_bits
zero_val = (refl, refl)

-- ---- halving
spread : (i : ℕ) → significand * 2 ^ (i + 1023) ≡ 2 ^ i * half_units
unfolding half_units
spread i = ap (λ (x : ℕ). significand * x) (pow-add 2 i 1023) ∙ mul_left_comm significand (2 ^ i) (2 ^ 1023)

small_multiple : (i : ℕ) → i ≤ 1021 → 2 ^ i * half_units < 2 ^ 2098
small_multiple i h =
    subst (λ (x : ℕ). x < 2 ^ 2098) (spread i)
    (lt_of_lt_of_le (shl_lt 53 (i + 1023) (lit< tt)) (pow_mono (room i h)))
  where
    room : (i : ℕ) → i ≤ 1021 → 53 + (i + 1023) ≤ 2098
    room i h = omega arith

ring : (P H W V : ℕ) → V ≡ W * 2 → P * 2 * H * W * V ≡ P * H * (V * V)
ring P H W V e = simp (mul_assoc, mul_comm, mul_left_comm) refl ∙ ap (λ (x : ℕ). P * H * (x * V)) (sym e)

halved_units : (i : ℕ) → G (2 ^ suc i * half_units * 2 ^ 1073) (2 ^ 1074 * 2 ^ 1074) ≡ 2 ^ i * half_units
halved_units i =
    G-exact (2 ^ suc i * half_units * 2 ^ 1073) (2 ^ 1074 * 2 ^ 1074) significand (i + 1023) (mul-pos (pow_pos 1074) (pow_pos 1074)) (lit< tt)
    (ap (λ (x : ℕ). x * half_units * 2 ^ 1073 * 2 ^ 1074) (pow-suc 2 i) ∙ ring (2 ^ i) half_units (2 ^ 1073) (2 ^ 1074) refl ∙ ap (λ (x : ℕ). x * (2 ^ 1074 * 2 ^ 1074)) (sym (spread i)))
    ∙ spread i

halved : (t : Float) (i : ℕ) → i ≤ 1021 → Val t false (2 ^ suc i * half_units) → Val (mul binary64 t half) false (2 ^ i * half_units)
halved t i h p =
    subst (λ (n : ℕ). Val (mul binary64 t half) false n) (halved_units i)
    (mul_val t half false false (2 ^ suc i * half_units) (2 ^ 1073) p half_val (subst (λ (n : ℕ). n < 2 ^ 2098) (sym (halved_units i)) (small_multiple i h)))

-- ---- a difference that is a value of the format
-- n is above k and below twice k
less_at : (A X n : ℕ) → n ≡ A * X → significand * X < n → n < significand * X * 2 → (A - significand < 2 ^ 53) × (n - significand * X ≡ (A - significand) * X)
less_at A X n e h g = (few A top, ap (λ (x : ℕ). x - significand * X) e ∙ shared A significand X)
  where
    top : A < significand * 2
    top = lt_of_mul-lt-mul_right X (subst (λ (x : ℕ). x < significand * 2 * X) e (subst (λ (x : ℕ). n < x) (turned significand X) g))
      where
        turned : (a b : ℕ) → a * b * 2 ≡ a * 2 * b
        turned a b = simp (mul_assoc, mul_comm, mul_left_comm) refl

    few : (A : ℕ) → A < significand * 2 → A - significand < 2 ^ 53
    few A h = omega arith

    shared : (a b c : ℕ) → a * c - b * c ≡ (a - b) * c
    shared a b c = (λ i. mul_comm a c i - mul_comm b c i) ∙ sym (mul-sub c a b) ∙ mul_comm c (a - b)

-- the power of two of n is that of k at least
finer : (q j E : ℕ) → q < 2 ^ 53 → significand * 2 ^ E < q * 2 ^ j → E ≤ j
finer q j E h g = go (leb E j) refl
  where
    above : suc j ≤ E → 2 ^ (53 + j) ≤ significand * 2 ^ E
    above b = le_trans (pow_mono (shift j E b)) (le_trans (le_of_eq (pow-add 2 52 E)) (mul-le-mul_right (2 ^ E) (lit≤ tt)))
      where
        shift : (j E : ℕ) → suc j ≤ E → 53 + j ≤ 52 + E
        shift j E b = omega arith

    go : (b : Bool) → leb E j ≡ b → E ≤ j
    go true e = leb-true E j e
    go false e = absurd (lt_irrefl (significand * 2 ^ E) (lt_of_lt_of_le (lt_of_lt_of_le g (le_of_lt (shl_lt 53 j h))) (above (leb-false E j e))))

difference : (n E : ℕ) → Rep n → significand * 2 ^ E < n → n < significand * 2 ^ E * 2 → Rep (n - significand * 2 ^ E)
difference n E r h g =
    let q = r.0 in
    let j = r.1 in
    let at : E ≤ j = finer q j E r.2 (subst (λ (x : ℕ). significand * 2 ^ E < x) r.3 h) in
    let e : n ≡ q * 2 ^ (j - E) * 2 ^ E = r.3 ∙ ap (λ (x : ℕ). q * 2 ^ x) (sym (back j E at)) ∙ ap (λ (x : ℕ). q * x) (pow-add 2 (j - E) E) ∙ sym (mul_assoc q (2 ^ (j - E)) (2 ^ E)) in
    let d = less_at (q * 2 ^ (j - E)) (2 ^ E) n e h g in
    (q * 2 ^ (j - E) - significand, E, d.0, d.1)
  where
    back : (i j : ℕ) → j ≤ i → i - j + j ≡ i
    back i j h = omega arith

-- ---- one multiple taken off
multiple : (i : ℕ) → significand * 2 ^ (i + 1024) ≡ 2 ^ i * turn_units
unfolding turn_units
multiple i = ap (λ (x : ℕ). significand * x) (pow-add 2 i 1024) ∙ mul_left_comm significand (2 ^ i) (2 ^ 1024)

subtracted : (r t : Float) (n i : ℕ) → T (fits binary64 r) → Val r false n → Val t false (2 ^ i * turn_units) → 2 ^ i * turn_units < n → n < 2 ^ i * turn_units * 2 → Val (sub binary64 r t) false (n - 2 ^ i * turn_units)
subtracted r t n i F p q h g =
    let k = 2 ^ i * turn_units in
    let rep : Rep (n - k) = subst (λ (x : ℕ). Rep (n - x)) (multiple i) (difference n (i + 1024) (rep_of r n F (val_units r n p)) (subst (λ (x : ℕ). x < n) (sym (multiple i)) h) (subst (λ (x : ℕ). n < x * 2) (sym (multiple i)) g)) in
    let same : G (n - k) (2 ^ 1074) ≡ n - k = G-rep (n - k) rep in
    subst (λ (z : Float). Val z false (n - k)) (sym (sub_is r t))
    (subst (λ (m : ℕ). Val (add binary64 r (neg t)) false m) same
    (add_opposite r (neg t) false n k p (neg_val t false k q) h (subst (λ (m : ℕ). m < 2 ^ 2098) (sym same) (lt_of_le_of_lt (sub-le n k) (under r false n F p)))))

-- ---- what the loop keeps: the whole, what is left of it, and the multiple that comes next
pub record Going (x r t : Float) (i : ℕ) : Type 0 where
  pub whole : ℕ
  pub left : ℕ
  pub few : i ≤ 1022
  pub x_is : Val x false whole
  pub r_fits : T (fits binary64 r)
  pub r_is : Val r false left
  pub t_is : Val t false (2 ^ i * half_units)
  pub below : left < 2 ^ i * turn_units
  pub same : left % turn_units ≡ whole % turn_units

unlike_at : (i : ℕ) → 2 ^ suc i * half_units ≡ 2 ^ i * turn_units
unlike_at i = ap (λ (x : ℕ). x * half_units) (pow-suc 2 i) ∙ mul_assoc (2 ^ i) 2 half_units ∙ ap (λ (x : ℕ). 2 ^ i * x) (sym halves)

twice_at : (i : ℕ) → 2 ^ suc i * turn_units ≡ 2 ^ i * turn_units * 2
twice_at i = ap (λ (x : ℕ). x * turn_units) (pow-suc 2 i) ∙ swap (2 ^ i) turn_units
  where
    swap : (a b : ℕ) → a * 2 * b ≡ a * b * 2
    swap a b = simp (mul_assoc, mul_comm, mul_left_comm) refl

left_of : (n q k : ℕ) → q * k ≤ n → (n - q * k) % k ≡ n % k
left_of n q k h = sym (mul-add-mod_self_right q k (n - q * k)) ∙ ap (λ (x : ℕ). x % k) (again n (q * k) h)
  where
    again : (n m : ℕ) → m ≤ n → m + (n - m) ≡ n
    again n m h = omega arith

module _ (x r t : Float) (i : ℕ) (g : Going x r t (suc i)) where
  k : ℕ
  k = 2 ^ i * turn_units

  t_val : Val t false k
  unfolding k
  t_val = subst (λ (n : ℕ). Val t false n) (unlike_at i) g.t_is

  bound : g.left < k * 2
  unfolding k
  bound = subst (λ (n : ℕ). g.left < n) (twice_at i) g.below

  step_to : (r' t' : Float) (n : ℕ) → t' ≡ mul binary64 t half → T (fits binary64 r') → Val r' false n → n < k → n % turn_units ≡ g.whole % turn_units → Going x r' t' i
  unfolding k
  step_to r' t' n e F p b s = record {
    whole = g.whole;
    left = n;
    few = less i g.few;
    x_is = g.x_is;
    r_fits = F;
    r_is = p;
    t_is = subst (λ (z : Float). Val z false (2 ^ i * half_units)) (sym e) (halved t i (less_one i g.few) g.t_is);
    below = b;
    same = s;
  }
    where
      less : (i : ℕ) → suc i ≤ 1022 → i ≤ 1022
      less i h = omega arith

      less_one : (i : ℕ) → suc i ≤ 1022 → i ≤ 1021
      less_one i h = omega arith

  step : (r' t' : Float) → r' ≡ taken r t → t' ≡ mul binary64 t half → Going x r' t' i
  unfolding taken k
  step r' t' e f = go (le t r) refl
    where
      minus : (n k : ℕ) → k < n → n < k * 2 → n - k < k
      minus n k h g = omega arith

      equal : (n k : ℕ) → n ≤ k → k ≤ n → n ≡ k
      equal n k a b = omega arith

      above : (b : Bool) → le r t ≡ b → k ≤ g.left → r' ≡ cond b (of_bits binary64 0) (sub binary64 r t) → Going x r' t' i
      above true h a e =
          let same : g.left ≡ k = equal g.left k (le_val r t false false g.left k g.r_is t_val (subst T (sym h) tt)) a in
          step_to r' t' 0 f (subst (λ (z : Float). T (fits binary64 z)) (sym e) (of_bits-fits binary64 0)) (subst (λ (z : Float). Val z false 0) (sym e) zero_val)
          (mul-pos (pow_pos i) turn_pos)
          (zero-mod turn_units ∙ sym (mul-mod_left (2 ^ i) turn_units) ∙ ap (λ (n : ℕ). n % turn_units) (sym same) ∙ g.same)
      above false h a e =
          let more : k < g.left = not_le g.left k (λ z. val_le r t false false g.left k g.r_is t_val z) in
          step_to r' t' (g.left - k) f (subst (λ (z : Float). T (fits binary64 z)) (sym e) (sub-fits binary64 r t)) (subst (λ (z : Float). Val z false (g.left - k)) (sym e) (subtracted r t g.left i g.r_fits g.r_is t_val more bound))
          (minus g.left k more bound)
          (left_of g.left (2 ^ i) turn_units (le_of_lt more) ∙ g.same)
        where
          not_le : (n k : ℕ) → (n ≤ k → T (le r t)) → k < n
          not_le n k z = below (leb n k) refl
            where
              below : (b : Bool) → leb n k ≡ b → k < n
              below true w = absurd (subst T h (z (leb-true n k w)))
              below false w = leb-false n k w

      go : (b : Bool) → le t r ≡ b → Going x r' t' i
      go true h = above (le r t) refl (le_val t r false false k g.left t_val g.r_is (subst T (sym h) tt)) (e ∙ ap (λ (b : Bool). cond b (cond (le r t) (of_bits binary64 0) (sub binary64 r t)) r) h)
      go false h =
          let here : r' ≡ r = e ∙ ap (λ (b : Bool). cond b (cond (le r t) (of_bits binary64 0) (sub binary64 r t)) r) h in
          step_to r' t' g.left f (subst (λ (z : Float). T (fits binary64 z)) (sym here) g.r_fits) (subst (λ (z : Float). Val z false g.left) (sym here) g.r_is)
          (not_le k g.left (λ z. val_le t r false false k g.left t_val g.r_is z))
          g.same
        where
          not_le : (n k : ℕ) → (n ≤ k → T (le t r)) → k < n
          not_le n k z = below (leb n k) refl
            where
              below : (b : Bool) → leb n k ≡ b → k < n
              below true w = absurd (subst T h (z (leb-true n k w)))
              below false w = leb-false n k w

-- ---- the end
over_end : (n k : ℕ) → n < 2 ^ 0 * k → n < k
over_end n k h = subst (λ (x : ℕ). n < x) (one-mul k) h

ends : (x r t : Float) → T (fits binary64 x) → Going x r t 0 → r ≡ rem binary64 x two_pi
ends x r t F g =
    let below : g.left < turn_units = over_end g.left turn_units g.below in
    let same : g.whole % turn_units ≡ g.left = sym g.same ∙ mod-eq_of_lt below in
    let rep : G (g.whole % turn_units) (2 ^ 1074) ≡ g.left = ap (λ (n : ℕ). G n (2 ^ 1074)) same ∙ G-rep g.left (rep_of r g.left g.r_fits (val_units r g.left g.r_is)) in
    unique r (rem binary64 x two_pi) false g.left g.r_fits (rem-fits binary64 x two_pi F) g.r_is
    (subst (λ (n : ℕ). Val (rem binary64 x two_pi) false n) rep
    (rem_val x two_pi false false g.whole turn_units g.x_is turn_val turn_pos (subst (λ (n : ℕ). n < 2 ^ 2098) (sym rep) (under r false g.left g.r_fits g.r_is))))

-- ---- the beginning
-- what is 2 PI at least and finite has the sign of a number that is not negative
whole_of : (x : Float) → T (le two_pi x) → (s : Bool) (n : ℕ) → Val x s n → Val x false n
whole_of x h true n p = absurd (lt_irrefl 0 (subst (λ (z : ℕ). 0 < z) ((le_val two_pi x false true turn_units n turn_val p h).0) turn_pos))
whole_of x h false n p = p

enough : 2 ^ 2098 ≤ 2 ^ 1022 * turn_units
unfolding turn_units
enough = lit≤ tt

starts : (x : Float) → T (fits binary64 x) → T (finite x) → T (le two_pi x) → Going x x largest 1022
starts x F f h =
    let v = val_of x F f in
    let p = whole_of x h v.0 v.1.0 v.1.1 in record {
      whole = v.1.0;
      left = v.1.0;
      few = lit≤ tt;
      x_is = p;
      r_fits = F;
      r_is = p;
      t_is = largest_val;
      below = lt_of_lt_of_le (under x false v.1.0 F p) enough;
      same = refl;
    }

-- ---- a value below a turn in size is its own remainder
own : (x : Float) (s : Bool) (n : ℕ) → T (fits binary64 x) → Val x s n → n < turn_units → G n (2 ^ 1074) ≡ n → x ≡ rem binary64 x two_pi
own x s n F p h e =
    let same : G (n % turn_units) (2 ^ 1074) ≡ n = ap (λ (m : ℕ). G m (2 ^ 1074)) (mod-eq_of_lt h) ∙ e in
    unique x (rem binary64 x two_pi) s n F (rem-fits binary64 x two_pi F) p
    (subst (λ (m : ℕ). Val (rem binary64 x two_pi) s m) same
    (rem_val x two_pi s false n turn_units p turn_val turn_pos (subst (λ (m : ℕ). m < 2 ^ 2098) (sym same) (under x s n F p))))

less_than : (y : Float) (n : ℕ) → Val y false n → le two_pi y ≡ false → n < turn_units
less_than y n p h = go (leb turn_units n) refl
  where
    go : (b : Bool) → leb turn_units n ≡ b → n < turn_units
    go true e = absurd (subst T h (val_le two_pi y false false turn_units n turn_val p (leb-true turn_units n e)))
    go false e = leb-false turn_units n e

below_minus_infinite : le two_pi (neg (inf true)) ≡ false → true ≡ false
unfolding neg le two_pi of_bits
below_minus_infinite h = h

above_infinite : le two_pi (inf false) ≡ false → true ≡ false
unfolding le two_pi of_bits
above_infinite h = h

pub small : (x : Float) → T (fits binary64 x) → le two_pi x ≡ false → le two_pi (neg x) ≡ false → x ≡ rem binary64 x two_pi
small nan F a b = unfold rem in refl
small (inf true) F a b = absurd (true≢false (below_minus_infinite b))
small (inf false) F a b = absurd (true≢false (above_infinite a))
small (fin s m e) F a b = go s v.1.0 (signed v.0 v.1.0 v.1.1) a b F
  where
    v : (t : Bool) × ((n : ℕ) × Val (fin s m e) t n)
    v = val_of (fin s m e) F tt

    signed : (t : Bool) (n : ℕ) → Val (fin s m e) t n → Val (fin s m e) s n
    signed t n p = (refl, p.1)

    go : (s : Bool) (n : ℕ) → Val (fin s m e) s n → le two_pi (fin s m e) ≡ false → le two_pi (neg (fin s m e)) ≡ false → T (fits binary64 (fin s m e)) → fin s m e ≡ rem binary64 (fin s m e) two_pi
    go false n p a b F = own (fin false m e) false n F p (less_than (fin false m e) n p a) (G-rep n (rep_of (fin false m e) n F (val_units (fin false m e) n p)))
    go true n p a b F =
        let q : Val (neg (fin true m e)) false n = neg_val (fin true m e) true n p in
        own (fin true m e) true n F p (less_than (neg (fin true m e)) n q b) (G-rep n (rep_of (neg (fin true m e)) n (neg-fits binary64 (fin true m e) F) (val_units (neg (fin true m e)) n q)))

-- ---- the sign
turned : (s : Bool) (a c : ℕ) → neg (round binary64 (not s) a c) ≡ round binary64 s a c
turned s a c = sym (round_neg binary64 (not s) a c) ∙ ap (λ (b : Bool). round binary64 b a c) (not_not s)
  where
    not_not : (s : Bool) → not (not s) ≡ s
    not_not true = refl
    not_not false = refl

rem_neg_at : (x : Float) (t : Bool) (n : ℕ) (d : ℤ) → neg (rem binary64 (neg x) (fin t n d)) ≡ rem binary64 x (fin t n d)
unfolding rem neg
rem_neg_at nan t n d = refl
rem_neg_at (inf s) t n d = refl
rem_neg_at (fin s m e) t n d = go (eqb n 0) (m * up e * down d % (n * up d * down e)) (down e * down d)
  where
    go : (b : Bool) (a c : ℕ) → neg (cond b nan (round binary64 (not s) a c)) ≡ cond b nan (round binary64 s a c)
    go true a c = refl
    go false a c = turned s a c

turn_is : two_pi ≡ fin false 884279719003555 (negsuc 46)
unfolding two_pi of_bits
turn_is = refl

pub rem_neg : (x : Float) → neg (rem binary64 (neg x) two_pi) ≡ rem binary64 x two_pi
rem_neg x = subst (λ (z : Float). neg (rem binary64 (neg x) z) ≡ rem binary64 x z) (sym turn_is) (rem_neg_at x false 884279719003555 (negsuc 46))

-- ---- an infinity has no remainder, and nothing else of a turn at least is not finite
abbrev infinity : Float
infinity = div binary64 (of_bits binary64 0x3ff0_0000_0000_0000) (of_bits binary64 0)

pub no_number : (x : Float) → eq x infinity ≡ true → sub binary64 x x ≡ rem binary64 x two_pi
unfolding eq div of_bits sub add rem
no_number nan h = refl
no_number (inf true) h = refl
no_number (inf false) h = refl
no_number (fin s m e) h = absurd (false≢true h)

finite_of : (x : Float) → le two_pi x ≡ true → eq x infinity ≡ false → T (finite x)
unfolding le two_pi of_bits eq div
finite_of nan h g = absurd (false≢true h)
finite_of (inf true) h g = absurd (false≢true h)
finite_of (inf false) h g = absurd (true≢false g)
finite_of (fin s m e) h g = tt

-- ---- the code's loop: i multiples are taken off
pub begun : (x : Float) → fits binary64 x ≡ true → le two_pi x ≡ true → eq x infinity ≡ false → Going x x largest 1022
begun x F h g = starts x (subst T (sym F) tt) (finite_of x h g) (subst T (sym h) tt)

pub taken_once : (x r t r' : Float) (i : ℕ) → i < 1022 → Going x r t (1022 - i) → r' ≡ taken r t → Going x r' (mul binary64 t half) (1022 - (i + 1))
taken_once x r t r' i h g e = step x r t (1022 - (i + 1)) (subst (λ (n : ℕ). Going x r t n) (again i h) g) r' (mul binary64 t half) e refl
  where
    again : (i : ℕ) → i < 1022 → 1022 - i ≡ suc (1022 - (i + 1))
    again i h = omega arith

pub all_taken : (x r t : Float) (i : ℕ) → Going x r t (1022 - i) → 1022 ≤ i → fits binary64 x ≡ true → r ≡ rem binary64 x two_pi
all_taken x r t i g h F = ends x r t (subst T (sym F) tt) (subst (λ (n : ℕ). Going x r t n) (over i h) g)
  where
    over : (i : ℕ) → 1022 ≤ i → 1022 - i ≡ 0
    over i h = omega arith
