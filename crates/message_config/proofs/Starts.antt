-- The parts of a start in units of 2 ^ -1074: 1 + e, the delay divided by it, the difference from a finite time, and its ceiling.
use Rattle.std.proofs.Common.{◌≡◌, ℕ, zero, suc, ◌+◌, ◌-◌, ◌*◌, ◌/◌, ◌^◌, ◌<◌, ◌≤◌, min, Bool, true, false, T, ℤ, pos, negsuc, neg_ℤ, sym, refl, ap, ◌∙◌, subst, le_trans, le_of_eq, lt_of_lt_of_le, le_of_suc-le-suc, lt_of_le_of_lt, mul-le-mul_right, mul_assoc, suc-mul, mul_comm, div-lt_iff_lt-mul, le_antisymm, mul-le-mul_left, one-mul, lt_of_not-le, zero-mul, mul_right_comm, not-le_of_lt, div-mul-le_self, le_of_mul-le-mul_right, sub-le, arith, lit<, lit≤, pow_pos}
use native.Mathlib.Nat.{mul-mul-mul_comm, mul-sub, lt-div-mul-add, zero-div}
use mathlib.Core.Bool.{false≢true}
use lib.Ieee.{Float, nan, inf, fin, binary64, up, down, add, sub, div, lt, le, of_int}
use lib.Ieee.Fits.{down_pos}
use lib.Ieee.Nearest.{div_same}
use lib.Ieee.Scale.{overflow, finite}
use Rattle.constants.specs.Rate.{hold_back}
use Rattle.float_rounding.proofs.Units.{G, G-ge, G-le, Units, units_of}
use Rattle.float_rounding.proofs.More.{Rep, rep_of, sub_all, sub_negative}
use Rattle.float_rounding.proofs.Val.{Val, val_units, add_same, add_opposite}
use Rattle.floats.specs.Ceil.{ceil_signed, upward}
use Rattle.float_rounding.proofs.Size.{Within, number}
use Rattle.pulse_shape.proofs.DelayWithin.{div_units}
use Rattle.message_config.specs.Timing.{one}
use Rattle.message_config.proofs.InRange.{TimeInRange, DelayInRange, tenth_units}

-- `omega` reads no number of more than 38 digits, so powers of two are variables where it is at work

-- ---- 1 + e, for an e within 0.1 in size: from 7372 / 8192, which is above 0.8998, to the f64 nearest to 1.1
abbrev pub eleven_tenths : ℕ
eleven_tenths = 2476979795053773 * 2 ^ 1023

one_val : Val one false (2 ^ 1074)
unfolding of_int
one_val = (refl, refl)

more : (a n b : ℕ) → n ≤ b → a + n ≤ a + b
more a n b h = omega arith

least : (a n : ℕ) → a ≤ a + n
least a n = omega arith

rest : (a n b c : ℕ) → n ≤ b → c + b ≤ a → c ≤ a - n
rest a n b c h k = omega arith

pub one_plus : (e : Float) → Within e tenth_units → (g : ℕ) × Units (add binary64 one e) g × (7372 * 2 ^ 1061 ≤ g) × (g ≤ eleven_tenths)
one_plus e w = go w.0 w.2
  where
    n : ℕ
    n = w.1

    of : (a : ℕ) → (G a (2 ^ 1074) < overflow binary64 → Val (add binary64 one e) false (G a (2 ^ 1074))) → 7372 * 2 ^ 1061 ≤ a → a ≤ eleven_tenths → (g : ℕ) × Units (add binary64 one e) g × (7372 * 2 ^ 1061 ≤ g) × (g ≤ eleven_tenths)
    of a v lo hi =
        let top : G a (2 ^ 1074) ≤ eleven_tenths = G-le a (2 ^ 1074) 2476979795053773 1023 (pow_pos 1074) (lit< tt) (mul-le-mul_right (2 ^ 1074) hi) in
        (G a (2 ^ 1074), val_units (add binary64 one e) (G a (2 ^ 1074)) (v (lt_of_le_of_lt top (lit< {m = eleven_tenths} {n = overflow binary64} tt))), G-ge a (2 ^ 1074) 7372 1061 (pow_pos 1074) (lit< tt) (mul-le-mul_right (2 ^ 1074) lo), top)

    go : (s : Bool) → Val e s n → (g : ℕ) × Units (add binary64 one e) g × (7372 * 2 ^ 1061 ≤ g) × (g ≤ eleven_tenths)
    go false v =
        of (2 ^ 1074 + n) (add_same one e false (2 ^ 1074) n one_val v)
        (le_trans (lit≤ {m = 7372 * 2 ^ 1061} {n = 2 ^ 1074} tt) (least (2 ^ 1074) n))
        (le_trans (more (2 ^ 1074) n tenth_units w.3) (lit≤ {m = 2 ^ 1074 + tenth_units} {n = eleven_tenths} tt))
    go true v =
        of (2 ^ 1074 - n) (add_opposite one e false (2 ^ 1074) n one_val v (lt_of_le_of_lt w.3 (lit< {m = tenth_units} {n = 2 ^ 1074} tt)))
        (rest (2 ^ 1074) n tenth_units (7372 * 2 ^ 1061) w.3 (lit≤ {m = 7372 * 2 ^ 1061 + tenth_units} {n = 2 ^ 1074} tt))
        (le_trans (sub-le (2 ^ 1074) n) (lit≤ {m = 2 ^ 1074} {n = eleven_tenths} tt))

-- ---- a difference of multiples, and halves: h is half a sample, and N samples are N * (2 * h)
pub sub_mul : (a b c : ℕ) → (a - b) * c ≡ a * c - b * c
sub_mul a b c = mul_comm (a - b) c ∙ mul-sub c a b ∙ ap (λ (x : ℕ). x - c * b) (mul_comm c a) ∙ ap (λ (x : ℕ). a * c - x) (mul_comm c b)

pub halves : (n h : ℕ) → 2 * n * h ≡ n * (2 * h)
halves n h = ap (λ (x : ℕ). x * h) (mul_comm 2 n) ∙ mul_assoc n 2 h

-- ---- the delay divided by 1 + e is at least half a sample below the samples held back: 28 / 0.8998 is below 31.5
less_a_half : (H h k : ℕ) → 1 ≤ 2 * H → k ≤ (2 * H - 1) * h → k + h ≤ H * (2 * h)
less_a_half H h k P l =
    step h (2 * H * h) k (le_trans (le_of_eq (sym (one-mul h))) (mul-le-mul_right h P)) (le_trans l (le_of_eq (sub_mul (2 * H) 1 h ∙ ap (λ (x : ℕ). 2 * H * h - x) (one-mul h)))) (halves H h)
  where
    step : (h Y k : ℕ) → h ≤ Y → k ≤ Y - h → {Z : ℕ} → Y ≡ Z → k + h ≤ Z
    step h Y k p q e = omega arith

quotient_room : (sps v u : ℕ) → 3 ≤ sps → 7 * sps * (2 * v) * (8192 * u) ≤ (2 * (8 * sps) - 1) * v * (7372 * u)
quotient_room sps v u S =
    le_trans (le_of_eq (ap (λ (x : ℕ). x * (8192 * u)) (sym (mul_assoc (7 * sps) 2 v)) ∙ mul-mul-mul_comm (7 * sps * 2) v 8192 u))
    (le_trans (mul-le-mul_right (v * u) (at sps S)) (le_of_eq (sym (mul-mul-mul_comm (2 * (8 * sps) - 1) v 7372 u))))
  where
    at : (s : ℕ) → 3 ≤ s → 7 * s * 2 * 8192 ≤ (2 * (8 * s) - 1) * 7372
    at s h = omega arith

pub held_some : (sps : ℕ) → 3 ≤ sps → 1 ≤ hold_back sps
held_some sps h = omega arith

pub held_few : (sps : ℕ) → sps ≤ 2 ^ 30 → hold_back sps ≤ 2 ^ 40
held_few sps h = omega arith

pub without_half : (k h Y : ℕ) → k + h ≤ Y → k ≤ Y
without_half k h Y p = omega arith

pub clocked_delay : (sps : ℕ) → 3 ≤ sps → sps ≤ 2 ^ 30 → (d e : Float) → DelayInRange sps d → Within e tenth_units → (k : ℕ) × Units (div binary64 d (add binary64 one e)) k × (k + 2 ^ 1073 ≤ hold_back sps * 2 ^ 1074)
clocked_delay sps S few d e r w =
    let n = r.count in
    let c = one_plus e w in
    let g = c.0 in
    let q = 2 * (8 * sps) - 1 in
    let P : 0 < g = lt_of_lt_of_le (lit< {m = 0} {n = 7372 * 2 ^ 1061} tt) c.2 in
    let m : G n g ≤ q * 2 ^ 1073 = G-le n g q 1073 P (under sps few) (le_trans (mul-le-mul_right (2 ^ 1074) r.most) (le_trans (quotient_room sps (2 ^ 1073) (2 ^ 1061) S) (mul-le-mul_left (q * 2 ^ 1073) c.2))) in
    let o : G n g < overflow binary64 = lt_of_le_of_lt m (lt_of_le_of_lt (mul-le-mul_right (2 ^ 1073) (less sps few)) (lit< {m = 2 ^ 40 * 2 ^ 1073} {n = overflow binary64} tt)) in
    (G n g, div_units d (add binary64 one e) n g r.is c.1 P o, less_a_half (8 * sps) (2 ^ 1073) (G n g) (some sps S) m)
  where
    under : (s : ℕ) → s ≤ 2 ^ 30 → 2 * (8 * s) - 1 < 2 ^ 53
    under s h = omega arith

    less : (s : ℕ) → s ≤ 2 ^ 30 → 2 * (8 * s) - 1 ≤ 2 ^ 40
    less s h = omega arith

    some : (s : ℕ) → 3 ≤ s → 1 ≤ 2 * (8 * s)
    some s h = omega arith

-- ---- a finite time
pub record Counted (t : Float) : Type 0 where
  pub count : ℕ
  pub is : Units t count
  pub exact : Rep count
  pub under : count < overflow binary64

pub counted : (t : Float) → TimeInRange t → T (finite t) → Counted t
counted nan r f = absurd f
counted (inf s) r f = absurd f
counted (fin false m e) r f = let N = number (fin false m e) r.fit tt in record { count = N.count; is = N.is.1; exact = N.exact; under = N.under }
counted (fin true m e) r f =
    let u = units_of (fin true m e) r.fit r.low (below m e) in
    record { count = u.0; is = u.1; exact = rep_of (fin true m e) u.0 r.fit u.1; under = subst (λ (x : ℕ). x < overflow binary64) (sym u.1.1) (pow_pos 2098) }
  where
    below : (m : ℕ) (e : ℤ) → T (lt (fin true m e) (inf false))
    below m e = unfold lt in tt

-- ---- `upward`, by what it is at most and at least
pub upward_le : (a b c : ℕ) → 0 < b → a ≤ c * b → upward a b ≤ c
upward_le a b c B h = le_of_suc-le-suc ((div-lt_iff_lt-mul B).1 (lt_of_lt_of_le (step a b (c * b) B h) (le_of_eq (sym (suc-mul c b)))))
  where
    step : (a b x : ℕ) → 0 < b → a ≤ x → a + (b - 1) < x + b
    step a b x B h = omega arith

pub le_upward : (a b : ℕ) → 0 < b → a ≤ upward a b * b
le_upward a b B = step a b (upward a b * b) B (lt-div-mul-add {a = a + (b - 1)} {b = b} B)
  where
    step : (a b x : ℕ) → 0 < b → a + (b - 1) < x + b → a ≤ x
    step a b x B h = omega arith

-- it is less than one above
pub upward_lt : (a b : ℕ) → 0 < b → upward a b * b < a + b
upward_lt a b B = lt_of_le_of_lt (div-mul-le_self (a + (b - 1)) b) (step a b B)
  where
    step : (a b : ℕ) → 0 < b → a + (b - 1) < a + b
    step a b B = omega arith

pub upward_mono : (a b c : ℕ) → 0 < b → a ≤ c → upward a b ≤ upward c b
upward_mono a b c B h = upward_le a b (upward c b) B (le_trans h (le_upward c b B))

pub upward_ge : (a b c : ℕ) → 0 < b → c * b ≤ a → c ≤ upward a b
upward_ge a b c B h = le_of_mul-le-mul_right (le_trans h (le_upward a b B)) B

pub upward_gt : (a b c : ℕ) → 0 < b → c * b < a → c < upward a b
upward_gt a b c B h = lt_of_not-le (λ (g : upward a b ≤ c). not-le_of_lt h (le_trans (le_upward a b B) (mul-le-mul_right b g)))

upward_same : (a b c d : ℕ) → 0 < b → 0 < d → a * d ≡ c * b → upward a b ≡ upward c d
upward_same a b c d B D e = le_antisymm (half a b c d B D e) (half c d a b D B (sym e))
  where
    half : (a b c d : ℕ) → 0 < b → 0 < d → a * d ≡ c * b → upward a b ≤ upward c d
    half a b c d B D e = upward_le a b (upward c d) B (le_of_mul-le-mul_right (le_trans (le_of_eq e) (le_trans (mul-le-mul_right b (le_upward c d D)) (le_of_eq (mul_right_comm (upward c d) d b)))) D)

-- ---- a ceiling that is s, and not negative: what it says of a value that is not negative, and of one that is
ceil_units : (x : Float) (n : ℕ) → Units x n → ceil_signed 63 x ≡ pos (min (upward n (2 ^ 1074)) (2 ^ 63 - 1))
unfolding ceil_signed
ceil_units nan n p = absurd p
ceil_units (inf s) n p = absurd p
ceil_units (fin false m e) n p = ap (λ (q : ℕ). pos (min q (2 ^ 63 - 1))) (upward_same (m * up e) (down e) n (2 ^ 1074) (down_pos e) (pow_pos 1074) p)
ceil_units (fin true m e) n p = ap (λ (q : ℕ). neg_ℤ (pos (min (q * up e / down e) (2 ^ 63)))) p.0 ∙ ap (λ (q : ℕ). neg_ℤ (pos (min (q / down e) (2 ^ 63)))) (zero-mul (up e)) ∙ ap (λ (q : ℕ). neg_ℤ (pos (min q (2 ^ 63)))) (zero-div (down e)) ∙ ap (λ (q : ℕ). pos (min (upward q (2 ^ 1074)) (2 ^ 63 - 1))) (sym p.1)

ceil_negative : (x : Float) (n : ℕ) → Val x true n → ceil_signed 63 x ≡ neg_ℤ (pos (min (n / 2 ^ 1074) (2 ^ 63)))
unfolding ceil_signed
ceil_negative nan n p = absurd p
ceil_negative (inf s) n p = absurd p
ceil_negative (fin false m e) n p = absurd (false≢true p.0)
ceil_negative (fin true m e) n p = ap (λ (q : ℕ). neg_ℤ (pos (min q (2 ^ 63)))) (div_same (m * up e) (down e) n (2 ^ 1074) (down_pos e) (pow_pos 1074) p.1)

abbrev size_of : ℤ → ℕ
size_of (pos n) = n
size_of (negsuc n) = n

abbrev is_pos : ℤ → Bool
is_pos (pos n) = true
is_pos (negsuc n) = false

pub start_units : (x : Float) (n s : ℕ) → Units x n → ceil_signed 63 x ≡ pos s → s ≡ min (upward n (2 ^ 1074)) (2 ^ 63 - 1)
start_units x n s u e = ap size_of (sym e ∙ ceil_units x n u)

-- one below 2 ^ 52 is not cut off
pub reply_start : (x : Float) (n s : ℕ) → Units x n → ceil_signed 63 x ≡ pos s → s < 2 ^ 52 → upward n (2 ^ 1074) ≡ s
reply_start x n s u e small = uncut (upward n (2 ^ 1074)) s (start_units x n s u e) small
  where
    uncut : (g s : ℕ) → s ≡ min g (2 ^ 63 - 1) → s < 2 ^ 52 → g ≡ s
    uncut g s e h = omega arith

no_size : (m s : ℕ) → neg_ℤ (pos m) ≡ pos s → (m ≡ 0) × (s ≡ 0)
no_size zero s e = (refl, ap size_of (sym e))
no_size (suc m) s e = absurd (false≢true (ap is_pos e))

-- the start is 0, and x above -1
pub start_negative : (x : Float) (n s : ℕ) → Val x true n → ceil_signed 63 x ≡ pos s → (s ≡ 0) × (n < 2 ^ 1074)
start_negative x n s v e =
    let z = no_size (min (n / 2 ^ 1074) (2 ^ 63)) s (sym (ceil_negative x n v) ∙ e) in
    (z.1, lt_of_lt_of_le ((div-lt_iff_lt-mul {k = 2 ^ 1074} {x = n} {y = 1} (pow_pos 1074)).0 (first (n / 2 ^ 1074) z.0)) (le_of_eq (one-mul (2 ^ 1074))))
  where
    first : (q : ℕ) → min q (2 ^ 63) ≡ 0 → q < 1
    first q h = omega arith

-- an infinite time does not start a reply
pub finite_reply : (t d : Float) (k s : ℕ) → TimeInRange t → Units d k → ceil_signed 63 (sub binary64 t d) ≡ pos s → s < 2 ^ 52 → T (finite t)
unfolding le ceil_signed sub add
finite_reply nan d k s r D e h = absurd r.low
finite_reply (inf true) d k s r D e h = absurd r.low
finite_reply (inf false) nan k s r D e h = absurd D
finite_reply (inf false) (inf u) k s r D e h = absurd D
finite_reply (inf false) (fin u m i) k s r D e h = absurd (no s (ap size_of e) h)
  where
    no : (s : ℕ) → 2 ^ 63 - 1 ≡ s → s < 2 ^ 52 → ⊥
    no s e h = omega arith
finite_reply (fin u m i) d k s r D e h = tt

-- ---- the difference of a finite time and a delay
G-under : (n k : ℕ) → Rep n → G (n - k) (2 ^ 1074) ≤ n
G-under n k r = le_trans (G-le (n - k) (2 ^ 1074) r.0 r.1 (pow_pos 1074) r.2 (mul-le-mul_right (2 ^ 1074) (le_trans (sub-le n k) (le_of_eq r.3)))) (le_of_eq (sym r.3))

module _ (t d : Float) (T1 : Counted t) (k : ℕ) (D : Units d k) where
  abbrev n : ℕ
  n = T1.count

  pub at_most_time : G (T1.count - k) (2 ^ 1074) ≤ T1.count
  at_most_time = G-under n k T1.exact

  pub later : k ≤ T1.count → Units (sub binary64 t d) (G (T1.count - k) (2 ^ 1074))
  later h = sub_all t d n k T1.is D h (lt_of_le_of_lt (G-under n k T1.exact) T1.under)

  pub sooner : (H : ℕ) → H ≤ 2 ^ 40 → k ≤ H * 2 ^ 1074 → T1.count < k → Val (sub binary64 t d) true (G (k - T1.count) (2 ^ 1074))
  sooner H few K h =
      let m : G (k - n) (2 ^ 1074) ≤ H * 2 ^ 1074 = G-le (k - n) (2 ^ 1074) H 1074 (pow_pos 1074) (room H few) (mul-le-mul_right (2 ^ 1074) (le_trans (sub-le k n) K)) in
      sub_negative t d n k T1.is D h (lt_of_le_of_lt m (lt_of_le_of_lt (mul-le-mul_right (2 ^ 1074) few) (lit< {m = 2 ^ 40 * 2 ^ 1074} {n = overflow binary64} tt)))
    where
      room : (H : ℕ) → H ≤ 2 ^ 40 → H < 2 ^ 53
      room H h = omega arith
