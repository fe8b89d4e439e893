-- Comparison by sign and size: what `le` says of two finite values, that a negation turns it round, and that rounding keeps the sign. For either format.
use mathlib.Core.Path.{◌≡◌, refl, sym, ap, ◌∙◌}
use mathlib.Core.Logic.{◌⊎◌, inl, inr}
use Prim.Native.Nat.{ℕ, zero, suc, ◌+◌, ◌-◌, ◌*◌, ◌/◌, ◌%◌, ◌^◌, ◌≤◌, ◌<◌, compare, zero-le}
use native.Mathlib.Nat.{le_of_lt, le_of_eq, le_trans, eq-or-lt_of_le, eq-zero-or-pos, zero-mul}
use native.Mathlib.Omega.{arith}
use mathlib.Core.Bool.{◌||◌, Bool, true, false, not, ◌&&◌, cond, true≢false, false≢true}
use lib.IntN.{ℤ, pos}
use lib.Dec.{T, leb, ltb, eqb, ltb→lt, nltb→le, lt→ltb, le→leb, eqb→eq}
use lib.Arith.{lt→nleb, lt_of_le-ne}
use lib.Ieee.{Float, nan, inf, fin, Format, binary32, binary64, prec, emax, low, up, down, below, level, lt, eq, le, neg, odd, units, round, nearest, size, of_fields, of_bits, hid, ones, top}
use lib.Ieee.Fits.{down_pos, and_i, and_l, and_r, eq→eqb}
use lib.Ieee.Bits.{is_true, is_false}

-- ---- ±a ≤ ±b, the signs apart: -0 equals +0
abbrev pub Le : Bool → ℕ → Bool → ℕ → Type 0
Le false a false b = a ≤ b
Le true a false b = T true
Le false a true b = (a ≡ 0) × (b ≡ 0)
Le true a true b = b ≤ a

or_l : (a b : Bool) → T a → T (a || b)
or_l true b t = tt
or_l false b t = absurd t

or_r : (a b : Bool) → T b → T (a || b)
or_r true b t = tt
or_r false b t = t

or_split : (a b : Bool) → T (a || b) → T a ⊎ T b
or_split true b t = inl tt
or_split false b t = inr t

same : (a b : ℕ) → T (eqb a b && true) → a ≡ b
same a b t = eqb→eq a b (and_l (eqb a b) true t)

both_zero : (a b : ℕ) → T (eqb a b && eqb a 0) → (a ≡ 0) × (b ≡ 0)
both_zero a b t =
    let A : a ≡ 0 = eqb→eq a 0 (and_r (eqb a b) (eqb a 0) t) in
    (A, sym (eqb→eq a b (and_l (eqb a b) (eqb a 0) t)) ∙ A)

zeros : (a b : ℕ) → a ≡ 0 → b ≡ 0 → T (eqb a b && eqb a 0)
zeros a b A B = and_i (eqb a b) (eqb a 0) (eq→eqb {a = a} {b = b} (A ∙ sym B)) (eq→eqb {a = a} {b = 0} A)

pub le_out : (s : Bool) (a : ℕ) (t : Bool) (b : ℕ) → T (below s a t b || level s a t b) → Le s a t b
le_out false a false b h = elim (or_split (ltb a b) (eqb a b && true) h) [ inl l ↦ le_of_lt (ltb→lt a b l) | inr e ↦ le_of_eq (same a b e) ]
le_out true a false b h = tt
le_out false a true b h = both_zero a b h
le_out true a true b h = elim (or_split (ltb b a) (eqb a b && true) h) [ inl l ↦ le_of_lt (ltb→lt b a l) | inr e ↦ le_of_eq (sym (same a b e)) ]

-- and where the test fails, of two that are not negative
pub le_out_no : (a b : ℕ) → T (not (below false a false b || level false a false b)) → b < a
le_out_no a b t = go (ltb a b) (nltb→le a b) (eqb a b) (λ (e : a ≡ b). eq→eqb {a = a} {b = b} e) t
  where
    go : (x : Bool) → (T (not x) → b ≤ a) → (y : Bool) → (a ≡ b → T y) → T (not (x || (y && true))) → b < a
    go true f y g t = absurd t
    go false f true g t = absurd t
    go false f false g t = lt_of_le-ne (f tt) (λ (e : b ≡ a). g (sym e))

le_in : (s : Bool) (a : ℕ) (t : Bool) (b : ℕ) → Le s a t b → T (below s a t b || level s a t b)
le_in false a false b h = elim (eq-or-lt_of_le h) [ inl e ↦ or_r (ltb a b) (eqb a b && true) (and_i (eqb a b) true (eq→eqb {a = a} {b = b} e) tt) | inr l ↦ or_l (ltb a b) (eqb a b && true) (lt→ltb a b l) ]
le_in true a false b h = elim (eq-zero-or-pos (a + b)) [ inl z ↦ or_r (ltb 0 (a + b)) (eqb a b && eqb a 0) (zeros a b (first a b z) (second a b z)) | inr p ↦ or_l (ltb 0 (a + b)) (eqb a b && eqb a 0) (lt→ltb 0 (a + b) p) ]
  where
    first : (a b : ℕ) → a + b ≡ 0 → a ≡ 0
    first a b z = omega arith

    second : (a b : ℕ) → a + b ≡ 0 → b ≡ 0
    second a b z = omega arith
le_in false a true b h = zeros a b h.0 h.1
le_in true a true b h = elim (eq-or-lt_of_le h) [ inl e ↦ or_r (ltb b a) (eqb a b && true) (and_i (eqb a b) true (eq→eqb {a = a} {b = b} (sym e)) tt) | inr l ↦ or_l (ltb b a) (eqb a b && true) (lt→ltb b a l) ]

pub le_fin : (s : Bool) (m : ℕ) (e : ℤ) (t : Bool) (n : ℕ) (d : ℤ) → T (le (fin s m e) (fin t n d)) → Le s (m * up e * down d) t (n * up d * down e)
unfolding le lt eq
le_fin s m e t n d h = le_out s (m * up e * down d) t (n * up d * down e) h

pub fin_le : (s : Bool) (m : ℕ) (e : ℤ) (t : Bool) (n : ℕ) (d : ℤ) → Le s (m * up e * down d) t (n * up d * down e) → T (le (fin s m e) (fin t n d))
unfolding le lt eq
fin_le s m e t n d h = le_in s (m * up e * down d) t (n * up d * down e) h

-- 0 is at most every value without a sign
pub zero_le_fin : (m : ℕ) (e : ℤ) → T (le (fin false 0 (pos 0)) (fin false m e))
zero_le_fin m e = fin_le false 0 (pos 0) false m e (le_trans (le_of_eq (zero-mul (down e))) zero-le)

-- and -1 is below it
pub minus_one_lt : (m : ℕ) (e : ℤ) → T (lt (fin true 1 (pos 0)) (fin false m e))
unfolding lt
minus_one_lt m e = lt→ltb 0 (1 * 1 * down e + m * up e * 1) (more (down e) (m * up e * 1) (down_pos e))
  where
    more : (d n : ℕ) → 0 < d → 0 < 1 * 1 * d + n
    more d n h = omega arith

turned : (s : Bool) (a : ℕ) (t : Bool) (b : ℕ) → Le s a t b → Le (not t) b (not s) a
turned false a false b h = h
turned true a false b h = tt
turned false a true b h = (h.1, h.0)
turned true a true b h = h

pub le_neg : (x y : Float) → T (le x y) → T (le (neg y) (neg x))
unfolding neg
le_neg nan y h = absurd (unfold le in h)
le_neg (inf s) nan h = absurd (unfold le in h)
le_neg (inf true) (inf true) h = unfold le in tt
le_neg (inf true) (inf false) h = unfold le in tt
le_neg (inf false) (inf true) h = absurd (unfold le in h)
le_neg (inf false) (inf false) h = unfold le in tt
le_neg (inf true) (fin t n d) h = unfold le in tt
le_neg (inf false) (fin t n d) h = absurd (unfold le in h)
le_neg (fin s m e) nan h = absurd (unfold le in h)
le_neg (fin s m e) (inf true) h = absurd (unfold le in h)
le_neg (fin s m e) (inf false) h = unfold le in tt
le_neg (fin s m e) (fin t n d) h = fin_le (not t) n d (not s) m e (turned s (m * up e * down d) t (n * up d * down e) (le_fin s m e t n d h))

-- ---- the sign of what is rounded
abbrev pub Signed : Float → Bool → Type 0
Signed nan s = ⊥
Signed (inf t) s = t ≡ s
Signed (fin t m e) s = t ≡ s

odd_signed : (d : ℕ) (s : Bool) (q k l : ℕ) → Signed (odd d s q k l) s
unfolding odd
odd_signed d s zero k l = refl
odd_signed d s (suc q) k l = refl

units_signed : (f : Format) (s : Bool) (q k : ℕ) → Signed (units f s q k) s
unfolding units
units_signed f s q k = go (ltb (q * 2 ^ k) (2 ^ (low f + suc (emax f))))
  where
    go : (b : Bool) → Signed (cond b (odd (suc (prec f)) s q k (low f)) (inf s)) s
    go true = odd_signed (suc (prec f)) s q k (low f)
    go false = refl

pub round_signed : (f : Format) (s : Bool) (a c : ℕ) → Signed (round f s a c) s
unfolding round
round_signed f s a c =
    let n = a * 2 ^ low f in
    let k = size (n / c) - prec f in
    let u = c * 2 ^ k in
    units_signed f s (nearest (n / u) (compare (n % u * 2) u)) k

pub le_signed : (x y : Float) → Signed x true → Signed y false → T (le x y)
le_signed nan y p q = absurd p
le_signed (inf false) y p q = absurd (false≢true p)
le_signed (fin false m e) y p q = absurd (false≢true p)
le_signed (inf true) nan p q = absurd q
le_signed (inf true) (inf false) p q = unfold le in tt
le_signed (inf true) (inf true) p q = absurd (true≢false q)
le_signed (inf true) (fin t n d) p q = unfold le in tt
le_signed (fin true m e) nan p q = absurd q
le_signed (fin true m e) (inf false) p q = unfold le in tt
le_signed (fin true m e) (inf true) p q = absurd (true≢false q)
le_signed (fin true m e) (fin false n d) p q = fin_le true m e false n d tt
le_signed (fin true m e) (fin true n d) p q = absurd (true≢false q)

-- ---- the other sign
odd_neg : (d : ℕ) (s : Bool) (q k l : ℕ) → odd d (not s) q k l ≡ neg (odd d s q k l)
unfolding odd neg
odd_neg d s zero k l = refl
odd_neg d s (suc q) k l = refl

units_neg : (f : Format) (s : Bool) (q k : ℕ) → units f (not s) q k ≡ neg (units f s q k)
unfolding units
units_neg f s q k = go (ltb (q * 2 ^ k) (2 ^ (low f + suc (emax f))))
  where
    go : (b : Bool) → cond b (odd (suc (prec f)) (not s) q k (low f)) (inf (not s)) ≡ neg (cond b (odd (suc (prec f)) s q k (low f)) (inf s))
    go true = odd_neg (suc (prec f)) s q k (low f)
    go false = unfold neg in refl

pub round_neg : (f : Format) (s : Bool) (a c : ℕ) → round f (not s) a c ≡ neg (round f s a c)
unfolding round
round_neg f s a c =
    let n = a * 2 ^ low f in
    let k = size (n / c) - prec f in
    let u = c * 2 ^ k in
    units_neg f s (nearest (n / u) (compare (n % u * 2) u)) k

fields_neg : (f : Format) (s : Bool) (x t : ℕ) → of_fields f (not s) x t ≡ neg (of_fields f s x t)
unfolding of_fields
fields_neg f s zero t = odd_neg (prec f) s t 0 (low f)
fields_neg f s (suc x) t = go (eqb (suc x) (ones f)) (eqb t 0)
  where
    go : (a b : Bool) → cond a (cond b (inf (not s)) nan) (odd (prec f) (not s) (hid f + t) x (low f)) ≡ neg (cond a (cond b (inf s) nan) (odd (prec f) s (hid f + t) x (low f)))
    go true true = unfold neg in refl
    go true false = unfold neg in refl
    go false b = odd_neg (prec f) s (hid f + t) x (low f)

-- a pattern with the sign set stands for the negation of what it stands for without
by_fields : (f : Format) (n : ℕ) → T (leb (top f) (top f + n)) → T (not (leb (top f) n)) → (top f + n) % top f ≡ n % top f → (top f + n) % hid f ≡ n % hid f → of_bits f (top f + n) ≡ neg (of_bits f n)
unfolding of_bits
by_fields f n p q e g =
    ap (λ (b : Bool). of_fields f b ((top f + n) % top f / hid f) ((top f + n) % hid f)) (is_true (leb (top f) (top f + n)) p)
    ∙ ap (λ (x : ℕ). of_fields f true (x / hid f) ((top f + n) % hid f)) e
    ∙ ap (λ (x : ℕ). of_fields f true (n % top f / hid f) x) g
    ∙ fields_neg f false (n % top f / hid f) (n % hid f)
    ∙ ap (λ (b : Bool). neg (of_fields f b (n % top f / hid f) (n % hid f))) (sym (is_false (leb (top f) n) q))

pub bits_neg : (f : Format) (n : ℕ) → n < top f → of_bits f (top f + n) ≡ neg (of_bits f n)
bits_neg binary32 n h = by_fields binary32 n (le→leb 2147483648 (2147483648 + n) (omega arith)) (lt→nleb 2147483648 n h) (omega arith) (omega arith)
bits_neg binary64 n h = by_fields binary64 n (le→leb 9223372036854775808 (9223372036854775808 + n) (omega arith)) (lt→nleb 9223372036854775808 n h) (omega arith) (omega arith)
