-- A float that is finite and at most l in size, l a whole number, and how sums and products in either format keep to such bounds: what is rounded is no larger than what its bound rounds to.
use mathlib.Core.Path.{◌≡◌, sym, ap, ◌∙◌, subst}
use Prim.Native.Nat.{ℕ, ◌+◌, ◌-◌, ◌*◌, ◌^◌, ◌≤◌, ◌<◌}
use native.Mathlib.Nat.{le_trans, le_of_eq, add-mul, mul-one, mul_assoc, mul_comm, mul_right_comm, mul-mul-mul_comm, mul-le-mul, mul-le-mul_right, mul-pos, le_of_mul-le-mul_right, zero-lt-suc}
use native.Mathlib.Omega.{arith}
use mathlib.Core.Bool.{Bool, true, false, ◌&&◌, beq, cond}
use lib.IntN.{ℤ}
use lib.Dec.{T, ltb}
use lib.Pow.{pow_pos}
use lib.Ieee.{Float, nan, inf, fin, Format, prec, up, down, unlike, round, neg, sum, add, sub, mul, le}
use lib.Ieee.Back.{round_whole}
use lib.Ieee.Exact.{HasValue}
use lib.Ieee.Fits.{down_pos}
use lib.Ieee.Order.{round_mono}
use Rattle.float_rounding.proofs.Order.{Le, Signed, le_fin, round_signed, round_neg}
use Rattle.float_rounding.proofs.Size.{Within}

abbrev pub AtMost : ℕ → Float → Type 0
AtMost l nan = ⊥
AtMost l (inf s) = ⊥
AtMost l (fin s m e) = m * up e ≤ l * down e

-- n rounds to l
abbrev pub Rounds : Format → ℕ → ℕ → Type 0
Rounds f n l = HasValue (round f false n 1) false l 1

-- a whole number of no more digits than the format has rounds to itself
pub rounds_whole : (f : Format) (n : ℕ) → n ≤ 2 ^ prec f → Rounds f n n
rounds_whole f n h = round_whole f false n h

pub at_most_more : (x : Float) (l k : ℕ) → l ≤ k → AtMost l x → AtMost k x
at_most_more nan l k h w = w
at_most_more (inf s) l k h w = w
at_most_more (fin s m e) l k h w = le_trans w (mul-le-mul_right (down e) h)

pub at_most_neg : (x : Float) (l : ℕ) → AtMost l x → AtMost l (neg x)
unfolding neg
at_most_neg nan l w = w
at_most_neg (inf s) l w = w
at_most_neg (fin s m e) l w = w

-- ---- what shows it
-- a bound in units of 2 ^ -1074
pub at_most_within : (x : Float) (b l : ℕ) → b ≤ l * 2 ^ 1074 → Within x b → AtMost l x
at_most_within nan b l h w = w.2
at_most_within (inf s) b l h w = w.2
at_most_within (fin s m e) b l h w =
    le_of_mul-le-mul_right (le_trans (le_of_eq w.2.1) (le_trans (mul-le-mul_right (down e) (le_trans w.3 h)) (le_of_eq (mul_right_comm l (2 ^ 1074) (down e))))) (pow_pos 1074)

-- the size over another value's
below : (a l u d e : ℕ) → 0 < d → u ≤ l * d → a * d ≤ u * e → a ≤ l * e
below a l u d e D h k = le_of_mul-le-mul_right (le_trans k (le_trans (mul-le-mul_right e h) (le_of_eq (mul_right_comm l d e)))) D

-- comparisons with a value and with its negation
pub at_most_between : (x : Float) (n : ℕ) (d : ℤ) (l : ℕ) → n * up d ≤ l * down d → T (le (fin true n d) x) → T (le x (fin false n d)) → AtMost l x
at_most_between nan n d l h p q = absurd (unfold le in q)
at_most_between (inf true) n d l h p q = absurd (unfold le in p)
at_most_between (inf false) n d l h p q = absurd (unfold le in q)
at_most_between (fin false m e) n d l h p q = below (m * up e) l (n * up d) (down d) (down e) (down_pos d) h (le_fin false m e false n d q)
at_most_between (fin true m e) n d l h p q = below (m * up e) l (n * up d) (down d) (down e) (down_pos d) h (le_fin true n d true m e p)

-- ---- rounding
under : (x y : Float) (l : ℕ) → Signed x false → HasValue y false l 1 → T (le x y) → AtMost l x
under nan y l s v h = s
under (inf t) nan l s v h = v
under (inf t) (inf u) l s v h = absurd v
under (inf false) (fin u n d) l s v h = absurd (unfold le in h)
under (inf true) (fin u n d) l s v h = let z : ◌≡◌ {A = Bool} true false = s in absurd (subst T z tt)
under (fin t m e) nan l s v h = absurd v
under (fin t m e) (inf u) l s v h = absurd v
under (fin t m e) (fin u n d) l s v h =
    below (m * up e) l (n * up d) (down d) (down e) (down_pos d) (le_trans (le_of_eq (sym (mul-one (n * up d)))) (le_of_eq v.1))
    (subst (λ (b : Bool). Le false (m * up e * down d) b (n * up d * down e)) v.0 (subst (λ (b : Bool). Le b (m * up e * down d) u (n * up d * down e)) s (le_fin t m e u n d h)))

plain_at_most : (f : Format) (a c n l : ℕ) → 0 < c → a ≤ n * c → Rounds f n l → AtMost l (round f false a c)
plain_at_most f a c n l C h r = under (round f false a c) (round f false n 1) l (round_signed f false a c) r (round_mono f a c n 1 C (zero-lt-suc 0) (le_trans (le_of_eq (mul-one a)) h))

pub round_at_most : (f : Format) (s : Bool) (a c n l : ℕ) → 0 < c → a ≤ n * c → Rounds f n l → AtMost l (round f s a c)
round_at_most f false a c n l C h r = plain_at_most f a c n l C h r
round_at_most f true a c n l C h r = subst (AtMost l) (sym (round_neg f false a c)) (at_most_neg (round f false a c) l (plain_at_most f a c n l C h r))

-- ---- sums and products
either : (l : ℕ) (b : Bool) (x y : Float) → AtMost l x → AtMost l y → AtMost l (cond b x y)
either l true x y p q = p
either l false x y p q = q

sum_at_most : (f : Format) (s : Bool) (a : ℕ) (t : Bool) (b c n l : ℕ) → 0 < c → a + b ≤ n * c → Rounds f n l → AtMost l (sum f s a t b c)
unfolding sum
sum_at_most f s a t b c n l C h r =
    either l (beq s t) (round f s (a + b) c) (cond (ltb a b) (round f t (b - a) c) (round f (s && ltb b a) (a - b) c)) (round_at_most f s (a + b) c n l C h r)
    (either l (ltb a b) (round f t (b - a) c) (round f (s && ltb b a) (a - b) c) (round_at_most f t (b - a) c n l C (less b a (n * c) (le_trans (le_of_eq (swap b a)) h)) r) (round_at_most f (s && ltb b a) (a - b) c n l C (less a b (n * c) h) r))
  where
    less : (a b k : ℕ) → a + b ≤ k → a - b ≤ k
    less a b k h = omega arith

    swap : (b a : ℕ) → b + a ≡ a + b
    swap b a = omega arith

pub add_at_most : (f : Format) (x y : Float) (b c l : ℕ) → AtMost b x → AtMost c y → Rounds f (b + c) l → AtMost l (add f x y)
unfolding add
add_at_most f nan y b c l p q r = absurd p
add_at_most f (inf s) y b c l p q r = absurd p
add_at_most f (fin s m e) nan b c l p q r = absurd q
add_at_most f (fin s m e) (inf t) b c l p q r = absurd q
add_at_most f (fin s m e) (fin t n d) b c l p q r =
    sum_at_most f s (m * up e * down d) t (n * up d * down e) (down e * down d) (b + c) l (mul-pos (down_pos e) (down_pos d))
    (both (m * up e * down d) (n * up d * down e) (b * (down e * down d)) (c * (down e * down d)) ((b + c) * (down e * down d)) (add-mul b c (down e * down d))
    (le_trans (mul-le-mul_right (down d) p) (le_of_eq (mul_assoc b (down e) (down d))))
    (le_trans (mul-le-mul_right (down e) q) (le_of_eq (mul_assoc c (down d) (down e) ∙ ap (λ (x : ℕ). c * x) (mul_comm (down d) (down e))))))
    r
  where
    both : (a b k i n : ℕ) → n ≡ k + i → a ≤ k → b ≤ i → a + b ≤ n
    both a b k i n e p q = omega arith

pub sub_at_most : (f : Format) (x y : Float) (b c l : ℕ) → AtMost b x → AtMost c y → Rounds f (b + c) l → AtMost l (sub f x y)
unfolding sub
sub_at_most f x y b c l p q r = add_at_most f x (neg y) b c l p (at_most_neg y c q) r

pub mul_at_most : (f : Format) (x y : Float) (b c l : ℕ) → AtMost b x → AtMost c y → Rounds f (b * c) l → AtMost l (mul f x y)
unfolding mul
mul_at_most f nan y b c l p q r = absurd p
mul_at_most f (inf s) y b c l p q r = absurd p
mul_at_most f (fin s m e) nan b c l p q r = absurd q
mul_at_most f (fin s m e) (inf t) b c l p q r = absurd q
mul_at_most f (fin s m e) (fin t n d) b c l p q r =
    round_at_most f (unlike s t) (m * up e * (n * up d)) (down e * down d) (b * c) l (mul-pos (down_pos e) (down_pos d)) (le_trans (mul-le-mul p q) (le_of_eq (mul-mul-mul_comm b (down e) c (down d)))) r
