-- A fraction rounded to the nearest whole number, a tie to the even one: it is off by a half at most (`closest-off`), its three cases by the remainder, and one division that does it (`closest-half`).
use mathlib.Core.Path.{◌≡◌, refl, sym, ap, ◌∙◌, subst}
use mathlib.Core.Logic.{◌⊎◌, inl, inr}
use Prim.Native.Nat.{ℕ, zero, suc, ◌+◌, ◌-◌, ◌*◌, ◌/◌, ◌%◌, ◌≤◌, ◌<◌, compare, Ordering}
use native.Mathlib.Nat.{mul-add-div_right, mul-add-mod_self_right, div-eq_of_lt-le, mod-lt, div-add-mod', suc-mul, mul-le-mul_right, le_trans, le_of_eq, eq-zero-or-pos, lt_of_lt_of_le, one-mul, zero-lt-suc}
use native.Mathlib.Omega.{arith}
use mathlib.Core.Bool.{not}
use lib.Dec.{T, is_le, compare_is_eq, eqb, leb→le, nleb→lt, eqb→eq, eqb_refl}
use lib.Arith.{lt_of_le-ne}
use lib.Ieee.{nearest}
use lib.Ieee.Nearest.{closest}

abbrev pub Cmp : Ordering → ℕ → ℕ → Type 0
Cmp Ordering.lt a b = a < b
Cmp Ordering.eq a b = a ≡ b
Cmp Ordering.gt a b = b < a

pub cmp : (a b : ℕ) → Cmp (compare a b) a b
cmp a b = go (compare a b) (leb→le a b) (nleb→lt a b) (eqb→eq a b) (λ (e : a ≡ b). subst (λ (x : ℕ). T (eqb a x)) e (eqb_refl a))
  where
    go : (o : Ordering) → (T (is_le o) → a ≤ b) → (T (not (is_le o)) → b < a) → (T (compare_is_eq o) → a ≡ b) → (a ≡ b → T (compare_is_eq o)) → Cmp o a b
    go Ordering.lt h k e n = lt_of_le-ne (h tt) n
    go Ordering.eq h k e n = e tt
    go Ordering.gt h k e n = k tt

parity : (w : ℕ) → (w % 2 ≡ 0) ⊎ (w % 2 ≡ 1)
parity w = go (w % 2) (mod-lt w {m = 2} (zero_lt 1))
  where
    zero_lt : (n : ℕ) → 0 < suc n
    zero_lt n = omega arith

    bad : (n : ℕ) → suc (suc n) < 2 → ⊥
    bad n h = omega arith

    go : (r : ℕ) → r < 2 → (r ≡ 0) ⊎ (r ≡ 1)
    go zero h = inl refl
    go (suc zero) h = inr refl
    go (suc (suc r)) h = absurd (bad r h)

-- with W = w * b, U = (nearest w o) * b
abbrev Off : ℕ → ℕ → ℕ → Type 0
Off U A b = (U * 2 ≤ A * 2 + b) × (A * 2 ≤ U * 2 + b)

keep_lt : (W r b : ℕ) → r * 2 < b → Off W (W + r) b
keep_lt W r b h = omega arith

keep_eq : (W r b : ℕ) → r * 2 ≡ b → Off W (W + r) b
keep_eq W r b h = omega arith

next_eq : (U W r b : ℕ) → U ≡ W + b → r * 2 ≡ b → Off U (W + r) b
next_eq U W r b e h = omega arith

next_gt : (U W r b : ℕ) → U ≡ W + b → b < r * 2 → r < b → Off U (W + r) b
next_gt U W r b e h k = omega arith

plus_one : (w p : ℕ) → p ≡ 1 → w + p ≡ suc w
plus_one w p e = omega arith

plus_none : (w p : ℕ) → p ≡ 0 → w + p ≡ w
plus_none w p e = omega arith

next_mul : (w b : ℕ) → suc w * b ≡ w * b + b
next_mul w b = suc-mul w b

off : (w r b : ℕ) (o : Ordering) → Cmp o (r * 2) b → r < b → Off (nearest w o * b) (w * b + r) b
off w r b Ordering.lt c h = keep_lt (w * b) r b c
off w r b Ordering.eq c h = elim (parity w) [
  | inl e ↦ subst (λ (x : ℕ). Off (x * b) (w * b + r) b) (sym (plus_none w (w % 2) e)) (keep_eq (w * b) r b c)
  | inr e ↦ subst (λ (x : ℕ). Off (x * b) (w * b + r) b) (sym (plus_one w (w % 2) e)) (next_eq (suc w * b) (w * b) r b (next_mul w b) c)
]
off w r b Ordering.gt c h = next_gt (suc w * b) (w * b) r b (next_mul w b) c h

pub closest_off : (a b : ℕ) → 0 < b → (closest a b * b * 2 ≤ a * 2 + b) × (a * 2 ≤ closest a b * b * 2 + b)
closest_off a b B = subst (λ (x : ℕ). Off (closest a b * b) x b) (div-add-mod' a b) (off (a / b) (a % b) b (compare (a % b * 2) b) (cmp (a % b * 2) b) (mod-lt a B))

-- below a half it is 0
pub closest_zero : (a b : ℕ) → 0 < b → a * 2 < b → closest a b ≡ 0
closest_zero a b B h = elim (eq-zero-or-pos (closest a b)) [
  | inl e ↦ e
  | inr p ↦ absurd (no (closest a b * b) a b (le_trans (le_of_eq (sym (one-mul b))) (mul-le-mul_right b p)) (closest_off a b B).0 h)
]
  where
    no : (U a b : ℕ) → b ≤ U → U * 2 ≤ a * 2 + b → a * 2 < b → ⊥
    no U a b p q r = omega arith

-- `closest`, by how twice the remainder compares with the divisor
pick_lt : (w x b : ℕ) (o : Ordering) → Cmp o x b → x < b → nearest w o ≡ w
pick_lt w x b Ordering.lt c h = refl
pick_lt w x b Ordering.eq c h = absurd (no x b c h)
  where
    no : (x b : ℕ) → x ≡ b → x < b → ⊥
    no x b e h = omega arith
pick_lt w x b Ordering.gt c h = absurd (no x b c h)
  where
    no : (x b : ℕ) → b < x → x < b → ⊥
    no x b e h = omega arith

pick_gt : (w x b : ℕ) (o : Ordering) → Cmp o x b → b < x → nearest w o ≡ w + 1
pick_gt w x b Ordering.lt c h = absurd (no x b c h)
  where
    no : (x b : ℕ) → x < b → b < x → ⊥
    no x b e h = omega arith
pick_gt w x b Ordering.eq c h = absurd (no x b c h)
  where
    no : (x b : ℕ) → x ≡ b → b < x → ⊥
    no x b e h = omega arith
pick_gt w x b Ordering.gt c h = more w
  where
    more : (w : ℕ) → suc w ≡ w + 1
    more w = omega arith

pick_eq : (w x b : ℕ) (o : Ordering) → Cmp o x b → x ≡ b → nearest w o ≡ w + w % 2
pick_eq w x b Ordering.lt c h = absurd (no x b c h)
  where
    no : (x b : ℕ) → x < b → x ≡ b → ⊥
    no x b e h = omega arith
pick_eq w x b Ordering.eq c h = refl
pick_eq w x b Ordering.gt c h = absurd (no x b c h)
  where
    no : (x b : ℕ) → b < x → x ≡ b → ⊥
    no x b e h = omega arith

pub closest_down : (a b : ℕ) → a % b * 2 < b → a / b ≡ closest a b
closest_down a b h = sym (pick_lt (a / b) (a % b * 2) b (compare (a % b * 2) b) (cmp (a % b * 2) b) h)

pub closest_up : (a b : ℕ) → b < a % b * 2 → a / b + 1 ≡ closest a b
closest_up a b h = sym (pick_gt (a / b) (a % b * 2) b (compare (a % b * 2) b) (cmp (a % b * 2) b) h)

pub closest_tie : (a b : ℕ) → a % b * 2 ≡ b → a / b + a / b % 2 ≡ closest a b
closest_tie a b h = sym (pick_eq (a / b) (a % b * 2) b (compare (a % b * 2) b) (cmp (a % b * 2) b) h)

-- With the divisor twice h one division does it: h - 1 is added before it, and 1 more where the quotient is odd.
pub closest_half : (a h : ℕ) → 0 < h → (a + (h - 1) + a / (2 * h) % 2) / (2 * h) ≡ closest a (2 * h)
closest_half a h H =
    half_at a h (a / (2 * h)) (a % (2 * h)) (compare (a % (2 * h) * 2) (2 * h)) H (sym (div-add-mod' a (2 * h))) (mod-lt a (twice h H)) (cmp (a % (2 * h) * 2) (2 * h))
  where
    twice : (h : ℕ) → 0 < h → 0 < 2 * h
    twice h H = omega arith

    -- W is the multiple of b at or below x, N the next one
    quotient : (w b x : ℕ) → w * b ≤ x → (N : ℕ) → N ≡ w * b + b → x < N → x / b ≡ w
    quotient w b x lo N e hi = div-eq_of_lt-le b lo (lt_of_lt_of_le hi (le_of_eq (e ∙ sym (ap (λ (k : ℕ). k * b) (one_more w) ∙ suc-mul w b))))
      where
        one_more : (w : ℕ) → w + 1 ≡ suc w
        one_more w = omega arith

    -- the quotient stays at w, or goes to the next
    stays : (a h w r p : ℕ) → a ≡ w * (2 * h) + r → r + (h - 1) + p < 2 * h → (a + (h - 1) + p) / (2 * h) ≡ w
    stays a h w r p e l = quotient w (2 * h) (a + (h - 1) + p) (lo (w * (2 * h)) a r h p e) (w * (2 * h) + 2 * h) refl (hi (w * (2 * h)) a r h p e l)
      where
        lo : (W a r h p : ℕ) → a ≡ W + r → W ≤ a + (h - 1) + p
        lo W a r h p e = omega arith

        hi : (W a r h p : ℕ) → a ≡ W + r → r + (h - 1) + p < 2 * h → a + (h - 1) + p < W + 2 * h
        hi W a r h p e l = omega arith

    goes : (a h w r p : ℕ) → a ≡ w * (2 * h) + r → 2 * h ≤ r + (h - 1) + p → r + (h - 1) + p < 2 * h + 2 * h → (a + (h - 1) + p) / (2 * h) ≡ suc w
    goes a h w r p e g l =
        quotient (suc w) (2 * h) (a + (h - 1) + p) (le_trans (le_of_eq (suc-mul w (2 * h))) (lo (w * (2 * h)) a r h p e g)) (suc w * (2 * h) + 2 * h) refl (lt_of_lt_of_le (hi (w * (2 * h)) a r h p e l) (le_of_eq (ap (λ (k : ℕ). k + 2 * h) (sym (suc-mul w (2 * h))))))
      where
        lo : (W a r h p : ℕ) → a ≡ W + r → 2 * h ≤ r + (h - 1) + p → W + 2 * h ≤ a + (h - 1) + p
        lo W a r h p e g = omega arith

        hi : (W a r h p : ℕ) → a ≡ W + r → r + (h - 1) + p < 2 * h + 2 * h → a + (h - 1) + p < W + 2 * h + 2 * h
        hi W a r h p e l = omega arith

    half_at : (a h w r : ℕ) (o : Ordering) → 0 < h → a ≡ w * (2 * h) + r → r < 2 * h → Cmp o (r * 2) (2 * h) → (a + (h - 1) + w % 2) / (2 * h) ≡ nearest w o
    half_at a h w r Ordering.lt H e R c = stays a h w r (w % 2) e (less r h (w % 2) (mod-lt w {m = 2} (zero-lt-suc 1)) c)
      where
        less : (r h p : ℕ) → p < 2 → r * 2 < 2 * h → r + (h - 1) + p < 2 * h
        less r h p P c = omega arith
    half_at a h w r Ordering.gt H e R c = goes a h w r (w % 2) e (more r h (w % 2) c) (less r h (w % 2) (mod-lt w {m = 2} (zero-lt-suc 1)) R H)
      where
        more : (r h p : ℕ) → 2 * h < r * 2 → 2 * h ≤ r + (h - 1) + p
        more r h p c = omega arith

        less : (r h p : ℕ) → p < 2 → r < 2 * h → 0 < h → r + (h - 1) + p < 2 * h + 2 * h
        less r h p P c H = omega arith
    half_at a h w r Ordering.eq H e R c = elim (parity w) [
      | inl z ↦ stays a h w r (w % 2) e (less r h (w % 2) z H c) ∙ sym (plus_none w (w % 2) z)
      | inr o ↦ goes a h w r (w % 2) e (more r h (w % 2) o H c) (less2 r h (w % 2) o H c) ∙ sym (plus_one w (w % 2) o)
    ]
      where
        less : (r h p : ℕ) → p ≡ 0 → 0 < h → r * 2 ≡ 2 * h → r + (h - 1) + p < 2 * h
        less r h p z H c = omega arith

        more : (r h p : ℕ) → p ≡ 1 → 0 < h → r * 2 ≡ 2 * h → 2 * h ≤ r + (h - 1) + p
        more r h p o H c = omega arith

        less2 : (r h p : ℕ) → p ≡ 1 → 0 < h → r * 2 ≡ 2 * h → r + (h - 1) + p < 2 * h + 2 * h
        less2 r h p o H c = omega arith

-- an even multiple of the divisor goes through: a tie stays a tie, to the same side
pub closest_even : (e a b : ℕ) → 0 < b → closest (2 * e * b + a) b ≡ 2 * e + closest a b
closest_even e a b B =
    ap (λ (x : ℕ). nearest ((2 * e * b + a) / b) (compare (x * 2) b)) (mul-add-mod_self_right (2 * e) b a)
    ∙ ap (λ (x : ℕ). nearest x (compare (a % b * 2) b)) (mul-add-div_right B (2 * e) a)
    ∙ go (a / b) (compare (a % b * 2) b)
  where
    go : (w : ℕ) (o : Ordering) → nearest (2 * e + w) o ≡ 2 * e + nearest w o
    go w Ordering.lt = refl
    go w Ordering.eq = even e w
      where
        even : (e w : ℕ) → 2 * e + w + (2 * e + w) % 2 ≡ 2 * e + (w + w % 2)
        even e w = omega arith
    go w Ordering.gt = next e w
      where
        next : (e w : ℕ) → suc (2 * e + w) ≡ 2 * e + suc w
        next e w = omega arith
