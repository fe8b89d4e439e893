-- Two bytes at most cannot change so that both sums stay as they are (`twice_changed`); one cannot so that either does (`once_plain`, `once_placed`).
use Prim.Native.Nat.{ℕ, suc, ◌+◌, ◌-◌, ◌*◌, ◌≤◌, ◌<◌}
use native.Mathlib.Nat.{mul-add, add-mul, suc-mul, mul-pos}
use mathlib.Core.Path.{◌≡◌, refl, sym, ap, ◌∙◌}
use mathlib.Core.Logic.{⊎_elim}
use mathlib.Core.List.{List, [], ◌∷◌}
use native.Mathlib.Omega.{arith}
use lib.ListN.{length}
use Rattle.std.proofs.lemmas.Bool.{cases_order}
use Rattle.run_bytes.specs.Sums.{sums_from, sums_of}
use Rattle.run_bytes_theorem.specs.Damage.{Differ, none, same, changed}

-- the two sums apart: each byte counts once, and as often as there are bytes from it on
pub plain : List ℕ → ℕ
plain [] = 0
plain (x ∷ xs) = x + plain xs

pub placed : List ℕ → ℕ
placed [] = 0
placed (x ∷ xs) = suc (length xs) * x + placed xs

-- k bytes more, each of which counts a once more
step : (k a b x p : ℕ) → b + (a + x) + k * (a + x) + p ≡ b + suc k * a + (suc k * x + p)
step k a b x p = omega (arith, mul-add k a x, suc-mul k a, suc-mul k x)

sums_from_are : (xs : List ℕ) (a b : ℕ) → ((sums_from a b xs).sum ≡ a + plain xs) × ((sums_from a b xs).sum_of_sums ≡ b + length xs * a + placed xs)
unfolding sums_from plain placed
sums_from_are [] a b = (omega arith, omega arith)
sums_from_are (x ∷ xs) a b =
    let r = sums_from_are xs (a + x) (b + (a + x)) in
    (r.0 ∙ omega arith, r.1 ∙ step (length xs) a b x (placed xs))

pub sums_are : (xs : List ℕ) → ((sums_of xs).sum ≡ plain xs) × ((sums_of xs).sum_of_sums ≡ placed xs)
unfolding sums_of
sums_are xs =
    let r = sums_from_are xs 0 0 in
    (r.0 ∙ omega arith, r.1 ∙ omega arith)

-- ---- lists that differ at few places
pub differ_length : {n : ℕ} {xs ys : List ℕ} → Differ n xs ys → length xs ≡ length ys
differ_length (none n) = refl
differ_length (same n x xs ys d) = ap suc (differ_length d)
differ_length (changed n x y xs ys d) = ap suc (differ_length d)

pub never : {n : ℕ} {xs ys : List ℕ} → Differ n xs ys → n ≡ 0 → xs ≡ ys
never (none n) e = refl
never (same n x xs ys d) e = ap (λ (l : List ℕ). x ∷ l) (never d e)
never (changed n x y xs ys d) e = absurd (omega (arith, e))

-- one place: the second sum changes as often as the first one as there are bytes from there on
data Once (xs ys : List ℕ) : Type 0 where
  equal : xs ≡ ys → Once xs ys
  apart : (w : ℕ) → 1 ≤ w → w ≤ length xs → placed xs + w * plain ys ≡ placed ys + w * plain xs → Once xs ys

once_more : (x : ℕ) (xs ys : List ℕ) → length xs ≡ length ys → Once xs ys → Once (x ∷ xs) (x ∷ ys)
unfolding plain placed
once_more x xs ys l (equal e) = equal (ap (λ (l : List ℕ). x ∷ l) e)
once_more x xs ys l (apart w h g e) =
    apart w h (omega (arith, g)) (omega (arith, e, mul-add w x (plain ys), mul-add w x (plain xs), ap (λ (n : ℕ). suc n * x) l))

once_here : (x y : ℕ) (xs ys : List ℕ) → xs ≡ ys → Once (x ∷ xs) (y ∷ ys)
unfolding plain placed
once_here x y xs ys e =
    let n = suc (length xs) in
    apart n (omega arith) (omega arith)
    (omega (arith, mul-add n y (plain ys), mul-add n x (plain xs), ap placed e, ap (λ (l : List ℕ). suc (length l) * y) e, ap (λ (l : List ℕ). n * plain l) e))

once : {n : ℕ} {xs ys : List ℕ} → Differ n xs ys → n ≤ 1 → Once xs ys
once (none n) h = equal refl
once (same n x xs ys d) h = once_more x xs ys (differ_length d) (once d h)
once (changed n x y xs ys d) h = once_here x y xs ys (never d (omega (arith, h)))

pub once_plain : {n : ℕ} {xs ys : List ℕ} → Differ n xs ys → n ≤ 1 → plain xs ≡ plain ys → xs ≡ ys
unfolding plain
once_plain (none n) h e = refl
once_plain (same n x xs ys d) h e = ap (λ (l : List ℕ). x ∷ l) (once_plain d h (omega (arith, e)))
once_plain (changed n x y xs ys d) h e =
    let t : xs ≡ ys = never d (omega (arith, h)) in
    let p : x ≡ y = omega (arith, e, ap plain t) in
    λ i. p i ∷ t i

-- w times a number determines it
times : (w p q : ℕ) → 1 ≤ w → w * p ≡ w * q → p ≡ q
times w p q h e = ⊎_elim (λ x. x) (⊎_elim (λ (l : p < q). absurd (below w p q h l e)) (λ (l : q < p). absurd (below w q p h l (sym e)))) (cases_order p q)
  where
    below : (w p q : ℕ) → 1 ≤ w → p < q → w * p ≡ w * q → ⊥
    below w p q h l e =
        let k = q - suc p in
        let s : q ≡ p + suc k = omega (arith, l) in
        let o : 0 < w * suc k = mul-pos h (omega arith) in
        omega (arith, e, ap (λ (n : ℕ). w * n) s, mul-add w p (suc k), o)

pub once_placed : {n : ℕ} {xs ys : List ℕ} → Differ n xs ys → n ≤ 1 → placed xs ≡ placed ys → xs ≡ ys
once_placed {n} {xs} {ys} d h e = go (once d h)
  where
    go : Once xs ys → xs ≡ ys
    go (equal t) = t
    go (apart w l m q) = once_plain d h (times w (plain xs) (plain ys) l (omega (arith, q, e)))

-- two places: the first of them is as it was
less : (n w x y p q v u : ℕ) → w ≤ n → x < y → x + p ≡ y + q → suc n * x + v ≡ suc n * y + u → v + w * q ≡ u + w * p → ⊥
less n w x y p q v u h l e f g =
    let k = y - suc x in
    let d = n - w in
    let s : y ≡ x + suc k = omega (arith, l) in
    let t : p ≡ q + suc k = omega (arith, e, s) in
    let m : suc n ≡ w + suc d = omega (arith, h) in
    let o : 0 < suc d * suc k = mul-pos (omega arith) (omega arith) in
    omega (arith, f, g, ap (λ (z : ℕ). suc n * z) s, mul-add (suc n) x (suc k), ap (λ (z : ℕ). w * z) t, mul-add w q (suc k), ap (λ (z : ℕ). z * suc k) m, add-mul w (suc d) (suc k), o)

first_same : (n w x y p q v u : ℕ) → w ≤ n → x + p ≡ y + q → suc n * x + v ≡ suc n * y + u → v + w * q ≡ u + w * p → x ≡ y
first_same n w x y p q v u h e f g = ⊎_elim (λ z. z) (⊎_elim (λ (l : x < y). absurd (less n w x y p q v u h l e f g)) (λ (l : y < x). absurd (less n w y x q p u v h l (sym e) (sym f) (sym g)))) (cases_order x y)

twice_here : (x y : ℕ) (xs ys : List ℕ) → Once xs ys → length xs ≡ length ys → plain (x ∷ xs) ≡ plain (y ∷ ys) → placed (x ∷ xs) ≡ placed (y ∷ ys) → x ≡ y
unfolding plain placed
twice_here x y xs ys (equal t) l e f = omega (arith, e, ap plain t)
twice_here x y xs ys (apart w h g q) l e f = first_same (length xs) w x y (plain xs) (plain ys) (placed xs) (placed ys) g e (f ∙ ap (λ (n : ℕ). suc n * y + placed ys) (sym l)) q

pub twice : {n : ℕ} {xs ys : List ℕ} → Differ n xs ys → n ≤ 2 → plain xs ≡ plain ys → placed xs ≡ placed ys → xs ≡ ys
unfolding plain placed
twice (none n) h e f = refl
twice (same n x xs ys d) h e f =
    ap (λ (l : List ℕ). x ∷ l) (twice d h (omega (arith, e)) (omega (arith, f, ap (λ (n : ℕ). suc n * x) (differ_length d))))
twice (changed n x y xs ys d) h e f =
    let p = twice_here x y xs ys (once d (omega (arith, h))) (differ_length d) e f in
    let t = once_plain d (omega (arith, h)) (omega (arith, e, p)) in
    λ i. p i ∷ t i
