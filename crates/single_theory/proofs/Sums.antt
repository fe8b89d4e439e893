-- A sum of two floats is the same either way round.
use Prim.Native.Nat.{ℕ, ◌-◌, ◌*◌, ◌≤◌, ◌<◌}
use native.Mathlib.Nat.{add_comm, mul_comm}
use native.Mathlib.Omega.{arith}
use mathlib.Core.Path.{◌≡◌, refl, sym, ap, ◌∙◌, subst}
use mathlib.Core.Bool.{Bool, true, false, not, cond, ◌&&◌}
use lib.Dec.{T, ltb, ltb→lt, nltb→le}
use lib.Ieee.{Float, nan, inf, fin, Format, up, down, round, sum, add}

both : (a b : ℕ) → a < b → b < a → ⊥
both a b h k = omega arith

not_less : (m n : ℕ) → ltb m n ≡ false → n ≤ m
not_less m n e = nltb→le m n (subst (λ (x : Bool). T (not x)) (sym e) tt)

opposite_comm : (f : Format) (a b c : ℕ) → sum f true a false b c ≡ sum f false b true a c
unfolding sum
opposite_comm f a b c = go (ltb a b) (ltb→lt a b) (ltb b a) (ltb→lt b a) refl refl
  where
    same : b ≤ a → a ≤ b → a - b ≡ b - a
    same h k = omega arith

    go : (x : Bool) → (T x → a < b) → (y : Bool) → (T y → b < a) → ltb a b ≡ x → ltb b a ≡ y
        → cond x (round f false (b - a) c) (round f (true && y) (a - b) c) ≡ cond y (round f true (a - b) c) (round f (false && x) (b - a) c)
    go true h true k p q = absurd (both a b (h tt) (k tt))
    go true h false k p q = refl
    go false h true k p q = refl
    go false h false k p q = ap (λ (n : ℕ). round f false n c) (same (not_less a b p) (not_less b a q))

sum_comm : (f : Format) (s : Bool) (a : ℕ) (t : Bool) (b c : ℕ) → sum f s a t b c ≡ sum f t b s a c
unfolding sum
sum_comm f true a true b c = ap (λ (n : ℕ). round f true n c) (add_comm a b)
sum_comm f false a false b c = ap (λ (n : ℕ). round f false n c) (add_comm a b)
sum_comm f true a false b c = opposite_comm f a b c
sum_comm f false a true b c = sym (opposite_comm f b a c)

pub plus_comm : (f : Format) (x y : Float) → add f x y ≡ add f y x
unfolding add
plus_comm f nan nan = refl
plus_comm f nan (inf t) = refl
plus_comm f nan (fin t n d) = refl
plus_comm f (inf s) nan = refl
plus_comm f (inf true) (inf true) = refl
plus_comm f (inf true) (inf false) = refl
plus_comm f (inf false) (inf true) = refl
plus_comm f (inf false) (inf false) = refl
plus_comm f (inf s) (fin t n d) = refl
plus_comm f (fin s m e) nan = refl
plus_comm f (fin s m e) (inf t) = refl
plus_comm f (fin s m e) (fin t n d) = sum_comm f s (m * up e * down d) t (n * up d * down e) (down e * down d) ∙ ap (λ (c : ℕ). sum f t (n * up d * down e) s (m * up e * down d) c) (mul_comm (down e) (down d))
