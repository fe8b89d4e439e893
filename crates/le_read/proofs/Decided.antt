-- What the code's test of an offset decides: which case of a read or of a write holds.
use Prim.Native.Nat.{ℕ, ◌+◌, ◌-◌, ◌≤◌, ◌<◌}
use mathlib.Core.Path.{◌≡◌, refl, sym, ap, ◌∙◌}
use mathlib.Core.Bool.{Bool, true, false, cond}
use mathlib.Core.List.{List}
use native.Mathlib.Omega.{arith}
use lib.Dec.{leb}
use lib.ListN.{length}
use borrow.Author.Tests.{leb-true, leb-false, le-leb, lt-leb}
use Rattle.le_read.specs.LeBytes.{inside, le_at, read_at, overwritten, bytes_of, put}

-- the test of an offset, without the sum
pub no_sum : (at n len : ℕ) → n ≤ len → leb at (len - n) ≡ leb (at + n) len
no_sum at n len h = go (leb at (len - n)) refl
  where
    go : (b : Bool) → leb at (len - n) ≡ b → leb at (len - n) ≡ leb (at + n) len
    go true e = e ∙ sym (le-leb (at + n) len (omega (arith, leb-true at (len - n) e)))
    go false e = e ∙ sym (lt-leb (at + n) len (omega (arith, leb-false at (len - n) e)))

pub too_long : (at n len : ℕ) → len < n → leb n len ≡ leb (at + n) len
too_long at n len h = lt-leb n len h ∙ sym (lt-leb (at + n) len (omega arith))

module _ (n : ℕ) (s : List ℕ) (at : ℕ) {r : Bool} (e : r ≡ inside n s at) where
  pub there : r ≡ true → at + n ≤ length s
  there t = leb-true (at + n) (length s) (sym e ∙ t)

  pub read_there : {X : Type 0} (value : ℕ → X) (past : X) → r ≡ true → read_at n value past s at ≡ value (le_at n s at)
  unfolding read_at
  read_there value past t = ap (λ (b : Bool). cond b (value (le_at n s at)) past) (sym e ∙ t)

  pub read_past : {X : Type 0} (value : ℕ → X) (past : X) → r ≡ false → read_at n value past s at ≡ past
  unfolding read_at
  read_past value past t = ap (λ (b : Bool). cond b (value (le_at n s at)) past) (sym e ∙ t)

  pub put_there : (v : ℕ) → r ≡ true → put n s at v ≡ overwritten s at (bytes_of n v)
  unfolding put
  put_there v t = ap (λ (b : Bool). cond b (overwritten s at (bytes_of n v)) s) (sym e ∙ t)

  pub put_past : (v : ℕ) → r ≡ false → put n s at v ≡ s
  unfolding put
  put_past v t = ap (λ (b : Bool). cond b (overwritten s at (bytes_of n v)) s) (sym e ∙ t)

-- what is made of a read's answer
pub read_then : {X Y : Type 0} (g : X → Y) (n : ℕ) (value : ℕ → X) (past : X) (s : List ℕ) (at : ℕ) → g (read_at n value past s at) ≡ read_at n (λ v. g (value v)) (g past) s at
unfolding read_at
read_then g n value past s at = go (inside n s at)
  where
    go : (b : Bool) → g (cond b (value (le_at n s at)) past) ≡ cond b (g (value (le_at n s at))) (g past)
    go true = refl
    go false = refl

pub read_same : {X : Type 0} (n : ℕ) (f g : ℕ → X) → ((v : ℕ) → f v ≡ g v) → (past : X) (s : List ℕ) (at : ℕ) → read_at n f past s at ≡ read_at n g past s at
unfolding read_at
read_same n f g same past s at = ap (λ x. cond (inside n s at) x past) (same (le_at n s at))
