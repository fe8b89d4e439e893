-- Writing, then reading at the same offset, gives back what was written, at every width (`back`); a write keeps the length and every other byte (`length-put`, `elsewhere`).
use Rattle.std.specs.Prelude.{Some, None}
use Prim.Native.Nat.{ℕ, zero, suc, ◌+◌, ◌-◌, ◌*◌, ◌/◌, ◌%◌, ◌^◌, ◌≤◌, ◌<◌}
use mathlib.Core.Path.{◌≡◌, refl, sym, ap, ◌∙◌, subst}
use mathlib.Core.Bool.{Bool, true, false, cond}
use mathlib.Core.Logic.{◌⊎◌, ⊎_elim}
use mathlib.Core.List.{List, ◌++◌, append_assoc}
use native.Mathlib.Nat.{mod-one, add_comm, mul_comm, pow-suc, one-le-pow, mod-eq_of_lt}
use native.Mathlib.Omega.{arith}
use lib.Arith.{mod-mul}
use lib.Dec.{lit<}
use lib.ListN.{length, take, drop, length-append, length-drop, take-append-drop}
use lib.Seq.{length-take-le, drop_at, drop-drop, take-append-le, drop-append-le, take-append_seam}
use borrow.Author.Tests.{le-leb}
use Rattle.le_read.specs.LeBytes.{le_of, bytes_of, inside, le_at, read_at, overwritten, put}
use Rattle.le_read.specs.Reads.{read_u16, read_u32, read_u64}
use Rattle.le_read.proofs.Halves.{length_bytes}
use Rattle.le_read.proofs.Decided.{there, put_there, put_past}

pub le_bytes : (n v : ℕ) → le_of (bytes_of n v) ≡ v % 256 ^ n
unfolding le_of bytes_of
le_bytes zero v = sym (mod-one v)
le_bytes (suc n) v =
    ap (λ (x : ℕ). v % 256 + 256 * x) (le_bytes n (v / 256))
    ∙ add_comm (v % 256) (256 * (v / 256 % 256 ^ n))
    ∙ ap (λ (x : ℕ). x + v % 256) (mul_comm 256 (v / 256 % 256 ^ n))
    ∙ sym (mod-mul v (one-le-pow n 256 (lit< tt)) (lit< tt))
    ∙ ap (λ (x : ℕ). v % x) (sym (pow-suc 256 n))

-- what stands before a seam does not depend on what follows it
before_seam : (m i : ℕ) (p q : List ℕ) → i + m ≤ length p → take m (drop i (p ++ q)) ≡ take m (drop i p)
before_seam m i p q h =
    ap (take m) (drop-append-le i p q (omega arith)) ∙ take-append-le m (drop i p) q (simp length-drop (omega arith))

-- ---- bytes written, all of them inside

module _ (s : List ℕ) (at : ℕ) (bs : List ℕ) (h : at + length bs ≤ length s) where
  front : length (take at s) ≡ at
  front = length-take-le at s (omega arith)

  seam : length (take at s ++ bs) ≡ at + length bs
  seam = length-append (take at s) bs ∙ ap (λ (n : ℕ). n + length bs) front

  pub length_overwritten : length (overwritten s at bs) ≡ length s
  unfolding overwritten
  length_overwritten = length-append (take at s ++ bs) (drop (at + length bs) s) ∙ omega (arith, seam, length-drop (at + length bs) s)

  pub overwritten_part : take (length bs) (drop at (overwritten s at bs)) ≡ bs
  unfolding overwritten
  overwritten_part =
      let rest = drop (at + length bs) s in
      ap (λ (l : List ℕ). take (length bs) (drop at l)) (append_assoc (take at s) bs rest)
      ∙ ap (take (length bs)) (drop_at (take at s) (bs ++ rest) at front)
      ∙ take-append_seam bs rest

  pub overwritten_after : (i : ℕ) → at + length bs ≤ i → drop i (overwritten s at bs) ≡ drop i s
  unfolding overwritten
  overwritten_after i g =
      let k = at + length bs in
      let e : k + (i - k) ≡ i = omega arith in
      let l = take at s ++ bs ++ drop k s in
      ap (λ (n : ℕ). drop n l) (sym e)
      ∙ sym (drop-drop (i - k) k l)
      ∙ ap (drop (i - k)) (drop_at (take at s ++ bs) (drop k s) k seam)
      ∙ drop-drop (i - k) k s
      ∙ ap (λ (n : ℕ). drop n s) e

  pub overwritten_before : (m i : ℕ) → i + m ≤ at → take m (drop i (overwritten s at bs)) ≡ take m (drop i s)
  unfolding overwritten
  overwritten_before m i g =
      let rest = drop (at + length bs) s in
      let f : length (take at s) ≡ at = front in
      ap (λ (l : List ℕ). take m (drop i l)) (append_assoc (take at s) bs rest)
      ∙ before_seam m i (take at s) (bs ++ rest) (omega arith)
      ∙ sym (before_seam m i (take at s) (drop at s) (omega arith))
      ∙ ap (λ (l : List ℕ). take m (drop i l)) (take-append-drop at s)

-- ---- a write

module _ (n : ℕ) (s : List ℕ) (at v : ℕ) where
  within : at + n ≤ length s → at + length (bytes_of n v) ≤ length s
  within h = let e = length_bytes n v in omega arith

  written : at + n ≤ length s → put n s at v ≡ overwritten s at (bytes_of n v)
  written h = put_there n s at {r = true} (sym (le-leb (at + n) (length s) h)) v refl

  -- written and read: the number's low n bytes
  pub back_low : at + n ≤ length s → le_at n (put n s at v) at ≡ v % 256 ^ n
  unfolding le_at
  back_low h =
      ap (λ (l : List ℕ). le_of (take n (drop at l))) (written h)
      ∙ ap (λ (k : ℕ). le_of (take k (drop at (overwritten s at (bytes_of n v))))) (sym (length_bytes n v))
      ∙ ap le_of (overwritten_part s at (bytes_of n v) (within h))
      ∙ le_bytes n v

either : (n : ℕ) (s : List ℕ) (at v : ℕ) (P : List ℕ → Type 0) → P s → (at + n ≤ length s → P (overwritten s at (bytes_of n v))) → P (put n s at v)
either n s at v P u w = go (inside n s at) refl
  where
    go : (b : Bool) → b ≡ inside n s at → P (put n s at v)
    go true e = subst P (sym (put_there n s at e v refl)) (w (there n s at e refl))
    go false e = subst P (sym (put_past n s at e v refl)) u

pub length_put : (n : ℕ) (s : List ℕ) (at v : ℕ) → length (put n s at v) ≡ length s
length_put n s at v = either n s at v (λ l. length l ≡ length s) refl (λ h. length_overwritten s at (bytes_of n v) (within n s at v h))

-- a read of other bytes does not see the write
pub elsewhere : (n : ℕ) (s : List ℕ) (at v m i : ℕ) → (i + m ≤ at) ⊎ (at + n ≤ i) → le_at m (put n s at v) i ≡ le_at m s i
unfolding le_at
elsewhere n s at v m i apart = either n s at v (λ l. le_at m l i ≡ le_at m s i) refl (λ h. ⊎_elim (before h) (after h) apart)
  where
    before : at + n ≤ length s → i + m ≤ at → le_at m (overwritten s at (bytes_of n v)) i ≡ le_at m s i
    before h g = ap le_of (overwritten_before s at (bytes_of n v) (within n s at v h) m i g)

    after : at + n ≤ length s → at + n ≤ i → le_at m (overwritten s at (bytes_of n v)) i ≡ le_at m s i
    after h g = ap (λ (l : List ℕ). le_of (take m l)) (overwritten_after s at (bytes_of n v) (within n s at v h) i (let e = length_bytes n v in omega arith))

-- every read gives back what was written
pub back : {X : Type 0} (n : ℕ) (value : ℕ → X) (past : X) (s : List ℕ) (at v : ℕ) → at + n ≤ length s → v < 256 ^ n → read_at n value past (put n s at v) at ≡ value v
unfolding read_at
back n value past s at v h b =
    let t : inside n (put n s at v) at ≡ true = le-leb (at + n) (length (put n s at v)) (let e = length_put n s at v in omega arith) in
    ap (λ (i : Bool). cond i (value (le_at n (put n s at v) at)) past) t ∙ ap value (back_low n s at v h ∙ mod-eq_of_lt b)

pub u16_back : (s : List ℕ) (at v : ℕ) → at + 2 ≤ length s → v < 2 ^ 16 → read_u16 (put 2 s at v) at ≡ Some v
u16_back = back 2 Some None

pub u32_back : (s : List ℕ) (at v : ℕ) → at + 4 ≤ length s → v < 2 ^ 32 → read_u32 (put 4 s at v) at ≡ Some v
u32_back = back 4 Some None

pub u64_back : (s : List ℕ) (at v : ℕ) → at + 8 ≤ length s → v < 2 ^ 64 → read_u64 (put 8 s at v) at ≡ Some v
u64_back = back 8 Some None
