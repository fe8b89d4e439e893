-- Bytes written part after part, by each of the writes: what the writes so far wrote, and the next write's bytes behind them (`next`).
use Prim.Native.Nat.{ℕ, ◌+◌, ◌≤◌}
use mathlib.Core.Path.{◌≡◌, refl, sym, ap, ◌∙◌}
use mathlib.Core.Bool.{Bool, true, false, cond}
use mathlib.Core.List.{List, [], ◌∷◌, ◌++◌, append_assoc, append-nil}
use native.Mathlib.Nat.{add-zero}
use native.Mathlib.Omega.{arith}
use lib.ListN.{length, take, drop, length-append, take-append-drop}
use lib.Ieee.{binary64, to_bits}
use borrow.Author.Tests.{le-leb, leb-true}
use Rattle.le_read.specs.LeBytes.{bytes_of, inside, overwritten, put}
use Rattle.le_read.proofs.Halves.{overwritten_append, length_bytes}
use Rattle.le_read.proofs.Decided.{put_there}
use Rattle.le_read.proofs.RoundTrip.{length_overwritten}
use Rattle.message.specs.declared.Reply.{Reply}
use Rattle.message_config.specs.declared.MessageConfig.{MessageConfig}
use Rattle.reply_record.specs.Record.{record_length, message_length, f64_bytes, float_bytes, other_bytes, record_at}

-- a number written where there is room is its bytes written
pub put_overwritten : (n : ℕ) (s : List ℕ) (at v : ℕ) → at + n ≤ length s → put n s at v ≡ overwritten s at (bytes_of n v)
put_overwritten n s at v h = put_there n s at (sym (le-leb (at + n) (length s) h)) v refl

-- no bytes written change nothing
pub none_overwritten : (s : List ℕ) (at : ℕ) → s ≡ overwritten s at []
unfolding overwritten
none_overwritten s at = sym (ap (λ (l : List ℕ). l ++ drop (at + 0) s) (append-nil (take at s)) ∙ ap (λ (n : ℕ). take at s ++ drop n s) (add-zero at) ∙ take-append-drop at s)

module _ (s : List ℕ) (at : ℕ) where
  -- xs was written, then ys behind it
  pub next : (k : ℕ) (xs ys : List ℕ) (d e : List ℕ) → length xs ≡ k → at + k ≤ length s → d ≡ overwritten s at xs → e ≡ overwritten d (at + k) ys → e ≡ overwritten s at (xs ++ ys)
  next k xs ys d e l h p q =
      q
      ∙ ap (λ (x : List ℕ). overwritten x (at + k) ys) p
      ∙ ap (λ (n : ℕ). overwritten (overwritten s at xs) (at + n) ys) (sym l)
      ∙ overwritten_append s at xs ys (omega arith)

  -- then the n bytes of v
  pub next_put : (k : ℕ) (xs : List ℕ) (n v : ℕ) (d e : List ℕ) → length xs ≡ k → at + (k + n) ≤ length s → d ≡ overwritten s at xs → e ≡ put n d (at + k) v
      → e ≡ overwritten s at (xs ++ bytes_of n v)
  next_put k xs n v d e l h p q =
      let m : length d ≡ length s = ap length p ∙ length_overwritten s at xs (omega arith) in
      next k xs (bytes_of n v) d e l (omega arith) p (q ∙ put_overwritten n d (at + k) v (omega arith))

-- ---- a record's two parts
pub floats_overwritten : (s : List ℕ) (at : ℕ) (c : MessageConfig) {d₁ d₂ d₃ d₄ d₅ : List ℕ} → at + 40 ≤ length s → d₁ ≡ put 8 s at (to_bits binary64 c.time) → d₂ ≡ put 8 d₁ (at + 8) (to_bits binary64 c.cn0)
    → d₃ ≡ put 8 d₂ (at + 16) (to_bits binary64 c.offset) → d₄ ≡ put 8 d₃ (at + 24) (to_bits binary64 c.phase) → d₅ ≡ put 8 d₄ (at + 32) (to_bits binary64 c.error) → d₅ ≡ overwritten s at (float_bytes c)
unfolding float_bytes f64_bytes
floats_overwritten s at c {d₁} {d₂} {d₃} {d₄} {d₅} h q₁ q₂ q₃ q₄ q₅ =
    let x₁ = f64_bytes c.time in
    let x₂ = x₁ ++ f64_bytes c.cn0 in
    let x₃ = x₂ ++ f64_bytes c.offset in
    let x₄ = x₃ ++ f64_bytes c.phase in
    let p₁ = q₁ ∙ put_overwritten 8 s at (to_bits binary64 c.time) (omega arith) in
    let p₂ = next_put s at 8 x₁ 8 (to_bits binary64 c.cn0) d₁ d₂ (simp length_bytes) (omega arith) p₁ q₂ in
    let p₃ = next_put s at 16 x₂ 8 (to_bits binary64 c.offset) d₂ d₃ (simp (length-append, length_bytes)) (omega arith) p₂ q₃ in
    let p₄ = next_put s at 24 x₃ 8 (to_bits binary64 c.phase) d₃ d₄ (simp (length-append, length_bytes)) (omega arith) p₃ q₄ in
    next_put s at 32 x₄ 8 (to_bits binary64 c.error) d₄ d₅ (simp (length-append, length_bytes)) (omega arith) p₄ q₅ ∙ ap (overwritten s at) (simp append_assoc)

pub others_overwritten : (s : List ℕ) (at : ℕ) (r : Reply) (first type count n : ℕ) {d₁ d₂ d₃ d₄ d₅ : List ℕ} → at + 26 ≤ length s → n ≡ message_length r.kind → d₁ ≡ put 8 s at first
    → d₂ ≡ overwritten d₁ (at + 8) (type ∷ []) → d₃ ≡ put 2 d₂ (at + 9) count → d₄ ≡ overwritten d₃ (at + 11) (n ∷ []) → d₅ ≡ overwritten d₄ (at + 12) r.bytes → d₅ ≡ overwritten s at (other_bytes r first type count)
unfolding other_bytes
others_overwritten s at r first type count n {d₁} {d₂} {d₃} {d₄} {d₅} h e q₁ q₂ q₃ q₄ q₅ =
    let x₁ = bytes_of 8 first in
    let x₂ = x₁ ++ (type ∷ []) in
    let x₃ = x₂ ++ bytes_of 2 count in
    let x₄ = x₃ ++ (n ∷ []) in
    let p₁ = q₁ ∙ put_overwritten 8 s at first (omega arith) in
    let p₂ = next s at 8 x₁ (type ∷ []) d₁ d₂ (simp length_bytes) (omega arith) p₁ q₂ in
    let p₃ = next_put s at 9 x₂ 2 count d₂ d₃ (simp (length-append, length_bytes)) (omega arith) p₂ q₃ in
    let p₄ = next s at 11 x₃ (n ∷ []) d₃ d₄ (simp (length-append, length_bytes)) (omega arith) p₃ q₄ in
    next s at 12 x₄ r.bytes d₄ d₅ (simp (length-append, length_bytes)) (omega arith) p₄ q₅ ∙ ap (overwritten s at) (simp (append_assoc, e))

-- ---- what the test of an offset decides
module _ (s : List ℕ) (at : ℕ) (b : Bool) (e : b ≡ inside record_length s at) where
  pub room : b ≡ true → at + record_length ≤ length s
  room t = leb-true (at + record_length) (length s) (sym e ∙ t)

  pub record_there : (r : List ℕ) → b ≡ true → record_at s at r ≡ overwritten s at r
  unfolding record_at
  record_there r t = ap (λ (x : Bool). cond x (overwritten s at r) s) (sym e ∙ t)

  pub record_past : (r : List ℕ) → b ≡ false → record_at s at r ≡ s
  unfolding record_at
  record_past r t = ap (λ (x : Bool). cond x (overwritten s at r) s) (sym e ∙ t)
