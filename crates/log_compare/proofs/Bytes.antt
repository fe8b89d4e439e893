-- Bytes compared one by one, messages that are alike, and reads past the end.
use mathlib.Core.Path.{◌≡◌, sym, ap, ◌∙◌, subst}
use mathlib.Core.Bool.{Bool, true, false, cond, ◌&&◌}
use mathlib.Core.List.{List}
use Prim.Native.Nat.{ℕ, zero, suc, ◌+◌, ◌-◌, ◌*◌, ◌/◌, ◌≤◌, ◌<◌}
use native.Mathlib.Omega.{arith}
use lib.Dec.{T, eqb, ltb, eqb→eq, eqb_refl}
use lib.ListN.{length, get_or}
use borrow.Author.Tests.{eq-eqb, ne_eqb, lt-leb}
use Rattle.le_read.specs.LeBytes.{le_at, read_at, number_at}
use lib.Ieee.Fits.{and_l, and_r, and_i}
use Rattle.log_theory.specs.PairingLaws.{Orderly}
use Rattle.log_compare.specs.Entries.{sample_of, first_of, heard_length, sent_length, same_from, message_alike, alike_of, logs}

past : (s : List ℕ) (at : ℕ) → length s < at + 8 → 0 ≡ number_at 8 s at
unfolding read_at
past s at h = sym (ap (λ (t : Bool). cond t (le_at 8 s at) 0) (lt-leb (at + 8) (length s) h))

pub sample_past : (log : List ℕ) (i : ℕ) → length log < 23 * i → 0 ≡ sample_of log i
unfolding sample_of
sample_past log i h = past log (23 * i) (omega arith)

pub first_past : (records : List ℕ) (j : ℕ) → length records < 66 * j → 0 ≡ first_of records j
unfolding first_of
first_past records j h = past records (66 * j + 40) (omega arith)

module _ (s t : List ℕ) (a b n : ℕ) where
  head_is : (k : ℕ) → k < n → same_from (n - k) s (a + k) t (b + k) ≡ (eqb (get_or s (a + k) 0) (get_or t (b + k) 0) && same_from (n - (k + 1)) s (a + k + 1) t (b + k + 1))
  unfolding same_from
  head_is k h =
      let p : n - k ≡ suc (n - (k + 1)) = omega arith in
      ap (λ (x : ℕ). same_from x s (a + k) t (b + k)) p

  pub same_on : (k : ℕ) → k < n → get_or s (a + k) 0 ≡ get_or t (b + k) 0 → same_from (n - k) s (a + k) t (b + k) ≡ same_from (n - (k + 1)) s (a + (k + 1)) t (b + (k + 1))
  same_on k h e =
      let q : a + k + 1 ≡ a + (k + 1) = omega arith in
      let r : b + k + 1 ≡ b + (k + 1) = omega arith in
      head_is k h
      ∙ ap (λ (x : Bool). x && same_from (n - (k + 1)) s (a + k + 1) t (b + k + 1)) (eq-eqb (get_or s (a + k) 0) (get_or t (b + k) 0) e)
      ∙ ap (λ (x : ℕ). same_from (n - (k + 1)) s x t (b + k + 1)) q ∙ ap (λ (x : ℕ). same_from (n - (k + 1)) s (a + (k + 1)) t x) r

  pub same_off : (k : ℕ) → k < n → (get_or s (a + k) 0 ≡ get_or t (b + k) 0 → ⊥) → same_from (n - k) s (a + k) t (b + k) ≡ false
  same_off k h e = head_is k h ∙ ap (λ (x : Bool). x && same_from (n - (k + 1)) s (a + k + 1) t (b + k + 1)) (ne_eqb (get_or s (a + k) 0) (get_or t (b + k) 0) e)

  pub same_end : (k : ℕ) → n ≤ k → same_from (n - k) s (a + k) t (b + k) ≡ true
  unfolding same_from
  same_end k h =
      let p : n - k ≡ 0 = omega arith in
      ap (λ (x : ℕ). same_from x s (a + k) t (b + k)) p

-- bytes that are those of a third part
same_across : (n : ℕ) (r s : List ℕ) (a b : ℕ) (t : List ℕ) (c e : ℕ) → T (same_from n r a t c) → T (same_from n r a t e) → T (same_from n s b t c) → T (same_from n s b t e)
unfolding same_from
same_across zero r s a b t c e p q o = tt
same_across (suc n) r s a b t c e p q o =
    let p1 = eqb→eq (get_or r a 0) (get_or t c 0) (and_l (eqb (get_or r a 0) (get_or t c 0)) (same_from n r (a + 1) t (c + 1)) p) in
    let q1 = eqb→eq (get_or r a 0) (get_or t e 0) (and_l (eqb (get_or r a 0) (get_or t e 0)) (same_from n r (a + 1) t (e + 1)) q) in
    let o1 = eqb→eq (get_or s b 0) (get_or t c 0) (and_l (eqb (get_or s b 0) (get_or t c 0)) (same_from n s (b + 1) t (c + 1)) o) in
    let z : get_or s b 0 ≡ get_or t e 0 = o1 ∙ sym p1 ∙ q1 in
    and_i (eqb (get_or s b 0) (get_or t e 0)) (same_from n s (b + 1) t (e + 1))
    (subst (λ (x : ℕ). T (eqb (get_or s b 0) x)) z (eqb_refl (get_or s b 0)))
    (same_across n r s (a + 1) (b + 1) t (c + 1) (e + 1)
    (and_r (eqb (get_or r a 0) (get_or t c 0)) (same_from n r (a + 1) t (c + 1)) p)
    (and_r (eqb (get_or r a 0) (get_or t e 0)) (same_from n r (a + 1) t (e + 1)) q)
    (and_r (eqb (get_or s b 0) (get_or t c 0)) (same_from n s (b + 1) t (c + 1)) o))

module _ (log records : List ℕ) where
  size_of : (i j : ℕ) → T (message_alike log records i j) → heard_length log i ≡ sent_length records j
  unfolding message_alike
  size_of i j t = eqb→eq (heard_length log i) (sent_length records j) (and_l (eqb (heard_length log i) (sent_length records j)) (same_from (heard_length log i) log (23 * i + 9) records (66 * j + 52)) t)

  bytes_of : (i j : ℕ) → T (message_alike log records i j) → T (same_from (heard_length log i) log (23 * i + 9) records (66 * j + 52))
  unfolding message_alike
  bytes_of i j t = and_r (eqb (heard_length log i) (sent_length records j)) (same_from (heard_length log i) log (23 * i + 9) records (66 * j + 52)) t

  message_across : (i k g s : ℕ) → T (message_alike log records i g) → T (message_alike log records i s) → T (message_alike log records k g) → T (message_alike log records k s)
  unfolding message_alike
  message_across i k g s p q o =
      let n : heard_length log i ≡ heard_length log k = size_of i g p ∙ sym (size_of k g o) in
      let m : heard_length log k ≡ sent_length records s = sym n ∙ size_of i s q in
      and_i (eqb (heard_length log k) (sent_length records s)) (same_from (heard_length log k) log (23 * k + 9) records (66 * s + 52))
      (subst (λ (x : ℕ). T (eqb (heard_length log k) x)) m (eqb_refl (heard_length log k)))
      (same_across (heard_length log k) log log (23 * i + 9) (23 * k + 9) records (66 * g + 52) (66 * s + 52)
      (subst (λ (x : ℕ). T (same_from x log (23 * i + 9) records (66 * g + 52))) n (bytes_of i g p))
      (subst (λ (x : ℕ). T (same_from x log (23 * i + 9) records (66 * s + 52))) n (bytes_of i s q))
      (bytes_of k g o))

  there : (i j : ℕ) → T (alike_of log records i j) → T (ltb i (length log / 23)) × T (ltb j (length records / 66)) × T (message_alike log records i j)
  unfolding alike_of
  there i j t =
      let r = and_r (ltb i (length log / 23)) (ltb j (length records / 66) && message_alike log records i j) t in (
        and_l (ltb i (length log / 23)) (ltb j (length records / 66) && message_alike log records i j) t,
        and_l (ltb j (length records / 66)) (message_alike log records i j) r,
        and_r (ltb j (length records / 66)) (message_alike log records i j) r,
      )

  alike_across : (i k g s : ℕ) → T (alike_of log records i g) → T (alike_of log records i s) → T (alike_of log records k g) → T (alike_of log records k s)
  unfolding alike_of
  alike_across i k g s p q o =
      and_i (ltb k (length log / 23)) (ltb s (length records / 66) && message_alike log records k s) (there k g o).0
      (and_i (ltb s (length records / 66)) (message_alike log records k s) (there i s q).1 (message_across i k g s (there i g p).2 (there i s q).2 (there k g o).2))

  -- a log in rising order is what the pairing asks
  pub logs_orderly : (d : ℕ) → ((i k : ℕ) → i ≤ k → k < length log / 23 → sample_of log i ≤ sample_of log k) → Orderly (logs log records d)
  logs_orderly d r = record { rising = r; across = alike_across }
