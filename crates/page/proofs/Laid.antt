-- Bytes written in front of others, and over others.
use Prim.Native.Nat.{ℕ, suc, ◌+◌, ◌≤◌}
use mathlib.Core.Path.{◌≡◌, sym, ap, ◌∙◌}
use mathlib.Core.List.{List, ◌∷◌, ◌++◌, append_assoc}
use native.Mathlib.Numerals.{add-one}
use native.Mathlib.Omega.{arith}
use lib.ListN.{length, take, drop, set}
use lib.Seq.{set_split, drop_at, length-take-le}
use Rattle.le_read.specs.LeBytes.{overwritten}
use Rattle.le_read.proofs.RoundTrip.{length_overwritten, overwritten_before, overwritten_after}

-- one byte in front of those written
pub in_front : (s : List ℕ) (at : ℕ) (ys : List ℕ) (x : ℕ) → at + 1 + length ys ≤ length s → set (overwritten s (at + 1) ys) at x ≡ overwritten s at (x ∷ ys)
unfolding overwritten
in_front s at ys x h =
    let d = overwritten s (at + 1) ys in
    let l : length d ≡ length s = length_overwritten s (at + 1) ys h in
    let front : take at d ≡ take at s = overwritten_before s (at + 1) ys h at 0 (omega arith) in
    let rest : drop (suc at) d ≡ ys ++ drop (at + 1 + length ys) s =
    ap (λ (n : ℕ). drop n d) (sym (add-one at))
    ∙ ap (drop (at + 1)) (append_assoc (take (at + 1) s) ys (drop (at + 1 + length ys) s))
    ∙ drop_at (take (at + 1) s) (ys ++ drop (at + 1 + length ys) s) (at + 1) (length-take-le (at + 1) s (omega arith)) in
    set_split d at x (omega arith)
    ∙ (λ i. front i ++ x ∷ rest i)
    ∙ sym (append_assoc (take at s) (x ∷ ys) (drop (at + 1 + length ys) s))
    ∙ ap (λ (n : ℕ). take at s ++ x ∷ ys ++ drop n s) {x = at + 1 + length ys} {y = at + suc (length ys)} (omega arith)

-- bytes written over fewer
pub laid_over : (s : List ℕ) (at : ℕ) (zs ys : List ℕ) → length zs ≤ length ys → at + length ys ≤ length s → overwritten (overwritten s at zs) at ys ≡ overwritten s at ys
unfolding overwritten
laid_over s at zs ys h g =
    let d = overwritten s at zs in
    let w : at + length zs ≤ length s = omega arith in
    let front : take at d ≡ take at s = overwritten_before s at zs w at 0 (omega arith) in
    let rest : drop (at + length ys) d ≡ drop (at + length ys) s = overwritten_after s at zs w (at + length ys) (omega arith) in
    (λ i. front i ++ ys ++ rest i)
