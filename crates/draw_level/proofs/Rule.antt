-- The rule of the table at each of its entries, by one count that the prover computes; and the size of its entries.
use mathlib.Core.Bool.{Bool, ◌&&◌}
use mathlib.Core.Path.{◌≡◌, refl}
use Prim.Native.Nat.{ℕ, suc, ◌*◌, ◌^◌, ◌≤◌, ◌<◌}
use lib.Ieee.Fits.{and_l, and_r}
use lib.Dec.{leb, ltb, leb→le, ltb→lt}
use Rattle.draw_level.specs.Levels.{table, entry_of, Entry}
use Rattle.draw_level.proofs.Table.{passed, at}

right : ℕ → ℕ → Bool
right k t = leb (t ^ 200) (10 ^ k * 2 ^ 6000) && ltb (10 ^ k * 2 ^ 6000) (suc t ^ 200)

-- all 200 entries pass
all_right : passed right 0 table ≡ 200
unfolding right table
all_right = refl

pub entry_rule : (k : ℕ) → k < 200 → Entry k (entry_of k)
unfolding right table entry_of
entry_rule k h =
    let r = at right table all_right k h in
    let a = leb (entry_of k ^ 200) (10 ^ k * 2 ^ 6000) in
    let b = ltb (10 ^ k * 2 ^ 6000) (suc (entry_of k) ^ 200) in
    record { reaches = leb→le (entry_of k ^ 200) (10 ^ k * 2 ^ 6000) (and_l a b r); next = ltb→lt (10 ^ k * 2 ^ 6000) (suc (entry_of k) ^ 200) (and_r a b r) }

bounded : ℕ → ℕ → Bool
bounded k t = leb 1073741824 t && ltb t 17179869184

all_bounded : passed bounded 0 table ≡ 200
unfolding bounded table
all_bounded = refl

pub entry_bounds : (k : ℕ) → k < 200 → (1073741824 ≤ entry_of k) × (entry_of k < 17179869184)
unfolding bounded table entry_of
entry_bounds k h =
    let r = at bounded table all_bounded k h in
    let a = leb 1073741824 (entry_of k) in
    let b = ltb (entry_of k) 17179869184 in
    (leb→le 1073741824 (entry_of k) (and_l a b r), ltb→lt (entry_of k) 17179869184 (and_r a b r))
