-- The memory after a call: moved down and filled up, or filled whole from the end of the samples.
use mathlib.Core.List.{List, [], ◌++◌, append-nil}
use mathlib.Core.Path.{◌≡◌, sym, ap, ◌∙◌}
use Prim.Native.Nat.{ℕ, ◌+◌, ◌-◌, ◌≤◌, ◌<◌}
use native.Mathlib.Omega.{arith}
use borrow.Rule.Slice.PartMut.{put_mid}
use lib.Ieee.{Float}
use lib.ListN.{length, take, drop, length-append, length-drop, drop_of_length-le}
use lib.Seq.{take_all, take_at, drop-append-le, drop-append-add}
use Rattle.std.specs.List.{copy_within}
use Rattle.rack.specs.Memory.{held_after}

-- fewer samples than the memory holds
pub moved_and_filled : (m moved filled xs : List Float) → length m ≡ 8190 → length xs < 8190 → moved ≡ copy_within m (length xs) 8190 0 → filled ≡ xs
    → put_mid (8190 - length xs) (8190 - (8190 - length xs)) moved filled ≡ held_after m xs
unfolding held_after
moved_and_filled m moved filled xs hm h e f =
    (λ i. kept i ++ (f i ++ none i))
    ∙ ap (λ (l : List Float). drop (length xs) m ++ l) (append-nil xs)
    ∙ sym (drop-append-le (length xs) m xs (omega arith))
  where
    all : take (8190 - length xs) (drop (length xs) m) ≡ drop (length xs) m
    all = take_all (8190 - length xs) (drop (length xs) m) (omega (arith, length-drop (length xs) m))

    down : copy_within m (length xs) 8190 0 ≡ drop (length xs) m ++ drop (8190 - length xs) m
    down =
        ap (λ (k : ℕ). take (8190 - length xs) (drop (length xs) m) ++ drop k m) {x = 0 + (8190 - length xs)} {y = 8190 - length xs} (omega arith)
        ∙ ap (λ (l : List Float). l ++ drop (8190 - length xs) m) all

    long : length moved ≡ 8190
    long =
        ap length (e ∙ down)
        ∙ length-append (drop (length xs) m) (drop (8190 - length xs) m)
        ∙ omega (arith, length-drop (length xs) m, length-drop (8190 - length xs) m)

    kept : take (8190 - length xs) moved ≡ drop (length xs) m
    kept = ap (take (8190 - length xs)) (e ∙ down) ∙ take_at (drop (length xs) m) (drop (8190 - length xs) m) (8190 - length xs) (omega (arith, length-drop (length xs) m))

    none : drop (8190 - (8190 - length xs)) (drop (8190 - length xs) moved) ≡ []
    none = drop_of_length-le (drop (8190 - length xs) moved) {i = 8190 - (8190 - length xs)} (omega (arith, length-drop (8190 - length xs) moved, long))

-- as many samples as the memory holds, or more
pub filled_whole : (m filled xs : List Float) → length m ≡ 8190 → 8190 ≤ length xs → filled ≡ take (length xs - (length xs - 8190)) (drop (length xs - 8190) xs) → filled ≡ held_after m xs
unfolding held_after
filled_whole m filled xs hm h e =
    e
    ∙ take_all (length xs - (length xs - 8190)) (drop (length xs - 8190) xs) (omega (arith, length-drop (length xs - 8190) xs))
    ∙ sym (drop-append-add m xs (length xs - 8190))
    ∙ ap (λ (k : ℕ). drop k (m ++ xs)) {x = length m + (length xs - 8190)} {y = length xs} (omega arith)
