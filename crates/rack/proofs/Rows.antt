-- A list written over the start of another: one entry more in each iteration, and at last the whole.
use mathlib.Core.List.{List, ◌++◌, append-nil}
use mathlib.Core.Path.{◌≡◌, sym, ap, ◌∙◌}
use Prim.Native.Nat.{ℕ, suc, ◌+◌, ◌≤◌, ◌<◌}
use native.Mathlib.Numerals.{add-one}
use native.Mathlib.Omega.{arith}
use lib.ListN.{length, get_or, set, take, drop, drop_of_length-le}
use lib.Seq.{take-suc, take_all, drop-cons, set_at, append_snoc, length-take-le}

pub copied_next : {X : Type 0} (from to whole : List X) (k : ℕ) (d : X) → k < length from → k < length whole → to ≡ take k from ++ drop k whole
    → set to k (get_or from k d) ≡ take (k + 1) from ++ drop (k + 1) whole
copied_next {X} from to whole k d h g e =
    ap (λ (l : List X). set l k (get_or from k d)) e
    ∙ ap (λ (l : List X). set (take k from ++ l) k (get_or from k d)) (drop-cons whole k d g)
    ∙ set_at (take k from) (get_or whole k d) (drop (suc k) whole) (get_or from k d) k (length-take-le k from (omega arith))
    ∙ sym (append_snoc (take k from) (get_or from k d) (drop (suc k) whole))
    ∙ ap (λ (l : List X). l ++ drop (suc k) whole) (sym (take-suc from k d h))
    ∙ ap (λ (n : ℕ). take n from ++ drop n whole) (sym (add-one k))

pub copied_end : {X : Type 0} (from to whole : List X) (k : ℕ) → length from ≤ k → length whole ≤ k → to ≡ take k from ++ drop k whole → to ≡ from
copied_end from to whole k h g e = e ∙ (λ j. take_all k from h j ++ drop_of_length-le whole {i = k} g j) ∙ append-nil from
