-- How the code puts a number right-aligned: column by column from the last. `aligned` of proofs/Aligned ties it to `right_aligned` and `decimal`.
use Rattle.std.specs.Prelude.{ℕ, zero, suc, ◌+◌, ◌/◌, ◌%◌, cond, List, [], ◌∷◌, ◌++◌, eqb}

unfoldable pub tens_digit : ℕ → ℕ
tens_digit n = cond (eqb n 0) 32 (48 + n % 10)

unfoldable pub tens : ℕ → ℕ → List ℕ
tens zero n = []
tens (suc w) n = tens w (n / 10) ++ (tens_digit n ∷ [])
