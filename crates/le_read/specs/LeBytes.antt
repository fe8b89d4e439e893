-- Little-endian numbers in bytes (SPECIFICATION 1.4). One definition over the width n, in bytes; s is a list of bytes and at an offset in it, counted from 0.
use Rattle.std.specs.Prelude.{ℕ, zero, suc, ◌+◌, ◌*◌, ◌/◌, ◌%◌, Bool, cond, List, [], ◌∷◌, ◌++◌, leb, length, take, drop}

-- the number that bytes stand for, low byte first
unfoldable pub le_of : List ℕ → ℕ
le_of [] = 0
le_of (b ∷ bs) = b + 256 * le_of bs

-- the n low bytes of v, low byte first
unfoldable pub bytes_of : ℕ → ℕ → List ℕ
bytes_of zero v = []
bytes_of (suc n) v = v % 256 ∷ bytes_of n (v / 256)

-- whether n bytes from at lie in s
abbrev pub inside : ℕ → List ℕ → ℕ → Bool
inside n s at = leb (at + n) (length s)

-- the number in the n bytes from at
unfoldable pub le_at : ℕ → List ℕ → ℕ → ℕ
unfolding le_of
le_at n s at = le_of (take n (drop at s))

-- what becomes of that number, and what else comes where the bytes run past the end
unfoldable pub read_at : {X : Type 0} → ℕ → (ℕ → X) → X → List ℕ → ℕ → X
unfolding le_at
read_at n value past s at = cond (inside n s at) (value (le_at n s at)) past

-- the number itself, 0 past the end
abbrev pub number_at : ℕ → List ℕ → ℕ → ℕ
number_at n s at = read_at n (λ v. v) 0 s at

-- s with bs instead of as many of its entries from at; of bytes, and of any other list
unfoldable pub overwritten : {X : Type 0} → List X → ℕ → List X → List X
overwritten s at bs = take at s ++ bs ++ drop (at + length bs) s

-- s with v written in n bytes from at; s itself where they would run past the end
unfoldable pub put : ℕ → List ℕ → ℕ → ℕ → List ℕ
unfolding overwritten bytes_of
put n s at v = cond (inside n s at) (overwritten s at (bytes_of n v)) s
