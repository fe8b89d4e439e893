-- The claim on damaged bytes: `Refuses` and `RefusesFlips`, at the end of this file. Bytes of a stored run in which one byte has changed, or two, to whatever else, are refused; so are those in which one bit has changed, or two.
use Rattle.std.specs.Prelude.{List, [], ◌∷◌, ℕ, suc, ◌*◌, ◌/◌, ◌%◌, ◌^◌, ◌<◌, ◌≡◌, true, false, is_ok, length, get_or, set}
use Rattle.std.specs.Int.Bits.{bit_xor}
use Rattle.run_theory.specs.Each.{Each}
use Rattle.run_bytes.specs.Layout.{Held, held_fits, stored_bytes}
use Rattle.run_bytes.specs.Reading.{Lent, restore_left}
use Rattle.run_bytes_theorem.specs.Typed.{Typed}

-- as long, and different at n places at most
pub data Differ : ℕ → List ℕ → List ℕ → Type 0 where
  none : (n : ℕ) → Differ n [] []
  same : (n x : ℕ) (xs ys : List ℕ) → Differ n xs ys → Differ n (x ∷ xs) (x ∷ ys)
  changed : (n x y : ℕ) (xs ys : List ℕ) → Differ n xs ys → Differ (suc n) (x ∷ xs) (y ∷ ys)

abbrev pub Byte : ℕ → Type 0
Byte b = b < 256

-- nothing is taken up, and no buffer is changed
pub record Refused (bytes : List ℕ) (lent : Lent) : Type 0 where
  pub answer : is_ok (restore_left bytes lent).answer ≡ false
  pub lent_left : (restore_left bytes lent).lent ≡ lent

-- Bytes as long as those of a stored run that differ from these at one or two places are refused, whatever buffers are lent.
abbrev pub Refuses : Type 0
Refuses = (h : Held) → Typed h → held_fits h ≡ true → (bytes : List ℕ) → Each Byte bytes → Differ 2 (stored_bytes h) bytes → (stored_bytes h ≡ bytes → ⊥) → (lent : Lent) → Refused bytes lent

-- bytes with one bit changed; bits are counted from the lowest one of the first byte on
abbrev pub flip : ℕ → List ℕ → List ℕ
flip p bytes = set bytes (p / 8) (bit_xor (get_or bytes (p / 8) 0) (2 ^ (p % 8)))

abbrev pub RefusesFlips : Type 0
RefusesFlips = (h : Held) → Typed h → held_fits h ≡ true → (lent : Lent) → (p : ℕ) → p < 8 * length (stored_bytes h)
    → Refused (flip p (stored_bytes h)) lent × ((q : ℕ) → q < 8 * length (stored_bytes h) → (p ≡ q → ⊥) → Refused (flip q (flip p (stored_bytes h))) lent)
