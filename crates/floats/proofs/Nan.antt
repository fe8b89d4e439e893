-- What the tests for a NaN say: `x != x` of a value, and a size above the infinity's of a pattern.
use Rattle.std.proofs.Common.{◌≡◌, ℕ, ◌*◌, ◌%◌, ◌≤◌, Bool, true, false, not, T, sym, subst, true≢false}
use lib.Arith.{le→nltb}
use lib.Ieee.{Float, nan, inf, fin, Format, ne, is_nan, nan_bits, hid, ones, top}
use lib.Ieee.Bits.{nan_bits_above}
use lib.Ieee.Compare.{differs_from_itself}

pub is_nan_lem : (x : Float) → ne x x ≡ true → x ≡ nan
is_nan_lem x e = differs_from_itself x (subst T (sym e) tt)

pub not_nan : (x : Float) → ne x x ≡ false → T (not (is_nan x))
unfolding is_nan
not_nan nan e = absurd (true≢false (unfold ne in e))
not_nan (inf s) e = tt
not_nan (fin s m d) e = tt

-- a pattern not above the infinity's in size is no NaN's
pub no_nan_bits : (f : Format) (n : ℕ) → n % top f ≤ ones f * hid f → T (not (nan_bits f n))
no_nan_bits f n h = subst (λ (b : Bool). T (not b)) (sym (nan_bits_above f n)) (le→nltb (ones f * hid f) (n % top f) h)
