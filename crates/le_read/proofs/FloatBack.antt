-- A float written, then read at the same offset, is the same float, unless it was a NaN (`float_back`, at both formats).
use Rattle.std.specs.Prelude.{Ok, Err}
use Prim.Native.Nat.{ℕ, ◌+◌, ◌*◌, ◌^◌, ◌≤◌}
use mathlib.Core.Path.{◌≡◌, refl, ap, ◌∙◌}
use mathlib.Core.Bool.{Bool, cond}
use mathlib.Core.List.{List}
use lib.Dec.{T}
use lib.ListN.{length}
use lib.Ieee.{Float, Format, binary32, binary64, top, fits, is_nan, of_bits, to_bits}
use lib.Ieee.Bits.{of_bits-to_bits, to_bits-lt, nan_bits_is}
use Rattle.le_read.specs.LeBytes.{put}
use Rattle.le_read.proofs.RoundTrip.{back}
use Rattle.le_read.specs.declared.FloatFault.TheVariants.{Nan, OutOfBounds}
use Rattle.le_read.specs.FloatReads.{found, float_of, read_float}

-- the float of a float's pattern is the float, unless it was a NaN
pub float_of_bits : (f : Format) (x : Float) → T (fits f x) → float_of f (to_bits f x) ≡ cond (is_nan x) (Err Nan) (Ok x)
unfolding found
float_of_bits f x F =
    let e = of_bits-to_bits f x F in
    ap (λ (b : Bool). cond b (Err Nan) (Ok (of_bits f (to_bits f x)))) (nan_bits_is f (to_bits f x) ∙ ap is_nan e) ∙ ap (λ (y : Float). cond (is_nan x) (Err Nan) (Ok y)) e

pub float_back : (n : ℕ) (f : Format) → 256 ^ n ≡ 2 * top f → (s : List ℕ) (at : ℕ) (x : Float) → at + n ≤ length s → T (fits f x)
    → read_float f n (put n s at (to_bits f x)) at ≡ cond (is_nan x) (Err Nan) (Ok x)
float_back n f w s at x h F =
    back n (float_of f) (Err OutOfBounds) s at (to_bits f x) h (rw w (to_bits-lt f x F)) ∙ float_of_bits f x F

pub f32_back : (s : List ℕ) (at : ℕ) (x : Float) → at + 4 ≤ length s → T (fits binary32 x) → read_float binary32 4 (put 4 s at (to_bits binary32 x)) at ≡ cond (is_nan x) (Err Nan) (Ok x)
f32_back = float_back 4 binary32 refl

pub f64_back : (s : List ℕ) (at : ℕ) (x : Float) → at + 8 ≤ length s → T (fits binary64 x) → read_float binary64 8 (put 8 s at (to_bits binary64 x)) at ≡ cond (is_nan x) (Err Nan) (Ok x)
f64_back = float_back 8 binary64 refl
