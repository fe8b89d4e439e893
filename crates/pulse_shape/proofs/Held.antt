-- Each value of a prototype is an f32's, whatever the lowpass holds.
use Rattle.std.proofs.Common.{ℕ, zero, suc, ◌+◌, ◌-◌, min, T, List, length, get_or}
use lib.Ieee.{Float, nan, binary32, fits, of_bits, add, mul}
use lib.Ieee.Fits.{add-fits, nan-fits}
use lib.Ieee.Bits.{of_bits-fits}
use Rattle.pulse_shape.specs.Values.{values_from}
use Rattle.pulse_shape.specs.Convolve.{products_from, first_term, convolve_at}
use Rattle.pulse_shape.specs.Prototype.{prototype_of}
use Rattle.constants.specs.Rate.{prototype_length}
use Rattle.pulse_shape.proofs.DelayWithin.{Held}

products_fit : (a b : List Float) (j n k : ℕ) (sum : Float) → T (fits binary32 sum) → T (fits binary32 (products_from a b j n k sum))
unfolding products_from
products_fit a b j zero k sum F = F
products_fit a b j (suc n) k sum F = products_fit a b j n (k + 1) (add binary32 sum (mul binary32 (get_or a k nan) (get_or b (j - k) nan))) (add-fits binary32 sum (mul binary32 (get_or a k nan) (get_or b (j - k) nan)))

pub convolve_fits : (a b : List Float) (j : ℕ) → T (fits binary32 (convolve_at a b j))
unfolding convolve_at
convolve_fits a b j = products_fit a b j (min (j + 1) (length a) - first_term (length b) j) (first_term (length b) j) (of_bits binary32 0) (of_bits-fits binary32 0)

pub values_held : (f : ℕ → Float) → ((k : ℕ) → T (fits binary32 (f k))) → (n k : ℕ) → Held (values_from f n k)
unfolding values_from
values_held f h zero k i = nan-fits binary32
values_held f h (suc n) k zero = h k
values_held f h (suc n) k (suc i) = values_held f h n (k + 1) i

pub prototype_held : (sps : ℕ) (pulse lowpass : List Float) → Held (prototype_of sps pulse lowpass)
unfolding prototype_of
prototype_held sps pulse lowpass = values_held (convolve_at pulse lowpass) (convolve_fits pulse lowpass) (prototype_length sps) 0
