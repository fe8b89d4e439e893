-- A whole draw: where there are 65 bytes, each number is the one that its bytes stand for, and no 0 past the end is read (`whole`); the floats read are values of their formats (`read_held`).
use Prim.Native.Nat.{ℕ, zero, suc, ◌+◌, ◌≤◌}
use mathlib.Core.Path.{◌≡◌, refl, sym, ap, ◌∙◌}
use mathlib.Core.List.{List, ◌∷◌}
use native.Mathlib.Numerals.{add-one}
use native.Mathlib.Omega.{arith}
use lib.ListN.{length, get_or, take, drop}
use lib.Seq.{drop-cons}
use lib.Ieee.{binary32, binary64, of_bits}
use lib.Ieee.Bits.{of_bits-fits}
use Rattle.le_read.specs.LeBytes.{le_at}
use Rattle.settings.proofs.Inside.{number_there}
use Rattle.draw.specs.declared.Draw.{Draw}
use Rattle.draw.specs.Draw.{bytes_at, picks_at, draw_at, Representable}

-- the bytes from an offset on, as many as there are
pub bytes_inside : (n : ℕ) (s : List ℕ) (at : ℕ) → at + n ≤ length s → bytes_at s at n ≡ take n (drop at s)
unfolding bytes_at
bytes_inside zero s at h = refl
bytes_inside (suc n) s at h =
    ap (λ (l : List ℕ). get_or s at 0 ∷ l) (bytes_inside n s (at + 1) (omega arith) ∙ ap (λ (i : ℕ). take n (drop i s)) (add-one at))
    ∙ sym (ap (take (suc n)) (drop-cons s at 0 (omega arith)))

-- the draw read from 65 bytes or more, with nothing read past their end
unfoldable pub whole_draw : List ℕ → Draw
whole_draw s = record {
  gap = of_bits binary64 (le_at 8 s 0);
  kind = get_or s 8 0;
  cn0 = of_bits binary64 (le_at 8 s 9);
  amplitude = of_bits binary32 (le_at 4 s 17);
  carrier = of_bits binary64 (le_at 8 s 21);
  phase = of_bits binary64 (le_at 8 s 29);
  clock = of_bits binary64 (le_at 8 s 37);
  picks = record { format = get_or s 45 0; capability = get_or s 46 0; overlay = get_or s 47 0; bytes = take 14 (drop 48 s); «data» = le_at 2 s 62; spi = get_or s 64 0 };
}

pub whole : (s : List ℕ) → 65 ≤ length s → draw_at s ≡ whole_draw s
unfolding draw_at picks_at whole_draw
whole s h =
    rw (number_there 8 s 0 (omega arith), number_there 8 s 9 (omega arith), number_there 4 s 17 (omega arith), number_there 8 s 21 (omega arith), number_there 8 s 29 (omega arith), number_there 8 s 37 (omega arith), number_there 2 s 62 (omega arith), bytes_inside 14 s 48 (omega arith))

pub read_held : (s : List ℕ) → Representable (draw_at s)
unfolding draw_at
read_held s = record {
  gap = of_bits-fits binary64 _;
  cn0 = of_bits-fits binary64 _;
  amplitude = of_bits-fits binary32 _;
  carrier = of_bits-fits binary64 _;
  phase = of_bits-fits binary64 _;
  clock = of_bits-fits binary64 _;
}
