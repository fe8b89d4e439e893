-- A draw, read from its 65 bytes (SPECIFICATION 4.4).
use Rattle.std.specs.Prelude.{ℕ, zero, suc, ◌+◌, List, [], ◌∷◌, T, get_or}
use Rattle.std.specs.Float.{binary32, binary64}
use Rattle.std.specs.Float.Ieee.{fits, of_bits}
use Rattle.le_read.specs.LeBytes.{number_at}
use Rattle.le_read.specs.FloatReads.{f64_at}
use Rattle.message.specs.declared.Picks.{Picks}
use Rattle.draw.specs.declared.Draw.{Draw}

-- the bytes of a draw
abbrev pub draw_length : ℕ
draw_length = 65

-- n bytes from at on
unfoldable pub bytes_at : List ℕ → ℕ → ℕ → List ℕ
bytes_at s at zero = []
bytes_at s at (suc n) = get_or s at 0 ∷ bytes_at s (at + 1) n

unfoldable pub picks_at : List ℕ → Picks
picks_at s = record { format = get_or s 45 0; capability = get_or s 46 0; overlay = get_or s 47 0; bytes = bytes_at s 48 14; «data» = number_at 2 s 62; spi = get_or s 64 0 }

-- the draw at the start of bytes, of which there are 65 or more
unfoldable pub draw_at : List ℕ → Draw
draw_at s = record {
  gap = f64_at s 0;
  kind = get_or s 8 0;
  cn0 = f64_at s 9;
  amplitude = of_bits binary32 (number_at 4 s 17);
  carrier = f64_at s 21;
  phase = f64_at s 29;
  clock = f64_at s 37;
  picks = picks_at s;
}

-- the floats are values of their formats, as those read from bytes always are
pub record Representable (d : Draw) : Type 0 where
  pub gap : T (fits binary64 d.gap)
  pub cn0 : T (fits binary64 d.cn0)
  pub amplitude : T (fits binary32 d.amplitude)
  pub carrier : T (fits binary64 d.carrier)
  pub phase : T (fits binary64 d.phase)
  pub clock : T (fits binary64 d.clock)
