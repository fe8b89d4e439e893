-- The positions of the twelve bits of Mode A/C data, by rule.
use Rattle.std.specs.Prelude.{ℕ, ◌+◌, ◌*◌, cond, ltb}

-- the position of the n-th bit, from 0, in the order C1 A1 C2 A2 C4 A4 B1 D1 B2 D2 B4 D4: every third position from 3 on, and past the middle one third later.
-- There are twelve bits; a pulse map asks for no other
unfoldable pub position_of : ℕ → ℕ
position_of n = cond (ltb n 6) (3 * (n + 1)) (cond (ltb n 12) (3 * (n + 2)) 0)
