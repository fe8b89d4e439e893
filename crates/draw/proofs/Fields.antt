-- A draw's 14 bytes, from what is read at each place.
use Prim.Native.Nat.{ℕ, ◌+◌, ◌<◌}
use mathlib.Core.Path.{◌≡◌, refl, ◌∙◌}
use mathlib.Core.List.{List}
use lib.ListN.{length, get_or}
use Rattle.std.proofs.lemmas.List.FromFn.{fill_by_all}
use Rattle.draw.specs.Draw.{bytes_at}

pub bytes_are : (s b : List ℕ) → length b ≡ 14 → ((k : ℕ) → k < 14 → get_or b k 0 ≡ get_or s (48 + k) 0) → b ≡ bytes_at s 48 14
unfolding bytes_at
bytes_are s b l h = fill_by_all (λ (k : ℕ). get_or s (48 + k) 0) b 14 0 l h ∙ refl
