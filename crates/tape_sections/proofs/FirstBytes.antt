-- The samples per pulse by which a tape is read depend on its first 128 bytes alone.
use Prim.Native.Nat.{ℕ, ◌≤◌}
use mathlib.Core.Path.{◌≡◌, sym, ap, ◌∙◌}
use mathlib.Core.List.{List}
use native.Mathlib.Omega.{arith}
use lib.ListN.{take}
use lib.Seq.{get_or-take}
use Rattle.constants.specs.Setting.{setting_from}
use Rattle.tape_sections.specs.Sections.{tape_setting}

pub setting_first : (k : ℕ) (tape : List ℕ) → 128 ≤ k → tape_setting (take k tape) ≡ tape_setting tape
unfolding tape_setting
setting_first k tape h = ap setting_from (get_or-take k tape 127 0 (omega arith))

-- so bytes that are read behind those change nothing
pub setting_kept : (k : ℕ) (old new : List ℕ) → 128 ≤ k → take 128 new ≡ take 128 old → tape_setting (take k new) ≡ tape_setting old
setting_kept k old new h e = setting_first k new h ∙ sym (setting_first 128 new (omega arith)) ∙ ap tape_setting e ∙ setting_first 128 old (omega arith)
