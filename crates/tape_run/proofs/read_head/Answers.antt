-- `read_head` is safe: the settings' last byte still says the same once the taps are read.
use native.Mathlib.Omega.{arith}
use Prim.Native.Nat.{ℕ, ◌+◌, ◌≤◌}
use mathlib.Core.Path.{sym, ap, ◌∙◌, subst}
use Rattle.constants.specs.Setting.{per_pulse}
use Rattle.constants.specs.declared.SamplesPerPulse.{SamplesPerPulse}
use Rattle.tape_sections.specs.Sections.{draws_offset}
use Rattle.tape_sections.proofs.FirstBytes.{setting_kept}
use Rattle.tape_run.proofs.read_head.Goals as goal

pub read_on-requires : goal.read_on-requires
read_on-requires c =
    let at = c.draws_count_offset-counted in
    let same = setting_kept (at.result + 4) c.read_on-settings.new.bytes c.read_on-taps.new.bytes (omega arith) c.read_on-taps.ensures.kept ∙ sym c.tape_setting-setting.ensures in
    let counted = ap (λ (s : SamplesPerPulse). draws_offset (per_pulse s)) same ∙ sym at.ensures.0 in
    (subst (λ (n : ℕ). n + 4 ≤ c.head_length-want.result) counted c.head_length-want.ensures.lower_bound.0, omega (arith, c.head_length-want.ensures.lower_bound.1))
