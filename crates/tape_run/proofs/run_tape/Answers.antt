-- `run_tape` is safe, and what it reports is right: a refused head by its number, a section behind a head that begins a run by the outcome of that run; and only a run that is done writes records.
use Prim.Native.Nat.{ℕ, ◌+◌, ◌*◌, ◌≤◌}
use native.Mathlib.Omega.{arith}
use mathlib.Core.Path.{◌≡◌, refl, sym, ap, ◌∙◌, subst}
use mathlib.Core.List.{List}
use lib.ListN.{length}
use Rattle.constants.specs.declared.SamplesPerPulse.{SamplesPerPulse}
use Rattle.constants.specs.Setting.{per_pulse}
use Rattle.tape_sections.specs.Sections.{draws_offset, noise_offset, tape_setting, tape_sps}
use Rattle.tape_head.proofs.Within.{begun_within}
use Rattle.tape_theory.proofs.Reported.{opened_with, reported_refused, reported_run, few_reported}
use Rattle.tape_run.proofs.run_tape.Goals as goal

-- where the draws' count stands, by the setting that the code reads
counted_at : (tape : List ℕ) {setting : SamplesPerPulse} {at : ℕ} → setting ≡ tape_setting tape → at ≡ draws_offset (per_pulse setting) → at ≡ draws_offset (tape_sps tape)
counted_at tape s e = e ∙ ap (λ (z : SamplesPerPulse). draws_offset (per_pulse z)) s

-- the draws end before the noise
draws_end : (tape : List ℕ) (n : ℕ) {at : ℕ} → at ≡ draws_offset (tape_sps tape) → noise_offset (tape_sps tape) n + 4 ≤ length tape → at + 4 + 65 * n ≤ length tape
draws_end tape n {at} e h = before (subst (λ (k : ℕ). k + 4 + 65 * n + 4 ≤ length tape) (sym e) h)
  where
    before : at + 4 + 65 * n + 4 ≤ length tape → at + 4 + 65 * n ≤ length tape
    before g = omega arith

pub overflow_mul-draws : goal.overflow_mul-draws
overflow_mul-draws c = record { fits = omega (arith, (begun_within _ _ _ c.in-Ok.b.state c.in-Ok.b.draws c.in-Ok.b.noise c.head.ensures c.in-Ok.is).0) }

pub overflow_add-draws : goal.overflow_add-draws
overflow_add-draws c = record { fits = omega (arith, (begun_within _ _ _ c.in-Ok.b.state c.in-Ok.b.draws c.in-Ok.b.noise c.head.ensures c.in-Ok.is).0, c.draws_count_offset-at.ensures.1) }

pub slice_bounds-draws-end : goal.slice_bounds-draws-end
slice_bounds-draws-end c =
    draws_end _ _ (counted_at _ c.tape_setting-setting.ensures c.draws_count_offset-at.ensures.0) (begun_within _ _ _ c.in-Ok.b.state c.in-Ok.b.draws c.in-Ok.b.noise c.head.ensures c.in-Ok.is).1

pub returns-in-Err-clause-reported : goal.returns-in-Err-clause-reported
returns-in-Err-clause-reported c =
    reported_refused _ _ (opened_with _ _ _ _ _ c.head.ensures c.tape_setting-setting.ensures c.prototype_len.ensures.0 c.prototype_len-2.ensures.0 c.memory_len.ensures refl refl refl) _ c.in-Err.is _

pub returns-in-Ok : goal.returns-in-Ok
returns-in-Ok c =
    let opened = opened_with _ _ _ _ _ c.head.ensures c.tape_setting-setting.ensures c.prototype_len.ensures.0 c.prototype_len-2.ensures.0 c.memory_len.ensures refl refl refl in
    let right =
    reported_run _ c.in-Ok.b.state c.in-Ok.b.draws c.in-Ok.b.noise _ _ _ _ opened c.in-Ok.is _ (counted_at _ c.tape_setting-setting.ensures c.draws_count_offset-at.ensures.0) c.start-f.result c.feed_section-s.result.feed c.start-f.ensures _ _ _ _
    c.feed_section-s.result.end c.reported-outcome.result c.copied-own.ensures.0 c.copied-own.ensures.1 c.feed_section-s.ensures _ c.reported-outcome.ensures c.keep.ensures in
    record { reported = right; few = few_reported _ _ _ right }
