-- `add_blocks` meets its contract.
use mathlib.Core.Logic.{inl, inr}
use Rattle.std.proofs.Common.{ℕ, ◌+◌, ◌*◌, arith, rules, refl, ap, ◌∙◌, length}
use Rattle.constants.specs.Setting.{per_pulse}
use Rattle.reply_samples.specs.RingModel.{added_from}
use Rattle.reply_samples.proofs.Ring.{reply_length_kept}
use Rattle.reply_add.proofs.Waves.{all_samples, all_ticks_counted, block_counted, block_added, all_added, all_counted}
use Rattle.reply_add.proofs.Bank.add_blocks.Goals as goal

pub loop-count-init : goal.loop-count-init
loop-count-init c =
    let a = c.args in
    let whole = all_samples a.self.setting a.self.prototype.now a.self.padded.now a.w _ (ap (λ (n : ℕ). (n + 1) * a.w.limit) c.number.ensures.0) c.requires.2 in
    record {
      long = c.requires.0;
      held = c.requires.1;
      most = search rules;
      within = search rules;
      counted = all_ticks_counted a.self.setting a.self.prototype.now a.self.padded.now a.w _ (ap (λ (n : ℕ). (n + 1) * a.w.limit) c.number.ensures.0) c.requires.2;
      rest = ap (added_from (per_pulse a.self.setting) a.memory.now a.slot) whole;
    }

pub loop-count-preserved : goal.loop-count-preserved
loop-count-preserved c =
    let a = c.args in
    let l = c.loop-count in
    record {
      long = ap length c.add.ensures ∙ reply_length_kept (per_pulse a.self.setting) l.memory l.slot _ ∙ l.invariant.long;
      held = omega arith;
      most = search rules;
      within = omega arith;
      counted = block_counted a.self.setting a.self.prototype.now a.self.padded.now a.w _ l.count _ l.at.tick _ _ _ _ c.fill_clocks-at.ensures.block refl l.invariant.counted;
      rest = block_added a.self.setting a.self.prototype.now a.self.padded.now a.w _ l.count _ l.at.tick _ _ _ l.slot _ l.memory _ _ _ _ _ c.fill_clocks-at.ensures.block refl l.invariant.long l.invariant.held c.ring_slots.ensures.0 (search rules) c.fill.ensures c.add.ensures l.invariant.rest;
    }

pub returns-else-at-w-clause-memory : goal.returns-else-at-w-clause-memory
returns-else-at-w-clause-memory c =
    let a = c.args in
    let l = c.loop-count in
    all_added a.self.setting a.self.prototype.now a.self.padded.now a.w _ l.at.tick l.slot l.memory _ (inr (omega arith)) l.invariant.rest

pub returns-else-at-w-clause-count : goal.returns-else-at-w-clause-count
returns-else-at-w-clause-count c =
    let a = c.args in
    let l = c.loop-count in
    all_counted a.self.setting a.self.prototype.now a.self.padded.now a.w _ l.count _ l.at.tick (inr (omega arith)) l.invariant.counted

pub returns-after-loop-count-clause-memory : goal.returns-after-loop-count-clause-memory
returns-after-loop-count-clause-memory c =
    let a = c.args in
    let l = c.loop-count in
    all_added a.self.setting a.self.prototype.now a.self.padded.now a.w _ l.at.tick l.slot l.memory _ (inl (omega arith)) l.invariant.rest

pub returns-after-loop-count-clause-count : goal.returns-after-loop-count-clause-count
returns-after-loop-count-clause-count c =
    let a = c.args in
    let l = c.loop-count in
    all_counted a.self.setting a.self.prototype.now a.self.padded.now a.w _ l.count _ l.at.tick (inl (omega arith)) l.invariant.counted
