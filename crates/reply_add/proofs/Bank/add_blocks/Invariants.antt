-- What is added and what is left to add from here make the wave.
use Rattle.std.proofs.Common.{◌≡◌, ◌+◌, ◌-◌, ◌<◌, ◌≤◌, length, map}
use Rattle.constants.specs.Setting.{per_pulse}
use Rattle.constants.specs.Rate.{working_memory, ring_slots}
use Rattle.reply_samples.specs.RingModel.{added_from}
use Rattle.block_values.specs.Ticks.{ticks}
use Rattle.reply_add.specs.AddModel.{wave_samples}
use Rattle.reply_add.proofs.Waves.{sample_of}
use Rattle.reply_add.proofs.Bank.add_blocks.Given as goal

abbrev pub invariant-loop-count : goal.invariant-loop-count
invariant-loop-count l = record {
  long : length l.memory ≡ working_memory (per_pulse l.self.setting);
  held : l.slot < ring_slots (per_pulse l.self.setting);
  most : l.most ≤ 2214;
  within : l.count ≤ l.most;
  counted : l.count + length (ticks (l.most - l.count) l.pace l.at.tick) ≡ length (wave_samples (per_pulse l.self.setting) l.self.prototype.now l.self.padded.now l.w);
  rest : added_from (per_pulse l.self.setting) l.memory l.slot (map (sample_of (per_pulse l.self.setting) l.self.prototype.now l.self.padded.now l.w.carrier.amplitude) (ticks (l.most - l.count) l.pace l.at.tick)) ≡ added_from (per_pulse l.self.setting) l.fn.memory l.fn.slot (wave_samples (per_pulse l.self.setting) l.self.prototype.now l.self.padded.now l.w);
}

abbrev pub decreases-loop-count : goal.decreases-loop-count
decreases-loop-count l = l.most - l.count
