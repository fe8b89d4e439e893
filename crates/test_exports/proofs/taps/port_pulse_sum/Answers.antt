-- `port_pulse_sum` meets its contract: the positions padded are the first of those given.
use Rattle.std.proofs.Common.{rules, ap, ◌∙◌}
use Rattle.filterbank.specs.PaddedPulsesModel.{pad_pulses, padded_sum}
use Rattle.filterbank.proofs.Padded.{first_taken}
use Rattle.test_exports.proofs.taps.port_pulse_sum.Goals as goal

pub returns : goal.returns
returns c =
    let a = c.args in
    c.pulse_sum.ensures ∙ ap (λ padded. padded_sum a.taps.now padded a.index) (c.pad_pulses-padded.ensures ∙ ap pad_pulses (first_taken a.on.now c.min.result a.len (search rules) (search rules)))
