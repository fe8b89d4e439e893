-- What the code answers of a walk, read as `Walk` has it, and the generator that the walk is over.
use Rattle.std.specs.Prelude.{ℕ, [], Float}
use Rattle.constants.specs.declared.SamplesPerPulse.{SamplesPerPulse}
use Rattle.run_theory.specs.Generator.{Generator}
use Rattle.run_theory.specs.FloatGenerator.{nought}
use Rattle.message_config.specs.declared.Delays.{Delays}
use Rattle.settings.specs.declared.Distributions.{Distributions}
use Rattle.run_generator.specs.Instance.{instance_of}
use Rattle.run_booking.specs.declared.End as End
use Rattle.run_booking.specs.declared.Walked.{Walked}
use Rattle.run_booking.specs.Walk as Walk

-- the generator of samples per pulse, distributions, delays and samples: a walk depends on nothing else
abbrev pub walk_generator : SamplesPerPulse → Distributions → Delays → ℕ → Generator
walk_generator setting all delays total = instance_of (record {
  setting = setting;
  rates = record {
    extended_squitter = nought;
    acquisition_squitter = nought;
    short_ap = nought;
    all_call_reply = nought;
    long_ap = nought;
    military_extended_squitter = nought;
    mode_ac = nought;
  };
  distributions = all;
  delays = delays;
  mode_s = [];
  mode_ac = [];
}) total

-- case by case
unfoldable pub end_read : End.End → Walk.End Float
end_read (End.TheVariants.Draw index) = Walk.at_draw index
end_read (End.TheVariants.RanOut time) = Walk.ran_out time

unfoldable pub walked_read : Walked → Walk.Walk Float
walked_read r = record { records = r.records; taken = r.taken; end = end_read r.end }
