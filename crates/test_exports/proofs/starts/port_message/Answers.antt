-- `port_message` meets its contract.
use Rattle.std.proofs.Common.{w64}
use mathlib.Core.Path.{◌∙◌}
use mir.Facts.{to_z-of_z}
use Rattle.test_exports.specs.Messages.{message_at, delays_at}
use Rattle.test_exports.proofs.Crossed.{start_crosses, onset_crosses}
use Rattle.test_exports.proofs.starts.port_message.Goals as goal

pub returns : goal.returns
unfolding message_at delays_at
returns c =
    let a = c.args in
    let delays = delays_at a.delay_s a.delay_ac in (
      start_crosses delays a.time a.offset a.phase a.error _ _ c.kind_of.ensures _ (to_z-of_z {w = w64} (record { sfits = c.first_sample_index.type_inv }) ∙ c.first_sample_index.ensures),
      onset_crosses delays a.time a.offset a.phase a.error _ _ c.kind_of.ensures _ c.onset-o.ensures,
    )
