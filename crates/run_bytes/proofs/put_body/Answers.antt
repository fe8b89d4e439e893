-- `put_body` meets its contract: the five parts stand one behind the other.
use mathlib.Core.Path.{ap, ◌∙◌}
use lib.ListN.{length}
use Prim.Native.Nat.{ℕ, ◌+◌, ◌*◌}
use mathlib.Core.List.{List}
use mathlib.Core.Bool.{cond}
use Rattle.std.specs.Prelude.{is_some}
use Rattle.le_read.specs.LeBytes.{overwritten}
use Rattle.run_bytes.specs.Layout.{head_words, word_bytes, Held}
use Rattle.run_bytes.proofs.Parts.{body_length, body_written}
use Rattle.run_bytes.proofs.put_body.Goals as goal

pub returns : goal.returns
returns c =
    let h : Held = record { state = c.args.state; mode_s = c.args.prototypes.mode_s.now; mode_ac = c.args.prototypes.mode_ac.now; memory = c.args.memory.now; rack = c.args.rack; rack_memory = c.args.rack_memory.now } in
    let n = cond (is_some c.args.rack) (208 + 4 * length c.args.rack_memory.now) 0 in
    let head = c.put_words.ensures ∙ ap (λ (ws : List ℕ). overwritten c.args.out.now 0 (word_bytes ws)) (c.head_words-words.ensures ∙ ap (head_words c.args.state) c.is_some.ensures) in
    (body_written h n c.put_any_rack.ensures.1 c.args.out.now c.requires head c.put_floats.ensures c.put_floats-2.ensures c.put_floats-3.ensures c.put_any_rack.ensures.0, body_length h n c.put_any_rack.ensures.1)
