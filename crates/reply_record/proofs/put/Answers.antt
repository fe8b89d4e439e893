-- `put` meets its contract.
use mathlib.Core.Path.{sym, ◌∙◌}
use native.Mathlib.Omega.{arith}
use Rattle.reply_record.specs.Record.{float_bytes, other_bytes, record_bytes}
use Rattle.reply_record.proofs.Overwritten.{next, room, record_there, record_past}
use Rattle.reply_record.proofs.RecordLength.{float_length}
use Rattle.reply_record.proofs.put.Goals as goal

pub returns-then-holds : goal.returns-then-holds
unfolding record_bytes
returns-then-holds c =
    let a = c.args in
    let s = a.d.now in
    let t = c.if-holds.true in
    let e = c.holds.ensures in
    let h = room s a.at _ e t in (
      sym t ∙ e,
      next s a.at 40 (float_bytes a.c) (other_bytes a.c.reply a.first a.kind a.count) _ _ (float_length a.c) (omega arith) c.put_floats.ensures c.put_others.ensures
          ∙ sym (record_there s a.at _ e (record_bytes a.c a.first a.kind a.count) t),
    )

pub returns : goal.returns
returns c =
    let a = c.args in
    let t = c.if-holds.false in
    let e = c.holds.ensures in
    (sym t ∙ e, sym (record_past a.d.now a.at _ e (record_bytes a.c a.first a.kind a.count) t))
