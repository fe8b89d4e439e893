-- `put_numbers` meets its contract.
use mathlib.Core.Path.{◌∙◌}
use Rattle.record_check.proofs.Accepting.{in_range}
use Rattle.page.proofs.Fields.{numbers_put, fields_below, numbers_there}
use native.Mathlib.Omega.{arith}
use Rattle.page.proofs.put_numbers.Goals as goal

pub put_number-requires : goal.put_number-requires
put_number-requires c =
    let r = c.args.rec.now in
    let i = in_range r c.requires.0 in
    let q = fields_below r i c.number-first.ensures c.byte_at-kind.ensures c.number-count.ensures in
    (q.0, omega (arith, c.requires.1))

pub put_number-requires-2 : goal.put_number-requires-2
put_number-requires-2 c =
    let r = c.args.rec.now in
    let i = in_range r c.requires.0 in
    let q = fields_below r i c.number-first.ensures (c.from.ensures ∙ c.byte_at-kind.ensures) c.number-count.ensures in
    (omega (arith, q.1), omega (arith, c.requires.1))

pub put_number-requires-3 : goal.put_number-requires-3
put_number-requires-3 c =
    let r = c.args.rec.now in
    let i = in_range r c.requires.0 in
    let q = fields_below r i c.number-first.ensures (c.from.ensures ∙ c.byte_at-kind.ensures) (c.from-2.ensures ∙ c.number-count.ensures) in
    (omega (arith, q.2), omega (arith, c.requires.1))

pub returns : goal.returns
returns c =
    let a = c.args in
    let r = a.rec.now in
    let i = in_range r c.requires.0 in
    let u = c.number-first.ensures in
    let b = c.from.ensures ∙ c.byte_at-kind.ensures in
    let v = c.from-2.ensures ∙ c.number-count.ensures in
    let q = fields_below r i u b v in
    numbers_there r i a.out.now a.at u b v (numbers_put _ _ _ q.0 q.1 q.2 a.out.now a.at c.requires.1 c.put_number.ensures c.put_number-2.ensures c.put_number-3.ensures)
