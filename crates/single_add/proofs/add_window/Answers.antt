-- `add_window` meets its contract.
use borrow.Author.Rules.{rules}
use lib.Ieee.{of_bits}
use Rattle.constants.specs.Setting.{per_pulse}
use Rattle.single_add.proofs.Joined.{blank_part, blank_length, through_memory}
use Rattle.single_add.proofs.add_window.Goals as goal

pub returns : goal.returns
unfolding of_bits
returns c =
    let a = c.args in
    let sps = per_pulse a.r.setting in
    let k = c.memory_len.result in
    let is = c.memory_len.ensures in
    through_memory sps a.at a.past c.min-len.result _ a.output.now _ c.copy_from_slice.new.self c.add_reply.new.memory c.copy_from_slice-2.new.self c.min-len.ensures c.requires.0 c.requires.1 (blank_part sps k 4502 is (search rules)) (blank_length sps k 4502 is (search rules))
    c.copy_from_slice.ensures.after c.copy_from_slice.ensures.len c.add_reply.ensures.0 c.copy_from_slice-2.ensures.after c.copy_from_slice-2.ensures.len
