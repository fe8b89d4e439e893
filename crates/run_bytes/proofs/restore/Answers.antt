-- `restore` meets its contract: the bytes have every part that the head speaks of.
use mathlib.Core.Path.{sym, ◌∙◌}
use native.Mathlib.Omega.{arith}
use lib.ListN.{length, get_or}
use Rattle.constants.specs.Setting.{setting_from}
use Rattle.run_bytes.specs.Layout.{stored_length}
use Rattle.run_bytes.specs.Reading.{is_racked, Lent}
use Rattle.run_bytes.proofs.Lengths.{within, small, rack_room, place_is, tested}
use Rattle.run_bytes.proofs.Taken.{long, filled, taken}
use Rattle.run_bytes.proofs.restore.Goals as goal

pub overflow_add-memory_place : goal.overflow_add-memory_place
overflow_add-memory_place c =
    let s = setting_from (get_or c.in_ok-head.head 29 0) in
    let l = long c.args.bytes.now c.head_of.result c.in_ok-head.head c.in_ok-head.was c.head_of.ensures.1 in
    let f = tested s (length c.args.mode_s.now) (length c.args.mode_ac.now) (length c.args.memory.now) (length c.args.rack_memory.now) (length c.args.bytes.now) c.setting_of.ensures c.is_racked.ensures c.lists_fit.ensures c.if-not-lists_fit.false l (sym (λ i. stored_length (c.setting_of.ensures i) (c.is_racked.ensures i))) in
    record { fits = omega (arith, within (setting_from (get_or c.in_ok-head.head 29 0)) (is_racked c.in_ok-head.head) (length c.args.mode_s.now) (length c.args.mode_ac.now) (length c.args.memory.now) (length c.args.rack_memory.now) (length c.args.bytes.now) f.0 f.1, small (setting_from (get_or c.in_ok-head.head 29 0)) (is_racked c.in_ok-head.head) (length c.args.mode_s.now) (length c.args.mode_ac.now) (length c.args.memory.now) (length c.args.rack_memory.now) (length c.args.bytes.now) f.0 f.1) }

pub overflow_add-rack_place : goal.overflow_add-rack_place
overflow_add-rack_place c =
    let s = setting_from (get_or c.in_ok-head.head 29 0) in
    let l = long c.args.bytes.now c.head_of.result c.in_ok-head.head c.in_ok-head.was c.head_of.ensures.1 in
    let f = tested s (length c.args.mode_s.now) (length c.args.mode_ac.now) (length c.args.memory.now) (length c.args.rack_memory.now) (length c.args.bytes.now) c.setting_of.ensures c.is_racked.ensures c.lists_fit.ensures c.if-not-lists_fit.false l (sym (λ i. stored_length (c.setting_of.ensures i) (c.is_racked.ensures i))) in
    record { fits = omega (arith, within (setting_from (get_or c.in_ok-head.head 29 0)) (is_racked c.in_ok-head.head) (length c.args.mode_s.now) (length c.args.mode_ac.now) (length c.args.memory.now) (length c.args.rack_memory.now) (length c.args.bytes.now) f.0 f.1, small (setting_from (get_or c.in_ok-head.head 29 0)) (is_racked c.in_ok-head.head) (length c.args.mode_s.now) (length c.args.mode_ac.now) (length c.args.memory.now) (length c.args.rack_memory.now) (length c.args.bytes.now) f.0 f.1) }

pub floats_at-requires : goal.floats_at-requires
floats_at-requires c =
    let s = setting_from (get_or c.in_ok-head.head 29 0) in
    let l = long c.args.bytes.now c.head_of.result c.in_ok-head.head c.in_ok-head.was c.head_of.ensures.1 in
    let f = tested s (length c.args.mode_s.now) (length c.args.mode_ac.now) (length c.args.memory.now) (length c.args.rack_memory.now) (length c.args.bytes.now) c.setting_of.ensures c.is_racked.ensures c.lists_fit.ensures c.if-not-lists_fit.false l (sym (λ i. stored_length (c.setting_of.ensures i) (c.is_racked.ensures i))) in
    omega (arith, within (setting_from (get_or c.in_ok-head.head 29 0)) (is_racked c.in_ok-head.head) (length c.args.mode_s.now) (length c.args.mode_ac.now) (length c.args.memory.now) (length c.args.rack_memory.now) (length c.args.bytes.now) f.0 f.1)

pub floats_at-requires-2 : goal.floats_at-requires-2
floats_at-requires-2 c =
    let s = setting_from (get_or c.in_ok-head.head 29 0) in
    let l = long c.args.bytes.now c.head_of.result c.in_ok-head.head c.in_ok-head.was c.head_of.ensures.1 in
    let f = tested s (length c.args.mode_s.now) (length c.args.mode_ac.now) (length c.args.memory.now) (length c.args.rack_memory.now) (length c.args.bytes.now) c.setting_of.ensures c.is_racked.ensures c.lists_fit.ensures c.if-not-lists_fit.false l (sym (λ i. stored_length (c.setting_of.ensures i) (c.is_racked.ensures i))) in
    omega (arith, within (setting_from (get_or c.in_ok-head.head 29 0)) (is_racked c.in_ok-head.head) (length c.args.mode_s.now) (length c.args.mode_ac.now) (length c.args.memory.now) (length c.args.rack_memory.now) (length c.args.bytes.now) f.0 f.1)

pub floats_at-requires-3 : goal.floats_at-requires-3
floats_at-requires-3 c =
    let s = setting_from (get_or c.in_ok-head.head 29 0) in
    let l = long c.args.bytes.now c.head_of.result c.in_ok-head.head c.in_ok-head.was c.head_of.ensures.1 in
    let f = tested s (length c.args.mode_s.now) (length c.args.mode_ac.now) (length c.args.memory.now) (length c.args.rack_memory.now) (length c.args.bytes.now) c.setting_of.ensures c.is_racked.ensures c.lists_fit.ensures c.if-not-lists_fit.false l (sym (λ i. stored_length (c.setting_of.ensures i) (c.is_racked.ensures i))) in
    omega (arith, within (setting_from (get_or c.in_ok-head.head 29 0)) (is_racked c.in_ok-head.head) (length c.args.mode_s.now) (length c.args.mode_ac.now) (length c.args.memory.now) (length c.args.rack_memory.now) (length c.args.bytes.now) f.0 f.1)

pub overflow_add-rack_place-2 : goal.overflow_add-rack_place-2
overflow_add-rack_place-2 c =
    let s = setting_from (get_or c.in_ok-head.head 29 0) in
    let l = long c.args.bytes.now c.head_of.result c.in_ok-head.head c.in_ok-head.was c.head_of.ensures.1 in
    let f = tested s (length c.args.mode_s.now) (length c.args.mode_ac.now) (length c.args.memory.now) (length c.args.rack_memory.now) (length c.args.bytes.now) c.setting_of.ensures c.is_racked.ensures c.lists_fit.ensures c.if-not-lists_fit.false l (sym (λ i. stored_length (c.setting_of.ensures i) (c.is_racked.ensures i))) in
    record { fits = omega (arith, within (setting_from (get_or c.in_ok-head.head 29 0)) (is_racked c.in_ok-head.head) (length c.args.mode_s.now) (length c.args.mode_ac.now) (length c.args.memory.now) (length c.args.rack_memory.now) (length c.args.bytes.now) f.0 f.1, small (setting_from (get_or c.in_ok-head.head 29 0)) (is_racked c.in_ok-head.head) (length c.args.mode_s.now) (length c.args.mode_ac.now) (length c.args.memory.now) (length c.args.rack_memory.now) (length c.args.bytes.now) f.0 f.1) }

pub floats_at-requires-4 : goal.floats_at-requires-4
floats_at-requires-4 c =
    let s = setting_from (get_or c.in_ok-head.head 29 0) in
    let l = long c.args.bytes.now c.head_of.result c.in_ok-head.head c.in_ok-head.was c.head_of.ensures.1 in
    let f = tested s (length c.args.mode_s.now) (length c.args.mode_ac.now) (length c.args.memory.now) (length c.args.rack_memory.now) (length c.args.bytes.now) c.setting_of.ensures c.is_racked.ensures c.lists_fit.ensures c.if-not-lists_fit.false l (sym (λ i. stored_length (c.setting_of.ensures i) (c.is_racked.ensures i))) in
    rack_room (setting_from (get_or c.in_ok-head.head 29 0)) (is_racked c.in_ok-head.head) (length c.args.mode_s.now) (length c.args.mode_ac.now) (length c.args.memory.now) (length c.args.rack_memory.now) (length c.args.bytes.now) f.0 f.1

pub restored_of-requires : goal.restored_of-requires
restored_of-requires c =
    let s = setting_from (get_or c.in_ok-head.head 29 0) in
    let l = long c.args.bytes.now c.head_of.result c.in_ok-head.head c.in_ok-head.was c.head_of.ensures.1 in
    let f = tested s (length c.args.mode_s.now) (length c.args.mode_ac.now) (length c.args.memory.now) (length c.args.rack_memory.now) (length c.args.bytes.now) c.setting_of.ensures c.is_racked.ensures c.lists_fit.ensures c.if-not-lists_fit.false l (sym (λ i. stored_length (c.setting_of.ensures i) (c.is_racked.ensures i))) in
    (f.1, place_is (setting_from (get_or c.in_ok-head.head 29 0)) (is_racked c.in_ok-head.head) (length c.args.mode_s.now) (length c.args.mode_ac.now) (length c.args.memory.now) (length c.args.rack_memory.now) (length c.args.bytes.now) f.0 f.1)

pub returns : goal.returns
returns c =
    let s = setting_from (get_or c.in_ok-head.head 29 0) in
    let l = long c.args.bytes.now c.head_of.result c.in_ok-head.head c.in_ok-head.was c.head_of.ensures.1 in
    let f = tested s (length c.args.mode_s.now) (length c.args.mode_ac.now) (length c.args.memory.now) (length c.args.rack_memory.now) (length c.args.bytes.now) c.setting_of.ensures c.is_racked.ensures c.lists_fit.ensures c.if-not-lists_fit.false l (sym (λ i. stored_length (c.setting_of.ensures i) (c.is_racked.ensures i))) in
    let lent : Lent = record { mode_s = c.args.mode_s.now; mode_ac = c.args.mode_ac.now; memory = c.args.memory.now; rack_memory = c.args.rack_memory.now } in
    taken c.args.bytes.now c.in_ok-head.head lent f.0 f.1 (sym c.head_of.ensures.0 ∙ c.in_ok-head.was) c.restored_of.ensures (filled c.args.bytes.now c.in_ok-head.head lent f.0 f.1 c.floats_at.ensures c.floats_at-2.ensures c.floats_at-3.ensures c.floats_at-4.ensures)
