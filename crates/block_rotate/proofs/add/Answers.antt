-- `add` meets its contract.
use Rattle.std.proofs.Common.{◌≡◌, ℕ, ◌-◌, ◌<◌, ◌≤◌, min, sym, ap, ◌∙◌, subst, arith}
use Rattle.constants.specs.Setting.{per_pulse}
use Rattle.constants.specs.Rate.{ring_slots}
use Rattle.block_rotate.proofs.Blocks.{block_added, samples_length, first_bounds, second_bounds}
use Rattle.block_rotate.proofs.add.Goals as goal

pub add_stretch-requires : goal.add_stretch-requires
add_stretch-requires c =
    let w = ring_slots (per_pulse c.args.setting) in
    let k : c.min-m.result ≡ min c.min-n.result (w - c.args.slot) = c.min-m.ensures ∙ ap (λ (x : ℕ). min c.min-n.result (x - c.args.slot)) c.ring_slots-2.ensures.0 in
    let h : c.args.slot < w = subst (λ (x : ℕ). c.args.slot < x) c.ring_slots.ensures.0 c.if-slot-ring_slots.false in
    first_bounds c.min-n.result _ w c.args.slot c.min-m.result _ c.min-n.ensures k h (c.if-memory-memory_len.false ∙ c.memory_len.ensures)

pub add_stretch-requires-2 : goal.add_stretch-requires-2
add_stretch-requires-2 c =
    let w = ring_slots (per_pulse c.args.setting) in
    let k : c.min-m.result ≡ min c.min-n.result (w - c.args.slot) = c.min-m.ensures ∙ ap (λ (x : ℕ). min c.min-n.result (x - c.args.slot)) c.ring_slots-2.ensures.0 in
    let h : 1126 ≤ w = subst (λ (x : ℕ). 1126 ≤ x) c.ring_slots.ensures.0 c.ring_slots.ensures.1 in
    second_bounds c.min-n.result _ w c.args.slot _ c.min-m.result _ c.min-n.ensures k (c.add_stretch.ensures.1 ∙ c.if-memory-memory_len.false ∙ c.memory_len.ensures) (omega (arith, h))

pub returns : goal.returns
returns c =
    let a = c.args in
    let w = ring_slots (per_pulse a.setting) in
    let k : c.min-m.result ≡ min c.min-n.result (w - a.slot) = c.min-m.ensures ∙ ap (λ (x : ℕ). min c.min-n.result (x - a.slot)) c.ring_slots-2.ensures.0 in
    let h : a.slot < w = subst (λ (x : ℕ). a.slot < x) c.ring_slots.ensures.0 c.if-slot-ring_slots.false in
    let g : 1126 ≤ w = subst (λ (x : ℕ). 1126 ≤ x) c.ring_slots.ensures.0 c.ring_slots.ensures.1 in
    let long = samples_length a.amplitude a.values.now a.carriers.now ∙ (λ t. min (c.told-values t) (c.told-carriers t)) in
    block_added (per_pulse a.setting) a.memory.now c.add_stretch.new.memory c.add_stretch-2.new.memory a.slot c.min-n.result a.n c.min-m.result _ _ c.rotate.ensures
    (c.min-n.ensures ∙ sym (ap (min a.n) long))
    k (small c.min-n.result _ w c.min-n.ensures g) (c.if-memory-memory_len.false ∙ c.memory_len.ensures) h c.add_stretch.ensures.0 c.add_stretch-2.ensures.0
  where
    small : (n v w : ℕ) → n ≡ min v 32 → 1126 ≤ w → n ≤ w
    small n v w e h = omega arith
