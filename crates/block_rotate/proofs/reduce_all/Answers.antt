-- `reduce_all` meets its contract: it writes row by row.
use Rattle.std.proofs.Common.{Fits, w32, ◌+◌, ◌*◌, ◌≤◌, map, arith, ap, ◌∙◌}
use Rattle.std.proofs.lemmas.List.{map-id}
use Rattle.std.proofs.lemmas.Simd.{Each1-weaker, map-map}
use Rattle.math.specs.Carrier.{reduced, sine_sum, cosine_sum}
use Rattle.block_rotate.specs.BlockModel.{limits_above}
use Rattle.floats.proofs.Rows.{mapped_next, mapped_end}
use Rattle.block_rotate.proofs.Quarters.{turns_few}
use Rattle.block_rotate.proofs.reduce_all.Goals as goal

pub overflow_cast-turns : goal.overflow_cast-turns
overflow_cast-turns c = Each1-weaker (λ n. n ≤ 4) (Fits w32) (λ n h. record { fits = omega arith }) c.limits_above-n.result (turns_few _ c.limits_above-n.result c.limits_above-n.ensures)

pub loop-k-preserved : goal.loop-k-preserved
loop-k-preserved c =
    let l = c.loop-k in
    let p = c.args.phases.now in
    let fits : l.k * 8 + 8 ≤ 32 = omega arith in (
      mapped_next limits_above 8 32 p c.told-phases l.k l.turns _ l.invariant.0 fits (map-id c.limits_above-n.result ∙ c.limits_above-n.ensures),
      mapped_next (λ p. sine_sum (reduced p).r) 8 32 p c.told-phases l.k l.s _ l.invariant.1 fits (c.sines.ensures ∙ ap (map sine_sum) c.reduce-r.ensures ∙ map-map sine_sum (λ p. (reduced p).r) _),
      mapped_next (λ p. cosine_sum (reduced p).r) 8 32 p c.told-phases l.k l.c _ l.invariant.2 fits (c.cosines.ensures ∙ ap (map cosine_sum) c.reduce-r.ensures ∙ map-map cosine_sum (λ p. (reduced p).r) _),
    )

pub returns : goal.returns
returns c =
    let l = c.loop-k in
    let p = c.args.phases.now in (
      mapped_end limits_above 8 32 p c.told-phases l.k l.turns l.invariant.0 (omega arith),
      mapped_end (λ p. sine_sum (reduced p).r) 8 32 p c.told-phases l.k l.s l.invariant.1 (omega arith),
      mapped_end (λ p. cosine_sum (reduced p).r) 8 32 p c.told-phases l.k l.c l.invariant.2 (omega arith),
    )
