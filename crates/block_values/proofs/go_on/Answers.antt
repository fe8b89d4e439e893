-- A sample leaves as much to write as there was before it, less the sample: whether the carrier is wrapped here or by the caller.
use Rattle.std.proofs.Common.{◌≡◌, ◌+◌, ◌-◌, arith, refl, sym, true, false}
use Rattle.filterbank.specs.Clocked.{advance, in64}
use Rattle.block_values.proofs.Filled.{clock_of, clock_on, clock_stays, goes_on}
use Rattle.block_values.proofs.go_on.Goals as goal
use Rattle.block_values.proofs.go_on.Goals.{After-is_beyond, then-phase+else-index-pace, else-phase}

-- the clock, whichever branch it took
moved : (c : After-is_beyond) → clock_of c.if-phase.phase c.if-phase.index ≡ in64 (advance c.args.pace.step (clock_of c.loop-i.phase c.loop-i.index))
moved c = elim c.if-phase.branch [
  | then-phase+else-index-pace w ↦ rw (w.phase-is, w.index-is) (clock_on c.args.pace.step c.loop-i.phase c.loop-i.index w.if-phase.true)
  | else-phase w ↦ rw (w.phase-is, w.index-is) (clock_stays c.args.pace.step c.loop-i.phase c.loop-i.index (omega arith) w.if-phase.false)
]

pub loop-i-preserved : goal.loop-i-preserved
loop-i-preserved c =
    let still = c.is_beyond.ensures c.if-is_beyond.false in
    record {
      from = omega arith;
      within = omega arith;
      below = elim c.if-phase.branch [ then-phase+else-index-pace w ↦ omega arith | else-phase w ↦ omega arith ];
      idle = λ h. still;
      rest = goes_on c.args.pace c.args.most _ _ _ _ _ (omega arith) (omega arith) (moved c.before) (sym still) c.loop-i.invariant.rest;
    }

pub returns-then-index-pace-clause-rest : goal.returns-then-index-pace-clause-rest
returns-then-index-pace-clause-rest c =
    goes_on c.args.pace c.args.most _ _ _ _ _ (omega arith) (omega arith) (clock_on c.args.pace.step c.loop-i.phase c.loop-i.index c.if-phase.true) refl c.loop-i.invariant.rest

pub returns-then-is_beyond-clause-rest : goal.returns-then-is_beyond-clause-rest
returns-then-is_beyond-clause-rest c = goes_on c.args.pace c.args.most _ _ _ _ _ (omega arith) (omega arith) (moved c.before) refl c.loop-i.invariant.rest
