-- `feed_section` is safe, ends, and feeds its run noise that is cut as tape_theory/specs/PlainTape asks.
use Prim.Native.Nat.{zero-le}
use mathlib.Core.Bool.{Bool, true, false, cond}
use mathlib.Core.Logic.{inl, inr}
use mathlib.Core.Path.{◌≡◌, refl, sym, ap, ◌∙◌, subst}
use native.Mathlib.Omega.{arith}
use borrow.Author.Tests.{lt-ltb, le-ltb}
use Rattle.tape_theory.proofs.Section.{going_first, Turned, turned, next_step}
use Rattle.tape_run.proofs.LastStep.{last_step}
use Rattle.tape_feed.specs.Verdict.{is_cut_short}
use Rattle.tape_run.proofs.feed_section.Goals as goal

-- a step that is cut short by its samples is so whatever it read
either_way : (b : Bool) → true ≡ cond b true true
either_way true = refl
either_way false = refl

pub loop-e-init : goal.loop-e-init
loop-e-init c = (zero-le, zero-le, refl, refl, inl refl, going_first _ _ _ _ _)

pub loop-e-preserved : goal.loop-e-preserved
loop-e-preserved c =
    let t = turned c.read_values-n.result c.loop-e.want _ _ c.min-want.result 1 false false c.read_values-n.ensures.1 c.loop-e.invariant.4 c.loop-e.invariant.0 (sym (ap (λ (b : Bool). cond b true false) (le-ltb _ _ c.if-n-want.false))) c.saturating_sub-left.ensures c.min-want.ensures (omega (arith, c.if-want-eq0.false)) in (
      omega (arith, c.min-want.ensures),
      omega (arith, c.min-want.ensures),
      c.feed_noise-f.auto.memory ∙ c.loop-e.invariant.2,
      c.feed_noise-f.auto.records ∙ c.loop-e.invariant.3,
      inr (omega (arith, c.min-want.ensures)),
      next_step _ _ _ _ _ _ _ _ _ c.loop-e.want c.read_values-n.result _ _ _ _ _ _ _ _ _ _ _ c.loop-e.invariant.5 (omega arith) refl c.read_values-n.ensures.0 c.read_values-n.ensures.1
          c.loop-e.invariant.1 refl t c.feed_noise-f.ensures,
    )

pub returns-in-Err : goal.returns-in-Err
unfolding is_cut_short
returns-in-Err c =
    let t = turned c.read_values-n.result c.loop-e.want c.loop-e.left 0 0 0 true true c.read_values-n.ensures.1 c.loop-e.invariant.4 c.loop-e.invariant.0 (either_way _) refl refl refl in
    last_step _ _ _ c.loop-e.invariant.5 refl c.read_values-n.ensures.0 c.read_values-n.ensures.1 c.loop-e.invariant.1 t c.feed_noise-f.ensures

pub returns-then-n-want : goal.returns-then-n-want
unfolding is_cut_short
returns-then-n-want c =
    let t = turned c.read_values-n.result c.loop-e.want c.loop-e.left 0 0 0 false true c.read_values-n.ensures.1 c.loop-e.invariant.4 c.loop-e.invariant.0 (sym (ap (λ (b : Bool). cond b true false) (lt-ltb _ _ c.if-n-want.true))) refl refl refl in
    last_step _ _ _ c.loop-e.invariant.5 refl c.read_values-n.ensures.0 c.read_values-n.ensures.1 c.loop-e.invariant.1 t c.feed_noise-f.ensures

pub returns-then-want-eq0 : goal.returns-then-want-eq0
returns-then-want-eq0 c =
    let t = turned c.read_values-n.result c.loop-e.want _ _ c.min-want.result 0 false false c.read_values-n.ensures.1 c.loop-e.invariant.4 c.loop-e.invariant.0 (sym (ap (λ (b : Bool). cond b true false) (le-ltb _ _ c.if-n-want.false))) c.saturating_sub-left.ensures c.min-want.ensures (omega (arith, c.if-want-eq0.true)) in
    last_step _ _ _ c.loop-e.invariant.5 refl c.read_values-n.ensures.0 c.read_values-n.ensures.1 c.loop-e.invariant.1
    (subst (λ (b : Bool). Turned c.read_values-n.result c.loop-e.want c.loop-e.left c.saturating_sub-left.result 0 b) (sym c.end_of_whole-end.ensures) t) c.feed_noise-f.ensures
