-- A distribution that is refused is refused with its own number: 0 for the carrier offset, 1 for the phase, 2 for the clock error.
use Rattle.std.specs.Prelude.{Result, Ok, Err}
use Prim.Native.Nat.{ℕ, zero, suc}
use mathlib.Core.Path.{◌≡◌}
use mathlib.Core.Bool.{Bool, true, false, ◌&&◌, cond}
use lib.Ieee.Scale.{finite}
use Rattle.floats.specs.Range.{within}
use Rattle.refusals.specs.declared.Refusal.{Refusal}
use Rattle.refusals.specs.declared.Refusal.TheVariants.{Distribution}
use Rattle.distributions.specs.declared.RawDistribution.{RawDistribution}
use Rattle.distributions.specs.Accepted.{up_to, finite_not_negative, offset_limit, tenth, by_kind, clamped_normal, carrier_offset, carrier_phase, clock_error}

module _ {A : Type 0} (z q : Refusal) where
  by_test : (b : Bool) (x : A) → cond b (Ok x) (Err z) ≡ Err q → q ≡ z
  by_test true x e = cc
  by_test false x e = cc

  by_kinds : (k : ℕ) (a b : Result A Refusal) → (a ≡ Err q → q ≡ z) → (b ≡ Err q → q ≡ z) → by_kind k a b (Err z) ≡ Err q → q ≡ z
  unfolding by_kind
  by_kinds zero a b f g e = f e
  by_kinds (suc zero) a b f g e = g e
  by_kinds (suc (suc k)) a b f g e = cc

pub offset_refused : (sps : ℕ) (d : RawDistribution) (q : Refusal) → carrier_offset sps d ≡ Err q → q ≡ Distribution 0
unfolding carrier_offset clamped_normal
offset_refused sps d q =
    by_kinds (Distribution 0) q d.kind _ _ (by_test (Distribution 0) q (within d.first (offset_limit sps)) _)
    (by_test (Distribution 0) q (finite_not_negative d.first && up_to d.second (offset_limit sps)) _)

pub phase_refused : (d : RawDistribution) (q : Refusal) → carrier_phase d ≡ Err q → q ≡ Distribution 1
unfolding carrier_phase
phase_refused d q = by_kinds (Distribution 1) q d.kind _ _ (by_test (Distribution 1) q (finite d.first) _) (λ e. cc)

pub clock_refused : (d : RawDistribution) (q : Refusal) → clock_error d ≡ Err q → q ≡ Distribution 2
unfolding clock_error
clock_refused d q =
    by_kinds (Distribution 2) q d.kind _ _ (by_test (Distribution 2) q (within d.first tenth) _) (by_test (Distribution 2) q (up_to d.first tenth) _)
