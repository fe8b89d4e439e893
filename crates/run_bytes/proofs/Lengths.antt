-- The lengths of a run's lists and of its bytes, as sums (`total`), where the lists have the lengths that the setting asks for.
use Prim.Native.Nat.{ℕ, ◌+◌, ◌-◌, ◌*◌, ◌≤◌}
use mathlib.Core.Path.{◌≡◌, refl, sym, ◌∙◌, subst}
use mathlib.Core.Bool.{Bool, true, false, ◌&&◌, cond}
use native.Mathlib.Omega.{arith}
use lib.Dec.{lit≤, eqb}
use borrow.Author.Tests.{eqb-true}
use Rattle.constants.specs.declared.SamplesPerPulse.{SamplesPerPulse}
use Rattle.constants.specs.declared.SamplesPerPulse.TheVariants.{Four, Eight}
use Rattle.constants.specs.Rate.{prototype_length, working_memory}
use Rattle.constants.specs.Setting.{per_pulse}
use Rattle.run_bytes.specs.Layout.{stored_length, lists_fit}
use Rattle.run_bytes.specs.Reading.{rack_place, memory_place, mode_ac_place}

pub false-true : ◌≡◌ {A = Bool} false true → ⊥
false-true e = cc

pub both : (a b : Bool) → a && b ≡ true → (a ≡ true) × (b ≡ true)
both true b e = (refl, e)
both false b e = absurd (false-true e)

-- a run has some bytes, and not many
pub few : (setting : SamplesPerPulse) (racked : Bool) → (256 ≤ stored_length setting racked) × (stored_length setting racked ≤ 131072)
unfolding stored_length
few Four false = (lit≤ tt, lit≤ tt)
few Four true = (lit≤ tt, lit≤ tt)
few Eight false = (lit≤ tt, lit≤ tt)
few Eight true = (lit≤ tt, lit≤ tt)

-- where a rack stands there is room for it
pub rack_inside : (setting : SamplesPerPulse) (racked : Bool) (n at : ℕ) → racked ≡ true → n ≡ stored_length setting racked → at ≡ rack_place setting → (at + 208 ≤ n) × (n ≤ 131072)
unfolding stored_length rack_place memory_place
rack_inside Four true n at t e p = (omega (arith, e, p), omega (arith, e))
rack_inside Eight true n at t e p = (omega (arith, e, p), omega (arith, e))
rack_inside s false n at t e p = absurd (false-true t)

-- lists of these lengths, in bytes of this length
module _ (setting : SamplesPerPulse) (racked : Bool) (a b m k n : ℕ) (h : lists_fit setting racked a b m k ≡ true) (l : n ≡ stored_length setting racked) where
  pub lengths : ((a ≡ prototype_length (per_pulse setting)) × (b ≡ prototype_length (per_pulse setting))) × ((m ≡ working_memory (per_pulse setting)) × (k ≡ cond racked 8190 0))
  unfolding lists_fit
  lengths =
      let p = prototype_length (per_pulse setting) in
      let w = working_memory (per_pulse setting) in
      let e₁ = both (eqb a p && eqb b p && eqb m w) (eqb k (cond racked 8190 0)) h in
      let e₂ = both (eqb a p && eqb b p) (eqb m w) e₁.0 in
      let e₃ = both (eqb a p) (eqb b p) e₂.0 in
      ((eqb-true a p e₃.0, eqb-true b p e₃.1), (eqb-true m w e₂.1, eqb-true k (cond racked 8190 0) e₁.1))

  pub total : n ≡ 256 + 4 * a + 4 * b + 4 * m + cond racked (208 + 4 * k) 0
  unfolding stored_length
  total = go racked lengths.1.1 l
    where
      go : (r : Bool) → k ≡ cond r 8190 0 → n ≡ stored_length setting r → n ≡ 256 + 4 * a + 4 * b + 4 * m + cond r (208 + 4 * k) 0
      go true e q = let f = lengths in omega (arith, e, q, f.0.0, f.0.1, f.1.0)
      go false e q = let f = lengths in omega (arith, e, q, f.0.0, f.0.1, f.1.0)

  pub some : 256 ≤ n
  some = subst (λ (x : ℕ). 256 ≤ x) (sym l) (few setting racked).0

  pub small : n ≤ 131072
  small = subst (λ (x : ℕ). x ≤ 131072) (sym l) (few setting racked).1

  pub within : 256 + 4 * a + 4 * b + 4 * m ≤ n
  within = omega (arith, total)

  pub rack_room : 4 * k ≤ n - (240 + 4 * a + 4 * b + 4 * m + 208)
  rack_room = go racked lengths.1.1 total
    where
      go : (r : Bool) → k ≡ cond r 8190 0 → n ≡ 256 + 4 * a + 4 * b + 4 * m + cond r (208 + 4 * k) 0 → 4 * k ≤ n - (240 + 4 * a + 4 * b + 4 * m + 208)
      go true e q = omega (arith, e, q)
      go false e q = omega (arith, e, q)

  pub place_is : 240 + 4 * a + 4 * b + 4 * m ≡ rack_place setting
  unfolding rack_place memory_place
  place_is = let f = lengths in omega (arith, f.0.0, f.0.1, f.1.0)

  pub memory_place_is : 240 + 4 * a + 4 * b ≡ memory_place setting
  unfolding memory_place
  memory_place_is = let f = lengths in omega (arith, f.0.0, f.0.1)

  pub mode_ac_place_is : 240 + 4 * a ≡ mode_ac_place setting
  unfolding mode_ac_place
  mode_ac_place_is = let f = lengths in omega (arith, f.0.0)

-- the same lengths, where whether there is a rack was worked out before
pub tested : (setting : SamplesPerPulse) (a b m k n : ℕ) {s : SamplesPerPulse} {r racked f : Bool} {v : ℕ} → s ≡ setting → r ≡ racked → f ≡ lists_fit s r a b m k → f ≡ true → n ≡ v → v ≡ stored_length s r
    → (lists_fit setting racked a b m k ≡ true) × (n ≡ stored_length setting racked)
tested setting a b m k n d e g t p q = (sym (λ i. lists_fit (d i) (e i) a b m k) ∙ sym g ∙ t, p ∙ q ∙ (λ i. stored_length (d i) (e i)))
