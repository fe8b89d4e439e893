-- A draw's field at fault is refused by the plain bench as `field_refusal` of `message` says, number and values: 7, the draw's place and the field (`field-refused`).
use Rattle.std.specs.Prelude.{Option, Some, None}
use Prim.Native.Nat.{ℕ}
use mathlib.Core.Path.{◌≡◌, refl}
use mathlib.Core.List.{List, ◌∷◌}
use Rattle.run_theory.specs.Generator.{Generator}
use Rattle.run_theory.specs.PlainBench as Bench
use Rattle.message.specs.Making.{field_refusal}
use Rattle.refusals.specs.declared.Refusal.{Refusal}
use Rattle.refusals.specs.Number.{number_of, values_of}

-- the number and values of what is refused, if anything is
abbrev pub returned : {R : Type 0} → (R → List ℕ) → Option R → Option (List ℕ)
returned numbers None = None
returned numbers (Some refusal) = Some (numbers refusal)

pub field_refused : (G : Generator) (draw : ℕ) (f : Option ℕ) → returned Bench.numbers (Bench.at_draw G draw f) ≡ returned (λ (q : Refusal). number_of q ∷ values_of q) (field_refusal draw f)
unfolding field_refusal number_of values_of
field_refused G draw None = refl
field_refused G draw (Some field) = refl
