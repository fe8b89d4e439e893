-- A draw that bytes can hold is its fields: two with the same fields are the same (`same-draw`), so asking that the numbers are values of their formats distinguishes no more draws.
use mathlib.Core.Path.{◌≡◌, ap, subst}
use lib.Dec.{T, T_prop}
use lib.Ieee.{binary32, binary64, fits}
use Rattle.draw.specs.declared.Draw.{Draw}
use Rattle.draw.specs.Draw.{Representable}
use Rattle.run_generator.specs.Instance.{RepresentableDraw}

module _ (d : Draw) where
  abbrev holds : T (fits binary64 d.gap) → T (fits binary64 d.cn0) → T (fits binary32 d.amplitude) → T (fits binary64 d.carrier) → T (fits binary64 d.phase) → T (fits binary64 d.clock) → Representable d
  holds a b c e f g = record { gap = a; cn0 = b; amplitude = c; carrier = e; phase = f; clock = g }

  held_same : (h k : Representable d) → h ≡ k
  held_same h k =
      let a : h.gap ≡ k.gap = T_prop (fits binary64 d.gap) h.gap k.gap in
      let b : h.cn0 ≡ k.cn0 = T_prop (fits binary64 d.cn0) h.cn0 k.cn0 in
      let c : h.amplitude ≡ k.amplitude = T_prop (fits binary32 d.amplitude) h.amplitude k.amplitude in
      let e : h.carrier ≡ k.carrier = T_prop (fits binary64 d.carrier) h.carrier k.carrier in
      let f : h.phase ≡ k.phase = T_prop (fits binary64 d.phase) h.phase k.phase in
      let g : h.clock ≡ k.clock = T_prop (fits binary64 d.clock) h.clock k.clock in
      let z : holds h.gap h.cn0 h.amplitude h.carrier h.phase h.clock ≡ holds k.gap k.cn0 k.amplitude k.carrier k.phase k.clock = cc in
      z

abbrev holding : (d : Draw) → Representable d → RepresentableDraw
holding d h = record { draw = d; held = h }

pub same_draw : (d d' : RepresentableDraw) → d.draw ≡ d'.draw → d ≡ d'
same_draw d d' e = subst (λ (x : Draw). (k : Representable x) → d ≡ holding x k) e (λ k. ap (holding d.draw) (held_same d.draw d.held k)) d'.held
