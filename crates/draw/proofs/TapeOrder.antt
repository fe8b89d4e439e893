-- A draw's fault is its first field out of range, counted from 0 in the order of the tape, the 14 bytes being one field (`in_order`), whatever the draw.
use Rattle.std.specs.Prelude.{Option, Some, None}
use Prim.Native.Nat.{ℕ, suc}
use mathlib.Core.Path.{◌≡◌, refl, sym, ◌∙◌, subst}
use mathlib.Core.Bool.{Bool, true, false}
use mathlib.Core.List.{List, [], ◌∷◌}
use native.Mathlib.Omega.{arith}
use lib.Dec.{T}
use lib.Ieee.Scale.{finite}
use Rattle.distributions.specs.Accepted.{finite_not_negative}
use Rattle.distributions.specs.Drawn.{offset_draw_fits, phase_draw_fits}
use Rattle.message.specs.declared.MessageType.{MessageType}
use Rattle.message.specs.declared.Picks.{Picks}
use Rattle.message.specs.Types.{type_numbered}
use Rattle.message.specs.Making.{formats, subfields, pick_fits, format_of, overlay_fits, mode_ac_fits, checked, field_fault}
use Rattle.settings.specs.declared.Distributions.{Distributions}
use Rattle.settings.specs.declared.MessagesPerSecond.{MessagesPerSecond}
use Rattle.draw.specs.declared.Draw.{Draw}
use Rattle.draw.specs.Config.{type_drawn}
use Rattle.draw.specs.Fault.{type_fits, amplitude_fits, clock_fits, message_fault, parameter_fault, draw_fault}
use Rattle.draw.proofs.InRange.{rated_known}

-- the first that is false, counted from k
abbrev pub first_false : ℕ → List Bool → Option ℕ
first_false k [] = None
first_false k (b ∷ bs) = checked k b (first_false (suc k) bs)

-- whether fields 7 to 12 are in range for a type, in the order of the tape; field 10, the 14 bytes, always is
abbrev pub picks_fit : Picks → MessageType → List Bool
picks_fit p t =
    pick_fits (formats t) p.format
    ∷ pick_fits (subfields t (format_of t p)) p.capability
    ∷ overlay_fits t p.overlay
    ∷ true
    ∷ mode_ac_fits t p.«data» 4096
    ∷ mode_ac_fits t p.spi 2
    ∷ []

-- whether each field is in range
abbrev pub fields_fit : MessagesPerSecond → Distributions → Draw → MessageType → List Bool
fields_fit rates all d t =
    finite_not_negative d.gap
    ∷ type_fits rates d.kind
    ∷ finite d.cn0
    ∷ amplitude_fits d.amplitude
    ∷ offset_draw_fits all.carrier d.carrier
    ∷ phase_draw_fits all.phase d.phase
    ∷ clock_fits all d.kind d.clock
    ∷ picks_fit d.picks t

module _ (rates : MessagesPerSecond) (all : Distributions) (d : Draw) where
  -- fields 0 to 6, and then what comes of the message's
  abbrev before : Bool → Option ℕ → Option ℕ
  before b message =
      checked 0 (finite_not_negative d.gap)
      (checked 1 b
      (checked 2 (finite d.cn0)
      (checked 3 (amplitude_fits d.amplitude)
      (checked 4 (offset_draw_fits all.carrier d.carrier)
      (checked 5 (phase_draw_fits all.phase d.phase) (checked 6 (clock_fits all d.kind d.clock) message))))))

  -- a type that is not known has no rate above 0
  unknown_unrated : type_numbered d.kind ≡ None → type_fits rates d.kind ≡ false
  unfolding type_fits
  unknown_unrated u = go (type_fits rates d.kind) refl
    where
      go : (b : Bool) → type_fits rates d.kind ≡ b → b ≡ false
      go false e = refl
      go true e =
          let k = rated_known rates d.kind (subst T (sym e) tt) in
          let s : Some k.0 ≡ None = sym k.1 ∙ u in
          let z : ◌≡◌ {A = ℕ} 0 1 = cc in
          absurd (omega arith)

  by_type : (f : Option MessageType) → type_numbered d.kind ≡ f → before (type_fits rates d.kind) (message_fault f d) ≡ first_false 0 (fields_fit rates all d (type_drawn f))
  unfolding message_fault field_fault type_drawn
  by_type (Some t) e = refl
  by_type None e = refused (type_fits rates d.kind) (unknown_unrated e) None (first_false 7 (picks_fit d.picks (type_drawn None)))
    where
      refused : (b : Bool) → b ≡ false → (m n : Option ℕ) → before b m ≡ before b n
      refused true e m n = let z : ◌≡◌ {A = ℕ} 0 1 = cc in absurd (omega arith)
      refused false e m n = refl

  pub in_order_lem : draw_fault rates all d ≡ first_false 0 (fields_fit rates all d (type_drawn (type_numbered d.kind)))
  unfolding draw_fault parameter_fault
  in_order_lem = by_type (type_numbered d.kind) refl
