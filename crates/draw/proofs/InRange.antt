-- A draw has no fault just where each of its fields is in the range of SPECIFICATION 4.4 (`in-range`, `no-fault`); and a draw whose gap is not at fault has one that is finite and not negative (`gap-in-range`).
use Rattle.std.specs.Prelude.{Option, Some, None}
use Prim.Native.Nat.{ℕ, zero, suc}
use mathlib.Core.Path.{◌≡◌, refl, sym, ap, ◌∙◌, subst}
use mathlib.Core.Logic.{◌≢◌}
use mathlib.Core.Bool.{Bool, true, false, cond}
use lib.Dec.{T, eqb, eqb→eq}
use borrow.Author.Tests.{eq-eqb}
use lib.Ieee.{Float, binary32, binary64, of_bits, le, lt}
use lib.Ieee.Fits.{and_i, and_l, and_r}
use lib.Ieee.Scale.{finite}
use Rattle.floats.specs.Range.{within}
use Rattle.distributions.specs.Accepted.{finite_not_negative, tenth}
use Rattle.distributions.specs.Drawn.{error_of, offset_draw_fits, phase_draw_fits, clock_draw_fits}
use Rattle.message.specs.declared.MessageType.{MessageType}
use Rattle.message.specs.declared.MessageType.TheVariants.{
  ExtendedSquitter,
  AcquisitionSquitter,
  ShortAp,
  AllCallReply,
  LongAp,
  MilitaryExtendedSquitter,
  ModeAc,
}
use Rattle.message.specs.declared.Picks.{Picks}
use Rattle.message.specs.declared.ReplyKind.TheVariants.{ModeAc as ModeAcKind}
use Rattle.message.specs.Types.{type_numbered}
use Rattle.message.specs.Making.{formats, subfields, pick_fits, format_of, overlay_fits, mode_ac_fits, checked, field_fault}
use Rattle.message.proofs.InRange.{fits, later_fits}
use Rattle.message_config.specs.Timing.{filter_clock_error}
use Rattle.settings.specs.declared.Distributions.{Distributions}
use Rattle.settings.specs.declared.MessagesPerSecond.{MessagesPerSecond}
use Rattle.settings.specs.Settings.{rates_of, rate_of}
use Rattle.draw.specs.declared.Draw.{Draw}
use Rattle.draw.specs.Fault.{type_fits, amplitude_fits, mode_ac_limit, clock_fits, message_fault, parameter_fault, draw_fault}

-- fields 7, 8, 9, 11 and 12; those that the type does not use are in range whatever they are, and so is field 10, the 14 bytes
pub record PicksInRange (t : MessageType) (p : Picks) : Type 0 where
  pub format : T (pick_fits (formats t) p.format)
  pub capability : T (pick_fits (subfields t (format_of t p)) p.capability)
  pub overlay : T (overlay_fits t p.overlay)
  pub mode_ac_data : T (mode_ac_fits t p.«data» 4096)
  pub spi : T (mode_ac_fits t p.spi 2)

-- every field of a draw, in the order of the tape
pub record InRange (rates : MessagesPerSecond) (all : Distributions) (d : Draw) : Type 0 where
  pub gap : T (finite_not_negative d.gap)
  pub message_type : MessageType
  pub known : type_numbered d.kind ≡ Some message_type
  pub rate : T (lt (of_bits binary64 0) (rate_of rates d.kind))
  pub cn0 : T (finite d.cn0)
  pub amplitude_from : T (le (of_bits binary32 0) d.amplitude)
  pub amplitude_to : T (le d.amplitude (of_bits binary32 0x4980_0000))
  pub carrier : T (offset_draw_fits all.carrier d.carrier)
  pub phase : T (phase_draw_fits all.phase d.phase)
  pub clock : T (clock_draw_fits all.clock d.clock)
  pub mode_ac_limit_lem : d.kind ≡ 6 → T (within (filter_clock_error ModeAcKind (error_of all.clock d.clock)) tenth)
  pub picks : PicksInRange message_type d.picks

-- ---- one field
passes : (field : ℕ) (b : Bool) (rest : Option ℕ) → T b → checked field b rest ≡ rest
passes field true rest t = refl
passes field false rest t = absurd t

-- a field that is not the one at fault, with nothing looked at before it
not_wrong : (field : ℕ) (b : Bool) (rest : Option ℕ) → checked field b rest ≢ Some field → T b
not_wrong field true rest h = tt
not_wrong field false rest h = h refl

-- ---- the picks
module _ (t : MessageType) (p : Picks) where
  abbrev last : Option ℕ
  last = checked 12 (mode_ac_fits t p.spi 2) None

  abbrev from11 : Option ℕ
  from11 = checked 11 (mode_ac_fits t p.«data» 4096) last

  abbrev from9 : Option ℕ
  from9 = checked 9 (overlay_fits t p.overlay) from11

  abbrev from8 : Option ℕ
  from8 = checked 8 (pick_fits (subfields t (format_of t p)) p.capability) from9

  pub picks_in_range : field_fault t p ≡ None → PicksInRange t p
  unfolding field_fault
  picks_in_range e =
      let a : from8 ≡ None = later_fits 7 (pick_fits (formats t) p.format) from8 e in
      let b : from9 ≡ None = later_fits 8 (pick_fits (subfields t (format_of t p)) p.capability) from9 a in
      let g : from11 ≡ None = later_fits 9 (overlay_fits t p.overlay) from11 b in
      let h : last ≡ None = later_fits 11 (mode_ac_fits t p.«data» 4096) last g in
      record {
        format = fits 7 (pick_fits (formats t) p.format) from8 e;
        capability = fits 8 (pick_fits (subfields t (format_of t p)) p.capability) from9 a;
        overlay = fits 9 (overlay_fits t p.overlay) from11 b;
        mode_ac_data = fits 11 (mode_ac_fits t p.«data» 4096) last g;
        spi = fits 12 (mode_ac_fits t p.spi 2) None h;
      }

  pub no_pick_fault : PicksInRange t p → field_fault t p ≡ None
  unfolding field_fault
  no_pick_fault r =
      passes 7 (pick_fits (formats t) p.format) from8 r.format
      ∙ passes 8 (pick_fits (subfields t (format_of t p)) p.capability) from9 r.capability
      ∙ passes 9 (overlay_fits t p.overlay) from11 r.overlay
      ∙ passes 11 (mode_ac_fits t p.«data» 4096) last r.mode_ac_data
      ∙ passes 12 (mode_ac_fits t p.spi 2) None r.spi

-- ---- the type
-- a number with a rate above 0 is a type's
pub rated_known : (rates : MessagesPerSecond) (n : ℕ) → T (lt (of_bits binary64 0) (rate_of rates n)) → (t : MessageType) × (type_numbered n ≡ Some t)
unfolding rate_of rates_of type_numbered of_bits lt
rated_known rates zero h = (ExtendedSquitter, refl)
rated_known rates (suc zero) h = (AcquisitionSquitter, refl)
rated_known rates (suc (suc zero)) h = (ShortAp, refl)
rated_known rates (suc (suc (suc zero))) h = (AllCallReply, refl)
rated_known rates (suc (suc (suc (suc zero)))) h = (LongAp, refl)
rated_known rates (suc (suc (suc (suc (suc zero))))) h = (MilitaryExtendedSquitter, refl)
rated_known rates (suc (suc (suc (suc (suc (suc zero)))))) h = (ModeAc, refl)
rated_known rates (suc (suc (suc (suc (suc (suc (suc n))))))) h = absurd h

-- ---- the Mode A/C limit
module _ (kind : ℕ) (e : Float) where
  limited : kind ≡ 6 → mode_ac_limit kind e ≡ within (filter_clock_error ModeAcKind e) tenth
  unfolding mode_ac_limit
  limited h = ap (λ (b : Bool). cond b (within (filter_clock_error ModeAcKind e) tenth) true) (eq-eqb kind 6 h)

  limit_out : T (mode_ac_limit kind e) → kind ≡ 6 → T (within (filter_clock_error ModeAcKind e) tenth)
  limit_out t h = subst T (limited h) t

  limit_in : (kind ≡ 6 → T (within (filter_clock_error ModeAcKind e) tenth)) → T (mode_ac_limit kind e)
  unfolding mode_ac_limit
  limit_in f = go (eqb kind 6) (λ t. f (eqb→eq kind 6 t))
    where
      go : (b : Bool) → (T b → T (within (filter_clock_error ModeAcKind e) tenth)) → T (cond b (within (filter_clock_error ModeAcKind e) tenth) true)
      go true g = g tt
      go false g = tt

-- ---- the draw
module _ (rates : MessagesPerSecond) (all : Distributions) (d : Draw) where
  abbrev message : Option ℕ
  message = message_fault (type_numbered d.kind) d

  abbrev from6 : Option ℕ
  from6 = checked 6 (clock_fits all d.kind d.clock) message

  abbrev from5 : Option ℕ
  from5 = checked 5 (phase_draw_fits all.phase d.phase) from6

  abbrev from3 : Option ℕ
  from3 = checked 3 (amplitude_fits d.amplitude) (parameter_fault all d)

  abbrev from2 : Option ℕ
  from2 = checked 2 (finite d.cn0) from3

  abbrev from1 : Option ℕ
  from1 = checked 1 (type_fits rates d.kind) from2

  pub gap_in_range : draw_fault rates all d ≢ Some 0 → T (finite_not_negative d.gap)
  unfolding draw_fault
  gap_in_range h = not_wrong 0 (finite_not_negative d.gap) from1 h

  pub in_range : draw_fault rates all d ≡ None → InRange rates all d
  unfolding draw_fault parameter_fault type_fits amplitude_fits clock_fits message_fault
  in_range e0 =
      let e1 : from1 ≡ None = later_fits 0 (finite_not_negative d.gap) from1 e0 in
      let e2 : from2 ≡ None = later_fits 1 (type_fits rates d.kind) from2 e1 in
      let e3 : from3 ≡ None = later_fits 2 (finite d.cn0) from3 e2 in
      let e4 : parameter_fault all d ≡ None = later_fits 3 (amplitude_fits d.amplitude) (parameter_fault all d) e3 in
      let e5 : from5 ≡ None = later_fits 4 (offset_draw_fits all.carrier d.carrier) from5 e4 in
      let e6 : from6 ≡ None = later_fits 5 (phase_draw_fits all.phase d.phase) from6 e5 in
      let e7 : message ≡ None = later_fits 6 (clock_fits all d.kind d.clock) message e6 in
      let rated : T (lt (of_bits binary64 0) (rate_of rates d.kind)) = fits 1 (type_fits rates d.kind) from2 e1 in
      let k = rated_known rates d.kind rated in
      let a = fits 3 (amplitude_fits d.amplitude) (parameter_fault all d) e3 in
      let b = fits 6 (clock_fits all d.kind d.clock) message e6 in
      record {
        gap = fits 0 (finite_not_negative d.gap) from1 e0;
        message_type = k.0;
        known = k.1;
        rate = rated;
        cn0 = fits 2 (finite d.cn0) from3 e2;
        amplitude_from = and_l (le (of_bits binary32 0) d.amplitude) (le d.amplitude (of_bits binary32 0x4980_0000)) a;
        amplitude_to = and_r (le (of_bits binary32 0) d.amplitude) (le d.amplitude (of_bits binary32 0x4980_0000)) a;
        carrier = fits 4 (offset_draw_fits all.carrier d.carrier) from5 e4;
        phase = fits 5 (phase_draw_fits all.phase d.phase) from6 e5;
        clock = and_l (clock_draw_fits all.clock d.clock) (mode_ac_limit d.kind (error_of all.clock d.clock)) b;
        mode_ac_limit_lem =
            limit_out d.kind (error_of all.clock d.clock) (and_r (clock_draw_fits all.clock d.clock) (mode_ac_limit d.kind (error_of all.clock d.clock)) b);
        picks = picks_in_range k.0 d.picks (sym (ap (λ (t : Option MessageType). message_fault t d) k.1) ∙ e7);
      }

  pub no_fault : InRange rates all d → draw_fault rates all d ≡ None
  unfolding draw_fault parameter_fault type_fits amplitude_fits clock_fits message_fault
  no_fault r =
      passes 0 (finite_not_negative d.gap) from1 r.gap
      ∙ passes 1 (type_fits rates d.kind) from2 r.rate
      ∙ passes 2 (finite d.cn0) from3 r.cn0
      ∙ passes 3 (amplitude_fits d.amplitude) (parameter_fault all d) (and_i (le (of_bits binary32 0) d.amplitude) (le d.amplitude (of_bits binary32 0x4980_0000)) r.amplitude_from r.amplitude_to)
      ∙ passes 4 (offset_draw_fits all.carrier d.carrier) from5 r.carrier
      ∙ passes 5 (phase_draw_fits all.phase d.phase) from6 r.phase
      ∙ passes 6 (clock_fits all d.kind d.clock) message
      (and_i (clock_draw_fits all.clock d.clock) (mode_ac_limit d.kind (error_of all.clock d.clock)) r.clock (limit_in d.kind (error_of all.clock d.clock) r.mode_ac_limit_lem))
      ∙ ap (λ (t : Option MessageType). message_fault t d) r.known
      ∙ no_pick_fault r.message_type d.picks r.picks
