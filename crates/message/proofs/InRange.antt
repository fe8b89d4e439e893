-- What fields in range say of each pick, and bounds on the entries of the tables.
use Rattle.std.specs.Prelude.{Option, None}
use mathlib.Core.Path.{◌≡◌}
use mathlib.Core.Bool.{Bool, true, false, cond, ◌&&◌}
use mathlib.Core.List.{List, [], ◌∷◌}
use Prim.Native.Nat.{ℕ, zero, suc, ◌<◌}
use native.Mathlib.Omega.{arith}
use lib.Dec.{T, ltb, eqb, ltb→lt}
use lib.Ieee.Fits.{and_l, and_r}
use lib.ListN.{get_or}
use borrow.Author.Tests.{eq-eqb, ne_eqb}
use Rattle.mode_s.specs.Formats.{extended_formats, capabilities, controls}
use Rattle.message.specs.declared.MessageType.{MessageType}
use Rattle.message.specs.declared.MessageType.TheVariants.{ExtendedSquitter, AcquisitionSquitter, ShortAp, AllCallReply, LongAp, ModeAc}
use Rattle.message.specs.declared.Picks.{Picks}
use Rattle.message.specs.Making.{
  formats,
  subfields,
  pick_fits,
  format_of,
  overlay_fits,
  mode_ac_fits,
  checked,
  field_fault,
}

-- ---- bounds of tables

abbrev pub all_lt : ℕ → List ℕ → Bool
all_lt b [] = true
all_lt b (x ∷ xs) = ((ltb x b) && (all_lt b xs))

-- an entry, or the 0 past the end, by one computed test
pub entry_lt : (b : ℕ) (xs : List ℕ) → 0 < b → T (all_lt b xs) → (k : ℕ) → get_or xs k 0 < b
entry_lt b [] h t k = h
entry_lt b (x ∷ xs) h t zero = ltb→lt x b (and_l (ltb x b) (all_lt b xs) t)
entry_lt b (x ∷ xs) h t (suc k) = entry_lt b xs h (and_r (ltb x b) (all_lt b xs) t) k

-- ---- no fault

pub fits : (field : ℕ) (b : Bool) (rest : Option ℕ) → checked field b rest ≡ None → T b
fits field true rest e = tt
fits field false rest e = let z : ◌≡◌ {A = ℕ} 0 1 = cc in absurd (omega arith)

pub later_fits : (field : ℕ) (b : Bool) (rest : Option ℕ) → checked field b rest ≡ None → rest ≡ None
later_fits field true rest e = e
later_fits field false rest e = let z : ◌≡◌ {A = ℕ} 0 1 = cc in absurd (omega arith)

-- In range, each pick is below the length of its list, or the list uses none: the 0 past the end of a list is never what an entry is.
module _ (t : MessageType) (p : Picks) where
  abbrev after_capability : Option ℕ
  after_capability =
      checked 9 (overlay_fits t p.overlay) (checked 11 (mode_ac_fits t p.«data» 4096) (checked 12 (mode_ac_fits t p.spi 2) None))

  abbrev after_format : Option ℕ
  after_format = checked 8 (pick_fits (subfields t (format_of t p)) p.capability) after_capability

  pub format_in_list : field_fault t p ≡ None → T (pick_fits (formats t) p.format)
  unfolding field_fault
  format_in_list e = fits 7 (pick_fits (formats t) p.format) after_format e

  pub capability_in_list : field_fault t p ≡ None → T (pick_fits (subfields t (format_of t p)) p.capability)
  unfolding field_fault
  capability_in_list e =
      fits 8 (pick_fits (subfields t (format_of t p)) p.capability) after_capability
      (later_fits 7 (pick_fits (formats t) p.format) after_format e)

module _ (p : Picks) where
  pub short_ap_format : field_fault ShortAp p ≡ None → p.format < 3
  unfolding field_fault formats subfields overlay_fits mode_ac_fits
  short_ap_format e = ltb→lt p.format 3 (fits 7 (ltb p.format 3) None e)

  pub long_ap_format : field_fault LongAp p ≡ None → p.format < 11
  unfolding field_fault formats subfields overlay_fits mode_ac_fits
  long_ap_format e = ltb→lt p.format 11 (fits 7 (ltb p.format 11) None e)

  pub acquisition_capability : field_fault AcquisitionSquitter p ≡ None → p.capability < 5
  unfolding field_fault formats subfields overlay_fits mode_ac_fits
  acquisition_capability e = ltb→lt p.capability 5 (fits 8 (ltb p.capability 5) None e)

  abbrev overlay : Bool
  overlay = ((ltb 0 p.overlay) && (ltb p.overlay 128))

  pub all_call_capability : field_fault AllCallReply p ≡ None → p.capability < 5
  unfolding field_fault formats subfields overlay_fits mode_ac_fits
  all_call_capability e = ltb→lt p.capability 5 (fits 8 (ltb p.capability 5) (checked 9 overlay None) e)

  all_call_overlay : field_fault AllCallReply p ≡ None → T overlay
  unfolding field_fault formats subfields overlay_fits mode_ac_fits
  all_call_overlay e = fits 9 overlay None (later_fits 8 (ltb p.capability 5) (checked 9 overlay None) e)

  pub overlay_above : field_fault AllCallReply p ≡ None → 0 < p.overlay
  overlay_above e = ltb→lt 0 p.overlay (and_l (ltb 0 p.overlay) (ltb p.overlay 128) (all_call_overlay e))

  pub overlay_below : field_fault AllCallReply p ≡ None → p.overlay < 128
  overlay_below e = ltb→lt p.overlay 128 (and_r (ltb 0 p.overlay) (ltb p.overlay 128) (all_call_overlay e))

  abbrev spi_fits : Option ℕ
  spi_fits = checked 12 (ltb p.spi 2) None

  pub data_below : field_fault ModeAc p ≡ None → p.«data» < 4096
  unfolding field_fault formats subfields overlay_fits mode_ac_fits
  data_below e = ltb→lt p.«data» 4096 (fits 11 (ltb p.«data» 4096) spi_fits e)

  pub spi_below : field_fault ModeAc p ≡ None → p.spi < 2
  unfolding field_fault formats subfields overlay_fits mode_ac_fits
  spi_below e = ltb→lt p.spi 2 (fits 12 (ltb p.spi 2) None (later_fits 11 (ltb p.«data» 4096) spi_fits e))

  abbrev second_pick : Bool
  second_pick = pick_fits (cond (eqb (get_or extended_formats p.format 0) 18) controls capabilities) p.capability

  pub extended_format : field_fault ExtendedSquitter p ≡ None → p.format < 2
  unfolding field_fault formats subfields format_of overlay_fits mode_ac_fits
  extended_format e = ltb→lt p.format 2 (fits 7 (ltb p.format 2) (checked 8 second_pick None) e)

  extended_pick : field_fault ExtendedSquitter p ≡ None → T second_pick
  unfolding field_fault formats subfields format_of overlay_fits mode_ac_fits
  extended_pick e = fits 8 second_pick None (later_fits 7 (ltb p.format 2) (checked 8 second_pick None) e)

  pub control_pick : field_fault ExtendedSquitter p ≡ None → get_or extended_formats p.format 0 ≡ 18 → p.capability < 6
  control_pick e h = ltb→lt p.capability 6 (simp (eq-eqb (get_or extended_formats p.format 0) 18 h) at (extended_pick e))

  pub capability_pick : field_fault ExtendedSquitter p ≡ None → (get_or extended_formats p.format 0 ≡ 18 → ⊥) → p.capability < 5
  capability_pick e h = ltb→lt p.capability 5 (simp (ne_eqb (get_or extended_formats p.format 0) 18 h) at (extended_pick e))
