-- `tape-text`: a tape prints its text (SPECIFICATION 11.1): a refused head its number (`refused-text`); a short noise section 11 (`short-text`); and a head that begins a run, fed the bytes of its noise section in parts, however they are cut, the plain run's text.
use Rattle.std.specs.Prelude.{Err}
use Prim.Native.Nat.{ℕ, ◌+◌, ◌*◌, ◌/◌, ◌≤◌, ◌<◌}
use mathlib.Core.Bool.{Bool, true, false, cond}
use mathlib.Core.List.{List, ◌∷◌}
use mathlib.Core.Path.{◌≡◌, sym, ap, ◌∙◌}
use native.Mathlib.Omega.{arith}
use lib.Dec.{ltb}
use lib.ListN.{length, take, drop, length-take}
use borrow.Author.Tests.{lt-ltb, le-ltb}
use Rattle.refusals.specs.Number.{number_of}
use Rattle.refusals.specs.declared.Refusal.{Refusal}
use Rattle.pulse_shape.specs.Prototype.{mode_s_prototype, mode_ac_prototype}
use Rattle.run_theory.specs.PlainBench.{join}
use Rattle.run_call.specs.declared.State.{State}
use Rattle.tape_sections.specs.Sections.{draws_offset, tape_setting, tape_sps}
use Rattle.tape_text.specs.Text.{refused_text}
use Rattle.tape_head.specs.Head.{run_of, taps_s, taps_ac, head_of}
use Rattle.tape_head.proofs.Within.{head_within}
use Rattle.tape_theory.specs.Fed.{Chunk, begun, fed_all}
use Rattle.tape_theory.specs.PlainTape.{plain_text, fed_text, Cut}
use Rattle.tape_theory.specs.TapeText.{lent_by_program, Parts, draws_section, behind_count, section_text, head_text, tape_text}
use Rattle.tape_theory.proofs.PlainTape.{plain_tape}
use Rattle.tape_theory.proofs.ReadParts.{parts_values}

first_of : (b : Bool) (x y : List ℕ) → b ≡ true → cond b x y ≡ x
first_of b x y e = ap (λ (a : Bool). cond a x y) e

second_of : (b : Bool) (x y : List ℕ) → b ≡ false → cond b x y ≡ y
second_of b x y e = ap (λ (a : Bool). cond a x y) e

module _ (tape : List ℕ) where
  pub refused_text_lem : (q : Refusal) → (head_of tape (lent_by_program (tape_setting tape))).head ≡ Err q → refused_text (number_of q) ≡ tape_text tape
  unfolding tape_text head_text
  refused_text_lem q head = sym (ap (head_text tape) head)

  module _ (s : State) (n count : ℕ) (head : (head_of tape (lent_by_program (tape_setting tape))).head ≡ run_of s n count) where
    -- a noise section that is short
    pub short_text : length (behind_count tape n) < 4 * count → refused_text 11 ≡ tape_text tape
    unfolding tape_text head_text section_text
    short_text h = sym (ap (head_text tape) head ∙ first_of (ltb (length (behind_count tape n)) (4 * count)) _ _ (lt-ltb (length (behind_count tape n)) (4 * count) h))

    -- room for a record of each draw
    rooms : (records : List ℕ) → 26400 ≤ length records → 66 * (length (draws_section tape n) / 65) ≤ length records
    unfolding draws_section
    rooms records room = omega (arith, room, length-take (65 * n) (drop (draws_offset (tape_sps tape) + 4) tape), (head_within tape (lent_by_program (tape_setting tape)) s n count head).0)

    pub tape_text_lem : 4 * count ≤ length (behind_count tape n) → (records : List ℕ) → 26400 ≤ length records → (c : Chunk) (cs : List Chunk) → Cut (c ∷ cs)
        → (bs : List (List ℕ)) → Parts bs (c ∷ cs) → join bs ≡ take (4 * count) (behind_count tape n)
        → fed_text (ltb (4 * count) (length (behind_count tape n))) (fed_all (mode_s_prototype (tape_sps tape) (taps_s (tape_sps tape) tape)) (mode_ac_prototype (tape_sps tape) (taps_ac (tape_sps tape) tape)) (draws_section tape n) (begun s (head_of tape (lent_by_program (tape_setting tape))).left.memory records) (c ∷ cs)) ≡ tape_text tape
    unfolding tape_text head_text section_text draws_section
    tape_text_lem whole records room c cs cut bs parts read =
        (plain_tape tape (lent_by_program (tape_setting tape)) s n count head).text records (rooms records room) c cs cut (ltb (4 * count) (length (behind_count tape n)))
        ∙ ap (plain_text s (mode_s_prototype (tape_sps tape) (taps_s (tape_sps tape) tape)) (mode_ac_prototype (tape_sps tape) (taps_ac (tape_sps tape) tape)) (ltb (4 * count) (length (behind_count tape n))) _) (parts_values bs (c ∷ cs) count (behind_count tape n) parts whole read)
        ∙ sym (ap (head_text tape) head ∙ second_of (ltb (length (behind_count tape n)) (4 * count)) _ _ (le-ltb (length (behind_count tape n)) (4 * count) whole))
