-- The code's loop: one draw more, and its ends.
use Prim.Native.Nat.{ℕ, ◌+◌, ◌-◌, ◌*◌, ◌/◌, ◌<◌, ◌≤◌}
use mathlib.Core.Path.{◌≡◌, refl, sym, ap, ◌∙◌}
use mathlib.Core.List.{List}
use native.Mathlib.Numerals.{add-one}
use native.Mathlib.Omega.{arith}
use lib.Dec.{lit<}
use lib.IntN.{ℤ}
use lib.ListN.{length, take, drop, length-drop}
use lib.Seq.{take_all, drop-drop}
use Rattle.std.proofs.Common.{w64, SFits, to_z, of_z, to_z-of_z}
use lib.Ieee.{Float}
use Rattle.constants.specs.declared.SamplesPerPulse.{SamplesPerPulse}
use Rattle.run_theory.specs.Generator.{Generator, start_from}
use Rattle.run_theory.specs.PlainRun as Plain
use Rattle.run_theory.specs.PlainBench.{draws_of}
use Rattle.run_call_model.proofs.FlatLists.{draws_none, draws_cons}
use Rattle.run_steps.specs.PlanModel.{counted}
use Rattle.message_config.specs.declared.Delays.{Delays}
use Rattle.message_config.specs.declared.MessageConfig.{MessageConfig}
use Rattle.message_config.specs.Config.{config_start}
use Rattle.settings.specs.declared.Distributions.{Distributions}
use Rattle.draw.specs.Draw.{draw_at}
use Rattle.draw.specs.Config.{time_after, config_with, config_of, start_at}
use Rattle.draw.specs.Pending.{pending_of}
use Rattle.run_booking.specs.declared.End as End
use Rattle.run_booking.specs.declared.Kind as Kind
use Rattle.run_booking.specs.Walk as Walk
use Rattle.run_booking.specs.Answered.{walk_generator, end_read, walked_read}
use Rattle.run_booking.specs.WalkModel.{kind_seen}

-- the part of a list from an offset to its end
part_is : (s : List ℕ) (at : ℕ) → take (length s - at) (drop at s) ≡ drop at s
part_is s at = take_all (length s - at) (drop at s) (rw length-drop (omega arith))

-- a choice by what the code makes of a draw
abbrev by_seen : {X : Type 0} → Kind.Kind → X → X → X → X
by_seen Kind.TheVariants.Ignored passed ended replied = passed
by_seen Kind.TheVariants.Ends passed ended replied = ended
by_seen Kind.TheVariants.Reply passed ended replied = replied

seen_is : {X : Type 0} (kind : Plain.Kind) (passed ended replied : X) → Walk.by_kind kind passed ended replied ≡ by_seen (kind_seen kind) passed ended replied
unfolding kind_seen
seen_is Plain.ignored passed ended replied = refl
seen_is Plain.ends passed ended replied = refl
seen_is (Plain.reply first) passed ended replied = refl

module _ (setting : SamplesPerPulse) (all : Distributions) (delays : Delays) (total : ℕ) (s : List ℕ) where
  abbrev G : Generator
  G = walk_generator setting all delays total

  -- the walk over the draws from the k-th on
  abbrev pub from : ℕ → ℕ → Float → Walk.Walk Float
  from k n t = Walk.walk_from (walk_generator setting all delays total) k n t (draws_of (walk_generator setting all delays total) (drop (k * 65) s))

  -- what the code makes of the bytes from a draw on
  abbrev message_in : Float → List ℕ → MessageConfig
  message_in t rest = pending_of all (time_after t (draw_at rest)) (draw_at rest)

  module _ (k n : ℕ) (t : Float) (h : k < length s / 65) (message : MessageConfig) (start : ℤ) (kind : Kind.Kind)
      (part : message ≡ message_in t (take (length s - k * 65) (drop (k * 65) s))) (f : SFits w64 start) (b : start ≡ config_start delays message)
      (e : kind ≡ kind_seen (Plain.kind_of (counted setting total) (start_from (to_z w64 (of_z w64 start))))) where
    abbrev t' : Float
    t' = time_after t (draw_at (drop (k * 65) s))

    m : message ≡ message_in t (drop (k * 65) s)
    m = part ∙ ap (message_in t) (part_is s (k * 65))

    time_is : message.time ≡ t'
    unfolding pending_of config_with config_of
    time_is = ap (λ (x : MessageConfig). x.time) m

    -- what step 4 makes of the draw
    abbrev made : Plain.Kind
    made = Plain.kind_of (counted setting total) (start_from (start_at all delays (time_after t (draw_at (drop (k * 65) s))) (draw_at (drop (k * 65) s))))

    kind_is : kind ≡ kind_seen made
    unfolding pending_of config_with config_of config_start
    kind_is = e ∙ ap (λ (z : ℤ). kind_seen (Plain.kind_of (counted setting total) (start_from z))) (to_z-of_z f ∙ b ∙ ap (config_start delays) m)

    length_is : k * 65 + 65 ≡ (k + 1) * 65
    length_is = omega arith

    enough : 65 ≤ length (drop (k * 65) s)
    enough = rw length-drop (omega (arith, h))

    next : drop 65 (drop (k * 65) s) ≡ drop ((k + 1) * 65) s
    next = drop-drop 65 (k * 65) s ∙ ap (λ (n : ℕ). drop n s) length_is

    -- the walk from the draw on, by what the code makes of it
    abbrev on_by : Kind.Kind → Walk.Walk Float
    on_by c = by_seen c (from (k + 1) n message.time) (record { records = n; taken = k + 1; end = Walk.at_draw k }) (from (k + 1) (n + 1) message.time)

    turn : from k n t ≡ on_by kind
    unfolding time_after
    turn =
        ap (Walk.walk_from G k n t) (draws_cons G (drop (k * 65) s) (lit< tt) enough)
        ∙ (λ i. Walk.by_kind made (Walk.walk_from G (sym (add-one k) i) n (sym time_is i) (draws_of G (next i))) (record { records = n; taken = sym (add-one k) i; end = Walk.at_draw k }) (Walk.walk_from G (sym (add-one k) i) (sym (add-one n) i) (sym time_is i) (draws_of G (next i))))
        ∙ seen_is made _ _ _
        ∙ ap on_by (sym kind_is)

    pub passes : kind ≡ Kind.TheVariants.Ignored → from k n t ≡ from (k + 1) n message.time
    passes q = turn ∙ ap on_by q

    pub stops : kind ≡ Kind.TheVariants.Ends → from k n t ≡ walked_read (record { records = n; taken = k + 1; end = End.TheVariants.Draw k })
    unfolding walked_read end_read
    stops q = turn ∙ ap on_by q

    pub replies : kind ≡ Kind.TheVariants.Reply → from k n t ≡ from (k + 1) (n + 1) message.time
    replies q = turn ∙ ap on_by q

  pub ends : (k n : ℕ) (t : Float) → k ≤ length s / 65 → length s / 65 ≤ k → from k n t ≡ walked_read (record { records = n; taken = length s / 65; end = End.TheVariants.RanOut t })
  unfolding walked_read end_read
  ends k n t b h =
      let last : k ≡ length s / 65 = omega arith in
      ap (Walk.walk_from G k n t) (draws_none G (drop (k * 65) s) (rw length-drop (omega (arith, h))))
      ∙ ap (λ (j : ℕ). record { records = n; taken = j; end = Walk.ran_out t }) last
