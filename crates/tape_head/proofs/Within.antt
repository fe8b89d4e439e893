-- What a head that begins a run has shown (`Shown`): opening answers its state, it has at most 400 draws, all on the tape before the noise (`head_within`), and none of them is at fault. A tape that is refused leaves the buffers (`refused_leaves`).
use Rattle.std.specs.Prelude.{Option, Some, None, Result, Ok, Err}
use Rattle.refusals.specs.declared.Refusal.{Refusal}
use Rattle.refusals.specs.declared.Refusal.TheVariants.{Tape}
use Prim.Native.Nat.{ℕ, ◌+◌, ◌*◌, ◌≤◌}
use mathlib.Core.Path.{◌≡◌, refl, sym, ap, ◌∙◌, subst}
use mathlib.Core.Bool.{Bool, true, false, cond}
use mathlib.Core.List.{List}
use lib.ListN.{length, take, drop}
use borrow.Author.Tests.{leb-true}
use Rattle.le_read.specs.LeBytes.{le_at, read_at, inside}
use Rattle.draw.specs.Fault.{first_fault}
use Rattle.run_call.specs.declared.State.{State}
use Rattle.run_open.specs.Opening.{OpenBuffers}
use Rattle.tape_sections.specs.Sections.{draws_offset, noise_offset, section_at, tape_setting, tape_sps}
use Rattle.tape_sections.proofs.Counts.{counted}
use Rattle.tape_head.specs.declared.Beginning.{Beginning}
use Rattle.tape_head.specs.Head.{run_of, noise_then, fault_then, draws_then, opened_then, opened_from, Begun, left_then, head_of}
use Rattle.tape_head.proofs.Setting.{setting_opens, at_own}

module _ (sps : ℕ) (tape : List ℕ) where
  -- the bytes of n draws
  abbrev pub draw_bytes : ℕ → List ℕ
  draw_bytes n = take (65 * n) (drop (draws_offset sps + 4) tape)

  -- of a head that begins a run behind this answer of opening
  pub record Shown (o : Result State Refusal) (b : Beginning) : Type 0 where
    pub opens : o ≡ Ok b.state
    pub few : b.draws ≤ 400
    pub within : noise_offset sps b.draws + 4 ≤ length tape
    pub clean : first_fault b.state.rates b.state.distributions (draw_bytes b.draws) ≡ None

  Shows : Result State Refusal → Result Beginning Refusal → Type 0
  Shows o (Ok b) = Shown o b
  Shows o (Err q) = Unit {0}

  fault_shows : (s : State) (n : ℕ) → n ≤ 400 → (f : Option (ℕ × ℕ)) → first_fault s.rates s.distributions (draw_bytes n) ≡ f → Shows (Ok s) (fault_then sps tape s n f)
  unfolding fault_then noise_then read_at Shows
  fault_shows s n h None e = go (inside 4 tape (noise_offset sps n)) refl
    where
      go : (b : Bool) → inside 4 tape (noise_offset sps n) ≡ b → Shows (Ok s) (cond b (run_of s n (le_at 4 tape (noise_offset sps n))) (Err Tape))
      go true there = record { opens = refl; few = h; within = leb-true (noise_offset sps n + 4) (length tape) there; clean = e }
      go false there = tt
  fault_shows s n h (Some (k, field)) e = tt

  draws_show : (s : State) (q : Option ℕ) → q ≡ section_at tape (draws_offset sps) 0 400 65 → Shows (Ok s) (draws_then sps tape s q)
  unfolding draws_then Shows
  draws_show s (Some n) e = fault_shows s n (counted tape (draws_offset sps) 0 400 65 n e refl).1 (first_fault s.rates s.distributions (draw_bytes n)) refl
  draws_show s None e = tt

  opened_shows : (o : Result State Refusal) → Shows o (opened_then sps tape o)
  unfolding opened_then Shows
  opened_shows (Ok s) = draws_show s (section_at tape (draws_offset sps) 0 400 65) refl
  opened_shows (Err refusal) = tt

  pub opened_shown : (o : Result State Refusal) (b : Beginning) → opened_then sps tape o ≡ Ok b → Shown o b
  unfolding Shows
  opened_shown o b e = subst (Shows o) e (opened_shows o)

module _ (tape : List ℕ) (lent : OpenBuffers) where
  module _ (s : State) (n count : ℕ) (run : (head_of tape lent).head ≡ run_of s n count) where
    pub head_shown : Shown (tape_sps tape) tape (opened_from (tape_sps tape) tape lent) (record { state = s; draws = n; noise = count })
    unfolding head_of
    head_shown = opened_shown (tape_sps tape) tape (opened_from (tape_sps tape) tape lent) (record { state = s; draws = n; noise = count }) (at_own tape lent (record { state = s; draws = n; noise = count }) run)

    pub head_within : (n ≤ 400) × (noise_offset (tape_sps tape) n + 4 ≤ length tape)
    head_within = (head_shown.few, head_shown.within)

    pub setting_begun : s.setting ≡ tape_setting tape
    setting_begun = setting_opens tape lent (tape_sps tape) s head_shown.opens

  -- the same, of what the contract of `head` gives
  pub begun_within : (b : Begun) (s : State) (n count : ℕ) → b ≡ head_of tape lent → b.head ≡ run_of s n count → (n ≤ 400) × (noise_offset (tape_sps tape) n + 4 ≤ length tape)
  begun_within b s n count e f = head_within s n count (sym (ap (λ (x : Begun). x.head) e) ∙ f)

  -- a refusal leaves every buffer as it was (SPECIFICATION 3.3)
  pub refused_leaves : (b : Begun) (q : Refusal) → b ≡ head_of tape lent → b.head ≡ Err q → b.left ≡ lent
  unfolding head_of left_then
  refused_leaves b q e f = ap (λ (x : Begun). x.left) e ∙ ap (left_then tape lent) (sym (ap (λ (x : Begun). x.head) e) ∙ f)
