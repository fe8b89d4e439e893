-- What `restore` answers and leaves where bytes are sound (`taken`): the parts of the bytes as floats.
use Rattle.std.specs.Prelude.{Result, Ok, Err, IfOk}
use Prim.Native.Nat.{ℕ, ◌+◌, ◌*◌}
use mathlib.Core.Path.{◌≡◌, sym, ap, ◌∙◌, subst}
use mathlib.Core.Bool.{Bool, true, cond}
use mathlib.Core.List.{List}
use lib.ListN.{length, get_or, drop}
use lib.Ieee.{Float}
use Rattle.constants.specs.Setting.{setting_from}
use Rattle.tape_sections.specs.Floats.{floats_of}
use Rattle.run_bytes.specs.declared.Restored.{Restored}
use Rattle.run_bytes.specs.declared.Unreadable.{Unreadable}
use Rattle.run_bytes.specs.declared.Unreadable.TheVariants.{Buffers}
use Rattle.run_bytes.specs.Layout.{stored_length, lists_fit}
use Rattle.run_bytes.specs.Reading.{is_racked, head_of, Lent, Taken, restored_of, filled_of, taken_by, restore_left}
use Rattle.run_bytes.proofs.Lengths.{lengths, place_is, memory_place_is, mode_ac_place_is}

-- the length of sound bytes
pub long : (bytes : List ℕ) (r : Result (List ℕ) Unreadable) (ws : List ℕ) → r ≡ Ok ws → IfOk r (λ hs. length bytes ≡ stored_length (setting_from (get_or hs 29 0)) (is_racked hs)) → length bytes ≡ stored_length (setting_from (get_or ws 29 0)) (is_racked ws)
long bytes r ws e h = subst (λ x. IfOk x (λ hs. length bytes ≡ stored_length (setting_from (get_or hs 29 0)) (is_racked hs))) e h

module _ (bytes ws : List ℕ) (lent : Lent)
    (h : lists_fit (setting_from (get_or ws 29 0)) (is_racked ws) (length lent.mode_s) (length lent.mode_ac) (length lent.memory) (length lent.rack_memory) ≡ true)
    (l : length bytes ≡ stored_length (setting_from (get_or ws 29 0)) (is_racked ws)) where
  a : ℕ
  a = length lent.mode_s

  b : ℕ
  b = length lent.mode_ac

  m : ℕ
  m = length lent.memory

  k : ℕ
  k = length lent.rack_memory

  pub filled : {x y z w : List Float} → x ≡ floats_of (length lent.mode_s) (drop 240 bytes) → y ≡ floats_of (length lent.mode_ac) (drop (240 + 4 * length lent.mode_s) bytes)
      → z ≡ floats_of (length lent.memory) (drop (240 + 4 * length lent.mode_s + 4 * length lent.mode_ac) bytes)
      → w ≡ floats_of (length lent.rack_memory) (drop (240 + 4 * length lent.mode_s + 4 * length lent.mode_ac + 4 * length lent.memory + 208) bytes)
      → ◌≡◌ {A = Lent} (record { mode_s = x; mode_ac = y; memory = z; rack_memory = w }) (filled_of bytes ws)
  unfolding filled_of a b m k
  filled p q r t =
      let setting = setting_from (get_or ws 29 0) in
      let racked = is_racked ws in
      let f = lengths setting racked a b m k (length bytes) h l in
      let e₁ = p ∙ ap (λ (n : ℕ). floats_of n (drop 240 bytes)) f.0.0 in
      let e₂ = q ∙ (λ i. floats_of (f.0.1 i) (drop (mode_ac_place_is setting racked a b m k (length bytes) h l i) bytes)) in
      let e₃ = r ∙ (λ i. floats_of (f.1.0 i) (drop (memory_place_is setting racked a b m k (length bytes) h l i) bytes)) in
      let e₄ = t ∙ (λ i. floats_of (f.1.1 i) (drop (place_is setting racked a b m k (length bytes) h l i + 208) bytes)) in
      λ i. record { mode_s = e₁ i; mode_ac = e₂ i; memory = e₃ i; rack_memory = e₄ i }

  pub taken : {answer : Restored} {left : Lent} → head_of bytes ≡ Ok ws → answer ≡ restored_of bytes ws → left ≡ filled_of bytes ws → ◌≡◌ {A = Taken} (record { answer = Ok answer; lent = left }) (restore_left bytes lent)
  unfolding restore_left taken_by
  taken e p q =
      (λ i. record { answer = Ok (p i); lent = q i })
      ∙ sym (ap (λ (x : Bool). cond x (record { answer = Ok (restored_of bytes ws); lent = filled_of bytes ws }) (record { answer = Err Buffers; lent = lent })) h)
      ∙ sym (ap (taken_by bytes lent) e)
