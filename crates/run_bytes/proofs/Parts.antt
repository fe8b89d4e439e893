-- The parts of a stored run written one behind the other: those of a rack (`rack_written`), those of the body (`body_written`), and the check behind the body (`all_written`).
use Rattle.std.specs.Prelude.{Some, None, is_some, Ok, Err}
use Prim.Native.Nat.{ℕ, ◌+◌, ◌*◌, ◌≤◌}
use mathlib.Core.Path.{◌≡◌, refl, sym, ap, ◌∙◌}
use mathlib.Core.Bool.{Bool, true, ◌&&◌, cond}
use mathlib.Core.List.{List, [], ◌∷◌, ◌++◌}
use native.Mathlib.Omega.{arith}
use lib.ListN.{length, take, drop, length-append}
use borrow.Author.Tests.{eq-eqb}
use lib.Seq.{take_at}
use lib.Ieee.{Float}
use Rattle.le_read.specs.LeBytes.{overwritten}
use Rattle.reply_record.proofs.Overwritten.{next}
use Rattle.rack.specs.declared.Rack.{Rack}
use Rattle.refusals.specs.declared.Refusal.TheVariants.{Length}
use Rattle.run_call.specs.declared.State.{State}
use Rattle.tape_sections.specs.Floats.{float_bytes}
use Rattle.tape_sections.proofs.Rows.{length_float_bytes}
use Rattle.run_bytes.specs.Sums.{sums_of}
use Rattle.run_bytes.specs.Layout.{head_words, word_bytes, rack_bytes, Held, held_fits, body_of, checked, stored_bytes, stored_length, Saved, save_left}
use Rattle.run_bytes.proofs.Written.{length_words, words_of_both, whole_written}

module _ (r : Rack) (memory : List Float) (d : length r.delays ≡ 16) (g : length r.gains ≡ 16) where
  pub length_rack : length (rack_bytes (Some r) memory) ≡ 208 + 4 * length memory
  unfolding rack_bytes
  length_rack =
      let ws = word_bytes (r.feeds ∷ r.seen ∷ r.delays) in
      length-append (ws ++ float_bytes r.gains) (float_bytes memory)
      ∙ ap (λ (n : ℕ). n + length (float_bytes memory)) (length-append ws (float_bytes r.gains))
      ∙ omega (arith, length_words (r.feeds ∷ r.seen ∷ r.delays), length_float_bytes r.gains, length_float_bytes memory, d, g)

  pub rack_written : (s : List ℕ) (at : ℕ) {d₁ d₂ d₃ d₄ : List ℕ} → at + 208 + 4 * length memory ≤ length s
      → d₁ ≡ overwritten s at (word_bytes (r.feeds ∷ r.seen ∷ [])) → d₂ ≡ overwritten d₁ (at + 16) (word_bytes r.delays)
      → d₃ ≡ overwritten d₂ (at + 144) (float_bytes r.gains) → d₄ ≡ overwritten d₃ (at + 208) (float_bytes memory)
      → d₄ ≡ overwritten s at (rack_bytes (Some r) memory)
  unfolding rack_bytes
  rack_written s at {d₁} {d₂} {d₃} {d₄} h q₁ q₂ q₃ q₄ =
      let x₁ = word_bytes (r.feeds ∷ r.seen ∷ []) in
      let x₂ = x₁ ++ word_bytes r.delays in
      let x₃ = x₂ ++ float_bytes r.gains in
      let l₁ : length x₁ ≡ 16 = length_words (r.feeds ∷ r.seen ∷ []) in
      let l₂ : length x₂ ≡ 144 = length-append x₁ (word_bytes r.delays) ∙ omega (arith, l₁, length_words r.delays, d) in
      let l₃ : length x₃ ≡ 208 = length-append x₂ (float_bytes r.gains) ∙ omega (arith, l₂, length_float_bytes r.gains, g) in
      let p₂ = next s at 16 x₁ (word_bytes r.delays) d₁ d₂ l₁ (omega arith) q₁ q₂ in
      let p₃ = next s at 144 x₂ (float_bytes r.gains) d₂ d₃ l₂ (omega arith) p₂ q₃ in
      next s at 208 x₃ (float_bytes memory) d₃ d₄ l₃ (omega arith) p₃ q₄
      ∙ ap (λ (ws : List ℕ). overwritten s at (ws ++ float_bytes r.gains ++ float_bytes memory)) (sym (words_of_both (r.feeds ∷ r.seen ∷ []) r.delays))

-- no rack has no bytes
pub none_written : (memory : List Float) → rack_bytes None memory ≡ []
unfolding rack_bytes
none_written memory = refl

head_length : (s : State) (racked : Bool) → length (word_bytes (head_words s racked)) ≡ 240
unfolding head_words
head_length s racked = length_words (head_words s racked)

-- a part behind the first ones
behind : (s : List ℕ) (k : ℕ) (xs ys d e : List ℕ) → length xs ≡ k → k ≤ length s → d ≡ overwritten s 0 xs → e ≡ overwritten d k ys → e ≡ overwritten s 0 (xs ++ ys)
behind s k xs ys d e l h p q = next s 0 k xs ys d e l (omega arith) p (q ∙ ap (λ (n : ℕ). overwritten d n ys) {x = k} {y = 0 + k} (omega arith))

-- the first bytes after a write from the start on
first_written : (s body : List ℕ) (n : ℕ) → length body ≡ n → take n (overwritten s 0 body) ≡ body
unfolding overwritten
first_written s body n l = take_at body (drop (0 + length body) s) n l

module _ (h : Held) (rack : ℕ) (e : length (rack_bytes h.rack h.rack_memory) ≡ rack) where
  head : List ℕ
  head = word_bytes (head_words h.state (is_some h.rack))

  first₂ : length (head ++ float_bytes h.mode_s) ≡ 240 + 4 * length h.mode_s
  unfolding head
  first₂ = length-append head (float_bytes h.mode_s) ∙ omega (arith, head_length h.state (is_some h.rack), length_float_bytes h.mode_s)

  first₃ : length (head ++ float_bytes h.mode_s ++ float_bytes h.mode_ac) ≡ 240 + 4 * length h.mode_s + 4 * length h.mode_ac
  first₃ = length-append (head ++ float_bytes h.mode_s) (float_bytes h.mode_ac) ∙ omega (arith, first₂, length_float_bytes h.mode_ac)

  first₄ : length (head ++ float_bytes h.mode_s ++ float_bytes h.mode_ac ++ float_bytes h.memory) ≡ 240 + 4 * length h.mode_s + 4 * length h.mode_ac + 4 * length h.memory
  first₄ = length-append (head ++ float_bytes h.mode_s ++ float_bytes h.mode_ac) (float_bytes h.memory) ∙ omega (arith, first₃, length_float_bytes h.memory)

  pub body_length : length (body_of h) ≡ 240 + 4 * length h.mode_s + 4 * length h.mode_ac + 4 * length h.memory + rack
  unfolding body_of head
  body_length = length-append (head ++ float_bytes h.mode_s ++ float_bytes h.mode_ac ++ float_bytes h.memory) (rack_bytes h.rack h.rack_memory) ∙ omega (arith, first₄, e)

  pub body_written : (s : List ℕ) {d₁ d₂ d₃ d₄ d₅ : List ℕ} → 240 + 4 * length h.mode_s + 4 * length h.mode_ac + 4 * length h.memory + rack ≤ length s
      → d₁ ≡ overwritten s 0 (word_bytes (head_words h.state (is_some h.rack))) → d₂ ≡ overwritten d₁ 240 (float_bytes h.mode_s) → d₃ ≡ overwritten d₂ (240 + 4 * length h.mode_s) (float_bytes h.mode_ac)
      → d₄ ≡ overwritten d₃ (240 + 4 * length h.mode_s + 4 * length h.mode_ac) (float_bytes h.memory)
      → d₅ ≡ overwritten d₄ (240 + 4 * length h.mode_s + 4 * length h.mode_ac + 4 * length h.memory) (rack_bytes h.rack h.rack_memory)
      → d₅ ≡ overwritten s 0 (body_of h)
  unfolding body_of head
  body_written s {d₁} {d₂} {d₃} {d₄} {d₅} m q₁ q₂ q₃ q₄ q₅ =
      let x₂ = head ++ float_bytes h.mode_s in
      let x₃ = x₂ ++ float_bytes h.mode_ac in
      let p₂ = behind s 240 head (float_bytes h.mode_s) d₁ d₂ (head_length h.state (is_some h.rack)) (omega arith) q₁ q₂ in
      let p₃ = behind s (240 + 4 * length h.mode_s) x₂ (float_bytes h.mode_ac) d₂ d₃ first₂ (omega arith) p₂ q₃ in
      let p₄ = behind s (240 + 4 * length h.mode_s + 4 * length h.mode_ac) x₃ (float_bytes h.memory) d₃ d₄ first₃ (omega arith) p₃ q₄ in
      behind s (240 + 4 * length h.mode_s + 4 * length h.mode_ac + 4 * length h.memory) (x₃ ++ float_bytes h.memory) (rack_bytes h.rack h.rack_memory) d₄ d₅ first₄ (omega arith) p₄ q₅

-- the check behind the body, all bytes written
pub all_written : (body s : List ℕ) (n : ℕ) {d₁ d₂ : List ℕ} → length body ≡ n → n + 16 ≡ length s → d₁ ≡ overwritten s 0 body
    → d₂ ≡ overwritten d₁ n (word_bytes ((sums_of (take n d₁)).sum ∷ (sums_of (take n d₁)).sum_of_sums ∷ [])) → d₂ ≡ checked body
unfolding checked
all_written body s n {d₁} {d₂} l h q₁ q₂ =
    let f : take n d₁ ≡ body = ap (take n) q₁ ∙ first_written s body n l in
    let cs = λ (b : List ℕ). word_bytes ((sums_of b).sum ∷ (sums_of b).sum_of_sums ∷ []) in
    behind s n body (cs body) d₁ d₂ l (omega arith) q₁ (q₂ ∙ ap (λ (b : List ℕ). overwritten d₁ n (cs b)) f)
    ∙ whole_written s (body ++ cs body) (length-append body (cs body) ∙ omega (arith, l, length_words ((sums_of body).sum ∷ (sums_of body).sum_of_sums ∷ []), h))

-- what `save` answers and leaves
pub saved : (h : Held) (bytes d : List ℕ) → held_fits h ≡ true → length bytes ≡ stored_length h.state.setting (is_some h.rack) → d ≡ stored_bytes h → ◌≡◌ {A = Saved} (record { answer = Ok tt; bytes = d }) (save_left h bytes)
unfolding save_left
saved h bytes d f l e = (λ i. record { answer = Ok tt; bytes = e i }) ∙ sym (ap (λ (b : Bool). cond b (record { answer = Ok tt; bytes = stored_bytes h }) (record { answer = Err Length; bytes = bytes })) (λ i. f i && eq-eqb (length bytes) (stored_length h.state.setting (is_some h.rack)) l i))
