-- A rack read back from its bytes (`rack_back`).
use Rattle.std.specs.Prelude.{Option, Some, None, is_some}
use Prim.Native.Nat.{ℕ, ◌+◌}
use mathlib.Core.Path.{◌≡◌, refl, sym, ap, ◌∙◌}
use mathlib.Core.Bool.{cond}
use mathlib.Core.List.{List, [], ◌∷◌, ◌++◌, append_assoc}
use native.Mathlib.Omega.{arith}
use lib.ListN.{length, get_or, drop, length-append}
use lib.Seq.{drop_at}
use lib.Ieee.{Float, binary32}
use Rattle.rack.specs.declared.Rack.{Rack}
use Rattle.tape_sections.specs.Floats.{floats_of, float_bytes}
use Rattle.tape_sections.proofs.Rows.{length_float_bytes}
use Rattle.run_bytes.specs.Layout.{word_bytes, rack_bytes}
use Rattle.run_bytes.specs.Reading.{words_at, rack_at}
use Rattle.run_bytes.proofs.Written.{length_words}
use Rattle.run_bytes_theorem.specs.Typed.{AllOf, TypedRack, TypedAny}
use Rattle.run_bytes_theorem.proofs.Back.{words_back, floats_back}

module _ (r : Rack) (t : TypedRack r) (memory : List Float) (front rest : List ℕ) (at : ℕ) (l : length front ≡ at) where
  ws : List ℕ
  ws = r.feeds ∷ r.seen ∷ r.delays

  b : List ℕ
  b = front ++ (rack_bytes (Some r) memory ++ rest)

  words_are : words_at 18 b at ≡ ws
  unfolding b ws rack_bytes
  words_are =
      let behind = float_bytes r.gains ++ float_bytes memory ++ rest in
      let e : b ≡ front ++ (word_bytes ws ++ behind) = simp append_assoc refl in
      let n : length ws ≡ 18 = omega (arith, t.delays.0) in
      sym (λ i. words_at (n i) b at) ∙ ap (λ (x : List ℕ). words_at (length ws) x at) e ∙ words_back ws front behind at l (t.feeds, (t.seen, t.delays.1))

  gains_are : floats_of 16 (drop (at + 144) b) ≡ r.gains
  unfolding b ws rack_bytes
  gains_are =
      let W = word_bytes ws in
      let e : b ≡ front ++ W ++ (float_bytes r.gains ++ (float_bytes memory ++ rest)) = simp append_assoc refl in
      let m : length (front ++ W) ≡ at + 144 = length-append front W ∙ omega (arith, l, length_words ws, t.delays.0) in
      ap (λ (x : List ℕ). floats_of 16 (drop (at + 144) x)) e
      ∙ ap (floats_of 16) (drop_at (front ++ W) (float_bytes r.gains ++ (float_bytes memory ++ rest)) (at + 144) m)
      ∙ sym (ap (λ (n : ℕ). floats_of n (float_bytes r.gains ++ (float_bytes memory ++ rest))) t.gains.0)
      ∙ floats_back r.gains (float_bytes memory ++ rest) t.gains.1

  rack_is : rack_at b at ≡ r
  unfolding rack_at words_at ws b
  rack_is =
      let e = words_are in
      let d : words_at 16 b (at + 16) ≡ r.delays = ap (λ (n : ℕ). words_at 16 b n) {x = at + 16} {y = at + 8 + 8} (omega arith) ∙ ap (drop 2) e in
      λ i. record { feeds = get_or (e i) 0 0; seen = get_or (e i) 1 0; delays = d i; gains = gains_are i }

pub rack_back : (o : Option Rack) (t : TypedAny o) (memory : List Float) (front rest : List ℕ) (at : ℕ) → length front ≡ at → cond (is_some o) (Some (rack_at (front ++ (rack_bytes o memory ++ rest)) at)) None ≡ o
unfolding b
rack_back None t memory front rest at l = refl
rack_back (Some r) t memory front rest at l = ap Some (rack_is r t memory front rest at l)

pub memory_back : (o : Option Rack) (t : TypedAny o) (memory : List Float) → AllOf binary32 memory → length memory ≡ cond (is_some o) 8190 0 → (front rest : List ℕ) (at : ℕ) → length front ≡ at
    → floats_of (length memory) (drop (at + 208) (front ++ (rack_bytes o memory ++ rest))) ≡ memory
unfolding rack_bytes floats_of
memory_back None t [] v e front rest at l = refl
memory_back None t (x ∷ xs) v e front rest at l = absurd (omega (arith, e))
memory_back (Some r) t memory v e front rest at l =
    let W = word_bytes (r.feeds ∷ r.seen ∷ r.delays) in
    let first = front ++ W ++ float_bytes r.gains in
    let m : length first ≡ at + 208 =
    length-append (front ++ W) (float_bytes r.gains) ∙ omega (arith, length-append front W, l, length_words (r.feeds ∷ r.seen ∷ r.delays), t.delays.0, length_float_bytes r.gains, t.gains.0) in
    let q : front ++ (W ++ float_bytes r.gains ++ float_bytes memory ++ rest) ≡ first ++ (float_bytes memory ++ rest) = simp append_assoc refl in
    ap (λ (x : List ℕ). floats_of (length memory) (drop (at + 208) x)) q ∙ ap (floats_of (length memory)) (drop_at first (float_bytes memory ++ rest) (at + 208) m) ∙ floats_back memory rest v
