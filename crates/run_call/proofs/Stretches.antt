-- The loops: a number of a stretch more (`mix_next`), and a stretch more (`Writing`).
use mathlib.Core.List.{List, [], ◌∷◌, ◌++◌}
use mathlib.Core.Path.{◌≡◌, refl, sym, ap, ◌∙◌}
use Prim.Native.Nat.{ℕ, ◌+◌, ◌-◌, ◌*◌, ◌/◌, ◌%◌, ◌≤◌, ◌<◌, min}
use native.Mathlib.Nat.{mod-lt}
use native.Mathlib.Numerals.{add-one}
use native.Mathlib.Omega.{arith}
use lib.ListN.{length, get_or, set, take, drop, length-drop}
use lib.Seq.{drop-drop, length-take-le, take-suc-set, take_all}
use Rattle.std.proofs.lemmas.Slice.{take-put_mid}
use Rattle.run_theory.specs.PlainBench.{pairs, flatten}
use Rattle.run_call_model.specs.Batch.{written, mixed}
use Rattle.run_call_model.proofs.Batch.{length_cleared}
use lib.Ieee.{Float, nan, binary32, of_bits, add, mul}
use Rattle.run_call_model.proofs.Stretch.{slot_wraps, written_more, cleared_more, length_mixed, mixed_snoc, mixed_take}
use Rattle.run_call_model.proofs.FloatLaws.{scale_bits}
use Rattle.run_theory.specs.FloatGenerator.{noise_scale}
use Rattle.run_theory.specs.Zeros.{zeros}
use Rattle.constants.specs.Rate.{ring_slots, working_memory}
use Rattle.constants.specs.Setting.{per_pulse}
use Rattle.constants.specs.declared.SamplesPerPulse.{SamplesPerPulse}
use Rattle.constants.specs.declared.SamplesPerPulse.TheVariants.{Four}
use Rattle.constants.proofs.Settings.{ring_pos}
use Rattle.run_call.specs.DueModel.{gen, mix, samples_of, clear_of}

-- ---- a stretch: no number, one number more, all
pub mix_first : (m noise : List Float) → [] ≡ mix m (take 0 noise)
mix_first [] noise = refl
mix_first (x ∷ m) noise = refl

pub mix_next : (m noise out : List Float) (i : ℕ) → i < length m → i < length noise → i < length out → take i out ≡ mix m (take i noise)
    → take (i + 1) (set out i (add binary32 (get_or m i nan) (mul binary32 (get_or noise i nan) (of_bits binary32 0x3a80_0000)))) ≡ mix m (take (i + 1) noise)
mix_next m noise out i a b c e =
    ap (λ (n : ℕ). take n (set out i (add binary32 (get_or m i nan) (mul binary32 (get_or noise i nan) (of_bits binary32 0x3a80_0000))))) (add-one i)
    ∙ take-suc-set out i _ c
    ∙ (λ j. e j ++ (add binary32 (get_or m i nan) (mul binary32 (get_or noise i nan) (scale_bits j)) ∷ []))
    ∙ mixed_snoc (gen Four) nan i m noise a b
    ∙ ap (λ (n : ℕ). mix m (take n noise)) (sym (add-one i))

pub mix_all : (m noise out : List Float) (n : ℕ) → length noise ≤ n → length out ≤ n → take n out ≡ mix m (take n noise) → out ≡ mix m noise
mix_all m noise out n a b e = sym (take_all n out b) ∙ e ∙ ap (mix m) (take_all n noise a)

-- a stretch is the same at either setting
mix_any : (s : SamplesPerPulse) (m noise : List Float) → mix m noise ≡ mixed (gen s) nan m noise
mix_any s [] noise = refl
mix_any s (x ∷ m) [] = refl
mix_any s (x ∷ m) (v ∷ noise) = ap (λ (l : List Float). add binary32 x (mul binary32 v noise_scale) ∷ l) (mix_any s m noise)

-- after k samples, the rest in stretches
pub record Writing (s : SamplesPerPulse) (m₀ noise : List Float) (w : ℕ) (m out : List Float) (p done : ℕ) : Type 0 where
  pub k : ℕ
  pub so_far : done ≡ 2 * k
  pub most : done ≤ length noise
  pub below : p < working_memory (per_pulse s)
  pub slot : done < length noise → p ≡ 2 * ((w + k) % ring_slots (per_pulse s))
  pub output : take done out ≡ samples_of s m₀ w (take done noise)
  pub memory : m ≡ clear_of s m₀ w k

pub starts : (s : SamplesPerPulse) (m noise out : List Float) (w p : ℕ) → p ≡ 2 * (w % ring_slots (per_pulse s)) → Writing s m noise w m out p 0
unfolding samples_of clear_of
starts s m noise out w p e = record {
  k = 0;
  so_far = refl;
  most = omega arith;
  below = omega (arith, mod-lt w {m = ring_slots (per_pulse s)} (ring_pos s));
  slot = λ lt. e ∙ ap (λ (n : ℕ). 2 * (n % ring_slots (per_pulse s))) {x = w} {y = w + 0} (omega arith);
  output = refl;
  memory = refl;
}

-- a stretch more, of a numbers of memory and b of noise
module _ (s : SamplesPerPulse) (m₀ noise : List Float) (w : ℕ) (m out xs ys : List Float) (p done len a b : ℕ) (hm : length m₀ ≡ working_memory (per_pulse s)) (ev : length noise % 2 ≡ 0) (ho : length out ≡ length noise) (lt : done < length noise)
    (el : len ≡ min (length m - p) (length noise - done)) (ea : a ≡ len) (eb : b ≡ len)
    (ex : xs ≡ mix (take a (drop p m)) (take b (drop done noise))) (ey : ys ≡ zeros (length (take a (drop p m)))) (g : Writing s m₀ noise w m out p done) where
  abbrev ring : ℕ
  ring = ring_slots (per_pulse s)

  abbrev j : ℕ
  j = len / 2

  memory_long : length m ≡ working_memory (per_pulse s)
  unfolding clear_of
  memory_long = ap length g.memory ∙ length_cleared (gen s) nan g.k m₀ w ∙ hm

  q_lt : (w + g.k) % ring < ring
  q_lt = mod-lt (w + g.k) (ring_pos s)

  slot_is : p ≡ 2 * ((w + g.k) % ring)
  slot_is = g.slot lt

  len_is : len ≡ 2 * (len / 2)
  len_is = omega (arith, g.so_far, slot_is, q_lt, memory_long)

  wraps : len / 2 ≡ ring - (w + g.k) % ring → 0 ≡ 2 * ((w + (g.k + len / 2)) % ring)
  wraps e =
      ap (λ (n : ℕ). 2 * n) (sym (slot_wraps ring (w + g.k) q_lt))
      ∙ ap (λ (n : ℕ). 2 * (n % ring)) {x = w + g.k + (ring - (w + g.k) % ring)} {y = w + (g.k + len / 2)} (omega arith)

  fits : (w + g.k) % ring + len / 2 ≤ ring
  fits = omega (arith, slot_is, memory_long)

  in_memory : length (take a (drop p m)) ≡ len
  in_memory = length-take-le a (drop p m) (omega (arith, length-drop p m, memory_long)) ∙ ea

  mixed_is : xs ≡ mix (drop (2 * ((w + g.k) % ring)) (clear_of s m₀ w g.k)) (take (2 * (len / 2)) (drop (2 * g.k) noise))
  mixed_is =
      ex
      ∙ (λ i. mix (take (ea i) (drop p m)) (take (eb i) (drop done noise)))
      ∙ mixed_take (gen Four) nan len (drop p m) (drop done noise)
      ∙ (λ i. mix (drop (slot_is i) (g.memory i)) (take (len_is i) (drop (g.so_far i) noise)))

  long : length xs ≡ len
  long = ap length (ex ∙ (λ i. mix (take (ea i) (drop p m)) (take (eb i) (drop done noise))) ∙ mixed_take (gen Four) nan len (drop p m) (drop done noise))
      ∙ length_mixed (gen Four) nan len (drop p m) (drop done noise) (omega (arith, length-drop p m, memory_long)) (omega (arith, length-drop done noise))

  goes_on_output : take (done + len) (take done out ++ (xs ++ drop b (drop done out))) ≡ samples_of s m₀ w (take (done + len) noise)
  unfolding samples_of clear_of
  goes_on_output =
      take-put_mid done b out xs (done + len) (omega (arith, long)) (omega arith)
      ∙ (λ i. (g.output ∙ ap (λ (n : ℕ). flatten (written (gen s) nan m₀ w (pairs (take n noise)))) g.so_far) i ++ (mixed_is ∙ mix_any s (drop (2 * ((w + g.k) % ring)) (clear_of s m₀ w g.k)) (take (2 * (len / 2)) (drop (2 * g.k) noise))) i)
      ∙ sym (written_more (gen s) nan g.k j noise m₀ w (omega (arith, g.so_far, len_is)) fits hm)
      ∙ ap (λ (n : ℕ). flatten (written (gen s) nan m₀ w (pairs (take n noise)))) {x = 2 * (g.k + len / 2)} {y = done + len} (omega (arith, g.so_far, len_is))

  goes_on_memory : take p m ++ (ys ++ drop a (drop p m)) ≡ clear_of s m₀ w (g.k + j)
  unfolding clear_of
  goes_on_memory =
      (λ i. take p m ++ ((ey ∙ ap zeros (in_memory ∙ len_is)) i ++ (ap (λ (n : ℕ). drop n (drop p m)) ea ∙ drop-drop len p m) i))
      ∙ (λ i. take (slot_is i) (g.memory i) ++ (zeros (2 * (len / 2)) ++ drop (slot_is i + len_is i) (g.memory i)))
      ∙ sym (cleared_more (gen s) nan g.k j m₀ w fits hm)

  pub goes_on : (p' : ℕ) → p' ≡ 0 → Writing s m₀ noise w (take p m ++ (ys ++ drop a (drop p m))) (take done out ++ (xs ++ drop b (drop done out))) p' (done + len)
  goes_on p' first = record {
    k = g.k + j;
    so_far = omega (arith, g.so_far, len_is);
    most = omega (arith, len_is, slot_is);
    below = omega (arith, first, ring_pos s);
    slot = λ more. first ∙ wraps (omega (arith, g.so_far, len_is, slot_is, q_lt, memory_long));
    output = goes_on_output;
    memory = goes_on_memory;
  }

pub all_written : (s : SamplesPerPulse) (m₀ noise : List Float) (w : ℕ) (m out : List Float) (p done : ℕ) → length noise ≤ done → length out ≡ length noise → Writing s m₀ noise w m out p done
    → (out ≡ samples_of s m₀ w noise) × (m ≡ clear_of s m₀ w (length noise / 2))
all_written s m₀ noise w m out p done h ho g =
    let k : g.k ≡ length noise / 2 = omega (arith, g.so_far, g.most) in
    (sym (take_all done out (omega (arith, ho))) ∙ g.output ∙ ap (samples_of s m₀ w) (take_all done noise h), g.memory ∙ ap (λ (n : ℕ). clear_of s m₀ w n) k)
