-- Noise by rows: what the test of a row says, and that a row in range has no fault.
use Rattle.std.proofs.Common.{◌≡◌, ℕ, zero, suc, ◌+◌, ◌*◌, ◌%◌, ◌^◌, ◌<◌, ◌≤◌, Bool, true, false, cond, not, T, List, [], ◌∷◌, take, drop, length, get_or, replicate, sym, refl, ap, ◌∙◌, subst, arith, nat_eq}
use Rattle.std.proofs.lemmas.Simd.{splat_is_map}
use Rattle.std.specs.Prelude.{Option, Some, None, is_none}
use mir.Syntax.{w32}
use borrow.Author.Tests.{eqb-true}
use lib.Lanes.{mask_l}
use lib.ListN.{length-drop}
use Rattle.std.proofs.lemmas.List.{drop-drop}
use Rattle.std.specs.Simd.{first_chunks}
use lib.Ieee.{Float, binary32, of_bits, le, neg}
use Rattle.run_theory.specs.PlainBench as Bench
use Rattle.floats.specs.Range.{within}
use Rattle.floats.proofs.Ranges.{within_low}
use Rattle.floats.proofs.Rows.{as_map, compared, tests, compared_of_maps, all_of_mask, each_with, first_chunk}
use Rattle.run_generator.specs.Instance.{out_of_range}
use Rattle.run_call.specs.NoiseModel.{out_of_range_from, noise_fault_read}
use Rattle.run_call.specs.RowsModel.{AllWithin}

abbrev MatchNone : Option Bench.Refusal → Type 0
MatchNone None = Unit {0}
MatchNone (Some r) = ⊥

abbrev pub limit : Float
limit = of_bits binary32 0x4280_0000

-- ---- a row's test
pub row_within : (row : List Float) → length row ≡ 8 → mask_l (tests w32 (compared w32 le row (replicate 8 limit))) % 2 ^ 64 ≡ 255 → nat_eq (mask_l (tests w32 (compared w32 le (replicate 8 (neg limit)) row)) % 2 ^ 64) 255 ≡ true → AllWithin row
row_within row l high low =
    each_with (λ x. le x limit ≡ true) (λ x. le (neg limit) x ≡ true) (λ x. T (within x limit)) both row
    (all_of_mask (λ x. le x limit) w32 row l (compared_of_maps w32 le (λ x. x) (λ _. limit) row (as_map row) (splat_is_map row 8 limit l)) high)
    (all_of_mask (λ x. le (neg limit) x) w32 row l (compared_of_maps w32 le (λ _. neg limit) (λ x. x) row (splat_is_map row 8 (neg limit) l) (as_map row)) (eqb-true _ _ low))
  where
    both : (x : Float) → le x limit ≡ true → le (neg limit) x ≡ true → T (within x limit)
    both x h k = subst T (sym (sym (within_low x limit h) ∙ k)) tt

-- ---- a row in range has no fault
skipped : (n : ℕ) (xs : List Float) (k : ℕ) → n ≤ length xs → AllWithin (take n xs) → out_of_range_from k xs ≡ out_of_range_from (k + n) (drop n xs)
unfolding out_of_range_from out_of_range
skipped zero xs k h all = ap (λ (m : ℕ). out_of_range_from m xs) {x = k} {y = k + 0} (omega arith)
skipped (suc n) [] k h all = absurd (omega arith)
skipped (suc n) (x ∷ xs) k h all =
    ap (λ (b : Bool). cond (not b) (Some (Bench.wrong_noise k)) (out_of_range_from (suc k) xs)) (passes (within x limit) all.0)
    ∙ skipped n xs (suc k) (omega arith) all.1
    ∙ ap (λ (m : ℕ). out_of_range_from m (drop n xs)) {x = suc k + n} {y = k + suc n} (omega arith)
  where
    passes : (b : Bool) → T b → b ≡ true
    passes true t = refl
    passes false t = absurd t

pub row_skipped : (noise row : List Float) (i k : ℕ) → i < k → 8 * i + 8 ≤ length noise → row ≡ get_or (first_chunks 8 k noise) i [] → AllWithin row
    → out_of_range_from (8 * i) (drop (8 * i) noise) ≡ out_of_range_from 0 noise → out_of_range_from (8 * (i + 1)) (drop (8 * (i + 1)) noise) ≡ out_of_range_from 0 noise
row_skipped noise row i k h fits e all inv =
    ap (λ (m : ℕ). out_of_range_from m (drop m noise)) {x = 8 * (i + 1)} {y = 8 * i + 8} (omega arith)
    ∙ ap (out_of_range_from (8 * i + 8)) (sym (drop-drop 8 (8 * i) noise))
    ∙ sym (skipped 8 (drop (8 * i) noise) (8 * i) (omega (arith, length-drop (8 * i) noise)) (subst AllWithin (e ∙ first_chunk 8 k i noise h) all))
    ∙ inv

-- no fault from one index on is none from another on
none_from : (xs : List Float) (j k : ℕ) → None ≡ out_of_range_from j xs → out_of_range_from k xs ≡ None
unfolding out_of_range_from
none_from [] j k e = refl
none_from (x ∷ xs) j k e = go (none_from xs (suc j) (suc k)) (out_of_range x) e
  where
    no_some : {r : Bench.Refusal} → ◌≡◌ {A = Option Bench.Refusal} None (Some r) → ⊥
    no_some e = subst MatchNone e tt

    go : (None ≡ out_of_range_from (suc j) xs → out_of_range_from (suc k) xs ≡ None) → (b : Bool) → None ≡ cond b (Some (Bench.wrong_noise j)) (out_of_range_from (suc j) xs) → cond b (Some (Bench.wrong_noise k)) (out_of_range_from (suc k) xs) ≡ None
    go on true e = absurd (no_some e)
    go on false e = on e

pub none_behind : (noise rest : List Float) (i : ℕ) → rest ≡ drop (8 * i) noise → None ≡ out_of_range_from 0 rest → out_of_range_from (8 * i) (drop (8 * i) noise) ≡ out_of_range_from 0 noise → out_of_range_from 0 noise ≡ None
none_behind noise rest i r e inv = sym inv ∙ ap (out_of_range_from (8 * i)) (sym r) ∙ none_from rest 0 (8 * i) e

pub ended : (b : Bool) (r : Option ℕ) (noise rest : List Float) (i : ℕ) → b ≡ is_none r → rest ≡ drop (8 * i) noise → noise_fault_read r ≡ out_of_range_from 0 rest
    → out_of_range_from (8 * i) (drop (8 * i) noise) ≡ out_of_range_from 0 noise → cond b (out_of_range_from 0 noise) None ≡ None
unfolding noise_fault_read
ended b None noise rest i n r e inv = ap (λ (t : Bool). cond t (out_of_range_from 0 noise) None) n ∙ none_behind noise rest i r e inv
ended b (Some k) noise rest i n r e inv = ap (λ (t : Bool). cond t (out_of_range_from 0 noise) None) n
