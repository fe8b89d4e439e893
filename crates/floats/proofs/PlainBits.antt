-- Zero is rounded as the normal range is: what the short way of narrowing asks of a pattern of either.
use Rattle.std.proofs.Common.{◌≡◌, ℕ, ◌%◌, ◌<◌, ◌⊎◌, not, T, sym, refl, subst, inl, inr, arith}
use Rattle.std.proofs.lemmas.Bool.{cases_lt}
use lib.Ieee.{binary32, binary64, fits, of_bits, is_nan, nan_bits}
use mathlib.Core.Bool.{◌&&◌}
use Rattle.floats.specs.Narrow.{narrow}
use Rattle.floats.specs.BlockModel.{IsPlain}
use Rattle.floats.proofs.Widening.{upper, rounded, holds, no_nan}

zero_or_sign : (b : ℕ) → b < 18446744073709551616 → b % 9223372036854775808 ≡ 0 → (b ≡ 0) ⊎ (b ≡ 9223372036854775808)
zero_or_sign b h z = elim (cases_lt b 9223372036854775808) [ inl l ↦ inl (omega arith) | inr g ↦ inr (omega arith) ]

pub rounded_plain : (b : ℕ) → b < 18446744073709551616 → IsPlain b → of_bits binary64 (upper b) ≡ narrow (of_bits binary64 b)
unfolding of_bits
rounded_plain b h (inr (lo, hi)) = rounded b h lo hi
rounded_plain b h (inl z) = elim (zero_or_sign b h z) [
  | inl e ↦ subst (λ (n : ℕ). of_bits binary64 (upper n) ≡ narrow (of_bits binary64 n)) (sym e) (unfold upper narrow in refl)
  | inr e ↦ subst (λ (n : ℕ). of_bits binary64 (upper n) ≡ narrow (of_bits binary64 n)) (sym e) (unfold upper narrow in refl)
]

pub holds_plain : (b : ℕ) → b < 18446744073709551616 → IsPlain b → T (fits binary32 (of_bits binary64 (upper b)) && not (is_nan (of_bits binary64 (upper b))))
unfolding fits of_bits is_nan
holds_plain b h (inr (lo, hi)) = holds b h lo hi
holds_plain b h (inl z) = elim (zero_or_sign b h z) [
  | inl e ↦ subst (λ (n : ℕ). T (fits binary32 (of_bits binary64 (upper n)) && not (is_nan (of_bits binary64 (upper n))))) (sym e) (unfold upper in tt)
  | inr e ↦ subst (λ (n : ℕ). T (fits binary32 (of_bits binary64 (upper n)) && not (is_nan (of_bits binary64 (upper n))))) (sym e) (unfold upper in tt)
]

pub no_nan_plain : (b : ℕ) → b < 18446744073709551616 → IsPlain b → T (not (nan_bits binary64 (upper b)))
unfolding nan_bits
no_nan_plain b h (inr (lo, hi)) = no_nan b hi
no_nan_plain b h (inl z) = elim (zero_or_sign b h z) [
  | inl e ↦ subst (λ (n : ℕ). T (not (nan_bits binary64 (upper n)))) (sym e) (unfold upper in tt)
  | inr e ↦ subst (λ (n : ℕ). T (not (nan_bits binary64 (upper n)))) (sym e) (unfold upper in tt)
]
