-- A record put behind the bytes written so far joins them, and what follows it is unchanged (`joined`, `after`).
use Prim.Native.Nat.{ℕ, ◌+◌, ◌≤◌}
use mathlib.Core.Path.{◌≡◌, refl, sym, ap, ◌∙◌}
use mathlib.Core.Bool.{true}
use mathlib.Core.List.{List, ◌++◌}
use native.Mathlib.Omega.{arith}
use lib.ListN.{length, take, drop, length-append}
use lib.Seq.{take_at, length-take-le}
use borrow.Author.Tests.{le-leb}
use Rattle.le_read.specs.LeBytes.{overwritten}
use Rattle.le_read.proofs.RoundTrip.{length_overwritten, overwritten_after}
use Rattle.reply_record.specs.Record.{record_length, record_at}
use Rattle.reply_record.proofs.Overwritten.{record_there}

module _ (s : List ℕ) (at : ℕ) (h : at + record_length ≤ length s) (r : List ℕ) (l : length r ≡ record_length) where
  put_there : record_at s at r ≡ overwritten s at r
  put_there = record_there s at true (sym (le-leb (at + record_length) (length s) h)) r refl

  pub same_length : length (record_at s at r) ≡ length s
  same_length = ap length put_there ∙ length_overwritten s at r (omega arith)

  pub joined : take (at + record_length) (record_at s at r) ≡ take at s ++ r
  unfolding overwritten
  joined =
      ap (take (at + record_length)) put_there
      ∙ take_at (take at s ++ r) (drop (at + length r) s) (at + record_length) (length-append (take at s) r ∙ omega (arith, length-take-le at s (omega arith)))

  pub after : (i : ℕ) → at + record_length ≤ i → drop i (record_at s at r) ≡ drop i s
  after i g = ap (drop i) put_there ∙ overwritten_after s at r (omega arith) i (omega arith)
