-- Theorem `class-changes`: class 7 changes the answers of long messages of DF 18 with control 2, 3 or 5, from 0, and no others.
use Rattle.std.specs.Prelude.{Option, Some, None}
use Rattle.std.specs.Option.{option_or}
use mathlib.Core.Path.{◌≡◌, refl, sym, ap, ◌∙◌}
use mathlib.Core.Bool.{Bool, true, false, cond}
use mathlib.Core.List.{List, [], ◌∷◌}
use Prim.Native.Nat.{ℕ, ◌/◌, ◌%◌, ◌<◌}
use borrow.Author.Tests.{eqb-true}
use lib.Dec.{T, eqb}
use lib.ListN.{length, get_or}
use Rattle.mode_s.proofs.Below.{every, below}
use Rattle.message.specs.declared.MessageType.{MessageType}
use Rattle.message.specs.declared.MessageType.TheVariants.{ExtendedSquitter}
use Rattle.message.specs.declared.ReplyKind.{ReplyKind}
use Rattle.message.specs.declared.ReplyKind.TheVariants.{Short, Long, ModeAc}
use Rattle.message.specs.declared.Reply.{Reply}
use Rattle.message.specs.declared.Picks.{Picks}
use Rattle.message.specs.Types.{type_number}
use Rattle.message.specs.Making.{formats, reply_of, field_fault}
use Rattle.message.specs.declared.Class.{Class}
use Rattle.message.specs.declared.Class.TheVariants.{TisB}
use Rattle.message.specs.Classing.{
  listed,
  tis_b_controls,
  long_class,
  kind_class,
  type_of,
  is_tis_b,
  is_long,
  relay_class,
  type_class,
  class_by,
  class_of,
  class_number,
  seven_as_zero,
}
use Rattle.message.specs.ClassChanges.{ClassChanges}
use Rattle.message.proofs.MadeClassed.{made_classed}

-- ---- the first bytes, by one computed test

same : Bool → Bool → Bool
same true b = b
same false true = false
same false false = true

same_is : (a b : Bool) → T (same a b) → a ≡ b
unfolding same
same_is true true t = refl
same_is true false t = absurd t
same_is false true t = absurd t
same_is false false t = refl

as_listed : ℕ → Bool
as_listed first = same (is_tis_b first) (listed (0x92 ∷ 0x93 ∷ 0x95 ∷ []) first)

all_as_listed : T (every as_listed 256)
unfolding as_listed same is_tis_b
all_as_listed = tt

first_bytes : (first : ℕ) → first < 256 → is_tis_b first ≡ listed (0x92 ∷ 0x93 ∷ 0x95 ∷ []) first
unfolding as_listed
first_bytes first h = same_is (is_tis_b first) (listed (0x92 ∷ 0x93 ∷ 0x95 ∷ []) first) (below as_listed 256 all_as_listed first h)

-- ---- both rules

eighteen : (t x : Bool) → cond t x false ≡ true → t ≡ true
eighteen true x e = refl
eighteen false x e = e

a_relay : (b : List ℕ) → is_tis_b (get_or b 0 0) ≡ true → relay_class true (get_or b 0 0) ≡ Some TisB
unfolding relay_class
a_relay b e = rw e

an_extended_squitter : (b : List ℕ) → is_tis_b (get_or b 0 0) ≡ true → kind_class Long b ≡ Some ExtendedSquitter
unfolding kind_class is_tis_b long_class formats
an_extended_squitter b e =
    ap long_class (eqb-true (get_or b 0 0 / 8) 18 (eighteen (eqb (get_or b 0 0 / 8) 18) (listed tis_b_controls (get_or b 0 0 % 8)) e))

-- ---- their order

first_class : (b : List ℕ) → is_tis_b (get_or b 0 0) ≡ true → class_by Long b ≡ Some TisB
unfolding class_by is_long
first_class b e = ap (λ (x : Option Class). option_or x (type_class (kind_class Long b))) (a_relay b e)

changed : (b : List ℕ) → is_tis_b (get_or b 0 0) ≡ true → (class_number (type_class (kind_class Long b)) ≡ 0) × (class_number (class_by Long b) ≡ 7)
unfolding class_number type_class type_number
changed b e = (ap (λ (t : Option MessageType). class_number (type_class t)) (an_extended_squitter b e), ap class_number (first_class b e))

long_kept : (b : List ℕ) → is_tis_b (get_or b 0 0) ≡ false → class_by Long b ≡ type_class (kind_class Long b)
unfolding class_by is_long relay_class
long_kept b e = rw e

short_kept : (b : List ℕ) → class_by Short b ≡ type_class (kind_class Short b)
unfolding class_by is_long relay_class
short_kept b = refl

mode_ac_kept : (b : List ℕ) → class_by ModeAc b ≡ type_class (kind_class ModeAc b)
unfolding class_by is_long relay_class
mode_ac_kept b = refl

-- ---- 7 read as 0

type_kept : (f : Option MessageType) → seven_as_zero (type_class f) ≡ f
unfolding seven_as_zero type_class
type_kept (Some t) = refl
type_kept None = refl

read_long : (t : Bool) (b : List ℕ) → is_tis_b (get_or b 0 0) ≡ t → seven_as_zero (class_by Long b) ≡ kind_class Long b
unfolding seven_as_zero
read_long true b e = ap seven_as_zero (first_class b e) ∙ sym (an_extended_squitter b e)
read_long false b e = ap seven_as_zero (long_kept b e) ∙ type_kept (kind_class Long b)

read_kind : (k : ReplyKind) (b : List ℕ) → seven_as_zero (class_by k b) ≡ kind_class k b
read_kind Short b = ap seven_as_zero (short_kept b) ∙ type_kept (kind_class Short b)
read_kind Long b = read_long (is_tis_b (get_or b 0 0)) b refl
read_kind ModeAc b = ap seven_as_zero (mode_ac_kept b) ∙ type_kept (kind_class ModeAc b)

read_as_zero : (r : Reply) → seven_as_zero (class_of r) ≡ type_of r
unfolding class_of type_of
read_as_zero r = read_kind r.kind r.bytes

made_as_its_type : (p : Picks) → length p.bytes ≡ 14 → (t : MessageType) → field_fault t p ≡ None → seven_as_zero (class_of (reply_of t p)) ≡ Some t
made_as_its_type p h t e = read_as_zero (reply_of t p) ∙ made_classed p h t e

pub class_changes : ClassChanges
class_changes = record {
  first_bytes = first_bytes;
  a_relay = a_relay;
  an_extended_squitter = an_extended_squitter;
  changed = changed;
  long_kept = long_kept;
  short_kept = short_kept;
  mode_ac_kept = mode_ac_kept;
  read_as_zero = read_as_zero;
  made_as_its_type = made_as_its_type;
}
