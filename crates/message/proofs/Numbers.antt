-- A type's number names that type and no other, and numbers above 6 name none.
use Rattle.std.specs.Prelude.{Some, None}
use mathlib.Core.Path.{◌≡◌, refl, ap}
use Prim.Native.Nat.{ℕ, zero, suc, ◌≤◌}
use native.Mathlib.Omega.{arith}
use lib.ListN.{get_or-eq_default}
use Rattle.message.specs.declared.MessageType.{MessageType}
use Rattle.message.specs.declared.MessageType.TheVariants.{
  ExtendedSquitter,
  AcquisitionSquitter,
  ShortAp,
  AllCallReply,
  LongAp,
  MilitaryExtendedSquitter,
  ModeAc,
}
use Rattle.message.specs.Types.{type_number, type_numbered, all_types}

pub number_found : (t : MessageType) → type_numbered (type_number t) ≡ Some t
unfolding type_number type_numbered
number_found ExtendedSquitter = refl
number_found AcquisitionSquitter = refl
number_found ShortAp = refl
number_found AllCallReply = refl
number_found LongAp = refl
number_found MilitaryExtendedSquitter = refl
number_found ModeAc = refl

pub found_number_lem : (n : ℕ) (t : MessageType) → type_numbered n ≡ Some t → type_number t ≡ n
unfolding type_number type_numbered
found_number_lem zero t e = let h : t ≡ ExtendedSquitter = cc in ap type_number h
found_number_lem (suc zero) t e = let h : t ≡ AcquisitionSquitter = cc in ap type_number h
found_number_lem (suc (suc zero)) t e = let h : t ≡ ShortAp = cc in ap type_number h
found_number_lem (suc (suc (suc zero))) t e = let h : t ≡ AllCallReply = cc in ap type_number h
found_number_lem (suc (suc (suc (suc zero)))) t e = let h : t ≡ LongAp = cc in ap type_number h
found_number_lem (suc (suc (suc (suc (suc zero))))) t e = let h : t ≡ MilitaryExtendedSquitter = cc in ap type_number h
found_number_lem (suc (suc (suc (suc (suc (suc zero)))))) t e = let h : t ≡ ModeAc = cc in ap type_number h
found_number_lem (suc (suc (suc (suc (suc (suc (suc n))))))) t e = let z : ◌≡◌ {A = ℕ} 0 1 = cc in absurd (omega arith)

pub none_above : (n : ℕ) → 7 ≤ n → type_numbered n ≡ None
unfolding type_numbered
none_above n h = get_or-eq_default all_types None h
