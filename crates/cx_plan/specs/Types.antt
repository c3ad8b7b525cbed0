-- The numbers that a variable of a type can have.
use Rattle.std.specs.Prelude.{ℕ, ◌-◌, ◌^◌, ℤ, pos, negsuc}
use Rattle.cx_text.specs.declared.ctype.CType.{CType}
use Rattle.cx_text.specs.declared.ctype.CType.TheVariants.{Char, Byte, Int, Int2, Int4, Int8, Real, Complex}

-- the numbers of so many signed bits
abbrev pub signed_low : ℕ → ℤ
signed_low bits = negsuc (2 ^ (bits - 1) - 1)

abbrev pub signed_high : ℕ → ℤ
signed_high bits = pos (2 ^ (bits - 1) - 1)

-- A plain INT is an INT8. A type that isn't of whole numbers is held in 64 bits too; binding
-- refuses it.
abbrev pub least : CType → ℤ
least Byte = pos 0
least Int2 = signed_low 16
least Int4 = signed_low 32
least Int8 = signed_low 64
least Int = signed_low 64
least Char = signed_low 64
least Real = signed_low 64
least Complex = signed_low 64

abbrev pub greatest : CType → ℤ
greatest Byte = pos 255
greatest Int2 = signed_high 16
greatest Int4 = signed_high 32
greatest Int8 = signed_high 64
greatest Int = signed_high 64
greatest Char = signed_high 64
greatest Real = signed_high 64
greatest Complex = signed_high 64
