-- Types as plain data, and what a type of the program is as such (JLS 4).
use Rattle.jr_base.specs.declared.ids.TypeId.{TypeId}
use Rattle.jr_base.specs.declared.ty.Ty as declared
use Rattle.jr_base.specs.declared.ty.Ty.TheOpen.{Ty-F}
use Rattle.jr_base.specs.declared.ty.Ty.TheFolds.{fold-Ty}

pub data Ty : Type 0 where
  Boolean : Ty
  Byte : Ty
  Short : Ty
  Char : Ty
  Int : Ty
  Long : Ty
  Null : Ty
  Void : Ty
  Class : TypeId → Ty
  Array : Ty → Ty

-- one level, with what the component is as plain data in its place
abbrev pub ty_step : Ty-F Ty → Ty
ty_step Ty-F.Boolean = Boolean
ty_step Ty-F.Byte = Byte
ty_step Ty-F.Short = Short
ty_step Ty-F.Char = Char
ty_step Ty-F.Int = Int
ty_step Ty-F.Long = Long
ty_step Ty-F.Null = Null
ty_step Ty-F.Void = Void
ty_step (Ty-F.Class a) = Class a
ty_step (Ty-F.Array a) = Array a

abbrev pub plain_ty : declared.Ty → Ty
plain_ty = fold-Ty Ty ty_step
