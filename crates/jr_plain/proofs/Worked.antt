-- What the functions compute on the rows of a small program:
-- package java.lang; public class Object { }
-- class A { int x; int f(int y) { return x; } class B extends A { int h() { return x + 1; } } }
use Rattle.std.proofs.Common.{◌≡◌, refl, true, cond, [], ◌∷◌, Some, None, nat_eq}
use Rattle.jr_defs.specs.declared.referent.Element.TheVariants as element
use Rattle.jr_defs.specs.declared.referent.Referent.TheVariants.{Unbound, Declared}
use Rattle.jr_defs.specs.Referents.{Table}
use Rattle.jr_defs.specs.Types.{plain}
use Rattle.jr_defs.proofs.Worked.{p}
use Rattle.jr_plain.specs.Enclosing.{innermost}
use Rattle.jr_plain.specs.Modifiers.{is_public}
use Rattle.jr_plain.specs.Types.{parameters}
use Rattle.jr_plain.specs.Supertypes.{supers, is_above}
use Rattle.jr_plain.specs.Members.{members}
use Rattle.jr_plain.specs.Overriding.{dispatches}

-- B extends A, and both uses of x refer to the field
abbrev pub table : Table
table n = cond (nat_eq n 25) (Declared 10 None) (cond (nat_eq n 23) (Declared 16 (Some 10)) (cond (nat_eq n 34) (Declared 16 (Some 24)) Unbound))

around_use : innermost p 34 ≡ Some 24
around_use = refl

object_public : is_public p 5 ≡ true
object_public = refl

supers_of_b : supers p table 24 ≡ 10 ∷ []
supers_of_b = refl

parameters_of_f : parameters p table 17 ≡ Some (plain element.Int ∷ [])
parameters_of_f = refl

object_above_b : is_above p table 24 5 ≡ true
object_above_b = refl

members_of_a : members p table 10 ≡ 16 ∷ 17 ∷ 24 ∷ []
members_of_a = refl

pub members_of_b : members p table 24 ≡ 16 ∷ 17 ∷ 24 ∷ 29 ∷ []
members_of_b = refl

call_of_f : dispatches p table 24 17 17 ≡ true
call_of_f = refl

-- where B is its own superclass
abbrev looped : Table
looped n = cond (nat_eq n 25) (Declared 24 None) Unbound

above_itself : is_above p looped 24 24 ≡ true
above_itself = refl

members_of_looped : members p looped 24 ≡ 29 ∷ []
members_of_looped = refl
