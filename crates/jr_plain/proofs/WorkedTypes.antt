-- Types and constants on the rows of two small programs.
use Rattle.std.proofs.Common.{◌≡◌, refl, cond, ◌||◌, nat_eq, Some, None, pos}
use Rattle.jr_base.specs.declared.constant.Const.TheVariants as c
use Rattle.jr_defs.specs.declared.referent.Element.TheVariants as element
use Rattle.jr_defs.specs.declared.referent.Referent.TheVariants.{Declared, Unbound}
use Rattle.jr_defs.specs.Referents.{Table}
use Rattle.jr_defs.specs.Types.{plain, class_type}
use Rattle.jr_defs.proofs.Worked.{p}
use Rattle.jr_plain.specs.Overloads.{Types}
use Rattle.jr_plain.specs.Conversions.{Constants}
use Rattle.jr_plain.specs.Typing.{expression_types}
use Rattle.jr_plain.specs.Constants.{constants, has_constant_form}
use Rattle.jr_plain.specs.Lookup.{look}
use Rattle.jr_plain.proofs.Worked.{table}
use Rattle.jr_plain.proofs.WorkedCalls.{calls}

abbrev values : Constants
values = constants p table (has_constant_form p table)

abbrev types : Types
types = expression_types p table values

one : values 35 ≡ Some (c.Int (pos 1))
one = refl

sum_is_not_constant : values 33 ≡ None
sum_is_not_constant = refl

sum_type : types 33 ≡ Some (plain element.Int)
sum_type = refl

-- what the expressions in A and B refer to
abbrev calls_table : Table
calls_table n = cond (nat_eq n 34) (Declared 10 None) (cond (nat_eq n 47) (Declared 33 None) (cond (nat_eq n 31 || nat_eq n 44) (Declared 16 None)
    (cond (nat_eq n 30 || (nat_eq n 43 || nat_eq n 45)) (Declared 24 None) Unbound)))

abbrev calls_types : Types
calls_types = expression_types calls calls_table (constants calls calls_table (has_constant_form calls calls_table))

this_in_a : calls_types 32 ≡ Some (class_type 10)
this_in_a = refl

field_of_this : calls_types 31 ≡ Some (plain element.Int)
field_of_this = refl

new_b : calls_types 46 ≡ Some (class_type 33)
new_b = refl

sum_of_calls : calls_types 42 ≡ Some (plain element.Int)
sum_of_calls = refl

-- lookup with the types that are computed
call_on_new : look calls calls_table calls_types 45 ≡ Declared 24 None
call_on_new = refl
