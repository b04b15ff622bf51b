-- What lookup gives on the rows of the small program of Worked, before the types of expressions matter.
use Rattle.std.proofs.Common.{◌≡◌, refl, true, Some, None}
use Rattle.jr_defs.specs.declared.referent.Referent.TheVariants.{Declared}
use Rattle.jr_defs.proofs.Worked.{p}
use Rattle.jr_plain.specs.Instances.{has_instance}
use Rattle.jr_plain.specs.Access.{is_accessible}
use Rattle.jr_plain.specs.Lookup.{look}
use Rattle.jr_plain.proofs.Worked.{table}

instance_of_a : has_instance p 34 10 ≡ true
instance_of_a = refl

field_accessible : is_accessible p table 16 34 None ≡ true
field_accessible = refl

name_of_a : look p table (λ n. None) 25 ≡ Declared 10 None
name_of_a = refl

field_x : look p table (λ n. None) 23 ≡ Declared 16 (Some 10)
field_x = refl

field_x_in_b : look p table (λ n. None) 34 ≡ Declared 16 (Some 24)
field_x_in_b = refl
