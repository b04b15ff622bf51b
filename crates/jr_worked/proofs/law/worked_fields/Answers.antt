use Rattle.std.proofs.Common.{refl, Some}
use Rattle.jr_defs.specs.Types.{class_type}
use Rattle.jr_plain.proofs.Accessed.{accessible_tells}
use Rattle.jr_plain.proofs.Declared.{part_tells}
use Rattle.jr_plain.proofs.Instanced.{static_context_tells}
use Rattle.jr_plain.proofs.Modified.{static_tells}
use Rattle.jr_worked.specs.Tables.{rows_of, table_of}
use Rattle.jr_worked.proofs.Checked.{looked_up, typable_of, no}
use Rattle.jr_worked.specs.Fields as fields
use Rattle.jr_worked.proofs.law.worked_fields.Goals as goal

pub returns : goal.returns
returns c = record {
  a_field_of_the_inner_class = looked_up fields.a_field_of_the_inner_class refl;
  a_field_of_the_outer_class = looked_up fields.a_field_of_the_outer_class refl;
  an_inherited_field_shadows_an_enclosing_one = looked_up fields.an_inherited_field_shadows_an_enclosing_one refl;
  a_private_field_is_not_inherited = looked_up fields.a_private_field_is_not_inherited refl;
  private_reaches_the_top_level_type = looked_up fields.private_reaches_the_top_level_type refl;
  private_reaches_the_top_level_type_a_private_field_is_accessible = (accessible_tells (rows_of fields.private_reaches_the_top_level_type) (table_of fields.private_reaches_the_top_level_type) (typable_of fields.private_reaches_the_top_level_type refl).headed 16 28 (Some (class_type 10))).0 refl;
  two_inherited_fields = looked_up fields.two_inherited_fields refl;
  one_field_by_two_ways = looked_up fields.one_field_by_two_ways refl;
  a_field_through_a_cast = looked_up fields.a_field_through_a_cast refl;
  a_field_through_super = looked_up fields.a_field_through_super refl;
  no_this_in_static_code = looked_up fields.no_this_in_static_code refl;
  an_instance_field_in_static_code = looked_up fields.an_instance_field_in_static_code refl;
  an_instance_field_in_static_code_the_code_is_static = (static_context_tells (rows_of fields.an_instance_field_in_static_code) 21).0 refl;
  an_instance_field_in_static_code_the_field_is_not_static = no (static_tells (rows_of fields.an_instance_field_in_static_code) 16) refl;
  a_field_of_a_named_type = looked_up fields.a_field_of_a_named_type refl;
  a_field_of_a_named_type_the_type_before_the_dot_is_a_part = (part_tells (rows_of fields.a_field_of_a_named_type) (table_of fields.a_field_of_a_named_type) 26).0 refl;
  a_parameter_obscures_a_type = looked_up fields.a_parameter_obscures_a_type refl;
  the_length_of_an_array = looked_up fields.the_length_of_an_array refl;
  a_member_extends_its_class = looked_up fields.a_member_extends_its_class refl;
}
