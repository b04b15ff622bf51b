use Rattle.std.proofs.Common.{refl}
use Rattle.jr_worked_bindings.proofs.Bindings.{bound_and_settled}
use Rattle.jr_worked.specs.Fields as fields
use Rattle.jr_worked_bindings.proofs.law.bindings_of_fields.Goals as goal

pub returns : goal.returns
returns c = record {
  a_field_of_the_inner_class = bound_and_settled fields.a_field_of_the_inner_class refl refl;
  a_field_of_the_outer_class = bound_and_settled fields.a_field_of_the_outer_class refl refl;
  an_inherited_field_shadows_an_enclosing_one = bound_and_settled fields.an_inherited_field_shadows_an_enclosing_one refl refl;
  a_private_field_is_not_inherited = bound_and_settled fields.a_private_field_is_not_inherited refl refl;
  private_reaches_the_top_level_type = bound_and_settled fields.private_reaches_the_top_level_type refl refl;
  two_inherited_fields = bound_and_settled fields.two_inherited_fields refl refl;
  one_field_by_two_ways = bound_and_settled fields.one_field_by_two_ways refl refl;
  a_field_through_a_cast = bound_and_settled fields.a_field_through_a_cast refl refl;
  a_field_through_super = bound_and_settled fields.a_field_through_super refl refl;
  no_this_in_static_code = bound_and_settled fields.no_this_in_static_code refl refl;
  an_instance_field_in_static_code = bound_and_settled fields.an_instance_field_in_static_code refl refl;
  a_field_of_a_named_type = bound_and_settled fields.a_field_of_a_named_type refl refl;
  a_parameter_obscures_a_type = bound_and_settled fields.a_parameter_obscures_a_type refl refl;
  the_length_of_an_array = bound_and_settled fields.the_length_of_an_array refl refl;
  a_member_extends_its_class = bound_and_settled fields.a_member_extends_its_class refl refl;
}
