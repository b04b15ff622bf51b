use Rattle.std.proofs.Common.{refl}
use Rattle.jr_worked_bindings.proofs.Bindings.{bound_and_settled}
use Rattle.jr_worked.specs.Imports as imports
use Rattle.jr_worked_bindings.proofs.law.bindings_of_imports.Goals as goal

pub returns : goal.returns
returns c = record {
  a_field_of_a_type_of_a_package = bound_and_settled imports.a_field_of_a_type_of_a_package refl refl;
  a_field_obscures_a_package = bound_and_settled imports.a_field_obscures_a_package refl refl;
  packages_need_no_unit = bound_and_settled imports.packages_need_no_unit refl refl;
  an_import_by_name_shadows_the_package = bound_and_settled imports.an_import_by_name_shadows_the_package refl refl;
  the_package_shadows_an_import_on_demand = bound_and_settled imports.the_package_shadows_an_import_on_demand refl refl;
  an_import_on_demand = bound_and_settled imports.an_import_on_demand refl refl;
  two_imports_on_demand = bound_and_settled imports.two_imports_on_demand refl refl;
  an_import_on_demand_brings_what_is_accessible = bound_and_settled imports.an_import_on_demand_brings_what_is_accessible refl refl;
  no_name_for_types_of_the_unnamed_package = bound_and_settled imports.no_name_for_types_of_the_unnamed_package refl refl;
  a_static_import = bound_and_settled imports.a_static_import refl refl;
  a_member_method_shadows_a_static_import = bound_and_settled imports.a_member_method_shadows_a_static_import refl refl;
  a_member_does_not_pass_through_another_package = bound_and_settled imports.a_member_does_not_pass_through_another_package refl refl;
  a_protected_field_is_reached_through_the_subclass = bound_and_settled imports.a_protected_field_is_reached_through_the_subclass refl refl;
  an_import_of_the_own_type = bound_and_settled imports.an_import_of_the_own_type refl refl;
  two_types_of_one_package = bound_and_settled imports.two_types_of_one_package refl refl;
  an_import_on_demand_brings_no_inherited_type = bound_and_settled imports.an_import_on_demand_brings_no_inherited_type refl refl;
}
