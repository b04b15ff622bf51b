use Rattle.std.proofs.Common.{refl, Some}
use Rattle.jr_defs.specs.Types.{class_type}
use Rattle.jr_plain.proofs.Accessed.{accessible_tells}
use Rattle.jr_plain.proofs.Declared.{occurrence_tells, part_tells}
use Rattle.jr_plain.proofs.Imported.{single_import_tells}
use Rattle.jr_worked.specs.Tables.{rows_of, table_of}
use Rattle.jr_worked.proofs.Checked.{looked_up, typable_of, no}
use Rattle.jr_worked.specs.Imports as imports
use Rattle.jr_worked.proofs.law.worked_imports.Goals as goal

pub returns : goal.returns
returns c = record {
  a_field_of_a_type_of_a_package = looked_up imports.a_field_of_a_type_of_a_package refl;
  a_field_of_a_type_of_a_package_the_package_is_a_part = (part_tells (rows_of imports.a_field_of_a_type_of_a_package) (table_of imports.a_field_of_a_type_of_a_package) 22).0 refl;
  a_field_of_a_type_of_a_package_the_type_is_a_part = (part_tells (rows_of imports.a_field_of_a_type_of_a_package) (table_of imports.a_field_of_a_type_of_a_package) 21).0 refl;
  a_field_obscures_a_package = looked_up imports.a_field_obscures_a_package refl;
  packages_need_no_unit = looked_up imports.packages_need_no_unit refl;
  an_import_by_name_shadows_the_package = looked_up imports.an_import_by_name_shadows_the_package refl;
  the_package_shadows_an_import_on_demand = looked_up imports.the_package_shadows_an_import_on_demand refl;
  an_import_on_demand = looked_up imports.an_import_on_demand refl;
  two_imports_on_demand = looked_up imports.two_imports_on_demand refl;
  an_import_on_demand_brings_what_is_accessible = looked_up imports.an_import_on_demand_brings_what_is_accessible refl;
  no_name_for_types_of_the_unnamed_package = looked_up imports.no_name_for_types_of_the_unnamed_package refl;
  a_static_import = looked_up imports.a_static_import refl;
  a_static_import_the_import_itself_is_no_occurrence = no (occurrence_tells (rows_of imports.a_static_import) 26) refl;
  a_member_method_shadows_a_static_import = looked_up imports.a_member_method_shadows_a_static_import refl;
  a_member_does_not_pass_through_another_package = looked_up imports.a_member_does_not_pass_through_another_package refl;
  a_protected_field_is_reached_through_the_subclass = looked_up imports.a_protected_field_is_reached_through_the_subclass refl;
  a_protected_field_is_reached_through_the_subclass_through_the_subclass = (accessible_tells (rows_of imports.a_protected_field_is_reached_through_the_subclass) (table_of imports.a_protected_field_is_reached_through_the_subclass) (typable_of imports.a_protected_field_is_reached_through_the_subclass refl).headed 18 41 (Some (class_type 25))).0 refl;
  a_protected_field_is_reached_through_the_subclass_not_through_the_superclass = no (accessible_tells (rows_of imports.a_protected_field_is_reached_through_the_subclass) (table_of imports.a_protected_field_is_reached_through_the_subclass) (typable_of imports.a_protected_field_is_reached_through_the_subclass refl).headed 18 43 (Some (class_type 12))) refl;
  an_import_of_the_own_type = looked_up imports.an_import_of_the_own_type refl;
  an_import_of_the_own_type_the_import_is_ignored = no (single_import_tells (rows_of imports.an_import_of_the_own_type) (table_of imports.an_import_of_the_own_type) 9 15) refl;
  two_types_of_one_package = looked_up imports.two_types_of_one_package refl;
  an_import_on_demand_brings_no_inherited_type = looked_up imports.an_import_on_demand_brings_no_inherited_type refl;
}
