use Rattle.std.proofs.Common.{refl}
use Rattle.jr_worked.proofs.Checked.{looked_up, constant_is, no_constant, type_is, no_type}
use Rattle.jr_worked.specs.Constants as constants
use Rattle.jr_worked.proofs.law.worked_constants.Goals as goal

pub returns : goal.returns
returns c = record {
  a_constant_label = looked_up constants.a_constant_label refl;
  a_constant_label_the_label_is_constant = constant_is constants.a_constant_label refl 28 _ refl;
  a_label_through_this = looked_up constants.a_label_through_this refl;
  a_label_through_this_the_label_is_not_constant = no_constant constants.a_label_through_this refl 28 refl;
  variables_that_need_each_other = looked_up constants.variables_that_need_each_other refl;
  variables_that_need_each_other_the_first_is_not_constant = no_constant constants.variables_that_need_each_other refl 18 refl;
  variables_that_need_each_other_the_second_is_not_constant = no_constant constants.variables_that_need_each_other refl 23 refl;
  a_choice_of_byte_and_char = looked_up constants.a_choice_of_byte_and_char refl;
  a_choice_of_byte_and_char_the_byte_is_constant = constant_is constants.a_choice_of_byte_and_char refl 30 _ refl;
  a_choice_of_byte_and_char_the_char_is_constant = constant_is constants.a_choice_of_byte_and_char refl 31 _ refl;
  a_choice_of_byte_and_char_the_choice_is_constant = constant_is constants.a_choice_of_byte_and_char refl 28 _ refl;
  a_choice_of_byte_and_char_the_choice_is_an_int = type_is constants.a_choice_of_byte_and_char refl 28 _ refl;
  an_object_is_no_string = looked_up constants.an_object_is_no_string refl;
  an_object_is_no_string_the_sum_has_no_type = no_type constants.an_object_is_no_string refl 24 refl;
}
