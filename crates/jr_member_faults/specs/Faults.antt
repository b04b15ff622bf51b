-- The faults that the rules on members find, and the rows at which the definitions break them.
use Rattle.std.specs.Prelude.{ℕ, Bool, true, false, ◌&&◌, ◌||◌, List, length, is_some}
use Rattle.jr_tree.specs.declared.label.Role.{Role}
use Rattle.jr_tree.specs.declared.label.Role.TheVariants as role
use Rattle.jr_tree.specs.Rows.{Rows, label, role_at}
use Rattle.jr_plain.specs.Same.{same_role}
use Rattle.jr_plain.specs.Search.{all_such}
use Rattle.jr_rule.specs.declared.Fault.{Fault}
use Rattle.jr_rule.specs.declared.Rule.{Rule}
use Rattle.jr_rule.specs.declared.Rule.TheVariants as rule
use Rattle.jr_rule.specs.Numbers.{number_of}
use Rattle.jr_rule.specs.Faults.{AreFaultsOf}
use Rattle.jr_supers.specs.Direct.{header_place}
use Rattle.jr_name_rules.specs.Computed.{breaks}
use Rattle.jr_name_rules.specs.DeclarationTests.{is_second_type, is_second_field, is_second_method, is_second_constructor, is_inside_its_name}
use Rattle.jr_name_rules.specs.HeaderTests.{has_wrong_supertype}
use Rattle.jr_member_rules.specs.Bodies.{is_initializer, stands_wrong}
use Rattle.jr_member_rules.specs.Inner.{is_static_there}
use Rattle.jr_member_rules.specs.Computed.{values, breaks_members}
use Rattle.jr_faults.specs.Added.{is_rule}
use Rattle.jr_view.specs.declared.View.{View}
use Rattle.jr_member_faults.specs.Views.{rows_in, table_in, IsNamedWorld, IsSignedWorld, IsRightWorld, IsValuedView}
use Rattle.jr_member_faults.specs.Methods.{AreFaultsOn}

-- ---- the rows that are looked at

-- a type, field, method or constructor
abbrev pub declares : Role → Bool
declares role.Type = true
declares role.Field = true
declares role.Method = true
declares role.Constructor = true
declares _ = false

-- such a declaration, an initializer, or a name in a header
abbrev pub is_of_members : Rows → ℕ → Bool
is_of_members p n = declares (role_at p n) || (is_initializer (label p n) || is_some (header_place (label p n)))

-- ---- the rules

-- the rule that a body breaks which declares a second one of the role
abbrev pub second_rule : Role → Rule
second_rule role.Field = rule.FieldNames
second_rule role.Method = rule.MethodSignatures
second_rule role.Constructor = rule.ConstructorSignatures
second_rule _ = rule.TypeNames

-- the rule of the role is broken at a row of the other role
abbrev pub is_second_as : Role → Role → Bool → Bool
is_second_as kind given is_second = same_role given kind && is_second

-- the role is none that has a rule of its own
abbrev pub is_of_type_rule : Role → Bool
is_of_type_rule role.Field = false
is_of_type_rule role.Method = false
is_of_type_rule role.Constructor = false
is_of_type_rule _ = true

-- a second one of a role that has no rule of its own, or a type in one of its own name
abbrev pub is_type_clash : Rows → ℕ → Role → Bool → Bool
is_type_clash p n given is_second = is_of_type_rule given && (is_second || is_inside_its_name p n)

-- rule 2 inside types: a body declares two types of one name, or a type stands in one of its own name (JLS 8.1, 8.5)
abbrev pub has_member_type_clash : Rows → ℕ → Bool
has_member_type_clash p n = is_second_type p n || is_inside_its_name p n

abbrev pub is_of_declared : Rule → Bool
is_of_declared one = is_rule rule.FieldNames one || (is_rule rule.MethodSignatures one || (is_rule rule.ConstructorSignatures one || is_rule rule.TypeNames one))

abbrev pub is_of_methods : Rule → Bool
is_of_methods one = ((((is_rule rule.AbstractMembers one || is_rule rule.Results one) || is_rule rule.NarrowedAccess one) || is_rule rule.StaticOverride one) || is_rule rule.FinalOverride one) || is_rule rule.OverrideThrows one

-- the rules 2 to 5 and 13 to 21
abbrev pub is_on_members : Rule → Bool
is_on_members one = (((is_of_declared one || is_rule rule.Supertypes one) || is_of_methods one) || is_rule rule.Bodies one) || is_rule rule.InnerStatics one

-- the faults of the rules that were added, at the rows that a test gives
pub record AreMemberFaultsOn (view : View) (rows_of : (ℕ → Bool) → List ℕ) (old new : List Fault) : Type 0 where
  pub bodies : AreFaultsOf rule.Bodies (rows_of (stands_wrong (rows_in view))) old new
  pub statics : IsValuedView view → AreFaultsOf rule.InnerStatics (rows_of (is_static_there (rows_in view) (table_in view) (values (rows_in view) (table_in view)))) old new
  pub supertypes : AreFaultsOf rule.Supertypes (rows_of (has_wrong_supertype (rows_in view) (table_in view))) old new
  pub fields : IsNamedWorld view.sight.world → AreFaultsOf rule.FieldNames (rows_of (is_second_field (rows_in view))) old new
  pub methods : IsNamedWorld view.sight.world → IsSignedWorld view.sight.world → AreFaultsOf rule.MethodSignatures (rows_of (is_second_method (rows_in view) (table_in view))) old new
  pub constructors : IsSignedWorld view.sight.world → AreFaultsOf rule.ConstructorSignatures (rows_of (is_second_constructor (rows_in view) (table_in view))) old new
  pub types : IsNamedWorld view.sight.world → AreFaultsOf rule.TypeNames (rows_of (has_member_type_clash (rows_in view))) old new
  pub on_methods : IsRightWorld view.sight.world → AreFaultsOn view.sight.world rows_of old new

-- the faults of a rule on members that were added are those of the definition
abbrev pub AreExactOnMembers : View → Rule → List Fault → List Fault → Type 0
AreExactOnMembers view rule old new = AreFaultsOf rule (all_such (length (rows_in view)) (breaks_members (rows_in view) (table_in view) (number_of rule))) old new

-- the same of a rule on declarations and headers
abbrev pub AreExactOnDeclarations : View → Rule → List Fault → List Fault → Type 0
AreExactOnDeclarations view rule old new = AreFaultsOf rule (all_such (length (rows_in view)) (breaks (rows_in view) (table_in view) (number_of rule))) old new

-- the rules that are exact, each where the tables that it reads are right
pub record AreMemberFaults (view : View) (old new : List Fault) : Type 0 where
  pub bodies : AreExactOnMembers view rule.Bodies old new
  pub statics : IsValuedView view → AreExactOnMembers view rule.InnerStatics old new
  pub supertypes : AreExactOnDeclarations view rule.Supertypes old new
  pub fields : IsNamedWorld view.sight.world → AreExactOnDeclarations view rule.FieldNames old new
  pub methods : IsNamedWorld view.sight.world → IsSignedWorld view.sight.world → AreExactOnDeclarations view rule.MethodSignatures old new
  pub constructors : IsSignedWorld view.sight.world → AreExactOnDeclarations view rule.ConstructorSignatures old new
  pub types : IsNamedWorld view.sight.world → AreFaultsOf rule.TypeNames (all_such (length (rows_in view)) (has_member_type_clash (rows_in view))) old new
  pub abstracts : IsRightWorld view.sight.world → AreExactOnMembers view rule.AbstractMembers old new
  pub results : IsRightWorld view.sight.world → AreExactOnMembers view rule.Results old new
  pub access : IsRightWorld view.sight.world → AreExactOnMembers view rule.NarrowedAccess old new
  pub mixed : IsRightWorld view.sight.world → AreExactOnMembers view rule.StaticOverride old new
  pub finals : IsRightWorld view.sight.world → AreExactOnMembers view rule.FinalOverride old new
  pub throws : IsRightWorld view.sight.world → AreExactOnMembers view rule.OverrideThrows old new
