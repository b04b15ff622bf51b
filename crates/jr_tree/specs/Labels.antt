-- What a label declares, what it looks for, and how many nodes of the tree it stands for.
use Rattle.std.specs.Prelude.{ℕ, Bool, true, false, Option, Some, None, if◌then◌else◌}
use Rattle.jr_tree.specs.declared.tree.ThisOrSuper.TheVariants as which
use Rattle.jr_tree.specs.declared.label.Label.{Label}
use Rattle.jr_tree.specs.declared.label.Label.TheVariants as is
use Rattle.jr_tree.specs.declared.label.NameKind.TheVariants as kind
use Rattle.jr_tree.specs.declared.label.NamePlace.TheVariants as place
use Rattle.jr_tree.specs.declared.label.ReceiverKind.TheVariants as on
use Rattle.jr_tree.specs.declared.label.NameKind.{NameKind}
use Rattle.jr_tree.specs.declared.label.NamePlace.{NamePlace}
use Rattle.jr_tree.specs.declared.label.ReceiverKind.{ReceiverKind}
use Rattle.jr_tree.specs.declared.label.Role.{Role}
use Rattle.jr_tree.specs.declared.label.Role.TheVariants as role
use Rattle.jr_tree.specs.declared.label.Sought.{Sought}
use Rattle.jr_tree.specs.declared.label.Sought.TheVariants as sought

-- what a label declares (JLS 6.1)
abbrev pub role_of : Label → Role
role_of (is.Class modifiers is_member) = role.Type
role_of (is.Interface modifiers is_member) = role.Type
role_of (is.Field modifiers dims) = role.Field
role_of (is.Method modifiers is_void has_body) = role.Method
role_of (is.Constructor modifiers) = role.Constructor
role_of is.DefaultConstructor = role.Constructor
role_of (is.Parameter is_final dims) = role.Parameter
role_of (is.Local is_final dims) = role.Local
role_of is.Labeled = role.Label
role_of _ = role.Nothing

-- a name looks for something by its kind; that of a package declaration does not (JLS 6.5.1)
abbrev pub name_sought : NameKind → Bool → Sought
name_sought kind.Package is_qualified = sought.Nothing
name_sought kind.Variable is_qualified = if is_qualified then sought.Qualified kind.Variable else sought.Simple kind.Variable
name_sought kind.Type is_qualified = if is_qualified then sought.Qualified kind.Type else sought.Simple kind.Type
name_sought kind.PackageOrType is_qualified = if is_qualified then sought.Qualified kind.PackageOrType else sought.Simple kind.PackageOrType
name_sought kind.Ambiguous is_qualified = if is_qualified then sought.Qualified kind.Ambiguous else sought.Simple kind.Ambiguous

abbrev pub call_sought : ReceiverKind → Sought
call_sought on.Absent = sought.Method
call_sought on.Expression = sought.MethodOf
call_sought on.Name = sought.MethodOf
call_sought on.Super = sought.SuperMethod

-- what a label looks for; the name of a constructor refers to its class
abbrev pub sought_by : Label → Sought
sought_by (is.Name kind place is_qualified) = name_sought kind is_qualified
sought_by is.Select = sought.FieldOf
sought_by is.SuperSelect = sought.SuperField
sought_by (is.Call receiver) = call_sought receiver
sought_by is.New = sought.Creation
sought_by (is.ConstructorCall which) = sought.ConstructorCall which
sought_by is.ImplicitCall = sought.ConstructorCall which.Super
sought_by (is.Constructor modifiers) = sought.OwnClass
sought_by (is.Break has_label) = if has_label then sought.Label else sought.Nothing
sought_by (is.Continue has_label) = if has_label then sought.Label else sought.Nothing
sought_by _ = sought.Nothing

-- how many nodes of the tree a row stands for: a name as expression is an expression and a name, a member type a member and a type
abbrev pub name_nodes : NamePlace → ℕ
name_nodes place.Qualifier = 0
name_nodes place.Expression = 2
name_nodes place.Receiver = 2
name_nodes _ = 1

abbrev pub call_nodes : ReceiverKind → ℕ
call_nodes on.Expression = 2
call_nodes on.Super = 2
call_nodes _ = 1

abbrev pub nodes_of : Label → ℕ
nodes_of is.Program = 0
nodes_of (is.Name kind place is_qualified) = name_nodes place
nodes_of (is.Class modifiers is_member) = if is_member then 2 else 1
nodes_of (is.Interface modifiers is_member) = if is_member then 2 else 1
nodes_of (is.EmptyDecl is_member) = if is_member then 2 else 1
nodes_of is.Body = 0
nodes_of is.DefaultConstructor = 0
nodes_of is.ImplicitCall = 0
nodes_of is.Case = 0
nodes_of is.Default = 0
nodes_of (is.Call receiver) = call_nodes receiver
nodes_of _ = 1
