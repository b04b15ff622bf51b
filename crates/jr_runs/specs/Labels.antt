-- Labels by groups, so that their equality is tested group by group.
use Rattle.std.specs.Prelude.{ℕ, Bool, true, false, Option, Some, None}
use Rattle.jr_tree.specs.declared.label.Label.{Label}
use Rattle.jr_tree.specs.declared.label.Label.TheVariants as is

-- the number of a label that has nothing besides
abbrev pub number_of_declaration : Label → Option ℕ
number_of_declaration is.Program = Some 0
number_of_declaration is.Unit = Some 1
number_of_declaration is.Package = Some 2
number_of_declaration is.Body = Some 3
number_of_declaration is.DefaultConstructor = Some 4
number_of_declaration is.ImplicitCall = Some 5
number_of_declaration is.Value = Some 6
number_of_declaration is.List = Some 7
number_of_declaration _ = None

abbrev pub number_of_simple : Label → Option ℕ
number_of_simple is.Block = Some 10
number_of_simple is.Nest = Some 11
number_of_simple is.Locals = Some 12
number_of_simple is.Skip = Some 13
number_of_simple is.Do = Some 14
number_of_simple is.While = Some 15
number_of_simple is.If = Some 16
number_of_simple is.Eval = Some 17
number_of_simple _ = None

abbrev pub number_of_statement : Label → Option ℕ
number_of_statement is.ForLocals = Some 20
number_of_statement is.ForExprs = Some 21
number_of_statement is.Switch = Some 22
number_of_statement is.Group = Some 23
number_of_statement is.Case = Some 24
number_of_statement is.Default = Some 25
number_of_statement is.Labeled = Some 26
number_of_statement is.Return = Some 27
number_of_statement is.Throw = Some 28
number_of_statement is.Catch = Some 29
number_of_statement _ = None

abbrev pub number_of_expression : Label → Option ℕ
number_of_expression is.Conditional = Some 30
number_of_expression is.IsA = Some 31
number_of_expression is.Cast = Some 32
number_of_expression is.Paren = Some 33
number_of_expression is.Select = Some 34
number_of_expression is.SuperSelect = Some 35
number_of_expression is.Index = Some 36
number_of_expression is.New = Some 37
number_of_expression _ = None

abbrev pub first_some : Option ℕ → Option ℕ → Option ℕ
first_some (Some n) other = Some n
first_some None other = other

abbrev pub number_of : Label → Option ℕ
number_of l = first_some (first_some (number_of_declaration l) (number_of_simple l)) (first_some (number_of_statement l) (number_of_expression l))

abbrev pub is_type_like : Label → Bool
is_type_like (is.Import kind) = true
is_type_like (is.Class modifiers is_member) = true
is_type_like (is.Interface modifiers is_member) = true
is_type_like (is.EmptyDecl is_member) = true
is_type_like _ = false

abbrev pub is_member_like : Label → Bool
is_member_like (is.Fields modifiers) = true
is_member_like (is.Field modifiers dims) = true
is_member_like (is.Method modifiers is_void has_body) = true
is_member_like (is.Constructor modifiers) = true
is_member_like (is.Initializer is_static) = true
is_member_like _ = false

abbrev pub is_variable_like : Label → Bool
is_variable_like (is.Parameter is_final dims) = true
is_variable_like (is.Local is_final dims) = true
is_variable_like _ = false

abbrev pub is_statement_like : Label → Bool
is_statement_like (is.For has_first has_condition) = true
is_statement_like (is.Break has_label) = true
is_statement_like (is.Continue has_label) = true
is_statement_like (is.Try has_finally) = true
is_statement_like (is.ConstructorCall which) = true
is_statement_like _ = false

abbrev pub is_operation_like : Label → Bool
is_operation_like (is.Assign op) = true
is_operation_like (is.Binary op) = true
is_operation_like (is.Unary op) = true
is_operation_like (is.PreStep op) = true
is_operation_like (is.PostStep op) = true
is_operation_like _ = false

abbrev pub is_operand_like : Label → Bool
is_operand_like (is.Name kind place is_qualified) = true
is_operand_like (is.TypeUse primitive dims) = true
is_operand_like (is.Literal kind) = true
is_operand_like (is.This is_qualified) = true
is_operand_like (is.Call receiver) = true
is_operand_like (is.NewArray primitive lengths more) = true
is_operand_like _ = false
