-- The code of an expression, and of a call of a constructor, by the codes of its parts (JLS 15, 8.8.7).
use Rattle.std.specs.Prelude.{ℕ, zero, suc, ◌+◌, Bool, false, if◌then◌else◌, List, [], ◌∷◌, map, Option, Some, None, option_map, is_some}
use Rattle.jr_base.specs.declared.kind.Symbol.{Symbol}
use Rattle.jr_base.specs.declared.kind.Symbol.TheVariants as y
use Rattle.jr_base.specs.declared.constant.Const.{Const}
use Rattle.jr_core.specs.declared.code.Code.{Code}
use Rattle.jr_core.specs.declared.code.Code.TheVariants as c
use Rattle.jr_core.specs.declared.operators.BinaryOp.{BinaryOp}
use Rattle.jr_tree.specs.declared.label.Label.{Label}
use Rattle.jr_tree.specs.declared.label.Label.TheVariants as is
use Rattle.jr_tree.specs.Rows.{parent, end}
use Rattle.jr_defs.specs.declared.referent.RowType.{RowType}
use Rattle.jr_defs.specs.Typing.{operator_of}
use Rattle.jr_plain.specs.Conversions.{of_two}
use Rattle.jr_plain.specs.Supertypes.{is_reference_type}
use Rattle.jr_plain.specs.Types.{type_at}
use Rattle.jr_plain.specs.Typing.{is_plus}
use Rattle.jr_supers.specs.Tabled.{declared}
use Rattle.jr_codes.specs.Facts.{Facts, type_in}
use Rattle.jr_codes.specs.Symbols.{binary_op, unary_op, step_op}
use Rattle.jr_codes.specs.Making.{Below, Made, code, nothing, unknown, code_if, of_none, of_one, of_two_parts, of_three}
use Rattle.jr_codes.specs.Conversions.{int, converted, is_text, shown}
use Rattle.jr_expressions.specs.Names.{this_made, name_made, select_made, super_made, wanted_type}
use Rattle.jr_expressions.specs.Calls.{call_made, new_made, constructor_call_made, implicit_call_made, before}

-- what two and three give, where all are there
abbrev pub of_three_parts : {A B C D : Type 0} → (A → B → C → D) → Option A → Option B → Option C → Option D
of_three_parts g (Some a) (Some b) (Some d) = Some (g a b d)
of_three_parts g _ _ _ = None

-- ---- operators

abbrev pub unary_made : Symbol → Below → Made
unary_made op parts = of_one parts (λ m a. code_if (option_map (λ u. c.Unary u a) (unary_op op)))

abbrev pub step_before_made : Symbol → Below → Made
step_before_made op parts = of_one parts (λ m a. code_if (option_map (λ s. c.PreStep s a) (step_op op)))

abbrev pub step_after_made : Symbol → Below → Made
step_after_made op parts = of_one parts (λ m a. code_if (option_map (λ s. c.PostStep a s) (step_op op)))

-- operands that are evaluated both; those of a sum that is a string are shown (JLS 15.18.1)
abbrev pub joined_made : Option BinaryOp → Option Bool → Facts → Below → Made
joined_made (Some op) (Some is_joined) f parts =
    of_two_parts parts (λ m a k b. code_if (of_two (λ left right. Some (c.Binary left op right)) (shown f m is_joined a) (shown f k is_joined b)))
joined_made _ _ f parts = unknown

-- the operator is `+` and the row is a string
abbrev pub is_joined : Symbol → Facts → ℕ → Option Bool
is_joined op f n = if is_plus op then is_text f n else Some false

abbrev pub strict_made : Symbol → Facts → ℕ → Below → Made
strict_made op f n parts = joined_made (binary_op op) (is_joined op f n) f parts

abbrev pub binary_made : Symbol → Facts → ℕ → Below → Made
binary_made y.AndAnd f n parts = of_two_parts parts (λ m a k b. code (c.AndAlso a b))
binary_made y.OrOr f n parts = of_two_parts parts (λ m a k b. code (c.OrElse a b))
binary_made op f n parts = strict_made op f n parts

abbrev pub conditional_by : Option RowType → Facts → Below → Made
conditional_by (Some to) f parts = of_three parts (λ m a k b l d. code_if (of_two (λ yes no. Some (c.Cond a yes no)) (converted f k to b) (converted f l to d)))
conditional_by None f parts = unknown

abbrev pub conditional_made : Facts → ℕ → Below → Made
conditional_made f n parts = conditional_by (f.typed n) f parts

-- ---- assignments (JLS 15.26)

abbrev pub assigned_as : Option RowType → Facts → Code → ℕ → Code → Option Code
assigned_as (Some to) f a k b = option_map (λ value. c.Assign a None value) (converted f k to b)
assigned_as None f a k b = None

abbrev pub combined_as : Option BinaryOp → Option Bool → Facts → Code → ℕ → Code → Option Code
combined_as (Some op) (Some joined) f a k b = option_map (λ value. c.Assign a (Some op) value) (shown f k joined b)
combined_as _ _ f a k b = None

abbrev pub assign_by : Option Symbol → Facts → Below → Made
assign_by None f parts = of_two_parts parts (λ m a k b. code_if (assigned_as (f.typed m) f a k b))
assign_by (Some op) f parts = of_two_parts parts (λ m a k b. code_if (combined_as (binary_op op) (is_joined op f m) f a k b))

abbrev pub assign_made : Symbol → Facts → Below → Made
assign_made sign f parts = assign_by (operator_of sign) f parts

-- ---- types (JLS 15.16, 15.20.2)

abbrev pub instance_test_by : Option RowType → Facts → Below → Made
instance_test_by (Some tested) f parts = of_one parts (λ m a. code (c.IsA a (type_in f tested)))
instance_test_by None f parts = unknown

abbrev pub instance_test_made : Facts → ℕ → Below → Made
instance_test_made f n parts = instance_test_by (type_at f.rows f.refers (end f.rows (n + 1))) f parts

-- a cast between reference types, which is no code where it widens
abbrev pub reference_cast : Option RowType → Facts → RowType → Code → Option Code
reference_cast (Some from) f to a = Some (if f.is_subtype from to then a else c.Cast (type_in f to) a)
reference_cast None f to a = None

abbrev pub cast_to_type : Facts → ℕ → RowType → Code → Option Code
cast_to_type f m to a = if is_reference_type to then reference_cast (f.typed m) f to a else converted f m to a

abbrev pub cast_by : Option RowType → Facts → Below → Made
cast_by (Some to) f parts = of_one parts (λ m a. code_if (cast_to_type f m to a))
cast_by None f parts = unknown

abbrev pub cast_made : Facts → ℕ → Below → Made
cast_made f n parts = cast_by (type_at f.rows f.refers (n + 1)) f parts

-- ---- arrays (JLS 10.6, 15.10, 15.13)

abbrev pub index_made : Facts → Below → Made
index_made f parts = of_two_parts parts (λ m a k b. code_if (option_map (λ at. c.Index a at) (converted f k int b)))

abbrev pub value_by : Option RowType → Facts → Below → Made
value_by (Some to) f parts = of_one parts (λ m a. code_if (converted f m to a))
value_by None f parts = unknown

abbrev pub value_made : Facts → ℕ → Below → Made
value_made f n parts = value_by (wanted_type f n) f parts

abbrev pub codes_of : Below → List Code
codes_of = map (λ part. part.1)

abbrev pub list_made : Facts → ℕ → Below → Made
list_made f n parts = code_if (option_map (λ to. c.NewArray (type_in f to) [] (Some (codes_of parts))) (wanted_type f n))

abbrev pub lengths : Facts → Below → Option (List Code)
lengths f [] = Some []
lengths f ((m, a) ∷ parts) = before (converted f m int a) (lengths f parts)

abbrev pub new_array_by : Facts → ℕ → Below → Option Code
new_array_by f n parts = of_two (λ to dims. Some (c.NewArray (type_in f to) dims None)) (f.typed n) (lengths f parts)

-- a creation by its lengths, or by a list where it has none
abbrev pub new_array_made : ℕ → Facts → ℕ → Below → Made
new_array_made zero f n parts = of_one parts (λ m a. code a)
new_array_made (suc count) f n parts = code_if (new_array_by f n parts)

-- ---- by the labels of rows

-- one that names something or makes it
abbrev pub named_made : Label → Facts → ℕ → Below → Made
named_made (is.Name kind place is_qualified) f n parts = name_made (f.refers n) f n parts
named_made is.Select f n parts = select_made (f.refers n) f n parts
named_made is.SuperSelect f n parts = super_made (f.around n) (declared (f.refers n)) f parts
named_made (is.This is_qualified) f n parts = this_made f n is_qualified parts
named_made (is.Literal kind) f n parts = of_none parts (code (c.Lit None))
named_made (is.Call receiver) f n parts = call_made (f.refers n) receiver f n parts
named_made is.New f n parts = new_made (f.refers n) f n parts
named_made (is.ConstructorCall which) f n parts = constructor_call_made (f.refers n) which f parts
named_made is.ImplicitCall f n parts = implicit_call_made (f.refers n) f parts
named_made (is.NewArray primitive count more) f n parts = new_array_made count f n parts
named_made _ f n parts = nothing

abbrev pub expression_made : Label → Facts → ℕ → Below → Made
expression_made is.Paren f n parts = of_one parts (λ m a. code a)
expression_made is.Index f n parts = index_made f parts
expression_made is.Value f n parts = value_made f n parts
expression_made is.List f n parts = list_made f n parts
expression_made is.IsA f n parts = instance_test_made f n parts
expression_made (is.Unary op) f n parts = unary_made op parts
expression_made is.Cast f n parts = cast_made f n parts
expression_made (is.PreStep op) f n parts = step_before_made op parts
expression_made (is.PostStep op) f n parts = step_after_made op parts
expression_made (is.Binary op) f n parts = binary_made op f n parts
expression_made is.Conditional f n parts = conditional_made f n parts
expression_made (is.Assign op) f n parts = assign_made op f parts
expression_made label f n parts = named_made label f n parts

-- ---- constants (JLS 15.28)

-- a constant expression is a literal, and what stands in one is no code of its own
abbrev pub constant_made : Const → Facts → ℕ → Below → Made
constant_made v f n parts = if is_some (f.value (parent f.rows n)) then nothing else of_none parts (code (c.Lit (Some v)))
