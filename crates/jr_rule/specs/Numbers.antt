-- The numbers of the rules in answers.
use Rattle.std.specs.Prelude.{ℕ}
use Rattle.jr_rule.specs.declared.Rule.{Rule}
use Rattle.jr_rule.specs.declared.Rule.TheVariants as rule

abbrev pub number_of : Rule → ℕ
number_of rule.Modifiers = 1
number_of rule.TypeNames = 2
number_of rule.FieldNames = 3
number_of rule.MethodSignatures = 4
number_of rule.ConstructorSignatures = 5
number_of rule.LocalNames = 6
number_of rule.Labels = 7
number_of rule.ImportNames = 8
number_of rule.ImportedTypes = 9
number_of rule.Access = 10
number_of rule.StaticContext = 11
number_of rule.ForwardReference = 12
number_of rule.Supertypes = 13
number_of rule.AbstractMembers = 14
number_of rule.Results = 15
number_of rule.NarrowedAccess = 16
number_of rule.StaticOverride = 17
number_of rule.FinalOverride = 18
number_of rule.OverrideThrows = 19
number_of rule.Bodies = 20
number_of rule.InnerStatics = 21
number_of rule.ConstructorCycle = 22
number_of rule.Throwable = 23
number_of rule.Operands = 24
number_of rule.Assignable = 25
number_of rule.Variable = 26
number_of rule.Cast = 27
number_of rule.Condition = 28
number_of rule.Switch = 29
number_of rule.VoidValue = 30
number_of rule.Return = 31
number_of rule.Abstract = 32
number_of rule.Index = 33
number_of rule.Jump = 34
number_of rule.Branches = 35
number_of rule.Unreachable = 36
number_of rule.Completion = 37
number_of rule.UnassignedLocal = 38
number_of rule.FinalAssignment = 39
number_of rule.UnassignedFinal = 40
number_of rule.UncaughtException = 41
number_of rule.UnthrownCatch = 42
number_of rule.CoveredCatch = 43
number_of rule.PathTwice = 44
number_of rule.TypeChange = 45
number_of rule.HeaderCycle = 46
number_of rule.StaticImports = 47
