-- A rule is known by its number.
use Rattle.std.proofs.Common.{◌≡◌, refl, sym, ◌∙◌, ap, subst, ⊎_elim, ℕ, true, false, List, [], ◌∷◌, slice_index_or}
use Rattle.std.specs.List.{AllByRecursion}
use Rattle.std.proofs.lemmas.Bool.{false≢true, or_cases}
use Rattle.std.proofs.lemmas.Bool.Decides.{Decides-eqb}
use Rattle.jr_rule.specs.declared.Rule.{Rule}
use Rattle.jr_rule.specs.declared.Rule.TheVariants as rule
use Rattle.jr_rule.specs.Numbers.{number_of}
use Rattle.jr_type_faults.specs.Faults.{is_same, is_among}

-- the rules by their numbers; none has the number 0
abbrev rules : List Rule
rules = rule.Modifiers
    ∷ rule.Modifiers ∷ rule.TypeNames ∷ rule.FieldNames ∷ rule.MethodSignatures ∷ rule.ConstructorSignatures ∷ rule.LocalNames
    ∷ rule.Labels ∷ rule.ImportNames ∷ rule.ImportedTypes ∷ rule.Access ∷ rule.StaticContext ∷ rule.ForwardReference
    ∷ rule.Supertypes ∷ rule.AbstractMembers ∷ rule.Results ∷ rule.NarrowedAccess ∷ rule.StaticOverride ∷ rule.FinalOverride
    ∷ rule.OverrideThrows ∷ rule.Bodies ∷ rule.InnerStatics ∷ rule.ConstructorCycle ∷ rule.Throwable ∷ rule.Operands
    ∷ rule.Assignable ∷ rule.Variable ∷ rule.Cast ∷ rule.Condition ∷ rule.Switch ∷ rule.VoidValue
    ∷ rule.Return ∷ rule.Abstract ∷ rule.Index ∷ rule.Jump ∷ rule.Branches ∷ rule.Unreachable
    ∷ rule.Completion ∷ rule.UnassignedLocal ∷ rule.FinalAssignment ∷ rule.UnassignedFinal ∷ rule.UncaughtException ∷ rule.UnthrownCatch
    ∷ rule.CoveredCatch ∷ rule.PathTwice ∷ rule.TypeChange ∷ rule.HeaderCycle ∷ rule.StaticImports ∷ []

abbrev rule_by : ℕ → Rule
rule_by n = slice_index_or rules n rule.Modifiers

back : (one : Rule) → rule_by (number_of one) ≡ one
back rule.Modifiers = refl
back rule.TypeNames = refl
back rule.FieldNames = refl
back rule.MethodSignatures = refl
back rule.ConstructorSignatures = refl
back rule.LocalNames = refl
back rule.Labels = refl
back rule.ImportNames = refl
back rule.ImportedTypes = refl
back rule.Access = refl
back rule.StaticContext = refl
back rule.ForwardReference = refl
back rule.Supertypes = refl
back rule.AbstractMembers = refl
back rule.Results = refl
back rule.NarrowedAccess = refl
back rule.StaticOverride = refl
back rule.FinalOverride = refl
back rule.OverrideThrows = refl
back rule.Bodies = refl
back rule.InnerStatics = refl
back rule.ConstructorCycle = refl
back rule.Throwable = refl
back rule.Operands = refl
back rule.Assignable = refl
back rule.Variable = refl
back rule.Cast = refl
back rule.Condition = refl
back rule.Switch = refl
back rule.VoidValue = refl
back rule.Return = refl
back rule.Abstract = refl
back rule.Index = refl
back rule.Jump = refl
back rule.Branches = refl
back rule.Unreachable = refl
back rule.Completion = refl
back rule.UnassignedLocal = refl
back rule.FinalAssignment = refl
back rule.UnassignedFinal = refl
back rule.UncaughtException = refl
back rule.UnthrownCatch = refl
back rule.CoveredCatch = refl
back rule.PathTwice = refl
back rule.TypeChange = refl
back rule.HeaderCycle = refl
back rule.StaticImports = refl

pub same_rule : (one other : Rule) → number_of one ≡ number_of other → one ≡ other
same_rule one other e = sym (back one) ∙ ap rule_by e ∙ back other

-- what holds of each of the rules holds of one that is among them
pub among_holds : (P : Rule → Type 0) (all : List Rule) (one : Rule) → AllByRecursion P all → is_among all one ≡ true → P one
among_holds P [] one each e = absurd (false≢true e)
among_holds P (first ∷ more) one each e = ⊎_elim (λ same. subst P (same_rule first one ((Decides-eqb (number_of first) (number_of one)).0 same)) each.0) (λ rest. among_holds P more one each.1 rest)
    (or_cases (is_same first one) (is_among more one) e)
