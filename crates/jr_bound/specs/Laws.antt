-- The laws of the binding of a program of files.
use Rattle.std.specs.Prelude.{◌≡◌, ◌⊎◌, ◌↔◌, ℕ, true, false, Some, None, Decides}
use Rattle.jr_tree.specs.Rows.{Rows}
use Rattle.jr_defs.specs.Referents.{Table}
use Rattle.jr_defs.specs.Overriding.{Found}
use Rattle.jr_defs.specs.Compiling.{KeepsRules}
use Rattle.jr_defs.specs.Binding.{IsBinding, HasCycle, IsFirstOnCycle}
use Rattle.jr_plain.specs.Search.{Finds}
use Rattle.jr_plain.specs.Typing.{IsTypable}
use Rattle.jr_headers.specs.Growing.{has_settled_headers, cycle_of}
use Rattle.jr_binding.specs.Laws.{IsOnlyBinding}
use Rattle.jr_rules.specs.TypeRules.{BreaksTypes}
use Rattle.jr_rules.specs.Computed.{breaks_types}
use Rattle.jr_rules.specs.Compiling.{BreaksAll}
use Rattle.jr_bound.specs.Bound.{the_binding, binding_of}
use Rattle.jr_bound.specs.Found.{keeps_rules}

-- where headers are settled, what is computed is the binding: the only one
abbrev pub IsBoundWhereSettled : Rows → Type 0
IsBoundWhereSettled p = has_settled_headers p ≡ true → IsOnlyBinding p (the_binding p)

-- where they are not, there is none
abbrev pub IsUnboundElse : Rows → Type 0
IsUnboundElse p = has_settled_headers p ≡ false → (t : Table) → IsBinding p t → ⊥

-- so whether there is a binding is decided
abbrev pub HasBindingDecided : Rows → Type 0
HasBindingDecided p = Decides (has_settled_headers p) ((t : Table) × IsBinding p t)

-- a table is the binding exactly where it is what is computed
abbrev pub BindingIsComputed : Rows → Type 0
BindingIsComputed p = (t : Table) → binding_of p ≡ Some t ↔ IsBinding p t

-- ---- cycles of headers

-- a program with a cycle of headers has no binding
abbrev pub HasNoneBesideCycle : Rows → Type 0
HasNoneBesideCycle p = HasCycle p → (t : Table) → IsBinding p t → ⊥

-- it has the one or the other
abbrev pub HasCycleOrBinding : Rows → Type 0
HasCycleOrBinding p = HasCycle p ⊎ ((t : Table) × IsBinding p t)

-- the type that is found is the first one on a cycle, and it is found where there is one
abbrev pub FindsFirstOnCycle : Rows → Type 0
FindsFirstOnCycle p = Finds (cycle_of p) (IsFirstOnCycle p)

-- so there is a binding exactly where none is found
abbrev pub IsBoundWhereNoneFound : Rows → Type 0
IsBoundWhereNoneFound p = cycle_of p ≡ None ↔ (t : Table) × IsBinding p t

-- ---- rules

-- in a binding an expression has one type at most
abbrev pub BindingIsTypable : Rows → Type 0
BindingIsTypable p = (t : Table) → IsBinding p t → IsTypable p t

-- so each rule on types and static contexts is decided at each row
abbrev pub TypeRulesAreDecided : Rows → Type 0
TypeRulesAreDecided p = (t : Table) (rule n : ℕ) → IsBinding p t → Decides (breaks_types p t rule n) (BreaksTypes p t rule n)

-- and whether the program keeps all rules that are defined so far: it has a binding, in which all is found and none is broken
abbrev pub KeepingIsDecided : Rows → Type 0
KeepingIsDecided p = Decides (keeps_rules p) ((t : Table) × KeepsRules p t BreaksAll)

-- ---- dispatch

-- a call finds one method at most in a class, whatever names refer to
abbrev pub CallsFindOne : Rows → Type 0
CallsFindOne p = (t : Table) (c m f g : ℕ) → Found p t c m f → Found p t c m g → f ≡ g
