-- Compiling: the files read, stand at their places, bind, and break no rule. Of the rules those on names and on members are here.
use Rattle.std.specs.Prelude.{◌≡◌, ◌⊎◌, ℕ}
use Rattle.jr_base.specs.Files.{FileMap}
use Rattle.jr_tree.specs.Rows.{Rows}
use Rattle.jr_defs.specs.declared.program.Program.{Program}
use Rattle.jr_defs.specs.declared.referent.Referent.TheVariants.{Unbound, Ambiguous}
use Rattle.jr_defs.specs.Referents.{Table}
use Rattle.jr_defs.specs.Declarations.{IsOccurrence}
use Rattle.jr_defs.specs.Binding.{IsBinding}
use Rattle.jr_defs.specs.Program.{ProgramOf, IsWellPlaced, rows_of}
use Rattle.jr_defs.specs.Rules.{Breaks}
use Rattle.jr_defs.specs.MemberRules.{BreaksMembers}

-- each occurrence refers to one thing
abbrev pub AllFound : Rows → Table → Type 0
AllFound p t = (o : ℕ) → IsOccurrence p o → (t o ≡ Unbound → ⊥) × (t o ≡ Ambiguous → ⊥)

-- the program with this binding keeps the rules B, each by its number and the row where it is broken
pub record KeepsRules (p : Rows) (t : Table) (B : Rows → Table → ℕ → ℕ → Type 0) : Type 0 where
  pub binding : IsBinding p t
  pub found : AllFound p t
  pub kept : (rule place : ℕ) → B p t rule place → ⊥

-- the files compile, by the rules B
pub record CompilesBy (B : Rows → Table → ℕ → ℕ → Type 0) (found : FileMap) (program : Program) (t : Table) : Type 0 where
  pub reads : ProgramOf found program
  pub placed : IsWellPlaced program
  pub keeps : KeepsRules (rows_of program) t B

-- the rules that stand so far: a later layer adds those on types, reachability and assignment
abbrev pub BreaksAny : Rows → Table → ℕ → ℕ → Type 0
BreaksAny p t rule place = Breaks p t rule place ⊎ BreaksMembers p t rule place

abbrev pub Compiles : FileMap → Program → Table → Type 0
Compiles = CompilesBy BreaksAny
