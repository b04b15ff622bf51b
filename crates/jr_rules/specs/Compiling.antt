-- Compiling by the rules that are defined so far: those on names, members, types and static contexts.
use Rattle.std.specs.Prelude.{◌⊎◌, ℕ}
use Rattle.jr_base.specs.Files.{FileMap}
use Rattle.jr_tree.specs.Rows.{Rows}
use Rattle.jr_defs.specs.declared.program.Program.{Program}
use Rattle.jr_defs.specs.Referents.{Table}
use Rattle.jr_defs.specs.Compiling.{CompilesBy, BreaksAny}
use Rattle.jr_rules.specs.TypeRules.{BreaksTypes}

-- the rule is broken at the row; a later layer adds those on reachability, assignment and thrown classes
abbrev pub BreaksAll : Rows → Table → ℕ → ℕ → Type 0
BreaksAll p t rule place = BreaksAny p t rule place ⊎ BreaksTypes p t rule place

-- the files compile, by these rules
abbrev pub Compiles : FileMap → Program → Table → Type 0
Compiles = CompilesBy BreaksAll

-- no rule on types or static contexts is broken
abbrev pub KeepsTypes : Rows → Table → Type 0
KeepsTypes p t = (rule place : ℕ) → BreaksTypes p t rule place → ⊥
