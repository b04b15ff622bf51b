-- Files that compile: they are the program, each unit stands at its place, the table is the binding, in which all is found, and no rule is broken.
use Rattle.std.specs.Prelude.{ℕ}
use Rattle.jr_base.specs.Files.{FileMap}
use Rattle.jr_tree.specs.Rows.{Rows}
use Rattle.jr_defs.specs.declared.program.Program.{Program}
use Rattle.jr_defs.specs.Compiling.{CompilesBy, KeepsRules}
use Rattle.jr_defs.specs.Program.{rows_of}
use Rattle.jr_defs.specs.Referents.{Table}
use Rattle.jr_rules.specs.Compiling.{BreaksAll}
use Rattle.jr_marks.specs.Made.{AreMade}
use Rattle.jr_marks.specs.declared.marks.Marks.{Marks}
use Rattle.jr_flow_faults.specs.Faults.{BreaksFlow, BreaksThrown}
use Rattle.jr_assign_faults.specs.Finals.{BreaksAssignment}
use Rattle.jr_front.specs.Modifiers.{BreaksMarked}

-- the rule of this number is broken at the row: by rows and what they refer to, or by the tokens of the row
pub data BreaksRule (m : Marks) (p : Rows) (t : Table) (rule place : ℕ) : Type 0 where
  by_types : BreaksAll p t rule place → BreaksRule m p t rule place
  by_flow : BreaksFlow p t rule place → BreaksRule m p t rule place
  by_exceptions : BreaksThrown p t rule place → BreaksRule m p t rule place
  by_assignment : BreaksAssignment p t rule place → BreaksRule m p t rule place
  by_tokens : BreaksMarked m rule place → BreaksRule m p t rule place

-- the table is the binding of the program, in which all is found, and no rule is broken
pub record KeepsAllRules (program : Program) (t : Table) : Type 0 where
  pub marks : Marks
  pub are : AreMade program marks
  pub keeps : KeepsRules (rows_of program) t (BreaksRule marks)

-- the files compile
pub record Compiles (found : FileMap) (program : Program) (t : Table) : Type 0 where
  pub marks : Marks
  pub are : AreMade program marks
  pub compiles : CompilesBy (BreaksRule marks) found program t
