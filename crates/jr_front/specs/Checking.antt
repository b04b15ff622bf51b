-- What is said of files: that their program is found, or the first reason why there is none, or why it does not compile.
use Rattle.std.specs.Prelude.{Result, Ok, Err}
use Rattle.jr_base.specs.Files.{FileMap}
use Rattle.jr_defs.specs.declared.program.Program.{Program}
use Rattle.jr_defs.specs.Referents.{Table}
use Rattle.jr_read.specs.Reading.{ReadsAs}
use Rattle.jr_read.specs.declared.fault.ReadFault.{ReadFault}
use Rattle.jr_read.specs.declared.fault.ReadFault.TheVariants as unread
use Rattle.jr_front.specs.Compiling.{Compiles}
use Rattle.jr_front.specs.Refusing.{IsRefusal}
use Rattle.jr_front.specs.declared.fault.FrontFault.{FrontFault}
use Rattle.jr_front.specs.declared.fault.FrontFault.TheVariants as fault
use Rattle.jr_front.specs.declared.workspace.Workspace.{Workspace}

-- why files are no program, as a reason why they do not compile
abbrev pub fault_of : ReadFault → FrontFault
fault_of (unread.TooLarge size) = fault.TooLarge size
fault_of (unread.Lex cu why) = fault.Lex cu why
fault_of (unread.Parse cu why at) = fault.Parse why (record { cu = cu; at = at })
fault_of unread.OutOfMemory = fault.OutOfMemory

-- what is said of the files: those that are accepted are a program, which compiles; those that are refused are no program, or one of which the first cause holds
pub data CheckedAs (found : FileMap) : Result (Unit {0}) FrontFault → Type 0 where
  accepted : {program : Program} {table : Table} → ReadsAs found (Ok program) → Compiles found program table → CheckedAs found (Ok tt)
  refused : {program : Program} {why : FrontFault} → ReadsAs found (Ok program) → IsRefusal program why → CheckedAs found (Err why)
  not_read : {why : ReadFault} → ReadsAs found (Err why) → CheckedAs found (Err (fault_of why))

-- what is found, without its tables
abbrev pub forgotten : Result Workspace FrontFault → Result (Unit {0}) FrontFault
forgotten (Ok workspace) = Ok tt
forgotten (Err why) = Err why
