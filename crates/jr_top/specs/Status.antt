-- The exit status of each answer.
use Rattle.std.specs.Prelude.{ℕ}
use Rattle.jr_top.specs.declared.status.Status.{Status}
use Rattle.jr_top.specs.declared.status.Status.TheVariants.{Done, BadWords, BadRequest, NotCompiling, NoSpelling, LostEdge, BrokenRule, StoreFault, SourceFault, SinkFault, TooLarge, OutOfMemory, BadJournal, NoUndo, StillUsed, Differs}

abbrev pub number_of : Status → ℕ
number_of (Done report) = 0
number_of BadWords = 1
number_of (BadRequest request reason field) = 2
number_of (NotCompiling fault) = 3
number_of (NoSpelling request occ place lock) = 4
number_of (LostEdge request edge) = 5
number_of (BrokenRule request rule place) = 6
number_of (StoreFault phase) = 7
number_of SourceFault = 8
number_of (TooLarge what request) = 9
number_of OutOfMemory = 10
number_of BadJournal = 11
number_of (NoUndo reason path) = 12
number_of (StillUsed place) = 13
number_of SinkFault = 14
number_of (Differs request place) = 21
