-- Completions other than the normal one: `throw`, `break`, `continue` and `return`, and the ends of frames (JLS 14.1, 14.15 to 14.20, 11.3, 15.12.4).
use Rattle.std.specs.Prelude.{ℕ, Bool, true, false, if◌then◌else◌, List, [], ◌∷◌, ◌++◌, Option, Some, None}
use Rattle.jr_base.specs.declared.ids.DeclId.{DeclId}
use Rattle.jr_base.specs.declared.ids.TypeId.{TypeId}
use Rattle.jr_core.specs.Mirror as m
use Rattle.jr_core.specs.Mirror.{Code, Core}
use Rattle.jr_machine_defs.specs.declared.value.Value.{Value}
use Rattle.jr_machine_defs.specs.declared.value.Value.TheVariants as v
use Rattle.jr_machine_defs.specs.declared.work.Exit.{Exit}
use Rattle.jr_machine_defs.specs.declared.work.Exit.TheVariants as exit
use Rattle.jr_machine_defs.specs.declared.work.Work.{Work}
use Rattle.jr_machine_defs.specs.declared.work.Work.TheVariants as w
use Rattle.jr_machine_defs.specs.declared.state.Purpose.{Purpose}
use Rattle.jr_machine_defs.specs.declared.state.Purpose.TheVariants as purpose
use Rattle.jr_machine_defs.specs.declared.state.RunEnd.TheVariants as ends
use Rattle.jr_machine_defs.specs.declared.state.Frame.{Frame}
use Rattle.jr_machine_defs.specs.declared.state.State.{State}
use Rattle.jr_machine_defs.specs.Values.{same_decl}
use Rattle.jr_machine_defs.specs.Classes.{class_of_object}
use Rattle.jr_machine_defs.specs.Parts.{evals}
use Rattle.jr_machine_defs.specs.Control.{relabeled, catch_for}
use Rattle.jr_machine_defs.specs.States.{Next, add_work, with_work, push_value, set_local, throws}

-- ---- within a frame

-- the completion goes on outwards
abbrev pub goes_on : Exit → State → Next
goes_on leaving s = Some (add_work (w.Exiting leaving ∷ []) s)

-- a `finally` runs first, and then the completion goes on (JLS 14.20.2)
abbrev pub through_finally : m.AnyCodes → Exit → State → Next
through_finally m.no_list leaving s = goes_on leaving s
through_finally (m.a_list last) leaving s = Some (add_work (evals last ++ w.Exiting leaving ∷ []) s)

-- a break ends at a loop or a switch; a continue goes on at a loop (JLS 14.15, 14.16)
abbrev pub at_loop : Code → Exit → State → Next
at_loop loop (exit.Break None) s = Some s
at_loop loop (exit.Continue None) s = Some (add_work (w.AfterBody loop ∷ []) s)
at_loop loop (exit.Continue (Some label)) s = goes_on (exit.Continue (Some label)) s
at_loop loop (exit.Break (Some label)) s = goes_on (exit.Break (Some label)) s
at_loop loop (exit.Throw value) s = goes_on (exit.Throw value) s
at_loop loop (exit.Return value) s = goes_on (exit.Return value) s

abbrev pub at_switch : Exit → State → Next
at_switch (exit.Break None) s = Some s
at_switch leaving s = goes_on leaving s

-- a break with this label ends here, and a continue goes on with the loop (JLS 14.7, 14.15, 14.16)
abbrev pub at_label : DeclId → Code → Exit → State → Next
at_label label code (exit.Break (Some target)) s = if same_decl label target then Some s else goes_on (exit.Break (Some target)) s
at_label label code (exit.Continue (Some target)) s =
    if same_decl label target then Some (with_work (relabeled code s.frame.work) s) else goes_on (exit.Continue (Some target)) s
at_label label code leaving s = goes_on leaving s

abbrev pub after_catch : Code → m.AnyCodes → List Work
after_catch code m.no_list = []
after_catch code (m.a_list last) = w.Finally code ∷ []

-- the catch that fits gets the thrown object and runs, and then the `finally` (JLS 14.20.1)
abbrev pub caught : Code → m.AnyCodes → Option m.Catch → Value → State → Next
caught code last None value s = through_finally last (exit.Throw value) s
caught code last (Some (m.CatchOf class param body)) value s = Some (set_local param value (add_work (evals body ++ after_catch code last) s))

abbrev pub thrown_to : Core → Code → m.Catches → m.AnyCodes → Option TypeId → Value → State → Next
thrown_to core code all last None value s = None
thrown_to core code all last (Some class) value s = caught code last (catch_for core class all) value s

abbrev pub at_try : Core → Code → m.Catches → m.AnyCodes → Exit → State → Next
at_try core code all last (exit.Throw value) s = thrown_to core code all last (class_of_object s.heap value) value s
at_try core code all last leaving s = through_finally last leaving s

abbrev pub at_finishing : Core → Code → Exit → State → Next
at_finishing core (m.Labeled label body) leaving s = at_label label (m.Labeled label body) leaving s
at_finishing core (m.Try body ks last) leaving s = at_try core (m.Try body ks last) ks last leaving s
at_finishing core code leaving s = goes_on leaving s

abbrev pub at_finally : Code → Exit → State → Next
at_finally (m.Try body ks last) leaving s = through_finally last leaving s
at_finally code leaving s = goes_on leaving s

-- an item of work is taken off (JLS 14.1)
abbrev pub unwinds : Core → Exit → Work → State → Next
unwinds core leaving (w.AfterBody loop) s = at_loop loop leaving s
unwinds core leaving w.Breakable s = at_switch leaving s
unwinds core leaving (w.Finish code) s = at_finishing core code leaving s
unwinds core leaving (w.Finally code) s = at_finally code leaving s
unwinds core leaving item s = goes_on leaving s

-- ---- out of a frame

-- a call gives its result to the caller; a constructor and an initializer give none
abbrev pub gives : Purpose → Value → State → State
gives purpose.Method value s = push_value value s
gives purpose.Constructor value s = s
gives (purpose.Initializer class) value s = s

-- the frame is taken off; without a caller the run has ended
abbrev pub leaves : List Frame → Purpose → Value → State → Next
leaves [] kind value s = Some (record s { end = ends.Ended })
leaves (caller ∷ callers) kind value s = Some (gives kind value (record s { frame = caller; callers = callers }))

abbrev pub uncaught : Option TypeId → State → Next
uncaught None s = None
uncaught (Some class) s = Some (record s { end = ends.Uncaught class })

-- a throw goes on in the caller; out of an initialization it ends the run (JLS 12.4.2)
abbrev pub throws_out : Purpose → List Frame → Value → State → Next
throws_out (purpose.Initializer class) callers value s = Some (record s { end = ends.InitFailed class })
throws_out kind [] value s = uncaught (class_of_object s.heap value) s
throws_out kind (caller ∷ callers) value s = Some (throws value (record s { frame = caller; callers = callers }))

abbrev pub leaves_by : Exit → State → Next
leaves_by (exit.Return value) s = leaves s.callers s.frame.purpose value s
leaves_by (exit.Throw value) s = throws_out s.frame.purpose s.callers value s
leaves_by (exit.Break label) s = None
leaves_by (exit.Continue label) s = None
