-- Completions other than the normal one, and the ends of frames, under a renaming.
use Rattle.std.proofs.Common.{◌≡◌, refl, ap, ◌∙◌, List, [], ◌∷◌, ◌++◌, map, Option, Some, None}
use Rattle.std.specs.Option.{option_map}
use Rattle.jr_base.specs.declared.ids.DeclId.{DeclId}
use Rattle.jr_base.specs.declared.ids.TypeId.{TypeId}
use Rattle.jr_core.specs.Mirror as m
use Rattle.jr_core.specs.Mirror.{Code, Core}
use Rattle.jr_machine_defs.specs.declared.value.Value.{Value}
use Rattle.jr_machine_defs.specs.declared.work.Exit.{Exit}
use Rattle.jr_machine_defs.specs.declared.work.Exit.TheVariants as exit
use Rattle.jr_machine_defs.specs.declared.work.Work.{Work}
use Rattle.jr_machine_defs.specs.declared.work.Work.TheVariants as w
use Rattle.jr_machine_defs.specs.declared.state.Purpose.{Purpose}
use Rattle.jr_machine_defs.specs.declared.state.Purpose.TheVariants as purpose
use Rattle.jr_machine_defs.specs.declared.state.Frame.{Frame}
use Rattle.jr_machine_defs.specs.declared.state.State.{State}
use Rattle.jr_machine_defs.specs.Classes.{class_of_object}
use Rattle.jr_machine_defs.specs.Parts.{evals}
use Rattle.jr_machine_defs.specs.Control.{catch_for}
use Rattle.jr_machine_defs.specs.Exits.{goes_on, through_finally, at_loop, at_switch, at_label, after_catch, caught, thrown_to, at_try, at_finishing, at_finally, unwinds, leaves, uncaught, throws_out, leaves_by}
use Rattle.jr_machine_defs.specs.States.{add_work, with_work, set_local}
use Rattle.jr_machine_defs.specs.Renamed.{IsRenaming, renamed_type, renamed_code, renamed_any_codes, renamed_catch, renamed_catches, renamed_core, renamed_exit, renamed_work, renamed_purpose, renamed_frame, renamed_state}
use Rattle.jr_machine_defs.proofs.RenamedValues.{same_renamed}
use Rattle.jr_machine_defs.proofs.RenamedParts.{work_joined, evals_renamed}
use Rattle.jr_machine_defs.proofs.RenamedStates.{Alike, goes, stops, along, if_alike, work_added, local_set}
use Rattle.jr_machine_defs.proofs.RenamedClasses.{class_of_object_renamed}
use Rattle.jr_machine_defs.proofs.RenamedControl.{relabeled_renamed, catch_for_renamed}

module _ (f : DeclId → DeclId) (p : IsRenaming f) where
  -- ---- within a frame

  on_alike : (leaving : Exit) (s : State) → Alike f (goes_on (renamed_exit f leaving) (renamed_state f s)) (goes_on leaving s)
  on_alike leaving s = goes refl

  through_finally_alike : (last : m.AnyCodes) (leaving : Exit) (s : State)
      → Alike f (through_finally (renamed_any_codes f last) (renamed_exit f leaving) (renamed_state f s)) (through_finally last leaving s)
  through_finally_alike m.no_list leaving s = goes refl
  through_finally_alike (m.a_list last) leaving s =
      goes (work_added f (evals last ++ w.Exiting leaving ∷ []) s (work_joined f (evals last) (w.Exiting leaving ∷ []) (evals_renamed f last) refl))

  at_loop_alike : (loop : Code) (leaving : Exit) (s : State) → Alike f (at_loop (renamed_code f loop) (renamed_exit f leaving) (renamed_state f s)) (at_loop loop leaving s)
  at_loop_alike loop (exit.Break None) s = goes refl
  at_loop_alike loop (exit.Break (Some label)) s = goes refl
  at_loop_alike loop (exit.Continue None) s = goes refl
  at_loop_alike loop (exit.Continue (Some label)) s = goes refl
  at_loop_alike loop (exit.Throw value) s = goes refl
  at_loop_alike loop (exit.Return value) s = goes refl

  at_switch_alike : (leaving : Exit) (s : State) → Alike f (at_switch (renamed_exit f leaving) (renamed_state f s)) (at_switch leaving s)
  at_switch_alike (exit.Break None) s = goes refl
  at_switch_alike (exit.Break (Some label)) s = goes refl
  at_switch_alike (exit.Continue label) s = goes refl
  at_switch_alike (exit.Throw value) s = goes refl
  at_switch_alike (exit.Return value) s = goes refl

  at_label_alike : (label : DeclId) (code : Code) (leaving : Exit) (s : State)
      → Alike f (at_label (f label) (renamed_code f code) (renamed_exit f leaving) (renamed_state f s)) (at_label label code leaving s)
  at_label_alike label code (exit.Break (Some target)) s = if_alike (same_renamed f p label target) (goes refl) (goes refl)
  at_label_alike label code (exit.Break None) s = goes refl
  at_label_alike label code (exit.Continue (Some target)) s =
      if_alike (same_renamed f p label target) (goes (ap (λ x. with_work x (renamed_state f s)) (relabeled_renamed f p code s.frame.work))) (goes refl)
  at_label_alike label code (exit.Continue None) s = goes refl
  at_label_alike label code (exit.Throw value) s = goes refl
  at_label_alike label code (exit.Return value) s = goes refl

  after_catch_renamed : (code : Code) (last : m.AnyCodes) → after_catch (renamed_code f code) (renamed_any_codes f last) ≡ map (renamed_work f) (after_catch code last)
  after_catch_renamed code m.no_list = refl
  after_catch_renamed code (m.a_list last) = refl

  caught_alike : (code : Code) (last : m.AnyCodes) (any : Option m.Catch) (value : Value) (s : State)
      → Alike f (caught (renamed_code f code) (renamed_any_codes f last) (option_map (renamed_catch f) any) value (renamed_state f s)) (caught code last any value s)
  caught_alike code last None value s = through_finally_alike last (exit.Throw value) s
  caught_alike code last (Some (m.CatchOf class param body)) value s =
      goes (ap (set_local (f param) value) (work_added f (evals body ++ after_catch code last) s (work_joined f (evals body) (after_catch code last) (evals_renamed f body) (after_catch_renamed code last)))
      ∙ local_set f p param value (add_work (evals body ++ after_catch code last) s))

  thrown_to_alike : (core : Core) (code : Code) (all : m.Catches) (last : m.AnyCodes) (any : Option TypeId) (value : Value) (s : State)
      → Alike f (thrown_to (renamed_core f core) (renamed_code f code) (renamed_catches f all) (renamed_any_codes f last) (option_map (renamed_type f) any) value (renamed_state f s))
      (thrown_to core code all last any value s)
  thrown_to_alike core code all last None value s = stops
  thrown_to_alike core code all last (Some class) value s =
      along (ap (λ c. caught (renamed_code f code) (renamed_any_codes f last) c value (renamed_state f s)) (catch_for_renamed f p core class all))
      (caught_alike code last (catch_for core class all) value s)

  at_try_alike : (core : Core) (code : Code) (all : m.Catches) (last : m.AnyCodes) (leaving : Exit) (s : State)
      → Alike f (at_try (renamed_core f core) (renamed_code f code) (renamed_catches f all) (renamed_any_codes f last) (renamed_exit f leaving) (renamed_state f s)) (at_try core code all last leaving s)
  at_try_alike core code all last (exit.Throw value) s =
      along (ap (λ c. thrown_to (renamed_core f core) (renamed_code f code) (renamed_catches f all) (renamed_any_codes f last) c value (renamed_state f s)) (class_of_object_renamed f p s.heap value))
      (thrown_to_alike core code all last (class_of_object s.heap value) value s)
  at_try_alike core code all last leaving s = through_finally_alike last leaving s

  at_finishing_alike : (core : Core) (code : Code) (leaving : Exit) (s : State)
      → Alike f (at_finishing (renamed_core f core) (renamed_code f code) (renamed_exit f leaving) (renamed_state f s)) (at_finishing core code leaving s)
  at_finishing_alike core (m.Labeled label body) leaving s = at_label_alike label (m.Labeled label body) leaving s
  at_finishing_alike core (m.Try body ks last) leaving s = at_try_alike core (m.Try body ks last) ks last leaving s
  at_finishing_alike core code leaving s = goes refl

  at_finally_alike : (code : Code) (leaving : Exit) (s : State) → Alike f (at_finally (renamed_code f code) (renamed_exit f leaving) (renamed_state f s)) (at_finally code leaving s)
  at_finally_alike (m.Try body ks last) leaving s = through_finally_alike last leaving s
  at_finally_alike code leaving s = goes refl

  pub unwinds_alike : (core : Core) (leaving : Exit) (item : Work) (s : State)
      → Alike f (unwinds (renamed_core f core) (renamed_exit f leaving) (renamed_work f item) (renamed_state f s)) (unwinds core leaving item s)
  unwinds_alike core leaving (w.AfterBody loop) s = at_loop_alike loop leaving s
  unwinds_alike core leaving w.Breakable s = at_switch_alike leaving s
  unwinds_alike core leaving (w.Finish code) s = at_finishing_alike core code leaving s
  unwinds_alike core leaving (w.Finally code) s = at_finally_alike code leaving s
  unwinds_alike core leaving item s = goes refl

  -- ---- out of a frame

  pub leaves_alike : (callers : List Frame) (kind : Purpose) (value : Value) (s : State)
      → Alike f (leaves (map (renamed_frame f) callers) (renamed_purpose f kind) value (renamed_state f s)) (leaves callers kind value s)
  leaves_alike [] kind value s = goes refl
  leaves_alike (caller ∷ callers) purpose.Method value s = goes refl
  leaves_alike (caller ∷ callers) purpose.Constructor value s = goes refl
  leaves_alike (caller ∷ callers) (purpose.Initializer class) value s = goes refl

  uncaught_alike : (any : Option TypeId) (s : State) → Alike f (uncaught (option_map (renamed_type f) any) (renamed_state f s)) (uncaught any s)
  uncaught_alike None s = stops
  uncaught_alike (Some class) s = goes refl

  throws_out_alike : (kind : Purpose) (callers : List Frame) (value : Value) (s : State)
      → Alike f (throws_out (renamed_purpose f kind) (map (renamed_frame f) callers) value (renamed_state f s)) (throws_out kind callers value s)
  throws_out_alike (purpose.Initializer class) callers value s = goes refl
  throws_out_alike kind [] value s = along (ap (λ c. uncaught c (renamed_state f s)) (class_of_object_renamed f p s.heap value)) (uncaught_alike (class_of_object s.heap value) s)
  throws_out_alike kind (caller ∷ callers) value s = goes refl

  pub leaves_by_alike : (leaving : Exit) (s : State) → Alike f (leaves_by (renamed_exit f leaving) (renamed_state f s)) (leaves_by leaving s)
  leaves_by_alike (exit.Return value) s = leaves_alike s.callers s.frame.purpose value s
  leaves_by_alike (exit.Throw value) s = throws_out_alike s.frame.purpose s.callers value s
  leaves_by_alike (exit.Break label) s = stops
  leaves_by_alike (exit.Continue label) s = stops
