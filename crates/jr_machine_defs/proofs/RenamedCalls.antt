-- Native methods, calls and creations under a renaming.
use Rattle.std.proofs.Common.{◌≡◌, refl, ap, ◌∙◌, ℕ, Bool, false, cond, List, [], ◌∷◌, map, length, Option, Some, None}
use Rattle.std.specs.Option.{option_map, option_and_then}
use Rattle.jr_base.specs.declared.ids.DeclId.{DeclId}
use Rattle.jr_base.specs.declared.ids.TypeId.{TypeId}
use Rattle.jr_core.specs.Mirror as m
use Rattle.jr_core.specs.Mirror.{Core, Body}
use Rattle.jr_machine_defs.specs.declared.value.Value.{Value}
use Rattle.jr_machine_defs.specs.declared.value.Value.TheVariants as v
use Rattle.jr_machine_defs.specs.declared.slots.Slot.{Slot}
use Rattle.jr_machine_defs.specs.declared.heap.Cell.{Cell}
use Rattle.jr_machine_defs.specs.declared.heap.Cell.TheVariants as cell
use Rattle.jr_machine_defs.specs.declared.outcome.Fault.TheVariants as fault
use Rattle.jr_machine_defs.specs.declared.outcome.Outcome.TheVariants as o
use Rattle.jr_machine_defs.specs.declared.work.Work.{Work}
use Rattle.jr_machine_defs.specs.declared.state.Purpose.{Purpose}
use Rattle.jr_machine_defs.specs.declared.state.Purpose.TheVariants as purpose
use Rattle.jr_machine_defs.specs.declared.state.State.{State}
use Rattle.jr_machine_defs.specs.Prelude.{length_method, char_at_method, equals_method, print_method}
use Rattle.jr_machine_defs.specs.Classes.{class_in, body_in, found_in, class_of_object}
use Rattle.jr_machine_defs.specs.Strings.{units_of, shown}
use Rattle.jr_machine_defs.specs.Parts.{evals}
use Rattle.jr_machine_defs.specs.Natives.{length_of, only_of, char_of, equals_units, equals_of, prints_units, prints, native_call}
use Rattle.jr_machine_defs.specs.Initialization.{class_work}
use Rattle.jr_machine_defs.specs.Calls.{slots_of, enters, runs, runs_any, dispatches, calls_on, calls, creates, creates_any, constructs}
use Rattle.jr_machine_defs.specs.States.{add_work, add_cell, push_value}
use Rattle.jr_machine_defs.specs.Renamed.{IsRenaming, IsOwn, renamed_type, renamed_any_code, renamed_body, renamed_core, renamed_slot, renamed_cell, renamed_purpose, renamed_state}
use Rattle.jr_machine_defs.proofs.RenamedValues.{image_on, same_kept}
use Rattle.jr_machine_defs.proofs.RenamedParts.{evals_renamed}
use Rattle.jr_machine_defs.proofs.RenamedStates.{Alike, goes, stops, along, if_on, if_alike, one_alike, work_added, cell_added, place_renamed, raises_renamed, settles}
use Rattle.jr_machine_defs.proofs.RenamedClasses.{body_in_renamed, found_in_renamed, class_of_object_renamed}
use Rattle.jr_machine_defs.proofs.RenamedOperators.{units_of_renamed, shown_renamed}
use Rattle.jr_machine_defs.proofs.RenamedPlaces.{without_receiver_alike}
use Rattle.jr_machine_defs.proofs.RenamedInitialization.{class_work_renamed}

abbrev entered : TypeId → Purpose → Value → List Slot → List Work → State → State
entered class kind this locals work s = record s {
  callers = s.frame ∷ s.callers;
  frame = record { purpose = kind; class = class; this = this; locals = locals; work = work; values = [] };
}

module _ (f : DeclId → DeclId) (p : IsRenaming f) where
  -- ---- natives

  equals_of_renamed : (heap : List Cell) (any : Option (List ℕ)) (arg : Option Value) → equals_of (map (renamed_cell f) heap) any arg ≡ equals_of heap any arg
  equals_of_renamed heap (Some units) (Some value) = ap (λ u. o.Gives (v.Bool (equals_units units u))) (units_of_renamed f heap value)
  equals_of_renamed heap (Some units) None = refl
  equals_of_renamed heap None arg = refl

  prints_units_alike : (any : Option (List ℕ)) (s : State) → Alike f (prints_units any (renamed_state f s)) (prints_units any s)
  prints_units_alike None s = stops
  prints_units_alike (Some units) s = goes refl

  prints_alike : (any : Option Value) (s : State) → Alike f (prints any (renamed_state f s)) (prints any s)
  prints_alike None s = stops
  prints_alike (Some value) s = along (ap (λ u. prints_units u (renamed_state f s)) (shown_renamed f s.heap value)) (prints_units_alike (shown s.heap value) s)

  native_alike : (method : DeclId) (receiver : Value) (args : List Value) (s : State)
      → Alike f (native_call (f method) receiver args (renamed_state f s)) (native_call method receiver args s)
  native_alike method receiver args s =
      if_alike (same_kept f p method length_method (p.keeps_own length_method IsOwn.string_length)) (settles f p (length_of (units_of s.heap receiver)) s (ap length_of (units_of_renamed f s.heap receiver)))
      (if_alike (same_kept f p method char_at_method (p.keeps_own char_at_method IsOwn.char_at))
      (settles f p (char_of (units_of s.heap receiver) (only_of args)) s (ap (λ u. char_of u (only_of args)) (units_of_renamed f s.heap receiver)))
      (if_alike (same_kept f p method equals_method (p.keeps_own equals_method IsOwn.equals))
      (settles f p (equals_of s.heap (units_of s.heap receiver) (only_of args)) s
      (ap (λ u. equals_of (map (renamed_cell f) s.heap) u (only_of args)) (units_of_renamed f s.heap receiver) ∙ equals_of_renamed s.heap (units_of s.heap receiver) (only_of args)))
      (if_alike (same_kept f p method print_method (p.keeps_own print_method IsOwn.prints)) (prints_alike (only_of args) s) (goes refl))))

  -- ---- calls

  slots_of_renamed : (params : List DeclId) (args : List Value) → slots_of (map f params) args ≡ map (renamed_slot f) (slots_of params args)
  slots_of_renamed [] args = refl
  slots_of_renamed (d ∷ params) [] = refl
  slots_of_renamed (d ∷ params) (a ∷ args) = ap (λ x. record { key = f d; value = a } ∷ x) (slots_of_renamed params args)

  enters_renamed : (b : Body) (kind : Purpose) (this : Value) (args : List Value) (s : State)
      → enters (renamed_body f b) (renamed_purpose f kind) this args (renamed_state f s) ≡ renamed_state f (enters b kind this args s)
  enters_renamed b kind this args s =
      ap (λ x. entered (renamed_type f b.class) (renamed_purpose f kind) this x (evals (renamed_body f b).code) (renamed_state f s)) (slots_of_renamed b.params args)
      ∙ ap (λ x. entered (renamed_type f b.class) (renamed_purpose f kind) this (map (renamed_slot f) (slots_of b.params args)) x (renamed_state f s)) (evals_renamed f b.code)

  runs_alike : (b : Body) (this : Value) (args : List Value) (s : State) → Alike f (runs (renamed_body f b) this args (renamed_state f s)) (runs b this args s)
  runs_alike b this args s = if_on b.is_native (native_alike b.decl this args s) (goes (enters_renamed b purpose.Method this args s))

  runs_any_alike : (any : Option Body) (this : Value) (args : List Value) (s : State)
      → Alike f (runs_any (option_map (renamed_body f) any) this args (renamed_state f s)) (runs_any any this args s)
  runs_any_alike None this args s = stops
  runs_any_alike (Some b) this args s = runs_alike b this args s

  bodies_renamed : (core : Core) (any : Option DeclId) → option_and_then (body_in (renamed_core f core)) (option_map f any) ≡ option_map (renamed_body f) (option_and_then (body_in core) any)
  bodies_renamed core None = refl
  bodies_renamed core (Some d) = body_in_renamed f p core d

  dispatches_alike : (core : Core) (any : Option TypeId) (method : DeclId) (receiver : Value) (args : List Value) (s : State)
      → Alike f (dispatches (renamed_core f core) (option_map (renamed_type f) any) (f method) receiver args (renamed_state f s)) (dispatches core any method receiver args s)
  dispatches_alike core None method receiver args s = stops
  dispatches_alike core (Some class) method receiver args s =
      along (ap (λ b. runs_any b receiver args (renamed_state f s))
      (ap (option_and_then (body_in (renamed_core f core))) (found_in_renamed f p core class method) ∙ bodies_renamed core (found_in core class method)))
      (runs_any_alike (option_and_then (body_in core) (found_in core class method)) receiver args s)

  pub calls_on_alike : (core : Core) (method : DeclId) (receiver : Value) (args : List Value) (s : State)
      → Alike f (calls_on (renamed_core f core) (f method) receiver args (renamed_state f s)) (calls_on core method receiver args s)
  calls_on_alike core method v.Null args s = goes (raises_renamed f p fault.NullPointer s)
  calls_on_alike core method receiver args s =
      along (ap (λ c. dispatches (renamed_core f core) c (f method) receiver args (renamed_state f s)) (class_of_object_renamed f p s.heap receiver))
      (dispatches_alike core (class_of_object s.heap receiver) method receiver args s)

  calls_of : (core : Core) (any : Option Body) (receiver : m.AnyCode) (is_super : Bool) (args : List Value) (s : State)
      → Alike f (calls (renamed_core f core) (option_map (renamed_body f) any) (renamed_any_code f receiver) is_super args (renamed_state f s)) (calls core any receiver is_super args s)
  calls_of core None receiver is_super args s = stops
  calls_of core (Some b) receiver is_super args s =
      if_on b.is_static (without_receiver_alike receiver s (runs (renamed_body f b) v.Null args) (runs b v.Null args) (runs_alike b v.Null args))
      (if_on is_super (runs_alike b s.frame.this args s)
      (one_alike s.frame.values s (λ object s. calls_on (renamed_core f core) (f b.decl) object args s) (λ object s. calls_on core b.decl object args s)
      (λ object s. calls_on_alike core b.decl object args s)))

  pub calls_alike : (core : Core) (method : DeclId) (receiver : m.AnyCode) (is_super : Bool) (args : List Value) (s : State)
      → Alike f (calls (renamed_core f core) (body_in (renamed_core f core) (f method)) (renamed_any_code f receiver) is_super args (renamed_state f s))
      (calls core (body_in core method) receiver is_super args s)
  calls_alike core method receiver is_super args s =
      along (ap (λ b. calls (renamed_core f core) b (renamed_any_code f receiver) is_super args (renamed_state f s)) (body_in_renamed f p core method))
      (calls_of core (body_in core method) receiver is_super args s)

  -- ---- creations

  creates_alike : (b : Body) (outer : Value) (args : List Value) (s : State) → Alike f (creates (renamed_body f b) outer args (renamed_state f s)) (creates b outer args s)
  creates_alike b outer args s =
      goes (ap (λ n. enters (renamed_body f b) purpose.Constructor (v.Ref n) args (push_value (v.Ref n) (add_cell (cell.Object (renamed_type f b.class) outer []) (renamed_state f s)))) (place_renamed f s.heap)
      ∙ (ap (λ x. enters (renamed_body f b) purpose.Constructor (v.Ref (length s.heap)) args (push_value (v.Ref (length s.heap)) x)) (cell_added f (cell.Object b.class outer []) s)
      ∙ enters_renamed b purpose.Constructor (v.Ref (length s.heap)) args (push_value (v.Ref (length s.heap)) (add_cell (cell.Object b.class outer []) s))))

  creates_of : (any : Option Body) (outer : m.AnyCode) (args : List Value) (s : State)
      → Alike f (creates_any (option_map (renamed_body f) any) (renamed_any_code f outer) args (renamed_state f s)) (creates_any any outer args s)
  creates_of None outer args s = stops
  creates_of (Some b) m.no_code args s = creates_alike b v.Null args s
  creates_of (Some b) (m.a_code outer) args s =
      one_alike s.frame.values s (λ object s. creates (renamed_body f b) object args s) (λ object s. creates b object args s) (λ object s. creates_alike b object args s)

  pub creates_any_alike : (core : Core) (ctor : DeclId) (outer : m.AnyCode) (args : List Value) (s : State)
      → Alike f (creates_any (body_in (renamed_core f core) (f ctor)) (renamed_any_code f outer) args (renamed_state f s)) (creates_any (body_in core ctor) outer args s)
  creates_any_alike core ctor outer args s =
      along (ap (λ b. creates_any b (renamed_any_code f outer) args (renamed_state f s)) (body_in_renamed f p core ctor)) (creates_of (body_in core ctor) outer args s)

  constructs_of : (core : Core) (any : Option Body) (is_super : Bool) (args : List Value) (s : State)
      → Alike f (constructs (renamed_core f core) (option_map (renamed_body f) any) is_super args (renamed_state f s)) (constructs core any is_super args s)
  constructs_of core None is_super args s = stops
  constructs_of core (Some b) is_super args s =
      goes (ap (enters (renamed_body f b) purpose.Constructor s.frame.this args)
      (image_on (renamed_state f) is_super (add_work (class_work core false (class_in core s.frame.class)) s) s
      (work_added f (class_work core false (class_in core s.frame.class)) s (class_work_renamed f p core false s.frame.class)) refl)
      ∙ enters_renamed b purpose.Constructor s.frame.this args (cond is_super (add_work (class_work core false (class_in core s.frame.class)) s) s))

  pub constructs_alike : (core : Core) (ctor : DeclId) (is_super : Bool) (args : List Value) (s : State)
      → Alike f (constructs (renamed_core f core) (body_in (renamed_core f core) (f ctor)) is_super args (renamed_state f s)) (constructs core (body_in core ctor) is_super args s)
  constructs_alike core ctor is_super args s =
      along (ap (λ b. constructs (renamed_core f core) b is_super args (renamed_state f s)) (body_in_renamed f p core ctor)) (constructs_of core (body_in core ctor) is_super args s)
