-- The finishing items of statements and expressions under a renaming.
use Rattle.std.proofs.Common.{◌≡◌, refl, sym, ap, ℕ, Bool, true, false, cond, List, [], ◌∷◌, ◌++◌, map, Option, Some, None}
use Rattle.jr_base.specs.declared.ids.DeclId.{DeclId}
use Rattle.jr_base.specs.Mirror as t
use Rattle.jr_core.specs.declared.operators.BinaryOp.{BinaryOp}
use Rattle.jr_core.specs.declared.operators.StepOp.{StepOp}
use Rattle.jr_core.specs.Mirror as m
use Rattle.jr_core.specs.Mirror.{Code, Core}
use Rattle.jr_machine_defs.specs.declared.value.Value.{Value}
use Rattle.jr_machine_defs.specs.declared.value.Value.TheVariants as v
use Rattle.jr_machine_defs.specs.declared.work.Work.{Work}
use Rattle.jr_machine_defs.specs.declared.work.Work.TheVariants as w
use Rattle.jr_machine_defs.specs.declared.work.Exit.TheVariants as exit
use Rattle.jr_machine_defs.specs.declared.number.Number.{Number}
use Rattle.jr_machine_defs.specs.declared.number.Number.TheVariants as n
use Rattle.jr_machine_defs.specs.declared.outcome.Fault.TheVariants as fault
use Rattle.jr_machine_defs.specs.declared.outcome.Outcome.TheVariants as o
use Rattle.jr_machine_defs.specs.declared.state.State.{State}
use Rattle.jr_machine_defs.specs.Prelude.{to_string_method}
use Rattle.jr_machine_defs.specs.Classes.{body_in}
use Rattle.jr_machine_defs.specs.Strings.{text_of, units_of}
use Rattle.jr_machine_defs.specs.Operators.{number_of, binary, unary, converted_to, compound, stepped}
use Rattle.jr_machine_defs.specs.Parts.{eval_any, codes_count}
use Rattle.jr_machine_defs.specs.Places.{read_field, store, length_of}
use Rattle.jr_machine_defs.specs.Arrays.{makes_array, makes_arrays}
use Rattle.jr_machine_defs.specs.Calls.{calls, calls_on, creates_any, constructs}
use Rattle.jr_machine_defs.specs.Control.{chosen, groups_work, instance_of}
use Rattle.jr_machine_defs.specs.Finishing.{assigns, steps, branches, and_also, or_else, tests, casts_object, casts, shows_object, shows, pushes_any, creates_array, declares, loops, switches, returns, throws_any, finally_work, finishes}
use Rattle.jr_machine_defs.specs.States.{Next, with_one, with_some, with_outcome, settled, add_work, push_value, set_local}
use Rattle.jr_machine_defs.specs.Renamed.{IsRenaming, IsOwn, renamed_ty, renamed_code, renamed_codes, renamed_any_code, renamed_any_codes, renamed_groups, renamed_core, renamed_work, renamed_state}
use Rattle.jr_machine_defs.proofs.RenamedParts.{work_joined, eval_any_renamed, evals_renamed, codes_count_renamed}
use Rattle.jr_machine_defs.proofs.RenamedStates.{Alike, goes, stops, along, if_alike, one_alike, two_alike, some_alike, work_added, local_set, raises_renamed, outcome_same, pushed, settles}
use Rattle.jr_machine_defs.proofs.RenamedClasses.{body_in_renamed, is_instance_renamed}
use Rattle.jr_machine_defs.proofs.RenamedOperators.{units_of_renamed, binary_renamed, compound_renamed}
use Rattle.jr_machine_defs.proofs.RenamedControl.{chosen_work_renamed, instance_of_renamed}
use Rattle.jr_machine_defs.proofs.RenamedPlaces.{store_alike, read_field_alike, read_item_alike, length_of_renamed}
use Rattle.jr_machine_defs.proofs.RenamedArrays.{makes_array_alike, makes_arrays_alike}
use Rattle.jr_machine_defs.proofs.RenamedCalls.{calls_on_alike, calls_alike, creates_any_alike, constructs_alike}

module _ (f : DeclId → DeclId) (p : IsRenaming f) where
  -- ---- expressions

  assigns_alike : (core : Core) (target : Code) (op : Option BinaryOp) (s : State)
      → Alike f (assigns (renamed_core f core) (renamed_code f target) op (renamed_state f s)) (assigns core target op s)
  assigns_alike core target None s =
      one_alike s.frame.values s (λ value s. store (renamed_core f core) (renamed_code f target) value value s) (λ value s. store core target value value s)
      (λ value s. store_alike f p core target value value s)
  assigns_alike core target (Some op) s =
      two_alike s.frame.values s
      (λ old value s. with_outcome (compound s.heap op old value) s (λ new s. store (renamed_core f core) (renamed_code f target) new new s))
      (λ old value s. with_outcome (compound s.heap op old value) s (λ new s. store core target new new s))
      (λ old value s. outcome_same f p (compound s.heap op old value) s (λ new s. store (renamed_core f core) (renamed_code f target) new new s) (λ new s. store core target new new s)
      (compound_renamed f s.heap op old value) (λ new s. store_alike f p core target new new s))

  steps_alike : (core : Core) (target : Code) (op : StepOp) (is_post : Bool) (s : State)
      → Alike f (steps (renamed_core f core) (renamed_code f target) op is_post (renamed_state f s)) (steps core target op is_post s)
  steps_alike core target op is_post s =
      one_alike s.frame.values s
      (λ old s. with_outcome (stepped op old (number_of old)) s (λ new s. store (renamed_core f core) (renamed_code f target) new (cond is_post old new) s))
      (λ old s. with_outcome (stepped op old (number_of old)) s (λ new s. store core target new (cond is_post old new) s))
      (λ old s. outcome_same f p (stepped op old (number_of old)) s
      (λ new s. store (renamed_core f core) (renamed_code f target) new (cond is_post old new) s) (λ new s. store core target new (cond is_post old new) s)
      refl (λ new s. store_alike f p core target new (cond is_post old new) s))

  branches_alike : (first second : List Work) {x y : List Work} → x ≡ map (renamed_work f) first → y ≡ map (renamed_work f) second
      → (value : Value) (s : State) → Alike f (branches x y value (renamed_state f s)) (branches first second value s)
  branches_alike first second e h (v.Bool true) s = goes (work_added f first s e)
  branches_alike first second e h (v.Bool false) s = goes (work_added f second s h)
  branches_alike first second e h value s = stops

  branches_on : (values : List Value) (first second : List Work) (s : State) {x y : List Work} → x ≡ map (renamed_work f) first → y ≡ map (renamed_work f) second
      → Alike f (with_one values (renamed_state f s) (branches x y)) (with_one values s (branches first second))
  branches_on values first second s {x} {y} e h = one_alike values s (branches x y) (branches first second) (branches_alike first second e h)

  and_also_alike : (right : Code) (value : Value) (s : State) → Alike f (and_also (renamed_code f right) value (renamed_state f s)) (and_also right value s)
  and_also_alike right (v.Bool true) s = goes refl
  and_also_alike right (v.Bool false) s = goes refl
  and_also_alike right value s = stops

  or_else_alike : (right : Code) (value : Value) (s : State) → Alike f (or_else (renamed_code f right) value (renamed_state f s)) (or_else right value s)
  or_else_alike right (v.Bool true) s = goes refl
  or_else_alike right (v.Bool false) s = goes refl
  or_else_alike right value s = stops

  tests_alike : (core : Core) (ty : t.Ty) (value : Value) (s : State) → Alike f (tests (renamed_core f core) (renamed_ty f ty) value (renamed_state f s)) (tests core ty value s)
  tests_alike core ty v.Null s = goes refl
  tests_alike core ty value s = goes (ap (λ b. push_value (v.Bool b) (renamed_state f s)) (is_instance_renamed f p core s.heap value ty))

  casts_object_alike : (core : Core) (ty : t.Ty) (value : Value) (s : State)
      → Alike f (casts_object (renamed_core f core) (renamed_ty f ty) value (renamed_state f s)) (casts_object core ty value s)
  casts_object_alike core ty v.Null s = goes refl
  casts_object_alike core ty value s = if_alike (is_instance_renamed f p core s.heap value ty) (pushed f p value s) (goes (raises_renamed f p fault.ClassCast s))

  casts_alike : (core : Core) (ty : t.Ty) (value : Value) (s : State) → Alike f (casts (renamed_core f core) (renamed_ty f ty) value (renamed_state f s)) (casts core ty value s)
  casts_alike core (t.Class class) value s = casts_object_alike core (t.Class class) value s
  casts_alike core (t.Array item) value s = casts_object_alike core (t.Array item) value s
  casts_alike core ty value s = settles f p (converted_to ty value) s refl

  shows_object_alike : (core : Core) (any : Option (List ℕ)) (value : Value) (s : State)
      → Alike f (shows_object (renamed_core f core) any value (renamed_state f s)) (shows_object core any value s)
  shows_object_alike core (Some units) value s = goes refl
  shows_object_alike core None v.Null s = goes refl
  shows_object_alike core None value s =
      along (ap (λ d. calls_on (renamed_core f core) d value [] (renamed_state f s)) (sym (p.keeps_own to_string_method IsOwn.to_string))) (calls_on_alike f p core to_string_method value [] s)

  shows_alike : (core : Core) (any : Option (List ℕ)) (value : Value) (s : State) → Alike f (shows (renamed_core f core) any value (renamed_state f s)) (shows core any value s)
  shows_alike core (Some text) value s = settles f p (o.Makes text) s refl
  shows_alike core None value s =
      along (ap (λ u. shows_object (renamed_core f core) u value (renamed_state f s)) (units_of_renamed f s.heap value)) (shows_object_alike core (units_of s.heap value) value s)

  pub pushes_any_alike : (any : Option Value) (s : State) → Alike f (pushes_any any (renamed_state f s)) (pushes_any any s)
  pushes_any_alike None s = stops
  pushes_any_alike (Some value) s = goes refl

  -- with as many values as there are codes
  counted_alike : (all : m.Codes) (s : State) (g h : List Value → State → Next)
      → ((args : List Value) (s : State) → Alike f (g args (renamed_state f s)) (h args s))
      → Alike f (with_some (codes_count (renamed_codes f all)) [] s.frame.values (renamed_state f s) g) (with_some (codes_count all) [] s.frame.values s h)
  counted_alike all s g h e =
      along (ap (λ k. with_some k [] s.frame.values (renamed_state f s) g) (codes_count_renamed f all)) (some_alike (codes_count all) [] s.frame.values s g h e)

  creates_array_alike : (ty : t.Ty) (dims : m.Codes) (init : m.AnyCodes) (s : State)
      → Alike f (creates_array (renamed_ty f ty) (renamed_codes f dims) (renamed_any_codes f init) (renamed_state f s)) (creates_array ty dims init s)
  creates_array_alike ty dims m.no_list s = counted_alike dims s (makes_arrays (renamed_ty f ty)) (makes_arrays ty) (makes_arrays_alike f p ty)
  creates_array_alike ty dims (m.a_list items) s = counted_alike items s (makes_array (renamed_ty f ty)) (makes_array ty) (makes_array_alike f p ty)

  -- ---- statements

  declares_alike : (local : DeclId) (init : m.AnyCode) (s : State) → Alike f (declares (f local) (renamed_any_code f init) (renamed_state f s)) (declares local init s)
  declares_alike local m.no_code s = goes refl
  declares_alike local (m.a_code init) s =
      one_alike s.frame.values s (λ value s. Some (set_local (f local) value s)) (λ value s. Some (set_local local value s)) (λ value s. goes (local_set f p local value s))

  loops_alike : (loop body : Code) (s : State) → Alike f (loops (renamed_code f loop) (renamed_code f body) (renamed_state f s)) (loops loop body s)
  loops_alike loop body s = branches_on s.frame.values (w.Eval body ∷ w.AfterBody loop ∷ []) [] s refl refl

  switches_alike : (all : m.Groups) (any : Option Number) (s : State) → Alike f (switches (renamed_groups f all) any (renamed_state f s)) (switches all any s)
  switches_alike all None s = stops
  switches_alike all (Some (n.Int z)) s =
      goes (work_added f (groups_work (chosen z all) ++ w.Breakable ∷ []) s (work_joined f (groups_work (chosen z all)) (w.Breakable ∷ []) (chosen_work_renamed f p z all) refl))
  switches_alike all (Some (n.Long z)) s = stops

  returns_alike : (any : m.AnyCode) (s : State) → Alike f (returns (renamed_any_code f any) (renamed_state f s)) (returns any s)
  returns_alike m.no_code s = goes refl
  returns_alike (m.a_code code) s =
      one_alike s.frame.values s (λ value s. Some (add_work (w.Exiting (exit.Return value) ∷ []) s)) (λ value s. Some (add_work (w.Exiting (exit.Return value) ∷ []) s)) (λ value s. goes refl)

  throws_any_alike : (value : Value) (s : State) → Alike f (throws_any value (renamed_state f s)) (throws_any value s)
  throws_any_alike v.Null s = goes (raises_renamed f p fault.NullPointer s)
  throws_any_alike value s = goes refl

  pub finally_work_renamed : (last : m.AnyCodes) → finally_work (renamed_any_codes f last) ≡ map (renamed_work f) (finally_work last)
  finally_work_renamed m.no_list = refl
  finally_work_renamed (m.a_list last) = evals_renamed f last

  -- ---- all

  pub finishes_alike : (core : Core) (code : Code) (s : State) → Alike f (finishes (renamed_core f core) (renamed_code f code) (renamed_state f s)) (finishes core code s)
  finishes_alike core (m.Assign target op value) s = assigns_alike core target op s
  finishes_alike core (m.Cond cond first second) s = branches_on s.frame.values (w.Eval first ∷ []) (w.Eval second ∷ []) s refl refl
  finishes_alike core (m.AndAlso left right) s = one_alike s.frame.values s (and_also (renamed_code f right)) (and_also right) (and_also_alike right)
  finishes_alike core (m.OrElse left right) s = one_alike s.frame.values s (or_else (renamed_code f right)) (or_else right) (or_else_alike right)
  finishes_alike core (m.Binary left op right) s =
      two_alike s.frame.values s (λ a b s. settled (binary s.heap op a b) s) (λ a b s. settled (binary s.heap op a b) s)
      (λ a b s. settles f p (binary s.heap op a b) s (binary_renamed f s.heap op a b))
  finishes_alike core (m.IsA value ty) s = one_alike s.frame.values s (tests (renamed_core f core) (renamed_ty f ty)) (tests core ty) (tests_alike core ty)
  finishes_alike core (m.Unary op value) s =
      one_alike s.frame.values s (λ a s. settled (unary op a) s) (λ a s. settled (unary op a) s) (λ a s. settles f p (unary op a) s refl)
  finishes_alike core (m.Cast ty value) s = one_alike s.frame.values s (casts (renamed_core f core) (renamed_ty f ty)) (casts core ty) (casts_alike core ty)
  finishes_alike core (m.PreStep op target) s = steps_alike core target op false s
  finishes_alike core (m.PostStep target op) s = steps_alike core target op true s
  finishes_alike core (m.Lit value) s = stops
  finishes_alike core (m.This class) s =
      along (ap (λ x. pushes_any x (renamed_state f s)) (instance_of_renamed f p core s.heap class s.frame.class s.frame.this))
      (pushes_any_alike (instance_of core s.heap class s.frame.class s.frame.this) s)
  finishes_alike core (m.Var local) s = stops
  finishes_alike core (m.FieldAt on field) s =
      along (ap (λ b. read_field b (renamed_any_code f on) (f field) (renamed_state f s)) (body_in_renamed f p core field)) (read_field_alike f p (body_in core field) on field s)
  finishes_alike core (m.Length array) s =
      one_alike s.frame.values s (λ a s. settled (length_of s.heap a) s) (λ a s. settled (length_of s.heap a) s) (λ a s. settles f p (length_of s.heap a) s (length_of_renamed f p s.heap a))
  finishes_alike core (m.Index array at) s = read_item_alike f p s
  finishes_alike core (m.Call receiver is_super method args) s =
      counted_alike args s (calls (renamed_core f core) (body_in (renamed_core f core) (f method)) (renamed_any_code f receiver) is_super) (calls core (body_in core method) receiver is_super)
      (calls_alike f p core method receiver is_super)
  finishes_alike core (m.New outer ctor args) s =
      counted_alike args s (creates_any (body_in (renamed_core f core) (f ctor)) (renamed_any_code f outer)) (creates_any (body_in core ctor) outer) (creates_any_alike f p core ctor outer)
  finishes_alike core (m.NewArray ty dims init) s = creates_array_alike ty dims init s
  finishes_alike core (m.Show value) s =
      one_alike s.frame.values s (λ a s. shows (renamed_core f core) (text_of a) a s) (λ a s. shows core (text_of a) a s) (λ a s. shows_alike core (text_of a) a s)
  finishes_alike core (m.Nest stmts) s = goes refl
  finishes_alike core (m.Local local init) s = declares_alike local init s
  finishes_alike core m.Skip s = goes refl
  finishes_alike core (m.Do body cond) s = loops_alike (m.Do body cond) body s
  finishes_alike core (m.While cond body) s = loops_alike (m.While cond body) body s
  finishes_alike core (m.If cond first second) s = branches_on s.frame.values (w.Eval first ∷ []) (eval_any second) s refl (eval_any_renamed f second)
  finishes_alike core (m.Eval value) s = one_alike s.frame.values s (λ dropped s. Some s) (λ dropped s. Some s) (λ dropped s. goes refl)
  finishes_alike core (m.For first cond update body) s = loops_alike (m.For first cond update body) body s
  finishes_alike core (m.Switch value gs) s =
      one_alike s.frame.values s (λ a s. switches (renamed_groups f gs) (number_of a) s) (λ a s. switches gs (number_of a) s) (λ a s. switches_alike gs (number_of a) s)
  finishes_alike core (m.Labeled label body) s = goes refl
  finishes_alike core (m.Break label) s = stops
  finishes_alike core (m.Continue label) s = stops
  finishes_alike core (m.Return value) s = returns_alike value s
  finishes_alike core (m.Throw value) s = one_alike s.frame.values s throws_any throws_any throws_any_alike
  finishes_alike core (m.Try body ks last) s = goes (work_added f (finally_work last) s (finally_work_renamed last))
  finishes_alike core (m.CtorCall is_super ctor args) s =
      counted_alike args s (constructs (renamed_core f core) (body_in (renamed_core f core) (f ctor)) is_super) (constructs core (body_in core ctor) is_super)
      (constructs_alike f p core ctor is_super)
