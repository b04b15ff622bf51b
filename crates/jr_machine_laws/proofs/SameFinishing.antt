-- What the finishing items and the exits of code do in cores that are the same.
use Rattle.std.proofs.Common.{◌≡◌, refl, ap, ℕ, Bool, true, false, cond, List, [], Option, Some, None}
use Rattle.jr_base.specs.declared.ids.TypeId.{TypeId}
use Rattle.jr_base.specs.Mirror as t
use Rattle.jr_core.specs.declared.operators.BinaryOp.{BinaryOp}
use Rattle.jr_core.specs.declared.operators.StepOp.{StepOp}
use Rattle.jr_core.specs.Mirror as m
use Rattle.jr_core.specs.Mirror.{Code, Core}
use Rattle.jr_machine_defs.specs.declared.value.Value.{Value}
use Rattle.jr_machine_defs.specs.declared.value.Value.TheVariants as v
use Rattle.jr_machine_defs.specs.declared.work.Exit.{Exit}
use Rattle.jr_machine_defs.specs.declared.work.Exit.TheVariants as exit
use Rattle.jr_machine_defs.specs.declared.work.Work.{Work}
use Rattle.jr_machine_defs.specs.declared.work.Work.TheVariants as w
use Rattle.jr_machine_defs.specs.declared.outcome.Fault.TheVariants as fault
use Rattle.jr_machine_defs.specs.declared.state.State.{State}
use Rattle.jr_machine_defs.specs.Prelude.{to_string_method}
use Rattle.jr_machine_defs.specs.Classes.{class_of_object}
use Rattle.jr_machine_defs.specs.Strings.{text_of, units_of}
use Rattle.jr_machine_defs.specs.Operators.{number_of, compound, stepped}
use Rattle.jr_machine_defs.specs.Parts.{codes_count}
use Rattle.jr_machine_defs.specs.Places.{read_field}
use Rattle.jr_machine_defs.specs.Calls.{creates_any}
use Rattle.jr_machine_defs.specs.Finishing.{assigns, steps, tests, casts_object, casts, shows_object, shows, pushes_any, finishes}
use Rattle.jr_machine_defs.specs.Exits.{caught, thrown_to, at_try, at_finishing, unwinds}
use Rattle.jr_machine_defs.specs.States.{with_one, with_two, with_some, with_outcome, push_value, raises}
use Rattle.jr_machine_laws.specs.SameCore.{SameCore}
use Rattle.jr_machine_laws.proofs.SameClasses.{is_instance_same, catch_for_same, instance_of_same}
use Rattle.jr_machine_laws.proofs.SamePlaces.{store_same, calls_on_same, calls_same, constructs_same}

module _ (a b : Core) (same : SameCore a b) where
  -- ---- expressions

  assigns_same : (target : Code) (op : Option BinaryOp) (s : State) → assigns a target op s ≡ assigns b target op s
  assigns_same target None s = λ i. with_one s.frame.values s (λ value s. store_same a b same target value value s i)
  assigns_same target (Some op) s = λ i.
      with_two s.frame.values s (λ old value s. with_outcome (compound s.heap op old value) s (λ new s. store_same a b same target new new s i))

  steps_same : (target : Code) (op : StepOp) (is_post : Bool) (s : State) → steps a target op is_post s ≡ steps b target op is_post s
  steps_same target op is_post s = λ i.
      with_one s.frame.values s (λ old s. with_outcome (stepped op old (number_of old)) s (λ new s. store_same a b same target new (cond is_post old new) s i))

  tests_same : (ty : t.Ty) (value : Value) (s : State) → tests a ty value s ≡ tests b ty value s
  tests_same ty v.Null s = refl
  tests_same ty value s = λ i. Some (push_value (v.Bool (is_instance_same a b same s.heap value ty i)) s)

  casts_object_same : (ty : t.Ty) (value : Value) (s : State) → casts_object a ty value s ≡ casts_object b ty value s
  casts_object_same ty v.Null s = refl
  casts_object_same ty value s = λ i. cond (is_instance_same a b same s.heap value ty i) (Some (push_value value s)) (Some (raises fault.ClassCast s))

  casts_same : (ty : t.Ty) (value : Value) (s : State) → casts a ty value s ≡ casts b ty value s
  casts_same (t.Class class) value s = casts_object_same (t.Class class) value s
  casts_same (t.Array item) value s = casts_object_same (t.Array item) value s
  casts_same ty value s = refl

  shows_object_same : (any : Option (List ℕ)) (value : Value) (s : State) → shows_object a any value s ≡ shows_object b any value s
  shows_object_same (Some units) value s = refl
  shows_object_same None v.Null s = refl
  shows_object_same None value s = calls_on_same a b same to_string_method value [] s

  shows_same : (any : Option (List ℕ)) (value : Value) (s : State) → shows a any value s ≡ shows b any value s
  shows_same (Some text) value s = refl
  shows_same None value s = shows_object_same (units_of s.heap value) value s

  -- ---- all

  pub finishes_same : (code : Code) (s : State) → finishes a code s ≡ finishes b code s
  finishes_same (m.Assign target op value) s = assigns_same target op s
  finishes_same (m.IsA value ty) s = λ i. with_one s.frame.values s (λ value s. tests_same ty value s i)
  finishes_same (m.Cast ty value) s = λ i. with_one s.frame.values s (λ value s. casts_same ty value s i)
  finishes_same (m.PreStep op target) s = steps_same target op false s
  finishes_same (m.PostStep target op) s = steps_same target op true s
  finishes_same (m.This class) s = λ i. pushes_any (instance_of_same a b same s.heap class s.frame.class s.frame.this i) s
  finishes_same (m.FieldAt on field) s = ap (λ any. read_field any on field s) (same.bodies field)
  finishes_same (m.Call receiver is_super method args) s = λ i.
      with_some (codes_count args) [] s.frame.values s (λ given s. calls_same a b same method receiver is_super given s i)
  finishes_same (m.New outer ctor args) s = ap (λ any. with_some (codes_count args) [] s.frame.values s (creates_any any outer)) (same.bodies ctor)
  finishes_same (m.Show value) s = λ i. with_one s.frame.values s (λ x s. shows_same (text_of x) x s i)
  finishes_same (m.CtorCall is_super ctor args) s = λ i.
      with_some (codes_count args) [] s.frame.values s (λ given s. constructs_same a b same ctor is_super given s i)
  finishes_same code s = refl

  -- ---- exits

  thrown_to_same : (code : Code) (all : m.Catches) (last : m.AnyCodes) (any : Option TypeId) (value : Value) (s : State)
      → thrown_to a code all last any value s ≡ thrown_to b code all last any value s
  thrown_to_same code all last None value s = refl
  thrown_to_same code all last (Some class) value s = ap (λ any. caught code last any value s) (catch_for_same a b same class all)

  at_try_same : (code : Code) (all : m.Catches) (last : m.AnyCodes) (leaving : Exit) (s : State) → at_try a code all last leaving s ≡ at_try b code all last leaving s
  at_try_same code all last (exit.Throw value) s = thrown_to_same code all last (class_of_object s.heap value) value s
  at_try_same code all last leaving s = refl

  at_finishing_same : (code : Code) (leaving : Exit) (s : State) → at_finishing a code leaving s ≡ at_finishing b code leaving s
  at_finishing_same (m.Labeled label body) leaving s = refl
  at_finishing_same (m.Try body ks last) leaving s = at_try_same (m.Try body ks last) ks last leaving s
  at_finishing_same code leaving s = refl

  pub unwinds_same : (leaving : Exit) (item : Work) (s : State) → unwinds a leaving item s ≡ unwinds b leaving item s
  unwinds_same leaving (w.Finish code) s = at_finishing_same code leaving s
  unwinds_same leaving item s = refl
