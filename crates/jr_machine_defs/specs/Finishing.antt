-- What the finishing item of a statement or an expression does (JLS 14, 15).
use Rattle.std.specs.Prelude.{ℕ, Bool, true, false, if◌then◌else◌, List, [], ◌∷◌, ◌++◌, length, Option, Some, None, slice_get, ℤ}
use Rattle.jr_base.specs.declared.ids.DeclId.{DeclId}
use Rattle.jr_base.specs.Mirror as t
use Rattle.jr_core.specs.declared.operators.BinaryOp.{BinaryOp}
use Rattle.jr_core.specs.declared.operators.StepOp.{StepOp}
use Rattle.jr_core.specs.Mirror as m
use Rattle.jr_core.specs.Mirror.{Code, Core}
use Rattle.jr_machine_defs.specs.declared.value.Value.{Value}
use Rattle.jr_machine_defs.specs.declared.value.Value.TheVariants as v
use Rattle.jr_machine_defs.specs.declared.work.Work.{Work}
use Rattle.jr_machine_defs.specs.declared.work.Work.TheVariants as w
use Rattle.jr_machine_defs.specs.declared.work.Exit.TheVariants as exit
use Rattle.jr_machine_defs.specs.declared.number.Number.{Number}
use Rattle.jr_machine_defs.specs.declared.number.Number.TheVariants as n
use Rattle.jr_machine_defs.specs.declared.outcome.Fault.TheVariants as fault
use Rattle.jr_machine_defs.specs.declared.outcome.Outcome.TheVariants as o
use Rattle.jr_machine_defs.specs.declared.state.State.{State}
use Rattle.jr_machine_defs.specs.Prelude.{to_string_method}
use Rattle.jr_machine_defs.specs.Classes.{body_in, is_instance}
use Rattle.jr_machine_defs.specs.Strings.{text_of, units_of}
use Rattle.jr_machine_defs.specs.Operators.{number_of, binary, unary, converted_to, compound, stepped}
use Rattle.jr_machine_defs.specs.Parts.{eval_any, evals, codes_count}
use Rattle.jr_machine_defs.specs.Places.{read_field, read_item, store, length_of}
use Rattle.jr_machine_defs.specs.Arrays.{makes_array, makes_arrays}
use Rattle.jr_machine_defs.specs.Calls.{calls, calls_on, creates_any, constructs}
use Rattle.jr_machine_defs.specs.Control.{chosen, groups_work, instance_of}
use Rattle.jr_machine_defs.specs.States.{Next, with_one, with_two, with_some, with_outcome, settled, add_work, push_value, throws, raises, set_local}

-- ---- expressions

-- an assignment, with its value (JLS 15.26)
abbrev pub assigns : Core → Code → Option BinaryOp → State → Next
assigns core target None s = with_one s.frame.values s (λ value s. store core target value value s)
assigns core target (Some op) s =
    with_two s.frame.values s (λ old value s. with_outcome (compound s.heap op old value) s (λ new s. store core target new new s))

-- `++` and `--`, which give the new value or the old one (JLS 15.14, 15.15)
abbrev pub steps : Core → Code → StepOp → Bool → State → Next
steps core target op is_post s =
    with_one s.frame.values s (λ old s. with_outcome (stepped op old (number_of old)) s (λ new s. store core target new (if is_post then old else new) s))

-- one of two goes on (JLS 15.25, 14.9)
abbrev pub branches : List Work → List Work → Value → State → Next
branches first second (v.Bool true) s = Some (add_work first s)
branches first second (v.Bool false) s = Some (add_work second s)
branches first second value s = None

-- the right operand is evaluated only where the left one does not decide (JLS 15.23, 15.24)
abbrev pub and_also : Code → Value → State → Next
and_also right (v.Bool true) s = Some (add_work (w.Eval right ∷ []) s)
and_also right (v.Bool false) s = Some (push_value (v.Bool false) s)
and_also right value s = None

abbrev pub or_else : Code → Value → State → Next
or_else right (v.Bool true) s = Some (push_value (v.Bool true) s)
or_else right (v.Bool false) s = Some (add_work (w.Eval right ∷ []) s)
or_else right value s = None

-- `value instanceof ty` (JLS 15.20.2)
abbrev pub tests : Core → t.Ty → Value → State → Next
tests core ty v.Null s = Some (push_value (v.Bool false) s)
tests core ty value s = Some (push_value (v.Bool (is_instance core s.heap value ty)) s)

-- a narrowing conversion of references is checked (JLS 5.1.5)
abbrev pub casts_object : Core → t.Ty → Value → State → Next
casts_object core ty v.Null s = Some (push_value v.Null s)
casts_object core ty value s = if is_instance core s.heap value ty then Some (push_value value s) else Some (raises fault.ClassCast s)

abbrev pub casts : Core → t.Ty → Value → State → Next
casts core (t.Class class) value s = casts_object core (t.Class class) value s
casts core (t.Array item) value s = casts_object core (t.Array item) value s
casts core ty value s = settled (converted_to ty value) s

-- an object that is no string is shown by its `toString`; `+` shows null as `null` (JLS 5.1.11, 15.18.1.1)
abbrev pub shows_object : Core → Option (List ℕ) → Value → State → Next
shows_object core (Some units) value s = Some (push_value value s)
shows_object core None v.Null s = Some (push_value v.Null s)
shows_object core None value s = calls_on core to_string_method value [] s

abbrev pub shows : Core → Option (List ℕ) → Value → State → Next
shows core (Some text) value s = settled (o.Makes text) s
shows core None value s = shows_object core (units_of s.heap value) value s

abbrev pub pushes_any : Option Value → State → Next
pushes_any None s = None
pushes_any (Some value) s = Some (push_value value s)

abbrev pub creates_array : t.Ty → m.Codes → m.AnyCodes → State → Next
creates_array ty dims m.no_list s = with_some (codes_count dims) [] s.frame.values s (makes_arrays ty)
creates_array ty dims (m.a_list items) s = with_some (codes_count items) [] s.frame.values s (makes_array ty)

-- ---- statements

abbrev pub declares : DeclId → m.AnyCode → State → Next
declares local m.no_code s = Some s
declares local (m.a_code init) s = with_one s.frame.values s (λ value s. Some (set_local local value s))

-- after the condition of a loop (JLS 14.12, 14.13, 14.14)
abbrev pub loops : Code → Code → State → Next
loops loop body s = with_one s.frame.values s (branches (w.Eval body ∷ w.AfterBody loop ∷ []) [])

abbrev pub switches : m.Groups → Option Number → State → Next
switches all None s = None
switches all (Some (n.Int z)) s = Some (add_work (groups_work (chosen z all) ++ w.Breakable ∷ []) s)
switches all (Some (n.Long z)) s = None

abbrev pub returns : m.AnyCode → State → Next
returns m.no_code s = Some (add_work (w.Exiting (exit.Return v.Void) ∷ []) s)
returns (m.a_code value) s = with_one s.frame.values s (λ value s. Some (add_work (w.Exiting (exit.Return value) ∷ []) s))

abbrev pub throws_any : Value → State → Next
throws_any v.Null s = Some (raises fault.NullPointer s)
throws_any value s = Some (throws value s)

abbrev pub finally_work : m.AnyCodes → List Work
finally_work m.no_list = []
finally_work (m.a_list last) = evals last

-- ---- all

abbrev pub finishes : Core → Code → State → Next
finishes core (m.Assign target op value) s = assigns core target op s
finishes core (m.Cond cond first second) s = with_one s.frame.values s (branches (w.Eval first ∷ []) (w.Eval second ∷ []))
finishes core (m.AndAlso left right) s = with_one s.frame.values s (and_also right)
finishes core (m.OrElse left right) s = with_one s.frame.values s (or_else right)
finishes core (m.Binary left op right) s = with_two s.frame.values s (λ a b s. settled (binary s.heap op a b) s)
finishes core (m.IsA value ty) s = with_one s.frame.values s (tests core ty)
finishes core (m.Unary op value) s = with_one s.frame.values s (λ a s. settled (unary op a) s)
finishes core (m.Cast ty value) s = with_one s.frame.values s (casts core ty)
finishes core (m.PreStep op target) s = steps core target op false s
finishes core (m.PostStep target op) s = steps core target op true s
finishes core (m.Lit value) s = None
finishes core (m.This class) s = pushes_any (instance_of core s.heap class s.frame.class s.frame.this) s
finishes core (m.Var local) s = None
finishes core (m.FieldAt on field) s = read_field (body_in core field) on field s
finishes core (m.Length array) s = with_one s.frame.values s (λ a s. settled (length_of s.heap a) s)
finishes core (m.Index array at) s = read_item s
finishes core (m.Call receiver is_super method args) s = with_some (codes_count args) [] s.frame.values s (calls core (body_in core method) receiver is_super)
finishes core (m.New outer ctor args) s = with_some (codes_count args) [] s.frame.values s (creates_any (body_in core ctor) outer)
finishes core (m.NewArray ty dims init) s = creates_array ty dims init s
finishes core (m.Show value) s = with_one s.frame.values s (λ a s. shows core (text_of a) a s)
finishes core (m.Nest stmts) s = Some s
finishes core (m.Local local init) s = declares local init s
finishes core m.Skip s = Some s
finishes core (m.Do body cond) s = loops (m.Do body cond) body s
finishes core (m.While cond body) s = loops (m.While cond body) body s
finishes core (m.If cond first second) s = with_one s.frame.values s (branches (w.Eval first ∷ []) (eval_any second))
finishes core (m.Eval value) s = with_one s.frame.values s (λ dropped s. Some s)
finishes core (m.For first cond update body) s = loops (m.For first cond update body) body s
finishes core (m.Switch value gs) s = with_one s.frame.values s (λ a s. switches gs (number_of a) s)
finishes core (m.Labeled label body) s = Some s
finishes core (m.Break label) s = None
finishes core (m.Continue label) s = None
finishes core (m.Return value) s = returns value s
finishes core (m.Throw value) s = with_one s.frame.values s throws_any
finishes core (m.Try body ks last) s = Some (add_work (finally_work last) s)
finishes core (m.CtorCall is_super ctor args) s = with_some (codes_count args) [] s.frame.values s (constructs core (body_in core ctor) is_super)
