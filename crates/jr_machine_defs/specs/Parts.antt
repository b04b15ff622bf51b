-- What a statement or an expression is replaced by: its parts in the order of evaluation, and its finishing item (JLS 14, 15.7).
use Rattle.std.specs.Prelude.{List, [], ◌∷◌, ◌++◌, Option, Some, None, ℕ, ◌+◌}
use Rattle.jr_base.specs.declared.ids.DeclId.{DeclId}
use Rattle.jr_base.specs.declared.constant.Const.{Const}
use Rattle.jr_base.specs.declared.constant.Const.TheVariants as k
use Rattle.jr_core.specs.declared.operators.BinaryOp.{BinaryOp}
use Rattle.jr_core.specs.Mirror as m
use Rattle.jr_core.specs.Mirror.{Code, Codes}
use Rattle.jr_machine_defs.specs.declared.value.Value.{Value}
use Rattle.jr_machine_defs.specs.declared.value.Value.TheVariants as v
use Rattle.jr_machine_defs.specs.declared.work.Work.{Work}
use Rattle.jr_machine_defs.specs.declared.work.Work.TheVariants as w
use Rattle.jr_machine_defs.specs.declared.work.Exit.TheVariants as exit

-- each of these, in order
abbrev pub evals : Codes → List Work
evals m.no_codes = []
evals (m.more_codes c all) = w.Eval c ∷ evals all

abbrev pub eval_any : m.AnyCode → List Work
eval_any m.no_code = []
eval_any (m.a_code c) = w.Eval c ∷ []

abbrev pub codes_count : Codes → ℕ
codes_count m.no_codes = 0
codes_count (m.more_codes c all) = 1 + codes_count all

-- the value of a literal (JLS 15.8.1, 3.10.5)
abbrev pub literal : Option Const → Value
literal None = v.Null
literal (Some (k.Bool value)) = v.Bool value
literal (Some (k.Byte value)) = v.Byte value
literal (Some (k.Short value)) = v.Short value
literal (Some (k.Char unit)) = v.Char unit
literal (Some (k.Int value)) = v.Int value
literal (Some (k.Long value)) = v.Long value
literal (Some (k.Str units)) = v.Text units

-- the target of a plain assignment; a local is no part of it (JLS 15.26.1)
abbrev pub plain_target : Code → List Work
plain_target (m.Var local) = []
plain_target target = w.Target target ∷ []

-- the target of a compound assignment or a step; a local gives its value at once (JLS 15.26.2)
abbrev pub old_target : Code → List Work
old_target (m.Var local) = w.Eval (m.Var local) ∷ []
old_target target = w.OldValue target ∷ []

abbrev pub assign_target : Option BinaryOp → Code → List Work
assign_target None target = plain_target target
assign_target (Some op) target = old_target target

-- the parts of a target
abbrev pub target_parts : Code → List Work
target_parts (m.FieldAt on field) = eval_any on
target_parts (m.Index array at) = w.Eval array ∷ w.Eval at ∷ []
target_parts target = []

-- a loop's condition and the loop itself; a `for` without a condition goes on (JLS 14.12, 14.13, 14.14)
abbrev pub turn : Code → Code → Code → List Work
turn loop cond body = w.Eval cond ∷ w.Finish loop ∷ []

abbrev pub for_turn : Code → m.AnyCode → Code → List Work
for_turn loop m.no_code body = w.Eval body ∷ w.AfterBody loop ∷ []
for_turn loop (m.a_code cond) body = turn loop cond body

abbrev pub new_array_parts : Codes → m.AnyCodes → List Work
new_array_parts dims m.no_list = evals dims
new_array_parts dims (m.a_list items) = evals items

abbrev pub parts : Code → List Work
parts (m.Assign target op value) = assign_target op target ++ w.Eval value ∷ w.Finish (m.Assign target op value) ∷ []
parts (m.Cond cond first second) = w.Eval cond ∷ w.Finish (m.Cond cond first second) ∷ []
parts (m.AndAlso left right) = w.Eval left ∷ w.Finish (m.AndAlso left right) ∷ []
parts (m.OrElse left right) = w.Eval left ∷ w.Finish (m.OrElse left right) ∷ []
parts (m.Binary left op right) = w.Eval left ∷ w.Eval right ∷ w.Finish (m.Binary left op right) ∷ []
parts (m.IsA value ty) = w.Eval value ∷ w.Finish (m.IsA value ty) ∷ []
parts (m.Unary op value) = w.Eval value ∷ w.Finish (m.Unary op value) ∷ []
parts (m.Cast ty value) = w.Eval value ∷ w.Finish (m.Cast ty value) ∷ []
parts (m.PreStep op target) = old_target target ++ w.Finish (m.PreStep op target) ∷ []
parts (m.PostStep target op) = old_target target ++ w.Finish (m.PostStep target op) ∷ []
parts (m.Lit value) = []
parts (m.This class) = w.Finish (m.This class) ∷ []
parts (m.Var local) = []
parts (m.FieldAt on field) = eval_any on ++ w.Finish (m.FieldAt on field) ∷ []
parts (m.Length array) = w.Eval array ∷ w.Finish (m.Length array) ∷ []
parts (m.Index array at) = w.Eval array ∷ w.Eval at ∷ w.Finish (m.Index array at) ∷ []
parts (m.Call receiver is_super method args) = eval_any receiver ++ (evals args ++ w.Finish (m.Call receiver is_super method args) ∷ [])
parts (m.New outer ctor args) = eval_any outer ++ (evals args ++ w.Finish (m.New outer ctor args) ∷ [])
parts (m.NewArray ty dims init) = new_array_parts dims init ++ w.Finish (m.NewArray ty dims init) ∷ []
parts (m.Show value) = w.Eval value ∷ w.Finish (m.Show value) ∷ []
parts (m.Nest stmts) = evals stmts ++ w.Finish (m.Nest stmts) ∷ []
parts (m.Local local init) = eval_any init ++ w.Finish (m.Local local init) ∷ []
parts m.Skip = w.Finish m.Skip ∷ []
parts (m.Do body cond) = w.Eval body ∷ w.AfterBody (m.Do body cond) ∷ []
parts (m.While cond body) = turn (m.While cond body) cond body
parts (m.If cond first second) = w.Eval cond ∷ w.Finish (m.If cond first second) ∷ []
parts (m.Eval value) = w.Eval value ∷ w.Finish (m.Eval value) ∷ []
parts (m.For first cond update body) = evals first ++ for_turn (m.For first cond update body) cond body
parts (m.Switch value gs) = w.Eval value ∷ w.Finish (m.Switch value gs) ∷ []
parts (m.Labeled label body) = w.Eval body ∷ w.Finish (m.Labeled label body) ∷ []
parts (m.Break label) = w.Exiting (exit.Break label) ∷ []
parts (m.Continue label) = w.Exiting (exit.Continue label) ∷ []
parts (m.Return value) = eval_any value ++ w.Finish (m.Return value) ∷ []
parts (m.Throw value) = w.Eval value ∷ w.Finish (m.Throw value) ∷ []
parts (m.Try body ks last) = evals body ++ w.Finish (m.Try body ks last) ∷ []
parts (m.CtorCall is_super ctor args) = evals args ++ w.Finish (m.CtorCall is_super ctor args) ∷ []

-- what follows the body of a loop
abbrev pub after_body : Code → List Work
after_body (m.While cond body) = turn (m.While cond body) cond body
after_body (m.Do body cond) = turn (m.Do body cond) cond body
after_body (m.For first cond update body) = evals update ++ for_turn (m.For first cond update body) cond body
after_body code = []
