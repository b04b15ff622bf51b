-- The parts of code under a renaming.
use Rattle.std.proofs.Common.{◌≡◌, refl, sym, ap, ◌∙◌, ◌+◌, List, [], ◌∷◌, ◌++◌, map, Option, Some, None}
use Rattle.std.proofs.lemmas.List.{map-append}
use Rattle.jr_base.specs.declared.ids.DeclId.{DeclId}
use Rattle.jr_core.specs.declared.operators.BinaryOp.{BinaryOp}
use Rattle.jr_core.specs.Mirror as m
use Rattle.jr_core.specs.Mirror.{Code, Codes}
use Rattle.jr_machine_defs.specs.declared.work.Work.{Work}
use Rattle.jr_machine_defs.specs.declared.work.Work.TheVariants as w
use Rattle.jr_machine_defs.specs.Parts.{evals, eval_any, codes_count, plain_target, old_target, assign_target, target_parts, for_turn, new_array_parts, parts, after_body}
use Rattle.jr_machine_defs.specs.Renamed.{renamed_code, renamed_codes, renamed_any_code, renamed_any_codes, renamed_work}

pub work_joined : (f : DeclId → DeclId) (a b : List Work) {x y : List Work} → x ≡ map (renamed_work f) a → y ≡ map (renamed_work f) b → x ++ y ≡ map (renamed_work f) (a ++ b)
work_joined f a b {x} {y} e h = ap (λ t. t ++ y) e ∙ (ap (λ t. map (renamed_work f) a ++ t) h ∙ sym (map-append (renamed_work f) a b))

module _ (f : DeclId → DeclId) where
  pub evals_renamed : (all : Codes) → evals (renamed_codes f all) ≡ map (renamed_work f) (evals all)
  evals_renamed m.no_codes = refl
  evals_renamed (m.more_codes c all) = ap (λ x. w.Eval (renamed_code f c) ∷ x) (evals_renamed all)

  pub eval_any_renamed : (any : m.AnyCode) → eval_any (renamed_any_code f any) ≡ map (renamed_work f) (eval_any any)
  eval_any_renamed m.no_code = refl
  eval_any_renamed (m.a_code c) = refl

  pub codes_count_renamed : (all : Codes) → codes_count (renamed_codes f all) ≡ codes_count all
  codes_count_renamed m.no_codes = refl
  codes_count_renamed (m.more_codes c all) = ap (λ n. 1 + n) (codes_count_renamed all)

  -- ---- targets

  plain_target_renamed : (target : Code) → plain_target (renamed_code f target) ≡ map (renamed_work f) (plain_target target)
  plain_target_renamed (m.Var local) = refl
  plain_target_renamed target = refl

  old_target_renamed : (target : Code) → old_target (renamed_code f target) ≡ map (renamed_work f) (old_target target)
  old_target_renamed (m.Var local) = refl
  old_target_renamed target = refl

  assign_target_renamed : (op : Option BinaryOp) (target : Code) → assign_target op (renamed_code f target) ≡ map (renamed_work f) (assign_target op target)
  assign_target_renamed None target = plain_target_renamed target
  assign_target_renamed (Some op) target = old_target_renamed target

  pub target_parts_renamed : (target : Code) → target_parts (renamed_code f target) ≡ map (renamed_work f) (target_parts target)
  target_parts_renamed (m.FieldAt on field) = eval_any_renamed on
  target_parts_renamed target = refl

  -- ---- loops and arrays

  for_turn_renamed : (loop : Code) (any : m.AnyCode) (body : Code)
      → for_turn (renamed_code f loop) (renamed_any_code f any) (renamed_code f body) ≡ map (renamed_work f) (for_turn loop any body)
  for_turn_renamed loop m.no_code body = refl
  for_turn_renamed loop (m.a_code cond) body = refl

  new_array_parts_renamed : (dims : Codes) (init : m.AnyCodes)
      → new_array_parts (renamed_codes f dims) (renamed_any_codes f init) ≡ map (renamed_work f) (new_array_parts dims init)
  new_array_parts_renamed dims m.no_list = evals_renamed dims
  new_array_parts_renamed dims (m.a_list items) = evals_renamed items

  -- ---- all

  -- some parts, and then the finishing item
  then_finish : (a : List Work) {x : List Work} (code : Code) → x ≡ map (renamed_work f) a
      → x ++ w.Finish (renamed_code f code) ∷ [] ≡ map (renamed_work f) (a ++ w.Finish code ∷ [])
  then_finish a code e = work_joined f a (w.Finish code ∷ []) e refl

  pub parts_renamed : (code : Code) → parts (renamed_code f code) ≡ map (renamed_work f) (parts code)
  parts_renamed (m.Assign target op value) =
      work_joined f (assign_target op target) (w.Eval value ∷ w.Finish (m.Assign target op value) ∷ []) (assign_target_renamed op target) refl
  parts_renamed (m.PreStep op target) = then_finish (old_target target) (m.PreStep op target) (old_target_renamed target)
  parts_renamed (m.PostStep target op) = then_finish (old_target target) (m.PostStep target op) (old_target_renamed target)
  parts_renamed (m.FieldAt on field) = then_finish (eval_any on) (m.FieldAt on field) (eval_any_renamed on)
  parts_renamed (m.Call receiver is_super method args) =
      work_joined f (eval_any receiver) (evals args ++ w.Finish (m.Call receiver is_super method args) ∷ []) (eval_any_renamed receiver)
      (then_finish (evals args) (m.Call receiver is_super method args) (evals_renamed args))
  parts_renamed (m.New outer ctor args) =
      work_joined f (eval_any outer) (evals args ++ w.Finish (m.New outer ctor args) ∷ []) (eval_any_renamed outer)
      (then_finish (evals args) (m.New outer ctor args) (evals_renamed args))
  parts_renamed (m.NewArray ty dims init) = then_finish (new_array_parts dims init) (m.NewArray ty dims init) (new_array_parts_renamed dims init)
  parts_renamed (m.Nest stmts) = then_finish (evals stmts) (m.Nest stmts) (evals_renamed stmts)
  parts_renamed (m.Local local init) = then_finish (eval_any init) (m.Local local init) (eval_any_renamed init)
  parts_renamed (m.For first cond update body) =
      work_joined f (evals first) (for_turn (m.For first cond update body) cond body) (evals_renamed first) (for_turn_renamed (m.For first cond update body) cond body)
  parts_renamed (m.Return value) = then_finish (eval_any value) (m.Return value) (eval_any_renamed value)
  parts_renamed (m.Try body ks last) = then_finish (evals body) (m.Try body ks last) (evals_renamed body)
  parts_renamed (m.CtorCall is_super ctor args) = then_finish (evals args) (m.CtorCall is_super ctor args) (evals_renamed args)
  parts_renamed code = refl

  pub after_body_renamed : (loop : Code) → after_body (renamed_code f loop) ≡ map (renamed_work f) (after_body loop)
  after_body_renamed (m.For first cond update body) =
      work_joined f (evals update) (for_turn (m.For first cond update body) cond body) (evals_renamed update) (for_turn_renamed (m.For first cond update body) cond body)
  after_body_renamed code = refl
