-- The view of a call.
use Rattle.std.proofs.Common.{◌≡◌, sym, ◌∙◌, ap, Bool, false, List, [], ◌∷◌, Option, Some, None}
use Rattle.jr_base.specs.declared.ids.DeclId.{DeclId}
use Rattle.jr_core.specs.declared.code.Code as declared_code
use Rattle.jr_core.specs.declared.code.Code.TheVariants as code
use Rattle.jr_core.specs.declared.code.Code.TheVariants.{rolls-Call, rolls-Lit}
use Rattle.jr_core.specs.declared.code.Code.TheOpen.{Code-F}
use Rattle.jr_core.specs.declared.code.Code.TheFolds.{fold-roll-Code}
use Rattle.jr_core.specs.Mirror as m
use Rattle.jr_core.specs.Mirror.{plain_code, plain_codes, plain_any_code}
use Rattle.jr_machine_defs.specs.Steps.{start_call}

pub call_view : (receiver : Option declared_code.Code) (is_super : Bool) (method : DeclId) (args : List declared_code.Code)
    → plain_code (code.Call receiver is_super method args) ≡ m.Call (plain_any_code receiver) is_super method (plain_codes args)
call_view None is_super method args =
    ap plain_code (sym (rolls-Call None is_super method args)) ∙ fold-roll-Code m.Code m.Catch m.Group m.code_step m.catch_step m.group_step (Code-F.Call None is_super method args)
call_view (Some receiver) is_super method args =
    ap plain_code (sym (rolls-Call (Some receiver) is_super method args)) ∙ fold-roll-Code m.Code m.Catch m.Group m.code_step m.catch_step m.group_step (Code-F.Call (Some receiver) is_super method args)

null_view : plain_code (code.Lit None) ≡ m.Lit None
null_view = ap plain_code (sym (rolls-Lit None)) ∙ fold-roll-Code m.Code m.Catch m.Group m.code_step m.catch_step m.group_step (Code-F.Lit None)

-- the call that a run begins with
pub start_view : (start : DeclId) (args : List declared_code.Code) → args ≡ code.Lit None ∷ [] → plain_code (code.Call None false start args) ≡ start_call start
start_view start args h =
    call_view None false start args ∙ ap (λ all. m.Call m.no_code false start (plain_codes all)) h ∙ ap (λ one. m.Call m.no_code false start (m.more_codes one m.no_codes)) null_view
