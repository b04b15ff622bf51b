use Rattle.jr_bind.specs.declared.filling.Known.{Known}
use Rattle.jr_bind.proofs.Final.{bound_all}
use Rattle.jr_bind.proofs.Whole.{bound_read, direct_read, imports_read}
use Rattle.jr_bind.proofs.binder.bind_names.Goals as goal

pub returns-clause-tables : goal.returns-clause-tables
returns-clause-tables c = λ late ready. record {
  direct = direct_read c.args.setting.rows.now c.args.setting.places.now c.in_ok-supers.supers.value c.deref-3.result.now c.args.filling c.fill_names.new.filling c.in_ok-constants.constants.value c.deref.result.now c.deref.ensures.value
      c.in_ok-supers.ensures.direct (λ program. c.in_ok-constants.ensures.fills program late ready);
  imports_are = imports_read c.args.setting.rows.now c.args.setting.places.now c.deref-3.result.now c.in_ok-imports.imports.value c.args.filling c.fill_names.new.filling c.in_ok-constants.constants.value c.deref.result.now c.deref.ensures.value
      c.in_ok-imports.ensures (λ program. c.in_ok-constants.ensures.fills program late ready);
  under = bound_read c.args.setting.rows.now c.args.setting.places.now c.in_ok-supers.supers.value c.in_ok-members.members.value c.args.filling c.fill_names.new.filling c.in_ok-constants.constants.value
      c.deref.result.now c.deref-2.result.now c.deref-3.result.now c.deref.ensures.value c.deref-2.ensures c.deref-3.ensures c.in_ok-supers.ensures.all c.in_ok-members.ensures
      (λ program. c.in_ok-constants.ensures.fills program late ready);
}

pub returns-clause-bound : goal.returns-clause-bound
returns-clause-bound c = λ late ready binds setting program none types.
    let known : Known = record { setting = c.args.setting; supers = c.deref-3.result; members = c.deref-4.result; imports = c.deref-5.result } in
    bound_all known c.args.stages.now c.args.filling c.fill_names.new.filling c.in_ok-constants.constants.value c.deref.result.now c.deref-2.result.now c.in_ok-supers.supers.value c.in_ok-members.members.value
    c.in_ok-imports.imports.value late setting binds program c.deref.ensures.value c.deref-2.ensures c.deref-3.ensures c.deref-4.ensures c.deref-5.ensures c.in_ok-supers.ensures.all c.in_ok-members.ensures c.in_ok-imports.ensures
    none (c.in_ok-constants.ensures.fills program late ready) types (λ begin headers. c.in_ok-constants.ensures.looked program late ready begin none headers)
