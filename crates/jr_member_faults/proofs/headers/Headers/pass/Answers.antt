use Rattle.std.proofs.Common.{◌∙◌, ap₂}
use Rattle.jr_defs.specs.Referents.{entries}
use Rattle.jr_members.proofs.Declaring.{entries_more}
use Rattle.jr_member_faults.specs.Headers.{superinterface_entry, entry_by}
use Rattle.jr_member_faults.proofs.headers.Headers.pass.Goals as goal

pub returns : goal.returns
returns c = λ h. entries_more (superinterface_entry c.args.under.now.rows.now (entries c.args.under.now.table.now)) c.args.at _ _ _ h (c.superinterface_entry-entry.ensures ∙ ap₂ (λ o d. entry_by c.args.under.now.rows.now c.args.at o d) c.header_place-place.ensures c.declared-over.ensures) c.in_ok-add_entry.ensures
