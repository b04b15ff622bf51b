use Rattle.std.proofs.Common.{◌∙◌, ap₂}
use Rattle.jr_defs.specs.Referents.{entries}
use Rattle.jr_member_faults.specs.Headers.{is_wrong}
use Rattle.jr_member_faults.proofs.Headed.{wrong_told}
use Rattle.jr_member_faults.proofs.headers.Headers.has_wrong_supertype.Goals as goal

pub returns : goal.returns
returns c = λ lt h. c.is_wrong.ensures ∙ ap₂ (λ o d. is_wrong c.args.under.now.rows.now c.args.self.now.superinterfaces c.args.at o d) c.header_place-place.ensures c.declared-over.ensures ∙ wrong_told c.args.under.now.rows.now (entries c.args.under.now.table.now) c.args.self.now.superinterfaces c.args.at lt h
