use Rattle.std.proofs.Common.{sym, ◌∙◌}
use Rattle.jr_plain.proofs.Enclosed.{declaring_finds}
use Rattle.jr_dispatch.proofs.Linking.{overridden_none}
use Rattle.jr_dispatch.proofs.families.add_overridden.Goals as goal

pub returns-in-Some : goal.returns-in-Some
returns-in-Some c = λ t h m. c.add_overridden_from.ensures t h m ((declaring_finds c.args.methods.under.rows.now c.args.method _).0 (sym c.declaring_type.ensures ∙ c.in-Some.is))

pub returns-in-None : goal.returns-in-None
returns-in-None c = λ t h m. overridden_none c.args.methods.under.rows.now t c.args.method _ (sym c.declaring_type.ensures ∙ c.in-None.is)
