use Rattle.std.proofs.Common.{sym, ◌∙◌}
use Rattle.jr_plain.proofs.Enclosed.{declaring_finds}
use Rattle.jr_member_faults.specs.Views.{rows_of, table_of}
use Rattle.jr_member_faults.proofs.Overridden.{like_undeclared}
use Rattle.jr_member_faults.proofs.redefining.like_above.Goals as goal

pub returns-in-Some : goal.returns-in-Some
returns-in-Some c = λ h m. c.like_from.ensures h m ((declaring_finds (rows_of c.args.world.now) c.args.method c.in-Some.over).0 (sym c.declaring_type.ensures ∙ c.in-Some.is))

pub returns-in-None : goal.returns-in-None
returns-in-None c = λ h m. like_undeclared (rows_of c.args.world.now) (table_of c.args.world.now) h.whole.world_is.seen.above.well.headed c.args.method _ (sym c.declaring_type.ensures ∙ c.in-None.is) c.new.ensures.items
