use Rattle.std.proofs.Common.{sym, ◌∙◌}
use Rattle.jr_assign.proofs.Ended.{ended_told}
use Rattle.jr_assign.proofs.fields.ended_by.Goals as goal

pub returns : goal.returns
returns c = λ table. ended_told c.args.course c.args.start c.args.owners.now (record { table = table; owned = sym c.are_owned.ensures ∙ c.if-not-are_owned.false; guarded = c.requires.guarded }) _ c.ended.ensures
