use Rattle.std.proofs.Common.{◌∙◌, sym}
use Rattle.jr_type_faults.proofs.Holding.{declares_some, declares_none}
use Rattle.jr_type_faults.proofs.initializing.declares.Goals as goal

pub returns-in-Some : goal.returns-in-Some
returns-in-Some c = declares_some c.args.rows.now c.args.class c.args.member c.in-Some.over (sym c.declaring_type.ensures ∙ c.in-Some.is)

pub returns-in-None : goal.returns-in-None
returns-in-None c = declares_none c.args.rows.now c.args.class c.args.member (sym c.declaring_type.ensures ∙ c.in-None.is)
