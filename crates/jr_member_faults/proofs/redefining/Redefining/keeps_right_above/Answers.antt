use Rattle.std.proofs.Common.{sym, ◌∙◌, subst}
use Rattle.std.proofs.lemmas.Bool.{false≢true}
use Rattle.std.proofs.lemmas.Result.{IfOk-weaker}
use Rattle.jr_plain.proofs.Enclosed.{declaring_finds}
use Rattle.jr_members.proofs.Heritage.{one_type}
use Rattle.jr_member_faults.specs.Nearest.{KeepsIn}
use Rattle.jr_member_faults.specs.Views.{rows_of, table_of}
use Rattle.jr_member_faults.proofs.redefining.Redefining.keeps_right_above.Goals as goal

pub returns-in-Some : goal.returns-in-Some
returns-in-Some c = λ h th m. let w = c.args.self.now.world.now in IfOk-weaker c.keeps_in.result _ _
    (λ is told e own declared. subst (λ z. KeepsIn (rows_of w) (table_of w) c.args.method z) (one_type (rows_of w) c.in-Some.at own c.args.method ((declaring_finds (rows_of w) c.args.method c.in-Some.at).0 (sym c.declaring_type.ensures ∙ c.in-Some.is)) declared) (told e))
    (c.keeps_in.ensures h th m)

pub returns-in-None : goal.returns-in-None
returns-in-None c = λ h th m e. absurd (false≢true e)
