use Rattle.std.proofs.Common.{sym, ◌∙◌}
use Rattle.std.proofs.lemmas.Result.{IfOk-weaker}
use Rattle.jr_codes.specs.Reads.{facts}
use Rattle.jr_elab.proofs.Looped.{header_evals, header_plain}
use Rattle.jr_elab.proofs.loops.header.Goals as goal

pub returns-then-is_list : goal.returns-then-is_list
returns-then-is_list c = IfOk-weaker c.evals.result _ _ (λ all takes counted. header_evals (facts c.args.source.now) c.args.at _ _ _ all (c.end-end.ensures counted) (sym c.is_list.ensures ∙ c.if-is_list.true) takes) c.evals.ensures

pub returns-else-is_list : goal.returns-else-is_list
returns-else-is_list c = IfOk-weaker c.before-else-is_list.result _ _ (λ all takes counted. header_plain (facts c.args.source.now) c.args.at _ _ _ all (c.end-end.ensures counted) (sym c.is_list.ensures ∙ c.if-is_list.false) takes) c.before-else-is_list.ensures
