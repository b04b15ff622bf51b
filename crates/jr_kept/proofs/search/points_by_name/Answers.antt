use Rattle.std.proofs.Common.{sym, subst, length}
use Rattle.std.proofs.lemmas.Result.{IfOk-weaker}
use Rattle.jr_kept.specs.Searched.{ArePairs}
use Rattle.jr_kept.proofs.Searching.{named_listed}
use Rattle.jr_kept.proofs.search.points_by_name.Goals as goal

pub returns : goal.returns
returns c = IfOk-weaker c.of.result _ _ (λ lists l. named_listed lists c.args.count c.args.names.now c.deref.result.now (subst (λ ps. ArePairs c.args.names.now ps (length c.args.names.now)) (sym c.deref.ensures.value) c.in_ok-pairs.ensures) l) c.of.ensures
