use Rattle.std.proofs.Common.{arith, ◌∙◌}
use Rattle.std.proofs.lemmas.List.{drop_more, drop_all}
use Rattle.jr_dispatch.proofs.Inheriting.{supers_listed, marking_start, marking_next, marking_end}
use Rattle.jr_dispatch.proofs.dispatch.Methods.mark_supers.Goals as goal

pub loop-over-init : goal.loop-over-init
loop-over-init c = λ t bound h counted. marking_start c.args.self.under.rows.now t c.args.at c.args.method _ bound _ counted (supers_listed c.args.self.under.rows.now t _ _ _ c.args.at h.supers.direct c.direct.ensures (c.deref-over-items.ensures.value ∙ c.in_ok-supers.ensures))

pub loop-over-preserved : goal.loop-over-preserved
loop-over-preserved c = λ t bound h counted. marking_next c.args.self.under.rows.now t c.args.at c.args.method _ bound _ _ _ _ _ (drop_more c.deref-over-items.result.now c.loop-over.over-index _ (omega arith)) (c.loop-over.invariant t bound h counted)
    (c.mark_if.ensures bound (c.loop-over.invariant t bound h counted).counted)

pub returns : goal.returns
returns c = λ t bound h counted. marking_end c.args.self.under.rows.now t c.args.at c.args.method _ bound _ _ (drop_all c.loop-over.over-index c.deref-over-items.result.now (omega arith)) (c.loop-over.invariant t bound h counted)
