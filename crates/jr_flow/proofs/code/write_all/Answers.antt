use Rattle.std.proofs.Common.{refl, ◌∙◌, ap, arith, ◌++◌, ◌∷◌, []}
use Rattle.jr_flow.specs.Seen.{seen}
use Rattle.jr_flow.specs.Views.{rows_in}
use Rattle.jr_flow.proofs.Coding.{writing_next, writing_ends}
use Rattle.jr_flow.proofs.code.write_all.Goals as goal

pub loop-at-init : goal.loop-at-init
loop-at-init c = λ m view tree le. record { acts_are = refl; firsts_are = refl }

pub loop-at-preserved : goal.loop-at-preserved
loop-at-preserved c = λ m view tree le. writing_next (rows_in c.args.view.now) m c.args.from c.loop-at.at c.args.end (seen c.args.acts.now) (seen c.loop-at.acts) (seen c.write_one.new.acts)
    c.args.firsts.now.items c.loop-at.firsts.items c.write_one.new.firsts.items (omega arith) (c.loop-at.invariant m view tree le) (c.in_ok-write_one.ensures.written m view tree (omega (arith, le))) c.in_ok-write_one.ensures.begun

pub returns : goal.returns
returns c = λ m view tree le. writing_ends (rows_in c.args.view.now) m c.args.from c.loop-at.at c.args.end (seen c.args.acts.now) (seen c.loop-at.acts)
    c.args.firsts.now.items c.loop-at.firsts.items c.push.new.self.items (omega arith) (c.loop-at.invariant m view tree le)
    (c.in_ok-push.ensures.items ∙ ap (λ k. c.loop-at.firsts.items ++ k ∷ []) (c.in_ok-last.ensures ∙ c.len.ensures))
