use Rattle.std.proofs.Common.{arith, ◌||◌, nat_eq}
use Rattle.std.proofs.lemmas.List.{drop_more, drop_all}
use Rattle.jr_plain.specs.Overloads.{is_earlier}
use Rattle.jr_lookup.proofs.Choosing.{all_stop, all_next, all_end}
use Rattle.jr_lookup.proofs.choice.is_first.Goals as goal

pub returns-then-not-before : goal.returns-then-not-before
returns-then-not-before c = λ t h. let p = c.args.world.under.rows.now in let all = c.args.methods.now in let i = c.loop-other.other-index in
    all_stop (λ k. nat_eq c.args.method k || is_earlier p t c.args.over c.args.method k) all _ _ _ _ (drop_more all i 0 (omega arith)) (c.in_ok-before.ensures t h) c.if-not-before.true (c.loop-other.invariant t h)

pub loop-other-preserved : goal.loop-other-preserved
loop-other-preserved c = λ t h. let p = c.args.world.under.rows.now in let all = c.args.methods.now in let i = c.loop-other.other-index in
    all_next (λ k. nat_eq c.args.method k || is_earlier p t c.args.over c.args.method k) all _ _ _ _ (drop_more all i 0 (omega arith)) (c.in_ok-before.ensures t h) c.if-not-before.false (c.loop-other.invariant t h)

pub returns : goal.returns
returns c = λ t h. let p = c.args.world.under.rows.now in let all = c.args.methods.now in all_end (λ k. nat_eq c.args.method k || is_earlier p t c.args.over c.args.method k) all _ (drop_all c.loop-other.other-index all (omega arith)) (c.loop-other.invariant t h)
