use Rattle.std.proofs.Common.{◌≡◌, ◌++◌, ◌+◌, ◌∷◌, [], if◌then◌else◌, Bool, sym, ◌∙◌, ap, subst, arith, length}
use Rattle.jr_kept.specs.Disturbed.{AreSuch}
use Rattle.jr_kept.proofs.Disturbing.{such_none, such_more}
use Rattle.jr_kept.proofs.dropped.numbers_of.Goals as goal

pub loop-number-init : goal.loop-number-init
loop-number-init c = subst (AreSuch c.args.points.now c.args.is_definition c.args.local 0) (sym c.new-all.ensures.items) (such_none c.args.points.now c.args.is_definition c.args.local)

pub loop-number-preserved : goal.loop-number-preserved
loop-number-preserved c = let points = c.args.points.now in let b = c.args.is_definition in let d = c.args.local in let n = c.loop-number.number in let all = c.loop-number.all.items in
    subst (AreSuch points b d (n + 1)) (sym (c.in_ok-push_if.ensures ∙ ap (λ (t : Bool). all ++ (if t then n ∷ [] else [])) c.is_such.ensures))
    (such_more points b d n all c.in-Some.point (sym c.point_at.ensures ∙ c.in-Some.is) c.loop-number.invariant)

pub returns : goal.returns
returns c = let past = c.loop-number-test.false in let near = c.loop-number.auto.number-end in let size = c.in_ok-count.ensures in
    let all : c.loop-number.number ≡ length c.args.points.now = omega (arith, past, near, size) in
    subst (λ n. AreSuch c.args.points.now c.args.is_definition c.args.local n c.loop-number.all.items) all c.loop-number.invariant
