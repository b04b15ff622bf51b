use Rattle.std.proofs.Common.{◌≡◌, ◌<◌, length, arith}
use Rattle.jr_tree.specs.Rows.{label}
use Rattle.jr_codes.specs.Reads.{rows_of, facts}
use Rattle.jr_expressions.specs.Bodies.{BodyAt}
use Rattle.jr_elab.specs.Cores.{declares_body}
use Rattle.jr_elab.proofs.Each.{each_more, each_none, each_same}
use Rattle.jr_elab.proofs.bodies.bodies_of.Goals as goal

pub loop-at-init : goal.loop-at-init
loop-at-init c = λ reads. each_none (BodyAt (facts c.args.source.now)) _ c.new-bodies.ensures

pub loop-at-preserved : goal.loop-at-preserved
loop-at-preserved c =
    let lt : c.loop-at.at < length (rows_of c.args.source.now) = (let whole = c.in_ok-count.ensures in omega arith) in
    λ reads. each_more (BodyAt (facts c.args.source.now)) (λ n. declares_body (label (rows_of c.args.source.now) n)) c.loop-at.at _ _ (c.loop-at.invariant reads) (c.in_ok-add_body.ensures reads lt)

pub returns : goal.returns
returns c =
    let whole : c.loop-at.at ≡ length (rows_of c.args.source.now) = (let whole = c.in_ok-count.ensures in omega arith) in
    λ reads. each_same (BodyAt (facts c.args.source.now)) (λ n. declares_body (label (rows_of c.args.source.now) n)) _ _ _ whole (c.loop-at.invariant reads)
