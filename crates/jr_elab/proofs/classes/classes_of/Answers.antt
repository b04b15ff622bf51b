use Rattle.std.proofs.Common.{◌≡◌, length, arith}
use Rattle.jr_plain.specs.Declarations.{is_type}
use Rattle.jr_codes.specs.Reads.{rows_of, facts}
use Rattle.jr_elab.specs.Cores.{IsClassOf}
use Rattle.jr_elab.proofs.Each.{each_more, each_none, each_same}
use Rattle.jr_elab.proofs.classes.classes_of.Goals as goal

pub loop-at-init : goal.loop-at-init
loop-at-init c = λ whole. each_none (IsClassOf (facts c.args.source.now)) _ c.new-classes.ensures

pub loop-at-preserved : goal.loop-at-preserved
loop-at-preserved c = λ whole. each_more (IsClassOf (facts c.args.source.now)) (λ k. is_type (rows_of c.args.source.now) k) c.loop-at.at _ _ (c.loop-at.invariant whole) (c.in_ok-add_class.ensures whole)

pub returns : goal.returns
returns c =
    let whole : c.loop-at.at ≡ length (rows_of c.args.source.now) = (let whole = c.in_ok-count.ensures in omega arith) in
    λ right. each_same (IsClassOf (facts c.args.source.now)) (λ k. is_type (rows_of c.args.source.now) k) _ _ _ whole (c.loop-at.invariant right)
