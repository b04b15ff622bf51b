use Rattle.std.proofs.Common.{sym, ◌∙◌, ap, arith}
use Rattle.jr_plain.specs.Enclosing.{is_body_of}
use Rattle.jr_lookup.proofs.Instancing.{up_start, up_next, member_found, up_ends}
use Rattle.jr_lookup.proofs.instances.member_round.Goals as goal

pub loop-turn-init : goal.loop-turn-init
loop-turn-init c = λ tree i. up_start c.args.rows.now tree c.args.place c.args.over i

pub loop-turn-preserved : goal.loop-turn-preserved
loop-turn-preserved c = λ tree i. up_next c.args.rows.now tree c.args.place c.args.over c.loop-turn._turn c.loop-turn.here _ i (c.loop-turn.invariant tree i)
    (ap (is_body_of c.args.rows.now c.args.over) (sym c.parent_at-body.ensures) ∙ sym c.is_body_of.ensures ∙ c.if-is_body_of.false) c.parent_at-body.ensures

pub returns-then-is_body_of : goal.returns-then-is_body_of
returns-then-is_body_of c = λ tree i. member_found c.args.rows.now tree c.args.place c.args.over c.loop-turn._turn c.loop-turn.here i (c.loop-turn.invariant tree i)
    (ap (is_body_of c.args.rows.now c.args.over) (sym c.parent_at-body.ensures) ∙ sym c.is_body_of.ensures ∙ c.if-is_body_of.true)

pub returns : goal.returns
returns c = λ tree i. absurd (up_ends c.args.rows.now tree c.args.place i.body c.loop-turn._turn c.loop-turn.here (c.loop-turn.invariant tree i) (omega arith))
