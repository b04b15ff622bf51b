use Rattle.std.proofs.Common.{◌-◌, ◌+◌, length, arith}
use Rattle.std.proofs.lemmas.Bool.{false_from_ne_true}
use Rattle.std.proofs.lemmas.Bool.Decides.{Decides-eqb}
use Rattle.jr_member_faults.proofs.Inside.{round_start, round_out, round_here, round_next}
use Rattle.jr_member_faults.proofs.twice.is_inside_name.Goals as goal

pub loop-turn-init : goal.loop-turn-init
loop-turn-init c = λ placed lt. round_start c.args.rows.now c.args.at c.declaring_type-around.result _ c.declaring_type-around.ensures (omega arith)

pub returns-in_default : goal.returns-in_default
returns-in_default c = λ placed lt. round_out c.args.rows.now c.args.at _ c.loop-turn.around c.in_default.is (c.loop-turn.invariant placed lt)

pub returns-then-is_found : goal.returns-then-is_found
returns-then-is_found c = λ placed lt. let p = c.args.rows.now in
    round_here p c.args.at (length p - c.loop-turn._turn) (length p - (c.loop-turn._turn + 1)) c.in-Some.over c.name-other.result c.name-name.result c.loop-turn.around (omega arith) c.in-Some.is
    (λ below. c.name-other.ensures p placed below) (c.name-name.ensures p placed lt) ((Decides-eqb c.name-other.result c.name-name.result).1 c.if-is_found.true) (c.loop-turn.invariant placed lt)

pub loop-turn-preserved : goal.loop-turn-preserved
loop-turn-preserved c = λ placed lt. let p = c.args.rows.now in
    round_next p c.args.at (length p - c.loop-turn._turn) (length p - (c.loop-turn._turn + 1)) c.in-Some.over c.name-other.result c.name-name.result c.loop-turn.around _ (omega arith) c.in-Some.is
    (λ below. c.name-other.ensures p placed below) (c.name-name.ensures p placed lt) (false_from_ne_true _ (λ e. c.if-is_found.false ((Decides-eqb c.name-other.result c.name-name.result).0 e))) c.declaring_type-around-in-loop-turn.ensures (c.loop-turn.invariant placed lt)
