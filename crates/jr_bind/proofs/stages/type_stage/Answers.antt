use Rattle.jr_bind.proofs.Lateness.{no_header}
use Rattle.jr_bind.proofs.stages.type_stage.Goals as goal

pub returns-then-around-2 : goal.returns-then-around-2
returns-then-around-2 c = λ p n seeks header. (seeks, no_header _ c.args.around.is_in_header header c.if-around.false)

pub returns : goal.returns
returns c = λ p n seeks header. (seeks, no_header _ c.args.around.is_in_header header c.if-around.false)
