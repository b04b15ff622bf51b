use Rattle.std.proofs.lemmas.Result.{IfOk-weaker}
use Rattle.jr_flow_faults.proofs.Leaving.{last_told, lost_told, catch_told, body_told, none_told}
use Rattle.jr_flow_faults.proofs.going.Tracing.leaves_try.Goals as goal

pub returns-then-is_last : goal.returns-then-is_last
returns-then-is_last c = λ of try. last_told c.args.self.now of c.args.class c.args.at try _ c.parent_at-over.ensures _ c.is_last.ensures c.if-is_last.true

pub returns-then-loses : goal.returns-then-loses
returns-then-loses c = λ of try. lost_told c.args.self.now of c.args.class c.args.at try _ c.parent_at-over.ensures _ c.is_last.ensures c.if-is_last.false _ c.loses.ensures c.if-loses.true

pub returns-then-is_catch : goal.returns-then-is_catch
returns-then-is_catch c = λ of try. catch_told c.args.self.now of c.args.class c.args.at try _ c.parent_at-over.ensures _ c.is_last.ensures c.if-is_last.false _ c.loses.ensures c.if-loses.false
    _ c.is_catch.ensures c.if-is_catch.true

pub returns-then-is_first_block : goal.returns-then-is_first_block
returns-then-is_first_block c = λ of try. IfOk-weaker c.is_uncaught.result _ _
    (λ b h. body_told c.args.self.now of c.args.class c.args.at try c.parent_at-over.result c.parent_at-over.ensures c.is_last.result c.is_last.ensures c.if-is_last.false c.loses.result c.loses.ensures c.if-loses.false
    c.is_catch.result c.is_catch.ensures c.if-is_catch.false c.is_first_block.result c.is_first_block.ensures c.if-is_first_block.true b h)
    (c.is_uncaught.ensures of)

pub returns : goal.returns
returns c = λ of try. none_told c.args.self.now of c.args.class c.args.at try _ c.parent_at-over.ensures _ c.is_last.ensures c.if-is_last.false _ c.loses.ensures c.if-loses.false
    _ c.is_catch.ensures c.if-is_catch.false _ c.is_first_block.ensures c.if-is_first_block.false
