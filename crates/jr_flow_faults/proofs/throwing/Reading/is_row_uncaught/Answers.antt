use Rattle.std.proofs.Common.{refl, ◌∙◌, arith}
use Rattle.std.proofs.lemmas.Result.{IfOk-weaker}
use Rattle.jr_flow_faults.specs.Reading.{rows_of, table_of, types_in, completes_of}
use Rattle.jr_flow_faults.proofs.Noted.{classes_start, no_classes, some_classes, row_told, some_thrown}
use Rattle.jr_flow_faults.proofs.throwing.Reading.is_row_uncaught.Goals as goal

pub returns-then-is_empty : goal.returns-then-is_empty
returns-then-is_empty c = λ reading lt before. let p = rows_of c.args.self.now in let t = table_of c.args.self.now in let completes = completes_of c.args.self.now in let view = reading.view in
    row_told p t completes view.above.well.headed view.local (types_in c.args.self.now.view.now) view.typed c.args.at _ _ before _ (c.in_ok-classes.ensures view.sized.few view.local.tree) _
    (classes_start p t completes c.args.at _ _ _ (no_classes p t completes c.in_ok-classes.classes.items _ c.is_empty.result (omega (arith, c.in_ok-classes.classes.ok.0)) c.is_empty.ensures c.if-is_empty.true) refl)

pub returns : goal.returns
returns c = λ reading lt before. let p = rows_of c.args.self.now in let t = table_of c.args.self.now in let completes = completes_of c.args.self.now in let view = reading.view in
    let are = c.deref.ensures.value ∙ c.in_ok-classes.ensures view.sized.few view.local.tree in
    IfOk-weaker c.are_uncaught.result _ _ (λ b notes. row_told p t completes view.above.well.headed view.local (types_in c.args.self.now.view.now) view.typed c.args.at _ _ before _ are b notes)
    (c.are_uncaught.ensures reading (some_thrown p t completes view.above.well.headed view.local (types_in c.args.self.now.view.now) view.typed c.args.at c.args.arrived.now c.args.arrived.now before _ (c.in_ok-classes.ensures view.sized.few view.local.tree)
    (some_classes p t completes c.in_ok-classes.classes.items _ c.is_empty.result (omega (arith, c.in_ok-classes.classes.ok.0)) c.is_empty.ensures c.if-is_empty.false)) lt)
