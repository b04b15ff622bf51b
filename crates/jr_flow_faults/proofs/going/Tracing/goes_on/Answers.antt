use Rattle.std.proofs.Common.{◌∙◌, ap}
use Rattle.jr_tree.specs.Rows.{label}
use Rattle.jr_flow_faults.specs.Computed.{rows_in}
use Rattle.jr_flow_faults.specs.Outwards.{is_try}
use Rattle.jr_flow_faults.proofs.Leaving.{no_try_told, try_told}
use Rattle.jr_flow_faults.proofs.going.Tracing.goes_on.Goals as goal

pub returns-then-is_try : goal.returns-then-is_try
returns-then-is_try c = λ of. c.leaves_try.ensures of
    (try_told c.args.self.now of c.args.class c.args.at c.is_try.result (c.is_try.ensures ∙ ap (λ n. is_try (label (rows_in c.args.self.now.view.now) n)) c.parent_at.ensures) c.if-is_try.true)

pub returns : goal.returns
returns c = λ of. no_try_told c.args.self.now of c.args.class c.args.at c.is_try.result c.is_code.result
    (c.is_try.ensures ∙ ap (λ n. is_try (label (rows_in c.args.self.now.view.now) n)) c.parent_at.ensures) c.if-is_try.false c.is_code.ensures
