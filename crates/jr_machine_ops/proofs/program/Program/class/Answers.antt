use Rattle.std.proofs.Common.{ap, ◌∙◌}
use Rattle.jr_machine_defs.specs.Classes.{class_in}
use Rattle.jr_machine_ops.proofs.program.Program.class.Goals as goal

pub returns-in-None : goal.returns-in-None
returns-in-None c =
    let h = rw (← c.in-None.ensures.value) at (c.self.invariant.0 c.args.id.0) in
    h ∙ ap (λ core. class_in core c.args.id) c.self.view_is

pub returns-in-Some : goal.returns-in-Some
returns-in-Some c =
    let h = rw (← c.in-Some.ensures.value) at (c.self.invariant.0 c.args.id.0) in
    h ∙ ap (λ core. class_in core c.args.id) c.self.view_is
