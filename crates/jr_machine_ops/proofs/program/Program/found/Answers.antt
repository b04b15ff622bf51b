use Rattle.std.proofs.Common.{ap, ◌∙◌}
use Rattle.std.specs.Option.{option_and_then}
use Rattle.jr_core.specs.declared.bodies.Class.{Class}
use Rattle.jr_machine_defs.specs.Classes.{class_in, found_among}
use Rattle.jr_machine_ops.proofs.program.Program.found.Goals as goal

pub returns-in-None : goal.returns-in-None
returns-in-None c =
    let h = rw (← c.in-None.ensures.value) at (c.self.invariant.0 c.args.class.0) in
    ap (option_and_then (λ (x : Class). found_among x.found c.args.method)) (h ∙ ap (λ core. class_in core c.args.class) c.self.view_is)

pub returns-in-Some : goal.returns-in-Some
returns-in-Some c =
    let h = rw (← c.in-Some.ensures.value) at (c.self.invariant.0 c.args.class.0) in
    c.found.ensures ∙ ap (option_and_then (λ (x : Class). found_among x.found c.args.method)) (h ∙ ap (λ core. class_in core c.args.class) c.self.view_is)
