use Rattle.std.proofs.Common.{◌≡◌, ap, sym, ◌∙◌, ◌+◌, ◌-◌, true, false, length, Some, arith}
use Rattle.jr_machine_defs.specs.Values.{same_type}
use Rattle.jr_machine_defs.specs.Classes.{class_in}
use Rattle.jr_machine_defs.specs.Control.{outer_of, outer_class, instance_at}
use Rattle.jr_machine_ops.proofs.Levels.{outer_here, outer_next}
use Rattle.jr_machine_ops.proofs.program.Program.instance_of.Goals as goal

pub returns-then-same_type : goal.returns-then-same_type
returns-then-same_type c =
    let core = c.args.self.now in
    let heap = c.args.heap.now in
    let same : same_type c.loop-level.current c.args.class ≡ true = cc in
    sym (outer_here core heap (c.class_count-levels.result - c.loop-level.level) c.args.class c.loop-level.current c.loop-level.object (omega arith) same)
    ∙ (c.loop-level.invariant
    ∙ (ap (λ n. instance_at core heap n c.args.class (Some c.args.current) (Some c.copy-object.result)) c.class_count-levels.ensures
    ∙ ap (λ o. instance_at core heap (length core.classes) c.args.class (Some c.args.current) (Some o)) c.copy-object.ensures))

pub loop-level-preserved : goal.loop-level-preserved
loop-level-preserved c =
    let core = c.args.self.now in
    let heap = c.args.heap.now in
    let same : same_type c.loop-level.current c.args.class ≡ false = cc in
    let out : outer_class (class_in core c.loop-level.current) ≡ Some c.in_ok-current.current = sym (c.outer_class.ensures ∙ ap outer_class c.class.ensures) ∙ c.in_ok-current.was in
    let found : outer_of heap c.loop-level.object ≡ Some c.in_ok-object.object = sym c.outer_of.ensures ∙ c.in_ok-object.was in
    let left : c.class_count-levels.result - (c.loop-level.level + 1) ≡ c.class_count-levels.result - c.loop-level.level - 1 = omega arith in
    ap (λ n. instance_at core heap n c.args.class (Some c.in_ok-current.current) (Some c.in_ok-object.object)) left
    ∙ (sym (outer_next core heap (c.class_count-levels.result - c.loop-level.level) c.args.class c.loop-level.current c.in_ok-current.current c.loop-level.object c.in_ok-object.object (omega arith) same out found)
    ∙ c.loop-level.invariant)
