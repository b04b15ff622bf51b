use Rattle.std.proofs.Common.{◌<◌, ◌^◌, length, arith}
use Rattle.std.proofs.lemmas.List.{length-map}
use Rattle.jr_commit.specs.SidesAt.{SideAt}
use Rattle.jr_commit.specs.Steps.{sides_of, path_of, side_of}
use Rattle.jr_commit.proofs.Undoing.{count_planned}
use Rattle.jr_commit.proofs.plan.Plan.count.Goals as goal

pub overflow_cast-result : goal.overflow_cast-result
overflow_cast-result c =
    let plan = c.self.inside in
    let few : length (sides_of plan.steps.items) < 2 ^ 32 = count_planned plan.journal.items plan.journal_path plan.gate_path (sides_of plan.steps.items) c.self.invariant in
    omega (arith, few, c.len.ensures, plan.steps.ok.0, length-map {B = SideAt} plan.steps.items (λ s. (path_of s, side_of s)))
