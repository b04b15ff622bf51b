-- Flows that are too large, behind a call that finds one.
use Rattle.std.proofs.Common.{Result, IfErr}
use Rattle.std.proofs.lemmas.Result.{IfErr-weaker}
use Rattle.jr_flow.specs.declared.point.FlowFault.{FlowFault}
use Rattle.jr_flow.specs.declared.point.FlowFault.TheVariants as fault
use Rattle.jr_flow.specs.Numbered.{OnlyWhere}

pub only_where : (P Q : Type 0) (f : FlowFault) → (P → Q) → OnlyWhere P f → OnlyWhere Q f
only_where P Q fault.TooManyPoints go h = go h
only_where P Q fault.OutOfMemory go h = tt

pub large_err : {T : Type 0} (r : Result T FlowFault) (P Q : Type 0) → (P → Q) → IfErr r (OnlyWhere P) → IfErr r (OnlyWhere Q)
large_err r P Q go h = IfErr-weaker r (OnlyWhere P) (OnlyWhere Q) (λ f is. only_where P Q f go is) h
