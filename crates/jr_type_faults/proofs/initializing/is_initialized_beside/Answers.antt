use Rattle.std.proofs.Common.{◌∙◌, sym, ap}
use Rattle.jr_rules.specs.TypedTests.{found}
use Rattle.jr_type_faults.specs.Parts.{is_initialized_in}
use Rattle.jr_type_faults.proofs.initializing.is_initialized_beside.Goals as goal

pub returns-in-Some : goal.returns-in-Some
returns-in-Some c = λ right. let is = sym (c.innermost.ensures right.seen) ∙ c.in-Some.is in
    c.is_initialized_in.ensures right is ∙ sym (ap (λ o. found o (λ k. is_initialized_in c.args.facts.now c.args.at c.args.declared k)) is)

pub returns-in-None : goal.returns-in-None
returns-in-None c = λ right. let is = sym (c.innermost.ensures right.seen) ∙ c.in-None.is in sym (ap (λ o. found o (λ k. is_initialized_in c.args.facts.now c.args.at c.args.declared k)) is)
