use Rattle.std.proofs.Common.{◌∙◌, sym, ap, subst}
use Rattle.jr_commit.specs.Differences.{differences}
use Rattle.jr_commit.specs.Journal.{IsIn}
use Rattle.jr_commit.specs.Planned.{Planned}
use Rattle.jr_commit.specs.Steps.{sides_of}
use Rattle.jr_commit.specs.declared.entry.Version.TheVariants.{Two}
use Rattle.jr_commit.proofs.Returning.{differences_kept}
use Rattle.jr_top.proofs.Accepted.{within}
use Rattle.jr_top.proofs.engine.plan_between.Goals as goal

pub new-requires-clause-java_old : goal.new-requires-clause-java_old
new-requires-clause-java_old c = c.requires.found.java

pub new-requires-clause-java_new : goal.new-requires-clause-java_new
new-requires-clause-java_new c = c.requires.left.java

pub new-requires-clause-short : goal.new-requires-clause-short
new-requires-clause-short c = c.journal_fits.ensures.within (within c.args.found.now c.requires.found.checked) (within c.args.left.now c.requires.left.checked)

pub returns : goal.returns
returns c =
    let plan = c.plan.inside in
    let is = c.plan.view_is in
    record {
      journal = c.in_ok-plan.ensures.journal;
      steps = c.in_ok-plan.ensures.steps;
      kept = λ some. subst (λ (p : Planned). IsIn Two p.journal (differences c.args.found.now c.args.left.now)) is
          (differences_kept c.args.found.now c.args.left.now plan.journal.items plan.journal_path plan.gate_path (sides_of plan.steps.items) c.plan.invariant
          (ap (λ (p : Planned). p.journal) is ∙ c.in_ok-plan.ensures.journal) (λ none. some (sym (ap (λ (p : Planned). p.steps) is) ∙ none)));
      gives = c.in_ok-plan.ensures.gives;
      olds = c.in_ok-plan.ensures.olds;
    }
