use Rattle.std.proofs.Common.{◌≡◌, List, [], ◌∷◌, Some, ◌∙◌, sym, ap, subst}
use Rattle.jr_commit.specs.Entries.{PlainEntry}
use Rattle.jr_commit.specs.Journal.{spelling, new_sides, IsIn}
use Rattle.jr_commit.specs.declared.entry.Version.TheVariants.{Two}
use Rattle.jr_commit.specs.Planned.{Planned}
use Rattle.jr_commit.specs.SidesAt.{SideAt}
use Rattle.jr_commit.specs.Steps.{sides_of}
use Rattle.jr_commit.proofs.Returning.{differences_kept}
use Rattle.jr_top.specs.Changing.{entry_of}
use Rattle.jr_top.proofs.Single.{java_single, small_single, differences_single, held_single}
use Rattle.jr_top.proofs.decide.plan_of.Goals as goal

pub new-requires-clause-java_old : goal.new-requires-clause-java_old
new-requires-clause-java_old c = java_single c.in_ok-before.before c.args.path.now c.args.old.items c.in_ok-before.ensures c.requires.java

pub new-requires-clause-java_new : goal.new-requires-clause-java_new
new-requires-clause-java_new c = java_single c.in_ok-after.after c.args.path.now c.args.new.items c.in_ok-after.ensures c.requires.java

pub new-requires-clause-short : goal.new-requires-clause-short
new-requires-clause-short c = c.journal_fits.ensures.one_file
    (small_single c.in_ok-before.before c.args.path.now c.args.old.items c.in_ok-before.ensures c.requires.short c.requires.small_old)
    (small_single c.in_ok-after.after c.args.path.now c.args.new.items c.in_ok-after.ensures c.requires.short c.requires.small_new)

no_entry : (s : SideAt) → s ∷ [] ≡ [] → ⊥
no_entry s is = cc

pub returns : goal.returns
returns c =
    let one = differences_single c.args.path.now c.args.old.items c.args.new.items c.requires.differ c.in_ok-before.before c.in_ok-after.after c.in_ok-before.ensures c.in_ok-after.ensures in
    let plan = c.plan.inside in
    let is = c.plan.view_is in
    let steps_are : sides_of plan.steps.items ≡ (c.args.path.now, Some c.args.new.items) ∷ [] = ap (λ (p : Planned). p.steps) is ∙ c.in_ok-plan.ensures.steps ∙ ap new_sides one in
    record {
      steps = c.in_ok-plan.ensures.steps ∙ ap new_sides one;
      journal = c.in_ok-plan.ensures.journal ∙ ap (spelling Two) one;
      kept = subst (λ (p : Planned). IsIn Two p.journal (entry_of c.args.path.now c.args.old.items c.args.new.items)) is (subst (λ (es : List PlainEntry). IsIn Two plan.journal.items es) one
          (differences_kept c.in_ok-before.before c.in_ok-after.after plan.journal.items plan.journal_path plan.gate_path (sides_of plan.steps.items) c.plan.invariant
          (ap (λ (p : Planned). p.journal) is ∙ c.in_ok-plan.ensures.journal) (λ none. no_entry (c.args.path.now, Some c.args.new.items) (sym steps_are ∙ none))));
      olds = λ files holds. c.in_ok-plan.ensures.olds files (held_single files c.in_ok-before.before c.args.path.now c.args.old.items c.in_ok-before.ensures holds);
    }
