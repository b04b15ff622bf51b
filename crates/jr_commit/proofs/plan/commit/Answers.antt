use Rattle.std.proofs.Common.{◌≡◌, ◌⊎◌, ◌∙◌, subst}
use Rattle.std.specs.Prelude.{Some}
use Rattle.jr_store.specs.Image.{Image, LeavesOnly}
use Rattle.jr_commit.specs.SidesAt.{with_sides}
use Rattle.jr_commit.specs.Steps.{sides_of}
use Rattle.jr_commit.specs.Restoring.{RestoresTo}
use Rattle.jr_commit.specs.Planned.{Planned, StartsCommit}
use Rattle.jr_commit.proofs.plan.commit.Goals as goal

pub returns-clause-any_moment : goal.returns-clause-any_moment
returns-clause-any_moment g c =
    let S = g.S.Store in
    let passed : Planned = record { journal = c.deref.result.now; steps = sides_of c.deref-2.result.now } in
    let same : passed ≡ c.args.plan.now = (λ i. record { journal = c.deref.ensures.value i; steps = sides_of (c.deref-2.ensures.value i) }) ∙ c.plan.view_is in
    subst (λ (p : Planned). (f : Image) → S.files c.args.store.now ≡ Some f → StartsCommit f (S.may_leave c.args.store.now) p → LeavesOnly S.moment S.left_since c.args.store.now c.commit_steps.new.store (λ image. RestoresTo image f ⊎ RestoresTo image (with_sides p.steps f)))
    same c.commit_steps.ensures.any_moment

pub returns-clause-read_back : goal.returns-clause-read_back
returns-clause-read_back g c f h told start is =
    let S = g.S.Store in
    let run = returns-clause-any_moment g c f told start in
    run.each h (g.met.S.Store.counts_now c.commit_steps.new.store (S.moment c.args.store.now) h run.later (g.met.S.Store.reads_now c.commit_steps.new.store h is))
