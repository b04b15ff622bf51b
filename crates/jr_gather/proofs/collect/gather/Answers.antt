use Rattle.std.proofs.Common.{◌≤◌, Option, Some, length, sym, ap, subst, ◌∙◌, arith}
use Rattle.jr_base.specs.declared.limits.TheConstants.Limits as limits
use Rattle.jr_store.specs.Image.{Image, Lists}
use Rattle.jr_gather.specs.Gathering.{IsGathered}
use Rattle.jr_gather.specs.Piles.{outcome_of}
use Rattle.jr_gather.proofs.Piling.{too_many_files, too_long_path, gathered_so}
use Rattle.jr_gather.proofs.collect.gather.Goals as goal

pub returns-then-len-clause-found : goal.returns-then-len-clause-found
returns-then-len-clause-found g c f is =
    let paths = c.in_ok-paths.ensures in
    let lists : Lists (Some f) 4097 c.in_ok-paths.paths.items = subst (λ (t : Option Image). Lists t 4097 c.in_ok-paths.paths.items) is paths.listed in
    too_many_files f c.in_ok-paths.paths.items paths.distinct paths.java lists (omega (arith, c.len.ensures, c.in_ok-paths.paths.ok.0))

pub returns-then-has_long-clause-found : goal.returns-then-has_long-clause-found
returns-then-has_long-clause-found g c f is =
    let paths = c.in_ok-paths.ensures in
    let lists : Lists (Some f) 4097 c.in_ok-paths.paths.items = subst (λ (t : Option Image). Lists t 4097 c.in_ok-paths.paths.items) is paths.listed in
    let few : length c.in_ok-paths.paths.items ≤ limits.FILES = omega (arith, c.len.ensures, c.in_ok-paths.paths.ok.0) in
    let long = rw c.deref.ensures.value at c.has_long.ensures in
    too_long_path f c.in_ok-paths.paths.items paths.distinct paths.java lists few (sym long ∙ c.if-has_long.true)

pub returns-clause-found : goal.returns-clause-found
returns-clause-found g c f is =
    let paths = c.in_ok-paths.ensures in
    let lists : Lists (Some f) 4097 c.in_ok-paths.paths.items = subst (λ (t : Option Image). Lists t 4097 c.in_ok-paths.paths.items) is paths.listed in
    let few : length c.in_ok-paths.paths.items ≤ limits.FILES = omega (arith, c.len.ensures, c.in_ok-paths.paths.ok.0) in
    let long = rw c.deref.ensures.value at c.has_long.ensures in
    let piled = rw c.deref-2.ensures.value at (c.in_ok-pile_up.ensures.piled f (paths.told ∙ is)) in
    subst (IsGathered f) (sym (c.outcome.ensures ∙ ap outcome_of piled)) (gathered_so f c.in_ok-paths.paths.items paths.distinct paths.java lists few (sym long ∙ c.if-has_long.false))
