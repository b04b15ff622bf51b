use Rattle.std.proofs.Common.{sym, ◌∙◌, subst, arith, All, ◌+◌, ◌<◌, ◌^◌}
use Rattle.jr_package.proofs.Steps.{one_so}
use Rattle.jr_package.proofs.moving.Moving.add_one.Goals as goal

pub returns-clause-ok : goal.returns-clause-ok
returns-clause-ok c = λ ordered. let count = c.count_units.ensures ordered in
    one_so c.args.self.now.named.now.marks.now c.args.self.now.folder.now c.args.self.now.named.now.from.now c.args.self.now.to.now c.args.unit _ _ c.args.draft.now _ c.args.self.now.named.now.table.now
    (c.head_at-head.ensures.is ordered (omega arith)) (c.as_slice-these.ensures.value ∙ c.in_ok-imports.ensures.all)
    (c.in_ok-add_either.ensures.ok ordered (omega arith) (c.head_at-head.ensures.fits ordered (omega arith)) (subst (All (λ at. at + 1 < 2 ^ 32)) (sym c.as_slice-these.ensures.value) c.in_ok-imports.ensures.within))
