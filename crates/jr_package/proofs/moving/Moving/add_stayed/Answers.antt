use Rattle.jr_package.proofs.Steps.{stayed_some}
use Rattle.jr_package.proofs.moving.Moving.add_stayed.Goals as goal

pub returns-clause-ok : goal.returns-clause-ok
returns-clause-ok c = λ ordered fits all. stayed_some c.args.self.now.named.now.marks.now c.args.self.now.to.now c.args.of.unit c.args.of.head c.args.of.imports.now c.args.draft.now _ _ c.is_empty.ensures c.if-is_empty.false
    (c.in_ok-add_importing.ensures.ok ordered fits all)
