use Rattle.std.proofs.Common.{sym, ◌∙◌}
use Rattle.jr_package.proofs.Steps.{either_moved, either_stayed}
use Rattle.jr_package.proofs.moving.Moving.add_either.Goals as goal

pub returns-then-has-clause-ok : goal.returns-then-has-clause-ok
returns-then-has-clause-ok c = λ ordered there fits all. either_moved c.args.self.now.named.now.marks.now c.args.self.now.folder.now c.args.self.now.named.now.from.now c.args.self.now.to.now c.args.of.unit c.args.of.head c.args.of.imports.now c.args.draft.now _
    (sym (c.in_ok-has.ensures ordered there) ∙ c.if-has.true) (c.in_ok-add_moved.ensures.ok ordered fits all)

pub returns-clause-ok : goal.returns-clause-ok
returns-clause-ok c = λ ordered there fits all. either_stayed c.args.self.now.named.now.marks.now c.args.self.now.folder.now c.args.self.now.named.now.from.now c.args.self.now.to.now c.args.of.unit c.args.of.head c.args.of.imports.now c.args.draft.now _
    (sym (c.in_ok-has.ensures ordered there) ∙ c.if-has.false) (c.in_ok-add_stayed.ensures.ok ordered fits all)
