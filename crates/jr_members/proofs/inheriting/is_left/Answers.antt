use Rattle.std.proofs.Common.{◌≡◌, sym, ◌∙◌, ap}
use Rattle.jr_members.specs.Gathered.{is_left_by}
use Rattle.jr_members.proofs.Each.{none_any}
use Rattle.jr_members.proofs.inheriting.is_left.Goals as goal

pub returns-in-Field : goal.returns-in-Field
returns-in-Field c = λ p t signed rows role. c.is_empty.ensures ∙ (none_any c.args.own.now ∙ ap (λ k. is_left_by p t k c.args.own.now c.args.at) (sym c.in-Field.is))

pub returns-in-Type : goal.returns-in-Type
returns-in-Type c = λ p t signed rows role. c.is_empty-in-Type.ensures ∙ (none_any c.args.own.now ∙ ap (λ k. is_left_by p t k c.args.own.now c.args.at) (sym c.in-Type.is))
