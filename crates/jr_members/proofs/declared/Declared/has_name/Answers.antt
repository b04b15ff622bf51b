use Rattle.std.proofs.Common.{◌∙◌, ap, length, is_some}
use Rattle.jr_supers.specs.Above.{is_some_item}
use Rattle.jr_members.specs.Keys.{is_named}
use Rattle.jr_members.proofs.Keyed.{rows_last}
use Rattle.jr_members.proofs.Declaring.{name_falls, some_named}
use Rattle.jr_members.proofs.declared.Declared.has_name.Goals as goal

pub returns : goal.returns
returns c = λ p kind is. c.is_some.ensures ∙ ap is_some c.last.ensures ∙ rows_last c.args.self.now.by_name c.args.name 0 (length c.args.self.now.by_name) ∙ ap is_some_item (name_falls p kind c.args.self.now is c.args.name) ∙ some_named (is_named p kind c.args.name) (length p)
