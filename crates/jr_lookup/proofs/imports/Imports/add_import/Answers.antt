use Rattle.std.proofs.Common.{◌≡◌, ◌++◌, subst, OnOk}
use Rattle.jr_members.specs.Keys.{entry_list}
use Rattle.jr_lookup.proofs.imports.Imports.add_import.Goals as goal

pub returns : goal.returns
returns c = λ placed few. subst (λ o. OnOk c.add_entry.result (c.add_entry.new.all ≡ c.args.self.now.singles ++ entry_list o)) (c.brought-entry.ensures placed few) c.add_entry.ensures
