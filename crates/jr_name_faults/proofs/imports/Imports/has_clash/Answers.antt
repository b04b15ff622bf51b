use Rattle.std.proofs.Common.{◌∙◌, ap, ap₂}
use Rattle.jr_tree.specs.Rows.{parent}
use Rattle.jr_name_faults.specs.Imports.{has_other_type}
use Rattle.jr_name_faults.proofs.imports.Imports.has_clash.Goals as goal

pub returns : goal.returns
returns c = λ p t lt h. c.has_other.ensures ∙ ap₂ (λ unit x. has_other_type c.args.self.now unit x c.args.class) (c.parent_at-unit.ensures ∙ ap (λ q. parent q c.args.at) h.rows_are) (c.name-name.ensures p h.placed.are lt)
