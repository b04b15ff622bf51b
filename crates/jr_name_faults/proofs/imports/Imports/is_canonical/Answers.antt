use Rattle.std.proofs.Common.{subst, length, ◌<◌, ◌^◌, Decides}
use Rattle.jr_tree.specs.Rows.{label}
use Rattle.jr_tree.specs.Below.{IsTypeName}
use Rattle.jr_defs.specs.Declarations.{IsType}
use Rattle.jr_defs.specs.Packages.{spelled}
use Rattle.jr_defs.specs.Rules.{CanonicalName}
use Rattle.jr_members.specs.Sources.{ArePlaced}
use Rattle.jr_name_faults.proofs.imports.Imports.is_canonical.Goals as goal

pub returns : goal.returns
returns c = λ p t k n h type named. subst
    (λ q. ArePlaced q c.args.self.now.world.now.under.places.now → length q < 2 ^ 32 → IsType q c.args.class → IsTypeName (label q c.args.at) → Decides c.is_canonical_name.result (CanonicalName q c.args.class (spelled q c.args.at)))
    h.rows_are c.is_canonical_name.ensures h.placed h.few type named
