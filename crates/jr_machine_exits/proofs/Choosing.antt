-- The default counts only where no case was found.
use Rattle.std.proofs.Common.{◌≡◌, refl, ℕ, ◌<◌, List, [], ◌∷◌, length, arith}
use Rattle.jr_core.specs.declared.code.Group as declared_group
use Rattle.jr_core.specs.Mirror as m
use Rattle.jr_machine_defs.specs.Control.{default_from, or_default}

pub or_default_some : (found : List declared_group.Group) (all : m.Groups) → 0 < length found → or_default (m.plain_groups found) all ≡ m.plain_groups found
or_default_some [] all some = absurd (omega arith)
or_default_some (g ∷ rest) all some = refl

pub or_default_none : (found : List declared_group.Group) (all : m.Groups) → length found ≡ 0 → or_default (m.plain_groups found) all ≡ default_from all
or_default_none [] all none = refl
or_default_none (g ∷ rest) all none = absurd (omega arith)
