-- Trees of labels with identifiers, as a first child and a next sibling.
use Rattle.std.specs.Prelude.{ℕ, ◌+◌, List, [], ◌∷◌, Option, Some, None}
use Rattle.jr_base.specs.declared.text.Text.{Text}
use Rattle.jr_tree.specs.declared.label.Label.{Label}

pub data Forest : Type 0 where
  none : Forest
  more : Label → Text → Forest → Forest → Forest

-- how many labels there are
abbrev pub size : Forest → ℕ
size none = 0
size (more l name kids rest) = 1 + size kids + size rest

-- a label without identifier, and one without children
abbrev pub node : Label → Forest → Forest → Forest
node l kids rest = more l [] kids rest

abbrev pub leaf : Label → Forest → Forest
leaf l rest = more l [] none rest

-- what there is of an option, and all of a list, before the rest
abbrev pub if_some : {A : Type 0} → (A → Forest → Forest) → Option A → Forest → Forest
if_some f None rest = rest
if_some f (Some a) rest = f a rest

abbrev pub each : {A : Type 0} → (A → Forest → Forest) → List A → Forest → Forest
each f [] rest = rest
each f (a ∷ all) rest = f a (each f all rest)
