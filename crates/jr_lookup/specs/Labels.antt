-- Labels in scope, among the rows that hold a place (JLS 14.7).
use Rattle.std.specs.Prelude.{◌≡◌, ℕ, Bool, not, ◌&&◌, List, nat_eq}
use Rattle.jr_base.specs.declared.text.Text.{Text}
use Rattle.jr_tree.specs.declared.label.Role.TheVariants as role
use Rattle.jr_tree.specs.Rows.{Rows, role_at}
use Rattle.jr_defs.specs.declared.referent.Space.TheVariants as space
use Rattle.jr_defs.specs.Referents.{Table}
use Rattle.jr_plain.specs.Search.{has}
use Rattle.jr_plain.specs.Same.{same_role}
use Rattle.jr_plain.specs.Scope.{is_somewhere_in_scope}
use Rattle.jr_places.specs.Names.{name_row}

-- a labeled statement of the name
abbrev pub is_label_named : Rows → ℕ → ℕ → Bool
is_label_named p x d = same_role (role_at p d) role.Label && nat_eq (name_row p d) x

-- such a one, other than the place
abbrev pub is_label_over : Rows → ℕ → ℕ → ℕ → Bool
is_label_over p o x d = not (nat_eq d o) && is_label_named p x d

-- these are the labels of the name in scope at the place
abbrev pub AreLabelsAt : Rows → Table → Text → ℕ → List ℕ → Type 0
AreLabelsAt p t x o found = (d : ℕ) → has found d ≡ is_somewhere_in_scope p t space.Label x o d
