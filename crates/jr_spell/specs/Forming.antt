-- What stands before the dot of a reference, and which ways to write it there are besides the old one, as code tells them apart.
use Rattle.std.specs.Prelude.{ℕ, ◌+◌, ◌-◌, Bool, true, false, ◌&&◌, if◌then◌else◌, List, [], Option, Some, None, is_some, nat_lt}
use Rattle.jr_tree.specs.declared.label.Label.{Label}
use Rattle.jr_tree.specs.declared.label.Label.TheVariants as is
use Rattle.jr_tree.specs.declared.label.ReceiverKind.{ReceiverKind}
use Rattle.jr_tree.specs.declared.label.ReceiverKind.TheVariants as on
use Rattle.jr_tree.specs.declared.label.Role.{Role}
use Rattle.jr_tree.specs.declared.label.Role.TheVariants as role
use Rattle.jr_tree.specs.declared.label.Sought.{Sought}
use Rattle.jr_tree.specs.declared.label.Sought.TheVariants as sought
use Rattle.jr_tree.specs.Rows.{Rows, label, parent, role_at, sought_at}
use Rattle.jr_defs.specs.declared.referent.RowType.{RowType}
use Rattle.jr_defs.specs.Referents.{Table}
use Rattle.jr_plain.specs.Modifiers.{is_static}
use Rattle.jr_shapes.specs.Parts.{end_of, is_qualifier, receiver_of}
use Rattle.jr_spelling_rules.specs.Candidates as candidate
use Rattle.jr_spell.specs.declared.reference.Dot.{Dot}
use Rattle.jr_spell.specs.declared.reference.Dot.TheVariants as dot
use Rattle.jr_spell.specs.declared.reference.Form.{Form}
use Rattle.jr_spell.specs.declared.reference.Form.TheVariants as form

-- ---- what stands before the dot

abbrev pub is_name_receiver : ReceiverKind → Bool
is_name_receiver on.Name = true
is_name_receiver _ = false

abbrev pub has_name_before : Label → Bool
has_name_before (is.Name kind place is_qualified) = is_qualified
has_name_before (is.Call receiver) = is_name_receiver receiver
has_name_before _ = false

-- packages or types do
abbrev pub has_parts : Rows → Table → ℕ → Bool
has_parts p t n = has_name_before (label p n) && (nat_lt (n + 1) (end_of p (n + 1)) && is_qualifier p t (n + 1))

abbrev pub is_names : Dot → Bool
is_names dot.Names = true
is_names _ = false

-- ---- which other ways there are

abbrev pub is_static_by : Rows → Option ℕ → Bool
is_static_by p (Some d) = is_static p d
is_static_by p None = false

abbrev pub type_form : Rows → ℕ → Form
type_form p n = if candidate.is_import_label (label p (parent p n)) then form.Import else form.OfType

abbrev pub member_form : Rows → Table → ℕ → Form
member_form p t n = if is_some (receiver_of p t n) then form.Behind else (if is_static_by p (candidate.target (t n)) then form.Static else form.Instance)

abbrev pub role_form : Rows → Table → ℕ → Role → Form
role_form p t n role.Type = type_form p n
role_form p t n role.Field = member_form p t n
role_form p t n _ = form.Fixed

abbrev pub name_form : Rows → Table → ℕ → Option ℕ → Form
name_form p t n (Some d) = role_form p t n (role_at p d)
name_form p t n None = form.Fixed

abbrev pub form_by : Rows → Table → ℕ → Option ℕ → Sought → Form
form_by p t n target (sought.Simple k) = name_form p t n target
form_by p t n target (sought.Qualified k) = name_form p t n target
form_by p t n target sought.FieldOf = form.Behind
form_by p t n target sought.SuperField = form.Super
form_by p t n target sought.Method = member_form p t n
form_by p t n target sought.MethodOf = member_form p t n
form_by p t n target _ = form.Fixed

abbrev pub form_at : Rows → Table → ℕ → Form
form_at p t n = form_by p t n (candidate.target (t n)) (sought_at p n)

module _ (p : Rows) (t : Table) (given : Option (List RowType)) (n : ℕ) where
  abbrev pub by_target : (ℕ → List candidate.Candidate) → List candidate.Candidate
  by_target of = elim (candidate.target (t n)) [ Some c ↦ of c | None ↦ [] ]

  -- these ways, by their kind
  abbrev pub by_form : Form → List candidate.Candidate
  by_form form.Fixed = []
  by_form form.OfType = by_target (λ c. candidate.named_from p t given n c 0 (candidate.name_length p c))
  by_form form.Import = by_target (λ c. candidate.named p t given n c (candidate.name_length p c - 1))
  by_form form.Instance = candidate.on_instance p t given n
  by_form form.Static = candidate.on_static p t given n
  by_form form.Behind = candidate.on_cast p t given n
  by_form form.Super = candidate.in_place_of_super p t given n
