-- A row past the end is empty, so what is not is a row of the program.
use Rattle.std.proofs.Common.{◌≡◌, ap, subst, ⊎_elim, ℕ, ◌+◌, ◌≤◌, ◌<◌, [], length}
use Rattle.std.proofs.lemmas.Bool.{cases_lt}
use Rattle.std.proofs.lemmas.List.{get_or_past}
use Rattle.jr_tree.specs.declared.label.Label.{Label}
use Rattle.jr_tree.specs.declared.label.Label.TheVariants as is
use Rattle.jr_tree.specs.declared.label.Role.TheVariants as role
use Rattle.jr_tree.specs.declared.row.Row.{Row}
use Rattle.jr_tree.specs.Labels.{role_of}
use Rattle.jr_tree.specs.Rows.{Rows, row, label, parent, role_at}
use Rattle.jr_defs.specs.Declarations.{IsType, IsClass, IsClassLabel, IsInterface, IsInterfaceLabel}
use Rattle.jr_defs.specs.Enclosing.{IsMemberRole, BodyOf}

abbrev pub empty_row : ℕ → Row
empty_row n = record { label = is.Skip; name = []; parent = n; end = n + 1; previous = n }

pub row_past : (p : Rows) (n : ℕ) → length p ≤ n → row p n ≡ empty_row n
row_past p n le = get_or_past p n (empty_row n) le

pub label_past : (p : Rows) (n : ℕ) → length p ≤ n → label p n ≡ is.Skip
label_past p n le = ap (λ r. r.label) (row_past p n le)

pub parent_past : (p : Rows) (n : ℕ) → length p ≤ n → parent p n ≡ n
parent_past p n le = ap (λ r. r.parent) (row_past p n le)

pub bounded : (P : Label → Type 0) → (P is.Skip → ⊥) → (p : Rows) (n : ℕ) → P (label p n) → n < length p
bounded P never p n h = ⊎_elim (λ lt. lt) (λ le. absurd (never (subst P (label_past p n le) h))) (cases_lt n (length p))

pub type_below : (p : Rows) (c : ℕ) → IsType p c → c < length p
type_below p c h = bounded (λ l. role_of l ≡ role.Type) (λ e. cc) p c h

pub class_below : (p : Rows) (c : ℕ) → IsClass p c → c < length p
class_below p c h = bounded IsClassLabel (λ h. h) p c h

pub interface_below : (p : Rows) (c : ℕ) → IsInterface p c → c < length p
interface_below p c h = bounded IsInterfaceLabel (λ h. h) p c h

pub member_below : (p : Rows) (d : ℕ) → IsMemberRole (role_at p d) → d < length p
member_below p d h = bounded (λ l. IsMemberRole (role_of l)) (λ h. h) p d h

pub constructor_below : (p : Rows) (k : ℕ) → role_at p k ≡ role.Constructor → k < length p
constructor_below p k h = bounded (λ l. role_of l ≡ role.Constructor) (λ e. cc) p k h

pub body_below : (p : Rows) (c b : ℕ) → BodyOf p c b → b < length p
body_below p c b h = bounded (λ l. l ≡ is.Body) (λ e. cc) p b h.body

pub unit_below : (p : Rows) (u : ℕ) → label p u ≡ is.Unit → u < length p
unit_below p u h = bounded (λ l. l ≡ is.Unit) (λ e. cc) p u h
