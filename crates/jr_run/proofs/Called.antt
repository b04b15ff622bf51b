-- Methods among rows.
use Rattle.std.proofs.Common.{◌≡◌, ap, ℕ, true}
use Rattle.jr_tree.specs.declared.label.Role.TheVariants as role
use Rattle.jr_tree.specs.Rows.{Rows, role_at}
use Rattle.jr_supers.specs.Tabled.{is_callable}

pub method_callable : (p : Rows) (m : ℕ) → role_at p m ≡ role.Method → is_callable (role_at p m) ≡ true
method_callable p m h = ap is_callable h
