-- What is kept of the classes that methods declare as thrown (JLS 8.4.6, 11.2).
use Rattle.std.specs.Prelude.{◌≡◌, ℕ, Bool, not, ◌&&◌, codes, length, Option, Some, None, if◌then◌else◌}
use Rattle.std.specs.List.{list_any}
use Rattle.jr_tree.specs.declared.label.Role.TheVariants as role
use Rattle.jr_tree.specs.Rows.{Rows, label, parent, role_at}
use Rattle.jr_defs.specs.Referents.{Table}
use Rattle.jr_plain.specs.Search.{all_such, any_below}
use Rattle.jr_plain.specs.Same.{same_role}
use Rattle.jr_plain.specs.Declarations.{is_prelude}
use Rattle.jr_plain.specs.Supertypes.{declaration}
use Rattle.jr_places.specs.declared.chains.Entry.{Entry}
use Rattle.jr_members.specs.Keys.{entry_for, entries_of}
use Rattle.jr_member_rules.specs.Throwing.{is_other_name, is_thrown_name, is_below, is_checked, allows}
use Rattle.jr_member_faults.specs.declared.throwing.Thrown.{Thrown}

-- a name that stands for a class right below a method
abbrev pub is_thrown_row : Rows → ℕ → Bool
is_thrown_row p n = is_other_name (label p n) && same_role (role_at p (parent p n)) role.Method

-- under the method and 0
abbrev pub thrown_entry : Rows → ℕ → Option Entry
thrown_entry p n = if is_thrown_row p n then Some (entry_for (parent p n) 0 n) else None

-- the names of thrown classes, and the classes of java.lang that make others checked or not
pub record AreThrown (p : Rows) (thrown : Thrown) : Type 0 where
  pub names_are : thrown.names ≡ entries_of (thrown_entry p) (length p)
  pub throwables_are : thrown.throwables.items ≡ all_such (length p) (is_prelude p (codes "Throwable"))
  pub errors_are : thrown.errors.items ≡ all_such (length p) (is_prelude p (codes "Error"))
  pub runtimes_are : thrown.runtimes.items ≡ all_such (length p) (is_prelude p (codes "RuntimeException"))

-- the name is that of a checked class that k does not allow
abbrev pub is_name_not_allowed : Rows → Table → ℕ → ℕ → Bool
is_name_not_allowed p t k n = list_any (λ c. is_checked p t c && not (allows p t k c)) (declaration (t n))

-- the name is that of a class that is neither Throwable nor below it
abbrev pub is_other_class : Rows → Table → ℕ → Bool
is_other_class p t n = list_any (λ c. not (is_below p t (codes "Throwable") c)) (declaration (t n))

-- m declares such a class
abbrev pub throws_others : Rows → Table → ℕ → Bool
throws_others p t m = any_below (length p) (λ n. is_thrown_name p m n && is_other_class p t n)
