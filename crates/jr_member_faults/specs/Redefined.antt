-- What methods override and hide, as it is found by their signatures (JLS 8.4.8.1, 8.4.8.2).
use Rattle.std.specs.Prelude.{◌≡◌, ℕ, Bool, true, false, not, ◌&&◌, List, length, Option, None, option_map, if◌then◌else◌}
use Rattle.std.specs.Option.{option_map_or}
use Rattle.jr_tree.specs.declared.label.Role.TheVariants as role
use Rattle.jr_tree.specs.Rows.{Rows, role_at}
use Rattle.jr_defs.specs.Referents.{Table}
use Rattle.jr_defs.specs.Members.{SameMethods}
use Rattle.jr_defs.specs.MemberRules.{RedefinesMethod}
use Rattle.jr_plain.specs.Search.{has}
use Rattle.jr_plain.specs.Same.{same_role}
use Rattle.jr_plain.specs.Enclosing.{declaring_type}
use Rattle.jr_plain.specs.Modifiers.{is_static}
use Rattle.jr_plain.specs.Members.{can_inherit}
use Rattle.jr_places.specs.declared.chains.Entry.{Entry}
use Rattle.jr_supers.specs.declared.signatures.Signatures.{Signatures}
use Rattle.jr_members.specs.declared.members.World.{World}
use Rattle.jr_members.specs.Keys.{entry_for, entries_of, signature_number}
use Rattle.jr_member_rules.specs.Redefining.{is_from_above}
use Rattle.jr_member_faults.specs.declared.redefining.Uppers.{Uppers}
use Rattle.jr_member_faults.specs.Views.{rows_of}

-- ---- methods by their signatures

-- a method that has a signature, under the number of that and 0
abbrev pub number_entry : Rows → Signatures → ℕ → Option Entry
number_entry p s d = if same_role (role_at p d) role.Method then option_map (λ n. entry_for n 0 d) (signature_number s d) else None

-- those of the world
abbrev pub number_entry_of : World → ℕ → Option Entry
number_entry_of world = number_entry (rows_of world) world.members.now.callables.signatures

abbrev pub AreUppers : World → Uppers → Type 0
AreUppers world uppers = uppers.signed ≡ entries_of (number_entry_of world) (length (rows_of world))

-- ---- what may be redefined

-- each has the signature of m
abbrev pub AreSame : Rows → Table → ℕ → List ℕ → Type 0
AreSame p t m all = (k : ℕ) → has all k ≡ true → SameMethods p t m k

-- methods of the signature of m, and all that m overrides or hides among them
pub record AreLike (p : Rows) (t : Table) (m : ℕ) (all : List ℕ) : Type 0 where
  pub same : AreSame p t m all
  pub whole : (k : ℕ) → RedefinesMethod p t m k → has all k ≡ true

-- the type of m stands below that of k, and would inherit k if it declared nothing
abbrev pub is_reached : Rows → Table → ℕ → ℕ → Bool
is_reached p t m k = option_map_or (λ c. is_from_above p t c k && can_inherit p c k) (declaring_type p m) false

-- a static method and an instance method
abbrev pub are_mixed : Rows → ℕ → ℕ → Bool
are_mixed p m k = if is_static p m then not (is_static p k) else is_static p k

-- ---- access

-- the least open access of a member that is private, protected or public, or none of these: package
abbrev pub lowest : Bool → Bool → Bool → ℕ
lowest is_private is_protected is_public = if is_private then 0 else (if is_protected then 2 else (if is_public then 3 else 1))

-- the most open one
abbrev pub highest : Bool → Bool → Bool → ℕ
highest is_private is_protected is_public = if is_public then 3 else (if is_protected then 2 else (if is_private then 0 else 1))
