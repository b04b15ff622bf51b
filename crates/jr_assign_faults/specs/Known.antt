-- What is known of the rows of a program for definite assignment, besides their labels (JLS 14.4, 14.11, 14.15 to 14.17, 15.26, 15.28, 16).
use Rattle.std.specs.Prelude.{◌≡◌, ◌<◌, ℕ, zero, suc, ◌+◌, Bool, true, false, not, ◌&&◌, if◌then◌else◌, List, length, Option, Some, None, nat_eq, nat_lt, slice_index_or}
use Rattle.jr_tree.specs.declared.label.Label.{Label}
use Rattle.jr_tree.specs.declared.label.Label.TheVariants as is
use Rattle.jr_tree.specs.declared.label.Role.{Role}
use Rattle.jr_tree.specs.declared.label.Role.TheVariants as role
use Rattle.jr_tree.specs.Rows.{Rows, label, parent, end, role_at}
use Rattle.jr_defs.specs.Referents.{Table}
use Rattle.jr_supers.specs.Tabled.{declared}
use Rattle.jr_reach.specs.declared.fact.Exit.{Exit}
use Rattle.jr_reach.specs.declared.fact.Exit.TheVariants as exit
use Rattle.jr_reach.specs.Statements as flow
use Rattle.jr_assign.specs.declared.fact.Fact.{Fact}
use Rattle.jr_assign.specs.declared.fact.Way.{Way}
use Rattle.jr_assign.specs.declared.fact.Way.TheVariants as way
use Rattle.jr_assign.specs.Changes.{Facts, fact, field_body, members, member_in}
use Rattle.jr_assign.specs.Assigned.{has_last}
use Rattle.jr_assign_faults.specs.declared.operands.Operand.{Operand}
use Rattle.jr_assign_faults.specs.declared.operands.Operand.TheVariants as operand
use Rattle.jr_assign_faults.specs.Changed.{operand_of, operands}

-- ---- the way out of a row: of a jump to its target, or of a return out of a constructor (14.15 to 14.17)

abbrev pub is_constructor : Label → Bool
is_constructor (is.Constructor modifiers) = true
is_constructor _ = false

abbrev pub return_by : Label → Bool → Option Way
return_by is.Return in_constructor = if in_constructor then Some way.Return else None
return_by _ in_constructor = None

abbrev pub way_by : Option Exit → Label → Bool → Option Way
way_by None l in_constructor = return_by l in_constructor
way_by (Some (exit.Break to)) l in_constructor = Some (way.Break to)
way_by (Some (exit.Continue to)) l in_constructor = Some (way.Continue to)

-- ---- the local that is read: by a name of it that is not the target of a plain assignment (16)

abbrev pub is_read : Operand → Bool
is_read operand.Target = false
is_read _ = true

abbrev pub local_by : Role → ℕ → Option ℕ
local_by role.Local v = Some v
local_by _ v = None

abbrev pub local_of : Rows → Option ℕ → Option ℕ
local_of p None = None
local_of p (Some v) = local_by (role_at p v) v

abbrev pub read_by : Label → Operand → Option ℕ → Option ℕ
read_by (is.Name kind place is_qualified) o local = if is_read o then local else None
read_by _ o local = None

-- ---- the variable that is assigned once the parts of the row are done (14.4, 15.26, 16)

abbrev pub is_same : Bool → Bool → Bool
is_same a b = if a then b else not b

-- the member m makes what a field of the body belongs to: the class, or an instance of it (8.6, 8.7, 12.4.2, 12.5)
abbrev pub makes : Label → Rows → ℕ → ℕ → Bool → Bool
makes (is.Constructor modifiers) p m body is_static = nat_eq (parent p m) body && not is_static
makes (is.Initializer of_class) p m body is_static = nat_eq (parent p m) body && is_same of_class is_static
makes (is.Field modifiers dims) p m body is_static = nat_eq (field_body p m) body && is_same modifiers.is_static is_static
makes _ p m body is_static = false

abbrev pub is_static_field : Label → Bool
is_static_field (is.Field modifiers dims) = modifiers.is_static
is_static_field _ = false

abbrev pub is_this : Label → Bool
is_this (is.This is_qualified) = not is_qualified
is_this _ = false

-- a field by its simple name, or by `this.` and that
abbrev pub is_own : Label → Rows → ℕ → Bool
is_own (is.Name kind place is_qualified) p n = not is_qualified
is_own is.Select p n = is_this (label p (n + 1))
is_own _ p n = false

-- the variable v, where it is a field of what is made where the target n stands, in the member m
abbrev pub field_by : Rows → ℕ → ℕ → ℕ → Option ℕ
field_by p m n v = if is_own (label p n) p n && makes (label p m) p m (field_body p v) (is_static_field (label p v)) then Some v else None

-- a local, or such a field
abbrev pub target_by : Role → Rows → ℕ → ℕ → ℕ → Option ℕ
target_by role.Local p m n v = Some v
target_by role.Field p m n v = field_by p m n v
target_by _ p m n v = None

abbrev pub target_of : Rows → List ℕ → ℕ → Option ℕ → Option ℕ
target_of p held n None = None
target_of p held n (Some v) = target_by (role_at p v) p (member_in held n) n v

-- what stands in parentheses, so many of them
abbrev pub is_paren : Label → Bool
is_paren is.Paren = true
is_paren _ = false

abbrev pub bare : Rows → ℕ → ℕ → ℕ
bare p zero n = n
bare p (suc k) n = if is_paren (label p n) then bare p k (n + 1) else n

abbrev pub target_at : Rows → Table → List ℕ → ℕ → Option ℕ
target_at p t held n = target_of p held n (declared (t n))

-- a local, where it has an initializer
abbrev pub valued_local : Rows → ℕ → Option ℕ
valued_local p n = if nat_lt (n + 1) (end p n) then Some n else None

-- by an assignment, or a local with an initializer
abbrev pub assigned_by : Label → Rows → Table → List ℕ → ℕ → Option ℕ
assigned_by (is.Assign op) p t held n = target_at p t held (bare p (length p) (n + 1))
assigned_by (is.Local is_final dims) p t held n = valued_local p n
assigned_by _ p t held n = None

-- ---- all that is known, by what is known for the course of statements

-- computed, by the members that hold the rows, what these are to assignments, and their last parts
abbrev pub fact_by : Rows → Table → flow.Facts → List ℕ → List Operand → List (Option ℕ) → ℕ → Fact
fact_by p t f held all lasts n = record {
  truth = (flow.fact f n).truth;
  way = way_by (flow.fact f n).exit (label p n) (is_constructor (label p (member_in held n)));
  last = slice_index_or lasts n None;
  has_default = (flow.fact f n).has_default;
  read = read_by (label p n) (operand_of all n) (local_of p (declared (t n)));
  assigned = assigned_by (label p n) p t held n;
}

-- of a row
pub record IsReadAt (p : Rows) (t : Table) (f : flow.Facts) (held : List ℕ) (all : List Operand) (n : ℕ) (known : Fact) : Type 0 where
  pub truth : known.truth ≡ (flow.fact f n).truth
  pub way : known.way ≡ way_by (flow.fact f n).exit (label p n) (is_constructor (label p (member_in held n)))
  pub default : known.has_default ≡ (flow.fact f n).has_default
  pub read : known.read ≡ read_by (label p n) (operand_of all n) (local_of p (declared (t n)))
  pub assigned : known.assigned ≡ assigned_by (label p n) p t held n

pub record AreRead (p : Rows) (t : Table) (f : flow.Facts) (facts : Facts) : Type 0 where
  pub count : length facts ≡ length p
  pub each : (n : ℕ) → n < length p → IsReadAt p t f (members p (length p)) (operands p (length p)) n (fact facts n)

-- and the last part of each row
pub record AreKnown (p : Rows) (t : Table) (f : flow.Facts) (facts : Facts) : Type 0 where
  pub read : AreRead p t f facts
  pub lasts : (n : ℕ) → has_last p facts n ≡ true
