-- Where a final variable is changed and may not be, where a local is read that is not definitely assigned, and which blank final fields are not assigned at an end (JLS 4.12.4, 8.3.1.2, 9.3, 15.14, 15.15, 15.26, 16).
use Rattle.std.specs.Prelude.{◌≡◌, ◌<◌, ℕ, ◌+◌, true, false, length, Option}
use Rattle.jr_base.specs.declared.kind.Symbol.{Symbol}
use Rattle.jr_tree.specs.declared.label.Label.TheVariants as is
use Rattle.jr_tree.specs.Local.{IsLocal}
use Rattle.jr_tree.specs.Rows.{Rows, label, parent, end}
use Rattle.jr_tree.specs.declared.label.Modifiers.{Modifiers}
use Rattle.jr_defs.specs.declared.referent.Referent.TheVariants.{Declared}
use Rattle.jr_defs.specs.Referents.{Table}
use Rattle.jr_plain.specs.Search.{has}
use Rattle.jr_reach.specs.Statements as flow
use Rattle.jr_flow_faults.specs.Known as of_flow
use Rattle.jr_assign.specs.Changes.{Facts, is_member, is_interface, field_body, builds}
use Rattle.jr_assign.specs.Judged.{ReadsUnassigned}
use Rattle.jr_assign.specs.Blank.{IsLeftBlank}
use Rattle.jr_assign_faults.specs.Changed.{final_rows}
use Rattle.jr_assign_faults.specs.Known.{AreKnown}

-- what is assigned or stepped, or stands in parentheses that are
pub data IsChanged (p : Rows) : ℕ → Type 0 where
  assigned : {n : ℕ} {op : Symbol} → label p (parent p n) ≡ is.Assign op → n ≡ parent p n + 1 → IsChanged p n
  stepped_before : {n : ℕ} {op : Symbol} → label p (parent p n) ≡ is.PreStep op → IsChanged p n
  stepped_behind : {n : ℕ} {op : Symbol} → label p (parent p n) ≡ is.PostStep op → IsChanged p n
  enclosed : {n : ℕ} → label p (parent p n) ≡ is.Paren → IsChanged p (parent p n) → IsChanged p n

-- the member that holds a row: the row itself, or the innermost round it
pub data IsHeldBy (p : Rows) : ℕ → ℕ → Type 0 where
  itself : {n : ℕ} → is_member (label p n) ≡ true → IsHeldBy p n n
  round : {n m : ℕ} → is_member (label p n) ≡ false → IsHeldBy p (parent p n) m → IsHeldBy p n m

-- a field that is final, by its modifiers or as one of an interface
pub data IsFinalField (p : Rows) (v : ℕ) : Type 0 where
  by_modifier : {modifiers : Modifiers} {dims : ℕ} → label p v ≡ is.Field modifiers dims → modifiers.is_final ≡ true → IsFinalField p v
  by_interface : {modifiers : Modifiers} {dims : ℕ} → label p v ≡ is.Field modifiers dims → is_interface (label p (parent p (field_body p v))) ≡ true → IsFinalField p v

-- the variable v may not be changed at the row n: it has a value, or n stands in no constructor, initializer or field of its class
pub data IsFixed (p : Rows) (n v : ℕ) : Type 0 where
  local : {dims : ℕ} → label p v ≡ is.Local true dims → v + 1 < end p v → IsFixed p n v
  parameter : {dims : ℕ} → label p v ≡ is.Parameter true dims → IsFixed p n v
  valued : IsFinalField p v → v + 1 < end p v → IsFixed p n v
  elsewhere : IsFinalField p v → ((m : ℕ) → IsHeldBy p n m → builds (label p m) p m (field_body p v) ≡ false) → IsFixed p n v

-- the rules, by the row that refers to the variable: 38, a local is read before it is definitely assigned, and 39; and by the row of the field 40
pub data BreaksAssignment (p : Rows) (t : Table) : ℕ → ℕ → Type 0 where
  unassigned : {f : flow.Facts} {facts : Facts} {n : ℕ} → of_flow.AreKnown p t f → AreKnown p t f facts → ReadsUnassigned p facts n → BreaksAssignment p t 38 n
  changed : {n v : ℕ} {level : Option ℕ} → n < length p → IsChanged p n → t n ≡ Declared v level → IsFixed p n v → BreaksAssignment p t 39 n
  left_blank : {f : flow.Facts} {facts : Facts} {n : ℕ} → of_flow.AreKnown p t f → AreKnown p t f facts → IsLeftBlank p facts n → BreaksAssignment p t 40 n

-- the law: each row that breaks the rule on finals is found
abbrev pub EachFinalIsFound : Type 0
EachFinalIsFound = (p : Rows) (t : Table) → IsLocal p → (n : ℕ) → BreaksAssignment p t 39 n → has (final_rows p t) n ≡ true

-- and each that is found breaks it
abbrev pub EachFoundFinalBreaks : Type 0
EachFoundFinalBreaks = (p : Rows) (t : Table) → IsLocal p → (n : ℕ) → has (final_rows p t) n ≡ true → BreaksAssignment p t 39 n
