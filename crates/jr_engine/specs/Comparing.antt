-- A changed program under its locks beside the old one: what it loses of flow, and which of its expressions have another type.
use Rattle.std.specs.Prelude.{◌⊎◌, ℕ, length}
use Rattle.jr_tree.specs.Rows.{Rows}
use Rattle.jr_defs.specs.Referents.{Table}
use Rattle.jr_rule.specs.declared.Rule.{Rule}
use Rattle.jr_rule.specs.declared.Rule.TheVariants.{TypeChange}
use Rattle.jr_change.specs.declared.change.Change.{Change}
use Rattle.jr_locks.specs.Changed.{IsChanged, copies_by, origins_by}
use Rattle.jr_flow_defs.specs.Meaning.{Meaning}
use Rattle.jr_inline.specs.Retyping.{IsRetyped}
use Rattle.jr_kept.specs.Courses.{HandsByOneIn, HasLarge, KeepsCourse, KeepsRaisedControl, KeepsRaisedFlow, KeepsUsesOf}
use Rattle.jr_kept.specs.Started.{BeginsFirstIn, LeavesStartIn}
use Rattle.jr_engine.specs.Steps.{IsMeaningOf}

-- a changed program under its locks, with what names, types and constants mean in the old program and in it
pub record Comparison (p : Rows) (t : Table) (change : Change) : Type 0 where
  pub rows : Rows
  pub locks : Table
  pub changed : IsChanged p t change rows locks
  pub before : Meaning
  pub after : Meaning
  pub before_is : IsMeaningOf p t before
  pub after_is : IsMeaningOf rows locks after

-- not all of this holds: control goes in a changed program as it went, where statements move (`KeepsCourse`) and in a method that is pulled up; and neither leaves the change out
-- where the initialization of a class begins (`LeavesStartIn`), nor does it put something before that (`BeginsFirstIn`, JLS 12.4.1)
pub record LosesControl (p : Rows) (t : Table) (change : Change) : Type 0 where
  pub to : Comparison p t change
  pub lost : (LeavesStartIn change.raised p to.before → ⊥) → (BeginsFirstIn change.course p to.before → ⊥)
      → KeepsCourse change.course p to.rows to.before to.after (origins_by change) (copies_by (origins_by change) (length p))
      → KeepsRaisedControl change.raised p to.rows to.before to.after (origins_by change) (copies_by (origins_by change) (length p)) → ⊥

-- not all of this holds: the definitions that reached a use there reach its copy in a changed program, and no others (`KeepsUsesOf`); and what statements that go into a method hand on is
-- told by one table (`HandsByOneIn`)
pub record LosesUses (p : Rows) (t : Table) (change : Change) : Type 0 where
  pub to : Comparison p t change
  pub lost : HandsByOneIn change.course to.rows to.after (origins_by change)
      → KeepsUsesOf change.course p to.rows to.before to.after (origins_by change) (copies_by (origins_by change) (length p))
      → KeepsRaisedFlow change.raised p to.rows to.before to.after (origins_by change) (copies_by (origins_by change) (length p)) → ⊥

-- a body of the old program, or one of a changed program, has more points of flow than there may be
pub record ComparesLarge (p : Rows) (t : Table) (change : Change) : Type 0 where
  pub to : Comparison p t change
  pub large : HasLarge p to.before ⊎ HasLarge to.rows to.after

-- in a changed program an expression has another type than the one from which it comes, or only one of the two is a constant string (`IsRetyped`)
pub record Retypes (p : Rows) (t : Table) (change : Change) : Type 0 where
  pub to : Comparison p t change
  pub row : ℕ
  pub is : IsRetyped p change (record { types = to.before.types; values = to.before.values }) (record { types = to.after.types; values = to.after.values }) row

-- that is told as one rule alone
abbrev pub BreaksTypes : Rows → Table → Change → Rule → Type 0
BreaksTypes p t change TypeChange = Retypes p t change
BreaksTypes p t change other = ⊥
