-- What is right before a stage that looks up rows by the types of what stands behind them.
use Rattle.std.specs.Prelude.{◌≡◌, ℕ, ◌+◌, List, length, Some, slice_get}
use Rattle.jr_tree.specs.Rows.{parent, sought_at}
use Rattle.jr_defs.specs.Referents.{Table}
use Rattle.jr_defs.specs.Constants.{HasConstantForm}
use Rattle.jr_defs.specs.Formed.{IsFormed}
use Rattle.jr_defs.specs.Typing.{TypeOf}
use Rattle.jr_plain.specs.Conversions.{Constants}
use Rattle.jr_plain.specs.Search.{Finds}
use Rattle.jr_plain.specs.Typing.{expression_types}
use Rattle.jr_types.specs.Typed.{CanType}
use Rattle.jr_bind.specs.declared.filling.Filling as filling
use Rattle.jr_bind.specs.declared.filling.Known as code
use Rattle.jr_bind.specs.declared.stages.Stage.{Stage}
use Rattle.jr_bind.specs.Filled.{table_of, SeeksNoType}
use Rattle.jr_bind.specs.Before.{NeedsBefore, NeedsBehind}
use Rattle.jr_bind.specs.Looked.{AreKnown, AreNamedSo}

abbrev pub IsKnownUnder : Table → code.Known → Type 0
IsKnownUnder t known = AreKnown known.setting.rows.now t known.setting.places.now known.setting.scopes.now known.supers.now known.members.now known.imports.now

-- where a row of the stage needs types, those that the constants give are right
pub record CanFill (known : code.Known) (stages : List Stage) (stage : Stage) (constant : Constants) (start : filling.Filling) : Type 0 where
  pub formed : IsFormed known.setting.rows.now
  pub late : SeeksNoType known.setting.rows.now stages stage
  pub stages_size : length stages ≡ length known.setting.rows.now
  pub types_size : length start.types.items ≡ length known.setting.rows.now
  pub table_size : length start.table.items ≡ length known.setting.rows.now
  pub known_is : IsKnownUnder (table_of start) known
  pub named : AreNamedSo known.setting.rows.now (table_of start)
  pub can : CanType constant known.setting.rows.now (table_of start) known.setting.places.now known.supers.now start.ints.items start.string
  pub before : (v : Table) → ((m : ℕ) → (slice_get stages m ≡ Some stage → ⊥) → v m ≡ table_of start m) → AreNamedSo known.setting.rows.now v
      → (n : ℕ) → slice_get stages n ≡ Some stage → NeedsBefore (sought_at known.setting.rows.now n) → parent known.setting.rows.now (n + 1) ≡ n
      → Finds (expression_types known.setting.rows.now v constant (n + 1)) (λ a. TypeOf known.setting.rows.now v (HasConstantForm known.setting.rows.now v) (n + 1) a)
  pub behind : (v : Table) → ((m : ℕ) → (slice_get stages m ≡ Some stage → ⊥) → v m ≡ table_of start m) → AreNamedSo known.setting.rows.now v
      → (n : ℕ) → slice_get stages n ≡ Some stage → NeedsBehind (sought_at known.setting.rows.now n)
      → (m : ℕ) → Finds (expression_types known.setting.rows.now v constant m) (λ a. TypeOf known.setting.rows.now v (HasConstantForm known.setting.rows.now v) m a)
