-- What elaboration is, on the definitions alone: one code for a row, one core for a program, and where rows have parts and are read (JLS 8, 14, 15).
use Rattle.std.specs.Prelude.{◌≡◌, ℕ, ◌+◌, ◌<◌, ◌^◌, true, length, Option}
use Rattle.jr_core.specs.declared.bodies.Core.{Core}
use Rattle.jr_core.specs.declared.code.Code.{Code}
use Rattle.jr_tree.specs.Rows.{label, end}
use Rattle.jr_tree.specs.Tree.{IsTree}
use Rattle.jr_defs.specs.declared.referent.RowType.{RowType}
use Rattle.jr_defs.specs.Overriding.{HasOneSuperclass}
use Rattle.jr_supers.specs.Tabled.{IsSized}
use Rattle.jr_dispatch.specs.Methods.{IsWholeWorld}
use Rattle.jr_codes.specs.declared.source.Source.{Source}
use Rattle.jr_codes.specs.Facts.{Facts}
use Rattle.jr_codes.specs.Reads.{rows_of, table_of}
use Rattle.jr_expressions.specs.Statements.{Parts, PartsAt, CoreAt, made_at, strange}
use Rattle.jr_elab.specs.Cores.{HaveParts, IsCoreOf, IsReadWhole, declares_body, outcome_by}

abbrev pub RowsHaveOneCode : Type 0
RowsHaveOneCode = (f : Facts) (outcome : Option RowType) (n : ℕ) (x y : Code) → CoreAt f outcome n x → CoreAt f outcome n y → x ≡ y

-- where types name one superclass at most, and there is one Object
abbrev pub ProgramsHaveOneCore : Type 0
ProgramsHaveOneCore = (f : Facts) (x y : Core) → HasOneSuperclass f.rows → IsCoreOf f x → IsCoreOf f y → x ≡ y

-- whatever the parts below a row inside a body are, the row is not as in no program that compiles
abbrev pub NoneIsStrange : Facts → Type 0
NoneIsStrange f = (n k : ℕ) (below : Parts) → declares_body (label f.rows n) ≡ true → n < k → k < end f.rows n → PartsAt f (outcome_by (label f.rows n) f n) (k + 1) (end f.rows k) below
    → made_at f (outcome_by (label f.rows n) f n) k below ≡ strange → ⊥

abbrev pub RowsHaveParts : Type 0
RowsHaveParts = (f : Facts) → IsTree f.rows → NoneIsStrange f → HaveParts f

-- what the tables of a program are to be, to be read whole
abbrev pub WholeWorldsAreRead : Type 0
WholeWorldsAreRead = (s : Source) → IsWholeWorld (table_of s) s.view.now.sight.world → IsSized (rows_of s) → length (rows_of s) + 3 < 2 ^ 32 → IsReadWhole s
