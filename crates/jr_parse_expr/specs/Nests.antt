-- Functions that read expressions and lists in braces of at most so many levels.
use Rattle.std.specs.Prelude.{ℕ, ◌≤◌, Result, IfOk}
use Rattle.std.specs.declared.alloc.Global.{Global}
use denote.Ref.{MutBor}
use Rattle.jr_parse_laws.specs.declared.cursor.Cursor.{Cursor}
use Rattle.jr_parse_laws.specs.declared.fault.Fault.{Fault}
use Rattle.jr_parse_laws.specs.Parsers.{kinds}
use Rattle.jr_parse_expr.specs.declared.lead.Lead.{Lead}
use Rattle.jr_parse_parts.specs.declared.measured.Measured.{Measured}
use Rattle.jr_parse_parts.specs.declared.listed.MeasuredList.{MeasuredList}
use Rattle.jr_parse_expr.specs.Exprs.{expr, list}
use Rattle.jr_parse_expr.specs.Views.{plain_lead, ReadsExpr, ReadsList}

pub record Nests (room : ℕ) (expr_pre : Global → MutBor Cursor → ℕ → Lead → ℕ → Type 0) (expr_post : Global → MutBor Cursor → ℕ → Lead → ℕ → Result Measured Fault → MutBor Cursor → Type 0)
    (list_pre : Global → MutBor Cursor → ℕ → Type 0) (list_post : Global → MutBor Cursor → ℕ → Result MeasuredList Fault → MutBor Cursor → Type 0) : Type 0 where
  pub expr_callable : (alloc : Global) (old : MutBor Cursor) (lead : Lead) (least : ℕ) → expr_pre alloc old room lead least
  pub expr_reads : (alloc : Global) (old new : MutBor Cursor) (lead : Lead) (least : ℕ) (r : Result Measured Fault) → expr_post alloc old room lead least r new
      → ReadsExpr (expr room (plain_lead lead) least (kinds old.now)) r (kinds new.now)
  pub expr_low : (alloc : Global) (old new : MutBor Cursor) (lead : Lead) (least : ℕ) (r : Result Measured Fault) → expr_post alloc old room lead least r new
      → IfOk r (λ m. m.height ≤ room)
  pub list_callable : (alloc : Global) (old : MutBor Cursor) → list_pre alloc old room
  pub list_reads : (alloc : Global) (old new : MutBor Cursor) (r : Result MeasuredList Fault) → list_post alloc old room r new
      → ReadsList (list room (kinds old.now)) r (kinds new.now)
  pub list_low : (alloc : Global) (old new : MutBor Cursor) (r : Result MeasuredList Fault) → list_post alloc old room r new
      → IfOk r (λ l. l.height ≤ room)
