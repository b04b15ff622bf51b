-- What the readers' own values are as plain data.
use Rattle.std.specs.Prelude.{if◌then◌else◌, List, map, Result}
use Rattle.jr_base.specs.declared.kind.Kind.{Kind}
use Rattle.jr_tree.specs.Mirror.Exprs as x
use Rattle.jr_parse_laws.specs.declared.fault.Fault.{Fault}
use Rattle.jr_parse_laws.specs.Parsers.{Outcome, Reads}
use Rattle.jr_parse_expr.specs.declared.name.Dotted as declared
use Rattle.jr_parse_expr.specs.declared.lead.Lead as declared_lead
use Rattle.jr_parse_expr.specs.declared.lead.Lead.TheVariants as lead
use Rattle.jr_parse_parts.specs.declared.measured.Measured.{Measured}
use Rattle.jr_parse_parts.specs.declared.measured.Arguments.{Arguments}
use Rattle.jr_parse_parts.specs.declared.listed.MeasuredList.{MeasuredList}
use Rattle.jr_parse_parts.specs.declared.listed.MeasuredInit.{MeasuredInit}
use Rattle.jr_parse_expr.specs.Names.{Dotted, Plain, Enclosing}
use Rattle.jr_parse_expr.specs.Exprs.{Lead, Nothing, Named, Indexed, This, Super}

abbrev pub plain_dotted : declared.Dotted → Dotted
plain_dotted d = if d.has_this then Enclosing d.before d.last else Plain d.before d.last

abbrev pub plain_lead : declared_lead.Lead → Lead
plain_lead lead.Nothing = Nothing
plain_lead (lead.Named d) = Named (plain_dotted d)
plain_lead (lead.Indexed n) = Indexed n
plain_lead lead.This = This
plain_lead lead.Super = Super

-- ---- what readers of expressions and initializers ensure

abbrev pub ReadsExpr : Outcome x.Expr → Result Measured Fault → List Kind → Type 0
ReadsExpr = Reads (λ (m : Measured). x.plain_expr m.expr)

abbrev pub ReadsExprs : Outcome (List x.Expr) → Result Arguments Fault → List Kind → Type 0
ReadsExprs = Reads (λ (a : Arguments). map x.plain_expr a.args)

abbrev pub ReadsList : Outcome x.InitList → Result MeasuredList Fault → List Kind → Type 0
ReadsList = Reads (λ (l : MeasuredList). x.plain_list l.list)

abbrev pub ReadsInit : Outcome x.Init → Result MeasuredInit Fault → List Kind → Type 0
ReadsInit = Reads (λ (i : MeasuredInit). x.plain_init i.init)
