-- An expression that stands as a statement, read with no regard to the level that one takes round it: it reads the same trees, and finds out later that one is too deep.
use Rattle.std.proofs.Common.{ℕ, zero, suc, cond, ◌∷◌, None}
use Rattle.jr_base.specs.declared.kind.Kind.{Kind}
use Rattle.jr_base.specs.declared.kind.Kind.TheVariants as kind
use Rattle.jr_base.specs.declared.kind.Symbol.TheVariants as y
use Rattle.jr_tree.specs.Levels.{is_step}
use Rattle.jr_tree.specs.Mirror.Exprs as x
use Rattle.jr_parse_laws.specs.Parsers.{Parser, ◌>>=◌, pure, refuse}
use Rattle.jr_parse_starts.specs.Starts.{no_level, within}
use Rattle.jr_parse_expr.specs.Exprs.{Lead, Nothing, Named, Indexed, This, Super, next_token, closed, after_dotted, after_bracket, super_member, prefix, operand_by, suffixes, effect_end, expr, list, goes_on}

module _ (room : ℕ) (inner : Lead → ℕ → Parser x.Expr) (list : Parser x.InitList) where
  abbrev pub free_by : Kind → Parser x.Expr
  free_by (kind.Sym y.OpenParen) = within 1 room (kind.Sym y.OpenParen) (inner Nothing 0 >>= closed)
  free_by (kind.Sym s) = λ ts. cond (is_step s) (prefix room inner list s ts) (refuse (kind.Sym s ∷ ts))
  free_by token = operand_by room inner list token

  abbrev pub free_operand : Lead → Parser x.Expr
  free_operand Nothing = next_token free_by
  free_operand (Named d) = after_dotted room inner list d
  free_operand (Indexed n) = after_bracket room inner list n
  free_operand This = pure (x.This None)
  free_operand Super = super_member room inner list

  unfoldable pub free_effects : Lead → Parser x.Expr
  free_effects lead = free_operand lead >>= suffixes room inner list >>= effect_end room inner list

unfoldable pub free_effect : ℕ → Lead → Parser x.Expr
free_effect zero lead = no_level (goes_on lead)
free_effect (suc room) lead = free_effects room (expr room) (list room) lead
