-- Statements behind a name by what comes next: the same readers as those by the token, over fewer cases.
use Rattle.std.specs.Prelude.{ℕ, suc, Bool, true, false, if◌then◌else◌, List, [], ◌∷◌, ◌++◌}
use Rattle.jr_base.specs.declared.text.Text.{Text}
use Rattle.jr_base.specs.declared.kind.Kind.{Kind}
use Rattle.jr_base.specs.declared.kind.Kind.TheVariants as kind
use Rattle.jr_base.specs.declared.kind.Symbol.TheVariants as y
use Rattle.jr_tree.specs.declared.tree.Name.{Name}
use Rattle.jr_tree.specs.declared.tree.Base.TheVariants as base
use Rattle.jr_tree.specs.Mirror.Stmts as s
use Rattle.jr_parse_laws.specs.Parsers.{Parser, ◌>>=◌, is_at}
use Rattle.jr_parse_starts.specs.Starts.{over}
use Rattle.jr_parse_expr.specs.Names.{name_of, type_of, dims, Dotted, Plain, Enclosing}
use Rattle.jr_parse_expr.specs.Exprs.{Named, Indexed}
use Rattle.jr_parse_defs.specs.Stmts as rule
use Rattle.jr_parse_stmt.specs.declared.named.NameEnd.{NameEnd}
use Rattle.jr_parse_stmt.specs.declared.named.NameEnd.TheVariants as end
use Rattle.jr_parse_stmt.specs.Begun.{behind}

abbrev pub end_of : Kind → NameEnd
end_of (kind.Ident variable) = end.Name
end_of (kind.Sym y.OpenBracket) = end.Bracket
end_of (kind.Sym y.Colon) = end.Colon
end_of _ = end.Other

abbrev pub name_end : List Kind → NameEnd
name_end [] = end.Other
name_end (token ∷ ts) = end_of token

module _ (room : ℕ) (inner : Parser s.Stmt) (outer : Parser s.Stmt) where
  -- variables of a type of arrays, at the close bracket of its first pair
  abbrev pub array_local : Name → Parser s.Stmt
  array_local n = behind (dims >>= (λ more. rule.local room inner outer false (type_of (base.Named n) (suc more))))

  -- behind the open bracket, where variables may be declared
  abbrev pub bracketed : Name → Parser s.Stmt
  bracketed n ts = if is_at y.CloseBracket ts then array_local n ts else rule.evaluated room inner outer (Indexed n) ts

  -- at the open bracket
  abbrev pub at_bracket : Bool → Name → Parser s.Stmt
  at_bracket true n = behind (bracketed n)
  at_bracket false n = over 3 room (behind (rule.evaluated room inner outer (Indexed n)))

  -- at the colon
  abbrev pub labeled : Text → Parser s.Stmt
  labeled name = over 1 room (behind (rule.labeled room inner outer name))

  abbrev pub at_colon : List Text → Text → Parser s.Stmt
  at_colon [] last = labeled last
  at_colon (part ∷ before) last = rule.evaluated room inner outer (Named (Plain (part ∷ before) last))

  abbrev pub at_name : Bool → List Text → Text → Parser s.Stmt
  at_name true before last = rule.local room inner outer false (type_of (base.Named (name_of (before ++ last ∷ []))) 0)
  at_name false before last = rule.evaluated room inner outer (Named (Plain before last))

  abbrev pub plain_named : Bool → List Text → Text → NameEnd → Parser s.Stmt
  plain_named declares before last end.Name = at_name declares before last
  plain_named declares before last end.Bracket = at_bracket declares (name_of (before ++ last ∷ []))
  plain_named declares before last end.Colon = at_colon before last
  plain_named declares before last end.Other = rule.evaluated room inner outer (Named (Plain before last))
