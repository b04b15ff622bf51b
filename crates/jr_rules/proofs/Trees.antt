-- Trees of small programs, put together from lists, and their rows and tables.
use Rattle.std.proofs.Common.{ℕ, false, cond, nat_eq, List, [], ◌∷◌, Option, Some, None, codes}
use Rattle.jr_base.specs.declared.text.Text.{Text}
use Rattle.jr_tree.specs.declared.tree.Base.TheVariants as base
use Rattle.jr_tree.specs.declared.tree.TypeUse.{TypeUse}
use Rattle.jr_tree.specs.declared.tree.Primitive.{Primitive}
use Rattle.jr_tree.specs.declared.tree.Modifier.{Modifier}
use Rattle.jr_tree.specs.declared.tree.Modifier.TheVariants as modifier
use Rattle.jr_tree.specs.declared.tree.Param.{Param}
use Rattle.jr_tree.specs.declared.tree.Name.{Name}
use Rattle.jr_tree.specs.Mirror.Exprs as x
use Rattle.jr_tree.specs.Mirror.Stmts as s
use Rattle.jr_tree.specs.Mirror.Decls as d
use Rattle.jr_tree.specs.declared.label.Label.TheVariants as is
use Rattle.jr_tree.specs.Forest.{none, node}
use Rattle.jr_tree.specs.Decls.{unit_labels}
use Rattle.jr_tree.specs.Rows.{Rows, rows_from}
use Rattle.jr_defs.specs.declared.referent.Referent.{Referent}
use Rattle.jr_defs.specs.declared.referent.Referent.TheVariants.{Unbound}
use Rattle.jr_defs.specs.Referents.{Table}
use Rattle.jr_rules.specs.Computed.{values, types, broken_at}

-- ---- names, types and expressions

abbrev pub name : Text → Name
name part = record { parts = part ∷ [] }

abbrev pub dotted : Text → Text → Name
dotted left part = record { parts = left ∷ (part ∷ []) }

abbrev pub of_type : Primitive → ℕ → TypeUse
of_type w dims = record { base = base.Primitive w; dims = dims }

abbrev pub of_class : Text → ℕ → TypeUse
of_class w dims = record { base = base.Named (name w); dims = dims }

abbrev pub exprs : List x.Expr → x.Exprs
exprs [] = x.no_exprs
exprs (e ∷ all) = x.more_exprs e (exprs all)

abbrev pub inits : List x.Init → x.Inits
inits [] = x.no_inits
inits (i ∷ all) = x.more_inits i (inits all)

abbrev pub list_of : List x.Init → x.Init
list_of all = x.Listed (x.ListOf (inits all) false)

-- ---- statements

abbrev pub parameter : TypeUse → Text → Param
parameter ty part = record { is_final = false; ty = ty; name = part; dims = 0 }

abbrev pub stmts : List s.Stmt → s.Stmts
stmts [] = s.no_stmts
stmts (a ∷ all) = s.more_stmts a (stmts all)

abbrev pub block : List s.Stmt → s.Block
block all = s.BlockOf (stmts all)

abbrev pub local : TypeUse → Text → Option x.Init → s.Stmt
local ty part init = s.Local false ty (s.DeclaratorOf part 0 init ∷ [])

-- a block with one catch
abbrev pub catching : s.Block → TypeUse → Text → s.Block → s.Stmt
catching body ty part handler = s.Try body (s.more_catches (s.CatchOf (parameter ty part) handler) s.no_catches) s.no_block

abbrev pub group : List s.SwitchLabel → List s.Stmt → s.Group
group labels all = s.GroupOf labels (stmts all)

abbrev pub groups : List s.Group → s.Groups
groups [] = s.no_groups
groups (g ∷ all) = s.more_groups g (groups all)

-- ---- declarations

abbrev pub field : List Modifier → TypeUse → Text → Option x.Init → d.Member
field mods ty part init = d.Field mods ty (s.DeclaratorOf part 0 init ∷ [])

abbrev pub members : List d.Member → d.Members
members [] = d.no_members
members (m ∷ all) = d.more_members m (members all)

-- a public class with nothing in it
abbrev bare : Text → d.TypeDecl
bare part = d.Class (modifier.Public ∷ []) part None [] d.no_members

abbrev lang : d.CompilationUnit
lang = d.UnitOf (Some (record { name = dotted (codes "java") (codes "lang") })) [] (bare (codes "Object") ∷ (bare (codes "String") ∷ (bare (codes "Throwable") ∷ [])))

-- the rows of java.lang and of a unit with these types
abbrev pub program : List d.TypeDecl → Rows
program all = rows_from 0 0 0 (node is.Program (unit_labels lang (unit_labels (d.UnitOf None [] all) none)) none)

-- ---- tables and rules

abbrev pub table_of : List (ℕ × Referent) → Table
table_of [] n = Unbound
table_of (entry ∷ all) n = cond (nat_eq entry.0 n) entry.1 (table_of all n)

-- the rules that are broken at the row
abbrev pub broken : Rows → Table → ℕ → List ℕ
broken p t n = broken_at p t (values p t) (types p t) n
