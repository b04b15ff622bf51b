-- Declarations and units as plain data, and what those of the program are as such (JLS 7, 8, 9).
use Rattle.std.specs.Prelude.{Bool, List, [], ◌∷◌, map, Option}
use Rattle.std.specs.Option.{option_map}
use Rattle.jr_base.specs.declared.text.Text.{Text}
use Rattle.jr_tree.specs.declared.tree.Name.{Name}
use Rattle.jr_tree.specs.declared.tree.TypeUse.{TypeUse}
use Rattle.jr_tree.specs.declared.tree.Modifier.{Modifier}
use Rattle.jr_tree.specs.declared.tree.Param.{Param}
use Rattle.jr_tree.specs.declared.tree.ResultType.{ResultType}
use Rattle.jr_tree.specs.declared.tree.PackageDecl.{PackageDecl}
use Rattle.jr_tree.specs.declared.tree.Import.{Import}
use Rattle.jr_tree.specs.declared.tree.Unit as declared_unit
use Rattle.jr_tree.specs.declared.tree.Member as declared_member
use Rattle.jr_tree.specs.declared.tree.TypeDecl as declared_decl
use Rattle.jr_tree.specs.declared.tree.Member.TheOpen.{Member-F, TypeDecl-F}
use Rattle.jr_tree.specs.declared.tree.Member.TheFolds.{fold-Member, fold-TypeDecl}
use Rattle.jr_tree.specs.Mirror.Stmts as s

mutual
  pub data Member : Type 0 where
    Field : List Modifier → TypeUse → List s.Declarator → Member
    Method : List Modifier → ResultType → Text → List Param → List Name → Option s.Block → Member
    Constructor : List Modifier → Text → List Param → List Name → s.Block → Member
    Init : Bool → s.Block → Member
    Nested : TypeDecl → Member

  pub data TypeDecl : Type 0 where
    Class : List Modifier → Text → Option Name → List Name → Members → TypeDecl
    Interface : List Modifier → Text → List Name → Members → TypeDecl
    Empty : TypeDecl

  pub data Members : Type 0 where
    no_members : Members
    more_members : Member → Members → Members

-- ---- lists and options of plain data

abbrev pub members : List Member → Members
members [] = no_members
members (x ∷ xs) = more_members x (members xs)

-- ---- one level, with what each part is as plain data in its place

abbrev pub member_step : Member-F Member TypeDecl → Member
member_step (Member-F.Field a b c) = Field a b (s.plain_declarators c)
member_step (Member-F.Method a b c d e h) = Method a b c d e (option_map s.plain_block h)
member_step (Member-F.Constructor a b c d e) = Constructor a b c d (s.plain_block e)
member_step (Member-F.Init a b) = Init a (s.plain_block b)
member_step (Member-F.Nested a) = Nested a

abbrev pub decl_step : TypeDecl-F Member TypeDecl → TypeDecl
decl_step (TypeDecl-F.Class a b c d e) = Class a b c d (members e)
decl_step (TypeDecl-F.Interface a b c d) = Interface a b c (members d)
decl_step TypeDecl-F.Empty = Empty

-- ---- the views

abbrev pub plain_member : declared_member.Member → Member
plain_member = fold-Member Member TypeDecl member_step decl_step

abbrev pub plain_decl : declared_decl.TypeDecl → TypeDecl
plain_decl = fold-TypeDecl Member TypeDecl member_step decl_step

abbrev pub plain_members : List declared_member.Member → Members
plain_members all = members (map plain_member all)

abbrev pub plain_decls : List declared_decl.TypeDecl → List TypeDecl
plain_decls all = map plain_decl all

-- ---- units

pub data CompilationUnit : Type 0 where
  UnitOf : Option PackageDecl → List Import → List TypeDecl → CompilationUnit

abbrev pub plain_unit : declared_unit.Unit → CompilationUnit
plain_unit u = UnitOf u.package u.imports (plain_decls u.types)
