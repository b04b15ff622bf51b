-- Declarations and units of the program and plain data are the same things.
use Rattle.std.proofs.Common.{◌≡◌, refl, ap, ◌∙◌, subst, List, [], ◌∷◌, map, Option}
use Rattle.std.specs.Option.{option_map}
use Rattle.jr_tree.specs.declared.tree.Block as declared_block
use Rattle.jr_tree.specs.declared.tree.Unit as declared_unit
use Rattle.jr_tree.specs.declared.tree.Member as declared_member
use Rattle.jr_tree.specs.declared.tree.Member.{roll-Member}
use Rattle.jr_tree.specs.declared.tree.TypeDecl as declared_decl
use Rattle.jr_tree.specs.declared.tree.TypeDecl.{roll-TypeDecl}
use Rattle.jr_tree.specs.declared.tree.Member.TheOpen.{Member-F, TypeDecl-F}
use Rattle.jr_tree.specs.declared.tree.Member.TheFolds.{map-Member, map-TypeDecl, fold-roll-Member, fold-roll-TypeDecl, ind-Member, ind-TypeDecl}
use Rattle.jr_tree.specs.Mirror.Stmts as b
use Rattle.jr_tree.specs.Mirror.Decls as m
use Rattle.jr_tree.proofs.Same.Stmts as s
use Rattle.jr_tree.proofs.Same.Round.{round_option, round_list}

pub any_plain_tree_block : (o : Option b.Block) → option_map b.plain_block (option_map s.tree_block o) ≡ o
any_plain_tree_block = round_option b.plain_block s.tree_block s.plain_tree_block

pub any_tree_plain_block : (o : Option declared_block.Block) → option_map s.tree_block (option_map b.plain_block o) ≡ o
any_tree_plain_block = round_option s.tree_block b.plain_block s.tree_plain_block

-- ---- trees of plain data

abbrev mutual
  pub tree_member : m.Member → declared_member.Member
  tree_member (m.Field a b c) = roll-Member (Member-F.Field a b (s.tree_declarators c))
  tree_member (m.Method a b c d e h) = roll-Member (Member-F.Method a b c d e (option_map s.tree_block h))
  tree_member (m.Constructor a b c d e) = roll-Member (Member-F.Constructor a b c d (s.tree_block e))
  tree_member (m.Init a b) = roll-Member (Member-F.Init a (s.tree_block b))
  tree_member (m.Nested a) = roll-Member (Member-F.Nested (tree_decl a))

  pub tree_decl : m.TypeDecl → declared_decl.TypeDecl
  tree_decl (m.Class a b c d e) = roll-TypeDecl (TypeDecl-F.Class a b c d (tree_members e))
  tree_decl (m.Interface a b c d) = roll-TypeDecl (TypeDecl-F.Interface a b c (tree_members d))
  tree_decl m.Empty = roll-TypeDecl TypeDecl-F.Empty

  pub tree_members : m.Members → List declared_member.Member
  tree_members m.no_members = []
  tree_members (m.more_members a all) = tree_member a ∷ tree_members all

-- ---- plain data, made a tree and seen as plain data

mutual
  pub plain_tree_member : (y : m.Member) → m.plain_member (tree_member y) ≡ y
  plain_tree_member (m.Field a b c) = fold-roll-Member m.Member m.TypeDecl m.member_step m.decl_step (Member-F.Field a b (s.tree_declarators c)) ∙ rw (s.plain_tree_declarators c) refl
  plain_tree_member (m.Method a b c d e h) = fold-roll-Member m.Member m.TypeDecl m.member_step m.decl_step (Member-F.Method a b c d e (option_map s.tree_block h)) ∙ rw (any_plain_tree_block h) refl
  plain_tree_member (m.Constructor a b c d e) = fold-roll-Member m.Member m.TypeDecl m.member_step m.decl_step (Member-F.Constructor a b c d (s.tree_block e)) ∙ rw (s.plain_tree_block e) refl
  plain_tree_member (m.Init a b) = fold-roll-Member m.Member m.TypeDecl m.member_step m.decl_step (Member-F.Init a (s.tree_block b)) ∙ rw (s.plain_tree_block b) refl
  plain_tree_member (m.Nested a) = fold-roll-Member m.Member m.TypeDecl m.member_step m.decl_step (Member-F.Nested (tree_decl a)) ∙ rw (plain_tree_decl a) refl

  pub plain_tree_decl : (y : m.TypeDecl) → m.plain_decl (tree_decl y) ≡ y
  plain_tree_decl (m.Class a b c d e) = fold-roll-TypeDecl m.Member m.TypeDecl m.member_step m.decl_step (TypeDecl-F.Class a b c d (tree_members e)) ∙ rw (plain_tree_members e) refl
  plain_tree_decl (m.Interface a b c d) = fold-roll-TypeDecl m.Member m.TypeDecl m.member_step m.decl_step (TypeDecl-F.Interface a b c (tree_members d)) ∙ rw (plain_tree_members d) refl
  plain_tree_decl m.Empty = fold-roll-TypeDecl m.Member m.TypeDecl m.member_step m.decl_step TypeDecl-F.Empty

  pub plain_tree_members : (y : m.Members) → m.plain_members (tree_members y) ≡ y
  plain_tree_members m.no_members = refl
  plain_tree_members (m.more_members a all) = rw (plain_tree_member a, plain_tree_members all) refl

-- ---- a tree, seen as plain data and made a tree

abbrev BackMember : declared_member.Member → Type 0
BackMember y = tree_member (m.plain_member y) ≡ y

abbrev BackTypeDecl : declared_decl.TypeDecl → Type 0
BackTypeDecl y = tree_decl (m.plain_decl y) ≡ y

abbrev SuchMember : Type 0
SuchMember = (y : declared_member.Member) × BackMember y

abbrev SuchTypeDecl : Type 0
SuchTypeDecl = (y : declared_decl.TypeDecl) × BackTypeDecl y

backs_members : (all : List SuchMember) → tree_members (m.plain_members (map (λ p. p.0) all)) ≡ map (λ p. p.0) all
backs_members [] = refl
backs_members (p ∷ all) = rw (p.1, backs_members all) refl

at_member : (y : Member-F SuchMember SuchTypeDecl) → BackMember (roll-Member (map-Member SuchMember SuchTypeDecl declared_member.Member declared_decl.TypeDecl (λ p. p.0) (λ p. p.0) y))
at_member (Member-F.Field a b c) = ap tree_member (fold-roll-Member m.Member m.TypeDecl m.member_step m.decl_step (Member-F.Field a b c)) ∙ rw (s.tree_plain_declarators c) refl
at_member (Member-F.Method a b c d e h) = ap tree_member (fold-roll-Member m.Member m.TypeDecl m.member_step m.decl_step (Member-F.Method a b c d e h)) ∙ rw (any_tree_plain_block h) refl
at_member (Member-F.Constructor a b c d e) = ap tree_member (fold-roll-Member m.Member m.TypeDecl m.member_step m.decl_step (Member-F.Constructor a b c d e)) ∙ rw (s.tree_plain_block e) refl
at_member (Member-F.Init a b) = ap tree_member (fold-roll-Member m.Member m.TypeDecl m.member_step m.decl_step (Member-F.Init a b)) ∙ rw (s.tree_plain_block b) refl
at_member (Member-F.Nested a) = ap tree_member (fold-roll-Member m.Member m.TypeDecl m.member_step m.decl_step (Member-F.Nested a.0)) ∙ rw (a.1) refl

at_decl : (y : TypeDecl-F SuchMember SuchTypeDecl) → BackTypeDecl (roll-TypeDecl (map-TypeDecl SuchMember SuchTypeDecl declared_member.Member declared_decl.TypeDecl (λ p. p.0) (λ p. p.0) y))
at_decl (TypeDecl-F.Class a b c d e) = ap tree_decl (fold-roll-TypeDecl m.Member m.TypeDecl m.member_step m.decl_step (TypeDecl-F.Class a b c d (map (λ p. p.0) e))) ∙ rw (backs_members e) refl
at_decl (TypeDecl-F.Interface a b c d) = ap tree_decl (fold-roll-TypeDecl m.Member m.TypeDecl m.member_step m.decl_step (TypeDecl-F.Interface a b c (map (λ p. p.0) d))) ∙ rw (backs_members d) refl
at_decl TypeDecl-F.Empty = ap tree_decl (fold-roll-TypeDecl m.Member m.TypeDecl m.member_step m.decl_step TypeDecl-F.Empty)

pub tree_plain_member : (y : declared_member.Member) → BackMember y
tree_plain_member = ind-Member BackMember BackTypeDecl (λ z y h. subst (λ z. BackMember (roll-Member z)) h (at_member y)) (λ z y h. subst (λ z. BackTypeDecl (roll-TypeDecl z)) h (at_decl y))

pub tree_plain_decl : (y : declared_decl.TypeDecl) → BackTypeDecl y
tree_plain_decl = ind-TypeDecl BackMember BackTypeDecl (λ z y h. subst (λ z. BackMember (roll-Member z)) h (at_member y)) (λ z y h. subst (λ z. BackTypeDecl (roll-TypeDecl z)) h (at_decl y))

pub tree_plain_members : (all : List declared_member.Member) → tree_members (m.plain_members all) ≡ all
tree_plain_members [] = refl
tree_plain_members (a ∷ all) = rw (tree_plain_member a, tree_plain_members all) refl

-- ---- units

abbrev pub tree_unit : m.CompilationUnit → declared_unit.Unit
tree_unit (m.UnitOf p imports types) = record { «package» = p; imports = imports; types = map tree_decl types }

pub plain_tree_unit : (u : m.CompilationUnit) → m.plain_unit (tree_unit u) ≡ u
plain_tree_unit (m.UnitOf p imports types) = rw (round_list m.plain_decl tree_decl plain_tree_decl types) refl

pub tree_plain_unit : (u : declared_unit.Unit) → tree_unit (m.plain_unit u) ≡ u
tree_plain_unit u = rw (round_list tree_decl m.plain_decl tree_plain_decl u.types) refl
