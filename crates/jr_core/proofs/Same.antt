-- Code of the program and plain data are the same things.
use Rattle.std.proofs.Common.{◌≡◌, refl, ap, ◌∙◌, subst, List, [], ◌∷◌, map, Option, Some, None}
use Rattle.jr_base.proofs.Same.{tree_ty, plain_tree_ty, tree_plain_ty}
use Rattle.jr_core.specs.declared.code.Code as declared_code
use Rattle.jr_core.specs.declared.code.Code.{roll-Code}
use Rattle.jr_core.specs.declared.code.Catch as declared_catch
use Rattle.jr_core.specs.declared.code.Catch.{roll-Catch}
use Rattle.jr_core.specs.declared.code.Group as declared_group
use Rattle.jr_core.specs.declared.code.Group.{roll-Group}
use Rattle.jr_core.specs.declared.code.Code.TheOpen.{Code-F, Catch-F, Group-F}
use Rattle.jr_core.specs.declared.code.Code.TheFolds.{map-Code, map-Catch, map-Group, fold-roll-Code, fold-roll-Catch, fold-roll-Group, ind-Code}
use Rattle.jr_core.specs.declared.bodies.Body as declared_body
use Rattle.jr_core.specs.declared.bodies.Core as declared_core
use Rattle.jr_core.specs.Mirror as m

-- ---- code of plain data

abbrev mutual
  pub tree_code : m.Code → declared_code.Code
  tree_code (m.Assign a b c) = roll-Code (Code-F.Assign (tree_code a) b (tree_code c))
  tree_code (m.Cond a b c) = roll-Code (Code-F.Cond (tree_code a) (tree_code b) (tree_code c))
  tree_code (m.AndAlso a b) = roll-Code (Code-F.AndAlso (tree_code a) (tree_code b))
  tree_code (m.OrElse a b) = roll-Code (Code-F.OrElse (tree_code a) (tree_code b))
  tree_code (m.Binary a b c) = roll-Code (Code-F.Binary (tree_code a) b (tree_code c))
  tree_code (m.IsA a b) = roll-Code (Code-F.IsA (tree_code a) (tree_ty b))
  tree_code (m.Unary a b) = roll-Code (Code-F.Unary a (tree_code b))
  tree_code (m.Cast a b) = roll-Code (Code-F.Cast (tree_ty a) (tree_code b))
  tree_code (m.PreStep a b) = roll-Code (Code-F.PreStep a (tree_code b))
  tree_code (m.PostStep a b) = roll-Code (Code-F.PostStep (tree_code a) b)
  tree_code (m.Lit a) = roll-Code (Code-F.Lit a)
  tree_code (m.This a) = roll-Code (Code-F.This a)
  tree_code (m.Var a) = roll-Code (Code-F.Var a)
  tree_code (m.FieldAt a b) = roll-Code (Code-F.FieldAt (tree_any_code a) b)
  tree_code (m.Length a) = roll-Code (Code-F.Length (tree_code a))
  tree_code (m.Index a b) = roll-Code (Code-F.Index (tree_code a) (tree_code b))
  tree_code (m.Call a b c d) = roll-Code (Code-F.Call (tree_any_code a) b c (tree_codes d))
  tree_code (m.New a b c) = roll-Code (Code-F.New (tree_any_code a) b (tree_codes c))
  tree_code (m.NewArray a b c) = roll-Code (Code-F.NewArray (tree_ty a) (tree_codes b) (tree_any_codes c))
  tree_code (m.Show a) = roll-Code (Code-F.Show (tree_code a))
  tree_code (m.Nest a) = roll-Code (Code-F.Nest (tree_codes a))
  tree_code (m.Local a b) = roll-Code (Code-F.Local a (tree_any_code b))
  tree_code m.Skip = roll-Code (Code-F.Skip)
  tree_code (m.Do a b) = roll-Code (Code-F.Do (tree_code a) (tree_code b))
  tree_code (m.While a b) = roll-Code (Code-F.While (tree_code a) (tree_code b))
  tree_code (m.If a b c) = roll-Code (Code-F.If (tree_code a) (tree_code b) (tree_any_code c))
  tree_code (m.Eval a) = roll-Code (Code-F.Eval (tree_code a))
  tree_code (m.For a b c d) = roll-Code (Code-F.For (tree_codes a) (tree_any_code b) (tree_codes c) (tree_code d))
  tree_code (m.Switch a b) = roll-Code (Code-F.Switch (tree_code a) (tree_groups b))
  tree_code (m.Labeled a b) = roll-Code (Code-F.Labeled a (tree_code b))
  tree_code (m.Break a) = roll-Code (Code-F.Break a)
  tree_code (m.Continue a) = roll-Code (Code-F.Continue a)
  tree_code (m.Return a) = roll-Code (Code-F.Return (tree_any_code a))
  tree_code (m.Throw a) = roll-Code (Code-F.Throw (tree_code a))
  tree_code (m.Try a b c) = roll-Code (Code-F.Try (tree_codes a) (tree_catches b) (tree_any_codes c))
  tree_code (m.CtorCall a b c) = roll-Code (Code-F.CtorCall a b (tree_codes c))

  pub tree_group : m.Group → declared_group.Group
  tree_group (m.GroupOf a b) = roll-Group (record { labels = a; stmts = tree_codes b })

  pub tree_catch : m.Catch → declared_catch.Catch
  tree_catch (m.CatchOf a b c) = roll-Catch (record { class = a; param = b; body = tree_codes c })

  pub tree_codes : m.Codes → List declared_code.Code
  tree_codes m.no_codes = []
  tree_codes (m.more_codes a all) = tree_code a ∷ tree_codes all

  pub tree_groups : m.Groups → List declared_group.Group
  tree_groups m.no_groups = []
  tree_groups (m.more_groups a all) = tree_group a ∷ tree_groups all

  pub tree_catches : m.Catches → List declared_catch.Catch
  tree_catches m.no_catches = []
  tree_catches (m.more_catches a all) = tree_catch a ∷ tree_catches all

  pub tree_any_code : m.AnyCode → Option declared_code.Code
  tree_any_code m.no_code = None
  tree_any_code (m.a_code a) = Some (tree_code a)

  pub tree_any_codes : m.AnyCodes → Option (List declared_code.Code)
  tree_any_codes m.no_list = None
  tree_any_codes (m.a_list a) = Some (tree_codes a)

-- ---- plain data, made code and seen as plain data

mutual
  pub plain_tree_code : (y : m.Code) → m.plain_code (tree_code y) ≡ y
  plain_tree_code (m.Assign a b c) = fold-roll-Code m.Code m.Catch m.Group m.code_step m.catch_step m.group_step (Code-F.Assign (tree_code a) b (tree_code c)) ∙ rw (plain_tree_code a, plain_tree_code c) refl
  plain_tree_code (m.Cond a b c) = fold-roll-Code m.Code m.Catch m.Group m.code_step m.catch_step m.group_step (Code-F.Cond (tree_code a) (tree_code b) (tree_code c)) ∙ rw (plain_tree_code a, plain_tree_code b, plain_tree_code c) refl
  plain_tree_code (m.AndAlso a b) = fold-roll-Code m.Code m.Catch m.Group m.code_step m.catch_step m.group_step (Code-F.AndAlso (tree_code a) (tree_code b)) ∙ rw (plain_tree_code a, plain_tree_code b) refl
  plain_tree_code (m.OrElse a b) = fold-roll-Code m.Code m.Catch m.Group m.code_step m.catch_step m.group_step (Code-F.OrElse (tree_code a) (tree_code b)) ∙ rw (plain_tree_code a, plain_tree_code b) refl
  plain_tree_code (m.Binary a b c) = fold-roll-Code m.Code m.Catch m.Group m.code_step m.catch_step m.group_step (Code-F.Binary (tree_code a) b (tree_code c)) ∙ rw (plain_tree_code a, plain_tree_code c) refl
  plain_tree_code (m.IsA a b) = fold-roll-Code m.Code m.Catch m.Group m.code_step m.catch_step m.group_step (Code-F.IsA (tree_code a) (tree_ty b)) ∙ rw (plain_tree_code a, plain_tree_ty b) refl
  plain_tree_code (m.Unary a b) = fold-roll-Code m.Code m.Catch m.Group m.code_step m.catch_step m.group_step (Code-F.Unary a (tree_code b)) ∙ rw (plain_tree_code b) refl
  plain_tree_code (m.Cast a b) = fold-roll-Code m.Code m.Catch m.Group m.code_step m.catch_step m.group_step (Code-F.Cast (tree_ty a) (tree_code b)) ∙ rw (plain_tree_ty a, plain_tree_code b) refl
  plain_tree_code (m.PreStep a b) = fold-roll-Code m.Code m.Catch m.Group m.code_step m.catch_step m.group_step (Code-F.PreStep a (tree_code b)) ∙ rw (plain_tree_code b) refl
  plain_tree_code (m.PostStep a b) = fold-roll-Code m.Code m.Catch m.Group m.code_step m.catch_step m.group_step (Code-F.PostStep (tree_code a) b) ∙ rw (plain_tree_code a) refl
  plain_tree_code (m.Lit a) = fold-roll-Code m.Code m.Catch m.Group m.code_step m.catch_step m.group_step (Code-F.Lit a)
  plain_tree_code (m.This a) = fold-roll-Code m.Code m.Catch m.Group m.code_step m.catch_step m.group_step (Code-F.This a)
  plain_tree_code (m.Var a) = fold-roll-Code m.Code m.Catch m.Group m.code_step m.catch_step m.group_step (Code-F.Var a)
  plain_tree_code (m.FieldAt m.no_code b) = fold-roll-Code m.Code m.Catch m.Group m.code_step m.catch_step m.group_step (Code-F.FieldAt None b)
  plain_tree_code (m.FieldAt (m.a_code a) b) = fold-roll-Code m.Code m.Catch m.Group m.code_step m.catch_step m.group_step (Code-F.FieldAt (Some (tree_code a)) b) ∙ rw (plain_tree_code a) refl
  plain_tree_code (m.Length a) = fold-roll-Code m.Code m.Catch m.Group m.code_step m.catch_step m.group_step (Code-F.Length (tree_code a)) ∙ rw (plain_tree_code a) refl
  plain_tree_code (m.Index a b) = fold-roll-Code m.Code m.Catch m.Group m.code_step m.catch_step m.group_step (Code-F.Index (tree_code a) (tree_code b)) ∙ rw (plain_tree_code a, plain_tree_code b) refl
  plain_tree_code (m.Call m.no_code b c d) = fold-roll-Code m.Code m.Catch m.Group m.code_step m.catch_step m.group_step (Code-F.Call None b c (tree_codes d)) ∙ rw (plain_tree_codes d) refl
  plain_tree_code (m.Call (m.a_code a) b c d) = fold-roll-Code m.Code m.Catch m.Group m.code_step m.catch_step m.group_step (Code-F.Call (Some (tree_code a)) b c (tree_codes d)) ∙ rw (plain_tree_code a, plain_tree_codes d) refl
  plain_tree_code (m.New m.no_code b c) = fold-roll-Code m.Code m.Catch m.Group m.code_step m.catch_step m.group_step (Code-F.New None b (tree_codes c)) ∙ rw (plain_tree_codes c) refl
  plain_tree_code (m.New (m.a_code a) b c) = fold-roll-Code m.Code m.Catch m.Group m.code_step m.catch_step m.group_step (Code-F.New (Some (tree_code a)) b (tree_codes c)) ∙ rw (plain_tree_code a, plain_tree_codes c) refl
  plain_tree_code (m.NewArray a b m.no_list) = fold-roll-Code m.Code m.Catch m.Group m.code_step m.catch_step m.group_step (Code-F.NewArray (tree_ty a) (tree_codes b) None) ∙ rw (plain_tree_ty a, plain_tree_codes b) refl
  plain_tree_code (m.NewArray a b (m.a_list c)) = fold-roll-Code m.Code m.Catch m.Group m.code_step m.catch_step m.group_step (Code-F.NewArray (tree_ty a) (tree_codes b) (Some (tree_codes c))) ∙ rw (plain_tree_ty a, plain_tree_codes b, plain_tree_codes c) refl
  plain_tree_code (m.Show a) = fold-roll-Code m.Code m.Catch m.Group m.code_step m.catch_step m.group_step (Code-F.Show (tree_code a)) ∙ rw (plain_tree_code a) refl
  plain_tree_code (m.Nest a) = fold-roll-Code m.Code m.Catch m.Group m.code_step m.catch_step m.group_step (Code-F.Nest (tree_codes a)) ∙ rw (plain_tree_codes a) refl
  plain_tree_code (m.Local a m.no_code) = fold-roll-Code m.Code m.Catch m.Group m.code_step m.catch_step m.group_step (Code-F.Local a None)
  plain_tree_code (m.Local a (m.a_code b)) = fold-roll-Code m.Code m.Catch m.Group m.code_step m.catch_step m.group_step (Code-F.Local a (Some (tree_code b))) ∙ rw (plain_tree_code b) refl
  plain_tree_code m.Skip = fold-roll-Code m.Code m.Catch m.Group m.code_step m.catch_step m.group_step (Code-F.Skip)
  plain_tree_code (m.Do a b) = fold-roll-Code m.Code m.Catch m.Group m.code_step m.catch_step m.group_step (Code-F.Do (tree_code a) (tree_code b)) ∙ rw (plain_tree_code a, plain_tree_code b) refl
  plain_tree_code (m.While a b) = fold-roll-Code m.Code m.Catch m.Group m.code_step m.catch_step m.group_step (Code-F.While (tree_code a) (tree_code b)) ∙ rw (plain_tree_code a, plain_tree_code b) refl
  plain_tree_code (m.If a b m.no_code) = fold-roll-Code m.Code m.Catch m.Group m.code_step m.catch_step m.group_step (Code-F.If (tree_code a) (tree_code b) None) ∙ rw (plain_tree_code a, plain_tree_code b) refl
  plain_tree_code (m.If a b (m.a_code c)) = fold-roll-Code m.Code m.Catch m.Group m.code_step m.catch_step m.group_step (Code-F.If (tree_code a) (tree_code b) (Some (tree_code c))) ∙ rw (plain_tree_code a, plain_tree_code b, plain_tree_code c) refl
  plain_tree_code (m.Eval a) = fold-roll-Code m.Code m.Catch m.Group m.code_step m.catch_step m.group_step (Code-F.Eval (tree_code a)) ∙ rw (plain_tree_code a) refl
  plain_tree_code (m.For a m.no_code c d) = fold-roll-Code m.Code m.Catch m.Group m.code_step m.catch_step m.group_step (Code-F.For (tree_codes a) None (tree_codes c) (tree_code d)) ∙ rw (plain_tree_codes a, plain_tree_codes c, plain_tree_code d) refl
  plain_tree_code (m.For a (m.a_code b) c d) = fold-roll-Code m.Code m.Catch m.Group m.code_step m.catch_step m.group_step (Code-F.For (tree_codes a) (Some (tree_code b)) (tree_codes c) (tree_code d)) ∙ rw (plain_tree_codes a, plain_tree_code b, plain_tree_codes c, plain_tree_code d) refl
  plain_tree_code (m.Switch a b) = fold-roll-Code m.Code m.Catch m.Group m.code_step m.catch_step m.group_step (Code-F.Switch (tree_code a) (tree_groups b)) ∙ rw (plain_tree_code a, plain_tree_groups b) refl
  plain_tree_code (m.Labeled a b) = fold-roll-Code m.Code m.Catch m.Group m.code_step m.catch_step m.group_step (Code-F.Labeled a (tree_code b)) ∙ rw (plain_tree_code b) refl
  plain_tree_code (m.Break a) = fold-roll-Code m.Code m.Catch m.Group m.code_step m.catch_step m.group_step (Code-F.Break a)
  plain_tree_code (m.Continue a) = fold-roll-Code m.Code m.Catch m.Group m.code_step m.catch_step m.group_step (Code-F.Continue a)
  plain_tree_code (m.Return m.no_code) = fold-roll-Code m.Code m.Catch m.Group m.code_step m.catch_step m.group_step (Code-F.Return None)
  plain_tree_code (m.Return (m.a_code a)) = fold-roll-Code m.Code m.Catch m.Group m.code_step m.catch_step m.group_step (Code-F.Return (Some (tree_code a))) ∙ rw (plain_tree_code a) refl
  plain_tree_code (m.Throw a) = fold-roll-Code m.Code m.Catch m.Group m.code_step m.catch_step m.group_step (Code-F.Throw (tree_code a)) ∙ rw (plain_tree_code a) refl
  plain_tree_code (m.Try a b m.no_list) = fold-roll-Code m.Code m.Catch m.Group m.code_step m.catch_step m.group_step (Code-F.Try (tree_codes a) (tree_catches b) None) ∙ rw (plain_tree_codes a, plain_tree_catches b) refl
  plain_tree_code (m.Try a b (m.a_list c)) = fold-roll-Code m.Code m.Catch m.Group m.code_step m.catch_step m.group_step (Code-F.Try (tree_codes a) (tree_catches b) (Some (tree_codes c))) ∙ rw (plain_tree_codes a, plain_tree_catches b, plain_tree_codes c) refl
  plain_tree_code (m.CtorCall a b c) = fold-roll-Code m.Code m.Catch m.Group m.code_step m.catch_step m.group_step (Code-F.CtorCall a b (tree_codes c)) ∙ rw (plain_tree_codes c) refl

  pub plain_tree_group : (y : m.Group) → m.plain_group (tree_group y) ≡ y
  plain_tree_group (m.GroupOf a b) = fold-roll-Group m.Code m.Catch m.Group m.code_step m.catch_step m.group_step (record { labels = a; stmts = tree_codes b }) ∙ rw (plain_tree_codes b) refl

  pub plain_tree_catch : (y : m.Catch) → m.plain_catch (tree_catch y) ≡ y
  plain_tree_catch (m.CatchOf a b c) = fold-roll-Catch m.Code m.Catch m.Group m.code_step m.catch_step m.group_step (record { class = a; param = b; body = tree_codes c }) ∙ rw (plain_tree_codes c) refl

  pub plain_tree_codes : (y : m.Codes) → m.plain_codes (tree_codes y) ≡ y
  plain_tree_codes m.no_codes = refl
  plain_tree_codes (m.more_codes a all) = rw (plain_tree_code a, plain_tree_codes all) refl

  pub plain_tree_groups : (y : m.Groups) → m.plain_groups (tree_groups y) ≡ y
  plain_tree_groups m.no_groups = refl
  plain_tree_groups (m.more_groups a all) = rw (plain_tree_group a, plain_tree_groups all) refl

  pub plain_tree_catches : (y : m.Catches) → m.plain_catches (tree_catches y) ≡ y
  plain_tree_catches m.no_catches = refl
  plain_tree_catches (m.more_catches a all) = rw (plain_tree_catch a, plain_tree_catches all) refl

-- ---- code, seen as plain data and made code

abbrev BackCode : declared_code.Code → Type 0
BackCode y = tree_code (m.plain_code y) ≡ y

abbrev BackCatch : declared_catch.Catch → Type 0
BackCatch y = tree_catch (m.plain_catch y) ≡ y

abbrev BackGroup : declared_group.Group → Type 0
BackGroup y = tree_group (m.plain_group y) ≡ y

abbrev SuchCode : Type 0
SuchCode = (y : declared_code.Code) × BackCode y

abbrev SuchCatch : Type 0
SuchCatch = (y : declared_catch.Catch) × BackCatch y

abbrev SuchGroup : Type 0
SuchGroup = (y : declared_group.Group) × BackGroup y

backs_codes : (all : List SuchCode) → tree_codes (m.plain_codes (map (λ p. p.0) all)) ≡ map (λ p. p.0) all
backs_codes [] = refl
backs_codes (p ∷ all) = rw (p.1, backs_codes all) refl

backs_groups : (all : List SuchGroup) → tree_groups (m.plain_groups (map (λ p. p.0) all)) ≡ map (λ p. p.0) all
backs_groups [] = refl
backs_groups (p ∷ all) = rw (p.1, backs_groups all) refl

backs_catches : (all : List SuchCatch) → tree_catches (m.plain_catches (map (λ p. p.0) all)) ≡ map (λ p. p.0) all
backs_catches [] = refl
backs_catches (p ∷ all) = rw (p.1, backs_catches all) refl

at_code : (y : Code-F SuchCode SuchCatch SuchGroup) → BackCode (roll-Code (map-Code SuchCode SuchCatch SuchGroup declared_code.Code declared_catch.Catch declared_group.Group (λ p. p.0) (λ p. p.0) (λ p. p.0) y))
at_code (Code-F.Assign a b c) = ap tree_code (fold-roll-Code m.Code m.Catch m.Group m.code_step m.catch_step m.group_step (Code-F.Assign a.0 b c.0)) ∙ rw (a.1, c.1) refl
at_code (Code-F.Cond a b c) = ap tree_code (fold-roll-Code m.Code m.Catch m.Group m.code_step m.catch_step m.group_step (Code-F.Cond a.0 b.0 c.0)) ∙ rw (a.1, b.1, c.1) refl
at_code (Code-F.AndAlso a b) = ap tree_code (fold-roll-Code m.Code m.Catch m.Group m.code_step m.catch_step m.group_step (Code-F.AndAlso a.0 b.0)) ∙ rw (a.1, b.1) refl
at_code (Code-F.OrElse a b) = ap tree_code (fold-roll-Code m.Code m.Catch m.Group m.code_step m.catch_step m.group_step (Code-F.OrElse a.0 b.0)) ∙ rw (a.1, b.1) refl
at_code (Code-F.Binary a b c) = ap tree_code (fold-roll-Code m.Code m.Catch m.Group m.code_step m.catch_step m.group_step (Code-F.Binary a.0 b c.0)) ∙ rw (a.1, c.1) refl
at_code (Code-F.IsA a b) = ap tree_code (fold-roll-Code m.Code m.Catch m.Group m.code_step m.catch_step m.group_step (Code-F.IsA a.0 b)) ∙ rw (a.1, tree_plain_ty b) refl
at_code (Code-F.Unary a b) = ap tree_code (fold-roll-Code m.Code m.Catch m.Group m.code_step m.catch_step m.group_step (Code-F.Unary a b.0)) ∙ rw (b.1) refl
at_code (Code-F.Cast a b) = ap tree_code (fold-roll-Code m.Code m.Catch m.Group m.code_step m.catch_step m.group_step (Code-F.Cast a b.0)) ∙ rw (tree_plain_ty a, b.1) refl
at_code (Code-F.PreStep a b) = ap tree_code (fold-roll-Code m.Code m.Catch m.Group m.code_step m.catch_step m.group_step (Code-F.PreStep a b.0)) ∙ rw (b.1) refl
at_code (Code-F.PostStep a b) = ap tree_code (fold-roll-Code m.Code m.Catch m.Group m.code_step m.catch_step m.group_step (Code-F.PostStep a.0 b)) ∙ rw (a.1) refl
at_code (Code-F.Lit a) = ap tree_code (fold-roll-Code m.Code m.Catch m.Group m.code_step m.catch_step m.group_step (Code-F.Lit a))
at_code (Code-F.This a) = ap tree_code (fold-roll-Code m.Code m.Catch m.Group m.code_step m.catch_step m.group_step (Code-F.This a))
at_code (Code-F.Var a) = ap tree_code (fold-roll-Code m.Code m.Catch m.Group m.code_step m.catch_step m.group_step (Code-F.Var a))
at_code (Code-F.FieldAt None b) = ap tree_code (fold-roll-Code m.Code m.Catch m.Group m.code_step m.catch_step m.group_step (Code-F.FieldAt None b))
at_code (Code-F.FieldAt (Some a) b) = ap tree_code (fold-roll-Code m.Code m.Catch m.Group m.code_step m.catch_step m.group_step (Code-F.FieldAt (Some a.0) b)) ∙ rw (a.1) refl
at_code (Code-F.Length a) = ap tree_code (fold-roll-Code m.Code m.Catch m.Group m.code_step m.catch_step m.group_step (Code-F.Length a.0)) ∙ rw (a.1) refl
at_code (Code-F.Index a b) = ap tree_code (fold-roll-Code m.Code m.Catch m.Group m.code_step m.catch_step m.group_step (Code-F.Index a.0 b.0)) ∙ rw (a.1, b.1) refl
at_code (Code-F.Call None b c d) = ap tree_code (fold-roll-Code m.Code m.Catch m.Group m.code_step m.catch_step m.group_step (Code-F.Call None b c (map (λ p. p.0) d))) ∙ rw (backs_codes d) refl
at_code (Code-F.Call (Some a) b c d) = ap tree_code (fold-roll-Code m.Code m.Catch m.Group m.code_step m.catch_step m.group_step (Code-F.Call (Some a.0) b c (map (λ p. p.0) d))) ∙ rw (a.1, backs_codes d) refl
at_code (Code-F.New None b c) = ap tree_code (fold-roll-Code m.Code m.Catch m.Group m.code_step m.catch_step m.group_step (Code-F.New None b (map (λ p. p.0) c))) ∙ rw (backs_codes c) refl
at_code (Code-F.New (Some a) b c) = ap tree_code (fold-roll-Code m.Code m.Catch m.Group m.code_step m.catch_step m.group_step (Code-F.New (Some a.0) b (map (λ p. p.0) c))) ∙ rw (a.1, backs_codes c) refl
at_code (Code-F.NewArray a b None) = ap tree_code (fold-roll-Code m.Code m.Catch m.Group m.code_step m.catch_step m.group_step (Code-F.NewArray a (map (λ p. p.0) b) None)) ∙ rw (tree_plain_ty a, backs_codes b) refl
at_code (Code-F.NewArray a b (Some c)) = ap tree_code (fold-roll-Code m.Code m.Catch m.Group m.code_step m.catch_step m.group_step (Code-F.NewArray a (map (λ p. p.0) b) (Some (map (λ p. p.0) c)))) ∙ rw (tree_plain_ty a, backs_codes b, backs_codes c) refl
at_code (Code-F.Show a) = ap tree_code (fold-roll-Code m.Code m.Catch m.Group m.code_step m.catch_step m.group_step (Code-F.Show a.0)) ∙ rw (a.1) refl
at_code (Code-F.Nest a) = ap tree_code (fold-roll-Code m.Code m.Catch m.Group m.code_step m.catch_step m.group_step (Code-F.Nest (map (λ p. p.0) a))) ∙ rw (backs_codes a) refl
at_code (Code-F.Local a None) = ap tree_code (fold-roll-Code m.Code m.Catch m.Group m.code_step m.catch_step m.group_step (Code-F.Local a None))
at_code (Code-F.Local a (Some b)) = ap tree_code (fold-roll-Code m.Code m.Catch m.Group m.code_step m.catch_step m.group_step (Code-F.Local a (Some b.0))) ∙ rw (b.1) refl
at_code Code-F.Skip = ap tree_code (fold-roll-Code m.Code m.Catch m.Group m.code_step m.catch_step m.group_step (Code-F.Skip))
at_code (Code-F.Do a b) = ap tree_code (fold-roll-Code m.Code m.Catch m.Group m.code_step m.catch_step m.group_step (Code-F.Do a.0 b.0)) ∙ rw (a.1, b.1) refl
at_code (Code-F.While a b) = ap tree_code (fold-roll-Code m.Code m.Catch m.Group m.code_step m.catch_step m.group_step (Code-F.While a.0 b.0)) ∙ rw (a.1, b.1) refl
at_code (Code-F.If a b None) = ap tree_code (fold-roll-Code m.Code m.Catch m.Group m.code_step m.catch_step m.group_step (Code-F.If a.0 b.0 None)) ∙ rw (a.1, b.1) refl
at_code (Code-F.If a b (Some c)) = ap tree_code (fold-roll-Code m.Code m.Catch m.Group m.code_step m.catch_step m.group_step (Code-F.If a.0 b.0 (Some c.0))) ∙ rw (a.1, b.1, c.1) refl
at_code (Code-F.Eval a) = ap tree_code (fold-roll-Code m.Code m.Catch m.Group m.code_step m.catch_step m.group_step (Code-F.Eval a.0)) ∙ rw (a.1) refl
at_code (Code-F.For a None c d) = ap tree_code (fold-roll-Code m.Code m.Catch m.Group m.code_step m.catch_step m.group_step (Code-F.For (map (λ p. p.0) a) None (map (λ p. p.0) c) d.0)) ∙ rw (backs_codes a, backs_codes c, d.1) refl
at_code (Code-F.For a (Some b) c d) = ap tree_code (fold-roll-Code m.Code m.Catch m.Group m.code_step m.catch_step m.group_step (Code-F.For (map (λ p. p.0) a) (Some b.0) (map (λ p. p.0) c) d.0)) ∙ rw (backs_codes a, b.1, backs_codes c, d.1) refl
at_code (Code-F.Switch a b) = ap tree_code (fold-roll-Code m.Code m.Catch m.Group m.code_step m.catch_step m.group_step (Code-F.Switch a.0 (map (λ p. p.0) b))) ∙ rw (a.1, backs_groups b) refl
at_code (Code-F.Labeled a b) = ap tree_code (fold-roll-Code m.Code m.Catch m.Group m.code_step m.catch_step m.group_step (Code-F.Labeled a b.0)) ∙ rw (b.1) refl
at_code (Code-F.Break a) = ap tree_code (fold-roll-Code m.Code m.Catch m.Group m.code_step m.catch_step m.group_step (Code-F.Break a))
at_code (Code-F.Continue a) = ap tree_code (fold-roll-Code m.Code m.Catch m.Group m.code_step m.catch_step m.group_step (Code-F.Continue a))
at_code (Code-F.Return None) = ap tree_code (fold-roll-Code m.Code m.Catch m.Group m.code_step m.catch_step m.group_step (Code-F.Return None))
at_code (Code-F.Return (Some a)) = ap tree_code (fold-roll-Code m.Code m.Catch m.Group m.code_step m.catch_step m.group_step (Code-F.Return (Some a.0))) ∙ rw (a.1) refl
at_code (Code-F.Throw a) = ap tree_code (fold-roll-Code m.Code m.Catch m.Group m.code_step m.catch_step m.group_step (Code-F.Throw a.0)) ∙ rw (a.1) refl
at_code (Code-F.Try a b None) = ap tree_code (fold-roll-Code m.Code m.Catch m.Group m.code_step m.catch_step m.group_step (Code-F.Try (map (λ p. p.0) a) (map (λ p. p.0) b) None)) ∙ rw (backs_codes a, backs_catches b) refl
at_code (Code-F.Try a b (Some c)) = ap tree_code (fold-roll-Code m.Code m.Catch m.Group m.code_step m.catch_step m.group_step (Code-F.Try (map (λ p. p.0) a) (map (λ p. p.0) b) (Some (map (λ p. p.0) c)))) ∙ rw (backs_codes a, backs_catches b, backs_codes c) refl
at_code (Code-F.CtorCall a b c) = ap tree_code (fold-roll-Code m.Code m.Catch m.Group m.code_step m.catch_step m.group_step (Code-F.CtorCall a b (map (λ p. p.0) c))) ∙ rw (backs_codes c) refl

at_catch : (y : Catch-F SuchCode SuchCatch SuchGroup) → BackCatch (roll-Catch (map-Catch SuchCode SuchCatch SuchGroup declared_code.Code declared_catch.Catch declared_group.Group (λ p. p.0) (λ p. p.0) (λ p. p.0) y))
at_catch y = ap tree_catch (fold-roll-Catch m.Code m.Catch m.Group m.code_step m.catch_step m.group_step (map-Catch SuchCode SuchCatch SuchGroup declared_code.Code declared_catch.Catch declared_group.Group (λ p. p.0) (λ p. p.0) (λ p. p.0) y)) ∙ rw (backs_codes y.body) refl

at_group : (y : Group-F SuchCode SuchCatch SuchGroup) → BackGroup (roll-Group (map-Group SuchCode SuchCatch SuchGroup declared_code.Code declared_catch.Catch declared_group.Group (λ p. p.0) (λ p. p.0) (λ p. p.0) y))
at_group y = ap tree_group (fold-roll-Group m.Code m.Catch m.Group m.code_step m.catch_step m.group_step (map-Group SuchCode SuchCatch SuchGroup declared_code.Code declared_catch.Catch declared_group.Group (λ p. p.0) (λ p. p.0) (λ p. p.0) y)) ∙ rw (backs_codes y.stmts) refl

pub tree_plain_code : (y : declared_code.Code) → BackCode y
tree_plain_code = ind-Code BackCode BackCatch BackGroup (λ z y h. subst (λ z. BackCode (roll-Code z)) h (at_code y)) (λ z y h. subst (λ z. BackCatch (roll-Catch z)) h (at_catch y)) (λ z y h. subst (λ z. BackGroup (roll-Group z)) h (at_group y))

pub tree_plain_codes : (all : List declared_code.Code) → tree_codes (m.plain_codes all) ≡ all
tree_plain_codes [] = refl
tree_plain_codes (a ∷ all) = rw (tree_plain_code a, tree_plain_codes all) refl

-- ---- bodies and cores

abbrev pub tree_body : m.Body → declared_body.Body
tree_body b = record { decl = b.decl; class = b.class; is_static = b.is_static; is_native = b.is_native; ty = tree_ty b.ty; constant = b.constant; params = b.params; code = tree_codes b.code }

pub plain_tree_body : (b : m.Body) → m.plain_body (tree_body b) ≡ b
plain_tree_body b = rw (plain_tree_ty b.ty, plain_tree_codes b.code) refl

pub tree_plain_body : (b : declared_body.Body) → tree_body (m.plain_body b) ≡ b
tree_plain_body b = rw (tree_plain_ty b.ty, tree_plain_codes b.code) refl

plain_tree_bodies : (all : List m.Body) → map m.plain_body (map tree_body all) ≡ all
plain_tree_bodies [] = refl
plain_tree_bodies (b ∷ all) = rw (plain_tree_body b, plain_tree_bodies all) refl

tree_plain_bodies : (all : List declared_body.Body) → map tree_body (map m.plain_body all) ≡ all
tree_plain_bodies [] = refl
tree_plain_bodies (b ∷ all) = rw (tree_plain_body b, tree_plain_bodies all) refl

abbrev pub tree_core : m.Core → declared_core.Core
tree_core c = record { classes = c.classes; bodies = map tree_body c.bodies }

pub plain_tree_core : (c : m.Core) → m.plain_core (tree_core c) ≡ c
plain_tree_core c = rw (plain_tree_bodies c.bodies) refl

pub tree_plain_core : (c : declared_core.Core) → tree_core (m.plain_core c) ≡ c
tree_plain_core c = rw (tree_plain_bodies c.bodies) refl
