-- Code as plain data, and what code of the program is as such (JLS 14, 15).
use Rattle.std.specs.Prelude.{Bool, List, [], ◌∷◌, map, Option, Some, None}
use Rattle.std.specs.Option.{option_map}
use Rattle.jr_base.specs.declared.ids.DeclId.{DeclId}
use Rattle.jr_base.specs.declared.ids.TypeId.{TypeId}
use Rattle.jr_base.specs.declared.constant.Const.{Const}
use Rattle.jr_base.specs.Mirror.{Ty, plain_ty}
use Rattle.jr_core.specs.declared.operators.BinaryOp.{BinaryOp}
use Rattle.jr_core.specs.declared.operators.UnaryOp.{UnaryOp}
use Rattle.jr_core.specs.declared.operators.StepOp.{StepOp}
use Rattle.jr_core.specs.declared.code.SwitchLabel.{SwitchLabel}
use Rattle.jr_core.specs.declared.code.Code as declared_code
use Rattle.jr_core.specs.declared.code.Catch as declared_catch
use Rattle.jr_core.specs.declared.code.Group as declared_group
use Rattle.jr_core.specs.declared.code.Code.TheOpen.{Code-F, Catch-F, Group-F}
use Rattle.jr_core.specs.declared.code.Code.TheFolds.{fold-Code, fold-Catch, fold-Group}
use Rattle.jr_core.specs.declared.bodies.Class.{Class}
use Rattle.jr_core.specs.declared.bodies.Body as declared_body
use Rattle.jr_core.specs.declared.bodies.Core as declared_core

mutual
  pub data Code : Type 0 where
    Assign : Code → Option BinaryOp → Code → Code
    Cond : Code → Code → Code → Code
    AndAlso : Code → Code → Code
    OrElse : Code → Code → Code
    Binary : Code → BinaryOp → Code → Code
    IsA : Code → Ty → Code
    Unary : UnaryOp → Code → Code
    Cast : Ty → Code → Code
    PreStep : StepOp → Code → Code
    PostStep : Code → StepOp → Code
    Lit : Option Const → Code
    This : TypeId → Code
    Var : DeclId → Code
    FieldAt : AnyCode → DeclId → Code
    Length : Code → Code
    Index : Code → Code → Code
    Call : AnyCode → Bool → DeclId → Codes → Code
    New : AnyCode → DeclId → Codes → Code
    NewArray : Ty → Codes → AnyCodes → Code
    Show : Code → Code
    Nest : Codes → Code
    Local : DeclId → AnyCode → Code
    Skip : Code
    Do : Code → Code → Code
    While : Code → Code → Code
    If : Code → Code → AnyCode → Code
    Eval : Code → Code
    For : Codes → AnyCode → Codes → Code → Code
    Switch : Code → Groups → Code
    Labeled : DeclId → Code → Code
    Break : Option DeclId → Code
    Continue : Option DeclId → Code
    Return : AnyCode → Code
    Throw : Code → Code
    Try : Codes → Catches → AnyCodes → Code
    CtorCall : Bool → DeclId → Codes → Code

  pub data Group : Type 0 where
    GroupOf : List SwitchLabel → Codes → Group

  pub data Catch : Type 0 where
    CatchOf : TypeId → DeclId → Codes → Catch

  pub data Codes : Type 0 where
    no_codes : Codes
    more_codes : Code → Codes → Codes

  pub data Groups : Type 0 where
    no_groups : Groups
    more_groups : Group → Groups → Groups

  pub data Catches : Type 0 where
    no_catches : Catches
    more_catches : Catch → Catches → Catches

  pub data AnyCode : Type 0 where
    no_code : AnyCode
    a_code : Code → AnyCode

  pub data AnyCodes : Type 0 where
    no_list : AnyCodes
    a_list : Codes → AnyCodes

-- ---- lists and options of plain data

abbrev pub codes : List Code → Codes
codes [] = no_codes
codes (x ∷ xs) = more_codes x (codes xs)

abbrev pub groups : List Group → Groups
groups [] = no_groups
groups (x ∷ xs) = more_groups x (groups xs)

abbrev pub catches : List Catch → Catches
catches [] = no_catches
catches (x ∷ xs) = more_catches x (catches xs)

abbrev pub any_code : Option Code → AnyCode
any_code None = no_code
any_code (Some x) = a_code x

abbrev pub any_codes : Option (List Code) → AnyCodes
any_codes None = no_list
any_codes (Some xs) = a_list (codes xs)

-- ---- one level, with what each part is as plain data in its place

abbrev pub code_step : Code-F Code Catch Group → Code
code_step (Code-F.Assign a b c) = Assign a b c
code_step (Code-F.Cond a b c) = Cond a b c
code_step (Code-F.AndAlso a b) = AndAlso a b
code_step (Code-F.OrElse a b) = OrElse a b
code_step (Code-F.Binary a b c) = Binary a b c
code_step (Code-F.IsA a b) = IsA a (plain_ty b)
code_step (Code-F.Unary a b) = Unary a b
code_step (Code-F.Cast a b) = Cast (plain_ty a) b
code_step (Code-F.PreStep a b) = PreStep a b
code_step (Code-F.PostStep a b) = PostStep a b
code_step (Code-F.Lit a) = Lit a
code_step (Code-F.This a) = This a
code_step (Code-F.Var a) = Var a
code_step (Code-F.FieldAt a b) = FieldAt (any_code a) b
code_step (Code-F.Length a) = Length a
code_step (Code-F.Index a b) = Index a b
code_step (Code-F.Call a b c d) = Call (any_code a) b c (codes d)
code_step (Code-F.New a b c) = New (any_code a) b (codes c)
code_step (Code-F.NewArray a b c) = NewArray (plain_ty a) (codes b) (any_codes c)
code_step (Code-F.Show a) = Show a
code_step (Code-F.Nest a) = Nest (codes a)
code_step (Code-F.Local a b) = Local a (any_code b)
code_step Code-F.Skip = Skip
code_step (Code-F.Do a b) = Do a b
code_step (Code-F.While a b) = While a b
code_step (Code-F.If a b c) = If a b (any_code c)
code_step (Code-F.Eval a) = Eval a
code_step (Code-F.For a b c d) = For (codes a) (any_code b) (codes c) d
code_step (Code-F.Switch a b) = Switch a (groups b)
code_step (Code-F.Labeled a b) = Labeled a b
code_step (Code-F.Break a) = Break a
code_step (Code-F.Continue a) = Continue a
code_step (Code-F.Return a) = Return (any_code a)
code_step (Code-F.Throw a) = Throw a
code_step (Code-F.Try a b c) = Try (codes a) (catches b) (any_codes c)
code_step (Code-F.CtorCall a b c) = CtorCall a b (codes c)

abbrev pub group_step : Group-F Code Catch Group → Group
group_step y = GroupOf y.labels (codes y.stmts)

abbrev pub catch_step : Catch-F Code Catch Group → Catch
catch_step y = CatchOf y.class y.param (codes y.body)

-- ---- the views

abbrev pub plain_code : declared_code.Code → Code
plain_code = fold-Code Code Catch Group code_step catch_step group_step

abbrev pub plain_group : declared_group.Group → Group
plain_group = fold-Group Code Catch Group code_step catch_step group_step

abbrev pub plain_catch : declared_catch.Catch → Catch
plain_catch = fold-Catch Code Catch Group code_step catch_step group_step

abbrev pub plain_codes : List declared_code.Code → Codes
plain_codes all = codes (map plain_code all)

abbrev pub plain_groups : List declared_group.Group → Groups
plain_groups all = groups (map plain_group all)

abbrev pub plain_catches : List declared_catch.Catch → Catches
plain_catches all = catches (map plain_catch all)

abbrev pub plain_any_code : Option declared_code.Code → AnyCode
plain_any_code any = any_code (option_map plain_code any)

abbrev pub plain_any_codes : Option (List declared_code.Code) → AnyCodes
plain_any_codes any = any_codes (option_map (map plain_code) any)

-- ---- bodies and cores

pub record Body : Type 0 where
  pub decl : DeclId
  pub class : TypeId
  pub is_static : Bool
  pub is_native : Bool
  pub ty : Ty
  pub constant : Option Const
  pub params : List DeclId
  pub code : Codes

pub record Core : Type 0 where
  pub classes : List Class
  pub bodies : List Body

abbrev pub plain_body : declared_body.Body → Body
plain_body b = record { decl = b.decl; class = b.class; is_static = b.is_static; is_native = b.is_native; ty = plain_ty b.ty; constant = b.constant; params = b.params; code = plain_codes b.code }

abbrev pub plain_core : declared_core.Core → Core
plain_core c = record { classes = c.classes; bodies = map plain_body c.bodies }
