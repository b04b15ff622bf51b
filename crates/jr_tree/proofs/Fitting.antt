-- The labels of shaped units stand as they may.
use Rattle.std.proofs.Common.{◌≡◌, ◌⊎◌, ℕ, ◌+◌, List, [], ◌∷◌, refl, sym, ◌∙◌, ap, subst}
use Rattle.std.specs.Prelude.{Bool, true, false, not, Option, Some, None, IsTrue, IfSome, is_some}
use Rattle.std.specs.List.{AllByRecursion}
use Rattle.jr_base.specs.declared.text.Text.{Text}
use Rattle.jr_tree.specs.declared.tree.Name.{Name}
use Rattle.jr_tree.specs.declared.tree.Base.{Base}
use Rattle.jr_tree.specs.declared.tree.Base.TheVariants as base
use Rattle.jr_tree.specs.declared.tree.TypeUse.{TypeUse}
use Rattle.jr_tree.specs.declared.tree.Param.{Param}
use Rattle.jr_tree.specs.declared.tree.Modifier.{Modifier}
use Rattle.jr_tree.specs.declared.tree.ResultType.{ResultType}
use Rattle.jr_tree.specs.declared.tree.ResultType.TheVariants as outcome
use Rattle.jr_tree.specs.declared.tree.PackageDecl.{PackageDecl}
use Rattle.jr_tree.specs.declared.tree.Import.{Import}
use Rattle.jr_tree.specs.declared.tree.Import.TheVariants as import
use Rattle.jr_tree.specs.Shape.{is_empty, IsName, IsBase, IsTypeUse, IsShapedExpr, IsShapedAnyReceiver, AreShapedExprs, IsShapedAnyList, IsShapedList, IsShapedInit, AreShapedInits, IsWholeExpr}
use Rattle.jr_tree.specs.Mirror.Exprs as x
use Rattle.jr_tree.specs.declared.label.Label.{Label}
use Rattle.jr_tree.specs.declared.label.Label.TheVariants as is
use Rattle.jr_tree.specs.declared.label.NameKind.{NameKind}
use Rattle.jr_tree.specs.declared.label.NameKind.TheVariants as kind
use Rattle.jr_tree.specs.declared.label.NamePlace.{NamePlace}
use Rattle.jr_tree.specs.declared.label.NamePlace.TheVariants as place
use Rattle.jr_tree.specs.declared.label.ReceiverKind.TheVariants as on
use Rattle.jr_tree.specs.Forest.{Forest, none, more, node, leaf, if_some, each}
use Rattle.jr_tree.specs.Exprs.{left_kind, dotted, name_labels, type_name, primitive_of, base_labels, type_labels, count, expr_labels, exprs_labels, list_labels, init_labels, inits_labels}
use Rattle.jr_tree.specs.Below.{IsQualifier, IsOtherName, Asks, Under, IsEmpty, FirstIs, OneIs, IsQualifierOf, IsTypeName, Starts, Fits}

-- a label below which anything may stand that asks for no other
abbrev pub IsOpen : Label → Type 0
IsOpen (is.Name k at b) = ⊥
IsOpen (is.Import form) = ⊥
IsOpen is.Package = ⊥
IsOpen _ = Unit {0}

pub open_under : (over l : Label) → IsOpen over → Asks l over → Under over l
open_under (is.Name k at b) l h a = absurd h
open_under (is.Import form) l h a = absurd h
open_under is.Package l h a = absurd h
open_under _ l h a = a

-- ---- names

left_again : (k : NameKind) → left_kind (left_kind k) ≡ left_kind k
left_again kind.Variable = refl
left_again kind.Type = refl
left_again kind.PackageOrType = refl
left_again kind.Ambiguous = refl
left_again kind.Package = refl

-- below names the same stands
fits_name : (k j : NameKind) (at to : NamePlace) (b c : Bool) (f : Forest) → Fits (is.Name k at b) f → Fits (is.Name j to c) f
fits_name k j at to b c none h = tt
fits_name k j at to b c (more l x kids rest) h = (h.0, h.1, h.2, fits_name k j at to b c rest h.3)

one_of : (k j : NameKind) (f : Forest) → k ≡ j → OneIs (IsQualifierOf k) f → OneIs (IsQualifierOf j) f
one_of k j f e h = subst (λ k. OneIs (IsQualifierOf k) f) e h

starts_left : (k : NameKind) (at : NamePlace) (b : Bool) (f : Forest) → Starts (is.Name k at b) f → Starts (is.Name (left_kind k) place.Qualifier b) f
starts_left k at true f h = one_of (left_kind k) (left_kind (left_kind k)) f (sym (left_again k)) h
starts_left k at false f h = h

dotted_fits : (k : NameKind) (at : NamePlace) (parts : List Text) (b : Bool) (left rest : Forest) (over : Label) → Starts (is.Name k at b) left → Fits (is.Name k at b) left
    → ((b : Bool) → Under over (is.Name k at b)) → Fits over rest → Fits over (dotted k at parts b left rest)
dotted_fits k at [] b left rest over s h under r = r
dotted_fits k at (part ∷ []) b left rest over s h under r = (under b, s, h, r)
dotted_fits k at (part ∷ (next ∷ parts)) b left rest over s h under r =
    dotted_fits k at (next ∷ parts) true (more (is.Name (left_kind k) place.Qualifier b) part left none) rest over refl
    (tt, starts_left k at b left s, fits_name k (left_kind k) at place.Qualifier b b left h, tt) under r

pub name_fits : (k : NameKind) (at : NamePlace) (n : Name) (over : Label) (rest : Forest) → ((b : Bool) → Under over (is.Name k at b)) → Fits over rest → Fits over (name_labels k at n rest)
name_fits k at n over rest under r = dotted_fits k at n.parts false none rest over tt tt under r

dotted_first : (P : Label → Type 0) (k : NameKind) (at : NamePlace) (parts : List Text) (b : Bool) (left rest : Forest) → ((b : Bool) → P (is.Name k at b)) → IsTrue (not (is_empty parts))
    → FirstIs P (dotted k at parts b left rest)
dotted_first P k at [] b left rest h e = absurd (let z : false ≡ true = e in cc)
dotted_first P k at (part ∷ []) b left rest h e = h b
dotted_first P k at (part ∷ (next ∷ parts)) b left rest h e = dotted_first P k at (next ∷ parts) true (more (is.Name (left_kind k) place.Qualifier b) part left none) rest h refl

pub first_name : (k : NameKind) (at : NamePlace) (n : Name) (rest : Forest) → ((b : Bool) → IsTypeName (is.Name k at b)) → IsName n → FirstIs IsTypeName (name_labels k at n rest)
first_name k at n rest h e = dotted_first IsTypeName k at n.parts false none rest h e

pub type_name_fits : (n : Name) (over : Label) (rest : Forest) → IsOpen over → Fits over rest → Fits over (type_name n rest)
type_name_fits n over rest o r = name_fits kind.Type place.Other n over rest (λ b. open_under over (is.Name kind.Type place.Other b) o tt) r

pub type_name_first : (n : Name) (rest : Forest) → IsName n → FirstIs IsTypeName (type_name n rest)
type_name_first n rest h = first_name kind.Type place.Other n rest (λ b. tt) h

-- ---- types

base_fits : (b : Base) (over : Label) (rest : Forest) → IsOpen over → Fits over rest → Fits over (base_labels b rest)
base_fits (base.Primitive p) over rest o r = r
base_fits (base.Named n) over rest o r = type_name_fits n over rest o r

type_starts : (b : Base) (dims : ℕ) → IsBase b → Starts (is.TypeUse (primitive_of b) dims) (base_labels b none)
type_starts (base.Primitive p) dims h = tt
type_starts (base.Named n) dims h = type_name_first n none h

array_starts : (b : Base) (lengths extra : ℕ) (rest : Forest) → IsBase b → Starts (is.NewArray (primitive_of b) lengths extra) (base_labels b rest)
array_starts (base.Primitive p) lengths extra rest h = tt
array_starts (base.Named n) lengths extra rest h = type_name_first n rest h

pub type_fits : (t : TypeUse) (over : Label) (rest : Forest) → IsOpen over → IsTypeUse t → Fits over rest → Fits over (type_labels t rest)
type_fits t over rest o h r = (
  open_under over (is.TypeUse (primitive_of t.base) t.dims) o tt,
  type_starts t.base t.dims h,
  base_fits t.base (is.TypeUse (primitive_of t.base) t.dims) none tt tt,
  r,
)

-- ---- expressions

mutual
  pub expr_fits : (e : x.Expr) (over : Label) (rest : Forest) → IsOpen over → IsShapedExpr e → Fits over rest → Fits over (expr_labels e rest)
  expr_fits (x.Assign target op value) over rest o h r =
      (open_under over (is.Assign op) o tt, tt, expr_fits target (is.Assign op) (expr_labels value none) tt h.2 (expr_fits value (is.Assign op) none tt h.4 tt), r)
  expr_fits (x.Cond c a b) over rest o h r = (
    open_under over is.Conditional o tt,
    tt,
    expr_fits c is.Conditional (expr_labels a (expr_labels b none)) tt h.1
        (expr_fits a is.Conditional (expr_labels b none) tt h.3 (expr_fits b is.Conditional none tt h.5 tt)),
    r,
  )
  expr_fits (x.Binary left op right) over rest o h r =
      (open_under over (is.Binary op) o tt, tt, expr_fits left (is.Binary op) (expr_labels right none) tt h.2 (expr_fits right (is.Binary op) none tt h.4 tt), r)
  expr_fits (x.IsA value ty) over rest o h r =
      (open_under over is.IsA o tt, tt, expr_fits value is.IsA (type_labels ty none) tt h.1 (type_fits ty is.IsA none tt h.2 tt), r)
  expr_fits (x.Unary op value) over rest o h r = (open_under over (is.Unary op) o tt, tt, expr_fits value (is.Unary op) none tt h.3 tt, r)
  expr_fits (x.Cast ty value) over rest o h r =
      (open_under over is.Cast o tt, tt, type_fits ty is.Cast (expr_labels value none) tt h.0 (expr_fits value is.Cast none tt h.3 tt), r)
  expr_fits (x.PreStep op value) over rest o h r = (open_under over (is.PreStep op) o tt, tt, expr_fits value (is.PreStep op) none tt h.2 tt, r)
  expr_fits (x.PostStep value op) over rest o h r = (open_under over (is.PostStep op) o tt, tt, expr_fits value (is.PostStep op) none tt h.2 tt, r)
  expr_fits (x.Lit token) over rest o h r = (open_under over (is.Literal token) o tt, tt, tt, r)
  expr_fits (x.This None) over rest o h r = (open_under over (is.This false) o tt, tt, tt, r)
  expr_fits (x.This (Some class)) over rest o h r =
      (open_under over (is.This true) o tt, type_name_first class none h, type_name_fits class (is.This true) none tt tt, r)
  expr_fits (x.Paren inner) over rest o h r = (open_under over is.Paren o tt, tt, expr_fits inner is.Paren none tt h.1 tt, r)
  expr_fits (x.NameExpr name) over rest o h r =
      name_fits kind.Variable place.Expression name over rest (λ b. open_under over (is.Name kind.Variable place.Expression b) o tt) r
  expr_fits (x.Select object name) over rest o h r = (open_under over is.Select o tt, tt, expr_fits object is.Select none tt h.1 tt, r)
  expr_fits (x.SuperSelect name) over rest o h r = (open_under over is.SuperSelect o tt, tt, tt, r)
  expr_fits (x.Index array at) over rest o h r =
      (open_under over is.Index o tt, tt, expr_fits array is.Index (expr_labels at none) tt h.1 (expr_fits at is.Index none tt h.3 tt), r)
  expr_fits (x.Call x.no_receiver name args) over rest o h r = (open_under over (is.Call on.Absent) o tt, tt, exprs_fits args (is.Call on.Absent) none tt h.1 tt, r)
  expr_fits (x.Call (x.a_receiver (x.Of object)) name args) over rest o h r =
      (open_under over (is.Call on.Expression) o tt, tt, expr_fits object (is.Call on.Expression) (exprs_labels args none) tt h.0.1 (exprs_fits args (is.Call on.Expression) none tt h.1 tt), r)
  expr_fits (x.Call (x.a_receiver (x.OfName before)) name args) over rest o h r =
      (open_under over (is.Call on.Name) o tt, tt, name_fits kind.Ambiguous place.Receiver before (is.Call on.Name) (exprs_labels args none) (λ b. tt) (exprs_fits args (is.Call on.Name) none tt h.1 tt), r)
  expr_fits (x.Call (x.a_receiver x.Super) name args) over rest o h r = (open_under over (is.Call on.Super) o tt, tt, exprs_fits args (is.Call on.Super) none tt h.1 tt, r)
  expr_fits (x.New class args) over rest o h r =
      (open_under over is.New o tt, type_name_first class (exprs_labels args none) h.0, type_name_fits class is.New (exprs_labels args none) tt (exprs_fits args is.New none tt h.1 tt), r)
  expr_fits (x.NewArray base lengths extra x.no_list) over rest o h r = (
    open_under over (is.NewArray (primitive_of base) (count lengths) extra) o tt,
    array_starts base (count lengths) extra (exprs_labels lengths none) h.0,
    base_fits base (is.NewArray (primitive_of base) (count lengths) extra) (exprs_labels lengths none) tt
        (exprs_fits lengths (is.NewArray (primitive_of base) (count lengths) extra) none tt h.1 tt),
    r,
  )
  expr_fits (x.NewArray base lengths extra (x.a_list list)) over rest o h r = (
    open_under over (is.NewArray (primitive_of base) (count lengths) extra) o tt,
    array_starts base (count lengths) extra (exprs_labels lengths (list_labels list none)) h.0,
    base_fits base (is.NewArray (primitive_of base) (count lengths) extra) (exprs_labels lengths (list_labels list none)) tt
        (exprs_fits lengths (is.NewArray (primitive_of base) (count lengths) extra) (list_labels list none) tt h.1
        (list_fits list (is.NewArray (primitive_of base) (count lengths) extra) none tt h.3 tt)),
    r,
  )

  pub exprs_fits : (e : x.Exprs) (over : Label) (rest : Forest) → IsOpen over → AreShapedExprs e → Fits over rest → Fits over (exprs_labels e rest)
  exprs_fits x.no_exprs over rest o h r = r
  exprs_fits (x.more_exprs e all) over rest o h r = expr_fits e over (exprs_labels all rest) o h.1 (exprs_fits all over rest o h.2 r)

  pub list_fits : (e : x.InitList) (over : Label) (rest : Forest) → IsOpen over → IsShapedList e → Fits over rest → Fits over (list_labels e rest)
  list_fits (x.ListOf all is_open_ended) over rest o h r = (open_under over is.List o tt, tt, inits_fits all is.List none tt h tt, r)

  pub init_fits : (e : x.Init) (over : Label) (rest : Forest) → IsOpen over → IsShapedInit e → Fits over rest → Fits over (init_labels e rest)
  init_fits (x.Value value) over rest o h r = (open_under over is.Value o tt, tt, expr_fits value is.Value none tt h.1 tt, r)
  init_fits (x.Listed list) over rest o h r = list_fits list over rest o h r

  pub inits_fits : (e : x.Inits) (over : Label) (rest : Forest) → IsOpen over → AreShapedInits e → Fits over rest → Fits over (inits_labels e rest)
  inits_fits x.no_inits over rest o h r = r
  inits_fits (x.more_inits i all) over rest o h r = init_fits i over (inits_labels all rest) o h.0 (inits_fits all over rest o h.1 r)
