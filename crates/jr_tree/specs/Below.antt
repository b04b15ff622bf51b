-- Which labels stand below which, in the trees of labels of shaped units.
use Rattle.std.specs.Prelude.{◌≡◌, Bool, true, false, Option, Some, None}
use Rattle.jr_tree.specs.declared.label.Label.{Label}
use Rattle.jr_tree.specs.declared.label.Label.TheVariants as is
use Rattle.jr_tree.specs.declared.label.NameKind.{NameKind}
use Rattle.jr_tree.specs.declared.label.NameKind.TheVariants as kind
use Rattle.jr_tree.specs.declared.label.NamePlace.TheVariants as place
use Rattle.jr_tree.specs.Exprs.{left_kind}
use Rattle.jr_tree.specs.Forest.{Forest, none, more}

abbrev pub IsQualifier : Label → Type 0
IsQualifier (is.Name k place.Qualifier b) = Unit {0}
IsQualifier _ = ⊥

abbrev pub IsOtherName : Label → Type 0
IsOtherName (is.Name k place.Other b) = Unit {0}
IsOtherName _ = ⊥

abbrev pub IsTypeLabel : Label → Type 0
IsTypeLabel (is.Class m b) = Unit {0}
IsTypeLabel (is.Interface m b) = Unit {0}
IsTypeLabel _ = ⊥

abbrev pub IsUnitOrBody : Label → Type 0
IsUnitOrBody is.Unit = Unit {0}
IsUnitOrBody is.Body = Unit {0}
IsUnitOrBody _ = ⊥

abbrev pub IsUnitLabel : Label → Type 0
IsUnitLabel is.Unit = Unit {0}
IsUnitLabel _ = ⊥

abbrev pub IsProgramLabel : Label → Type 0
IsProgramLabel is.Program = Unit {0}
IsProgramLabel _ = ⊥

-- what a label asks of the one over it
abbrev pub Asks : Label → Label → Type 0
Asks (is.Name k place.Superclass b) over = IsTypeLabel over × (k ≡ kind.Type)
Asks (is.Name k place.Superinterface b) over = IsTypeLabel over × (k ≡ kind.Type)
Asks (is.Name k place.Qualifier b) over = ⊥
Asks (is.Class m b) over = IsUnitOrBody over
Asks (is.Interface m b) over = IsUnitOrBody over
Asks is.Body over = IsTypeLabel over
Asks (is.Import form) over = IsUnitLabel over
Asks is.Unit over = IsProgramLabel over
Asks is.Program over = ⊥
Asks _ over = Unit {0}

-- the second label may stand right below the first: below names stand qualifiers, and below imports and packages names
abbrev pub Under : Label → Label → Type 0
Under (is.Name k at b) l = IsQualifier l
Under (is.Import form) l = IsOtherName l
Under is.Package l = IsOtherName l
Under over l = Asks l over

abbrev pub IsEmpty : Forest → Type 0
IsEmpty none = Unit {0}
IsEmpty (more l x kids rest) = ⊥

abbrev pub FirstIs : (Label → Type 0) → Forest → Type 0
FirstIs P none = ⊥
FirstIs P (more l x kids rest) = P l

-- there is one root, and it is such
abbrev pub OneIs : (Label → Type 0) → Forest → Type 0
OneIs P (more l x kids none) = P l
OneIs P _ = ⊥

-- a qualifier of this kind
abbrev pub IsQualifierOf : NameKind → Label → Type 0
IsQualifierOf k (is.Name j place.Qualifier b) = j ≡ k
IsQualifierOf k _ = ⊥

abbrev pub IsTypeName : Label → Type 0
IsTypeName (is.Name kind.Type at b) = Unit {0}
IsTypeName (is.Name kind.PackageOrType at b) = Unit {0}
IsTypeName _ = ⊥

-- what stands below a label first: below a qualified name its qualifier, below others nothing; the name of a type where one is written
abbrev pub Starts : Label → Forest → Type 0
Starts (is.Name k at true) kids = OneIs (IsQualifierOf (left_kind k)) kids
Starts (is.Name k at false) kids = IsEmpty kids
Starts (is.TypeUse None dims) kids = FirstIs IsTypeName kids
Starts is.New kids = FirstIs IsTypeName kids
Starts (is.NewArray None lengths extra) kids = FirstIs IsTypeName kids
Starts (is.This true) kids = FirstIs IsTypeName kids
Starts (is.Import form) kids = FirstIs IsTypeName kids
Starts _ kids = Unit {0}

-- each label of the forest, whose roots stand below the label over, stands and starts so
abbrev pub Fits : Label → Forest → Type 0
Fits over none = Unit {0}
Fits over (more l x kids rest) = Under over l × Starts l kids × Fits l kids × Fits over rest
