-- In the trees of labels of shaped units the name of a superclass stands first below its type.
use Rattle.std.proofs.Common.{List, [], ◌∷◌}
use Rattle.std.specs.Prelude.{Bool, true, false, Option, Some, None}
use Rattle.std.specs.List.{AllByRecursion}
use Rattle.jr_base.specs.declared.text.Text.{Text}
use Rattle.jr_tree.specs.declared.tree.Name.{Name}
use Rattle.jr_tree.specs.declared.tree.Import.{Import}
use Rattle.jr_tree.specs.declared.tree.Import.TheVariants as import
use Rattle.jr_tree.specs.declared.tree.Unit as declared_unit
use Rattle.jr_tree.specs.Mirror.Decls as d
use Rattle.jr_tree.specs.Shape.{IsShaped}
use Rattle.jr_tree.specs.declared.label.Label.{Label}
use Rattle.jr_tree.specs.declared.label.Label.TheVariants as is
use Rattle.jr_tree.specs.declared.label.NameKind.{NameKind}
use Rattle.jr_tree.specs.declared.label.NameKind.TheVariants as kind
use Rattle.jr_tree.specs.declared.label.NamePlace.{NamePlace}
use Rattle.jr_tree.specs.declared.label.NamePlace.TheVariants as place
use Rattle.jr_tree.specs.Forest.{Forest, none, more, node, if_some, each}
use Rattle.jr_tree.specs.Exprs.{left_kind, dotted, name_labels}
use Rattle.jr_tree.specs.Decls.{has_constructor, default_constructor, member_labels, members_labels, decl_labels, package_labels, import_labels, unit_labels}
use Rattle.jr_tree.specs.Below.{IsTypeLabel, Under, Fits}
use Rattle.jr_tree.proofs.FittingStmts.{units_fit}
use Rattle.jr_defs.specs.Supertypes.{IsSuperclassLabel}

-- no root names a superclass
abbrev pub NamesNone : Forest → Type 0
NamesNone none = Unit {0}
NamesNone (more l x kids rest) = (IsSuperclassLabel l → ⊥) × NamesNone rest

-- none but the first does
abbrev pub NamesFirst : Forest → Type 0
NamesFirst none = Unit {0}
NamesFirst (more l x kids rest) = NamesNone rest

-- below each type none but the first does
abbrev pub Ordered : Forest → Type 0
Ordered none = Unit {0}
Ordered (more l x kids rest) = (IsTypeLabel l → NamesFirst kids) × Ordered kids × Ordered rest

first_of_none : (f : Forest) → NamesNone f → NamesFirst f
first_of_none none h = tt
first_of_none (more l x kids rest) h = h.1

-- ---- where no type stands

-- below such a label stands no type
abbrev IsPlain : Label → Type 0
IsPlain is.Program = ⊥
IsPlain is.Unit = ⊥
IsPlain is.Body = ⊥
IsPlain (is.Class m b) = ⊥
IsPlain (is.Interface m b) = ⊥
IsPlain _ = Unit {0}

-- the label stands below a plain one
no_type : (over l : Label) → IsPlain over → Under over l → IsTypeLabel l → ⊥
no_type over (is.Class m b) h u k = class over h u
  where
    class : (over : Label) → IsPlain over → Under over (is.Class m b) → ⊥
    class (is.Name k at q) h u = u
    class (is.Import form) h u = u
    class is.Package h u = u
    class is.Unit h u = h
    class is.Body h u = h
    class _ h u = u
no_type over (is.Interface m b) h u k = interface over h u
  where
    interface : (over : Label) → IsPlain over → Under over (is.Interface m b) → ⊥
    interface (is.Name k at q) h u = u
    interface (is.Import form) h u = u
    interface is.Package h u = u
    interface is.Unit h u = h
    interface is.Body h u = h
    interface _ h u = u
no_type over _ h u k = k

plain_below : (over l : Label) → IsPlain over → Under over l → IsPlain l
plain_below over is.Program h u = program over u
  where
    program : (over : Label) → Under over is.Program → ⊥
    program (is.Name k at q) u = u
    program (is.Import form) u = u
    program is.Package u = u
    program _ u = u
plain_below over is.Unit h u = unit over h u
  where
    unit : (over : Label) → IsPlain over → Under over is.Unit → ⊥
    unit (is.Name k at q) h u = u
    unit (is.Import form) h u = u
    unit is.Package h u = u
    unit is.Program h u = h
    unit _ h u = u
plain_below over is.Body h u = body over h u
  where
    body : (over : Label) → IsPlain over → Under over is.Body → ⊥
    body (is.Name k at q) h u = u
    body (is.Import form) h u = u
    body is.Package h u = u
    body (is.Class m b) h u = h
    body (is.Interface m b) h u = h
    body _ h u = u
plain_below over (is.Class m b) h u = no_type over (is.Class m b) h u tt
plain_below over (is.Interface m b) h u = no_type over (is.Interface m b) h u tt
plain_below over _ h u = tt

ordered_below : (over : Label) (f : Forest) → IsPlain over → Fits over f → Ordered f
ordered_below over none h fits = tt
ordered_below over (more l x kids rest) h fits =
    (λ k. absurd (no_type over l h fits.0 k), ordered_below l kids (plain_below over l h fits.0) fits.2, ordered_below over rest h fits.3)

abbrev IsPlainFirst : Forest → Type 0
IsPlainFirst none = Unit {0}
IsPlainFirst (more l x kids rest) = IsPlain l

abbrev behind_first : Forest → Forest
behind_first none = none
behind_first (more l x kids rest) = rest

plain_no_type : (l : Label) → IsPlain l → IsTypeLabel l → ⊥
plain_no_type (is.Class m b) h k = h
plain_no_type (is.Interface m b) h k = h
plain_no_type _ h k = k

-- the first label is plain
ordered_first : (f : Forest) (over : Label) → Fits over f → IsPlainFirst f → Ordered (behind_first f) → Ordered f
ordered_first none over fits h r = tt
ordered_first (more l x kids rest) over fits h r = (λ k. absurd (plain_no_type l h k), ordered_below l kids h fits.2, r)

-- ---- headers

ordered_dotted : (k : NameKind) (at : NamePlace) (parts : List Text) (b : Bool) (left rest : Forest) → Ordered left → Ordered rest → Ordered (dotted k at parts b left rest)
ordered_dotted k at [] b left rest l r = r
ordered_dotted k at (part ∷ []) b left rest l r = (λ h. absurd h, l, r)
ordered_dotted k at (part ∷ (next ∷ parts)) b left rest l r = ordered_dotted k at (next ∷ parts) true (more (is.Name (left_kind k) place.Qualifier b) part left none) rest (λ h. absurd h, l, tt) r

first_dotted : (k : NameKind) (at : NamePlace) (parts : List Text) (b : Bool) (left rest : Forest) → NamesNone rest → NamesFirst (dotted k at parts b left rest)
first_dotted k at [] b left rest r = first_of_none rest r
first_dotted k at (part ∷ []) b left rest r = r
first_dotted k at (part ∷ (next ∷ parts)) b left rest r = first_dotted k at (next ∷ parts) true (more (is.Name (left_kind k) place.Qualifier b) part left none) rest r

none_dotted : (k : NameKind) (parts : List Text) (b : Bool) (left rest : Forest) → NamesNone rest → NamesNone (dotted k place.Superinterface parts b left rest)
none_dotted k [] b left rest r = r
none_dotted k (part ∷ []) b left rest r = (λ h. h, r)
none_dotted k (part ∷ (next ∷ parts)) b left rest r = none_dotted k (next ∷ parts) true (more (is.Name (left_kind k) place.Qualifier b) part left none) rest r

none_faces : (faces : List Name) (rest : Forest) → NamesNone rest → NamesNone (each (name_labels kind.Type place.Superinterface) faces rest)
none_faces [] rest r = r
none_faces (n ∷ all) rest r = none_dotted kind.Type n.parts false none (each (name_labels kind.Type place.Superinterface) all rest) (none_faces all rest r)

ordered_faces : (faces : List Name) (rest : Forest) → Ordered rest → Ordered (each (name_labels kind.Type place.Superinterface) faces rest)
ordered_faces [] rest r = r
ordered_faces (n ∷ all) rest r =
    ordered_dotted kind.Type place.Superinterface n.parts false none (each (name_labels kind.Type place.Superinterface) all rest) tt (ordered_faces all rest r)

first_above : (above : Option Name) (rest : Forest) → NamesNone rest → NamesFirst (if_some (name_labels kind.Type place.Superclass) above rest)
first_above None rest r = first_of_none rest r
first_above (Some n) rest r = first_dotted kind.Type place.Superclass n.parts false none rest r

ordered_above : (above : Option Name) (rest : Forest) → Ordered rest → Ordered (if_some (name_labels kind.Type place.Superclass) above rest)
ordered_above None rest r = r
ordered_above (Some n) rest r = ordered_dotted kind.Type place.Superclass n.parts false none rest tt r

-- ---- what fits behind a header

fits_dotted : (k : NameKind) (at : NamePlace) (parts : List Text) (b : Bool) (left rest : Forest) (over : Label) → Fits over (dotted k at parts b left rest) → Fits over rest
fits_dotted k at [] b left rest over h = h
fits_dotted k at (part ∷ []) b left rest over h = h.3
fits_dotted k at (part ∷ (next ∷ parts)) b left rest over h = fits_dotted k at (next ∷ parts) true (more (is.Name (left_kind k) place.Qualifier b) part left none) rest over h

fits_faces : (faces : List Name) (rest : Forest) (over : Label) → Fits over (each (name_labels kind.Type place.Superinterface) faces rest) → Fits over rest
fits_faces [] rest over h = h
fits_faces (n ∷ all) rest over h =
    fits_faces all rest over (fits_dotted kind.Type place.Superinterface n.parts false none (each (name_labels kind.Type place.Superinterface) all rest) over h)

fits_above : (above : Option Name) (rest : Forest) (over : Label) → Fits over (if_some (name_labels kind.Type place.Superclass) above rest) → Fits over rest
fits_above None rest over h = h
fits_above (Some n) rest over h = fits_dotted kind.Type place.Superclass n.parts false none rest over h

fits_default : (b : Bool) (rest : Forest) (over : Label) → Fits over (default_constructor b rest) → Fits over rest
fits_default true rest over h = h
fits_default false rest over h = h.3

ordered_default : (b : Bool) (rest : Forest) → Ordered rest → Ordered (default_constructor b rest)
ordered_default true rest r = r
ordered_default false rest r = (λ h. absurd h, (λ h. absurd h, tt, tt), r)

fits_decl : (b : Bool) (t : d.TypeDecl) (rest : Forest) (over : Label) → Fits over (decl_labels b t rest) → Fits over rest
fits_decl b (d.Class mods name above faces body) rest over h = h.3
fits_decl b (d.Interface mods name faces body) rest over h = h.3
fits_decl b d.Empty rest over h = h.3

fits_member : (m : d.Member) (rest : Forest) (over : Label) → Fits over (member_labels m rest) → Fits over rest
fits_member (d.Field mods ty ds) rest over h = h.3
fits_member (d.Method mods gives name params thrown body) rest over h = h.3
fits_member (d.Constructor mods name params thrown body) rest over h = h.3
fits_member (d.Init is_static body) rest over h = h.3
fits_member (d.Nested decl) rest over h = fits_decl true decl rest over h

-- ---- declarations

mutual
  ordered_member : (m : d.Member) (rest : Forest) (over : Label) → Fits over (member_labels m rest) → Ordered rest → Ordered (member_labels m rest)
  ordered_member (d.Field mods ty ds) rest over h r = ordered_first (member_labels (d.Field mods ty ds) rest) over h tt r
  ordered_member (d.Method mods gives name params thrown body) rest over h r = ordered_first (member_labels (d.Method mods gives name params thrown body) rest) over h tt r
  ordered_member (d.Constructor mods name params thrown body) rest over h r = ordered_first (member_labels (d.Constructor mods name params thrown body) rest) over h tt r
  ordered_member (d.Init is_static body) rest over h r = ordered_first (member_labels (d.Init is_static body) rest) over h tt r
  ordered_member (d.Nested decl) rest over h r = ordered_decl true decl rest over h r

  ordered_members : (ms : d.Members) (rest : Forest) (over : Label) → Fits over (members_labels ms rest) → Ordered rest → Ordered (members_labels ms rest)
  ordered_members d.no_members rest over h r = r
  ordered_members (d.more_members m all) rest over h r =
      ordered_member m (members_labels all rest) over h (ordered_members all rest over (fits_member m (members_labels all rest) over h) r)

  ordered_decl : (b : Bool) (t : d.TypeDecl) (rest : Forest) (over : Label) → Fits over (decl_labels b t rest) → Ordered rest → Ordered (decl_labels b t rest)
  ordered_decl b (d.Class mods name above faces body) rest over h r =
      let inside = default_constructor (has_constructor body) (members_labels body none) in
      let below = each (name_labels kind.Type place.Superinterface) faces (node is.Body inside none) in
      let fits = fits_faces faces (node is.Body inside none) _ (fits_above above below _ h.2) in
      let own = ordered_default (has_constructor body) (members_labels body none) (ordered_members body none is.Body (fits_default (has_constructor body) (members_labels body none) is.Body fits.2) tt) in (
        λ k. first_above above below (none_faces faces (node is.Body inside none) (λ q. q, tt)),
        ordered_above above below (ordered_faces faces (node is.Body inside none) (λ q. absurd q, own, tt)),
        r,
      )
  ordered_decl b (d.Interface mods name faces body) rest over h r =
      let inside = members_labels body none in let fits = fits_faces faces (node is.Body inside none) _ h.2 in (
        λ k. first_of_none _ (none_faces faces (node is.Body inside none) (λ q. q, tt)),
        ordered_faces faces (node is.Body inside none) (λ q. absurd q, ordered_members body none is.Body fits.2 tt, tt),
        r,
      )
  ordered_decl b d.Empty rest over h r = (λ k. absurd k, tt, r)

-- ---- units

ordered_decls : (ts : List d.TypeDecl) (rest : Forest) (over : Label) → Fits over (each (decl_labels false) ts rest) → Ordered rest → Ordered (each (decl_labels false) ts rest)
ordered_decls [] rest over h r = r
ordered_decls (t ∷ all) rest over h r =
    ordered_decl false t (each (decl_labels false) all rest) over h (ordered_decls all rest over (fits_decl false t (each (decl_labels false) all rest) over h) r)

ordered_imports : (is : List Import) (rest : Forest) (over : Label) → Fits over (each import_labels is rest) → (Fits over rest → Ordered rest) → Ordered (each import_labels is rest)
ordered_imports [] rest over h r = r h
ordered_imports (import.Single n ∷ all) rest over h r = ordered_first (each import_labels (import.Single n ∷ all) rest) over h tt (ordered_imports all rest over h.3 r)
ordered_imports (import.OnDemand n ∷ all) rest over h r = ordered_first (each import_labels (import.OnDemand n ∷ all) rest) over h tt (ordered_imports all rest over h.3 r)
ordered_imports (import.StaticSingle n member ∷ all) rest over h r = ordered_first (each import_labels (import.StaticSingle n member ∷ all) rest) over h tt (ordered_imports all rest over h.3 r)

ordered_unit : (u : d.CompilationUnit) (rest : Forest) (over : Label) → Fits over (unit_labels u rest) → Ordered rest → Ordered (unit_labels u rest)
ordered_unit (d.UnitOf None imports types) rest over h r = (λ k. absurd k, ordered_imports imports (each (decl_labels false) types none) is.Unit h.2 (λ f. ordered_decls types none is.Unit f tt), r)
ordered_unit (d.UnitOf (Some q) imports types) rest over h r = let below = each import_labels imports (each (decl_labels false) types none) in
    (λ k. absurd k, ordered_first (package_labels q below) is.Unit h.2 tt (ordered_imports imports (each (decl_labels false) types none) is.Unit h.2.3 (λ f. ordered_decls types none is.Unit f tt)), r)

fits_unit : (u : d.CompilationUnit) (rest : Forest) (over : Label) → Fits over (unit_labels u rest) → Fits over rest
fits_unit (d.UnitOf package_decl imports types) rest over h = h.3

ordered_each : (units : List declared_unit.Unit) (over : Label) → Fits over (each (λ u. unit_labels (d.plain_unit u)) units none) → Ordered (each (λ u. unit_labels (d.plain_unit u)) units none)
ordered_each [] over h = tt
ordered_each (u ∷ all) over h = let rest = each (λ u. unit_labels (d.plain_unit u)) all none in
    ordered_unit (d.plain_unit u) rest over h (ordered_each all over (fits_unit (d.plain_unit u) rest over h))

pub units_ordered : (units : List declared_unit.Unit) → AllByRecursion IsShaped units → Ordered (each (λ u. unit_labels (d.plain_unit u)) units none)
units_ordered units shaped = ordered_each units is.Program (units_fit units shaped)
