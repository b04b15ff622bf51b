-- When a way to write a reference fits: it finds what the reference must refer to, on the same object, accessible, and constant as before (JLS 6.5, 6.6, 8.3, 8.4, 15.28).
use Rattle.std.specs.Prelude.{◌≡◌, ◌⊎◌, ℕ, zero, suc, Bool, true, false, not, ◌&&◌, ◌||◌, if◌then◌else◌, List, [], ◌∷◌, length, Option, Some, None, nat_eq, Decides}
use Rattle.std.specs.Option.{option_map_or}
use Rattle.jr_base.specs.declared.constant.Const.{Const}
use Rattle.jr_tree.specs.declared.label.Role.TheVariants as role
use Rattle.jr_tree.specs.Rows.{Rows, name, role_at}
use Rattle.jr_defs.specs.declared.referent.Element.{Element}
use Rattle.jr_defs.specs.declared.referent.Element.TheVariants as element
use Rattle.jr_defs.specs.declared.referent.Referent.{Referent}
use Rattle.jr_defs.specs.declared.referent.RowType.{RowType}
use Rattle.jr_defs.specs.Referents.{Table}
use Rattle.jr_defs.specs.Types.{class_type}
use Rattle.jr_defs.specs.Modifiers.{IsStatic}
use Rattle.jr_defs.specs.Access.{IsAccessible}
use Rattle.jr_defs.specs.Constants.{ConstantVariable, HasConstantForm}
use Rattle.jr_plain.specs.Access.{is_accessible}
use Rattle.jr_plain.specs.Declarations.{is_object}
use Rattle.jr_plain.specs.Modifiers.{is_static}
use Rattle.jr_plain.specs.Same.{same_level, same_referent, same_role}
use Rattle.jr_plain.specs.Search.{first_below}
use Rattle.jr_shapes.specs.Names.{named_by}
use Rattle.jr_with.specs.World.{Left, world_of}
use Rattle.jr_with.specs.With.{look_with}
use Rattle.jr_spelling_rules.specs.Candidates.{Candidate, target, level_of}

-- ---- what is asked of what is found

-- it is the declaration that the lock names, through any level, or what the lock is
pub record IsLock (lock found : Referent) : Type 0 where
  pub declaration : (d : ℕ) → target lock ≡ Some d → target found ≡ Some d
  pub other : target lock ≡ None → found ≡ lock

abbrev pub is_lock : Referent → Referent → Bool
is_lock lock found = elim (target lock) [ Some d ↦ option_map_or (λ e. nat_eq e d) (target found) false | None ↦ same_referent found lock ]

-- a member that is not static is one of an object, and a constructor of an inner class takes the object round it (JLS 8.3.1.1, 8.4.3.2, 15.9.2)
abbrev pub HasObject : Rows → ℕ → Type 0
HasObject p d = (role_at p d ≡ role.Constructor) ⊎ (IsStatic p d → ⊥)

abbrev pub has_object : Rows → ℕ → Bool
has_object p d = same_role (role_at p d) role.Constructor || not (is_static p d)

-- where the lock has a level, it is reached through an object of that level
abbrev pub IsSameObject : Rows → Referent → Option ℕ → Type 0
IsSameObject p lock through = (l d : ℕ) → level_of lock ≡ Some l → target lock ≡ Some d → HasObject p d → through ≡ Some l

abbrev pub is_same_object : Rows → Referent → Option ℕ → Bool
is_same_object p lock through = elim (level_of lock) [
  | Some l ↦ same_level through (Some l) || not (option_map_or (has_object p) (target lock) false)
  | None ↦ true
]

-- the declaration is accessible at the place, through a receiver of this type where there is one (JLS 6.6)
abbrev pub IsReached : Rows → Table → ℕ → Option RowType → Type 0
IsReached p t n receiver = (d : ℕ) → target (t n) ≡ Some d → IsAccessible p t d n receiver

abbrev pub is_reached : Rows → Table → ℕ → Option RowType → Bool
is_reached p t n receiver = option_map_or (λ d. is_accessible p t d n receiver) (target (t n)) true

-- it is a constant expression: by its form, and since it names a constant variable (JLS 15.28)
pub record IsConstant (p : Rows) (t : Table) (lock : Referent) (form : Bool) : Type 0 where
  pub of_form : form ≡ true
  pub variable : ℕ
  pub names : target lock ≡ Some variable
  pub value : Const
  pub is : ConstantVariable p t (HasConstantForm p t) variable value

-- where this tells which variables are constant
abbrev pub is_constant : (ℕ → Bool) → Referent → Bool → Bool
is_constant variable lock form = form && option_map_or variable (target lock) false

-- ---- fitting

-- what is found so, through a receiver of this type, on the object of this level, in such a form
pub record FitsSo (p : Rows) (t : Table) (was_constant : ℕ → Bool) (n : ℕ) (found : Referent) (receiver : Option RowType) (through : Option ℕ) (form : Bool) : Type 0 where
  pub lock : IsLock (t n) found
  pub object : IsSameObject p (t n) through
  pub reached : IsReached p t n receiver
  pub constant : Decides (was_constant n) (IsConstant p t (t n) form)

abbrev pub same_truth : Bool → Bool → Bool
same_truth true b = b
same_truth false b = not b

abbrev pub fits_so : Rows → Table → (ℕ → Bool) → (ℕ → Bool) → ℕ → Referent → Option RowType → Option ℕ → Bool → Bool
fits_so p t variable was_constant n found receiver through form =
    is_lock (t n) found && (is_same_object p (t n) through && (is_reached p t n receiver && same_truth (is_constant variable (t n) form) (was_constant n)))

-- what the table of constant variables is to say
abbrev pub TellsConstants : Rows → Table → (ℕ → Bool) → Type 0
TellsConstants p t variable = (d : ℕ) → Decides (variable d) ((v : Const) × ConstantVariable p t (HasConstantForm p t) d v)

-- ---- of a candidate

-- the type of an expression before a dot through which a member is reached; an array has the members of Object (JLS 10.7)
abbrev pub receiver_by : Rows → ℕ → Element → Option RowType
receiver_by p zero (element.Class c) = Some (class_type c)
receiver_by p zero _ = None
receiver_by p (suc dims) e = elim (first_below (length p) (λ c. is_object p c)) [ Some c ↦ Some (class_type c) | None ↦ None ]

abbrev pub receiver_type : Rows → Left → Option RowType
receiver_type p l = elim l.value [ Some a ↦ receiver_by p a.dims a.element | None ↦ None ]

module _ (p : Rows) (t : Table) (n : ℕ) where
  -- what it finds: its identifier is the name that its target has now
  abbrev pub found : Candidate → Referent
  found c = look_with p (world_of p t) c.left n (name p (named_by p n (t n))) c.seeks

  -- the level of the object that it is reached through
  abbrev pub through : Candidate → Option ℕ
  through c = if c.by_object then level_of (t n) else level_of (found c)

  module _ (was_constant : ℕ → Bool) where
    abbrev pub Fits : Candidate → Type 0
    Fits c = FitsSo p t was_constant n (found c) (receiver_type p c.left) (through c) c.is_constant_form

    abbrev pub fits : (ℕ → Bool) → Candidate → Bool
    fits variable c = fits_so p t variable was_constant n (found c) (receiver_type p c.left) (through c) c.is_constant_form

-- ---- the first that fits

-- of a list the first that fits
pub data IsFirstFit (F : Candidate → Type 0) : List Candidate → Candidate → Type 0 where
  here : {c : Candidate} {rest : List Candidate} → F c → IsFirstFit F (c ∷ rest) c
  later : {c d : Candidate} {rest : List Candidate} → (F d → ⊥) → IsFirstFit F rest c → IsFirstFit F (d ∷ rest) c

-- none of a list fits
pub data HasNoFit (F : Candidate → Type 0) : List Candidate → Type 0 where
  none : HasNoFit F []
  later : {d : Candidate} {rest : List Candidate} → (F d → ⊥) → HasNoFit F rest → HasNoFit F (d ∷ rest)

-- computed
abbrev pub first_such : (Candidate → Bool) → List Candidate → Option Candidate
first_such test [] = None
first_such test (c ∷ rest) = if test c then Some c else first_such test rest
