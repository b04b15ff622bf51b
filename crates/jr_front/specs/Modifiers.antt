-- Modifiers that are repeated or not allowed (JLS 8.1.1, 8.3.1, 8.4.3, 8.5.1, 8.8.3, 9.1.1, 9.3, 9.4, 9.5).
use Rattle.std.specs.Prelude.{◌≡◌, ◌⊎◌, ℕ, Bool, true, false, not, ◌&&◌, ◌||◌, IsTrue, List, [], ◌∷◌, Option, Some, None, length, drop}
use Rattle.std.specs.List.{Contains}
use Rattle.jr_base.specs.declared.kind.Keyword.TheVariants as word
use Rattle.jr_base.specs.declared.kind.Kind.{Kind}
use Rattle.jr_base.specs.declared.kind.Kind.TheVariants as kind
use Rattle.jr_base.specs.declared.token.Token.{Token}
use Rattle.jr_tree.specs.declared.label.Modifiers.{Modifiers}
use Rattle.jr_tree.specs.declared.label.Role.{Role}
use Rattle.jr_tree.specs.declared.label.Role.TheVariants as role
use Rattle.jr_tree.specs.declared.tree.Modifier.{Modifier}
use Rattle.jr_tree.specs.declared.tree.Modifier.TheVariants as modifier
use Rattle.jr_tree.specs.Decls.{modifiers_of, with_modifier}
use Rattle.jr_tree.specs.Rows.{Rows, label, parent, role_at}
use Rattle.jr_defs.specs.Declarations.{IsType, IsClass}
use Rattle.jr_defs.specs.Enclosing.{IsTopLevel}
use Rattle.jr_defs.specs.Modifiers.{written, InInterface}
use Rattle.jr_plain.specs.Declarations.{is_type, is_class}
use Rattle.jr_plain.specs.Enclosing.{is_top_level}
use Rattle.jr_plain.specs.Modifiers.{is_in_interface}
use Rattle.jr_plain.specs.Same.{same_role}
use Rattle.jr_plain.specs.Search.{all_such}
use Rattle.jr_marks.specs.Places.{mark_of, tokens_of, unit_of}
use Rattle.jr_marks.specs.declared.marks.Marks.{Marks}

-- ---- what a declaration may have

-- types, fields, methods and constructors are declared with modifiers
abbrev pub HasModifiers : Role → Type 0
HasModifiers role.Type = Unit {0}
HasModifiers role.Field = Unit {0}
HasModifiers role.Method = Unit {0}
HasModifiers role.Constructor = Unit {0}
HasModifiers _ = ⊥

abbrev pub has_modifier : Modifiers → Modifier → Bool
has_modifier all modifier.Public = all.is_public
has_modifier all modifier.Protected = all.is_protected
has_modifier all modifier.Private = all.is_private
has_modifier all modifier.Abstract = all.is_abstract
has_modifier all modifier.Static = all.is_static
has_modifier all modifier.Final = all.is_final
has_modifier all modifier.Native = all.is_native

-- the declaration is written with the modifier
abbrev pub Has : Rows → ℕ → Modifier → Type 0
Has p d m = IsTrue (has_modifier (written (label p d)) m)

-- it stands neither outside all types nor in an interface: it is a member of a class, or a constructor
abbrev pub IsOfClass : Rows → ℕ → Type 0
IsOfClass p d = (IsTopLevel p d → ⊥) × (InInterface p d → ⊥)

-- a method that no interface declares
abbrev pub IsMethodOfClass : Rows → ℕ → Type 0
IsMethodOfClass p d = (role_at p d ≡ role.Method) × (InInterface p d → ⊥)

-- the declaration may have the modifier, by what it is and where it stands
pub data MayHave (p : Rows) (d : ℕ) : Modifier → Type 0 where
  -- access: outside types and in interfaces nothing is protected or private (JLS 6.6, 7.6, 8.1.1, 8.3.1, 8.4.3, 8.8.3, 9.1.1, 9.3, 9.4, 9.5)
  public : MayHave p d modifier.Public
  protected : IsOfClass p d → MayHave p d modifier.Protected
  private : IsOfClass p d → MayHave p d modifier.Private
  -- types and methods may be abstract (JLS 8.1.1.1, 8.4.3.1, 9.1.1.1, 9.4)
  abstract_type : IsType p d → MayHave p d modifier.Abstract
  abstract_method : role_at p d ≡ role.Method → MayHave p d modifier.Abstract
  -- member types, fields, and methods of classes may be static (JLS 8.3.1.1, 8.4.3.2, 8.5.1, 8.5.2, 9.3, 9.5)
  static_type : IsType p d → (IsTopLevel p d → ⊥) → MayHave p d modifier.Static
  static_field : role_at p d ≡ role.Field → MayHave p d modifier.Static
  static_method : IsMethodOfClass p d → MayHave p d modifier.Static
  -- classes, fields, and methods of classes may be final (JLS 8.1.1.2, 8.3.1.2, 8.4.3.3, 9.3)
  final_class : IsClass p d → MayHave p d modifier.Final
  final_field : role_at p d ≡ role.Field → MayHave p d modifier.Final
  final_method : IsMethodOfClass p d → MayHave p d modifier.Final
  -- methods of classes may be native (JLS 8.4.3.4)
  native_method : IsMethodOfClass p d → MayHave p d modifier.Native

-- the modifiers exclude each other at the declaration
pub data Exclude (p : Rows) (d : ℕ) : Modifier → Modifier → Type 0 where
  -- one access at most (JLS 8.1.1, 8.3.1, 8.4.3, 8.8.3)
  public_protected : Exclude p d modifier.Public modifier.Protected
  public_private : Exclude p d modifier.Public modifier.Private
  protected_private : Exclude p d modifier.Protected modifier.Private
  -- what is abstract is not final, and an abstract method not private, static or native (JLS 8.1.1.2, 8.4.3)
  abstract_final : Exclude p d modifier.Abstract modifier.Final
  abstract_private : role_at p d ≡ role.Method → Exclude p d modifier.Abstract modifier.Private
  abstract_static : role_at p d ≡ role.Method → Exclude p d modifier.Abstract modifier.Static
  abstract_native : role_at p d ≡ role.Method → Exclude p d modifier.Abstract modifier.Native

-- the declaration has a modifier that it may not have, or two that exclude each other
pub data HasWrongModifier (p : Rows) (d : ℕ) : Type 0 where
  not_allowed : (m : Modifier) → Has p d m → (MayHave p d m → ⊥) → HasWrongModifier p d
  excluded : (m k : Modifier) → Has p d m → Has p d k → Exclude p d m k → HasWrongModifier p d

-- ---- the modifiers that stand before a declaration

abbrev pub modifier_in : Kind → Option Modifier
modifier_in (kind.Word word.Public) = Some modifier.Public
modifier_in (kind.Word word.Protected) = Some modifier.Protected
modifier_in (kind.Word word.Private) = Some modifier.Private
modifier_in (kind.Word word.Abstract) = Some modifier.Abstract
modifier_in (kind.Word word.Static) = Some modifier.Static
modifier_in (kind.Word word.Final) = Some modifier.Final
modifier_in (kind.Word word.Native) = Some modifier.Native
modifier_in _ = None

abbrev pub before : Option Modifier → List Modifier → List Modifier
before None more = []
before (Some m) more = m ∷ more

-- the modifiers from a token on, up to the first token that is none
abbrev pub leading : List Token → List Modifier
leading [] = []
leading (token ∷ more) = before (modifier_in token.kind) (leading more)

-- the row that begins with the modifiers: fields that are declared together have them together (JLS 8.3)
abbrev pub first_row : Role → Rows → ℕ → ℕ
first_row role.Field p d = parent p d
first_row _ p d = d

abbrev pub standing_before : Marks → ℕ → List Modifier
standing_before m d = leading (drop (mark_of m (first_row (role_at m.rows.now d) m.rows.now d)).first (tokens_of m (unit_of m d)))

pub data IsTwice (m : Modifier) : List Modifier → Type 0 where
  here : {more : List Modifier} → Contains more m → IsTwice m (m ∷ more)
  behind : {other : Modifier} {more : List Modifier} → IsTwice m more → IsTwice m (other ∷ more)

-- a modifier stands twice before the declaration (JLS 8.1.1, 8.3.1, 8.4.3, 8.8.3, 9.1.1, 9.3, 9.4)
pub record RepeatsModifier (m : Marks) (d : ℕ) : Type 0 where
  pub repeated : Modifier
  pub twice : IsTwice repeated (standing_before m d)

-- ---- the rule

pub record BreaksModifiers (m : Marks) (d : ℕ) : Type 0 where
  pub modified : HasModifiers (role_at m.rows.now d)
  pub wrong : HasWrongModifier m.rows.now d ⊎ RepeatsModifier m d

-- the same by its number: 1
pub data BreaksMarked (m : Marks) : ℕ → ℕ → Type 0 where
  modifiers : {d : ℕ} → BreaksModifiers m d → BreaksMarked m 1 d

-- ---- the same, computed

abbrev pub has_modifiers : Role → Bool
has_modifiers role.Type = true
has_modifiers role.Field = true
has_modifiers role.Method = true
has_modifiers role.Constructor = true
has_modifiers _ = false

abbrev pub is_of_class : Rows → ℕ → Bool
is_of_class p d = not (is_top_level p d) && not (is_in_interface p d)

abbrev pub is_method : Rows → ℕ → Bool
is_method p d = same_role (role_at p d) role.Method

abbrev pub is_method_of_class : Rows → ℕ → Bool
is_method_of_class p d = is_method p d && not (is_in_interface p d)

abbrev pub is_field : Rows → ℕ → Bool
is_field p d = same_role (role_at p d) role.Field

abbrev pub may_be_abstract : Rows → ℕ → Bool
may_be_abstract p d = is_type p d || is_method p d

abbrev pub may_be_static : Rows → ℕ → Bool
may_be_static p d = (is_type p d && not (is_top_level p d)) || is_field p d || is_method_of_class p d

abbrev pub may_be_final : Rows → ℕ → Bool
may_be_final p d = is_class p d || is_field p d || is_method_of_class p d

abbrev pub has_forbidden : Rows → ℕ → Modifiers → Bool
has_forbidden p d all = ((all.is_protected || all.is_private) && not (is_of_class p d)) || (all.is_abstract && not (may_be_abstract p d)) || (all.is_static && not (may_be_static p d))
    || (all.is_final && not (may_be_final p d)) || (all.is_native && not (is_method_of_class p d))

abbrev pub has_two_accesses : Modifiers → Bool
has_two_accesses all = (all.is_public && (all.is_protected || all.is_private)) || (all.is_protected && all.is_private)

abbrev pub has_excluded : Rows → ℕ → Modifiers → Bool
has_excluded p d all = has_two_accesses all || (all.is_abstract && (all.is_final || (is_method p d && (all.is_private || all.is_static || all.is_native))))

abbrev pub has_wrong_modifier : Rows → ℕ → Bool
has_wrong_modifier p d = has_forbidden p d (written (label p d)) || has_excluded p d (written (label p d))

-- one of these is among those that were seen, or stands twice
abbrev pub repeats : Modifiers → List Modifier → Bool
repeats seen [] = false
repeats seen (m ∷ more) = has_modifier seen m || repeats (with_modifier m seen) more

abbrev pub repeats_modifier : Marks → ℕ → Bool
repeats_modifier m d = repeats (modifiers_of []) (standing_before m d)

abbrev pub breaks_modifiers : Marks → ℕ → Bool
breaks_modifiers m d = has_modifiers (role_at m.rows.now d) && (has_wrong_modifier m.rows.now d || repeats_modifier m d)

-- the rows at which the rule is broken, as they rise
abbrev pub modifier_rows : Marks → List ℕ
modifier_rows m = all_such (length m.rows.now) (breaks_modifiers m)
