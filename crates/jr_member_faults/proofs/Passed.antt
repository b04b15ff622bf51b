-- Rows at which no rule on members is broken: they declare no member, type or constructor, are no initializer, and stand in no header.
use Rattle.std.proofs.Common.{◌≡◌, refl, sym, ◌∙◌, ap, ap₂, add-one, ℕ, ◌+◌, ◌<◌, Bool, false, cond, not, ◌&&◌, ◌||◌, List, ◌++◌, append-nil, length, Option, Some, None, is_some, nat_eq, nat_lt}
use Rattle.std.specs.Prelude.{bytes_eq}
use Rattle.std.specs.Option.{option_map_or}
use Rattle.std.proofs.lemmas.Bool.{false≢true, or_parts}
use Rattle.jr_tree.specs.declared.label.Label.{Label}
use Rattle.jr_tree.specs.declared.label.Label.TheVariants as is
use Rattle.jr_tree.specs.declared.label.Role.{Role}
use Rattle.jr_tree.specs.declared.label.Role.TheVariants as role
use Rattle.jr_tree.specs.Labels.{role_of}
use Rattle.jr_tree.specs.Rows.{Rows, label, name, parent, role_at}
use Rattle.jr_defs.specs.Enclosing.{holder}
use Rattle.jr_defs.specs.MemberRules.{has_body}
use Rattle.jr_defs.specs.Referents.{Table}
use Rattle.jr_plain.specs.Conversions.{Constants}
use Rattle.jr_plain.specs.Constants.{variable_value}
use Rattle.jr_plain.specs.Search.{any_below}
use Rattle.jr_plain.specs.Same.{same_role}
use Rattle.jr_plain.specs.Types.{parameters, are_same_types, is_same_signature}
use Rattle.jr_plain.specs.Declarations.{is_class, is_interface}
use Rattle.jr_plain.specs.Enclosing.{is_member_role, is_body_of, declaring_type, is_constructor_of, constructed_class}
use Rattle.jr_plain.specs.Modifiers.{is_abstract, is_static, is_inner, is_in_interface}
use Rattle.jr_places.specs.declared.chains.Entry.{Entry}
use Rattle.jr_supers.specs.declared.supers.HeaderPlace.{HeaderPlace}
use Rattle.jr_supers.specs.declared.signatures.Signatures.{Signatures}
use Rattle.jr_supers.specs.Direct.{header_place}
use Rattle.jr_supers.specs.Tabled.{declared}
use Rattle.jr_members.specs.declared.members.World.{World}
use Rattle.jr_members.specs.Keys.{entry_list, entries_of}
use Rattle.jr_name_rules.specs.Found.{found, is_same_name}
use Rattle.jr_name_rules.specs.DeclarationTests.{is_before_in_body, is_second_field, is_second_method, is_second_constructor, is_inside}
use Rattle.jr_name_rules.specs.HeaderTests.{has_wrong_supertype}
use Rattle.jr_member_rules.specs.Bodies.{is_native, has_wrong_body, is_constructor_label, is_named_otherwise, is_abstract_in_class, is_constructor_in_interface, is_initializer, is_initializer_in_interface, is_not_initialized, body_type, stands_wrong}
use Rattle.jr_member_rules.specs.Inner.{is_static_initializer, is_static_there}
use Rattle.jr_member_faults.specs.declared.twice.Declared as code
use Rattle.jr_member_faults.specs.Faults.{declares, is_of_members, has_member_type_clash}
use Rattle.jr_member_faults.specs.Headers.{entry_by, superinterface_entry, AreHeadersTo, is_wrong}
use Rattle.jr_member_faults.specs.Twice.{member_entry, entry_as, AreDeclaredTo}
use Rattle.jr_member_faults.specs.Views.{rows_of, table_of}
use Rattle.jr_member_faults.proofs.Headed.{wrong_told}
use Rattle.jr_member_faults.proofs.Constructed.{constructors_past}

-- ---- what is not there

no_field : (r : Role) → declares r ≡ false → same_role r role.Field ≡ false
no_field role.Field e = e
no_field role.Nothing e = refl
no_field role.Type e = refl
no_field role.Method e = refl
no_field role.Constructor e = refl
no_field role.Parameter e = refl
no_field role.Local e = refl
no_field role.Label e = refl

pub no_method : (r : Role) → declares r ≡ false → same_role r role.Method ≡ false
no_method role.Method e = e
no_method role.Nothing e = refl
no_method role.Type e = refl
no_method role.Field e = refl
no_method role.Constructor e = refl
no_method role.Parameter e = refl
no_method role.Local e = refl
no_method role.Label e = refl

no_constructor : (r : Role) → declares r ≡ false → same_role r role.Constructor ≡ false
no_constructor role.Constructor e = e
no_constructor role.Nothing e = refl
no_constructor role.Type e = refl
no_constructor role.Field e = refl
no_constructor role.Method e = refl
no_constructor role.Parameter e = refl
no_constructor role.Local e = refl
no_constructor role.Label e = refl

pub no_type : (r : Role) → declares r ≡ false → same_role r role.Type ≡ false
no_type role.Type e = e
no_type role.Nothing e = refl
no_type role.Field e = refl
no_type role.Method e = refl
no_type role.Constructor e = refl
no_type role.Parameter e = refl
no_type role.Local e = refl
no_type role.Label e = refl

no_member : (r : Role) → declares r ≡ false → is_member_role r ≡ false
no_member role.Nothing e = refl
no_member role.Type e = e
no_member role.Field e = e
no_member role.Method e = e
no_member role.Constructor e = refl
no_member role.Parameter e = refl
no_member role.Local e = refl
no_member role.Label e = refl

no_written : (l : Label) → declares (role_of l) ≡ false → is_constructor_label l ≡ false
no_written (is.Constructor modifiers) e = e
no_written _ e = refl

no_static : (l : Label) → is_initializer l ≡ false → is_static_initializer l ≡ false
no_static (is.Initializer is_static) e = absurd (false≢true (sym e))
no_static _ e = refl

no_place : (o : Option HeaderPlace) → is_some o ≡ false → o ≡ None
no_place None e = refl
no_place (Some a) e = absurd (false≢true (sym e))

or_false : {a b : Bool} → a ≡ false → b ≡ false → (a || b) ≡ false
or_false a b = ap₂ (λ x y. x || y) a b

module _ (p : Rows) (n : ℕ) (none : is_of_members p n ≡ false) where
  role_none : declares (role_at p n) ≡ false
  role_none = (or_parts _ _ none).0

  initializer_none : is_initializer (label p n) ≡ false
  initializer_none = (or_parts _ _ (or_parts _ _ none).1).0

  place_none : header_place (label p n) ≡ None
  place_none = no_place (header_place (label p n)) (or_parts _ _ (or_parts _ _ none).1).1

  -- ---- bodies

  class_none : constructed_class p n ≡ None
  class_none = ap (λ b. cond (b && is_body_of p (parent p (parent p n)) (parent p n)) (Some (parent p (parent p n))) None) (no_constructor (role_at p n) role_none)

  type_none : declaring_type p n ≡ None
  type_none = ap (λ b. cond (b && is_body_of p (parent p (holder (role_at p n) p n)) (holder (role_at p n) p n)) (Some (parent p (holder (role_at p n) p n))) None) (no_member (role_at p n) role_none)

  method_none : same_role (role_at p n) role.Method ≡ false
  method_none = no_method (role_at p n) role_none

  pub bodies_none : stands_wrong p n ≡ false
  bodies_none = or_false wrong (or_false named (or_false abstract (or_false constructor (or_false initializer field))))
    where
      wrong : has_wrong_body p n ≡ false
      wrong = ap (λ b. b && (((is_abstract p n || is_native p n) && has_body (label p n)) || ((not (is_abstract p n) && not (is_native p n)) && not (has_body (label p n))))) method_none

      named : is_named_otherwise p n ≡ false
      named = ap (λ b. b && option_map_or (λ c. not (bytes_eq (name p n) (name p c))) (constructed_class p n) false) (no_written (label p n) role_none)

      abstract : is_abstract_in_class p n ≡ false
      abstract = ap (λ b. b && is_abstract p n && option_map_or (λ c. is_class p c && not (is_abstract p c)) (declaring_type p n) false) method_none

      constructor : is_constructor_in_interface p n ≡ false
      constructor = ap (λ o. option_map_or (is_interface p) o false) class_none

      initializer : is_initializer_in_interface p n ≡ false
      initializer = ap (λ b. b && option_map_or (is_interface p) (body_type p n) false) initializer_none

      field : is_not_initialized p n ≡ false
      field = ap (λ b. b && is_in_interface p n && not (nat_eq (parent p (n + 1)) n)) (no_field (role_at p n) role_none)

  -- ---- inner classes

  pub statics_none : (t : Table) (values : Constants) → is_static_there p t values n ≡ false
  statics_none t values = or_false
      (ap (λ o. option_map_or (is_inner p) o false && is_static p n && not (is_some (variable_value p t values n))) type_none)
      (ap (λ b. b && option_map_or (is_inner p) (body_type p n) false) (no_static (label p n) initializer_none))

  -- ---- what is declared twice

  pub fields_none : is_second_field p n ≡ false
  fields_none = ap (λ b. b && any_below (length p) (λ d. is_before_in_body p role.Field d n && is_same_name p d n)) (no_field (role_at p n) role_none)

  pub methods_none : (t : Table) → is_second_method p t n ≡ false
  methods_none t = ap (λ b. b && any_below (length p) (λ d. is_before_in_body p role.Method d n && is_same_signature p t d n)) method_none

  pub constructors_none : (t : Table) → is_second_constructor p t n ≡ false
  constructors_none t = ap (λ b. b && any_below (length p) (λ d. found (constructed_class p d) (λ c. is_constructor_of p c n) && nat_lt d n && are_same_types (parameters p t d) (parameters p t n))) (no_constructor (role_at p n) role_none)

  pub types_none : has_member_type_clash p n ≡ false
  types_none = ap (λ b. (b && any_below (length p) (λ d. is_before_in_body p role.Type d n && is_same_name p d n)) || (b && is_inside p (name p n) (length p) n)) (no_type (role_at p n) role_none)

  -- ---- headers

  pub supertypes_none : (t : Table) → n < length p → has_wrong_supertype p t n ≡ false
  supertypes_none t lt = sym (wrong_told p t (entries_of (superinterface_entry p t) n) n lt refl) ∙ ap (λ o. is_wrong p (entries_of (superinterface_entry p t) n) n o (declared (t n))) place_none

  -- ---- the tables

  pub headers_past : (t : Table) (all : List Entry) → AreHeadersTo p t n all → AreHeadersTo p t (n + 1) all
  headers_past t all h = h ∙ sym (append-nil (entries_of (superinterface_entry p t) n)) ∙ ap (λ o. entries_of (superinterface_entry p t) n ++ entry_list (entry_by p n o (declared (t n)))) (sym place_none)
      ∙ ap (entries_of (superinterface_entry p t)) (sym (add-one n))

  entries_past : (kind : Role) (s : Signatures) (all : List Entry) → same_role (role_at p n) kind ≡ false → all ≡ entries_of (entry_as p kind s) n → all ≡ entries_of (entry_as p kind s) (n + 1)
  entries_past kind s all apart h = h ∙ sym (append-nil (entries_of (entry_as p kind s) n)) ∙ ap (λ b. entries_of (entry_as p kind s) n ++ entry_list (cond b (member_entry p s n) None)) (sym apart)
      ∙ ap (entries_of (entry_as p kind s)) (sym (add-one n))

pub declared_past : (w : World) (n : ℕ) (declared : code.Declared) → is_of_members (rows_of w) n ≡ false → AreDeclaredTo w n declared → AreDeclaredTo w (n + 1) declared
declared_past w n declared none h = record {
  types = λ named. entries_past (rows_of w) n none role.Type w.members.now.callables.signatures declared.types (no_type (role_at (rows_of w) n) (role_none (rows_of w) n none)) (h.types named);
  fields = λ named. entries_past (rows_of w) n none role.Field w.members.now.callables.signatures declared.fields (no_field (role_at (rows_of w) n) (role_none (rows_of w) n none)) (h.fields named);
  methods = λ named. entries_past (rows_of w) n none role.Method w.members.now.callables.signatures declared.methods (method_none (rows_of w) n none) (h.methods named);
  constructors = λ signed. constructors_past (rows_of w) (table_of w) n declared.lists declared.constructors (h.constructors signed) (no_constructor (role_at (rows_of w) n) (role_none (rows_of w) n none));
}
