-- The faults of the rules on members, row by row, and the rules in the lists of the definitions.
use Rattle.std.proofs.Common.{◌≡◌, refl, sym, ◌∙◌, ap, subst, ℕ, ◌+◌, ◌<◌, Bool, true, false, cond, ◌&&◌, ◌||◌, List, [], ◌∷◌, ◌++◌, length, nat_eq}
use Rattle.std.proofs.lemmas.Bool.{false≢true, or_parts}
use Rattle.jr_tree.specs.declared.label.Role.{Role}
use Rattle.jr_tree.specs.declared.label.Role.TheVariants as role
use Rattle.jr_tree.specs.Rows.{Rows, role_at}
use Rattle.jr_defs.specs.Referents.{Table}
use Rattle.jr_plain.specs.Search.{has, all_such}
use Rattle.jr_plain.specs.Same.{same_role}
use Rattle.jr_plain.specs.Declarations.{is_type}
use Rattle.jr_plain.specs.Overriding.{overriding}
use Rattle.jr_plain.proofs.Same.{role_tells}
use Rattle.jr_rule.specs.declared.Fault.{Fault}
use Rattle.jr_rule.specs.declared.Rule.{Rule}
use Rattle.jr_rule.specs.declared.Rule.TheVariants as rule
use Rattle.jr_rule.specs.Faults.{AreFaultsOf}
use Rattle.jr_name_rules.specs.AccessTests.{is_not_accessible}
use Rattle.jr_name_rules.specs.Found.{is_next}
use Rattle.jr_name_rules.specs.DeclarationTests.{has_type_clash, is_second_field, is_second_method, is_second_constructor, is_second_local, is_second_label, is_inside_its_name, is_second_type, is_second_top_type, is_named_as_package}
use Rattle.jr_name_rules.specs.ImportTests.{has_import_clash, is_import_not_canonical, has_static_import_fault}
use Rattle.jr_name_rules.specs.HeaderTests.{has_wrong_supertype}
use Rattle.jr_name_rules.specs.Computed.{types, breaks}
use Rattle.jr_member_rules.specs.Bodies.{stands_wrong}
use Rattle.jr_member_rules.specs.Inner.{is_static_there}
use Rattle.jr_member_rules.specs.Redefining.{is_over_final}
use Rattle.jr_member_rules.specs.Computed.{values, leaves_methods, results_do_not_fit, access_is_narrowed, methods_are_mixed, more_is_thrown, breaks_members}
use Rattle.jr_faults.specs.Added.{row_if, is_rule, AreOnly}
use Rattle.jr_faults.proofs.Told.{none_added, none_then, then_none, only_then, row_more, rows_told, told_at}
use Rattle.jr_view.specs.declared.View.{View}
use Rattle.jr_member_faults.specs.declared.twice.Declared as declaring
use Rattle.jr_member_faults.specs.declared.headers.Headers as heading
use Rattle.jr_member_faults.specs.Views.{rows_in, table_in, IsNamedWorld, IsSignedWorld, IsRightWorld, IsValuedView}
use Rattle.jr_member_faults.specs.Faults.{is_of_members, second_rule, is_second_as, is_type_clash, has_member_type_clash, is_of_declared, is_of_methods, is_on_members, AreMemberFaultsOn, AreMemberFaults}
use Rattle.jr_member_faults.specs.Headers.{AreHeadersTo}
use Rattle.jr_member_faults.specs.Methods.{AreFaultsOn}
use Rattle.jr_member_faults.specs.Tops.{has_top_type_clash}
use Rattle.jr_member_faults.specs.Twice.{AreDeclaredTo}
use Rattle.jr_member_faults.proofs.Methodical.{methods_past}
use Rattle.jr_member_faults.proofs.Passed.{bodies_none, statics_none, fields_none, methods_none, constructors_none, types_none, supertypes_none}

-- ---- what is declared twice

apart_each : (one : Rule) → is_of_declared one ≡ false → (is_rule rule.FieldNames one ≡ false) × (is_rule rule.MethodSignatures one ≡ false) × (is_rule rule.ConstructorSignatures one ≡ false) × (is_rule rule.TypeNames one ≡ false)
apart_each one e =
    let fields = or_parts (is_rule rule.FieldNames one) (is_rule rule.MethodSignatures one || (is_rule rule.ConstructorSignatures one || is_rule rule.TypeNames one)) e in
    let methods = or_parts (is_rule rule.MethodSignatures one) (is_rule rule.ConstructorSignatures one || is_rule rule.TypeNames one) fields.1 in
    let rest = or_parts (is_rule rule.ConstructorSignatures one) (is_rule rule.TypeNames one) methods.1 in (fields.0, methods.0, rest.0, rest.1)

apart_by : (given : Role) (one : Rule) → is_of_declared one ≡ false → is_rule (second_rule given) one ≡ false
apart_by role.Field one e = (apart_each one e).0
apart_by role.Method one e = (apart_each one e).1
apart_by role.Constructor one e = (apart_each one e).2
apart_by role.Nothing one e = (apart_each one e).3
apart_by role.Type one e = (apart_each one e).3
apart_by role.Parameter one e = (apart_each one e).3
apart_by role.Local one e = (apart_each one e).3
apart_by role.Label one e = (apart_each one e).3

-- the rule of the role is one of those on what is declared twice
pub declared_only : (given : Role) (r : Rule) (old new : List Fault) → r ≡ second_rule given → AreOnly (is_rule r) old new → AreOnly is_of_declared old new
declared_only given r old new is h = record { others = λ one apart. h.others one (subst (λ r. is_rule r one ≡ false) (sym is) (apart_by given one apart)) }

module _ (p : Rows) (n : ℕ) (second broken : Bool) (clash : is_type p n ≡ false → broken ≡ second) (old new : List Fault) where
  -- a row of the role is no type
  own : (kind : Role) (r : Rule) → kind ≡ role_at p n → same_role kind role.Type ≡ false → AreFaultsOf r (row_if broken n) old new → AreFaultsOf r (row_if second n) old new
  own kind r is apart h = subst (λ b. AreFaultsOf r (row_if b n) old new) (clash (ap (λ k. same_role k role.Type) (sym is) ∙ apart)) h

  -- the rule of a role that has one of its own
  second_by : (kind : Role) → same_role kind role.Type ≡ false → ((given : Role) → same_role given kind ≡ false → is_rule (second_rule given) (second_rule kind) ≡ false)
      → (given : Role) → given ≡ role_at p n → AreFaultsOf (second_rule given) (row_if broken n) old new → AreOnly (is_rule (second_rule given)) old new → AreFaultsOf (second_rule kind) (row_if (is_second_as kind given second) n) old new
  second_by kind apart others given is h k = by (same_role given kind) refl
    where
      by : (b : Bool) → same_role given kind ≡ b → AreFaultsOf (second_rule kind) (row_if (b && second) n) old new
      by true e = let same = (role_tells given kind).0 e in own kind (second_rule kind) (sym same ∙ is) apart (subst (λ q. AreFaultsOf (second_rule q) (row_if broken n) old new) same h)
      by false e = k.others (second_rule kind) (others given e)

  pub second_told : (kind : Role) → same_role kind role.Type ≡ false → ((given : Role) → same_role given kind ≡ false → is_rule (second_rule given) (second_rule kind) ≡ false)
      → (given : Role) (r : Rule) → given ≡ role_at p n → r ≡ second_rule given → AreFaultsOf r (row_if broken n) old new → AreOnly (is_rule r) old new → AreFaultsOf (second_rule kind) (row_if (is_second_as kind given second) n) old new
  second_told kind apart others given r is of h k = second_by kind apart others given is (subst (λ r. AreFaultsOf r (row_if broken n) old new) of h) (subst (λ r. AreOnly (is_rule r) old new) of k)

pub not_of_field : (given : Role) → same_role given role.Field ≡ false → is_rule (second_rule given) (second_rule role.Field) ≡ false
not_of_field role.Field e = absurd (false≢true (sym e))
not_of_field role.Method e = refl
not_of_field role.Constructor e = refl
not_of_field role.Nothing e = refl
not_of_field role.Type e = refl
not_of_field role.Parameter e = refl
not_of_field role.Local e = refl
not_of_field role.Label e = refl

pub not_of_method : (given : Role) → same_role given role.Method ≡ false → is_rule (second_rule given) (second_rule role.Method) ≡ false
not_of_method role.Method e = absurd (false≢true (sym e))
not_of_method role.Field e = refl
not_of_method role.Constructor e = refl
not_of_method role.Nothing e = refl
not_of_method role.Type e = refl
not_of_method role.Parameter e = refl
not_of_method role.Local e = refl
not_of_method role.Label e = refl

pub not_of_constructor : (given : Role) → same_role given role.Constructor ≡ false → is_rule (second_rule given) (second_rule role.Constructor) ≡ false
not_of_constructor role.Constructor e = absurd (false≢true (sym e))
not_of_constructor role.Field e = refl
not_of_constructor role.Method e = refl
not_of_constructor role.Nothing e = refl
not_of_constructor role.Type e = refl
not_of_constructor role.Parameter e = refl
not_of_constructor role.Local e = refl
not_of_constructor role.Label e = refl

-- the rule on names of types
module _ (p : Rows) (n : ℕ) (second broken : Bool) (clash : broken ≡ (second || is_inside_its_name p n)) (old new : List Fault) where
  clash_by : (given : Role) → AreFaultsOf (second_rule given) (row_if broken n) old new → AreOnly (is_rule (second_rule given)) old new → AreFaultsOf rule.TypeNames (row_if (is_type_clash p n given second) n) old new
  clash_by role.Field h k = k.others rule.TypeNames refl
  clash_by role.Method h k = k.others rule.TypeNames refl
  clash_by role.Constructor h k = k.others rule.TypeNames refl
  clash_by role.Type h k = subst (λ b. AreFaultsOf rule.TypeNames (row_if b n) old new) clash h
  clash_by role.Nothing h k = subst (λ b. AreFaultsOf rule.TypeNames (row_if b n) old new) clash h
  clash_by role.Parameter h k = subst (λ b. AreFaultsOf rule.TypeNames (row_if b n) old new) clash h
  clash_by role.Local h k = subst (λ b. AreFaultsOf rule.TypeNames (row_if b n) old new) clash h
  clash_by role.Label h k = subst (λ b. AreFaultsOf rule.TypeNames (row_if b n) old new) clash h

  pub type_clash : (given : Role) (r : Rule) → r ≡ second_rule given → AreFaultsOf r (row_if broken n) old new → AreOnly (is_rule r) old new → AreFaultsOf rule.TypeNames (row_if (is_type_clash p n given second) n) old new
  type_clash given r of h k = clash_by given (subst (λ r. AreFaultsOf r (row_if broken n) old new) of h) (subst (λ r. AreOnly (is_rule r) old new) of k)

-- ---- the rules on methods

pub methods_only : {a b c d e f g : List Fault} → AreOnly (is_rule rule.AbstractMembers) a b → AreOnly (is_rule rule.Results) b c → AreOnly (is_rule rule.NarrowedAccess) c d → AreOnly (is_rule rule.StaticOverride) d e
    → AreOnly (is_rule rule.FinalOverride) e f → AreOnly (is_rule rule.OverrideThrows) f g → AreOnly is_of_methods a g
methods_only h i j k l m = only_then (only_then (only_then (only_then (only_then h i) j) k) l) m

-- ---- one row

module _ (view : View) where
  abbrev p : Rows
  p = rows_in view

  abbrev t : Table
  t = table_in view

  pub record IsAdded (a b c d e f : List Fault) : Type 0 where
    pub declared : AreOnly is_of_declared a b
    pub heading : AreOnly (is_rule rule.Supertypes) b c
    pub methods : AreOnly is_of_methods c d
    pub body : AreOnly (is_rule rule.Bodies) d e
    pub static : AreOnly (is_rule rule.InnerStatics) e f

  pub row_only : {a b c d e f : List Fault} → IsAdded a b c d e f → AreOnly is_on_members a f
  row_only h = only_then (only_then (only_then (only_then h.declared h.heading) h.methods) h.body) h.static

  -- a rule on what is declared twice
  declared_added : {a b c d e f : List Fault} {xs : List ℕ} → IsAdded a b c d e f → (r : Rule) → is_rule rule.Supertypes r ≡ false → is_of_methods r ≡ false → is_rule rule.Bodies r ≡ false → is_rule rule.InnerStatics r ≡ false
      → AreFaultsOf r xs a b → AreFaultsOf r xs a f
  declared_added {b = b} {c = c} {d = d} {e = e} h r i j k l at = then_none {mid = e} r (then_none {mid = d} r (then_none {mid = c} r (then_none {mid = b} r at (h.heading.others r i)) (h.methods.others r j)) (h.body.others r k)) (h.static.others r l)

  -- a rule on methods
  method_added : {a b c d e f : List Fault} {xs : List ℕ} → IsAdded a b c d e f → (r : Rule) → is_of_declared r ≡ false → is_rule rule.Supertypes r ≡ false → is_rule rule.Bodies r ≡ false → is_rule rule.InnerStatics r ≡ false
      → AreFaultsOf r xs c d → AreFaultsOf r xs a f
  method_added {b = b} {c = c} {d = d} {e = e} h r i j k l at = none_then {mid = b} r (h.declared.others r i) (none_then {mid = c} r (h.heading.others r j) (then_none {mid = e} r (then_none {mid = d} r at (h.body.others r k)) (h.static.others r l)))

  methods_added : {a b c d e f : List Fault} {rows : (ℕ → Bool) → List ℕ} → IsAdded a b c d e f → AreFaultsOn view.sight.world rows c d → AreFaultsOn view.sight.world rows a f
  methods_added h k = record {
    abstracts = method_added h rule.AbstractMembers refl refl refl refl k.abstracts;
    results = method_added h rule.Results refl refl refl refl k.results;
    access = method_added h rule.NarrowedAccess refl refl refl refl k.access;
    statics = method_added h rule.StaticOverride refl refl refl refl k.statics;
    finals = method_added h rule.FinalOverride refl refl refl refl k.finals;
    throws = method_added h rule.OverrideThrows refl refl refl refl k.throws;
  }

  pub row_told : {n : ℕ} {a b c d e f : List Fault} → IsAdded a b c d e f
      → AreFaultsOf rule.Bodies (row_if (stands_wrong (rows_in view) n) n) d e
      → (IsValuedView view → AreFaultsOf rule.InnerStatics (row_if (is_static_there (rows_in view) (table_in view) (values (rows_in view) (table_in view)) n) n) e f)
      → AreFaultsOf rule.Supertypes (row_if (has_wrong_supertype (rows_in view) (table_in view) n) n) b c
      → (IsNamedWorld view.sight.world → AreFaultsOf rule.FieldNames (row_if (is_second_field (rows_in view) n) n) a b)
      → (IsNamedWorld view.sight.world → IsSignedWorld view.sight.world → AreFaultsOf rule.MethodSignatures (row_if (is_second_method (rows_in view) (table_in view) n) n) a b)
      → (IsSignedWorld view.sight.world → AreFaultsOf rule.ConstructorSignatures (row_if (is_second_constructor (rows_in view) (table_in view) n) n) a b)
      → (IsNamedWorld view.sight.world → AreFaultsOf rule.TypeNames (row_if (has_member_type_clash (rows_in view) n) n) a b)
      → (IsRightWorld view.sight.world → AreFaultsOn view.sight.world (λ test. row_if (test n) n) c d)
      → AreMemberFaultsOn view (λ test. row_if (test n) n) a f
  row_told {n} {a} {b} {c} {d} {e} {f} h bodies statics supertypes fields methods constructors types on_methods = record {
    bodies = none_then {mid = b} rule.Bodies (h.declared.others rule.Bodies refl) (none_then {mid = c} rule.Bodies (h.heading.others rule.Bodies refl) (none_then {mid = d} rule.Bodies (h.methods.others rule.Bodies refl) (then_none {mid = e} rule.Bodies bodies (h.static.others rule.Bodies refl))));
    statics = λ valued. none_then {mid = b} rule.InnerStatics (h.declared.others rule.InnerStatics refl) (none_then {mid = c} rule.InnerStatics (h.heading.others rule.InnerStatics refl) (none_then {mid = d} rule.InnerStatics (h.methods.others rule.InnerStatics refl)
        (none_then {mid = e} rule.InnerStatics (h.body.others rule.InnerStatics refl) (statics valued))));
    supertypes = none_then {mid = b} rule.Supertypes (h.declared.others rule.Supertypes refl) (then_none {mid = e} rule.Supertypes (then_none {mid = d} rule.Supertypes (then_none {mid = c} rule.Supertypes supertypes (h.methods.others rule.Supertypes refl)) (h.body.others rule.Supertypes refl)) (h.static.others rule.Supertypes refl));
    fields = λ named. declared_added h rule.FieldNames refl refl refl refl (fields named);
    methods = λ named signed. declared_added h rule.MethodSignatures refl refl refl refl (methods named signed);
    constructors = λ signed. declared_added h rule.ConstructorSignatures refl refl refl refl (constructors signed);
    types = λ named. declared_added h rule.TypeNames refl refl refl refl (types named);
    on_methods = λ right. methods_added h (on_methods right);
  }

  -- a row that is not looked at
  pub row_passed : (n : ℕ) (old : List Fault) → n < length (rows_in view) → is_of_members (rows_in view) n ≡ false → AreMemberFaultsOn view (λ test. row_if (test n) n) old old
  row_passed n old lt none = record {
    bodies = told_at rule.Bodies n (sym (bodies_none (rows_in view) n none)) (none_added rule.Bodies old);
    statics = λ valued. told_at rule.InnerStatics n (sym (statics_none (rows_in view) n none (table_in view) (values (rows_in view) (table_in view)))) (none_added rule.InnerStatics old);
    supertypes = told_at rule.Supertypes n (sym (supertypes_none (rows_in view) n none (table_in view) lt)) (none_added rule.Supertypes old);
    fields = λ named. told_at rule.FieldNames n (sym (fields_none (rows_in view) n none)) (none_added rule.FieldNames old);
    methods = λ named signed. told_at rule.MethodSignatures n (sym (methods_none (rows_in view) n none (table_in view))) (none_added rule.MethodSignatures old);
    constructors = λ signed. told_at rule.ConstructorSignatures n (sym (constructors_none (rows_in view) n none (table_in view))) (none_added rule.ConstructorSignatures old);
    types = λ named. told_at rule.TypeNames n (sym (types_none (rows_in view) n none)) (none_added rule.TypeNames old);
    on_methods = λ right. let past = methods_past view.sight.world right n none in record {
      abstracts = told_at rule.AbstractMembers n (sym past.abstracts) (none_added rule.AbstractMembers old);
      results = told_at rule.Results n (sym past.results) (none_added rule.Results old);
      access = told_at rule.NarrowedAccess n (sym past.access) (none_added rule.NarrowedAccess old);
      statics = told_at rule.StaticOverride n (sym past.statics) (none_added rule.StaticOverride old);
      finals = told_at rule.FinalOverride n (sym past.finals) (none_added rule.FinalOverride old);
      throws = told_at rule.OverrideThrows n (sym past.throws) (none_added rule.OverrideThrows old);
    };
  }

  -- ---- the rows so far

  pub record AreFaultsTo (n : ℕ) (old now : List Fault) (declared : declaring.Declared) (headers : heading.Headers) : Type 0 where
    pub declared_are : AreDeclaredTo view.sight.world n declared
    pub headers_are : AreHeadersTo (rows_in view) (table_in view) n headers.superinterfaces
    pub faults_are : AreMemberFaultsOn view (all_such n) old now

  pub faults_start : (old : List Fault) (declared : declaring.Declared) (headers : heading.Headers) → AreDeclaredTo view.sight.world 0 declared → AreHeadersTo (rows_in view) (table_in view) 0 headers.superinterfaces → AreFaultsTo 0 old old declared headers
  faults_start old declared headers d h = record {
    declared_are = d;
    headers_are = h;
    faults_are = record {
      bodies = none_added rule.Bodies old;
      statics = λ valued. none_added rule.InnerStatics old;
      supertypes = none_added rule.Supertypes old;
      fields = λ named. none_added rule.FieldNames old;
      methods = λ named signed. none_added rule.MethodSignatures old;
      constructors = λ signed. none_added rule.ConstructorSignatures old;
      types = λ named. none_added rule.TypeNames old;
      on_methods = λ right. record {
        abstracts = none_added rule.AbstractMembers old;
        results = none_added rule.Results old;
        access = none_added rule.NarrowedAccess old;
        statics = none_added rule.StaticOverride old;
        finals = none_added rule.FinalOverride old;
        throws = none_added rule.OverrideThrows old;
      };
    };
  }

  pub faults_more : {n : ℕ} {old now new : List Fault} {was declared : declaring.Declared} {before headers : heading.Headers} → AreFaultsTo n old now was before → AreDeclaredTo view.sight.world (n + 1) declared → AreHeadersTo (rows_in view) (table_in view) (n + 1) headers.superinterfaces
      → AreMemberFaultsOn view (λ test. row_if (test n) n) now new → AreFaultsTo (n + 1) old new declared headers
  faults_more {n} h d e k = record {
    declared_are = d;
    headers_are = e;
    faults_are = record {
      bodies = row_more n rule.Bodies (stands_wrong (rows_in view)) h.faults_are.bodies k.bodies;
      statics = λ valued. row_more n rule.InnerStatics (is_static_there (rows_in view) (table_in view) (values (rows_in view) (table_in view))) (h.faults_are.statics valued) (k.statics valued);
      supertypes = row_more n rule.Supertypes (has_wrong_supertype (rows_in view) (table_in view)) h.faults_are.supertypes k.supertypes;
      fields = λ named. row_more n rule.FieldNames (is_second_field (rows_in view)) (h.faults_are.fields named) (k.fields named);
      methods = λ named signed. row_more n rule.MethodSignatures (is_second_method (rows_in view) (table_in view)) (h.faults_are.methods named signed) (k.methods named signed);
      constructors = λ signed. row_more n rule.ConstructorSignatures (is_second_constructor (rows_in view) (table_in view)) (h.faults_are.constructors signed) (k.constructors signed);
      types = λ named. row_more n rule.TypeNames (has_member_type_clash (rows_in view)) (h.faults_are.types named) (k.types named);
      on_methods = λ right. let before = h.faults_are.on_methods right in let more = k.on_methods right in record {
        abstracts = row_more n rule.AbstractMembers (leaves_methods p t) before.abstracts more.abstracts;
        results = row_more n rule.Results (results_do_not_fit p t (overriding p t)) before.results more.results;
        access = row_more n rule.NarrowedAccess (access_is_narrowed p t (overriding p t)) before.access more.access;
        statics = row_more n rule.StaticOverride (methods_are_mixed p t (overriding p t)) before.statics more.statics;
        finals = row_more n rule.FinalOverride (is_over_final p t (overriding p t)) before.finals more.finals;
        throws = row_more n rule.OverrideThrows (more_is_thrown p t (overriding p t)) before.throws more.throws;
      };
    };
  }

-- ---- the rules in the lists of the definitions

abbrev listed : Bool → ℕ → List ℕ
listed b k = cond b (k ∷ []) []

-- a rule that is not the one
past : (b : Bool) (k r : ℕ) (rest : List ℕ) → nat_eq k r ≡ false → has (listed b k ++ rest) r ≡ has rest r
past true k r rest e = ap (λ c. c || has rest r) e
past false k r rest e = refl

-- the one
met : (b : Bool) (k r : ℕ) (rest : List ℕ) → nat_eq k r ≡ true → has rest r ≡ false → has (listed b k ++ rest) r ≡ b
met true k r rest e none = ap (λ c. c || has rest r) e
met false k r rest e none = none

last : (b : Bool) (k r : ℕ) → nat_eq k r ≡ false → has (listed b k) r ≡ false
last true k r e = ap (λ c. c || false) e
last false k r e = refl

own_last : (b : Bool) (k r : ℕ) → nat_eq k r ≡ true → has (listed b k) r ≡ b
own_last true k r e = ap (λ c. c || false) e
own_last false k r e = refl

module _ (a b c d e f g h : Bool) where
  abbrev l20 : List ℕ
  l20 = listed g 20 ++ listed h 21

  abbrev l19 : List ℕ
  l19 = listed f 19 ++ l20

  abbrev l18 : List ℕ
  l18 = listed e 18 ++ l19

  abbrev l17 : List ℕ
  l17 = listed d 17 ++ l18

  abbrev l16 : List ℕ
  l16 = listed c 16 ++ l17

  abbrev l15 : List ℕ
  l15 = listed b 15 ++ l16

  abbrev l14 : List ℕ
  l14 = listed a 14 ++ l15

  to_bodies : (r : ℕ) → nat_eq 14 r ≡ false → nat_eq 15 r ≡ false → nat_eq 16 r ≡ false → nat_eq 17 r ≡ false → nat_eq 18 r ≡ false → nat_eq 19 r ≡ false → has l14 r ≡ has l20 r
  to_bodies r i j k l m n = past a 14 r l15 i ∙ past b 15 r l16 j ∙ past c 16 r l17 k ∙ past d 17 r l18 l ∙ past e 18 r l19 m ∙ past f 19 r l20 n

  fourteenth : has l14 14 ≡ a
  fourteenth = met a 14 14 l15 refl (past b 15 14 l16 refl ∙ past c 16 14 l17 refl ∙ past d 17 14 l18 refl ∙ past e 18 14 l19 refl ∙ past f 19 14 l20 refl ∙ past g 20 14 (listed h 21) refl ∙ last h 21 14 refl)

  fifteenth : has l14 15 ≡ b
  fifteenth = past a 14 15 l15 refl ∙ met b 15 15 l16 refl (past c 16 15 l17 refl ∙ past d 17 15 l18 refl ∙ past e 18 15 l19 refl ∙ past f 19 15 l20 refl ∙ past g 20 15 (listed h 21) refl ∙ last h 21 15 refl)

  sixteenth : has l14 16 ≡ c
  sixteenth = past a 14 16 l15 refl ∙ past b 15 16 l16 refl ∙ met c 16 16 l17 refl (past d 17 16 l18 refl ∙ past e 18 16 l19 refl ∙ past f 19 16 l20 refl ∙ past g 20 16 (listed h 21) refl ∙ last h 21 16 refl)

  seventeenth : has l14 17 ≡ d
  seventeenth = past a 14 17 l15 refl ∙ past b 15 17 l16 refl ∙ past c 16 17 l17 refl ∙ met d 17 17 l18 refl (past e 18 17 l19 refl ∙ past f 19 17 l20 refl ∙ past g 20 17 (listed h 21) refl ∙ last h 21 17 refl)

  eighteenth : has l14 18 ≡ e
  eighteenth = past a 14 18 l15 refl ∙ past b 15 18 l16 refl ∙ past c 16 18 l17 refl ∙ past d 17 18 l18 refl ∙ met e 18 18 l19 refl (past f 19 18 l20 refl ∙ past g 20 18 (listed h 21) refl ∙ last h 21 18 refl)

  nineteenth : has l14 19 ≡ f
  nineteenth = past a 14 19 l15 refl ∙ past b 15 19 l16 refl ∙ past c 16 19 l17 refl ∙ past d 17 19 l18 refl ∙ past e 18 19 l19 refl ∙ met f 19 19 l20 refl (past g 20 19 (listed h 21) refl ∙ last h 21 19 refl)

  twentieth : has l14 20 ≡ g
  twentieth = to_bodies 20 refl refl refl refl refl refl ∙ met g 20 20 (listed h 21) refl (last h 21 20 refl)

  twenty_first : has l14 21 ≡ h
  twenty_first = to_bodies 21 refl refl refl refl refl refl ∙ past g 20 21 (listed h 21) refl ∙ own_last h 21 21 refl

module _ (a b c d e f g h i j k : Bool) where
  abbrev n13 : List ℕ
  n13 = listed j 13 ++ listed k 47

  abbrev n10 : List ℕ
  n10 = listed i 10 ++ n13

  abbrev n9 : List ℕ
  n9 = listed h 9 ++ n10

  abbrev n8 : List ℕ
  n8 = listed g 8 ++ n9

  abbrev n7 : List ℕ
  n7 = listed f 7 ++ n8

  abbrev n6 : List ℕ
  n6 = listed e 6 ++ n7

  abbrev n5 : List ℕ
  n5 = listed d 5 ++ n6

  abbrev n4 : List ℕ
  n4 = listed c 4 ++ n5

  abbrev n3 : List ℕ
  n3 = listed b 3 ++ n4

  abbrev n2 : List ℕ
  n2 = listed a 2 ++ n3

  from_locals : (r : ℕ) → nat_eq 6 r ≡ false → nat_eq 7 r ≡ false → nat_eq 8 r ≡ false → nat_eq 9 r ≡ false → nat_eq 10 r ≡ false → has n6 r ≡ has n13 r
  from_locals r o p q s t = past e 6 r n7 o ∙ past f 7 r n8 p ∙ past g 8 r n9 q ∙ past h 9 r n10 s ∙ past i 10 r n13 t

  no_header : (r : ℕ) → nat_eq 13 r ≡ false → nat_eq 47 r ≡ false → has n13 r ≡ false
  no_header r o p = past j 13 r (listed k 47) o ∙ last k 47 r p

  second : has n2 2 ≡ a
  second = met a 2 2 n3 refl (past b 3 2 n4 refl ∙ past c 4 2 n5 refl ∙ past d 5 2 n6 refl ∙ from_locals 2 refl refl refl refl refl ∙ no_header 2 refl refl)

  third : has n2 3 ≡ b
  third = past a 2 3 n3 refl ∙ met b 3 3 n4 refl (past c 4 3 n5 refl ∙ past d 5 3 n6 refl ∙ from_locals 3 refl refl refl refl refl ∙ no_header 3 refl refl)

  fourth : has n2 4 ≡ c
  fourth = past a 2 4 n3 refl ∙ past b 3 4 n4 refl ∙ met c 4 4 n5 refl (past d 5 4 n6 refl ∙ from_locals 4 refl refl refl refl refl ∙ no_header 4 refl refl)

  fifth : has n2 5 ≡ d
  fifth = past a 2 5 n3 refl ∙ past b 3 5 n4 refl ∙ past c 4 5 n5 refl ∙ met d 5 5 n6 refl (from_locals 5 refl refl refl refl refl ∙ no_header 5 refl refl)

  thirteenth : has n2 13 ≡ j
  thirteenth = past a 2 13 n3 refl ∙ past b 3 13 n4 refl ∙ past c 4 13 n5 refl ∙ past d 5 13 n6 refl ∙ from_locals 13 refl refl refl refl refl ∙ met j 13 13 (listed k 47) refl (last k 47 13 refl)

module _ (p : Rows) (t : Table) (n : ℕ) where
  bodies_at : stands_wrong p n ≡ breaks_members p t 20 n
  bodies_at = sym (twentieth (leaves_methods p t n) (results_do_not_fit p t (overriding p t) n) (access_is_narrowed p t (overriding p t) n) (methods_are_mixed p t (overriding p t) n) (is_over_final p t (overriding p t) n) (more_is_thrown p t (overriding p t) n) (stands_wrong p n) (is_static_there p t (values p t) n))

  statics_at : is_static_there p t (values p t) n ≡ breaks_members p t 21 n
  statics_at = sym (twenty_first (leaves_methods p t n) (results_do_not_fit p t (overriding p t) n) (access_is_narrowed p t (overriding p t) n) (methods_are_mixed p t (overriding p t) n) (is_over_final p t (overriding p t) n) (more_is_thrown p t (overriding p t) n) (stands_wrong p n) (is_static_there p t (values p t) n))

  abstracts_at : leaves_methods p t n ≡ breaks_members p t 14 n
  abstracts_at = sym (fourteenth (leaves_methods p t n) (results_do_not_fit p t (overriding p t) n) (access_is_narrowed p t (overriding p t) n) (methods_are_mixed p t (overriding p t) n) (is_over_final p t (overriding p t) n) (more_is_thrown p t (overriding p t) n) (stands_wrong p n) (is_static_there p t (values p t) n))

  results_at : results_do_not_fit p t (overriding p t) n ≡ breaks_members p t 15 n
  results_at = sym (fifteenth (leaves_methods p t n) (results_do_not_fit p t (overriding p t) n) (access_is_narrowed p t (overriding p t) n) (methods_are_mixed p t (overriding p t) n) (is_over_final p t (overriding p t) n) (more_is_thrown p t (overriding p t) n) (stands_wrong p n) (is_static_there p t (values p t) n))

  access_at : access_is_narrowed p t (overriding p t) n ≡ breaks_members p t 16 n
  access_at = sym (sixteenth (leaves_methods p t n) (results_do_not_fit p t (overriding p t) n) (access_is_narrowed p t (overriding p t) n) (methods_are_mixed p t (overriding p t) n) (is_over_final p t (overriding p t) n) (more_is_thrown p t (overriding p t) n) (stands_wrong p n) (is_static_there p t (values p t) n))

  mixed_at : methods_are_mixed p t (overriding p t) n ≡ breaks_members p t 17 n
  mixed_at = sym (seventeenth (leaves_methods p t n) (results_do_not_fit p t (overriding p t) n) (access_is_narrowed p t (overriding p t) n) (methods_are_mixed p t (overriding p t) n) (is_over_final p t (overriding p t) n) (more_is_thrown p t (overriding p t) n) (stands_wrong p n) (is_static_there p t (values p t) n))

  finals_at : is_over_final p t (overriding p t) n ≡ breaks_members p t 18 n
  finals_at = sym (eighteenth (leaves_methods p t n) (results_do_not_fit p t (overriding p t) n) (access_is_narrowed p t (overriding p t) n) (methods_are_mixed p t (overriding p t) n) (is_over_final p t (overriding p t) n) (more_is_thrown p t (overriding p t) n) (stands_wrong p n) (is_static_there p t (values p t) n))

  throws_at : more_is_thrown p t (overriding p t) n ≡ breaks_members p t 19 n
  throws_at = sym (nineteenth (leaves_methods p t n) (results_do_not_fit p t (overriding p t) n) (access_is_narrowed p t (overriding p t) n) (methods_are_mixed p t (overriding p t) n) (is_over_final p t (overriding p t) n) (more_is_thrown p t (overriding p t) n) (stands_wrong p n) (is_static_there p t (values p t) n))

  -- rule 2 inside types and outside any other
  pub types_at : breaks p t 2 n ≡ (has_member_type_clash p n || has_top_type_clash p n)
  types_at = second (has_type_clash p n) (is_second_field p n) (is_second_method p t n) (is_second_constructor p t n) (is_second_local p n) (is_second_label p n) (is_next (has_import_clash p t) n) (is_next (is_import_not_canonical p t) n) (is_not_accessible p t (types p t) n) (has_wrong_supertype p t n) (has_static_import_fault p t n)
      ∙ both_ways (is_second_type p n) (is_second_top_type p n) (is_named_as_package p n) (is_inside_its_name p n)
    where
      both_ways : (a b c d : Bool) → (a || (b || (c || d))) ≡ ((a || d) || (b || c))
      both_ways true b c d = refl
      both_ways false b c true = by b c
        where
          by : (b c : Bool) → (b || (c || true)) ≡ true
          by true c = refl
          by false true = refl
          by false false = refl
      both_ways false b c false = ap (λ z. b || z) (by c)
        where
          by : (c : Bool) → (c || false) ≡ c
          by true = refl
          by false = refl

  fields_at : is_second_field p n ≡ breaks p t 3 n
  fields_at = sym (third (has_type_clash p n) (is_second_field p n) (is_second_method p t n) (is_second_constructor p t n) (is_second_local p n) (is_second_label p n) (is_next (has_import_clash p t) n) (is_next (is_import_not_canonical p t) n) (is_not_accessible p t (types p t) n) (has_wrong_supertype p t n) (has_static_import_fault p t n))

  methods_at : is_second_method p t n ≡ breaks p t 4 n
  methods_at = sym (fourth (has_type_clash p n) (is_second_field p n) (is_second_method p t n) (is_second_constructor p t n) (is_second_local p n) (is_second_label p n) (is_next (has_import_clash p t) n) (is_next (is_import_not_canonical p t) n) (is_not_accessible p t (types p t) n) (has_wrong_supertype p t n) (has_static_import_fault p t n))

  constructors_at : is_second_constructor p t n ≡ breaks p t 5 n
  constructors_at = sym (fifth (has_type_clash p n) (is_second_field p n) (is_second_method p t n) (is_second_constructor p t n) (is_second_local p n) (is_second_label p n) (is_next (has_import_clash p t) n) (is_next (is_import_not_canonical p t) n) (is_not_accessible p t (types p t) n) (has_wrong_supertype p t n) (has_static_import_fault p t n))

  supertypes_at : has_wrong_supertype p t n ≡ breaks p t 13 n
  supertypes_at = sym (thirteenth (has_type_clash p n) (is_second_field p n) (is_second_method p t n) (is_second_constructor p t n) (is_second_local p n) (is_second_label p n) (is_next (has_import_clash p t) n) (is_next (is_import_not_canonical p t) n) (is_not_accessible p t (types p t) n) (has_wrong_supertype p t n) (has_static_import_fault p t n))

-- ---- all rows

pub all_told : {n : ℕ} {view : View} {old new : List Fault} {declared : declaring.Declared} {headers : heading.Headers} → n ≡ length (rows_in view) → AreFaultsTo view n old new declared headers → AreMemberFaults view old new
all_told {n} {view} {old} {new} whole h = record {
  bodies = told rule.Bodies (bodies_at (rows_in view) (table_in view)) h.faults_are.bodies;
  statics = λ valued. told rule.InnerStatics (statics_at (rows_in view) (table_in view)) (h.faults_are.statics valued);
  supertypes = told rule.Supertypes (supertypes_at (rows_in view) (table_in view)) h.faults_are.supertypes;
  fields = λ named. told rule.FieldNames (fields_at (rows_in view) (table_in view)) (h.faults_are.fields named);
  methods = λ named signed. told rule.MethodSignatures (methods_at (rows_in view) (table_in view)) (h.faults_are.methods named signed);
  constructors = λ signed. told rule.ConstructorSignatures (constructors_at (rows_in view) (table_in view)) (h.faults_are.constructors signed);
  types = λ named. subst (λ m. AreFaultsOf rule.TypeNames (all_such m (has_member_type_clash (rows_in view))) old new) whole (h.faults_are.types named);
  abstracts = λ right. told rule.AbstractMembers (abstracts_at (rows_in view) (table_in view)) (h.faults_are.on_methods right).abstracts;
  results = λ right. told rule.Results (results_at (rows_in view) (table_in view)) (h.faults_are.on_methods right).results;
  access = λ right. told rule.NarrowedAccess (access_at (rows_in view) (table_in view)) (h.faults_are.on_methods right).access;
  mixed = λ right. told rule.StaticOverride (mixed_at (rows_in view) (table_in view)) (h.faults_are.on_methods right).statics;
  finals = λ right. told rule.FinalOverride (finals_at (rows_in view) (table_in view)) (h.faults_are.on_methods right).finals;
  throws = λ right. told rule.OverrideThrows (throws_at (rows_in view) (table_in view)) (h.faults_are.on_methods right).throws;
}
  where
    told : {f g : ℕ → Bool} (r : Rule) → ((k : ℕ) → f k ≡ g k) → AreFaultsOf r (all_such n f) old new → AreFaultsOf r (all_such (length (rows_in view)) g) old new
    told {f} {g} r same k = subst (λ m. AreFaultsOf r (all_such m g) old new) whole (rows_told f g n r same k)
