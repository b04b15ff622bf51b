-- Bodies of fields, methods, constructors and initializers, from what their functions call (JLS 8.3, 8.4, 8.6, 8.7, 8.8).
use Rattle.std.proofs.Common.{◌≡◌, refl, sym, ◌∙◌, ap, subst, ℕ, ◌+◌, ◌<◌, ◌≤◌, ◌^◌, Bool, true, false, cond, List, [], ◌∷◌, ◌++◌, append-nil, map, flat_map, length, Option, Some, None, nat_lt, arith}
use Rattle.std.proofs.lemmas.Bool.Decides.{Decides-ltb}
use Rattle.std.proofs.lemmas.Option.{none-some, same_Some}
use Rattle.std.specs.List.{filter}
use Rattle.jr_base.specs.declared.ids.DeclId.{DeclId}
use Rattle.jr_base.specs.declared.ids.TypeId.{TypeId}
use Rattle.jr_base.specs.declared.constant.Const.{Const}
use Rattle.jr_base.specs.declared.ty.Ty.{Ty}
use Rattle.jr_core.specs.declared.bodies.Body.{Body}
use Rattle.jr_core.specs.declared.code.Code.{Code}
use Rattle.jr_core.specs.declared.code.Code.TheVariants as c
use Rattle.jr_tree.specs.declared.label.Role.{Role}
use Rattle.jr_tree.specs.declared.label.Role.TheVariants as role
use Rattle.jr_tree.specs.Rows.{label, end, role_at}
use Rattle.jr_defs.specs.declared.referent.RowType.{RowType}
use Rattle.jr_defs.specs.Modifiers.{written}
use Rattle.jr_plain.specs.Modifiers.{is_static}
use Rattle.jr_plain.specs.Same.{same_role}
use Rattle.jr_plain.specs.Types.{type_of_declared}
use Rattle.jr_codes.specs.declared.source.Source.{Source}
use Rattle.jr_codes.specs.Facts.{Facts, type_in}
use Rattle.jr_codes.specs.Reads.{rows_of, facts}
use Rattle.jr_codes.specs.Making.{Below, AreBefore, Parted}
use Rattle.jr_codes.specs.Waiting.{TakesFront, top_before}
use Rattle.jr_expressions.specs.Bodies.{IsCallable, IsFieldBody, field_place, initialization, parameters_of}
use Rattle.jr_expressions.specs.Stacks.{Stacks, WaitsFrom}
use Rattle.jr_expressions.specs.Statements.{codes, as_code}
use Rattle.jr_expressions.proofs.Joined.{AreNested, all_before, all_rising, those_parted}
use Rattle.jr_expressions.proofs.Operated.{one_counted}
use Rattle.jr_elab.specs.Cores.{IsCodeBelow, IsInitialization, IsMethodBy, IsValueBelow, first_before, first_code}
use Rattle.jr_elab.specs.Stacked.{AreRead, parameter_if}
use Rattle.jr_elab.proofs.Stacking.{taken_inside}

-- ---- parameters

pub not_parameter : (r : Role) → (r ≡ role.Parameter → ⊥) → same_role r role.Parameter ≡ false
not_parameter role.Parameter h = absurd (h refl)
not_parameter role.Nothing h = refl
not_parameter _ h = refl

one_by : (b : Bool) (f : Facts) (k : ℕ) (behind : List ℕ) → map f.decl (cond b (k ∷ behind) behind) ≡ cond b (f.decl k ∷ []) [] ++ map f.decl behind
one_by true f k behind = refl
one_by false f k behind = refl

pub parameters_are : (f : Facts) (rows : List ℕ) → flat_map (parameter_if f) rows ≡ map f.decl (filter (λ k. same_role (role_at f.rows k) role.Parameter) rows)
parameters_are f [] = refl
parameters_are f (k ∷ rows) =
    ap (λ xs. parameter_if f k ++ xs) (parameters_are f rows)
    ∙ sym (one_by (same_role (role_at f.rows k) role.Parameter) f k (filter (λ k. same_role (role_at f.rows k) role.Parameter) rows))

-- ---- bodies

next_less : (a k : ℕ) → a + 1 ≤ k → a < k
next_less a k le = omega (arith, le)

-- what waits below a row are its codes
waiting_codes : (s : Source) (outcome : Option RowType) (n : ℕ) (now : Stacks) → AreRead s → (waits : WaitsFrom (facts s) outcome (n + 1) (end (rows_of s) n) now)
    → Parted (end (rows_of s) n) now.of_code (codes waits.parts) []
waiting_codes s outcome n now all waits =
    let nested : AreNested (facts s) (n + 1) (end (rows_of s) n) = record {
      more = λ k from lt. all.deep.more n k (next_less n k from) lt;
      inside = λ k from lt. all.deep.inside n k (next_less n k from) lt;
    } in
    those_parted as_code waits.parts [] (record { inside = all_before all.deep nested waits.are; rising = all_rising all.deep nested waits.are; after = tt })
    (ap (λ x. x.of_code) waits.is ∙ ap codes (sym (append-nil waits.parts)))

-- what waits below a row is taken as its code
pub taken_code : (s : Source) (outcome : Option RowType) (n e : ℕ) (now : Stacks) (left : Below) (code : List Code) → AreRead s → n < length (rows_of s) → (n + 1 < 2 ^ 32 → e ≡ end (rows_of s) n)
    → WaitsFrom (facts s) outcome (n + 1) (end (rows_of s) n) now → TakesFront e now.of_code left code → IsCodeBelow (facts s) outcome n code
taken_code s outcome n e now left code all inside ends waits takes = record {
  below = waits.parts;
  parts = waits.are;
  is = taken_inside (waiting_codes s outcome n now all waits) (subst (λ k. TakesFront k now.of_code left code) (ends (one_counted (all.read n inside))) takes);
}

-- ---- the first code

pub before_some : (e row : ℕ) (a : Code) (old new : Below) → nat_lt row e ≡ true → old ≡ (row, a) ∷ new → Some a ≡ first_before e old
before_some e row a old new lt was = sym (ap (first_before e) was ∙ ap (λ b. cond b (Some a) None) lt)

pub before_none : (e : ℕ) (old : Below) → top_before e old ≡ false → None ≡ first_before e old
before_none e [] away = refl
before_none e (p ∷ ps) away = sym (ap (λ b. cond b (Some p.1) None) away)

first_inside : (e : ℕ) (parts : Below) → AreBefore e parts → first_before e parts ≡ first_code parts
first_inside e [] h = refl
first_inside e (p ∷ ps) h = ap (λ b. cond b (Some p.1) None) ((Decides-ltb p.0 e).1 h.0)

-- the first code that waits below a row is that of its parts
pub first_waits : (s : Source) (outcome : Option RowType) (n e : ℕ) (now : Stacks) (value : Option Code) → AreRead s → n < length (rows_of s) → (n + 1 < 2 ^ 32 → e ≡ end (rows_of s) n)
    → WaitsFrom (facts s) outcome (n + 1) (end (rows_of s) n) now → value ≡ first_before e now.of_code → IsValueBelow (facts s) outcome n value
first_waits s outcome n e now value all inside ends waits is =
    let parted : Parted (end (rows_of s) n) now.of_code (codes waits.parts) [] = waiting_codes s outcome n now all waits in
    record {
      below = waits.parts;
      parts = waits.are;
      is = is ∙ ap (λ k. first_before k now.of_code) (ends (one_counted (all.read n inside))) ∙ ap (first_before (end (rows_of s) n)) (parted.is ∙ append-nil (codes waits.parts))
          ∙ first_inside (end (rows_of s) n) (codes waits.parts) parted.inside;
    }

some_initialized : (place v : Code) (parts : Below) → Some v ≡ first_code parts → c.Eval (c.Assign place None v) ∷ [] ≡ initialization place parts
some_initialized place v [] there = absurd (none-some v (sym there))
some_initialized place v (p ∷ ps) there = ap (λ x. c.Eval (c.Assign place None x) ∷ []) (same_Some v p.1 there)

none_initialized : (place : Code) (parts : Below) → None ≡ first_code parts → [] ≡ initialization place parts
none_initialized place [] none = refl
none_initialized place (p ∷ ps) none = absurd (none-some p.1 none)

pub initialized_some : {f : Facts} {n class : ℕ} {value : Option Code} {code : List Code} (v : Code) → value ≡ Some v → IsValueBelow f None n value → code ≡ c.Eval (c.Assign (field_place f class n) None v) ∷ []
    → IsInitialization f class n code
initialized_some {f} {n} {class} v some below made = record { below = below.below; parts = below.parts; is = made ∙ some_initialized (field_place f class n) v (codes below.below) (sym some ∙ below.is) }

pub initialized_none : {f : Facts} {n class : ℕ} {value : Option Code} {code : List Code} → value ≡ None → IsValueBelow f None n value → code ≡ [] → IsInitialization f class n code
initialized_none {f} {n} {class} none below made = record { below = below.below; parts = below.parts; is = made ∙ none_initialized (field_place f class n) (codes below.below) (sym none ∙ below.is) }

-- ---- whole bodies

abbrev body_of : DeclId → TypeId → Bool → Bool → Ty → Option Const → List DeclId → List Code → Body
body_of decl class static native ty constant params code =
    record { decl = decl; class = class; is_static = static; is_native = native; ty = ty; constant = constant; params = params; code = code }

pub callable_is : (s : Source) (outcome : RowType) (n class : ℕ) (static native : Bool) (decl : DeclId) (id : TypeId) (ty : Ty) (params : List DeclId) (code : List Code)
    → (facts s).around n ≡ Some class → decl ≡ (facts s).decl n → id.0 ≡ (facts s).decl class → native ≡ (written (label (rows_of s) n)).is_native → ty ≡ type_in (facts s) outcome
    → params ≡ map (facts s).decl (parameters_of (facts s) n) → IsCodeBelow (facts s) (Some outcome) n code → IsCallable (facts s) n static outcome (body_of decl id static native ty None params code)
callable_is s outcome n class static native decl id ty params code around named owned is_native typed given made =
    let f : Facts = facts s in let own : TypeId = record { 0 = f.decl class } in let is : Bool = (written (label (rows_of s) n)).is_native in
    let all_given : List DeclId = map f.decl (parameters_of f n) in
    record {
      class = class;
      stands = around;
      below = made.below;
      parts = made.parts;
      is = ap (λ x. body_of x id static native ty None params code) named ∙ ap (λ x. body_of (f.decl n) (record { 0 = x }) static native ty None params code) owned
          ∙ ap (λ x. body_of (f.decl n) own static x ty None params code) is_native ∙ ap (λ x. body_of (f.decl n) own static is x None params code) typed
          ∙ ap (λ x. body_of (f.decl n) own static is (type_in f outcome) None x code) given ∙ ap (λ x. body_of (f.decl n) own static is (type_in f outcome) None all_given x) made.is;
    }

pub field_is : (s : Source) (n class : ℕ) (static : Bool) (declared : RowType) (decl : DeclId) (id : TypeId) (ty : Ty) (constant : Option Const) (params : List DeclId) (code : List Code)
    → (facts s).around n ≡ Some class → decl ≡ (facts s).decl n → id.0 ≡ (facts s).decl class → static ≡ is_static (rows_of s) n → type_of_declared (rows_of s) (facts s).refers n ≡ Some declared
    → ty ≡ type_in (facts s) declared → constant ≡ (facts s).variable n → params ≡ [] → IsInitialization (facts s) class n code → IsFieldBody (facts s) n (body_of decl id static false ty constant params code)
field_is s n class static declared decl id ty constant params code around named owned fixed has typed valued none made =
    let f : Facts = facts s in let own : TypeId = record { 0 = f.decl class } in let is : Bool = is_static (rows_of s) n in
    record {
      class = class;
      stands = around;
      ty = declared;
      has = has;
      below = made.below;
      parts = made.parts;
      is = ap (λ x. body_of x id static false ty constant params code) named ∙ ap (λ x. body_of (f.decl n) (record { 0 = x }) static false ty constant params code) owned
          ∙ ap (λ x. body_of (f.decl n) own x false ty constant params code) fixed ∙ ap (λ x. body_of (f.decl n) own is false x constant params code) typed
          ∙ ap (λ x. body_of (f.decl n) own is false (type_in f declared) x params code) valued ∙ ap (λ x. body_of (f.decl n) own is false (type_in f declared) (f.variable n) x code) none
          ∙ ap (λ x. body_of (f.decl n) own is false (type_in f declared) (f.variable n) [] x) made.is;
    }

-- a method whose result has this type
pub method_is : (f : Facts) (n : ℕ) (outcome : RowType) (static : Bool) (body : Body) → type_of_declared f.rows f.refers n ≡ Some outcome → static ≡ is_static f.rows n
    → IsCallable f n static outcome body → IsMethodBy f n body
method_is f n outcome static body has same is = record { outcome = outcome; has = has; is = subst (λ b. IsCallable f n b outcome body) same is }
