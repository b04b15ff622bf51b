-- A row comes to one code, and a row declares one body: what is made of rows is found by their order alone.
use Rattle.std.proofs.Common.{◌≡◌, refl, sym, ◌∙◌, ap, subst, ℕ, ◌<◌, ◌≤◌, Bool, true, false, ◌∷◌, ◌++◌, Option, Some, arith}
use Rattle.std.proofs.lemmas.Bool.{false≢true}
use Rattle.std.proofs.lemmas.Option.{same_Some}
use Rattle.jr_core.specs.declared.bodies.Body.{Body}
use Rattle.jr_core.specs.declared.code.Code.{Code}
use Rattle.jr_tree.specs.declared.label.Label.{Label}
use Rattle.jr_tree.specs.declared.label.Label.TheVariants as is
use Rattle.jr_tree.specs.Rows.{label}
use Rattle.jr_defs.specs.declared.referent.Element.TheVariants as element
use Rattle.jr_defs.specs.declared.referent.RowType.{RowType}
use Rattle.jr_defs.specs.Types.{plain}
use Rattle.jr_plain.specs.Modifiers.{is_static}
use Rattle.jr_plain.specs.Types.{type_of_declared}
use Rattle.jr_codes.specs.Facts.{Facts}
use Rattle.jr_expressions.specs.Bodies.{BodyAt, IsCallable, IsFieldBody, field as field_at, method as method_at, constructor as constructor_at, default as default_at, initializer as initializer_at, callable_with, field_with}
use Rattle.jr_expressions.specs.Statements.{Part, code_part, Parts, Comes, part, through, made_at, PartsAt, none, one, pass, CoreAt}
use Rattle.jr_elab.specs.Cores.{IsMethodBy}

past_stop : (n stop : ℕ) → n < stop → stop ≤ n → ⊥
past_stop n stop lt le = omega (arith, lt, le)

same_part : (x y : Part) → part x ≡ part y → x ≡ y
same_part x y e = cc

same_code : (x y : Code) → code_part x ≡ code_part y → x ≡ y
same_code x y e = cc

abbrev is_part : Comes → Bool
is_part (part x) = true
is_part _ = false

not_through : (x : Part) → part x ≡ through → ⊥
not_through x e = false≢true (sym (ap is_part e))

-- ---- the parts of rows

pair_same : (n : ℕ) (x y : Part) (xs ys : Parts) → x ≡ y → xs ≡ ys → (n, x) ∷ xs ≡ (n, y) ∷ ys
pair_same n x y xs ys same behind = ap (λ z. (n, z) ∷ xs) same ∙ ap (λ zs. (n, y) ∷ zs) behind

joined_same : (xs ys more rest : Parts) → xs ≡ ys → more ≡ rest → xs ++ more ≡ ys ++ rest
joined_same xs ys more rest same behind = ap (λ zs. zs ++ more) same ∙ ap (λ zs. ys ++ zs) behind

made_same : (f : Facts) (outcome : Option RowType) (n : ℕ) (xs ys : Parts) (a b : Comes) → xs ≡ ys → made_at f outcome n xs ≡ a → made_at f outcome n ys ≡ b → a ≡ b
made_same f outcome n xs ys a b same first second = sym first ∙ ap (λ zs. made_at f outcome n zs) same ∙ second

pub parts_once : {f : Facts} {outcome : Option RowType} {n stop : ℕ} {xs ys : Parts} → PartsAt f outcome n stop xs → PartsAt f outcome n stop ys → xs ≡ ys
parts_once {f} {outcome} {n} {stop} (none le) (none past) = refl
parts_once {f} {outcome} {n} {stop} (none le) (one lt below made rest) = absurd (past_stop n stop lt le)
parts_once {f} {outcome} {n} {stop} (none le) (pass lt below made rest) = absurd (past_stop n stop lt le)
parts_once {f} {outcome} {n} {stop} (one lt below made rest) (none past) = absurd (past_stop n stop lt past)
parts_once {f} {outcome} {n} {stop} (one {below = xs} {rest = more} {x = x} lt below made rest) (one {below = ys} {rest = others} {x = y} less inner here behind) =
    pair_same n x y more others (same_part x y (made_same f outcome n xs ys (part x) (part y) (parts_once below inner) made here)) (parts_once rest behind)
parts_once {f} {outcome} {n} {stop} (one {below = xs} {x = x} lt below made rest) (pass {below = ys} less inner here behind) =
    absurd (not_through x (made_same f outcome n xs ys (part x) through (parts_once below inner) made here))
parts_once {f} {outcome} {n} {stop} (pass lt below made rest) (none past) = absurd (past_stop n stop lt past)
parts_once {f} {outcome} {n} {stop} (pass {below = xs} lt below made rest) (one {below = ys} {x = y} less inner here behind) =
    absurd (not_through y (sym (made_same f outcome n xs ys through (part y) (parts_once below inner) made here)))
parts_once {f} {outcome} {n} {stop} (pass {below = xs} {rest = more} lt below made rest) (pass {below = ys} {rest = others} less inner here behind) =
    joined_same xs ys more others (parts_once below inner) (parts_once rest behind)

pub code_once : (f : Facts) (outcome : Option RowType) (n : ℕ) (x y : Code) → CoreAt f outcome n x → CoreAt f outcome n y → x ≡ y
code_once f outcome n x y a b =
    same_code x y (same_part (code_part x) (code_part y) (made_same f outcome n a.below b.below (part (code_part x)) (part (code_part y)) (parts_once a.parts b.parts) a.made b.made))

-- ---- bodies

class_once : (f : Facts) (n c d : ℕ) → f.around n ≡ Some c → f.around n ≡ Some d → c ≡ d
class_once f n c d first second = same_Some c d (sym first ∙ second)

type_once : (f : Facts) (n : ℕ) (a b : RowType) → type_of_declared f.rows f.refers n ≡ Some a → type_of_declared f.rows f.refers n ≡ Some b → a ≡ b
type_once f n a b first second = same_Some a b (sym first ∙ second)

callable_once : (f : Facts) (n : ℕ) (static : Bool) (outcome : RowType) (x y : Body) → IsCallable f n static outcome x → IsCallable f n static outcome y → x ≡ y
callable_once f n static outcome x y a b =
    a.is ∙ ap (λ c. callable_with f n static outcome c a.below) (class_once f n a.class b.class a.stands b.stands)
    ∙ ap (λ p. callable_with f n static outcome b.class p) (parts_once a.parts b.parts) ∙ sym b.is

field_once : (f : Facts) (n : ℕ) (x y : Body) → IsFieldBody f n x → IsFieldBody f n y → x ≡ y
field_once f n x y a b =
    a.is ∙ ap (λ t. field_with f n t a.class a.below) (type_once f n a.ty b.ty a.has b.has)
    ∙ ap (λ c. field_with f n b.ty c a.below) (class_once f n a.class b.class a.stands b.stands)
    ∙ ap (λ p. field_with f n b.ty b.class p) (parts_once a.parts b.parts) ∙ sym b.is

method_once : (f : Facts) (n : ℕ) (x y : Body) → IsMethodBy f n x → IsMethodBy f n y → x ≡ y
method_once f n x y a b =
    callable_once f n (is_static f.rows n) b.outcome x y (subst (λ t. IsCallable f n (is_static f.rows n) t x) (type_once f n a.outcome b.outcome a.has b.has) a.is) b.is

-- the body by the label of its row
abbrev BodyBy : Label → Facts → ℕ → Body → Type 0
BodyBy (is.Field modifiers dims) f n b = IsFieldBody f n b
BodyBy (is.Method modifiers is_void has_body) f n b = IsMethodBy f n b
BodyBy (is.Constructor modifiers) f n b = IsCallable f n false (plain element.Void) b
BodyBy is.DefaultConstructor f n b = IsCallable f n false (plain element.Void) b
BodyBy (is.Initializer static) f n b = IsCallable f n static (plain element.Void) b
BodyBy _ f n b = ⊥

by_label : {f : Facts} {n : ℕ} {b : Body} → BodyAt f n b → BodyBy (label f.rows n) f n b
by_label {f} {n} {b} (field_at here h) = subst (λ l. BodyBy l f n b) (sym here) h
by_label {f} {n} {b} (method_at here has h) = subst (λ l. BodyBy l f n b) (sym here) (record { outcome = _; has = has; is = h })
by_label {f} {n} {b} (constructor_at here h) = subst (λ l. BodyBy l f n b) (sym here) h
by_label {f} {n} {b} (default_at here h) = subst (λ l. BodyBy l f n b) (sym here) h
by_label {f} {n} {b} (initializer_at here h) = subst (λ l. BodyBy l f n b) (sym here) h

once_by : (l : Label) (f : Facts) (n : ℕ) (x y : Body) → BodyBy l f n x → BodyBy l f n y → x ≡ y
once_by (is.Field modifiers dims) f n x y a b = field_once f n x y a b
once_by (is.Method modifiers is_void has_body) f n x y a b = method_once f n x y a b
once_by (is.Constructor modifiers) f n x y a b = callable_once f n false (plain element.Void) x y a b
once_by is.DefaultConstructor f n x y a b = callable_once f n false (plain element.Void) x y a b
once_by (is.Initializer static) f n x y a b = callable_once f n static (plain element.Void) x y a b
once_by _ f n x y a b = absurd a

pub body_once : (f : Facts) (n : ℕ) (x y : Body) → BodyAt f n x → BodyAt f n y → x ≡ y
body_once f n x y a b = once_by (label f.rows n) f n x y (by_label a) (by_label b)
