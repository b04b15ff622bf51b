-- Bodies by the labels of their rows (JLS 8.3, 8.4, 8.6, 8.7, 8.8).
use Rattle.std.proofs.Common.{◌≡◌, refl, sym, ◌∙◌, ap, subst, ℕ, Bool, true, false, List}
use Rattle.std.proofs.lemmas.Result.{IfOk-weaker}
use Rattle.std.specs.Prelude.{Result, IfOk}
use Rattle.jr_core.specs.declared.bodies.Body.{Body}
use Rattle.jr_tree.specs.declared.label.Label.{Label}
use Rattle.jr_tree.specs.declared.label.Label.TheVariants as is
use Rattle.jr_tree.specs.declared.label.Modifiers.{Modifiers}
use Rattle.jr_codes.specs.Facts.{Facts}
use Rattle.jr_expressions.specs.Bodies.{BodyAt}
use Rattle.jr_elab.specs.Cores.{IsAdded, MayAdd, declares_body}
use Rattle.jr_elab.proofs.Each.{one_more}

-- a row with a label that declares a body adds the one that it declares
pub body_added : {E : Type 0} {P : Body → Type 0} (f : Facts) (n : ℕ) {l to : Label} (made : Result Body E) (old new : List Body) → l ≡ to → declares_body to ≡ true → ((b : Body) → P b → BodyAt f n b)
    → IsAdded made old new → IfOk made P → MayAdd (declares_body l) (BodyAt f n) old new
body_added {E} {P} f n made old new same declares is added bodied =
    subst (λ x. MayAdd x (BodyAt f n) old new) (sym (ap declares_body same ∙ declares)) (one_more (BodyAt f n) made old new added (IfOk-weaker made P (BodyAt f n) is bodied))

-- any other row declares no body
pub no_body : (l : Label) → ((m : Modifiers) (dims : ℕ) → l ≡ is.Field m dims → ⊥) → ((m : Modifiers) (is_void has_body : Bool) → l ≡ is.Method m is_void has_body → ⊥) → ((m : Modifiers) → l ≡ is.Constructor m → ⊥)
    → (l ≡ is.DefaultConstructor → ⊥) → ((static : Bool) → l ≡ is.Initializer static → ⊥) → declares_body l ≡ false
no_body (is.Field m dims) h _ _ _ _ = absurd (h m dims refl)
no_body (is.Method m is_void has_body) _ h _ _ _ = absurd (h m is_void has_body refl)
no_body (is.Constructor m) _ _ h _ _ = absurd (h m refl)
no_body is.DefaultConstructor _ _ _ h _ = absurd (h refl)
no_body (is.Initializer static) _ _ _ _ h = absurd (h static refl)
no_body _ _ _ _ _ _ = refl
