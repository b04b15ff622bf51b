-- What identifiers lead to is computed.
use Rattle.std.proofs.Common.{◌≡◌, refl, ◌∙◌, ap, subst, ℕ, List, [], ◌∷◌, Option, Some, None, option_map}
use Rattle.std.proofs.lemmas.Option.{none-some, same_Some}
use Rattle.jr_base.specs.declared.text.Text.{Text}
use Rattle.jr_tree.specs.declared.label.NameKind.{NameKind}
use Rattle.jr_tree.specs.Rows.{Rows}
use Rattle.jr_defs.specs.declared.referent.Referent.{Referent}
use Rattle.jr_defs.specs.Referents.{Table}
use Rattle.jr_spelling_rules.specs.Naming.{Before, Leads, look_up, next, qualify}

module _ (p : Rows) (t : Table) (o : ℕ) (k : NameKind) where
  abbrev Led : Type 0
  Led = Before × List Referent

  abbrev more_by : Before → Text → List Text → Option Before → Option Led
  more_by b x rest found = elim found as (λ _. Option Led) [ Some c ↦ option_map (λ q. (q.0, look_up p t o b k x ∷ q.1)) (qualify p t o k c rest) | None ↦ None ]

  abbrev Behind : List Text → Type 0
  Behind rest = (c : Before) (q : Led) → qualify p t o k c rest ≡ Some q → Leads p t o k c rest q.0 q.1

  pub led : (b : Before) (names : List Text) (it : Led) → qualify p t o k b names ≡ Some it → Leads p t o k b names it.0 it.1
  led b [] it h = subst (λ q. Leads p t o k b [] q.0 q.1) (same_Some (b, []) it h) Leads.none
  led b (x ∷ rest) it h = by (λ c. led c rest) (next p b x (look_up p t o b k x)) refl h
    where
      on : Behind rest → (c : Before) → next p b x (look_up p t o b k x) ≡ Some c → (q : Option Led) → qualify p t o k c rest ≡ q → option_map (λ q. (q.0, look_up p t o b k x ∷ q.1)) q ≡ Some it
          → Leads p t o k b (x ∷ rest) it.0 it.1
      on behind c e None is h = absurd (none-some it h)
      on behind c e (Some q) is h = subst (λ r. Leads p t o k b (x ∷ rest) r.0 r.1) (same_Some (q.0, look_up p t o b k x ∷ q.1) it h) (Leads.more e (behind c q is))

      by : Behind rest → (found : Option Before) → next p b x (look_up p t o b k x) ≡ found → more_by b x rest found ≡ Some it → Leads p t o k b (x ∷ rest) it.0 it.1
      by behind None e h = absurd (none-some it h)
      by behind (Some c) e h = on behind c e (qualify p t o k c rest) refl h

  pub qualified : {b e : Before} {names : List Text} {trace : List Referent} → Leads p t o k b names e trace → qualify p t o k b names ≡ Some (e, trace)
  qualified Leads.none = refl
  qualified (Leads.more {b = b} {x = x} {rest = rest} is h) = ap (more_by b x rest) is ∙ ap (option_map (λ q. (q.0, look_up p t o b k x ∷ q.1))) (qualified h)
