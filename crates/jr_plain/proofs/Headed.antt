-- Formed rows, and those that stand as their labels may, have headers below types.
use Rattle.std.proofs.Common.{◌≡◌, refl, ◌∙◌, ap, subst, ⊎_elim, arith, ℕ, ◌<◌, Bool}
use Rattle.std.proofs.lemmas.Bool.{cases_eq}
use Rattle.jr_tree.specs.declared.label.Label.{Label}
use Rattle.jr_tree.specs.declared.label.Label.TheVariants as is
use Rattle.jr_tree.specs.declared.label.NameKind.{NameKind}
use Rattle.jr_tree.specs.declared.label.NamePlace.TheVariants as place
use Rattle.jr_tree.specs.declared.label.Role.TheVariants as role
use Rattle.jr_tree.specs.Labels.{role_of}
use Rattle.jr_tree.specs.Rows.{Rows, label, parent}
use Rattle.jr_tree.specs.Below.{Under}
use Rattle.jr_tree.specs.Local.{IsLocal}
use Rattle.jr_defs.specs.Declarations.{IsType}
use Rattle.jr_defs.specs.Supertypes.{IsSuperclassLabel, IsSuperinterfaceLabel}
use Rattle.jr_defs.specs.Headers.{NamesHeader}
use Rattle.jr_defs.specs.Formed.{IsFormed}
use Rattle.jr_plain.specs.Headed.{IsHeaded}
use Rattle.jr_plain.proofs.Supertyped.{superclass_name_below, superinterface_name_below}

pub headed_from_formed : (p : Rows) → IsFormed p → IsHeaded p
headed_from_formed p formed = record { tree = formed.tree; header = formed.header }

-- above the name of a superclass or superinterface stands a type
over_superclass : (over : Label) (k : NameKind) (q : Bool) → Under over (is.Name k place.Superclass q) → role_of over ≡ role.Type
over_superclass (is.Class m b) k q u = refl
over_superclass (is.Interface m b) k q u = refl
over_superclass (is.Name j a c) k q u = absurd u
over_superclass (is.Import f) k q u = absurd u
over_superclass is.Package k q u = absurd u
over_superclass _ k q u = absurd u.0

over_superinterface : (over : Label) (k : NameKind) (q : Bool) → Under over (is.Name k place.Superinterface q) → role_of over ≡ role.Type
over_superinterface (is.Class m b) k q u = refl
over_superinterface (is.Interface m b) k q u = refl
over_superinterface (is.Name j a c) k q u = absurd u
over_superinterface (is.Import f) k q u = absurd u
over_superinterface is.Package k q u = absurd u
over_superinterface _ k q u = absurd u.0

by_superclass : (over l : Label) → IsSuperclassLabel l → Under over l → role_of over ≡ role.Type
by_superclass over (is.Name k place.Superclass q) h u = over_superclass over k q u
by_superclass over _ h u = absurd h

by_superinterface : (over l : Label) → IsSuperinterfaceLabel l → Under over l → role_of over ≡ role.Type
by_superinterface over (is.Name k place.Superinterface q) h u = over_superinterface over k q u
by_superinterface over _ h u = absurd h

pub headed_from_local : (p : Rows) → IsLocal p → IsHeaded p
headed_from_local p local = record { tree = local.tree; header = header }
  where
    more : (P : Label → Type 0) → (P is.Program → ⊥) → (n : ℕ) → P (label p n) → 0 < n
    more P never n h = ⊎_elim (λ e. absurd (never (subst P (ap (label p) e ∙ local.program) h))) (λ apart. omega arith) (cases_eq n 0)

    header : (c n : ℕ) → NamesHeader p c n → IsType p c
    header c n h = ⊎_elim
        (λ k. subst (IsType p) k.inside (by_superclass (label p (parent p n)) (label p n) k.names (local.under n (more IsSuperclassLabel (λ x. x) n k.names) (superclass_name_below p c n k))))
        (λ k. subst (IsType p) k.inside
        (by_superinterface (label p (parent p n)) (label p n) k.names (local.under n (more IsSuperinterfaceLabel (λ x. x) n k.names) (superinterface_name_below p c n k)))) h
