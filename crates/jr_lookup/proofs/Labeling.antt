-- The labels in scope are those of the rows that hold the place.
use Rattle.std.proofs.Common.{◌≡◌, refl, sym, ◌∙◌, ap, subst, arith, ℕ, ◌<◌, true, List, filter, length, nat_eq, Decides}
use Rattle.std.proofs.lemmas.Bool.Decides.{Decides-eqb}
use Rattle.std.proofs.lemmas.Slice.Eq.{bytes_eq-Decides}
use Rattle.jr_base.specs.declared.text.Text.{Text}
use Rattle.jr_tree.specs.declared.label.Role.{Role}
use Rattle.jr_tree.specs.declared.label.Role.TheVariants as role
use Rattle.jr_tree.specs.Rows.{Rows, name, role_at}
use Rattle.jr_defs.specs.declared.referent.Space.TheVariants as space
use Rattle.jr_defs.specs.Referents.{Table}
use Rattle.jr_defs.specs.Declarations as def
use Rattle.jr_defs.specs.Enclosing.{IsMemberRole}
use Rattle.jr_defs.specs.Members.{MemberOf}
use Rattle.jr_defs.specs.Imports.{OnDemandOf}
use Rattle.jr_defs.specs.Scope.{Depth, within, InLabelScope, HasScope, InScope}
use Rattle.jr_plain.specs.Headed.{IsHeaded}
use Rattle.jr_plain.specs.Search.{has}
use Rattle.jr_plain.specs.Scope.{is_somewhere_in_scope}
use Rattle.jr_plain.proofs.Tests.{both, like, opposite}
use Rattle.jr_plain.proofs.Searches.{among_filter}
use Rattle.jr_plain.proofs.Same.{role_tells}
use Rattle.jr_plain.proofs.Scoped.{somewhere_tells}
use Rattle.jr_places.specs.Names.{name_row}
use Rattle.jr_places.specs.Above.{holders, HoldersTell}
use Rattle.jr_lookup.specs.Outward.{IsNumberOf}
use Rattle.jr_lookup.specs.Labels.{is_label_over, AreLabelsAt}
use Rattle.jr_lookup.proofs.Instancing.{same_tests}
use Rattle.jr_lookup.proofs.Leveling.{declared_somewhere}

is_label : (r : Role) → r ≡ role.Label → def.IsOf space.Label r
is_label r e = subst (def.IsOf space.Label) (sym e) tt

label_is : (r : Role) → def.IsOf space.Label r → r ≡ role.Label
label_is role.Label h = refl
label_is _ h = absurd h

no_type : (r : Role) → r ≡ role.Label → r ≡ role.Type → ⊥
no_type r e f = cc

module _ (p : Rows) (t : Table) (o d : ℕ) (e : role_at p d ≡ role.Label) where
  no_member : (c : ℕ) → MemberOf p t c d → ⊥
  no_member c h = let k = declared_somewhere p t c d h in subst IsMemberRole e k.1.member

  none_demanded : (u : ℕ) → OnDemandOf p t u d → ⊥
  none_demanded u (OnDemandOf.of_package i r k) = no_type (role_at p d) e k.top.type
  none_demanded u (OnDemandOf.of_type i n m type) = no_type (role_at p d) e type
  none_demanded u (OnDemandOf.lang k) = no_type (role_at p d) e k.top.type

  label_scope : (r : Depth) → HasScope p t o d r → InLabelScope p d o
  label_scope r (HasScope.local h) = let is = h.local in absurd (cc)
  label_scope r (HasScope.parameter h) = let is = h.parameter in absurd (cc)
  label_scope r (HasScope.labeled h) = h
  label_scope r (HasScope.member {c = c} i m) = absurd (no_member c m)
  label_scope r (HasScope.of_same_unit h) = absurd (no_type (role_at p d) e h.top.type)
  label_scope r (HasScope.of_same_package h) = absurd (no_type (role_at p d) e h.top.type)
  label_scope r (HasScope.single h) = absurd (no_type (role_at p d) e h.brings.names.type)
  label_scope r (HasScope.static h) = absurd (no_member h.brings.imports.of_type h.brings.imports.member)
  label_scope r (HasScope.demanded h) = absurd (none_demanded h.unit h.brings.brings)

pub labels_at : (p : Rows) (t : Table) (headed : IsHeaded p) (x : Text) (n o : ℕ) (all found : List ℕ) → HoldersTell p → o < length p → IsNumberOf p n x → all ≡ holders p o → found ≡ filter (is_label_over p o n) all → AreLabelsAt p t x o found
labels_at p t headed x n o all found tell lt number is e d = same_tests (has found d) (is_somewhere_in_scope p t space.Label x o d) ((r : Depth) × InScope p t space.Label x o d r)
    (like (subst (λ xs. Decides (has xs d) ((has (holders p o) d ≡ true) × (is_label_over p o n d ≡ true))) (sym (e ∙ ap (filter (is_label_over p o n)) is)) (among_filter nat_eq Decides-eqb (is_label_over p o n) (holders p o) d)) out into)
    (somewhere_tells p t headed space.Label x o d)
  where
    over : Decides (is_label_over p o n d) ((d ≡ o → ⊥) × ((role_at p d ≡ role.Label) × (name_row p d ≡ n)))
    over = both (opposite (Decides-eqb d o)) (both (role_tells (role_at p d) role.Label) (Decides-eqb (name_row p d) n))

    out : (has (holders p o) d ≡ true) × (is_label_over p o n d ≡ true) → (r : Depth) × InScope p t space.Label x o d r
    out h = let held = (tell.hold o lt d).0 h.0 in let k = over.0 h.1 in let le = held.0 in let differs = k.0 in (
      within d,
      record {
        scope = HasScope.labeled (record { labeled = k.1.0; after = omega arith; before = held.1 });
        declares = record { of_kind = is_label (role_at p d) k.1.0; named = (bytes_eq-Decides (name p d) x).0 (sym (number d) ∙ (Decides-eqb (name_row p d) n).1 k.1.1) };
      },
    )

    into : (r : Depth) × InScope p t space.Label x o d r → (has (holders p o) d ≡ true) × (is_label_over p o n d ≡ true)
    into h = let e = label_is (role_at p d) h.1.declares.of_kind in let s = label_scope p t o d e h.0 h.1.scope in let after = s.after in (
      (tell.hold o lt d).1 (omega arith, s.before),
      over.1 ((λ same. omega arith), (e, (Decides-eqb (name_row p d) n).0 (number d ∙ (bytes_eq-Decides (name p d) x).1 h.1.declares.named))),
    )
