-- A class has a member by types that are seen from the last in the order back, a turn at a time (JLS 8.4.8).
use Rattle.std.proofs.Common.{◌≡◌, refl, sym, ◌∙◌, ap, subst, arith, ℕ, suc, ◌+◌, ◌-◌, ◌<◌, ◌≤◌, Bool, true, false, List, length, take, take_all, get_or, Decides}
use Rattle.jr_tree.specs.declared.label.Label.{Label}
use Rattle.jr_tree.specs.declared.label.Label.TheVariants as is
use Rattle.jr_tree.specs.declared.label.Role.TheVariants as role
use Rattle.jr_tree.specs.Labels.{role_of}
use Rattle.jr_tree.specs.Rows.{Rows, label}
use Rattle.jr_defs.specs.Referents.{Table}
use Rattle.jr_defs.specs.Declarations.{IsType, IsClass, IsClassLabel, IsInterface, IsInterfaceLabel, IsObject}
use Rattle.jr_defs.specs.Members.{MemberOf}
use Rattle.jr_plain.specs.Headed.{IsHeaded}
use Rattle.jr_places.specs.declared.stamps.Stamps.{Stamps}
use Rattle.jr_places.specs.Stamps.{IsEmptied, AddsStamp}
use Rattle.jr_places.specs.declared.chains.Entry.{Entry}
use Rattle.jr_supers.specs.Direct.{HasSupers}
use Rattle.jr_supers.specs.Order.{IsOrderOf}
use Rattle.jr_dispatch.specs.Dispatching.{IsVisited, IsSeeking}
use Rattle.jr_dispatch.proofs.Inheriting.{seeking_start, seeking_next, seeking_found, seeking_end}

class_type_label : (l : Label) → IsClassLabel l → role_of l ≡ role.Type
class_type_label (is.Class m b) h = refl
class_type_label _ h = absurd h

class_apart_label : (l : Label) → IsClassLabel l → IsInterfaceLabel l → ⊥
class_apart_label (is.Class m b) h k = k
class_apart_label _ h k = absurd h

pub class_type : (p : Rows) (c : ℕ) → IsClass p c → IsType p c
class_type p c h = class_type_label (label p c) h

class_apart : (p : Rows) (c : ℕ) → IsClass p c → IsInterface p c → ⊥
class_apart p c h k = class_apart_label (label p c) h k

module _ (p : Rows) (t : Table) (c d : ℕ) where
  pub member_start : IsHeaded p → (supers : List Entry) (order rows : List ℕ) (empty met : Stamps) (is_new : Bool) → IsClass p c → IsOrderOf p supers order → rows ≡ order → IsEmptied empty (length p)
      → AddsStamp empty met (length p) c is_new → IsSeeking p t c d met (take (length rows - 0) rows)
  member_start headed supers order rows empty met is_new class ordered same none h =
      seeking_start p t headed c d supers order (take (length rows - 0) rows) empty met is_new (class_type p c class) ordered (take_all (length rows - 0) rows (omega arith) ∙ same) none h

  pub member_next : IsHeaded p → (supers : List Entry) (order rows : List ℕ) (turn after place e : ℕ) (old new : Stamps) (x : ℕ) (found : Bool) → HasSupers p t supers → IsOrderOf p supers order → rows ≡ order
      → turn < length rows → after ≡ turn + 1 → place ≡ length rows - 1 - turn → x ≡ get_or rows place e → found ≡ false
      → IsSeeking p t c d old (take (length rows - turn) rows) → IsVisited p t x d old new (length p) found → IsSeeking p t c d new (take (length rows - after) rows)
  member_next headed supers order rows turn after place e old new x found listed ordered same lt step at item none h v =
      let back : place ≡ length rows - after = omega (arith, step, at, lt) in
      let from : length rows - turn ≡ suc place = omega (arith, at, lt) in
      let inside : place < length rows = omega (arith, at, lt) in
      subst (λ n. IsSeeking p t c d new (take n rows)) back
      (seeking_next p t headed c d supers rows place e old new x listed (subst (λ xs. IsOrderOf p supers xs) (sym same) ordered) inside item
      (subst (λ n. IsSeeking p t c d old (take n rows)) from h) (subst (λ b. IsVisited p t x d old new (length p) b) none v))

  pub member_found : IsHeaded p → (rest : List ℕ) (old new : Stamps) (x : ℕ) (found : Bool) → found ≡ true → IsSeeking p t c d old rest → IsVisited p t x d old new (length p) found → Decides true (MemberOf p t c d)
  member_found headed rest old new x found is h v = seeking_found p t headed c d old new x rest h (subst (λ b. IsVisited p t x d old new (length p) b) is v)

  pub member_end : IsHeaded p → (rows : List ℕ) (turn : ℕ) (met : Stamps) → length rows ≤ turn → IsClass p c → ((o : ℕ) → IsObject p o → IsInterface p o → ⊥) → IsSeeking p t c d met (take (length rows - turn) rows)
      → Decides false (MemberOf p t c d)
  member_end headed rows turn met past class apart h = let none : length rows - turn ≡ 0 = omega (arith, past) in
      seeking_end p t headed c d met (take (length rows - turn) rows) (ap (λ n. take n rows) none) (class_apart p c class) apart h
