-- Types round a place, from the innermost outwards (JLS 8.1.3).
use Rattle.std.proofs.Common.{◌≡◌, refl, sym, ◌∙◌, ap, subst, ⊎_elim, arith, ℕ, zero, suc, ◌+◌, ◌<◌, ◌≤◌, Bool, true, false, cond, length, Option, Some, None}
use Rattle.std.proofs.lemmas.Bool.{false≢true, cases_eq, cases_order}
use Rattle.std.proofs.lemmas.Option.{none-some, same_Some}
use Rattle.jr_tree.specs.declared.label.Label.{Label}
use Rattle.jr_tree.specs.declared.label.Label.TheVariants as is
use Rattle.jr_tree.specs.declared.label.Role.TheVariants as role
use Rattle.jr_tree.specs.Labels.{role_of}
use Rattle.jr_tree.specs.Rows.{Rows, label, parent, end}
use Rattle.jr_tree.specs.Tree.{IsTree}
use Rattle.jr_defs.specs.Enclosing.{BodyOf, InBody}
use Rattle.jr_plain.specs.Search.{last_below, Finds}
use Rattle.jr_plain.specs.Enclosing as plain
use Rattle.jr_plain.proofs.Bounds.{body_below, type_below}
use Rattle.jr_plain.proofs.Enclosed.{in_body_tells, innermost_finds}
use Rattle.jr_lookup.specs.Outward.{IsInnermostSuch, IsWalking}

-- a number that passes is at most the last one
pub last_least : (test : ℕ → Bool) (n k : ℕ) → k < n → test k ≡ true → (h : ℕ) × (last_below n test ≡ Some h) × (k ≤ h)
last_least test zero k lt h = absurd (omega arith)
last_least test (suc n) k lt h = by (test n) refl (λ less. last_least test n k less h)
  where
    by : (b : Bool) → test n ≡ b → (k < n → (h : ℕ) × (last_below n test ≡ Some h) × (k ≤ h)) → (h : ℕ) × (cond b (Some n) (last_below n test) ≡ Some h) × (k ≤ h)
    by true e more = (n, refl, omega arith)
    by false e more = ⊎_elim (λ same. absurd (false≢true (sym e ∙ ap test (sym same) ∙ h))) (λ apart. more (omega arith)) (cases_eq k n)

no_body : (l : Label) → role_of l ≡ role.Type → l ≡ is.Body → ⊥
no_body l e f = let h = subst (λ l. role_of l ≡ role.Type) f e in cc

module _ (p : Rows) (tree : IsTree p) where
  pub body_down : (c b : ℕ) → BodyOf p c b → c < b
  body_down c b h = ⊎_elim (λ same. absurd (first same)) (λ apart. let lt = tree.up b (body_below p c b h) (omega arith) in let is = h.inside in omega arith) (cases_eq b 0)
    where
      first : b ≡ 0 → ⊥
      first same = let is : c ≡ b = sym h.inside ∙ ap (parent p) same ∙ tree.root ∙ sym same in no_body (label p c) h.type (ap (label p) is ∙ h.body)

  pub in_body_down : (c o : ℕ) → InBody p c o → c < o
  in_body_down c o h = let lt = body_down c h.body h.of_type in let after = h.after in omega arith

  -- of two types round a place the one further out is round the other
  pub nested : (c h o : ℕ) → InBody p c o → InBody p h o → c < h → InBody p c h
  nested c h o i k lt =
      let below = body_down h k.body k.of_type in
      let a = i.after in let b = i.before in let d = k.after in let e = k.before in
      ⊎_elim (λ same. let is = sym i.of_type.inside ∙ ap (parent p) same ∙ k.of_type.inside in absurd (omega arith))
      (⊎_elim inwards (λ less. let up = tree.inner k.body i.body less (omega arith) in let is = i.of_type.inside in absurd (omega arith))) (cases_order i.body k.body)
    where
      inwards : i.body < k.body → InBody p c h
      inwards less =
          let below = body_down h k.body k.of_type in
          let a = i.after in let b = i.before in let d = k.after in let e = k.before in
          let up = tree.inner i.body k.body less (omega arith) in let is = k.of_type.inside in
          ⊎_elim (λ same. absurd (no_body (label p h) k.of_type.type (ap (label p) (sym same) ∙ i.of_type.body)))
          (λ apart. record { body = i.body; of_type = i.of_type; after = omega arith; before = omega arith }) (cases_eq i.body h)

  -- a type round a type round the place is round the place
  pub outer : (c h o : ℕ) → InBody p c h → InBody p h o → InBody p c o
  outer c h o i k =
      let below = body_down h k.body k.of_type in
      let lt = body_below p h k.body k.of_type in
      let a = i.after in let b = i.before in let d = k.after in let e = k.before in
      let held : k.body < end p h = subst (λ m. k.body < end p m) k.of_type.inside (tree.held k.body lt (omega arith)) in
      let one = tree.apart h k.body below held in
      let two = tree.apart i.body h a b in
      record { body = i.body; of_type = i.of_type; after = omega arith; before = omega arith }

  module _ (P : ℕ → Type 0) where
    pub walk_start : (o : ℕ) (around : Option ℕ) → around ≡ plain.innermost p o → IsWalking p P o 0 around
    walk_start o around e = record {
      inside = λ h is. ((innermost_finds p o h).0 (sym e ∙ is)).holds;
      rest = λ c i holds. let f = last_least (λ c. plain.is_in_body p c o) (length p) c (type_below p c i.of_type.type) ((in_body_tells p c o).1 i) in (f.0, e ∙ f.1, f.2);
      few = λ h is. let lt = in_body_down h o ((innermost_finds p o h).0 (sym e ∙ is)).holds in omega arith;
    }

    pub walk_next : (o turn h : ℕ) (around next : Option ℕ) → IsWalking p P o turn around → around ≡ Some h → (P h → ⊥) → next ≡ plain.innermost p h → IsWalking p P o (turn + 1) next
    walk_next o turn h around next w here out e = record {
      inside = λ g is. outer g h o ((innermost_finds p h g).0 (sym e ∙ is)).holds (w.inside h here);
      rest = further;
      few = λ g is. let lt = in_body_down g h ((innermost_finds p h g).0 (sym e ∙ is)).holds in let less = w.few h here in omega arith;
    }
      where
        further : (c : ℕ) → InBody p c o → P c → (g : ℕ) × (next ≡ Some g) × (c ≤ g)
        further c i holds = let r = w.rest c i holds in let same = same_Some r.0 h (sym r.1 ∙ here) in let le = r.2 in
            ⊎_elim (λ is. absurd (out (subst P is holds)))
            (λ apart. let inner = nested c h o i (w.inside h here) (omega arith) in let f = last_least (λ c. plain.is_in_body p c h) (length p) c (type_below p c inner.of_type.type) ((in_body_tells p c h).1 inner) in (f.0, e ∙ f.1, f.2))
            (cases_eq c h)

    pub walk_found : (o turn h : ℕ) (around : Option ℕ) → IsWalking p P o turn around → around ≡ Some h → P h → Finds (Some h) (IsInnermostSuch p P o)
    walk_found o turn h around w here holds c = (
      λ e. subst (IsInnermostSuch p P o) (same_Some h c e) (record { round = w.inside h here; such = holds; innermost = at_most }),
      λ k. let a = at_most c k.round k.such in let b = k.innermost h (w.inside h here) holds in ap Some (omega arith),
    )
      where
        at_most : (e : ℕ) → InBody p e o → P e → e ≤ h
        at_most e i k = let r = w.rest e i k in let same = same_Some r.0 h (sym r.1 ∙ here) in let le = r.2 in omega arith

    pub walk_none : (o turn : ℕ) (around : Option ℕ) → IsWalking p P o turn around → around ≡ None → Finds None (IsInnermostSuch p P o)
    walk_none o turn around w none c = (λ e. absurd (none-some c e), λ k. let r = w.rest c k.round k.such in absurd (none-some r.0 (sym none ∙ r.1)))

    -- there are no more turns than types round the place
    pub walk_short : (o turn : ℕ) (around : Option ℕ) → IsWalking p P o turn around → o ≤ turn → Finds None (IsInnermostSuch p P o)
    walk_short o turn around w le c = (λ e. absurd (none-some c e), λ k. let r = w.rest c k.round k.such in let less = w.few r.0 r.1 in absurd (omega arith))

pub such_none : (p : Rows) (P : ℕ → Type 0) (o : ℕ) → ((c : ℕ) → P c → ⊥) → Finds None (IsInnermostSuch p P o)
such_none p P o out c = (λ e. absurd (none-some c e), λ k. absurd (out c k.such))
