-- The innermost type round a row is that of the row over it, but right below a body.
use Rattle.std.proofs.Common.{◌≡◌, refl, sym, ◌∙◌, ap, ap₂, ◌∷◌, ◌++◌, add-one, subst, ⊎_elim, arith, ℕ, zero, suc, ◌+◌, ◌<◌, ◌≤◌, Bool, true, false, cond, List, [], length, get_or, Option, Some, None, Decides}
use Rattle.std.proofs.lemmas.Bool.{false≢true, cases_eq}
use Rattle.std.proofs.lemmas.Option.{none-some}
use Rattle.jr_tree.specs.declared.label.Label.{Label}
use Rattle.jr_tree.specs.declared.label.Label.TheVariants as is
use Rattle.jr_tree.specs.Labels.{role_of}
use Rattle.jr_tree.specs.declared.label.Role.TheVariants as role
use Rattle.jr_tree.specs.Rows.{Rows, label, parent}
use Rattle.jr_tree.specs.Tree.{IsTree}
use Rattle.jr_defs.specs.Enclosing.{BodyOf, InBody, Innermost}
use Rattle.jr_plain.specs.Search.{Finds}
use Rattle.jr_plain.specs.Enclosing as plain
use Rattle.jr_plain.proofs.Enclosed.{body_tells, innermost_finds}
use Rattle.jr_places.specs.Tabulated.{tabulated}
use Rattle.jr_places.proofs.Tables.{tabulated_at}
use Rattle.jr_places.specs.Rounds.{around_by, arounds}

-- two searches for one thing find the same
pub one_found : {A : Type 0} (P : A → Type 0) (a b : Option A) → Finds a P → Finds b P → a ≡ b
one_found P None None f g = refl
one_found P None (Some y) f g = (f y).1 ((g y).0 refl)
one_found P (Some x) b f g = sym ((g x).1 ((f x).0 refl))

module _ (p : Rows) (tree : IsTree p) where
  -- right below a body
  below_body : (n : ℕ) → n < length p → 0 < n → BodyOf p (parent p (parent p n)) (parent p n) → Innermost p n (parent p (parent p n))
  below_body n lt pos h = record {
    holds = record { body = parent p n; of_type = h; after = tree.up n lt pos; before = tree.held n lt pos };
    innermost = further;
  }
    where
      further : (e : ℕ) → InBody p e n → e ≤ parent p (parent p n)
      further e i =
          let up = tree.up n lt pos in
          let le = tree.inner i.body n i.after i.before in
          let a = i.after in
          let b = i.before in
          ⊎_elim (λ same. let is = sym i.of_type.inside ∙ ap (parent p) same in omega (arith, is))
          (λ apart. let low = tree.inner i.body (parent p n) (omega arith) (omega arith) in let own = above i.body e i.of_type.inside (omega arith) in omega arith)
          (cases_eq i.body (parent p n))
        where
          above : (b e : ℕ) → parent p b ≡ e → b < length p → e ≤ b
          above b e is lt = ⊎_elim (λ z. let r = tree.root in let q = subst (λ k. parent p k ≡ e) z is in omega arith) (λ s. let u = tree.up b lt (omega arith) in omega arith) (cases_eq b 0)

  module _ (n : ℕ) (lt : n < length p) (pos : 0 < n) (no : BodyOf p (parent p (parent p n)) (parent p n) → ⊥) where
    out : (e : ℕ) → InBody p e n → InBody p e (parent p n)
    out e i =
        let up = tree.up n lt pos in
        let le = tree.inner i.body n i.after i.before in
        let a = i.after in
        let b = i.before in
        ⊎_elim (λ same. absurd (no (subst (λ b. BodyOf p (parent p b) b) same (subst (λ c. BodyOf p c i.body) (sym i.of_type.inside) i.of_type))))
        (λ apart. record { body = i.body; of_type = i.of_type; after = omega arith; before = omega arith }) (cases_eq i.body (parent p n))

    into : (e : ℕ) → InBody p e (parent p n) → InBody p e n
    into e i =
        let up = tree.up n lt pos in
        let held = tree.held n lt pos in
        let a = i.after in
        let ends = tree.apart i.body (parent p n) i.after i.before in
        record { body = i.body; of_type = i.of_type; after = omega arith; before = omega arith }

    same_innermost : (c : ℕ) → Innermost p (parent p n) c → Innermost p n c
    same_innermost c h = record { holds = into c h.holds; innermost = λ e i. h.innermost e (out e i) }

    innermost_same : (c : ℕ) → Innermost p n c → Innermost p (parent p n) c
    innermost_same c h = record { holds = out c h.holds; innermost = λ e i. h.innermost e (into e i) }

    carried : Finds (plain.innermost p (parent p n)) (λ c. Innermost p n c)
    carried c = (λ e. same_innermost c ((innermost_finds p (parent p n) c).0 e), λ h. (innermost_finds p (parent p n) c).1 (innermost_same c h))

  none_first : Finds None (λ c. Innermost p 0 c)
  none_first c = (λ e. absurd (none-some c e), λ h. let a = h.holds.after in absurd (omega arith))

  no_body : (l : Label) → role_of l ≡ role.Type → l ≡ is.Body → ⊥
  no_body l e f = let h = subst (λ l. role_of l ≡ role.Type) f e in cc

  one_innermost : (n c d : ℕ) → Innermost p n c → Innermost p n d → c ≡ d
  one_innermost n c d h k = let a = h.innermost d k.holds in let b = k.innermost c h.holds in omega arith

  stepped : (n : ℕ) → n < length p → (b : Bool) → Decides b (BodyOf p (parent p (parent p n)) (parent p n))
      → cond b (Some (parent p (parent p n))) (get_or (tabulated (plain.innermost p) n) (parent p n) None) ≡ plain.innermost p n
  stepped zero lt true d = let h = d.0 refl in
      absurd (no_body (label p (parent p 0)) (subst (λ k. role_of (label p k) ≡ role.Type) (ap (parent p) tree.root ∙ refl) h.type) h.body)
  stepped zero lt false d = one_found (λ c. Innermost p 0 c) None (plain.innermost p 0) none_first (innermost_finds p 0)
  stepped (suc n) lt true d = sym ((innermost_finds p (suc n) (parent p (parent p (suc n)))).1 (below_body (suc n) lt (omega arith) (d.0 refl)))
  stepped (suc n) lt false d = let up = tree.up (suc n) lt (omega arith) in
      tabulated_at (plain.innermost p) None (suc n) (parent p (suc n)) up
      ∙ one_found (λ c. Innermost p (suc n) c) (plain.innermost p (parent p (suc n))) (plain.innermost p (suc n)) (carried (suc n) lt (omega arith) (λ h. false≢true (d.1 h))) (innermost_finds p (suc n))

pub around_step : (p : Rows) (n : ℕ) → IsTree p → n < length p → around_by p (tabulated (plain.innermost p) n) n ≡ plain.innermost p n
around_step p n tree lt = stepped p tree n lt (plain.is_body_of p (parent p (parent p n)) (parent p n)) (body_tells p (parent p (parent p n)) (parent p n))

pub all_innermost : (p : Rows) (n : ℕ) → IsTree p → n ≤ length p → arounds p n ≡ tabulated (plain.innermost p) n
all_innermost p zero tree le = refl
all_innermost p (suc n) tree le = ap₂ (λ xs x. xs ++ x ∷ []) (all_innermost p n tree (omega arith)) (ap (λ xs. around_by p xs n) (all_innermost p n tree (omega arith)) ∙ around_step p n tree (omega arith))

pub around_more : (p : Rows) (n : ℕ) (all known more : List (Option ℕ)) (x : Option ℕ) → all ≡ arounds p n → known ≡ all → x ≡ around_by p known n → more ≡ all ++ x ∷ [] → more ≡ arounds p (n + 1)
around_more p n all known more x h same is pushed = rw add-one (pushed ∙ ap₂ (λ xs x. xs ++ x ∷ []) h (is ∙ ap (λ xs. around_by p xs n) (same ∙ h)))
