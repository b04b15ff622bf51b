-- In the rows of a tree, what is right below a row is found from child to child; so are the members that a body declares.
use Rattle.std.proofs.Common.{◌≡◌, ◌⊎◌, refl, sym, ◌∙◌, ap, subst, inl, inr, ⊎_elim, arith, ℕ, zero, suc, ◌+◌, ◌≤◌, ◌<◌, Bool, true, false, cond, not, ◌&&◌, [], ◌∷◌, length, filter, flat_map, nat_eq, Decides}
use Rattle.std.proofs.lemmas.Bool.{false≢true, cases_eq, cases_lt, cases_order}
use Rattle.std.proofs.lemmas.Bool.Decides.{Decides-eqb}
use Rattle.jr_tree.specs.declared.label.Role.{Role}
use Rattle.jr_tree.specs.declared.label.Role.TheVariants as role
use Rattle.jr_tree.specs.Labels.{role_of}
use Rattle.jr_tree.specs.Rows.{Rows, label, parent, end, role_at}
use Rattle.jr_tree.specs.Tree.{IsTree}
use Rattle.jr_defs.specs.Enclosing.{BodyOf, IsMemberRole, holder, DeclaredIn}
use Rattle.jr_plain.specs.Search.{has, Lists}
use Rattle.jr_plain.specs.Same.{same_role}
use Rattle.jr_plain.specs.Enclosing.{is_body_of, is_member_role, children_from, children, declared_at, declared_by}
use Rattle.jr_plain.proofs.Tests.{never, both, either, opposite, like}
use Rattle.jr_plain.proofs.Searches.{among_append, among_filter, if_tells, flat_of}
use Rattle.jr_plain.proofs.Same.{role_tells}
use Rattle.jr_plain.proofs.Bounds.{parent_past, member_below, body_below}
use Rattle.jr_plain.proofs.Enclosed.{body_tells, member_role_tells}

-- the row k stands right below n
abbrev pub IsChild : Rows → ℕ → ℕ → Type 0
IsChild p n k = (n < k) × (parent p k ≡ n)

module _ (p : Rows) (tree : IsTree p) where
  pub parent_below : (n : ℕ) → n < length p → parent p n < length p
  parent_below n lt = ⊎_elim (λ e. let root = ap (parent p) e ∙ tree.root in omega arith) (λ apart. let up = tree.up n lt (omega arith) in omega arith) (cases_eq n 0)

  pub child_below : (n k : ℕ) → IsChild p n k → k < length p
  child_below n k h = ⊎_elim (λ lt. lt) (λ le. let past = parent_past p k le in let lt = h.0 in let up = h.1 in absurd (omega arith)) (cases_lt k (length p))

  -- a child may begin at k: it is the row behind n, or the end of a child
  abbrev Begins : ℕ → ℕ → Type 0
  Begins n k = (k ≡ n + 1) ⊎ ((j : ℕ) × IsChild p n j × (k ≡ end p j))

  -- where a child of n is not before k, there is one at k
  first_child : (n k m : ℕ) → Begins n k → k ≤ m → IsChild p n m → parent p k ≡ n
  first_child n k m (inl e) le h =
      let lt = h.0 in let inside = child_below n m h in let held = tree.held m inside (omega arith) in let up = h.1 in let over = ap (end p) up in
      let low = tree.inner n k (omega arith) (omega arith) in let high = tree.up k (omega arith) (omega arith) in omega arith
  first_child n k m (inr b) le h = ⊎_elim (λ e. e) (λ apart. absurd (elsewhere apart)) (cases_eq (parent p k) n)
    where
      elsewhere : (parent p k ≡ n → ⊥) → ⊥
      elsewhere apart =
          let child = b.1 in let j = b.0 in let after = child.0 in let up = child.1 in let at = b.2 in let lt = h.0 in
          let inside = child_below n m h in let held = tree.held m inside (omega arith) in let over = ap (end p) h.1 in let grows = tree.nested j in
          let low = tree.inner n k (omega arith) (omega arith) in
          let high = tree.up k (omega arith) (omega arith) in
          let holds = tree.held k (omega arith) (omega arith) in
          ⊎_elim (λ e. let same = ap (end p) e in omega arith)
          (⊎_elim (λ below. let over_j = tree.inner (parent p k) j below (omega arith) in omega arith) (λ behind. let ends = tree.apart j (parent p k) behind (omega arith) in omega arith))
          (cases_order (parent p k) j)

  -- the next child stands where this one ends
  next_child : (n k m : ℕ) → IsChild p n k → k < m → IsChild p n m → end p k ≤ m
  next_child n k m child lt h = ⊎_elim (λ inside. let low = tree.inner k m lt inside in let up = h.1 in let after = child.0 in absurd (omega arith)) (λ le. le) (cases_lt m (end p k))

  from_list : (n rounds k : ℕ) → n < k → length p ≤ k + rounds → Begins n k → (m : ℕ) → Decides (has (children_from p n rounds k) m) ((k ≤ m) × IsChild p n m)
  from_list n zero k after room begins m = like never (λ h. absurd h) (λ h. let lt = child_below n m h.1 in let le = h.0 in absurd (omega arith))
  from_list n (suc rounds) k after room begins m =
      by (nat_eq (parent p k) n) (Decides-eqb (parent p k) n) (λ up. let grows = tree.nested k in from_list n rounds (end p k) (omega arith) (omega arith) (behind up) m)
    where
      behind : parent p k ≡ n → Begins n (end p k)
      behind up = inr (k, (after, up), refl)

      by : (b : Bool) → Decides b (parent p k ≡ n) → (parent p k ≡ n → Decides (has (children_from p n rounds (end p k)) m) ((end p k ≤ m) × IsChild p n m))
          → Decides (has (cond b (k ∷ children_from p n rounds (end p k)) []) m) ((k ≤ m) × IsChild p n m)
      by true d rest = like (either (Decides-eqb k m) (rest (d.0 refl))) out into
        where
          out : (k ≡ m) ⊎ ((end p k ≤ m) × IsChild p n m) → (k ≤ m) × IsChild p n m
          out (inl e) = (omega arith, subst (IsChild p n) e (after, d.0 refl))
          out (inr h) = let le = h.0 in let grows = tree.nested k in (omega arith, h.1)

          into : (k ≤ m) × IsChild p n m → (k ≡ m) ⊎ ((end p k ≤ m) × IsChild p n m)
          into h = let le = h.0 in ⊎_elim inl (λ apart. inr (next_child n k m (after, d.0 refl) (omega arith) h.1, h.1)) (cases_eq k m)
      by false d rest = like never (λ h. absurd h) (λ h. let up = d.1 (first_child n k m begins h.0 h.1) in absurd (false≢true up))

  pub children_list : (n : ℕ) → Lists (children p n) (λ k. IsChild p n k)
  children_list n k = like (from_list n (length p) (n + 1) (omega arith) (omega arith) (start n) k) (λ h. h.1) (λ h. let lt = h.0 in (omega arith, h))
    where
      start : (n : ℕ) → Begins n (n + 1)
      start n = inl refl

  -- ---- members

  pub row_of_child : (n k : ℕ) → k < length p → (k ≡ 0 → ⊥) → parent p k ≡ n → IsChild p n k
  row_of_child n k lt apart up = let less = tree.up k lt (⊎_elim (λ e. absurd (apart e)) (λ h. omega arith) (cases_eq k 0)) in (omega arith, up)

  abbrev IsDeclaredAt : ℕ → ℕ → Type 0
  IsDeclaredAt k d = ((IsMemberRole (role_at p k) × (role_at p k ≡ role.Field → ⊥)) × (k ≡ d)) ⊎ (IsChild p k d × (role_at p d ≡ role.Field))

  -- the row itself, if it is a member and no field
  own_tells : (k d : ℕ) → Decides (has (cond (is_member_role (role_at p k) && not (same_role (role_at p k) role.Field)) (k ∷ []) []) d)
      ((IsMemberRole (role_at p k) × (role_at p k ≡ role.Field → ⊥)) × (k ≡ d))
  own_tells k d = like
      (if_tells nat_eq Decides-eqb (is_member_role (role_at p k) && not (same_role (role_at p k) role.Field))
      (both (member_role_tells (role_at p k)) (opposite (role_tells (role_at p k) role.Field))) (k ∷ []) d)
      (λ h. (h.0, ⊎_elim (λ e. e) (λ n. absurd n) ((either (Decides-eqb k d) never).0 h.1))) (λ h. (h.0, (either (Decides-eqb k d) never).1 (inl h.1)))

  fields_tell : (k d : ℕ) → Decides (has (filter (λ d. same_role (role_at p d) role.Field) (children p k)) d) (IsChild p k d × (role_at p d ≡ role.Field))
  fields_tell k d = like (among_filter nat_eq Decides-eqb (λ d. same_role (role_at p d) role.Field) (children p k) d)
      (λ h. ((children_list k d).0 h.0, (role_tells (role_at p d) role.Field).0 h.1)) (λ h. ((children_list k d).1 h.0, (role_tells (role_at p d) role.Field).1 h.1))

  declared_at_tells : (k d : ℕ) → Decides (has (declared_at p k) d) (IsDeclaredAt k d)
  declared_at_tells k d = like
      (among_append nat_eq Decides-eqb (cond (is_member_role (role_at p k) && not (same_role (role_at p k) role.Field)) (k ∷ []) []) (filter (λ d. same_role (role_at p d) role.Field) (children p k)) d)
      (⊎_elim (λ h. inl ((own_tells k d).0 h)) (λ h. inr ((fields_tell k d).0 h))) (⊎_elim (λ h. inl ((own_tells k d).1 h)) (λ h. inr ((fields_tell k d).1 h)))

  in_body_tells : (c b d : ℕ) → Decides (has (cond (is_body_of p c b) (flat_map (declared_at p) (children p b)) []) d) (BodyOf p c b × ((k : ℕ) × IsChild p b k × IsDeclaredAt k d))
  in_body_tells c b d = like (if_tells nat_eq Decides-eqb (is_body_of p c b) (body_tells p c b) (flat_map (declared_at p) (children p b)) d)
      (λ h. (h.0, let k = (flat_of nat_eq (declared_at p) (children p b) (children_list b) d).0 h.1 in (k.0, k.1, (declared_at_tells k.0 d).0 k.2)))
      (λ h. (h.0, (flat_of nat_eq (declared_at p) (children p b) (children_list b) d).1 (h.1.0, h.1.1, (declared_at_tells h.1.0 d).1 h.1.2)))

  other_holder : (r : Role) (d : ℕ) → (r ≡ role.Field → ⊥) → holder r p d ≡ parent p d
  other_holder role.Field d apart = absurd (apart refl)
  other_holder _ d apart = refl

  field_holder : (r : Role) (d : ℕ) → r ≡ role.Field → holder r p d ≡ parent p (parent p d)
  field_holder r d e = ap (λ r. holder r p d) e

  body_not_root : (c b : ℕ) → BodyOf p c b → b ≡ 0 → ⊥
  body_not_root c b h at_root =
      let top = ap (parent p) at_root ∙ tree.root in let up = h.inside in let same : c ≡ b = omega arith in
      let type = h.type in let body : role_at p c ≡ role.Nothing = ap role_of (ap (label p) same ∙ h.body) in cc

  from_body : (c b k d : ℕ) → BodyOf p c b → IsChild p b k → IsDeclaredAt k d → DeclaredIn p c d
  from_body c b k d body child (inl h) =
      let up = ap (parent p) (sym h.1) ∙ child.1 in
      record {
        member = subst (λ x. IsMemberRole (role_at p x)) h.1 h.0.0;
        inside = subst (λ x. BodyOf p c x) (sym (other_holder (role_at p d) d (λ e. h.0.1 (ap (role_at p) h.1 ∙ e)) ∙ up)) body;
      }
  from_body c b k d body child (inr h) =
      record { member = subst IsMemberRole (sym h.1) tt; inside = subst (λ x. BodyOf p c x) (sym (field_holder (role_at p d) d h.1 ∙ (ap (parent p) h.0.1 ∙ child.1))) body }

  to_body : (c d : ℕ) → DeclaredIn p c d → (b : ℕ) × BodyOf p c b × ((k : ℕ) × IsChild p b k × IsDeclaredAt k d)
  to_body c d h = by (same_role (role_at p d) role.Field) (role_tells (role_at p d) role.Field)
    where
      lt : d < length p
      lt = member_below p d h.member

      by : (x : Bool) → Decides x (role_at p d ≡ role.Field) → (b : ℕ) × BodyOf p c b × ((k : ℕ) × IsChild p b k × IsDeclaredAt k d)
      by true f = let body = subst (λ x. BodyOf p c x) (field_holder (role_at p d) d (f.0 refl)) h.inside in
          let apart : parent p d ≡ 0 → ⊥ = λ e. body_not_root c (parent p (parent p d)) body (ap (parent p) e ∙ tree.root) in (
            parent p (parent p d),
            body,
            (
              parent p d,
              row_of_child (parent p (parent p d)) (parent p d) (parent_below d lt) apart refl,
              inr (row_of_child (parent p d) d lt (λ e. apart (ap (parent p) e ∙ tree.root)) refl, f.0 refl),
            ),
          )
      by false f = let other : role_at p d ≡ role.Field → ⊥ = λ e. false≢true (f.1 e) in
          let body = subst (λ x. BodyOf p c x) (other_holder (role_at p d) d other) h.inside in
          (parent p d, body, (d, row_of_child (parent p d) d lt (λ e. body_not_root c (parent p d) body (ap (parent p) e ∙ tree.root)) refl, inl ((h.member, other), refl)))

  pub declared_list : (c : ℕ) → Lists (declared_by p c) (λ d. DeclaredIn p c d)
  declared_list c d = like (flat_of nat_eq (λ b. cond (is_body_of p c b) (flat_map (declared_at p) (children p b)) []) (children p c) (children_list c) d)
      (λ h. let k = (in_body_tells c h.0 d).0 h.2 in from_body c h.0 k.1.0 d k.0 k.1.1 k.1.2) into
    where
      into : DeclaredIn p c d → (b : ℕ) × IsChild p c b × (has (cond (is_body_of p c b) (flat_map (declared_at p) (children p b)) []) d ≡ true)
      into h = let k = to_body c d h in let body = k.1 in
          (k.0, row_of_child c k.0 (body_below p c k.0 body) (body_not_root c k.0 body) body.inside, (in_body_tells c k.0 d).1 (body, k.2))
