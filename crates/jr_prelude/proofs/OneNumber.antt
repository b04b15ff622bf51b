-- No two declarations have one number.
use Rattle.std.proofs.Common.{◌≡◌, ◌⊎◌, inl, inr, ℕ, zero, suc, ◌+◌, ◌<◌, ◌≤◌, true, false, refl, sym, ◌∙◌, ap, subst, arith}
use Rattle.std.proofs.lemmas.Bool.{cases_order, cases_lt}
use Rattle.jr_base.specs.declared.ids.DeclId.{DeclId}
use Rattle.jr_tree.specs.declared.label.Label.{Label}
use Rattle.jr_tree.specs.declared.label.Label.TheVariants as is
use Rattle.jr_tree.specs.declared.label.Role.TheVariants as role
use Rattle.jr_tree.specs.Labels.{role_of, nodes_of}
use Rattle.jr_tree.specs.Rows.{Rows, label, role_at, nodes_before}
use Rattle.jr_defs.specs.Numbers.{units_before, one_if_unit, offset, numbered_at, nodes_to, nodes_to_by, declaration_part, IsDeclaration}
use Rattle.jr_defs.proofs.Units.{nodes_rise, units_rise}

-- ---- no two declarations have one number

-- the node of a declaration is one of those that its row stands for
counted : (l : Label) → (role_of l ≡ role.Nothing → ⊥) → declaration_part l ≡ 0 → offset l < nodes_of l
counted (is.Class m false) h k = omega arith
counted (is.Class m true) h k = omega arith
counted (is.Interface m false) h k = omega arith
counted (is.Interface m true) h k = omega arith
counted (is.Field m dims) h k = omega arith
counted (is.Method m is_void has_body) h k = omega arith
counted (is.Constructor m) h k = omega arith
counted is.DefaultConstructor h k = absurd (omega arith)
counted (is.Parameter f dims) h k = omega arith
counted (is.Local f dims) h k = omega arith
counted is.Labeled h k = omega arith
counted _ h k = absurd (h refl)

itself : (l : Label) (p : Rows) (n : ℕ) → (role_of l ≡ role.Nothing → ⊥) → declaration_part l ≡ 0 → numbered_at l p n ≡ n
itself is.DefaultConstructor p n h k = absurd (omega arith)
itself is.ImplicitCall p n h k = absurd (h refl)
itself _ p n h k = refl

own_number : (l : Label) (p : Rows) (n : ℕ) → (role_of l ≡ role.Nothing → ⊥) → nodes_to_by l p n ≡ nodes_before p n + offset l
own_number (is.Name kind at is_qualified) p n h = absurd (h refl)
own_number _ p n h = refl

next_unit : (p : Rows) (u v : ℕ) → label p u ≡ is.Unit → u < v → units_before p u < units_before p v
next_unit p u v unit l =
    let one : units_before p (suc u) ≡ units_before p u + 1 = ap (λ l. units_before p u + one_if_unit l) unit in
    let le = units_rise p (suc u) v (omega arith) in
    omega arith

pub one_unit : (p : Rows) (u v : ℕ) → label p u ≡ is.Unit → label p v ≡ is.Unit → units_before p u ≡ units_before p v → u ≡ v
one_unit p u v first second same = elim (cases_order u v) [
  | inl e ↦ e
  | inr (inl l) ↦ absurd (let less = next_unit p u v first l in omega arith)
  | inr (inr g) ↦ absurd (let less = next_unit p v u second g in omega arith)
]

-- where the node of a declaration stands
record Stands (p : Rows) (d : ℕ) (number : DeclId) : Type 0 where
  pub unit : ℕ
  pub is_unit : label p unit ≡ is.Unit
  pub counts : number.at.cu.0 ≡ units_before p unit
  pub within : offset (label p d) < nodes_of (label p d)
  pub node : number.at.node.0 + nodes_before p unit ≡ nodes_before p d + offset (label p d)

stands : (p : Rows) (d : ℕ) (number : DeclId) → number.part ≡ 0 → (role_at p d ≡ role.Nothing → ⊥) → IsDeclaration p d number → Stands p d number
stands p d number first declares h =
    let part : declaration_part (label p d) ≡ 0 = sym h.part_is ∙ first in
    let to : nodes_to p (numbered_at (label p d) p d) ≡ nodes_before p d + offset (label p d) =
    ap (nodes_to p) (itself (label p d) p d declares part) ∙ own_number (label p d) p d declares in
    record { unit = h.node.unit; is_unit = h.node.holds.unit; counts = h.node.in_unit; within = counted (label p d) declares part; node = h.node.is_node ∙ to }

before : (p : Rows) (d e : ℕ) (number : DeclId) → (s : Stands p d number) → (w : Stands p e number) → s.unit ≡ w.unit → d < e → ⊥
before p d e number s w same less =
    let le = nodes_rise p (suc d) e (omega arith) in
    let first = s.node in
    let second : number.at.node.0 + nodes_before p s.unit ≡ nodes_before p e + offset (label p e) = subst (λ u. number.at.node.0 + nodes_before p u ≡ nodes_before p e + offset (label p e)) (sym same) w.node in
    let within = s.within in
    omega arith

pub one_number : (p : Rows) (number : DeclId) → number.part ≡ 0 → (d e : ℕ) → (role_at p d ≡ role.Nothing → ⊥) → (role_at p e ≡ role.Nothing → ⊥)
    → IsDeclaration p d number → IsDeclaration p e number → d ≡ e
one_number p number first d e one two h k =
    let s = stands p d number first one h in
    let w = stands p e number first two k in
    let same = one_unit p s.unit w.unit s.is_unit w.is_unit (sym s.counts ∙ w.counts) in
    elim (cases_order d e) [
      | inl e ↦ e
      | inr (inl l) ↦ absurd (before p d e number s w same l)
      | inr (inr g) ↦ absurd (before p e d number w s (sym same) g)
    ]
