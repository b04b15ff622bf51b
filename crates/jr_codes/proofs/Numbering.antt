-- Nodes as they are counted are those of declarations.
use Rattle.std.proofs.Common.{◌≡◌, inl, inr, ℕ, zero, suc, ◌+◌, ◌-◌, ◌<◌, ◌≤◌, ◌^◌, true, false, List, [], ◌∷◌, ◌++◌, length, get_or, refl, sym, ◌∙◌, ap, subst, arith, length-append}
use Rattle.std.proofs.Math.ListN.{get_or-append}
use Rattle.std.proofs.Math.Seq.{get_or-append_seam}
use Rattle.std.proofs.lemmas.Bool.{cases_lt}
use Rattle.jr_base.specs.declared.ids.DeclId.{DeclId}
use Rattle.jr_base.specs.declared.ids.NodeAt.{NodeAt}
use Rattle.jr_tree.specs.declared.label.Label.{Label}
use Rattle.jr_tree.specs.declared.label.Label.TheVariants as is
use Rattle.jr_tree.specs.declared.label.Role.TheVariants as role
use Rattle.jr_tree.specs.Labels.{role_of, nodes_of}
use Rattle.jr_tree.specs.Local.{IsLocal}
use Rattle.jr_tree.specs.Rows.{Rows, label, role_at, nodes_before}
use Rattle.jr_defs.specs.Numbers.{units_before, one_if_unit, offset, numbered_at, nodes_to_by, declaration_part, IsDeclaration}
use Rattle.jr_defs.specs.Numbers as numbers
use Rattle.jr_defs.specs.Packages.{InUnit}
use Rattle.jr_defs.proofs.Units.{nodes_rise, unit_there, none_inside}
use Rattle.jr_codes.specs.declared.ids.Count.{Count}
use Rattle.jr_codes.specs.Reads.{node_at, decl_by, decl_at}
use Rattle.jr_codes.specs.Numbered.{declaring, bounded, entered, node_of, passed, count_to, counted_nodes, NumbersDeclarations}

unit_has_node : (l : Label) → one_if_unit l ≤ nodes_of l
unit_has_node is.Unit = omega arith
unit_has_node _ = omega arith

fewer_units : (p : Rows) (n : ℕ) → units_before p n ≤ nodes_before p n
fewer_units p zero = omega arith
fewer_units p (suc n) = let z = fewer_units p n in let w = unit_has_node (label p n) in omega arith

-- ---- one row

bounded_small : (n : ℕ) → n < 2 ^ 32 → bounded n ≡ n
bounded_small n h = grind arith

entered_units : (l : Label) (c : Count) (k : ℕ) → c.units ≡ k → k + one_if_unit l < 2 ^ 32 → (entered l c).units ≡ k + one_if_unit l
entered_units is.Unit c k e h = let s = bounded_small (c.units + 1) (omega arith) in omega arith
entered_units _ c k e h = omega arith

stays : (l : Label) (c : Count) → (l ≡ is.Unit → ⊥) → entered l c ≡ c
stays is.Unit c h = absurd (h refl)
stays _ c h = refl

no_unit : (l : Label) → (role_of l ≡ role.Nothing → ⊥) → l ≡ is.Unit → ⊥
no_unit l h e = h (ap role_of e)

-- the node of a declaration that is written is one of those that its row stands for
record OfRow (l : Label) (p : Rows) (n : ℕ) : Type 0 where
  pub within : offset l < nodes_of l
  pub same : declaring l ≡ offset l
  pub itself : numbered_at l p n ≡ n
  pub own : nodes_to_by l p n ≡ nodes_before p n + offset l
  pub decl : (nodes : List NodeAt) → decl_by l nodes p n ≡ record { at = node_at nodes n; part = 0 }

of_row : (l : Label) (p : Rows) (n : ℕ) → (role_of l ≡ role.Nothing → ⊥) → declaration_part l ≡ 0 → OfRow l p n
of_row (is.Class m false) p n h k = record { within = omega arith; same = refl; itself = refl; own = refl; decl = λ nodes. refl }
of_row (is.Class m true) p n h k = record { within = omega arith; same = refl; itself = refl; own = refl; decl = λ nodes. refl }
of_row (is.Interface m false) p n h k = record { within = omega arith; same = refl; itself = refl; own = refl; decl = λ nodes. refl }
of_row (is.Interface m true) p n h k = record { within = omega arith; same = refl; itself = refl; own = refl; decl = λ nodes. refl }
of_row (is.Field m dims) p n h k = record { within = omega arith; same = refl; itself = refl; own = refl; decl = λ nodes. refl }
of_row (is.Method m is_void has_body) p n h k = record { within = omega arith; same = refl; itself = refl; own = refl; decl = λ nodes. refl }
of_row (is.Constructor m) p n h k = record { within = omega arith; same = refl; itself = refl; own = refl; decl = λ nodes. refl }
of_row is.DefaultConstructor p n h k = absurd (omega arith)
of_row (is.Parameter f dims) p n h k = record { within = omega arith; same = refl; itself = refl; own = refl; decl = λ nodes. refl }
of_row (is.Local f dims) p n h k = record { within = omega arith; same = refl; itself = refl; own = refl; decl = λ nodes. refl }
of_row is.Labeled p n h k = record { within = omega arith; same = refl; itself = refl; own = refl; decl = λ nodes. refl }
of_row _ p n h k = absurd (h refl)

-- ---- the nodes of the first rows

length_nodes : (p : Rows) (n : ℕ) → length (counted_nodes p n) ≡ n
length_nodes p zero = refl
length_nodes p (suc n) =
    let s = length-append (counted_nodes p n) (node_of (label p n) (entered (label p n) (count_to p n)) ∷ []) in let h = length_nodes p n in omega arith

nodes_at : (p : Rows) (n k : ℕ) (none : NodeAt) → k < n → get_or (counted_nodes p n) k none ≡ node_of (label p k) (entered (label p k) (count_to p k))
nodes_at p zero k none h = absurd (omega arith)
nodes_at p (suc n) k none h =
    let new : ℕ → NodeAt = λ n. node_of (label p n) (entered (label p n) (count_to p n)) in
    let s = length_nodes p n in
    elim (cases_lt k n) [
      | inl l ↦ get_or-append (counted_nodes p n) (new n ∷ []) none k (omega arith) ∙ nodes_at p n k none l
      | inr g ↦ (let e : n ≡ k = omega arith in
          subst (λ j. get_or (counted_nodes p n ++ new n ∷ []) j none ≡ new j) e
          (subst (λ j. get_or (counted_nodes p n ++ new n ∷ []) j none ≡ new n) s (get_or-append_seam (counted_nodes p n) (new n) [] none)))
    ]

module _ (p : Rows) (few : nodes_before p (length p) < 2 ^ 32) where
  units_are : (n : ℕ) → n ≤ length p → (count_to p n).units ≡ units_before p n
  units_are zero h = refl
  units_are (suc n) h =
      let rise = nodes_rise p (suc n) (length p) h in
      let fewer = fewer_units p (suc n) in
      entered_units (label p n) (count_to p n) (units_before p n) (units_are n (omega arith)) (omega arith)

  -- inside a unit
  record Inside (u n : ℕ) : Type 0 where
    pub unit : (count_to p n).unit ≡ units_before p u
    pub node : (count_to p n).node + nodes_before p u ≡ nodes_before p n

  begins : (l : Label) (c : Count) → l ≡ is.Unit → ((passed l (entered l c)).unit ≡ c.units) × ((passed l (entered l c)).node ≡ 1) × (nodes_of l ≡ 1)
  begins l c e = subst (λ l. ((passed l (entered l c)).unit ≡ c.units) × ((passed l (entered l c)).node ≡ 1) × (nodes_of l ≡ 1)) (sym e) (refl, refl, refl)

  goes_on : (l : Label) (c : Count) (unit before all : ℕ) → (l ≡ is.Unit → ⊥) → c.unit ≡ unit → c.node + before ≡ all → all + nodes_of l < 2 ^ 32
      → ((passed l (entered l c)).unit ≡ unit) × ((passed l (entered l c)).node + before ≡ all + nodes_of l)
  goes_on l c unit before all h e k small =
      subst (λ w. ((passed l w).unit ≡ unit) × ((passed l w).node + before ≡ all + nodes_of l)) (sym (stays l c h))
      (e, (let s = bounded_small (c.node + nodes_of l) (omega arith) in omega arith))

  inside : (u : ℕ) → label p u ≡ is.Unit → (n : ℕ) → u < n → n ≤ length p → ((v : ℕ) → u < v → v < n → label p v ≡ is.Unit → ⊥) → Inside u n
  inside u unit zero lt h alone = absurd (omega arith)
  inside u unit (suc n) lt h alone = elim (cases_lt u n) [
    | inl l ↦ (
        let w = inside u unit n l (omega arith) (λ v a b. alone v a (omega arith)) in
        let rise = nodes_rise p (suc n) (length p) h in
        let next = goes_on (label p n) (count_to p n) (units_before p u) (nodes_before p u) (nodes_before p n) (alone n l (omega arith)) w.unit w.node (omega arith) in
        record { unit = next.0; node = next.1 })
    | inr g ↦ (
        let e : u ≡ n = omega arith in
        let first = begins (label p n) (count_to p n) (ap (label p) (sym e) ∙ unit) in
        let counts = units_are n (omega arith) in
        subst (λ u. Inside u (suc n)) (sym e) (record { unit = first.0 ∙ counts; node = (let a = first.1 in let b = first.2 in omega arith) }))
  ]

same_number : (number : DeclId) (at : NodeAt) → at.cu.0 ≡ number.at.cu.0 → at.node.0 ≡ number.at.node.0 → number.part ≡ 0 → record { at = at; part = 0 } ≡ number
same_number number at cu node part =
    ap (λ c. record { at = record { cu = record { 0 = c }; node = at.node }; part = 0 }) cu
    ∙ ap (λ n. record { at = record { cu = number.at.cu; node = record { 0 = n } }; part = 0 }) node
    ∙ ap (λ k. record { at = number.at; part = k }) (sym part)

-- a declaration inside a unit has a number
abbrev number_of : Rows → ℕ → ℕ → DeclId
number_of p u d = record { at = record { cu = record { 0 = units_before p u }; node = record { 0 = nodes_before p d + offset (label p d) - nodes_before p u } }; part = 0 }

has_number : (p : Rows) (u d : ℕ) → InUnit p u d → (role_at p d ≡ role.Nothing → ⊥) → declaration_part (label p d) ≡ 0 → IsDeclaration p d (number_of p u d)
has_number p u d holds declares part =
    let of = of_row (label p d) p d declares part in
    let rise = nodes_rise p u d holds.from in
    let there : numbers.nodes_to p (numbered_at (label p d) p d) ≡ nodes_before p d + offset (label p d) = ap (numbers.nodes_to p) of.itself ∙ of.own in
    record { node = record { unit = u; holds = holds; in_unit = refl; is_node = omega arith }; part_is = sym part }

the_number : (p : Rows) → IsLocal p → nodes_before p (length p) < 2 ^ 32 → (d : ℕ) (number : DeclId) → (role_at p d ≡ role.Nothing → ⊥) → number.part ≡ 0
    → IsDeclaration p d number → decl_at (counted_nodes p (length p)) p d ≡ number
the_number p local few d number declares first h =
    let holds = h.node.holds in
    let u = h.node.unit in
    let of = of_row (label p d) p d declares (sym h.part_is ∙ first) in
    let from = holds.from in
    let before = holds.before in
    let ends = local.tree.last u (unit_there p local u holds.unit) in
    let after : u < d = elim (cases_lt u d) [ inl l ↦ l | inr g ↦ absurd (let e : d ≡ u = omega arith in no_unit (label p d) declares (ap (label p) e ∙ holds.unit)) ] in
    let there : d < length p = omega arith in
    let count = inside p few u holds.unit d after (omega arith) (none_inside p local u d holds) in
    let rise = nodes_rise p (suc d) (length p) (omega arith) in
    let within = of.within in
    let same = of.same in
    let counted = count.node in
    let small = bounded_small ((count_to p d).node + declaring (label p d)) (omega arith) in
    let number_is : number.at.node.0 + nodes_before p u ≡ nodes_before p d + offset (label p d) = h.node.is_node ∙ ap (numbers.nodes_to p) of.itself ∙ of.own in
    let none : NodeAt = record { cu = record { 0 = 4294967295 }; node = record { 0 = 4294967295 } } in
    let at : node_at (counted_nodes p (length p)) d ≡ node_of (label p d) (count_to p d) =
    nodes_at p (length p) d none there ∙ ap (node_of (label p d)) (stays (label p d) (count_to p d) (no_unit (label p d) declares)) in
    of.decl (counted_nodes p (length p)) ∙ ap (λ a. record { at = a; part = 0 }) at
    ∙ same_number number (node_of (label p d) (count_to p d)) (count.unit ∙ sym h.node.in_unit) (omega arith) first

pub numbers_declarations : (p : Rows) → NumbersDeclarations p (counted_nodes p (length p))
numbers_declarations p local few = record {
  own = λ u d holds declares part. let h = has_number p u d holds declares part in
      subst (IsDeclaration p d) (sym (the_number p local few d (number_of p u d) declares refl h)) h;
  only = the_number p local few;
}
