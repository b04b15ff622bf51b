-- Names of nodes as numbers.
use Rattle.std.proofs.Common.{◌≡◌, ◌⊎◌, inl, inr, refl, sym, ◌∙◌, ap, subst, arith, ℕ, zero, suc, ◌+◌, ◌-◌, ◌<◌, ◌≤◌, Bool, true, false, if◌then◌else◌, List, [], ◌∷◌, ◌++◌, length, length-append, Option, Some, None, option_map, nat_eq, slice_get}
use Rattle.std.specs.Option.{option_eq}
use Rattle.std.proofs.lemmas.Option.{none-some}
use Rattle.jr_tree.specs.Rows.{Rows, label, parent}
use Rattle.jr_flow_defs.specs.declared.point.Point.{Point}
use Rattle.jr_flow_defs.specs.declared.point.PointKind.TheVariants as kind
use Rattle.jr_flow_defs.specs.Edges.{FlowNode, Naming, node_of_point, or_node}
use Rattle.jr_flow_defs.specs.Kept.{is_qualifier, whole_name, old_name}
use Rattle.jr_flow.proofs.Gets.{get_pushed}
use Rattle.jr_kept.specs.Named.{no_name, IsNameOf, AreNames}

-- ---- the row of a node

pub whole_stops : (p : Rows) (room n : ℕ) → is_qualifier (label p n) ≡ false → whole_name p room n ≡ n
whole_stops p zero n e = refl
whole_stops p (suc room) n e = ap (λ b. if b then whole_name p room (parent p n) else n) e

pub whole_turns : (p : Rows) (row turn n : ℕ) → turn < row → is_qualifier (label p n) ≡ true → whole_name p (row - turn) n ≡ whole_name p (row - (turn + 1)) (parent p n)
whole_turns p row turn n lt e = let room : row - turn ≡ suc (row - (turn + 1)) = omega (arith, lt) in
    ap (λ r. whole_name p r n) room ∙ ap (λ b. if b then whole_name p (row - (turn + 1)) (parent p n) else n) e

pub whole_ends : (p : Rows) (row turn n : ℕ) → row ≤ turn → whole_name p (row - turn) n ≡ n
whole_ends p row turn n le = let room : row - turn ≡ 0 = omega (arith, le) in ap (λ r. whole_name p r n) room

-- ---- the name of a row

pub no_name_of : (body count : ℕ) → IsNameOf body count no_name None
no_name_of body count = record { is = refl; few = λ apart. absurd (apart refl) }

pub dropped_named : (body count : ℕ) (p : Rows) (dropped : Option ℕ) (n : ℕ) → option_eq nat_eq dropped (Some n) ≡ true → IsNameOf body count no_name (option_map FlowNode.acting (old_name p dropped n))
dropped_named body count p dropped n e = subst (λ b. IsNameOf body count no_name (option_map FlowNode.acting (if b then None else Some (whole_name p n n)))) (sym e) (no_name_of body count)

pub kept_named : (body count c : ℕ) (p : Rows) (dropped : Option ℕ) (n : ℕ) → option_eq nat_eq dropped (Some n) ≡ false → IsNameOf body count c (Some (FlowNode.acting (whole_name p n n))) → IsNameOf body count c (option_map FlowNode.acting (old_name p dropped n))
kept_named body count c p dropped n e h = subst (λ b. IsNameOf body count c (option_map FlowNode.acting (if b then None else Some (whole_name p n n)))) (sym e) h

-- ---- the name of a point

pub or_none : (o : Option FlowNode) (b : Bool) → or_node o (if b then None else None) ≡ o
or_none (Some x) b = refl
or_none None true = refl
or_none None false = refl

-- what stands at a point of each kind
pub node_named : (body count c at : ℕ) (naming : Naming) (row : ℕ) → IsNameOf body count c (option_map FlowNode.acting (naming row)) → IsNameOf body count c (node_of_point at naming (record { row = row; kind = kind.Node }))
node_named body count c at naming row h = subst (IsNameOf body count c) (sym (or_none (option_map FlowNode.acting (naming row)) (nat_eq row at))) h

pub defined_named : (body count at : ℕ) (naming : Naming) (row d : ℕ) → IsNameOf body count no_name (node_of_point at naming (record { row = row; kind = kind.Definition d }))
defined_named body count at naming row d = subst (IsNameOf body count no_name) (sym (or_none None (nat_eq row at))) (no_name_of body count)

pub used_named : (body count at : ℕ) (naming : Naming) (row d : ℕ) → IsNameOf body count no_name (node_of_point at naming (record { row = row; kind = kind.Use d }))
used_named body count at naming row d = subst (IsNameOf body count no_name) (sym (or_none None (nat_eq row at))) (no_name_of body count)

entry_if : (body count : ℕ) → 2 ≤ count → (b : Bool) → IsNameOf body count (if b then 0 else no_name) (if b then Some FlowNode.entry else None)
entry_if body count le true = record { is = refl; few = λ apart. omega (arith, le) }
entry_if body count le false = no_name_of body count

exit_if : (body count : ℕ) → 2 ≤ count → (b : Bool) → IsNameOf body count (if b then 1 else no_name) (if b then Some FlowNode.exit else None)
exit_if body count le true = record { is = refl; few = λ apart. omega (arith, le) }
exit_if body count le false = no_name_of body count

pub entry_named : (body count at : ℕ) (naming : Naming) (row : ℕ) → 2 ≤ count → IsNameOf body count (if nat_eq row at then 0 else no_name) (node_of_point at naming (record { row = row; kind = kind.Entry }))
entry_named body count at naming row le = entry_if body count le (nat_eq row at)

pub exit_named : (body count at : ℕ) (naming : Naming) (row : ℕ) → 2 ≤ count → IsNameOf body count (if nat_eq row at then 1 else no_name) (node_of_point at naming (record { row = row; kind = kind.Exit }))
exit_named body count at naming row le = exit_if body count le (nat_eq row at)

pub thrown_named : (body count at : ℕ) (naming : Naming) (row : ℕ) → 2 ≤ count → IsNameOf body count (if nat_eq row at then 1 else no_name) (node_of_point at naming (record { row = row; kind = kind.Thrown }))
thrown_named body count at naming row le = exit_if body count le (nat_eq row at)

-- ---- the names of points

pub none_named : (body count : ℕ) (naming : Naming) (at : ℕ) → AreNames body count naming at [] []
none_named body count naming at = record { size = refl; named = λ k x c e f. absurd (none-some x e) }

pub get_inside : {A : Type 0} (xs : List A) (k : ℕ) (x : A) → slice_get xs k ≡ Some x → k < length xs
get_inside [] k x e = absurd (none-some x e)
get_inside (y ∷ xs) zero x e = omega arith
get_inside (y ∷ xs) (suc k) x e = let lt = get_inside xs k x e in omega (arith, lt)

pub more_named : (body count : ℕ) (naming : Naming) (at : ℕ) (points : List Point) (names : List ℕ) (x : Point) (c : ℕ) → AreNames body count naming at points names → IsNameOf body count c (node_of_point at naming x)
    → AreNames body count naming at (points ++ x ∷ []) (names ++ c ∷ [])
more_named body count naming at points names x c h one = record { size = size; named = named }
  where
    size : length (names ++ c ∷ []) ≡ length (points ++ x ∷ [])
    size = length-append names (c ∷ []) ∙ ap (λ n. n + 1) h.size ∙ sym (length-append points (x ∷ []))

    named : (k : ℕ) (y : Point) (d : ℕ) → slice_get (points ++ x ∷ []) k ≡ Some y → slice_get (names ++ c ∷ []) k ≡ Some d → IsNameOf body count d (node_of_point at naming y)
    named k y d e f = by (get_pushed points x y k e) (get_pushed names c d k f)
      where
        by : (slice_get points k ≡ Some y) ⊎ ((k ≡ length points) × (x ≡ y)) → (slice_get names k ≡ Some d) ⊎ ((k ≡ length names) × (c ≡ d)) → IsNameOf body count d (node_of_point at naming y)
        by (inl a) (inl b) = h.named k y d a b
        by (inl a) (inr b) = let lt = get_inside points k y a in let k_is = b.0 in let s = h.size in absurd (omega (arith, lt, k_is, s))
        by (inr a) (inl b) = let lt = get_inside names k d b in let k_is = a.0 in let s = h.size in absurd (omega (arith, lt, k_is, s))
        by (inr a) (inr b) = subst (λ z. IsNameOf body count d (node_of_point at naming z)) a.1 (subst (λ z. IsNameOf body count z (node_of_point at naming x)) b.1 one)
