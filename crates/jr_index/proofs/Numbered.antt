-- The node of a row's declaration or occurrence has the number that the definitions give it.
use Rattle.std.proofs.Common.{◌≡◌, ℕ, ◌+◌, ◌<◌, refl, ◌∙◌, ap, arith}
use Rattle.jr_tree.specs.declared.label.Label.{Label}
use Rattle.jr_tree.specs.declared.label.Label.TheVariants as is
use Rattle.jr_tree.specs.declared.label.NamePlace.{NamePlace}
use Rattle.jr_tree.specs.declared.label.NamePlace.TheVariants as place
use Rattle.jr_tree.specs.Labels.{nodes_of, name_nodes}
use Rattle.jr_tree.specs.Rows.{Rows, label, nodes_before}
use Rattle.jr_defs.specs.Numbers.{offset, name_offset, numbered_at, nodes_to, nodes_to_by}
use Rattle.jr_index.specs.NodeRows.{NodesAreNumbered}

-- a row that stands for nodes is numbered by itself
by_itself : (l : Label) (p : Rows) (n : ℕ) → 0 < nodes_of l → numbered_at l p n ≡ n
by_itself is.DefaultConstructor p n h = absurd (omega arith)
by_itself is.ImplicitCall p n h = absurd (omega arith)
by_itself _ p n h = refl

name_number : (at : NamePlace) (p : Rows) (n : ℕ) (k : _) (b : _) → 0 < name_nodes at → nodes_to_by (is.Name k at b) p n ≡ nodes_before p n + name_offset at
name_number place.Qualifier p n k b h = absurd (omega arith)
name_number _ p n k b h = refl

own_number : (l : Label) (p : Rows) (n : ℕ) → 0 < nodes_of l → nodes_to_by l p n ≡ nodes_before p n + offset l
own_number (is.Name k at b) p n h = name_number at p n k b h
own_number _ p n h = refl

pub nodes_are_numbered : NodesAreNumbered
nodes_are_numbered p n at w =
    let counted = w.counted in
    let some : 0 < nodes_of (label p n) = omega arith in
    let same = by_itself (label p n) p n some in
    let number = own_number (label p n) p n some in
    let there : nodes_to p (numbered_at (label p n) p n) ≡ nodes_before p n + offset (label p n) = ap (nodes_to p) same ∙ number in
    let is_node = w.is_node in
    record { unit = w.unit; holds = w.holds; in_unit = w.in_unit; is_node = omega arith }
