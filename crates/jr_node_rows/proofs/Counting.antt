-- The labels before the rest stand for as many nodes as a list has: how such facts are joined.
use Rattle.std.proofs.Common.{◌≡◌, ◌+◌, List, [], ◌∷◌, ◌++◌, length, refl, arith}
use Rattle.std.specs.Prelude.{Bool, true, false, not, Option, Some, None, IsTrue, IfSome}
use Rattle.std.specs.List.{AllByRecursion}
use Rattle.std.proofs.lemmas.List.{length-append}
use Rattle.jr_base.specs.declared.text.Text.{Text}
use Rattle.jr_tree.specs.declared.tree.Name.{Name}
use Rattle.jr_tree.specs.Shape.{is_empty, IsName}
use Rattle.jr_tree.specs.Nodes as n
use Rattle.jr_tree.specs.declared.label.Label.{Label}
use Rattle.jr_tree.specs.declared.label.Label.TheVariants as is
use Rattle.jr_tree.specs.declared.label.NameKind.{NameKind}
use Rattle.jr_tree.specs.declared.label.NamePlace.{NamePlace}
use Rattle.jr_tree.specs.declared.label.NamePlace.TheVariants as place
use Rattle.jr_tree.specs.Labels.{name_nodes, nodes_of}
use Rattle.jr_tree.specs.Forest as f
use Rattle.jr_tree.specs.Exprs.{left_kind, dotted, name_labels}
use Rattle.jr_node_rows.specs.Weight.{weight}

-- what stands in the forest all before the rest counts these nodes
pub record Counts (all : f.Forest) (ns : n.Nodes) (rest : f.Forest) : Type 0 where
  pub is : weight all ≡ length ns + weight rest

pub nothing : (rest : f.Forest) → Counts rest [] rest
nothing rest = record { is = omega arith }

pub join : (all rest next : f.Forest) (ns ms : n.Nodes) → Counts all ns rest → Counts rest ms next → Counts all (ns ++ ms) next
join all rest next ns ms h k = record { is = simp length-append (omega (arith, h.is, k.is)) }

-- a row that stands for no node, for one, and for two
pub row_none : (l : Label) (t : Text) (kids rest : f.Forest) (ns : n.Nodes) → nodes_of l ≡ 0 → Counts kids ns f.none → Counts (f.more l t kids rest) ns rest
row_none l t kids rest ns e h = record { is = omega (arith, e, h.is) }

pub row : (l : Label) (t : Text) (kids rest : f.Forest) (m : n.Node) (ns : n.Nodes) → nodes_of l ≡ 1 → Counts kids ns f.none → Counts (f.more l t kids rest) (m ∷ ns) rest
row l t kids rest m ns e h = record { is = omega (arith, e, h.is) }

pub row_two : (l : Label) (t : Text) (kids rest : f.Forest) (m k : n.Node) (ns : n.Nodes) → nodes_of l ≡ 2 → Counts kids ns f.none → Counts (f.more l t kids rest) (m ∷ (k ∷ ns)) rest
row_two l t kids rest m k ns e h = record { is = omega (arith, e, h.is) }

-- ---- options and lists

pub of_some : {A : Type 0} (P : A → Type 0) (labels : A → f.Forest → f.Forest) (nodes : A → n.Nodes) → ((a : A) (rest : f.Forest) → P a → Counts (labels a rest) (nodes a) rest)
    → (o : Option A) (rest : f.Forest) → IfSome o P → Counts (f.if_some labels o rest) (n.if_some nodes o) rest
of_some P labels nodes h None rest p = nothing rest
of_some P labels nodes h (Some a) rest p = h a rest p

pub of_each : {A : Type 0} (P : A → Type 0) (labels : A → f.Forest → f.Forest) (nodes : A → n.Nodes) → ((a : A) (rest : f.Forest) → P a → Counts (labels a rest) (nodes a) rest)
    → (all : List A) (rest : f.Forest) → AllByRecursion P all → Counts (f.each labels all rest) (n.each nodes all) rest
of_each P labels nodes h [] rest p = nothing rest
of_each P labels nodes h (a ∷ all) rest p = join _ _ _ _ _ (h a (f.each labels all rest) p.0) (of_each P labels nodes h all rest p.1)

-- ---- names

-- the qualifiers of a name stand for no node
dotted_weight : (k : NameKind) (at : NamePlace) (parts : List Text) (b : Bool) (left rest : f.Forest) → IsTrue (not (is_empty parts)) → weight left ≡ 0
    → weight (dotted k at parts b left rest) ≡ name_nodes at + weight rest
dotted_weight k at [] b left rest h e = absurd (let z : false ≡ true = h in cc)
dotted_weight k at (part ∷ []) b left rest h e = omega (arith, e)
dotted_weight k at (part ∷ (next ∷ parts)) b left rest h e =
    dotted_weight k at (next ∷ parts) true (f.more (is.Name (left_kind k) place.Qualifier b) part left f.none) rest refl (omega (arith, e))

pub name_counts : (k : NameKind) (at : NamePlace) (name : Name) (rest : f.Forest) (ns : n.Nodes) → name_nodes at ≡ length ns → IsName name → Counts (name_labels k at name rest) ns rest
name_counts k at name rest ns e h = record { is = let w = dotted_weight k at name.parts false f.none rest h refl in omega (arith, e, w) }
