-- What acts in initializations of classes.
use Rattle.std.proofs.Common.{◌≡◌, refl, sym, ◌∙◌, ap, ℕ, Bool, true, false, List, if◌then◌else◌, Option, Some, None, IfSome, nat_eq, slice_get}
use Rattle.std.proofs.lemmas.Bool.{false≢true}
use Rattle.std.proofs.lemmas.Bool.Decides.{Decides-eqb}
use Rattle.std.specs.Option.{option_eq}
use Rattle.std.proofs.lemmas.Option.{none-some, same_Some}
use Rattle.jr_tree.specs.declared.label.Label.{Label}
use Rattle.jr_tree.specs.declared.label.Label.TheVariants as label_is
use Rattle.jr_tree.specs.Rows.{Rows, label}
use Rattle.jr_defs.specs.declared.referent.Referent.{Referent}
use Rattle.jr_defs.specs.declared.referent.Referent.TheVariants as referent
use Rattle.jr_supers.specs.Tabled as tabled
use Rattle.jr_flow_defs.specs.declared.point.Point.{Point}
use Rattle.jr_flow_defs.specs.declared.point.PointKind.{PointKind}
use Rattle.jr_flow_defs.specs.declared.point.PointKind.TheVariants as kind
use Rattle.jr_flow_defs.specs.Meaning.{Meaning, declared}
use Rattle.jr_flow_defs.specs.Edges.{point, body_flow, IsGraph}
use Rattle.jr_flow_defs.specs.Graphs.{StepList}
use Rattle.jr_kept.specs.Courses.{IsBody}
use Rattle.jr_kept.specs.Started.{class_by, node_by, node_at, IsNodeAmong, IsActing, ActsAtStart, ActsAtSomeStart, CreatesAt, IsInCreation, BeginsFirst, is_creation}
use Rattle.jr_kept.proofs.Comparing.{place_of}

abbrev IsNodeAt : ℕ → ℕ → Option Point → Type 0
IsNodeAt body row o = (o ≡ point row kind.Node) × (row ≡ body → ⊥)

kind_tells : (body row : ℕ) (k : PointKind) (n : ℕ) → node_by k n body ≡ Some row → IsNodeAt body row (point n k)
kind_tells body row kind.Node n e = by (nat_eq n body) refl e
  where
    by : (b : Bool) → nat_eq n body ≡ b → (if b then None else Some n) ≡ Some row → IsNodeAt body row (point n kind.Node)
    by true is f = absurd (none-some row f)
    by false is f = let same = same_Some n row f in (ap (λ z. point z kind.Node) same, λ at. absurd (false≢true (sym is ∙ (Decides-eqb n body).1 (same ∙ at))))
kind_tells body row _ n e = absurd (none-some row e)

node_tells : (body row : ℕ) (o : Option Point) → node_at body o ≡ Some row → IsNodeAt body row o
node_tells body row None e = absurd (none-some row e)
node_tells body row (Some x) e = kind_tells body row x.kind x.row e

pub acting_told : (p : Rows) (m : Meaning) (body : ℕ) (points : List Point) (steps : StepList) → IsGraph (body_flow p m body) body points steps → (found : Option ℕ) → IfSome found (λ row. IsNodeAmong points body row)
    → IfSome found (λ row. IsActing p m body row)
acting_told p m body points steps g None is = is
acting_told p m body points steps g (Some row) is =
    let told = node_tells body row (slice_get points is.number) is.is in
    let place = place_of (body_flow p m body) body points steps g is.number (record { row = row; kind = kind.Node }) told.0 refl in
    record { at = place.at; reached = place.reached; stands = place.stands; other = told.1 }

pub started_told : (p : Rows) (m : Meaning) (body class : ℕ) → IsBody p body → class_by (label p body) p body ≡ Some class → (found : Option ℕ) → IfSome found (λ row. IsActing p m body row) → IfSome found (λ row. ActsAtStart p m class)
started_told p m body class is of_class None acts = acts
started_told p m body class is of_class (Some row) acts = record { body = body; is = is; of_class = of_class; row = row; acts = acts }

pub same_declared : (r : Referent) → tabled.declared r ≡ declared r
same_declared referent.Unbound = refl
same_declared referent.Ambiguous = refl
same_declared referent.ArrayLength = refl
same_declared referent.Package = refl
same_declared (referent.Declared n level) = refl

pub same_row : (o : Option ℕ) (n : ℕ) → option_eq nat_eq o (Some n) ≡ true → o ≡ Some n
same_row None n e = absurd (false≢true e)
same_row (Some k) n e = ap Some ((Decides-eqb k n).0 e)

-- ---- creations

pub creation_label : (l : Label) → is_creation l ≡ true → l ≡ label_is.New
creation_label label_is.New e = refl
creation_label _ e = absurd (false≢true e)

pub if_some : (P : Type 0) (found : Option ℕ) → P → IfSome found (λ n. P)
if_some P None p = tt
if_some P (Some n) p = p

pub some_started : (p : Rows) (m : Meaning) (body class : ℕ) → IsBody p body → class_by (label p body) p body ≡ Some class → (found : Option ℕ) → IfSome found (λ row. IsActing p m body row) → IfSome found (λ row. ActsAtSomeStart p m)
some_started p m body class is of_class None acts = acts
some_started p m body class is of_class (Some row) acts = record { class = class; acts = record { body = body; is = is; of_class = of_class; row = row; acts = acts } }

pub creation_told : (p : Rows) (m : Meaning) (over : ℕ) → label p over ≡ label_is.New → (found : Option ℕ) → IfSome found (λ row. ActsAtSomeStart p m) → IfSome found (λ row. CreatesAt p m over)
creation_told p m over creates None acts = acts
creation_told p m over creates (Some row) acts = record { creates = creates; acts = acts }

pub first_told : (p : Rows) (m : Meaning) (local row : ℕ) → declared (m.targets row) ≡ Some local → (found : Option ℕ) → IfSome found (λ node. IsInCreation p m row) → IfSome found (λ node. BeginsFirst p m local)
first_told p m local row uses None inside = inside
first_told p m local row uses (Some node) inside = record { used_at = row; uses = uses; inside = inside }

pub never_some : (P : Type 0) (found : Option ℕ) → IfSome found (λ node. P) → (P → ⊥) → found ≡ None
never_some P None is apart = refl
never_some P (Some node) is apart = absurd (apart is)
