-- Rows that are none of some labels.
use Rattle.std.proofs.Common.{◌≡◌, refl, sym, subst, ℕ, Bool, Option, List}
use Rattle.jr_base.specs.declared.kind.Kind.{Kind}
use Rattle.jr_base.specs.declared.kind.Symbol.{Symbol}
use Rattle.jr_tree.specs.declared.tree.Primitive.{Primitive}
use Rattle.jr_tree.specs.declared.tree.ThisOrSuper.{ThisOrSuper}
use Rattle.jr_tree.specs.declared.label.Label.{Label}
use Rattle.jr_tree.specs.declared.label.Label.TheVariants as is
use Rattle.jr_tree.specs.declared.label.NameKind.{NameKind}
use Rattle.jr_tree.specs.declared.label.NamePlace.{NamePlace}
use Rattle.jr_tree.specs.declared.label.ReceiverKind.{ReceiverKind}
use Rattle.jr_codes.specs.declared.source.Source.{Source}
use Rattle.jr_codes.specs.Facts.{Facts}
use Rattle.jr_codes.specs.Making.{Below, Made, nothing, Stands}
use Rattle.jr_codes.specs.Reads.{Becomes}
use Rattle.jr_expressions.specs.Expressions.{named_made, expression_made}

-- a row that names and makes nothing
pub other_named : (l : Label) (f : Facts) (n : ℕ) (parts : Below) → ((kind : NameKind) (place : NamePlace) (dot : Bool) → l ≡ is.Name kind place dot → ⊥) → (l ≡ is.Select → ⊥) → (l ≡ is.SuperSelect → ⊥) → ((dot : Bool) → l ≡ is.This dot → ⊥) → ((kind : Kind) → l ≡ is.Literal kind → ⊥) → ((on : ReceiverKind) → l ≡ is.Call on → ⊥) → (l ≡ is.New → ⊥) → ((which : ThisOrSuper) → l ≡ is.ConstructorCall which → ⊥) → (l ≡ is.ImplicitCall → ⊥) → ((word : Option Primitive) (count : ℕ) (more : ℕ) → l ≡ is.NewArray word count more → ⊥) → named_made l f n parts ≡ nothing
other_named (is.Name kind place dot) f n parts h _ _ _ _ _ _ _ _ _ = absurd (h kind place dot refl)
other_named is.Select f n parts _ h _ _ _ _ _ _ _ _ = absurd (h refl)
other_named is.SuperSelect f n parts _ _ h _ _ _ _ _ _ _ = absurd (h refl)
other_named (is.This dot) f n parts _ _ _ h _ _ _ _ _ _ = absurd (h dot refl)
other_named (is.Literal kind) f n parts _ _ _ _ h _ _ _ _ _ = absurd (h kind refl)
other_named (is.Call on) f n parts _ _ _ _ _ h _ _ _ _ = absurd (h on refl)
other_named is.New f n parts _ _ _ _ _ _ h _ _ _ = absurd (h refl)
other_named (is.ConstructorCall which) f n parts _ _ _ _ _ _ _ h _ _ = absurd (h which refl)
other_named is.ImplicitCall f n parts _ _ _ _ _ _ _ _ h _ = absurd (h refl)
other_named (is.NewArray word count more) f n parts _ _ _ _ _ _ _ _ _ h = absurd (h word count more refl)
other_named _ f n parts _ _ _ _ _ _ _ _ _ _ = refl

-- one that is made by what it names, if it is made
pub other_made : (l : Label) (f : Facts) (n : ℕ) (parts : Below) → (l ≡ is.Paren → ⊥) → (l ≡ is.Index → ⊥) → (l ≡ is.Value → ⊥) → (l ≡ is.List → ⊥) → (l ≡ is.IsA → ⊥) → ((op : Symbol) → l ≡ is.Unary op → ⊥) → (l ≡ is.Cast → ⊥) → ((op : Symbol) → l ≡ is.PreStep op → ⊥) → ((op : Symbol) → l ≡ is.PostStep op → ⊥) → ((op : Symbol) → l ≡ is.Binary op → ⊥) → (l ≡ is.Conditional → ⊥) → ((op : Symbol) → l ≡ is.Assign op → ⊥) → expression_made l f n parts ≡ named_made l f n parts
other_made is.Paren f n parts h _ _ _ _ _ _ _ _ _ _ _ = absurd (h refl)
other_made is.Index f n parts _ h _ _ _ _ _ _ _ _ _ _ = absurd (h refl)
other_made is.Value f n parts _ _ h _ _ _ _ _ _ _ _ _ = absurd (h refl)
other_made is.List f n parts _ _ _ h _ _ _ _ _ _ _ _ = absurd (h refl)
other_made is.IsA f n parts _ _ _ _ h _ _ _ _ _ _ _ = absurd (h refl)
other_made (is.Unary op) f n parts _ _ _ _ _ h _ _ _ _ _ _ = absurd (h op refl)
other_made is.Cast f n parts _ _ _ _ _ _ h _ _ _ _ _ = absurd (h refl)
other_made (is.PreStep op) f n parts _ _ _ _ _ _ _ h _ _ _ _ = absurd (h op refl)
other_made (is.PostStep op) f n parts _ _ _ _ _ _ _ _ h _ _ _ = absurd (h op refl)
other_made (is.Binary op) f n parts _ _ _ _ _ _ _ _ _ h _ _ = absurd (h op refl)
other_made is.Conditional f n parts _ _ _ _ _ _ _ _ _ _ h _ = absurd (h refl)
other_made (is.Assign op) f n parts _ _ _ _ _ _ _ _ _ _ _ h = absurd (h op refl)
other_made _ f n parts _ _ _ _ _ _ _ _ _ _ _ _ = refl

pub same_becomes : {s : Source} {n : ℕ} {made other : Below → Made} {old new : Below} → ((parts : Below) → made parts ≡ other parts) → Becomes s n other old new → Becomes s n made old new
same_becomes {s} {n} {made} {other} {old} {new} same b = record { stands = λ read parts rest h lone. subst (λ x. Stands x n parts rest new) (sym (same parts)) (b.stands read parts rest h lone) }
