-- The tests of constructors that call themselves round and of abstract classes and methods tell what they are to tell.
use Rattle.std.proofs.Common.{◌≡◌, ◌⊎◌, refl, subst, inl, inr, ℕ, ◌&&◌, length, nat_eq, Option, Decides}
use Rattle.std.proofs.lemmas.Bool.{false≢true}
use Rattle.std.proofs.lemmas.Bool.Decides.{Decides-eqb}
use Rattle.jr_tree.specs.declared.tree.ThisOrSuper.TheVariants as which
use Rattle.jr_tree.specs.declared.label.Label.{Label}
use Rattle.jr_tree.specs.declared.label.Label.TheVariants as is
use Rattle.jr_tree.specs.declared.label.ReceiverKind.TheVariants as on
use Rattle.jr_tree.specs.declared.label.Role.TheVariants as role
use Rattle.jr_tree.specs.Rows.{Rows, label, parent, role_at}
use Rattle.jr_defs.specs.declared.referent.Referent.TheVariants.{Declared}
use Rattle.jr_defs.specs.Referents.{Table}
use Rattle.jr_defs.specs.Modifiers.{IsAbstract}
use Rattle.jr_defs.specs.Types.{NamesType}
use Rattle.jr_plain.specs.Search.{Reaches}
use Rattle.jr_plain.specs.Modifiers.{is_abstract}
use Rattle.jr_plain.specs.Types.{named_type}
use Rattle.jr_plain.proofs.Tests.{both, either, like}
use Rattle.jr_plain.proofs.Searches.{some}
use Rattle.jr_plain.proofs.Least.{reaches_tells}
use Rattle.jr_plain.proofs.Same.{role_tells}
use Rattle.jr_plain.proofs.Bounds.{bounded, constructor_below}
use Rattle.jr_plain.proofs.Modified.{found_tells, abstract_tells}
use Rattle.jr_plain.proofs.Typed.{named_finds}
use Rattle.jr_rules.specs.Creations.{CallsByThis, CallsItselfRound, AbstractIsUsed}
use Rattle.jr_rules.specs.TypedTests.{declared_row, found}
use Rattle.jr_rules.specs.CreationTests as plain
use Rattle.jr_rules.proofs.Kids.{declared_finds}
use Rattle.jr_rules.proofs.Objects.{new_tells}

this_call_tells : (l : Label) → Decides (plain.is_this_call l) (l ≡ is.ConstructorCall which.This)
this_call_tells (is.ConstructorCall which.This) = (λ h. refl, λ e. refl)
this_call_tells _ = (λ h. absurd (false≢true h), λ e. absurd (cc))

super_call_tells : (l : Label) → Decides (plain.is_super_call l) (l ≡ is.Call on.Super)
super_call_tells (is.Call on.Super) = (λ h. refl, λ e. refl)
super_call_tells _ = (λ h. absurd (false≢true h), λ e. absurd (cc))

module _ (p : Rows) (t : Table) where
  abbrev CallAt : ℕ → ℕ → ℕ → Type 0
  CallAt a b call = ((label p call ≡ is.ConstructorCall which.This) × (parent p (parent p call) ≡ a)) × ((d : ℕ) × ((level : Option ℕ) × (t call ≡ Declared d level)) × (d ≡ b))

  call_at_tells : (a b call : ℕ) → Decides (plain.is_this_call (label p call) && nat_eq (parent p (parent p call)) a && found (declared_row (t call)) (λ d. nat_eq d b)) (CallAt a b call)
  call_at_tells a b call = both (both (this_call_tells (label p call)) (Decides-eqb (parent p (parent p call)) a))
      (found_tells (λ d. (level : Option ℕ) × (t call ≡ Declared d level)) (λ d. nat_eq d b) (λ d. d ≡ b) (λ d. Decides-eqb d b) (declared_row (t call)) (declared_finds (t call)))

  calls_tell : (a b : ℕ) → Decides (plain.calls_by_this p t a b) (CallsByThis p t a b)
  calls_tell a b = like
      (both (role_tells (role_at p a) role.Constructor)
      (some (λ call. plain.is_this_call (label p call) && nat_eq (parent p (parent p call)) a && found (declared_row (t call)) (λ d. nat_eq d b)) (CallAt a b) (call_at_tells a b) (length p)
      (λ call h. bounded (λ l. l ≡ is.ConstructorCall which.This) (λ e. cc) p call h.0.0)))
      (λ h. record {
        constructor = h.0;
        call = h.1.0;
        calls = h.1.1.0.0;
        inside = h.1.1.0.1;
        level = h.1.1.1.1.0;
        refers = subst (λ d. t h.1.0 ≡ Declared d h.1.1.1.1.0) h.1.1.1.2 h.1.1.1.1.1;
      })
      (λ h. (h.constructor, (h.call, ((h.calls, h.inside), (b, (h.level, h.refers), refl)))))

  from_constructor : {k b : ℕ} → Reaches (CallsByThis p t) k b → role_at p k ≡ role.Constructor
  from_constructor (Reaches.direct h) = h.constructor
  from_constructor (Reaches.further h more) = h.constructor

  pub calls_itself_tells : (k : ℕ) → Decides (plain.calls_itself_round p t k) (CallsItselfRound p t k)
  calls_itself_tells k = like
      (both (role_tells (role_at p k) role.Constructor) (reaches_tells (length p) (plain.calls_by_this p t) (CallsByThis p t) calls_tell (λ a b h. constructor_below p a h.constructor) k k))
      (λ h. h.1) (λ h. (from_constructor h, h))

  abbrev Abstracts : ℕ → Type 0
  Abstracts n = ((label p n ≡ is.New) × ((c : ℕ) × NamesType p t n c × IsAbstract p c))
      ⊎ ((label p n ≡ is.Call on.Super) × ((d : ℕ) × ((level : Option ℕ) × (t n ≡ Declared d level)) × IsAbstract p d))

  abstracts_tell : (n : ℕ) → Decides (plain.abstract_is_used p t n) (Abstracts n)
  abstracts_tell n = either
      (both (new_tells (label p n)) (found_tells (λ c. NamesType p t n c) (λ c. is_abstract p c) (λ c. IsAbstract p c) (abstract_tells p) (named_type p t n) (named_finds p t n)))
      (both (super_call_tells (label p n)) (found_tells (λ d. (level : Option ℕ) × (t n ≡ Declared d level)) (λ d. is_abstract p d) (λ d. IsAbstract p d) (abstract_tells p)
      (declared_row (t n)) (declared_finds (t n))))

  abstracts_out : (n : ℕ) → Abstracts n → AbstractIsUsed p t n
  abstracts_out n (inl h) = AbstractIsUsed.by_creation h.0 h.1.1 h.1.2
  abstracts_out n (inr h) = AbstractIsUsed.by_super_call h.0 h.1.1.1 h.1.2

  abstracts_in : (n : ℕ) → AbstractIsUsed p t n → Abstracts n
  abstracts_in n (AbstractIsUsed.by_creation {c = c} at i a) = inl (at, (c, i, a))
  abstracts_in n (AbstractIsUsed.by_super_call {d = d} {level = level} at e a) = inr (at, (d, (level, e), a))

  pub abstract_used_tells : (n : ℕ) → Decides (plain.abstract_is_used p t n) (AbstractIsUsed p t n)
  abstract_used_tells n = like (abstracts_tell n) (abstracts_out n) (abstracts_in n)
