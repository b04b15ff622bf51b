-- What a name refers to as a field of the superclass.
use Rattle.std.proofs.Common.{◌≡◌, refl, sym, ◌∙◌, ap, subst, ℕ, if◌then◌else◌, List, [], Option, None, Decides}
use Rattle.std.specs.List.{flat_map}
use Rattle.std.proofs.lemmas.Bool.Decides.{Decides-eqb}
use Rattle.std.specs.Prelude.{nat_eq}
use Rattle.jr_base.specs.declared.text.Text.{Text}
use Rattle.jr_tree.specs.declared.label.Sought.TheVariants as sought
use Rattle.jr_tree.specs.Rows.{Rows, name}
use Rattle.jr_defs.specs.declared.referent.Referent.{Referent}
use Rattle.jr_defs.specs.declared.referent.Referent.TheVariants.{Unbound}
use Rattle.jr_defs.specs.declared.referent.RowType.{RowType}
use Rattle.jr_defs.specs.declared.referent.Space.TheVariants as space
use Rattle.jr_defs.specs.Constants.{HasConstantForm}
use Rattle.jr_defs.specs.Enclosing.{Innermost}
use Rattle.jr_defs.specs.Instances.{HasInstance}
use Rattle.jr_defs.specs.Lookup.{SuperOf, Candidate, Otherwise, LookFor}
use Rattle.jr_defs.specs.Members.{MemberNamed}
use Rattle.jr_defs.specs.Referents.{Table}
use Rattle.jr_defs.specs.Supertypes.{Superclass}
use Rattle.jr_plain.specs.Enclosing.{innermost}
use Rattle.jr_plain.specs.Headed.{IsHeaded}
use Rattle.jr_plain.specs.Instances.{has_instance}
use Rattle.jr_plain.specs.Lists.{at_level}
use Rattle.jr_plain.specs.Lookup as plain
use Rattle.jr_plain.specs.Members.{members_named}
use Rattle.jr_plain.specs.Referents.{answer_of, is_candidate}
use Rattle.jr_plain.specs.Search.{Lists}
use Rattle.jr_plain.specs.Supertypes.{superclasses}
use Rattle.jr_plain.proofs.Answered.{answer_is}
use Rattle.jr_plain.proofs.Enclosed.{innermost_finds}
use Rattle.jr_plain.proofs.Instanced.{instance_tells}
use Rattle.jr_plain.proofs.Listed.{found_has, if_has, flat_has, at_level_has}
use Rattle.jr_plain.proofs.Membership.{members_named_list}
use Rattle.jr_plain.proofs.Supertyped.{superclasses_list}
use Rattle.jr_plain.proofs.Tests.{like}
use Rattle.jr_shapes.specs.Names.{named_by}
use Rattle.jr_with.specs.World.{Left, world_of}
use Rattle.jr_with.specs.With.{look_with}
use Rattle.jr_lookup.proofs.Calling.{answer_same}
use Rattle.jr_lookup.proofs.Looking.{named_first}
use Rattle.jr_spelling_rules.proofs.Found.{one_answer}
use Rattle.jr_spelling_rules.specs.Candidates as candidate
use Rattle.jr_spelling_rules.specs.Fitting.{found}
use Rattle.jr_spell.specs.Spellers.{number_by}

module _ (p : Rows) (t : Table) (headed : IsHeaded p) (o : ℕ) (x : Text) where
  supers_list : Lists (plain.supers_before p t o) (λ s. SuperOf p t o s)
  supers_list s = like
      (found_has nat_eq Decides-eqb (λ c. Innermost p o c) (λ c s. HasInstance p o c × Superclass p t c s) (λ c. if has_instance p o c then superclasses p t c else [])
      (λ c. if_has nat_eq Decides-eqb (has_instance p o c) (instance_tells p o c) (superclasses p t c) (superclasses_list p t headed c)) (innermost p o) (innermost_finds p o) s)
      (λ h. record { class = h.0; innermost = h.1; instance = h.2.0; above = h.2.1 }) (λ h. (h.class, h.innermost, (h.instance, h.above)))

  abbrev OfSuper : ℕ → Option ℕ → Type 0
  OfSuper d l = ((s : ℕ) × SuperOf p t o s × MemberNamed p t space.Variable x s d) × (l ≡ None)

  abbrev fields : List (ℕ × Option ℕ)
  fields = at_level None (flat_map (λ s. members_named p t space.Variable x s) (plain.supers_before p t o))

  fields_tell : (d : ℕ) (l : Option ℕ) → Decides (is_candidate fields d l) (OfSuper d l)
  fields_tell d l = at_level_has None (flat_map (λ s. members_named p t space.Variable x s) (plain.supers_before p t o))
      (flat_has nat_eq Decides-eqb nat_eq Decides-eqb (λ s. members_named p t space.Variable x s) (λ s. SuperOf p t o s) (λ s d. MemberNamed p t space.Variable x s d)
      (λ s. members_named_list p t headed space.Variable x s) (plain.supers_before p t o) supers_list) (d, l)

  module _ (K : ℕ → Type 0) where
    of_super : (d : ℕ) (l : Option ℕ) → Candidate p t K o x sought.SuperField d l → OfSuper d l
    of_super d _ (Candidate.super_field {s = s} above member) = ((s, above, member), refl)

    by_super : (d : ℕ) (l : Option ℕ) → OfSuper d l → Candidate p t K o x sought.SuperField d l
    by_super d l h = subst (λ l. Candidate p t K o x sought.SuperField d l) (sym h.1) (Candidate.super_field h.0.1 h.0.2)

    no_other : (b : Referent) → Otherwise p t K o x sought.SuperField b → b ≡ Unbound
    no_other _ (Otherwise.package_name h) = absurd (elim h [ ])
    no_other _ (Otherwise.length never h) = absurd h.allowed
    no_other _ (Otherwise.unbound never short) = refl

    pub super_found : (l : Left) (a : Referent) → LookFor p t K o x sought.SuperField a → a ≡ look_with p (world_of p t) l o x sought.SuperField
    super_found l a h = one_answer OfSuper Unbound a (answer_of fields Unbound)
        (answer_same (Candidate p t K o x sought.SuperField) OfSuper (Otherwise p t K o x sought.SuperField) (λ r. r ≡ Unbound) of_super by_super no_other a h)
        (answer_is OfSuper (λ r. r ≡ Unbound) fields fields_tell Unbound (λ never. refl))

-- for a reference by the name that it gets
pub super_field_found : (p : Rows) (t : Table) (headed : IsHeaded p) (given : Option (List RowType)) (n number : ℕ) (a : Referent) → number ≡ number_by p n (t n)
    → LookFor p t (HasConstantForm p t) n (name p number) sought.SuperField a → a ≡ found p t n (candidate.by_super p t given n)
super_field_found p t headed given n number a is h = super_found p t headed n (name p number) (HasConstantForm p t) (candidate.by_super p t given n).left a h
    ∙ ap (λ x. look_with p (world_of p t) (candidate.by_super p t given n).left n x sought.SuperField) (ap (name p) is ∙ named_first p (named_by p n (t n)))
