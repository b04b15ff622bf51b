-- What the rules ask of a binding: that an expression has one type at most, and that occurrences are found.
use Rattle.std.proofs.Common.{◌≡◌, refl, ap, subst, arith, ℕ, ◌≤◌, ◌<◌, ◌||◌, not, length, Option, Decides}
use Rattle.jr_tree.specs.Labels.{sought_by}
use Rattle.jr_tree.specs.declared.label.Sought.TheVariants as sought
use Rattle.jr_tree.specs.Rows.{Rows, name}
use Rattle.jr_defs.specs.declared.referent.Referent.{Referent}
use Rattle.jr_defs.specs.declared.referent.Referent.TheVariants.{Declared, Unbound, Ambiguous}
use Rattle.jr_defs.specs.Referents.{Table, none}
use Rattle.jr_defs.specs.Declarations.{IsType, IsOccurrence}
use Rattle.jr_defs.specs.Constants.{HasConstantForm}
use Rattle.jr_defs.specs.Headers.{NamesHeader}
use Rattle.jr_defs.specs.Binding.{IsBinding}
use Rattle.jr_defs.specs.Formed.{IsFormed}
use Rattle.jr_defs.specs.Compiling.{AllFound, KeepsRules}
use Rattle.jr_defs.specs.Lookup.{Candidate, IsPackageName, Otherwise, LookFor, Look}
use Rattle.jr_defs.proofs.Unique.{answer_unique}
use Rattle.jr_defs.proofs.TypesAgree.{otherwise_one}
use Rattle.jr_plain.specs.Typing.{IsTypable}
use Rattle.jr_plain.specs.Declarations.{is_occurrence}
use Rattle.jr_plain.proofs.Tests.{both, implies, like, opposite}
use Rattle.jr_plain.proofs.Searches.{every}
use Rattle.jr_plain.proofs.Same.{referent_tells}
use Rattle.jr_plain.proofs.Bounds.{label_past, bounded}
use Rattle.jr_plain.proofs.Declared.{occurrence_tells}
use Rattle.jr_plain.proofs.Typables.{typable_from_lookup, acyclic_from_settled}
use Rattle.jr_headers.proofs.Headed.{both_then}
use Rattle.jr_headers.proofs.HeaderRows.{headed}
use Rattle.jr_defs.proofs.HeadersAgree.{type_role, look_declares}
use Rattle.jr_prelude.specs.Begins.{BeginsWithLang}
use Rattle.jr_rules.specs.Compiling.{BreaksAll}
use Rattle.jr_all_rules.proofs.Together.{keeps_all_tells}
use Rattle.jr_bound.specs.Bound.{the_binding}
use Rattle.jr_bound.specs.Found.{is_one_thing, all_found, keeps_rules}
use Rattle.jr_bound.proofs.Joined.{one_prelude, binding_decided, binding_of_settled, binding_is}

pub binding_typable : (p : Rows) → IsFormed p → BeginsWithLang p → (t : Table) → IsBinding p t → IsTypable p t
binding_typable p formed begins t w =
    let prelude = one_prelude p begins in
    typable_from_lookup p t (HasConstantForm p t) (headed p formed) prelude.one_string (acyclic_from_settled p t formed types prelude.one_object w.settled) w.bound
  where
    types : (c n s : ℕ) (level : Option ℕ) → NamesHeader p c n → t n ≡ Declared s level → IsType p s
    types c n s level h e = type_role p (name p n) s (look_declares p t (HasConstantForm p t) n s level (t n) (formed.header_name c n h) (w.bound n) e)

module _ (p : Rows) (t : Table) where
  one_thing_tells : (o : ℕ) → Decides (is_one_thing (t o)) ((t o ≡ Unbound → ⊥) × (t o ≡ Ambiguous → ⊥))
  one_thing_tells o = both (opposite (referent_tells (t o) Unbound)) (opposite (referent_tells (t o) Ambiguous))

  occurrence_below : (o : ℕ) → IsOccurrence p o → o < length p
  occurrence_below o h = bounded (λ l. sought_by l ≡ sought.Nothing → ⊥) (λ never. never refl) p o h.seeks

  pub all_found_tells : Decides (all_found p t) (AllFound p t)
  all_found_tells = every (length p) (λ o. not (is_occurrence p o) || is_one_thing (t o)) (λ o. implies (occurrence_tells p o) (one_thing_tells o)) past
    where
      past : (o : ℕ) → length p ≤ o → IsOccurrence p o → (t o ≡ Unbound → ⊥) × (t o ≡ Ambiguous → ⊥)
      past o le h = let lt = occurrence_below o h in absurd (omega arith)

-- a binding has nothing past the end
module _ (p : Rows) (t : Table) (K : ℕ → Type 0) where
  none_sought : (o d : ℕ) (level : Option ℕ) → Candidate p t K o (name p o) sought.Nothing d level → ⊥
  none_sought o d level h = elim h [ ]

  no_package : (o : ℕ) → IsPackageName p t o sought.Nothing → ⊥
  no_package o h = elim h [ ]

  unbound_past : (o : ℕ) (a : Referent) → length p ≤ o → Look p t K o a → a ≡ Unbound
  unbound_past o a le h = let e = ap sought_by (label_past p o le) in
      answer_unique _ _ (otherwise_one p t K o (name p o) sought.Nothing) a Unbound (subst (λ s. LookFor p t K o (name p o) s a) e h) (none (none_sought o) (Otherwise.unbound (no_package o) (λ w. w.allowed)))

pub bound_past : (p : Rows) (t : Table) → IsBinding p t → (o : ℕ) → length p ≤ o → t o ≡ Unbound
bound_past p t w o le = unbound_past p t (HasConstantForm p t) o (t o) le (w.bound o)

-- whether the program has a binding in which all is found and no rule is broken
pub keeps_rules_tells : (p : Rows) → IsFormed p → BeginsWithLang p → Decides (keeps_rules p) ((t : Table) × KeepsRules p t BreaksAll)
keeps_rules_tells p formed begins = like
    (both_then (binding_decided p formed begins) (λ h. let w = binding_of_settled p formed begins h in both (all_found_tells p (the_binding p))
    (keeps_all_tells p (the_binding p) formed (bound_past p (the_binding p) w) (binding_typable p formed begins (the_binding p) w))))
    (λ h. (the_binding p, record { binding = binding_of_settled p formed begins h.0; found = h.1.0; kept = h.1.1 }))
    (λ h. let b : (t : Table) × IsBinding p t = (h.0, h.1.binding) in let k = subst (λ t. KeepsRules p t BreaksAll) (binding_is p formed begins h.0 h.1.binding) h.1 in (b, (k.found, k.kept)))
