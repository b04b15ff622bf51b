-- The spelling of a reference is computed.
use Rattle.std.proofs.Common.{◌≡◌, refl, sym, ◌∙◌, ap, subst, ℕ, Bool, true, false, cond, List, [], Option, Some, None, Decides}
use Rattle.std.proofs.lemmas.Bool.{false≢true}
use Rattle.std.proofs.lemmas.Option.{none-some, same_Some}
use Rattle.jr_tree.specs.Rows.{Rows}
use Rattle.jr_defs.specs.declared.referent.RowType.{RowType}
use Rattle.jr_defs.specs.Referents.{Table}
use Rattle.jr_plain.specs.Headed.{IsHeaded}
use Rattle.jr_plain.specs.Lookup.{arguments}
use Rattle.jr_plain.specs.Overloads.{Types}
use Rattle.jr_shapes.specs.declared.spelling.TypeName.{TypeName}
use Rattle.jr_spelling_rules.specs.Candidates.{Candidate}
use Rattle.jr_spelling_rules.specs.Fitting.{TellsConstants, Fits, fits, IsFirstFit, HasNoFit, first_such}
use Rattle.jr_spelling_rules.specs.Spelling as spec
use Rattle.jr_spelling_rules.proofs.Fitted.{fits_tells, first_such_is, no_such, first_found, none_found}

module _ (p : Rows) (t : Table) (type_of : Types) (was_constant : ℕ → Bool) (first n : ℕ) (variable : ℕ → Bool) (headed : IsHeaded p) (tells : TellsConstants p t variable) where
  abbrev F : Candidate → Type 0
  F = Fits p t n was_constant

  abbrev test : Candidate → Bool
  test = fits p t n was_constant variable

  abbrev ways : Option (List RowType) → List Candidate
  ways = spec.ways p t type_of was_constant first n

  abbrev given : List Candidate
  given = ways (arguments p type_of n)

  abbrev is_spelled : spec.Written → Type 0
  is_spelled = spec.IsSpelling p t type_of was_constant first n

  told : (c : Candidate) → Decides (test c) (F c)
  told = fits_tells p t variable was_constant headed tells n

  -- ---- the forms of the computation

  abbrev plain_by : Option Candidate → Option spec.Written
  plain_by o = elim o as (λ _. Option spec.Written) [ Some c ↦ Some (spec.as_written p t n [] c) | None ↦ None ]

  abbrev uncast_by : Bool → Option spec.Written
  uncast_by lacks = cond lacks None (plain_by (first_such test given))

  abbrev names_by : Candidate → Option (List TypeName) → Option spec.Written
  names_by c o = elim o as (λ _. Option spec.Written) [ Some names ↦ Some (spec.as_written p t n names c) | None ↦ None ]

  abbrev with_by : List RowType → Option Candidate → Option spec.Written
  with_by all o = elim o as (λ _. Option spec.Written) [ Some c ↦ names_by c (spec.written_types p t n all) | None ↦ None ]

  abbrev cast_by : Option (List RowType) → Option spec.Written
  cast_by o = elim o as (λ _. Option spec.Written) [ Some all ↦ with_by all (first_such test (ways (Some all))) | None ↦ None ]

  abbrev spelling_by : Option spec.Written → Bool → Option spec.Written
  spelling_by o may = elim o as (λ _. Option spec.Written) [ Some it ↦ Some it | None ↦ cond may (cast_by (spec.casts_to p t n)) None ]

  -- ---- without casts

  uncast_is : (it : spec.Written) (b : Bool) → spec.lacks_types p t type_of was_constant first n ≡ b → uncast_by b ≡ Some it → is_spelled it
  uncast_is it true e h = absurd (none-some it h)
  uncast_is it false e h = by (first_such test given) refl h
    where
      by : (o : Option Candidate) → first_such test given ≡ o → plain_by o ≡ Some it → is_spelled it
      by None is h = absurd (none-some it h)
      by (Some c) is h = subst is_spelled (same_Some (spec.as_written p t n [] c) it h) (spec.IsSpelling.plain e (first_such_is F test told given c is))

  uncast_none : (b : Bool) → spec.lacks_types p t type_of was_constant first n ≡ b → uncast_by b ≡ None → spec.HasNoPlainFit p t type_of was_constant first n
  uncast_none true e h known = absurd (false≢true (sym known ∙ e))
  uncast_none false e h known = by (first_such test given) refl h
    where
      by : (o : Option Candidate) → first_such test given ≡ o → plain_by o ≡ None → HasNoFit F given
      by None is h = no_such F test told given is
      by (Some c) is h = absurd (none-some (spec.as_written p t n [] c) (sym h))

  plain_found : {c : Candidate} → spec.lacks_types p t type_of was_constant first n ≡ false → IsFirstFit F given c → uncast_by (spec.lacks_types p t type_of was_constant first n) ≡ Some (spec.as_written p t n [] c)
  plain_found known fit = ap uncast_by known ∙ ap plain_by (first_found F test told fit)

  plain_lacks : spec.HasNoPlainFit p t type_of was_constant first n → (b : Bool) → spec.lacks_types p t type_of was_constant first n ≡ b → uncast_by b ≡ None
  plain_lacks none true e = refl
  plain_lacks none false e = ap plain_by (none_found F test told (none e))

  -- ---- with casts

  cast_is : (it : spec.Written) → spec.HasNoPlainFit p t type_of was_constant first n → spec.may_cast p t type_of was_constant first n ≡ true → (o : Option (List RowType)) → spec.casts_to p t n ≡ o → cast_by o ≡ Some it → is_spelled it
  cast_is it none may None e h = absurd (none-some it h)
  cast_is it none may (Some all) e h = by (first_such test (ways (Some all))) refl h
    where
      on : (c : Candidate) → first_such test (ways (Some all)) ≡ Some c → (o : Option (List TypeName)) → spec.written_types p t n all ≡ o → names_by c o ≡ Some it → is_spelled it
      on c is None names h = absurd (none-some it h)
      on c is (Some list) names h = subst is_spelled (same_Some (spec.as_written p t n list c) it h) (spec.IsSpelling.cast none may e (first_such_is F test told (ways (Some all)) c is) names)

      by : (o : Option Candidate) → first_such test (ways (Some all)) ≡ o → with_by all o ≡ Some it → is_spelled it
      by None is h = absurd (none-some it h)
      by (Some c) is h = on c is (spec.written_types p t n all) refl h

  cast_none : (all : List RowType) (list : List TypeName) → spec.casts_to p t n ≡ Some all → spec.written_types p t n all ≡ Some list → (o : Option Candidate) → first_such test (ways (Some all)) ≡ o
      → cast_by (spec.casts_to p t n) ≡ None → HasNoFit F (ways (Some all))
  cast_none all list e names None is h = no_such F test told (ways (Some all)) is
  cast_none all list e names (Some c) is h =
      absurd (none-some (spec.as_written p t n list c) (sym (sym (ap cast_by e ∙ ap (with_by all) is ∙ ap (names_by c) names) ∙ h)))

  -- ---- both

  pub spelling_is : (it : spec.Written) → spec.spelling p t type_of was_constant first n variable ≡ Some it → is_spelled it
  spelling_is it h = by (uncast_by (spec.lacks_types p t type_of was_constant first n)) refl h
    where
      on : spec.HasNoPlainFit p t type_of was_constant first n → (b : Bool) → spec.may_cast p t type_of was_constant first n ≡ b → cond b (cast_by (spec.casts_to p t n)) None ≡ Some it → is_spelled it
      on none true may h = cast_is it none may (spec.casts_to p t n) refl h
      on none false may h = absurd (none-some it h)

      by : (o : Option spec.Written) → uncast_by (spec.lacks_types p t type_of was_constant first n) ≡ o → spelling_by o (spec.may_cast p t type_of was_constant first n) ≡ Some it → is_spelled it
      by None is h = on (uncast_none (spec.lacks_types p t type_of was_constant first n) refl is) (spec.may_cast p t type_of was_constant first n) refl h
      by (Some w) is h = uncast_is it (spec.lacks_types p t type_of was_constant first n) refl (is ∙ h)

  pub spelling_found : {it : spec.Written} → is_spelled it → spec.spelling p t type_of was_constant first n variable ≡ Some it
  spelling_found (spec.IsSpelling.plain known fit) = ap (λ o. spelling_by o (spec.may_cast p t type_of was_constant first n)) (plain_found known fit)
  spelling_found (spec.IsSpelling.cast {c = c} {all = all} none may e fit names) =
      ap (λ o. spelling_by o (spec.may_cast p t type_of was_constant first n)) (plain_lacks none (spec.lacks_types p t type_of was_constant first n) refl) ∙ ap (λ b. cond b (cast_by (spec.casts_to p t n)) None) may
      ∙ ap cast_by e ∙ ap (with_by all) (first_found F test told fit) ∙ ap (names_by c) names

  pub no_spelling : spec.spelling p t type_of was_constant first n variable ≡ None → spec.HasNoSpelling p t type_of was_constant first n
  no_spelling h = by (uncast_by (spec.lacks_types p t type_of was_constant first n)) refl h
    where
      by : (o : Option spec.Written) → uncast_by (spec.lacks_types p t type_of was_constant first n) ≡ o → spelling_by o (spec.may_cast p t type_of was_constant first n) ≡ None → spec.HasNoSpelling p t type_of was_constant first n
      by (Some w) is h = absurd (none-some w (sym h))
      by None is h = record {
        no_plain = uncast_none (spec.lacks_types p t type_of was_constant first n) refl is;
        no_cast = λ may all list e names. cast_none all list e names (first_such test (ways (Some all))) refl (sym (ap (λ b. cond b (cast_by (spec.casts_to p t n)) None) may) ∙ h);
      }
