-- From the prelude and settled headers to the binding, and back.
use Rattle.std.proofs.Common.{◌≡◌, ◌⊎◌, ◌∙◌, ◌↔◌, refl, ap, subst, sym, inl, inr, ⊎_elim, Bool, true, false, cond, Some, None, Decides}
use Rattle.std.proofs.Math.Path.{fun_ext}
use Rattle.std.proofs.lemmas.Bool.Decides.{not_from_Decides}
use Rattle.std.proofs.lemmas.Option.{none-some, same_Some}
use Rattle.jr_tree.specs.Rows.{Rows}
use Rattle.jr_defs.specs.Referents.{Table, entries}
use Rattle.jr_defs.specs.Binding.{IsBinding, HasCycle}
use Rattle.jr_defs.specs.Formed.{IsFormed}
use Rattle.jr_headers.specs.Growing.{HeadersSettle, header_table, has_settled_headers, cycle_of}
use Rattle.jr_headers.proofs.Told.{table_is, has_settled_tells, settles_beside, cycle_or_settled, no_cycle_where_settled}
use Rattle.jr_binding.specs.Laws.{HasOnePrelude, HasSettledHeaders, IsOnlyBinding}
use Rattle.jr_binding.proofs.Existing.{only_binding}
use Rattle.jr_prelude.specs.Begins.{BeginsWithLang}
use Rattle.jr_prelude.proofs.Begun.{one_object, one_string}
use Rattle.jr_bound.specs.Bound.{the_binding, binding_of}

-- one Object and one String
pub one_prelude : (p : Rows) → BeginsWithLang p → HasOnePrelude p
one_prelude p begins =
    let objects = one_object p begins in
    let strings = one_string p begins in
    record { one_object = λ c d h k. objects.2 c h ∙ sym (objects.2 d k); one_string = λ c d h k. strings.3 c h ∙ sym (strings.3 d k) }

-- the table of headers that is computed is the one with settled headers
settled_headers : (p : Rows) → IsFormed p → HeadersSettle p → HasSettledHeaders p (entries (header_table p))
settled_headers p formed h = subst (HasSettledHeaders p) (sym (fun_ext (table_is p formed h.0 h.1))) (record { of_headers = h.1; settled = h.2 })

module _ (p : Rows) (formed : IsFormed p) (begins : BeginsWithLang p) where
  pub bound_where_settled : has_settled_headers p ≡ true → IsOnlyBinding p (the_binding p)
  bound_where_settled e = only_binding p (entries (header_table p)) formed (one_prelude p begins) (settled_headers p formed ((has_settled_tells p formed).0 e))

  settled_where_bound : (t : Table) → IsBinding p t → has_settled_headers p ≡ true
  settled_where_bound t w = (has_settled_tells p formed).1 (settles_beside p formed t w)

  pub binding_decided : Decides (has_settled_headers p) ((t : Table) × IsBinding p t)
  binding_decided = (λ e. (the_binding p, (bound_where_settled e).binding), λ h. settled_where_bound h.0 h.1)

  pub binding_of_settled : (t : Table) × IsBinding p t → IsBinding p (the_binding p)
  binding_of_settled h = (bound_where_settled (settled_where_bound h.0 h.1)).binding

  pub binding_is : (t : Table) → IsBinding p t → t ≡ the_binding p
  binding_is t w = fun_ext ((bound_where_settled (settled_where_bound t w)).only t w)

  pub unbound_else : has_settled_headers p ≡ false → (t : Table) → IsBinding p t → ⊥
  unbound_else e t w = not_from_Decides (has_settled_headers p) binding_decided e (t, w)

  pub binding_computed : (t : Table) → binding_of p ≡ Some t ↔ IsBinding p t
  binding_computed t = (
    λ e. by (has_settled_headers p) (λ h. (bound_where_settled h).binding) e,
    λ w. let e = settled_where_bound t w in ap (λ b. cond b (Some (the_binding p)) None) e ∙ ap Some (sym (fun_ext ((bound_where_settled e).only t w))),
  )
    where
      by : (b : Bool) → (b ≡ true → IsBinding p (the_binding p)) → cond b (Some (the_binding p)) None ≡ Some t → IsBinding p t
      by true d e = subst (IsBinding p) (same_Some (the_binding p) t e) (d refl)
      by false d e = absurd (none-some t e)

  -- settled headers bring the binding, and it them
  bound_from : HeadersSettle p → (t : Table) × IsBinding p t
  bound_from h = (the_binding p, (bound_where_settled ((has_settled_tells p formed).1 h)).binding)

  pub cycle_or_binding : HasCycle p ⊎ ((t : Table) × IsBinding p t)
  cycle_or_binding = ⊎_elim (λ h. inl h) (λ h. inr (bound_from h)) (cycle_or_settled p formed)

  pub bound_where_none_found : cycle_of p ≡ None ↔ (t : Table) × IsBinding p t
  bound_where_none_found = (λ e. bound_from ((no_cycle_where_settled p formed).0 e), λ h. (no_cycle_where_settled p formed).1 (settles_beside p formed h.0 h.1))
