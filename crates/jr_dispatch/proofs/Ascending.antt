-- A call finds a method on the way up from a class, a turn at a time (JLS 15.12.4.4).
use Rattle.std.proofs.Common.{◌≡◌, sym, subst, arith, ℕ, zero, suc, ◌-◌, List, length, Option, Some, None}
use Rattle.jr_tree.specs.Rows.{Rows}
use Rattle.jr_defs.specs.Referents.{Table}
use Rattle.jr_defs.specs.Supertypes.{Superclass}
use Rattle.jr_defs.specs.Overriding.{FoundFrom}
use Rattle.jr_plain.specs.Search.{Finds}
use Rattle.jr_plain.specs.Headed.{IsHeaded}
use Rattle.jr_places.specs.declared.chains.Entry.{Entry}
use Rattle.jr_supers.specs.Direct.{HasSupers}
use Rattle.jr_supers.specs.Order.{IsOrderOf}
use Rattle.jr_dispatch.specs.Dispatching.{IsFirstServing, EndsIn}
use Rattle.jr_dispatch.proofs.Climbing.{all_end, LeadsFrom, found_here, found_up, found_end}

-- what is found from b on is found from the class, and the way up from b ends in less than so many turns
pub record IsClimbing (p : Rows) (t : Table) (c m b turns : ℕ) : Type 0 where
  pub leads : LeadsFrom p t c m b
  pub ends : EndsIn p t turns b

module _ (p : Rows) (t : Table) (c m : ℕ) where
  pub climb_start : IsHeaded p → (supers : List Entry) (order : List ℕ) (turns : ℕ) → HasSupers p t supers → IsOrderOf p supers order → turns ≡ suc (length order) → IsClimbing p t c m c turns
  climb_start headed supers order turns listed ordered enough = record {
    leads = λ f k. k;
    ends = subst (λ n. EndsIn p t n c) (sym enough) (all_end p t headed supers listed order ordered c);
  }

  ends_next : (turns b s : ℕ) → EndsIn p t turns b → Superclass p t b s → EndsIn p t (turns - 1) s
  ends_next zero b s ends up = absurd ends
  ends_next (suc n) b s ends up = let less : n ≡ suc n - 1 = omega arith in subst (λ k. EndsIn p t k s) less (ends s up)

  pub climb_more : (turns left b s : ℕ) (first over : Option ℕ) → left ≡ turns - 1 → first ≡ None → over ≡ Some s → IsFirstServing p t c m b first → Finds over (Superclass p t b) → IsClimbing p t c m b turns
      → IsClimbing p t c m s left
  climb_more turns left b s first over less none some here finds h = let up = (finds s).0 some in record {
    leads = found_up p t c m b s h.leads (subst (λ o. IsFirstServing p t c m b o) none here) up;
    ends = subst (λ n. EndsIn p t n s) (sym less) (ends_next turns b s h.ends up);
  }

  pub climb_found : (turns b f : ℕ) (first : Option ℕ) → first ≡ Some f → IsFirstServing p t c m b first → IsClimbing p t c m b turns → FoundFrom p t c m c f
  climb_found turns b f first some here h = found_here p t c m b f h.leads (subst (λ o. IsFirstServing p t c m b o) some here)

  pub climb_top : (turns b : ℕ) (first over : Option ℕ) → first ≡ None → over ≡ None → IsFirstServing p t c m b first → Finds over (Superclass p t b) → IsClimbing p t c m b turns → FoundFrom p t c m c m
  climb_top turns b first over none top here finds h = found_end p t c m b over top finds h.leads (subst (λ o. IsFirstServing p t c m b o) none here)

  pub climb_past : (turns b f : ℕ) → turns ≡ 0 → IsClimbing p t c m b turns → FoundFrom p t c m c f
  climb_past turns b f past h = absurd (subst (λ n. EndsIn p t n b) past h.ends)
