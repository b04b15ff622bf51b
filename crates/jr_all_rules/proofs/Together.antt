-- The tests of all rules tell what they are to tell.
use Rattle.std.proofs.Common.{◌≡◌, refl, inl, inr, ⊎_elim, arith, ℕ, ◌≤◌, ◌<◌, true, not, List, ◌++◌, length, nat_eq, Decides}
use Rattle.std.specs.List.{list_any}
use Rattle.std.proofs.lemmas.Bool.Decides.{Decides-eqb}
use Rattle.jr_tree.specs.Rows.{Rows}
use Rattle.jr_defs.specs.declared.referent.Referent.TheVariants.{Unbound}
use Rattle.jr_defs.specs.Referents.{Table}
use Rattle.jr_defs.specs.Formed.{IsFormed}
use Rattle.jr_plain.specs.Search.{has}
use Rattle.jr_plain.specs.Typing.{IsTypable, expression_types}
use Rattle.jr_plain.specs.Overriding.{overriding}
use Rattle.jr_plain.proofs.Tests.{opposite, like}
use Rattle.jr_plain.proofs.Searches.{every, some_item}
use Rattle.jr_rules.specs.Compiling.{BreaksAll}
use Rattle.jr_rules.specs.Computed.{values}
use Rattle.jr_rules.specs.Computed as typed
use Rattle.jr_rules.proofs.AllRules.{or_tells, breaks_types_tells}
use Rattle.jr_rules.proofs.Bounded as of_types
use Rattle.jr_name_rules.specs.Computed as named
use Rattle.jr_name_rules.proofs.AllRules.{breaks_tells}
use Rattle.jr_name_rules.proofs.Bounded.{broken_in_formed}
use Rattle.jr_member_rules.specs.Computed as members
use Rattle.jr_member_rules.proofs.AllRules.{breaks_members_tells}
use Rattle.jr_member_rules.proofs.AllRules as of_members
use Rattle.jr_all_rules.specs.Computed as plain

-- a list without items
none_tells : (xs : List ℕ) → Decides (not (list_any (λ rule. true) xs)) ((rule : ℕ) → has xs rule ≡ true → ⊥)
none_tells xs = like (opposite (some_item nat_eq Decides-eqb (λ rule. true) xs)) (λ h rule at. h (rule, at, refl)) (λ h w. h w.0 w.1)

module _ (p : Rows) (t : Table) where
  abbrev names_at : ℕ → List ℕ
  names_at n = named.broken_at p t (expression_types p t (values p t)) n

  abbrev members_at : ℕ → List ℕ
  members_at n = members.broken_at p t (values p t) (overriding p t) n

  abbrev types_at : ℕ → List ℕ
  types_at n = typed.broken_at p t (values p t) (expression_types p t (values p t)) n

  pub breaks_all_tells : (rule n : ℕ) → IsTypable p t → Decides (plain.breaks_all p t rule n) (BreaksAll p t rule n)
  breaks_all_tells rule n typable = like (or_tells (names_at n) (members_at n ++ types_at n) rule (breaks_tells p t rule n typable)
      (or_tells (members_at n) (types_at n) rule (breaks_members_tells p t typable rule n) (breaks_types_tells p t typable rule n)))
      (⊎_elim (λ h. inl (inl h)) (⊎_elim (λ h. inl (inr h)) (λ h. inr h))) (⊎_elim (⊎_elim (λ h. inl h) (λ h. inr (inl h))) (λ h. inr (inr h)))

  module _ (formed : IsFormed p) (past : (o : ℕ) → length p ≤ o → t o ≡ Unbound) where
    pub breaking_row : (rule n : ℕ) → BreaksAll p t rule n → n < length p
    breaking_row rule n (inl (inl h)) = broken_in_formed p t rule n formed h
    breaking_row rule n (inl (inr h)) = of_members.breaking_row p t formed.tree h
    breaking_row rule n (inr h) = of_types.breaking_row p t past rule n h

    pub keeps_all_tells : IsTypable p t → Decides (plain.keeps_all p t) ((rule n : ℕ) → BreaksAll p t rule n → ⊥)
    keeps_all_tells typable = like (every {P = λ n. (rule : ℕ) → BreaksAll p t rule n → ⊥} (length p)
        (λ n. not (list_any (λ rule. true) (plain.broken_at p t (values p t) (expression_types p t (values p t)) (overriding p t) n)))
        (λ n. like (none_tells (plain.broken_at p t (values p t) (expression_types p t (values p t)) (overriding p t) n))
        (λ h rule b. h rule ((breaks_all_tells rule n typable).1 b)) (λ h rule at. h rule ((breaks_all_tells rule n typable).0 at)))
        (λ n le rule b. let lt = breaking_row rule n b in absurd (omega arith)))
        (λ h rule n b. h n rule b) (λ h n rule b. h rule n b)
