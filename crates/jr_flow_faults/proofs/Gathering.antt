-- The facts that are made of the tables.
use Rattle.std.proofs.Common.{◌≡◌, refl, ◌∙◌, ap, ap₂, add-one, ℕ, ◌+◌, ◌<◌, List, [], ◌∷◌, ◌++◌, length, Option, Some, None}
use Rattle.jr_tree.specs.Rows.{Rows}
use Rattle.jr_defs.specs.Referents.{Table}
use Rattle.jr_plain.specs.Conversions.{Constants}
use Rattle.jr_places.specs.Tabulated.{tabulated}
use Rattle.jr_places.proofs.Tables.{tabulated_at, tabulated_same}
use Rattle.jr_constants.specs.declared.value.Value.{Value}
use Rattle.jr_constants.specs.declared.value.Value.TheVariants as v
use Rattle.jr_constants.specs.Values.{value_in_if}
use Rattle.jr_reach.specs.declared.fact.Fact.{Fact}
use Rattle.jr_flow_faults.specs.declared.facts.Part.TheVariants as part
use Rattle.jr_flow_faults.specs.declared.jumps.Targets.{Targets}
use Rattle.jr_flow_faults.specs.Computed.{truth_in, truth_of, no_targets, targets, targets_in, last_part, last_parts, part_in, fact_by, facts_by, fact_at, facts}

-- a boolean of the code is that of the definition
pub truth_told : (texts : List (List ℕ)) (value : Option Value) → truth_of value ≡ truth_in (value_in_if texts value)
truth_told texts None = refl
truth_told texts (Some (v.Bool b)) = refl
truth_told texts (Some (v.Byte z)) = refl
truth_told texts (Some (v.Short z)) = refl
truth_told texts (Some (v.Char n)) = refl
truth_told texts (Some (v.Int z)) = refl
truth_told texts (Some (v.Long z)) = refl
truth_told texts (Some (v.Str n)) = refl

-- one more of a table of a function
pub tabulated_more : {A : Type 0} (f : ℕ → A) (n : ℕ) (all more : List A) (x : A) → all ≡ tabulated f n → x ≡ f n → more ≡ all ++ x ∷ [] → more ≡ tabulated f (n + 1)
tabulated_more f n all more x h is pushed = rw add-one (pushed ∙ ap₂ (λ xs x. xs ++ x ∷ []) h is)

module _ (p : Rows) (t : Table) (constant : Constants) where
  at_row : (n : ℕ) → n < length p → fact_by p t constant (targets_in (tabulated (targets p) (length p)) n) (part_in (last_parts p part.Finally (length p)) n) (part_in (last_parts p part.Default (length p)) n) n ≡ fact_at p t constant n
  at_row n lt = ap (λ (r : Targets). fact_by p t constant r (part_in (last_parts p part.Finally (length p)) n) (part_in (last_parts p part.Default (length p)) n) n) (tabulated_at (targets p) no_targets (length p) n lt)
      ∙ ap₂ (λ last default. fact_by p t constant (targets p n) last default n) (tabulated_at (last_part p part.Finally (length p)) None (length p) n lt) (tabulated_at (last_part p part.Default (length p)) None (length p) n lt)

  pub facts_told : (count : ℕ) (all : List Targets) (lasts defaults : List (Option ℕ)) (made : List Fact) → count ≡ length p → all ≡ tabulated (targets p) count → lasts ≡ last_parts p part.Finally count
      → defaults ≡ last_parts p part.Default count → made ≡ facts_by p t constant all lasts defaults count → made ≡ facts p t constant
  facts_told count all lasts defaults made whole is_all is_lasts is_defaults h = h
      ∙ ap (λ xs. facts_by p t constant xs lasts defaults count) is_all ∙ ap₂ (λ ys zs. facts_by p t constant (tabulated (targets p) count) ys zs count) is_lasts is_defaults
      ∙ ap (λ k. facts_by p t constant (tabulated (targets p) k) (last_parts p part.Finally k) (last_parts p part.Default k) k) whole
      ∙ tabulated_same _ (fact_at p t constant) (length p) at_row
