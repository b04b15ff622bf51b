-- Creation of arrays under a renaming.
use Rattle.std.proofs.Common.{◌≡◌, refl, sym, ap, ◌∙◌, ℕ, zero, suc, ◌+◌, ◌*◌, false, List, [], ◌∷◌, ◌++◌, map, length}
use Rattle.std.specs.Prelude.{replicate}
use Rattle.std.proofs.lemmas.List.{map-append}
use Rattle.jr_base.specs.declared.ids.DeclId.{DeclId}
use Rattle.jr_base.specs.Mirror as t
use Rattle.jr_machine_defs.specs.declared.value.Value.{Value}
use Rattle.jr_machine_defs.specs.declared.value.Value.TheVariants as v
use Rattle.jr_machine_defs.specs.declared.heap.Cell.TheVariants as cell
use Rattle.jr_machine_defs.specs.declared.outcome.Fault.TheVariants as fault
use Rattle.jr_machine_defs.specs.declared.outcome.Sizes.{Sizes}
use Rattle.jr_machine_defs.specs.declared.outcome.Sizes.TheVariants as sizes_are
use Rattle.jr_machine_defs.specs.declared.state.State.{State}
use Rattle.jr_machine_defs.specs.Values.{default_of}
use Rattle.jr_machine_defs.specs.Arrays.{makes_array, sizes_from, references, arrays_of_arrays, arrays, is_array_of, makes_fit, makes_sized, makes_arrays}
use Rattle.jr_machine_defs.specs.States.{push_value, with_heap, add_cell}
use Rattle.jr_machine_defs.specs.Renamed.{IsRenaming, renamed_ty, renamed_cell, renamed_state}
use Rattle.jr_machine_defs.proofs.RenamedValues.{default_renamed}
use Rattle.jr_machine_defs.proofs.RenamedStates.{Alike, goes, stops, if_alike, cell_added, place_renamed, raises_renamed}

map_replicate : {X Y : Type 0} (g : X → Y) (count : ℕ) (x : X) → replicate count (g x) ≡ map g (replicate count x)
map_replicate g zero x = refl
map_replicate g (suc count) x = ap (λ y. g x ∷ y) (map_replicate g count x)

module _ (f : DeclId → DeclId) (p : IsRenaming f) where
  pub makes_array_alike : (ty : t.Ty) (items : List Value) (s : State) → Alike f (makes_array (renamed_ty f ty) items (renamed_state f s)) (makes_array ty items s)
  makes_array_alike (t.Array item) items s =
      goes (ap (λ n. push_value (v.Ref n) (add_cell (cell.Array (renamed_ty f item) items) (renamed_state f s))) (place_renamed f s.heap)
      ∙ ap (push_value (v.Ref (length s.heap))) (cell_added f (cell.Array item items) s))
  makes_array_alike ty items s = stops

  arrays_of_arrays_renamed : (item : t.Ty) (first size count : ℕ)
      → arrays_of_arrays (renamed_ty f item) first size count ≡ map (renamed_cell f) (arrays_of_arrays item first size count)
  arrays_of_arrays_renamed item first size zero = refl
  arrays_of_arrays_renamed item first size (suc count) =
      ap (λ x. cell.Array (renamed_ty f item) (references first size) ∷ x) (arrays_of_arrays_renamed item (first + size) size count)

  arrays_renamed : (ty : t.Ty) (first count : ℕ) (sizes : List ℕ) → arrays (renamed_ty f ty) first count sizes ≡ map (renamed_cell f) (arrays ty first count sizes)
  arrays_renamed (t.Array item) first count [] = refl
  arrays_renamed (t.Array item) first count (size ∷ []) =
      ap (λ x. replicate count (cell.Array (renamed_ty f item) (replicate size x))) (default_renamed f p item)
      ∙ map_replicate (renamed_cell f) count (cell.Array item (replicate size (default_of item)))
  arrays_renamed (t.Array item) first count (size ∷ more ∷ sizes) =
      ap (λ x. x ++ arrays (renamed_ty f item) (first + count) (count * size) (more ∷ sizes)) (arrays_of_arrays_renamed item (first + count) size count)
      ∙ (ap (λ x. map (renamed_cell f) (arrays_of_arrays item (first + count) size count) ++ x) (arrays_renamed item (first + count) (count * size) (more ∷ sizes))
      ∙ sym (map-append (renamed_cell f) (arrays_of_arrays item (first + count) size count) (arrays item (first + count) (count * size) (more ∷ sizes))))
  arrays_renamed ty first count sizes = refl

  is_array_of_renamed : (ty : t.Ty) (sizes : List ℕ) → is_array_of (renamed_ty f ty) sizes ≡ is_array_of ty sizes
  is_array_of_renamed ty [] = refl
  is_array_of_renamed (t.Array item) (size ∷ sizes) = is_array_of_renamed item sizes
  is_array_of_renamed ty (size ∷ sizes) = refl

  made : (ty : t.Ty) (sizes : List ℕ) (s : State)
      → push_value (v.Ref (length (map (renamed_cell f) s.heap)))
      (with_heap (map (renamed_cell f) s.heap ++ arrays (renamed_ty f ty) (length (map (renamed_cell f) s.heap)) 1 sizes) (renamed_state f s))
      ≡ renamed_state f (push_value (v.Ref (length s.heap)) (with_heap (s.heap ++ arrays ty (length s.heap) 1 sizes) s))
  made ty sizes s =
      ap (λ n. push_value (v.Ref n) (with_heap (map (renamed_cell f) s.heap ++ arrays (renamed_ty f ty) n 1 sizes) (renamed_state f s))) (place_renamed f s.heap)
      ∙ ap (λ x. push_value (v.Ref (length s.heap)) (with_heap x (renamed_state f s)))
      (ap (λ x. map (renamed_cell f) s.heap ++ x) (arrays_renamed ty (length s.heap) 1 sizes) ∙ sym (map-append (renamed_cell f) s.heap (arrays ty (length s.heap) 1 sizes)))

  makes_fit_alike : (ty : t.Ty) (sizes : List ℕ) (s : State) → Alike f (makes_fit (renamed_ty f ty) sizes (renamed_state f s)) (makes_fit ty sizes s)
  makes_fit_alike ty [] s = stops
  makes_fit_alike ty (size ∷ sizes) s = if_alike (is_array_of_renamed ty (size ∷ sizes)) (goes (made ty (size ∷ sizes) s)) stops

  makes_sized_alike : (ty : t.Ty) (sizes : Sizes) (s : State) → Alike f (makes_sized (renamed_ty f ty) sizes (renamed_state f s)) (makes_sized ty sizes s)
  makes_sized_alike ty (sizes_are.Fit sizes) s = makes_fit_alike ty sizes s
  makes_sized_alike ty sizes_are.Negative s = goes (raises_renamed f p fault.NegativeArraySize s)
  makes_sized_alike ty sizes_are.Unfit s = stops

  pub makes_arrays_alike : (ty : t.Ty) (dims : List Value) (s : State) → Alike f (makes_arrays (renamed_ty f ty) dims (renamed_state f s)) (makes_arrays ty dims s)
  makes_arrays_alike ty dims s = makes_sized_alike ty (sizes_from dims false []) s
