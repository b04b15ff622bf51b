-- How many parameters a method has, and which type each one has.
use Rattle.std.proofs.Common.{◌≡◌, refl, sym, ◌∙◌, ap, ⊎_elim, arith, ℕ, zero, suc, ◌+◌, ◌<◌, ◌≤◌, Bool, true, false, cond, List, [], ◌∷◌, length, take, drop, Option, Some, None, option_map, nat_le, slice_get, slice_index_or}
use Rattle.std.proofs.lemmas.Bool.{false≢true, cases_lt, leb-true, le-leb}
use Rattle.std.proofs.lemmas.List.{length-take-le, length-drop}
use Rattle.std.proofs.lemmas.Option.{slice_get_past}
use Rattle.jr_tree.specs.Rows.{Rows, role_at}
use Rattle.jr_defs.specs.declared.referent.RowType.{RowType}
use Rattle.jr_defs.specs.Referents.{Table}
use Rattle.jr_plain.specs.Types.{parameters}
use Rattle.jr_supers.specs.declared.signatures.Signature.{Signature}
use Rattle.jr_supers.specs.declared.signatures.Signatures as code
use Rattle.jr_supers.specs.Tabled.{is_callable}
use Rattle.jr_supers.specs.Signatures.{part, parameter_in, nth_of, IsSignatureOf, AreSignatures}

get_take : {A : Type 0} (n : ℕ) (xs : List A) (i : ℕ) → i < n → slice_get (take n xs) i ≡ slice_get xs i
get_take zero xs i lt = absurd (omega arith)
get_take (suc n) [] i lt = refl
get_take (suc n) (x ∷ xs) zero lt = refl
get_take (suc n) (x ∷ xs) (suc i) lt = get_take n xs i (omega arith)

get_drop : {A : Type 0} (n : ℕ) (xs : List A) (i : ℕ) → slice_get (drop n xs) i ≡ slice_get xs (n + i)
get_drop zero xs i = ap (slice_get xs) (omega arith)
get_drop (suc n) [] i = refl
get_drop (suc n) (x ∷ xs) i = let e : suc (n + i) ≡ suc n + i = omega arith in get_drop n xs i ∙ ap (slice_get (x ∷ xs)) e

part_length : (types : List RowType) (first count : ℕ) → first + count ≤ length types → length (part types first count) ≡ count
part_length types first count le = let size = length-drop first types in length-take-le count (drop first types) (omega arith)

nth_part : (types : List RowType) (first count nth : ℕ) → first + count ≤ length types → (b : Bool) → nat_le count nth ≡ b → cond b None (slice_get types (first + nth)) ≡ slice_get (part types first count) nth
nth_part types first count nth le true e = let past = leb-true count nth e in let size = part_length types first count le in sym (slice_get_past (part types first count) nth (omega arith))
nth_part types first count nth le false e = ⊎_elim (λ lt. sym (get_take count (drop first types) nth lt ∙ get_drop first types nth)) (λ past. absurd (false≢true (sym e ∙ le-leb count nth past))) (cases_lt nth count)

module _ (p : Rows) (t : Table) (numbers : ℕ → ℕ → Option ℕ) (types : List RowType) (m : ℕ) (callable : is_callable (role_at p m) ≡ true) where
  count_by : (s : Option Signature) → IsSignatureOf p t numbers types m s → option_map (λ s. s.count) s ≡ option_map (λ all. length all) (parameters p t m)
  count_by None h = ap (option_map (λ all. length all)) (sym (h callable))
  count_by (Some s) h = ap Some (sym (part_length types s.first s.count h.2)) ∙ ap (option_map (λ all. length all)) (sym h.1)

  parameter_by : (nth : ℕ) (s : Option Signature) → IsSignatureOf p t numbers types m s → parameter_in types nth s ≡ nth_of (parameters p t m) nth
  parameter_by nth None h = ap (λ o. nth_of o nth) (sym (h callable))
  parameter_by nth (Some s) h = nth_part types s.first s.count nth h.2 (nat_le s.count nth) refl ∙ ap (λ o. nth_of o nth) (sym h.1)

pub counted : (p : Rows) (t : Table) (s : code.Signatures) (m : ℕ) → AreSignatures p t s → is_callable (role_at p m) ≡ true
    → option_map (λ s. s.count) (slice_index_or s.of_rows.items m None) ≡ option_map (λ all. length all) (parameters p t m)
counted p t s m h callable = count_by p t h.numbers s.types.items m callable (slice_index_or s.of_rows.items m None) (h.each m)

pub nth_parameter : (p : Rows) (t : Table) (s : code.Signatures) (m nth : ℕ) → AreSignatures p t s → is_callable (role_at p m) ≡ true
    → parameter_in s.types.items nth (slice_index_or s.of_rows.items m None) ≡ nth_of (parameters p t m) nth
nth_parameter p t s m nth h callable = parameter_by p t h.numbers s.types.items m callable nth (slice_index_or s.of_rows.items m None) (h.each m)
