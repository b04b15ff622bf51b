-- Signatures have one number where their names and types are the same.
use Rattle.std.proofs.Common.{◌≡◌, refl, sym, ◌∙◌, ap, ap₂, subst, ℕ, Bool, true, false, ◌&&◌, List, [], ◌∷◌, ◌++◌, append_assoc, append-nil, Option, Some, None, nat_eq, Decides}
use Rattle.std.specs.Prelude.{bytes_eq, slice_index_or}
use Rattle.std.proofs.lemmas.Bool.Decides.{Decides-eqb}
use Rattle.std.proofs.lemmas.Slice.Eq.{bytes_eq-Decides}
use Rattle.jr_tree.specs.Rows.{Rows, name, role_at}
use Rattle.jr_defs.specs.declared.referent.Element.{Element}
use Rattle.jr_defs.specs.declared.referent.Element.TheVariants as element
use Rattle.jr_defs.specs.declared.referent.RowType.{RowType}
use Rattle.jr_defs.specs.Referents.{Table}
use Rattle.jr_plain.specs.Same.{same_types}
use Rattle.jr_plain.specs.Types.{parameters, is_same_signature, are_same_types}
use Rattle.jr_plain.proofs.Same.{types_tell}
use Rattle.jr_plain.proofs.Tests.{both, like}
use Rattle.jr_places.specs.Numbers.{IsOneToOne, IsNumberOf}
use Rattle.jr_places.proofs.Numbered.{one_number, one_list}
use Rattle.jr_places.specs.Names.{name_row}
use Rattle.jr_places.proofs.Packing.{name_tells}
use Rattle.jr_supers.specs.declared.signatures.Signature.{Signature}
use Rattle.jr_supers.specs.declared.signatures.Signatures as code
use Rattle.jr_supers.specs.Tabled.{is_callable}
use Rattle.jr_supers.specs.Signatures.{kind_of, row_of, with_type, with_types, part, number_of, same_numbers, IsSignatureOf, AreSignatures}
use Rattle.jr_supers.proofs.Subtyped.{one_test}

-- ---- the numbers tell the types

abbrev words : List Element
words = element.Boolean ∷ element.Byte ∷ element.Short ∷ element.Char ∷ element.Int ∷ element.Long ∷ element.Null ∷ element.Void ∷ []

abbrev element_back : ℕ → ℕ → Element
element_back kind row = slice_index_or words kind (element.Class row)

back_element : (e : Element) → element_back (kind_of e) (row_of e) ≡ e
back_element element.Boolean = refl
back_element element.Byte = refl
back_element element.Short = refl
back_element element.Char = refl
back_element element.Int = refl
back_element element.Long = refl
back_element element.Null = refl
back_element element.Void = refl
back_element (element.Class c) = refl

abbrev type_back : ℕ → ℕ → ℕ → RowType
type_back dims row kind = record { element = element_back kind row; dims = dims }

back_type : (a : RowType) → type_back a.dims (row_of a.element) (kind_of a.element) ≡ a
back_type a = ap (λ e. record { element = e; dims = a.dims }) (back_element a.element)

-- the types that such a list ends with, and the number before them
abbrev types_back : List ℕ → List RowType
types_back [] = []
types_back (x ∷ []) = []
types_back (x ∷ y ∷ []) = []
types_back (dims ∷ row ∷ kind ∷ rest) = types_back rest ++ type_back dims row kind ∷ []

abbrev first_back : List ℕ → ℕ
first_back [] = 0
first_back (x ∷ []) = x
first_back (x ∷ y ∷ []) = 0
first_back (dims ∷ row ∷ kind ∷ rest) = first_back rest

back_types : (all : List RowType) (xs : List ℕ) → types_back (with_types all xs) ≡ types_back xs ++ all
back_types [] xs = sym (append-nil (types_back xs))
back_types (a ∷ more) xs = back_types more (with_type a xs) ∙ ap (λ b. (types_back xs ++ b ∷ []) ++ more) (back_type a) ∙ append_assoc (types_back xs) (a ∷ []) more

back_first : (all : List RowType) (xs : List ℕ) → first_back (with_types all xs) ≡ first_back xs
back_first [] xs = refl
back_first (a ∷ more) xs = back_first more (with_type a xs)

same_lists : (a b : List RowType) (x y : ℕ) → with_types a (x ∷ []) ≡ with_types b (y ∷ []) → (x ≡ y) × (a ≡ b)
same_lists a b x y e = (sym (back_first a (x ∷ [])) ∙ ap first_back e ∙ back_first b (y ∷ []), sym (back_types a (x ∷ [])) ∙ ap types_back e ∙ back_types b (y ∷ []))

-- ---- signatures

module _ (p : Rows) where
  -- two numbers are one where names and types are
  module _ (numbers : ℕ → ℕ → Option ℕ) (one : IsOneToOne numbers) where
    same_by_numbers : (m k n r : ℕ) (a b : List RowType) → IsNumberOf numbers n (with_types a (name_row p m ∷ [])) → IsNumberOf numbers r (with_types b (name_row p k ∷ []))
        → nat_eq n r ≡ (bytes_eq (name p m) (name p k) && same_types a b)
    same_by_numbers m k n r a b h j = one_test (nat_eq n r) (bytes_eq (name p m) (name p k) && same_types a b) ((name p m ≡ name p k) × (a ≡ b))
        (like (Decides-eqb n r)
        (λ e. let same = same_lists a b (name_row p m) (name_row p k) (one_list numbers one n _ _ h (subst (λ x. IsNumberOf numbers x (with_types b (name_row p k ∷ []))) (sym e) j)) in
        ((name_tells p m k).0 ((Decides-eqb (name_row p m) (name_row p k)).1 same.0), same.1))
        (λ same. one_number numbers n r (with_types b (name_row p k ∷ []))
        (subst (λ xs. IsNumberOf numbers n xs) (ap₂ (λ x xs. with_types xs (x ∷ [])) ((Decides-eqb (name_row p m) (name_row p k)).0 ((name_tells p m k).1 same.0)) same.1) h) j))
        (both (bytes_eq-Decides (name p m) (name p k)) (types_tell a b))

    none_same : (b : Bool) → false ≡ (b && false)
    none_same true = refl
    none_same false = refl

    same_or_none : (t : Table) (types : List RowType) (m k : ℕ) (s r : Option Signature) → IsSignatureOf p t numbers types m s → IsSignatureOf p t numbers types k r → is_callable (role_at p m) ≡ true → is_callable (role_at p k) ≡ true
        → same_numbers (number_of s) (number_of r) ≡ is_same_signature p t m k
    same_or_none t types m k None r h j am ak = none_same (bytes_eq (name p m) (name p k)) ∙ ap (λ o. bytes_eq (name p m) (name p k) && are_same_types o (parameters p t k)) (sym (h am))
    same_or_none t types m k (Some s) None h j am ak = none_same (bytes_eq (name p m) (name p k)) ∙ ap₂ (λ o q. bytes_eq (name p m) (name p k) && are_same_types o q) (sym h.1) (sym (j ak))
    same_or_none t types m k (Some s) (Some r) h j am ak = same_by_numbers m k s.number r.number (part types s.first s.count) (part types r.first r.count) h.3 j.3
        ∙ ap₂ (λ o q. bytes_eq (name p m) (name p k) && are_same_types o q) (sym h.1) (sym j.1)

pub same_signatures : (p : Rows) (t : Table) (s : code.Signatures) (m k : ℕ) → AreSignatures p t s → is_callable (role_at p m) ≡ true → is_callable (role_at p k) ≡ true
    → same_numbers (number_of (slice_index_or s.of_rows.items m None)) (number_of (slice_index_or s.of_rows.items k None)) ≡ is_same_signature p t m k
same_signatures p t s m k h am ak = same_or_none p h.numbers h.one t s.types.items m k (slice_index_or s.of_rows.items m None) (slice_index_or s.of_rows.items k None) (h.each m) (h.each k) am ak
