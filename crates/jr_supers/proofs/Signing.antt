-- Signatures are made row by row.
use Rattle.std.proofs.Common.{◌≡◌, refl, sym, ◌∙◌, ap, ap₂, subst, ⊎_elim, arith, ℕ, zero, suc, ◌+◌, ◌-◌, ◌<◌, ◌≤◌, Bool, true, false, not, cond, List, [], ◌∷◌, ◌++◌, append_assoc, append-nil, length, length-append, take, drop, Option, Some, None, nat_eq, slice_index_or}
use Rattle.std.proofs.Math.ListN.{get_or-append}
use Rattle.std.proofs.Math.Seq.{get_or-append_seam}
use Rattle.std.proofs.lemmas.Bool.{false≢true, cases_eq, cases_lt}
use Rattle.std.proofs.lemmas.List.{drop-append-le, drop_at, take-append-le, take_all, length-drop, get_or_past}
use Rattle.jr_tree.specs.declared.label.Role.TheVariants as role
use Rattle.jr_tree.specs.Labels.{role_of}
use Rattle.jr_tree.specs.Rows.{Rows, parent, end, role_at}
use Rattle.jr_defs.specs.declared.referent.RowType.{RowType}
use Rattle.jr_defs.specs.Referents.{Table}
use Rattle.jr_plain.specs.Same.{same_role}
use Rattle.jr_plain.specs.Types.{before, type_of_declared, parameters, parameters_by, parameters_from}
use Rattle.jr_plain.proofs.Bounds.{label_past, parent_past}
use Rattle.jr_places.specs.declared.numbering.Numbering.{Numbering}
use Rattle.jr_places.specs.Numbers.{number_in, IsNumbering, IsNumberOf, Adds}
use Rattle.jr_places.proofs.Numbered.{number_kept}
use Rattle.jr_places.specs.Names.{name_row}
use Rattle.jr_supers.specs.declared.signatures.Signature.{Signature}
use Rattle.jr_supers.specs.declared.signatures.Signatures as code
use Rattle.jr_supers.specs.Tabled.{is_callable}
use Rattle.jr_supers.specs.Signatures.{kind_of, row_of, with_type, with_types, behind, with_parameter, behind_if, found_if, part, IsParameterAt, Continues, ContinuesTo, IsPart, AddsTo, IsSignatureOf, AreSignatures, AddsAt, AreSignaturesTo}

-- ---- numbers of types

pub continues_type : {a b c d : Numbering} {list kind class n dims : ℕ} (ty : RowType) (k r : ℕ) → k ≡ kind_of ty.element → r ≡ row_of ty.element → dims ≡ ty.dims
    → Adds a b list k kind → Adds b c kind r class → Adds c d class dims n → Continues a d list n (with_type ty)
continues_type {a = a} {b = b} {c = c} {d = d} {list = list} {kind = kind} {class = class} {n = n} {dims = dims} ty k r ke re de f g h = record {
  is = λ before at. subst (λ x. IsNumberOf (number_in d) n (x ∷ row_of ty.element ∷ kind_of ty.element ∷ before)) de
      (subst (λ x. IsNumberOf (number_in d) n (dims ∷ x ∷ kind_of ty.element ∷ before)) re (subst (λ x. IsNumberOf (number_in d) n (dims ∷ r ∷ x ∷ before)) ke
      (IsNumberOf.more (IsNumberOf.more (IsNumberOf.more (number_kept (number_in a) (number_in d) all list before at) (h.kept list k kind (g.kept list k kind f.has))) (h.kept kind r class g.has)) h.has)));
  kept = all;
  counted = h.counted;
}
  where
    all : (x y z : ℕ) → number_in a x y ≡ Some z → number_in d x y ≡ Some z
    all x y z e = h.kept x y z (g.kept x y z (f.kept x y z e))

pub continues_start : {old : Numbering} {list : ℕ} {all : List RowType} → IsNumbering old → ContinuesTo old old list list all all
continues_start counted = record { is = λ before at. (before, at, refl); kept = λ x y z e. e; counted = counted }

pub continues_more : {old now next : Numbering} {list number n : ℕ} {all rest after : List RowType} (ty : RowType) → rest ≡ ty ∷ after → ContinuesTo old now list number all rest → Continues now next number n (with_type ty)
    → ContinuesTo old next list n all after
continues_more {all = all} {after = after} ty e h k = record {
  is = λ before at. let was = h.is before at in (with_type ty was.0, k.is was.0 was.1, ap (λ r. with_types r was.0) (sym e) ∙ was.2);
  kept = λ x y z e. k.kept x y z (h.kept x y z e);
  counted = k.counted;
}

pub continues_end : {old now : Numbering} {list number : ℕ} {all rest : List RowType} → rest ≡ [] → ContinuesTo old now list number all rest → Continues old now list number (with_types all)
continues_end {now = now} {number = number} e h = record {
  is = λ before at. let was = h.is before at in subst (IsNumberOf (number_in now) number) (ap (λ r. with_types r was.0) (sym e) ∙ was.2) was.1;
  kept = h.kept;
  counted = h.counted;
}

-- ---- parameters

module _ (p : Rows) (t : Table) where
  pub no_parameter : (k : ℕ) (done : List RowType) (rest : Option (List RowType)) → same_role (role_at p k) role.Parameter ≡ false → behind done (with_parameter p t k rest) ≡ behind_if true done rest
  no_parameter k done rest e = ap (λ b. behind done (cond b (before (type_of_declared p t k) rest) rest)) e

  pub one_parameter : (k : ℕ) (done more : List RowType) (a : RowType) (rest : Option (List RowType)) → same_role (role_at p k) role.Parameter ≡ true → type_of_declared p t k ≡ Some a → more ≡ done ++ a ∷ []
      → behind done (with_parameter p t k rest) ≡ behind_if true more rest
  one_parameter k done more a rest e f pushed = ap₂ (λ b o. behind done (cond b (before o rest) rest)) e f ∙ by rest ∙ ap (λ xs. behind xs rest) (sym pushed)
    where
      by : (rest : Option (List RowType)) → behind done (before (Some a) rest) ≡ behind (done ++ a ∷ []) rest
      by None = refl
      by (Some xs) = ap Some (sym (append_assoc done (a ∷ []) xs))

  pub lost_parameter : (k : ℕ) (done more : List RowType) (rest : Option (List RowType)) → same_role (role_at p k) role.Parameter ≡ true → type_of_declared p t k ≡ None → behind done (with_parameter p t k rest) ≡ behind_if false more rest
  lost_parameter k done more rest e f = ap₂ (λ b o. behind done (cond b (before o rest) rest)) e f

  not_below : (m k : ℕ) (behind_k : Option (List RowType)) → nat_eq (parent p k) m ≡ false → parameters_by p t m k behind_k ≡ Some []
  not_below m k rest e = ap (λ b. cond b (with_parameter p t k rest) (Some [])) e

  is_below : (m k : ℕ) (rest : Option (List RowType)) → nat_eq (parent p k) m ≡ true → parameters_by p t m k rest ≡ with_parameter p t k rest
  is_below m k rest e = ap (λ b. cond b (with_parameter p t k rest) (Some [])) e

  ends_by : (m room k : ℕ) → nat_eq (parent p k) m ≡ false → parameters_from p t m room k ≡ Some []
  ends_by m zero k e = not_below m k None e
  ends_by m (suc room) k e = not_below m k (parameters_from p t m room (end p k)) e

  -- the row is below no such method
  pub all_found : (start done : List RowType) (m room k : ℕ) → IsParameterAt p t start done m room k → nat_eq (parent p k) m ≡ false → behind start (parameters p t m) ≡ found_if true done
  all_found start done m room k h e = sym h ∙ ap (behind done) (ends_by m room k e) ∙ ap Some (append-nil done)

  pub one_less : (start done more : List RowType) (m room k next : ℕ) → IsParameterAt p t start done m (suc room) k → nat_eq (parent p k) m ≡ true → next ≡ end p k
      → behind done (with_parameter p t k (parameters_from p t m room (end p k))) ≡ behind_if true more (parameters_from p t m room (end p k)) → IsParameterAt p t start more m room next
  one_less start done more m room k next h e is step = ap (λ n. behind more (parameters_from p t m room n)) is ∙ sym step ∙ sym (ap (behind done) (is_below m k (parameters_from p t m room (end p k)) e)) ∙ h

  pub one_lost : (start done more : List RowType) (m room k : ℕ) → IsParameterAt p t start done m (suc room) k → nat_eq (parent p k) m ≡ true
      → behind done (with_parameter p t k (parameters_from p t m room (end p k))) ≡ behind_if false more (parameters_from p t m room (end p k)) → behind start (parameters p t m) ≡ found_if false more
  one_lost start done more m room k h e step = sym h ∙ ap (behind done) (is_below m k (parameters_from p t m room (end p k)) e) ∙ step

  -- no room is left
  none_before : (k : ℕ) → with_parameter p t k None ≡ None
  none_before k = by (same_role (role_at p k) role.Parameter) (type_of_declared p t k)
    where
      by : (b : Bool) (o : Option RowType) → cond b (before o None) None ≡ None
      by true None = refl
      by true (Some a) = refl
      by false o = refl

  pub no_room : (start done : List RowType) (m k : ℕ) → IsParameterAt p t start done m zero k → nat_eq (parent p k) m ≡ true → behind start (parameters p t m) ≡ found_if false done
  no_room start done m k h e = sym h ∙ ap (behind done) (is_below m k None e ∙ none_before k)

  pub first_child_at : (start : List RowType) (m k : ℕ) → k ≡ m + 1 → IsParameterAt p t start start m (length p - 0) k
  first_child_at start m k e = let room : length p - 0 ≡ length p = omega arith in ap₂ (λ r k. behind start (parameters_from p t m r k)) room e

  pub next_child : (start done more : List RowType) (m size turn k next : ℕ) (found : Bool) → found ≡ true → turn < size → IsParameterAt p t start done m (size - turn) k → nat_eq (parent p k) m ≡ true → next ≡ end p k
      → ((rest : Option (List RowType)) → behind done (with_parameter p t k rest) ≡ behind_if found more rest) → IsParameterAt p t start more m (size - (turn + 1)) next
  next_child start done more m size turn k next found was lt h e is step = let room : size - turn ≡ suc (size - (turn + 1)) = omega (arith, lt) in
      one_less start done more m (size - (turn + 1)) k next (subst (λ r. IsParameterAt p t start done m r k) room h) e is
      (step (parameters_from p t m (size - (turn + 1)) (end p k)) ∙ ap (λ b. behind_if b more (parameters_from p t m (size - (turn + 1)) (end p k))) was)

  pub lost_child : (start done more : List RowType) (m size turn k : ℕ) (found : Bool) → found ≡ false → turn < size → IsParameterAt p t start done m (size - turn) k → nat_eq (parent p k) m ≡ true
      → ((rest : Option (List RowType)) → behind done (with_parameter p t k rest) ≡ behind_if found more rest) → behind start (parameters p t m) ≡ found_if false more
  lost_child start done more m size turn k found was lt h e step = let room : size - turn ≡ suc (size - (turn + 1)) = omega (arith, lt) in
      one_lost start done more m (size - (turn + 1)) k (subst (λ r. IsParameterAt p t start done m r k) room h) e
      (step (parameters_from p t m (size - (turn + 1)) (end p k)) ∙ ap (λ b. behind_if b more (parameters_from p t m (size - (turn + 1)) (end p k))) was)

  -- all turns are done
  pub last_child : (start done : List RowType) (m size turn k : ℕ) (b : Bool) → size ≤ turn → IsParameterAt p t start done m (size - turn) k → b ≡ nat_eq (parent p k) m → behind start (parameters p t m) ≡ found_if (not b) done
  last_child start done m size turn k true le h e = let room : size - turn ≡ zero = omega (arith, le) in no_room start done m k (subst (λ r. IsParameterAt p t start done m r k) room h) (sym e)
  last_child start done m size turn k false le h e = all_found start done m (size - turn) k h (sym e)

  -- a row below another stands before the end
  pub child_inside : (m k : ℕ) → m < length p → parent p k ≡ m → k < length p
  child_inside m k lt e = ⊎_elim (λ l. l) (λ le. let past = parent_past p k le in absurd (omega arith)) (cases_lt k (length p))

pub behind_none : (o : Option (List RowType)) → behind [] o ≡ o
behind_none None = refl
behind_none (Some xs) = refl

pub all_types : (start done : List RowType) (o : Option (List RowType)) → start ≡ [] → behind start o ≡ found_if true done → Some done ≡ o
all_types start done o e h = sym h ∙ ap (λ xs. behind xs o) e ∙ behind_none o

pub no_types : (start done : List RowType) (o : Option (List RowType)) → start ≡ [] → behind start o ≡ found_if false done → None ≡ o
no_types start done o e h = sym h ∙ ap (λ xs. behind xs o) e ∙ behind_none o

-- ---- one signature

pub adds_to : {old mid new : Numbering} {types more own : List RowType} {name named number first count : ℕ} (s : Signature) → Adds old mid 0 name named → Continues mid new named number (with_types own) → more ≡ types ++ own
    → IsPart s first count number → first ≡ length types → count ≡ length own → AddsTo old new types more name own s
adds_to {new = new} {own = own} {name = name} s a c pushed part fi co = record {
  is = subst (λ n. IsNumberOf (number_in new) n (with_types own (name ∷ []))) (sym part.number_is) (c.is (name ∷ []) (IsNumberOf.more IsNumberOf.empty a.has));
  kept = λ x y z e. c.kept x y z (a.kept x y z e);
  counted = c.counted;
  types_are = pushed;
  first_is = part.first_is ∙ fi;
  count_is = part.count_is ∙ co;
}

part_added : (types own more : List RowType) (first count : ℕ) → more ≡ types ++ own → first ≡ length types → count ≡ length own → part more first count ≡ own
part_added types own more first count e f c = ap₂ (λ xs n. take count (drop n xs)) e f ∙ ap (take count) (drop_at types own (length types) refl) ∙ take_all count own (omega (arith, c))

module _ (p : Rows) (t : Table) where
  pub adds_none : {old : Numbering} (types : List RowType) (n : ℕ) → IsNumbering old → (is_callable (role_at p n) ≡ true → parameters p t n ≡ None) → AddsAt p t old old types types n None
  adds_none types n counted h = record { is = h; kept = λ x y z e. e; counted = counted; rest = []; types_are = sym (append-nil types) }

  pub adds_one : {old new : Numbering} {types more own : List RowType} {name : ℕ} (n : ℕ) (s : Signature) → is_callable (role_at p n) ≡ true → parameters p t n ≡ Some own → name ≡ name_row p n
      → AddsTo old new types more name own s → AddsAt p t old new types more n (Some s)
  adds_one {new = new} {types = types} {more = more} {own = own} {name = name} n s callable are named a = let same = part_added types own more s.first s.count a.types_are a.first_is a.count_is in record {
    is = (callable, are ∙ ap Some (sym same), inside, subst (λ xs. IsNumberOf (number_in new) s.number (with_types xs (name_row p n ∷ []))) (sym same) (subst (λ x. IsNumberOf (number_in new) s.number (with_types own (x ∷ []))) named a.is));
    kept = a.kept;
    counted = a.counted;
    rest = own;
    types_are = a.types_are;
  }
    where
      inside : s.first + s.count ≤ length more
      inside = let size = ap length a.types_are in let sum = length-append types own in let f = a.first_is in let c = a.count_is in omega arith

  -- ---- all rows

  part_kept : (types rest more : List RowType) (first count : ℕ) → more ≡ types ++ rest → first + count ≤ length types → part more first count ≡ part types first count
  part_kept types rest more first count e le = let size = length-drop first types in ap (λ xs. take count (drop first xs)) e ∙ ap (take count) (drop-append-le first types rest (omega arith)) ∙ take-append-le count (drop first types) rest (omega arith)

  signature_kept : (old new : ℕ → ℕ → Option ℕ) (types rest more : List RowType) → ((x y z : ℕ) → old x y ≡ Some z → new x y ≡ Some z) → more ≡ types ++ rest → (k : ℕ) (s : Option Signature)
      → IsSignatureOf p t old types k s → IsSignatureOf p t new more k s
  signature_kept old new types rest more kept e k None h = h
  signature_kept old new types rest more kept e k (Some s) h = let same = part_kept types rest more s.first s.count e h.2 in let size = ap length e in let sum = length-append types rest in let le = h.2 in
      (h.0, h.1 ∙ ap Some (sym same), omega arith, subst (λ xs. IsNumberOf new s.number (with_types xs (name_row p k ∷ []))) (sym same) (number_kept old new kept s.number _ h.3))

  pub signatures_start : {numbers : Numbering} (types : List RowType) (of_rows : List (Option Signature)) → IsNumbering numbers → of_rows ≡ [] → AreSignaturesTo p t numbers types of_rows 0
  signatures_start types of_rows counted none = record { counted = counted; size = ap length none; each = λ k lt. absurd (omega arith) }

  pub signatures_more : {old new : Numbering} {types more : List RowType} {of_rows later : List (Option Signature)} {n : ℕ} (s : Option Signature) (next : ℕ) → AreSignaturesTo p t old types of_rows n → AddsAt p t old new types more n s
      → later ≡ of_rows ++ s ∷ [] → next ≡ n + 1 → AreSignaturesTo p t new more later next
  signatures_more {old = old} {new = new} {types = types} {more = more} {of_rows = of_rows} {later = later} {n = n} s next h a pushed is = record {
    counted = a.counted;
    size = let sum = length-append of_rows (s ∷ []) in let size = h.size in let same = ap length pushed in omega arith;
    each = λ k lt. subst (λ xs. IsSignatureOf p t (number_in new) more k (slice_index_or xs k None)) (sym pushed) (⊎_elim (λ e. here k e) (λ apart. there k (omega arith)) (cases_eq k n));
  }
    where
      there : (k : ℕ) → k < n → IsSignatureOf p t (number_in new) more k (slice_index_or (of_rows ++ s ∷ []) k None)
      there k lt = let size = h.size in subst (IsSignatureOf p t (number_in new) more k) (sym (get_or-append of_rows (s ∷ []) None k (omega arith))) (signature_kept (number_in old) (number_in new) types a.rest more a.kept a.types_are k (slice_index_or of_rows k None) (h.each k lt))

      here : (k : ℕ) → k ≡ n → IsSignatureOf p t (number_in new) more k (slice_index_or (of_rows ++ s ∷ []) k None)
      here k e = subst (λ j. IsSignatureOf p t (number_in new) more j (slice_index_or (of_rows ++ s ∷ []) j None)) (sym e)
          (subst (λ o. IsSignatureOf p t (number_in new) more n o) (sym (get_or-append_seam of_rows s [] None) ∙ ap (λ j. slice_index_or (of_rows ++ s ∷ []) j None) h.size) a.is)

  pub signatures_end : {numbers : Numbering} (s : code.Signatures) (n : ℕ) → AreSignaturesTo p t numbers s.types.items s.of_rows.items n → n ≡ length p → AreSignatures p t s
  signatures_end {numbers = numbers} s n h e = record {
    numbers = number_in numbers;
    one = h.counted.one;
    each = λ k. ⊎_elim (λ lt. h.each k (omega (arith, e))) (λ le. let size = h.size in subst (IsSignatureOf p t (number_in numbers) s.types.items k) (sym (get_or_past s.of_rows.items k None (omega (arith, e))))
        (λ callable. absurd (false≢true (sym (ap (λ l. is_callable (role_of l)) (label_past p k le)) ∙ callable)))) (cases_lt k (length p));
  }
