-- Paths by what stands before their end.
use Rattle.std.proofs.Common.{◌≡◌, ◌≢◌, sym, ◌∙◌, ap, subst, ℕ, List, [], ◌∷◌, ◌++◌, Option, Some, None, Result, Ok, Err, append_assoc, nat_eq, length, ◌⊎◌, inl, inr, ◌↔◌, Bool, true, false, IsTrue, Bor}
use Rattle.std.specs.Prelude.{codes, IfOk, IfSome, IsNone, MatchOption}
use Rattle.std.proofs.lemmas.Bool.{false≢true, true≢false}
use Rattle.std.proofs.lemmas.List.{append_cancel_right}
use Rattle.jr_tree.specs.Rows.{name}
use Rattle.jr_plain.specs.Enclosing.{is_top_level}
use Rattle.jr_marks.specs.declared.marks.Marks.{Marks}
use Rattle.jr_marks.specs.Places.{unit_of}
use Rattle.jr_draft.specs.Drafting.{path_of}
use Rattle.jr_names.specs.Renaming.{IsFolder, IsFileOf, IsPathWith}

-- ---- what stands before a tail

pub stripped : (path tail : List ℕ) (r : Option (Bor (List ℕ))) → MatchOption r ((front : List ℕ) → path ≢ front ++ tail) (λ x. path ≡ x.now ++ tail) → IfSome r (λ front. path ≡ front.now ++ tail)
stripped path tail None h = tt
stripped path tail (Some x) h = h

pub not_stripped : (path tail : List ℕ) (r : Option (Bor (List ℕ))) → MatchOption r ((front : List ℕ) → path ≢ front ++ tail) (λ x. path ≡ x.now ++ tail) → IsNone r → (front : List ℕ) → path ≡ front ++ tail → ⊥
not_stripped path tail None h none front is = h front is
not_stripped path tail (Some x) h none front is = true≢false none

-- ---- folders

pub tells_folder : (folder : List ℕ) (front : List ℕ) (b : Bool) → (b ≡ true → folder ≡ front ++ 47 ∷ []) × ((front : List ℕ) → folder ≡ front ++ 47 ∷ [] → b ≡ true) → (folder ≡ [] → ⊥) → IsTrue b ↔ IsFolder folder
tells_folder folder front b tells some = ((λ is. inr (front, tells.0 is)), (λ h. elim h [ inl none ↦ absurd (some none) | inr ends ↦ tells.1 ends.0 ends.1 ]))

-- ---- files of types

-- the path ends in the name of a type and the ending of a source
abbrev pub ends_so : (folder type : List ℕ) → List ℕ
ends_so folder type = (folder ++ type) ++ codes ".java"

pub file_of : (path stem folder type : List ℕ) → path ≡ stem ++ codes ".java" → stem ≡ folder ++ type → IsFolder folder → IsFileOf path folder type
file_of path stem folder type is also whole = record { path_is = is ∙ ap (λ xs. xs ++ codes ".java") also ∙ append_assoc folder type (codes ".java"); whole = whole }

stem_of : (path stem folder type : List ℕ) → path ≡ stem ++ codes ".java" → IsFileOf path folder type → stem ≡ folder ++ type
stem_of path stem folder type is h = append_cancel_right stem (folder ++ type) (codes ".java") (sym is ∙ h.path_is ∙ sym (append_assoc folder type (codes ".java")))

pub no_source : (path type : List ℕ) → ((front : List ℕ) → path ≡ front ++ codes ".java" → ⊥) → (folder : List ℕ) → IsFileOf path folder type → ⊥
no_source path type none folder h = none (folder ++ type) (h.path_is ∙ sym (append_assoc folder type (codes ".java")))

pub no_name : (path stem type : List ℕ) → path ≡ stem ++ codes ".java" → ((front : List ℕ) → stem ≡ front ++ type → ⊥) → (folder : List ℕ) → IsFileOf path folder type → ⊥
no_name path stem type is none folder h = none folder (stem_of path stem folder type is h)

pub no_folder : (path stem front type : List ℕ) → path ≡ stem ++ codes ".java" → stem ≡ front ++ type → (IsFolder front → ⊥) → (folder : List ℕ) → IsFileOf path folder type → ⊥
no_folder path stem front type is also none folder h = none (subst IsFolder (append_cancel_right folder front type (sym (stem_of path stem folder type is h) ∙ also)) h.whole)

pub some_there : (xs : List ℕ) (b : Bool) → b ≡ nat_eq (length xs) 0 → b ≡ false → xs ≡ [] → ⊥
some_there xs b is other none = false≢true (sym other ∙ is ∙ ap (λ ys. nat_eq (length ys) 0) none)

-- ---- paths of declarations that get a name

module _ (m : Marks) (d : ℕ) (to : List ℕ) where
  pub along_path : (folder path type : List ℕ) {E : Type 0} (r : Result (List ℕ) E) → type ≡ name m.rows.now d → IsFileOf path folder type → IfOk r (λ new. new ≡ folder ++ (to ++ codes ".java"))
      → IfOk r (λ new. path ≡ path_of m (unit_of m d) → is_top_level m.rows.now d ≡ true → IsPathWith m d to new)
  along_path folder path type (Ok new) also file made = λ is top. subst (IsPathWith m d to) (sym made) (IsPathWith.along top (subst (λ xs. IsFileOf xs folder (name m.rows.now d)) is (subst (IsFileOf path folder) also file)))
  along_path folder path type (Err why) also file made = tt

  pub other_path : (path type : List ℕ) → type ≡ name m.rows.now d → ((folder : List ℕ) → IsFileOf path folder type → ⊥)
      → path ≡ path_of m (unit_of m d) → is_top_level m.rows.now d ≡ true → IsPathWith m d to path
  other_path path type also none is top = subst (IsPathWith m d to) (sym is)
      (IsPathWith.other top (λ folder file. none folder (subst (λ xs. IsFileOf xs folder type) (sym is) (subst (IsFileOf (path_of m (unit_of m d)) folder) (sym also) file))))

  pub top_path : (path : List ℕ) (unit : ℕ) (b : Bool) {E : Type 0} (r : Result (List ℕ) E) → unit ≡ unit_of m d → path ≡ path_of m unit → b ≡ is_top_level m.rows.now d → b ≡ true
      → IfOk r (λ new. path ≡ path_of m (unit_of m d) → is_top_level m.rows.now d ≡ true → IsPathWith m d to new) → IfOk r (λ new. IsPathWith m d to new)
  top_path path unit b (Ok new) there is same top made = made (is ∙ ap (path_of m) there) (sym same ∙ top)
  top_path path unit b (Err why) there is same top made = tt

  pub inside_path : (path : List ℕ) (unit : ℕ) (b : Bool) → unit ≡ unit_of m d → path ≡ path_of m unit → b ≡ is_top_level m.rows.now d → b ≡ false → IsPathWith m d to path
  inside_path path unit b there is same top = subst (IsPathWith m d to) (sym (is ∙ ap (path_of m) there)) (IsPathWith.inside (sym same ∙ top))
