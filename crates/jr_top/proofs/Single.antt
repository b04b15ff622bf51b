-- One file as a map, its image, and the journal of its change.
use Rattle.std.proofs.Common.{◌≡◌, ◌≢◌, ℕ, ◌≤◌, List, [], ◌∷◌, length, Bool, true, false, cond, map, not, Some, None, Option, IsSome, IsTrue, refl, sym, ap, subst, ◌∙◌, arith}
use Rattle.std.specs.Prelude.{bytes_eq}
use Rattle.std.specs.List.{AllByRecursion}
use Rattle.std.specs.Ordering.{nat_cmp}
use Rattle.std.specs.FinMap as finite
use Rattle.std.specs.FinMap.Entries.{by_order, put, find}
use Rattle.std.specs.Cmp.{tied_itself}
use Rattle.std.specs.Cmp.Lexicographic.{slice_cmp, nat_list_cmp_total}
use Rattle.std.proofs.lemmas.Bool.{false≢true}
use Rattle.std.proofs.lemmas.Map.Text.{is_eq-slice_cmp}
use Rattle.std.proofs.lemmas.Slice.Eq.{bytes_eq-Decides}
use Rattle.jr_base.specs.Files.{FileMap}
use Rattle.jr_base.specs.Paths.{is_java}
use Rattle.jr_commit.specs.Differences.{File, beside, pairs, entry_of, changes, differences}
use Rattle.jr_commit.specs.Entries.{PlainEntry}
use Rattle.jr_commit.specs.Restoring.{SameFiles}
use Rattle.jr_commit.specs.Sizes.{IsSmallFile}
use Rattle.jr_store.specs.Image.{Image}
use Rattle.jr_store.specs.Replay.{image_of}
use Rattle.jr_top.specs.Renaming.{Holds}

abbrev pub single : List ℕ → List ℕ → FileMap
single path bytes = finite.insert finite.empty path bytes

none_of : (files : List File) → length files ≡ 0 → files ≡ []
none_of [] none = refl
none_of (f ∷ fs) none = absurd (omega arith)

pub entries_single : (path bytes : List ℕ) → finite.entries (single path bytes) ≡ (path, bytes) ∷ []
entries_single path bytes =
    let none : finite.entries {R = slice_cmp nat_cmp} finite.empty ≡ [] = none_of (finite.entries finite.empty) (sym (finite.len-entries finite.empty) ∙ finite.len-empty (slice_cmp nat_cmp) (List ℕ)) in
    finite.entries-insert nat_list_cmp_total finite.empty path bytes ∙ ap (put (slice_cmp nat_cmp) path bytes) none

pub java_single : (files : FileMap) (path bytes : List ℕ) → files ≡ single path bytes → IsTrue (is_java path) → AllByRecursion (λ p. IsTrue (is_java p)) (finite.keys files)
java_single files path bytes is java = subst (λ (fs : List File). AllByRecursion (λ p. IsTrue (is_java p)) (map (λ f. f.0) fs)) (sym (ap finite.entries is ∙ entries_single path bytes)) (java, tt)

module _ (path before after : List ℕ) (differs : after ≢ before) where
  abbrev change : PlainEntry
  change = (path, Some (Some before), Some (Some after))

  kept : (r : Bool) → bytes_eq before after ≡ r → cond (not r) (change ∷ []) [] ≡ change ∷ []
  kept true is = absurd (differs (sym ((bytes_eq-Decides before after).0 is)))
  kept false is = refl

  one_pair : changes ((path, Some before, Some after) ∷ []) ≡ change ∷ []
  one_pair = out (bytes_eq before after) refl
    where
      out : (r : Bool) → bytes_eq before after ≡ r → map entry_of (cond (not (bytes_eq before after)) ((path, Some before, Some after) ∷ []) []) ≡ change ∷ []
      out true is = absurd (differs (sym ((bytes_eq-Decides before after).0 is)))
      out false is = ap (λ (r : Bool). map entry_of (cond (not r) ((path, Some before, Some after) ∷ []) [])) is

  both : changes (pairs ((path, before) ∷ []) ((path, after) ∷ [])) ≡ change ∷ []
  both =
      ap (λ r. changes (by_order r ((path, Some before, None) ∷ pairs [] ((path, after) ∷ [])) ((path, Some before, Some after) ∷ pairs [] []) ((path, None, Some after) ∷ beside (path, before) (pairs []) [])))
      (tied_itself nat_list_cmp_total path) ∙ one_pair

  pub differences_single : (old new : FileMap) → old ≡ single path before → new ≡ single path after → differences old new ≡ change ∷ []
  differences_single old new old_is new_is =
      ap (λ o. changes (pairs o (finite.entries new))) (ap finite.entries old_is ∙ entries_single path before)
      ∙ ap (λ n. changes (pairs ((path, before) ∷ []) n)) (ap finite.entries new_is ∙ entries_single path after)
      ∙ both

-- files with one file are the image of it
pub held_single : (files : Image) (old : FileMap) (path bytes : List ℕ) → old ≡ single path bytes → Holds files path bytes → SameFiles files (image_of old)
held_single files old path bytes old_is holds q java = decided (bytes_eq q path) refl ∙ ap (λ (m : FileMap). finite.get m q) (sym old_is)
  where
    found : (r : Bool) → bytes_eq q path ≡ r → finite.get (single path bytes) q ≡ cond r (Some bytes) None
    found r is = finite.get-entries (single path bytes) q ∙ ap (find (slice_cmp nat_cmp) q) (entries_single path bytes)
        ∙ ap (λ b. cond b (Some bytes) None) (is_eq-slice_cmp q path ∙ is)

    missing : (o : Option (List ℕ)) → bytes_eq q path ≡ false → files q ≡ o → files q ≡ None
    missing None other is = is
    missing (Some b) other is = absurd (false≢true (sym other ∙ (bytes_eq-Decides q path).1 (holds.only.1 q java (subst IsSome (sym is) refl))))

    decided : (r : Bool) → bytes_eq q path ≡ r → files q ≡ finite.get (single path bytes) q
    decided true is = ap files ((bytes_eq-Decides q path).0 is) ∙ holds.there ∙ sym (found true is)
    decided false is = missing (files q) is refl ∙ sym (found false is)

pub small_single : (files : FileMap) (path bytes : List ℕ) → files ≡ single path bytes → length path ≤ 1024 → length bytes ≤ 16777216 → IsSmallFile files
small_single files path bytes is short small = record { path = path; bytes = bytes; file = ap finite.entries is ∙ entries_single path bytes; short = short; small = small }
