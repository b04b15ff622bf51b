-- What putting a side into an image does at each path.
use Rattle.std.proofs.Common.{◌≡◌, ◌≢◌, ◌⊎◌, inl, inr, List, ℕ, Bool, true, false, cond, refl, ap, ◌∙◌}
use Rattle.std.specs.Prelude.{Option, Some, None, bytes_eq}
use Rattle.std.proofs.lemmas.Slice.Eq.{bytes_eq-Decides}
use Rattle.std.proofs.lemmas.Cmp.{nat_list_cmp_total}
use Rattle.std.proofs.lemmas.Map.Text.{is_eq-slice_cmp}
use Rattle.std.specs.FinMap.{get, insert, remove, get-insert, get-remove}
use Rattle.jr_base.specs.Files.{FileMap}
use Rattle.jr_store.specs.Image.{Image, ChangesOnly}
use Rattle.jr_store.specs.Replay.{image_of}
use Rattle.jr_store.specs.Sides.{put_side}

-- two paths are one or they differ
pub same_or_not : (q path : List ℕ) → (q ≡ path) ⊎ (q ≢ path)
same_or_not q path = decided (bytes_eq q path) refl
  where
    decided : (b : Bool) → bytes_eq q path ≡ b → (q ≡ path) ⊎ (q ≢ path)
    decided true is = inl ((bytes_eq-Decides q path).0 is)
    decided false is = inr (λ e. cc ((bytes_eq-Decides q path).1 e, is))

pub put_here : (path q : List ℕ) (side : Option (List ℕ)) (f : Image) → q ≡ path → put_side path side f q ≡ side
put_here path q side f is = ap (λ b. cond b side (f q)) ((bytes_eq-Decides q path).1 is)

pub put_elsewhere : (path q : List ℕ) (side : Option (List ℕ)) (f : Image) → q ≢ path → put_side path side f q ≡ f q
put_elsewhere path q side f off = decided (bytes_eq q path) refl
  where
    decided : (b : Bool) → bytes_eq q path ≡ b → cond (bytes_eq q path) side (f q) ≡ f q
    decided true is = absurd (off ((bytes_eq-Decides q path).0 is))
    decided false is = ap (λ b. cond b side (f q)) is

-- a side put into files
pub image-insert : (files : FileMap) (path bytes : List ℕ) → image_of (insert files path bytes) ≡ put_side path (Some bytes) (image_of files)
image-insert files path bytes = λ i q. (get-insert nat_list_cmp_total files path bytes q ∙ ap (λ b. cond b (Some bytes) (get files q)) (is_eq-slice_cmp q path)) i

pub image-remove : (files : FileMap) (path : List ℕ) → image_of (remove files path) ≡ put_side path None (image_of files)
image-remove files path = λ i q. (get-remove nat_list_cmp_total files path q ∙ ap (λ b. cond b None (get files q)) (is_eq-slice_cmp q path)) i

pub put_changes : (path : List ℕ) (side : Option (List ℕ)) (old new : Image) → new ≡ put_side path side old → ChangesOnly path old new
put_changes path side old new is q other = ap (λ (h : Image). h q) is ∙ put_elsewhere path q side old other
