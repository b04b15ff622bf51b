-- Renaming and cores that are the same.
use Rattle.std.proofs.Common.{◌≡◌, refl, sym, ap, ◌∙◌, subst, ℕ, Bool, true, false, cond, List, [], ◌∷◌, map, Option, Some, None}
use Rattle.std.specs.List.{find}
use Rattle.std.specs.Option.{option_map}
use Rattle.std.proofs.lemmas.List.{length-map}
use Rattle.jr_base.specs.declared.ids.DeclId.{DeclId}
use Rattle.jr_base.specs.declared.ids.TypeId.{TypeId}
use Rattle.jr_core.specs.declared.bodies.Class.{Class}
use Rattle.jr_core.specs.Mirror.{Body, Core}
use Rattle.jr_machine_defs.specs.declared.state.Ran.{Ran}
use Rattle.jr_machine_defs.specs.Values.{same_decl, same_type}
use Rattle.jr_machine_defs.specs.Classes.{class_in, body_in, found_among}
use Rattle.jr_machine_defs.specs.Steps.{start_of, printed_of, IsRun}
use Rattle.jr_machine_defs.specs.Renamed.{IsRenaming, renamed_type, renamed_pair, renamed_class, renamed_body, renamed_core, renamed_ran}
use Rattle.jr_machine_defs.proofs.RenamedValues.{decl_from_same, cond_image, same_renamed}
use Rattle.jr_machine_defs.proofs.RenamedClasses.{class_in_renamed, body_in_renamed}
use Rattle.jr_machine_defs.proofs.RenamedSteps.{printed_renamed, answer_renamed}
use Rattle.jr_machine_defs.proofs.RenamedTwice.{twice_core}
use Rattle.jr_machine_laws.specs.SameCore.{AlikeClasses, SameCore}
use Rattle.jr_machine_laws.proofs.SameLaws.{joined}
use Rattle.jr_machine_laws.proofs.SameKeys.{type_from_same}
use Rattle.jr_machine_laws.proofs.SameOrder.{class_found, body_found}
use Rattle.jr_machine_laws.proofs.SameSteps.{printed_same, run_same}

-- ---- keys that a renamed look-up finds

abbrev IsImage : {K : Type 0} → (K → K) → K → Type 0
IsImage {K} g key = (k : K) × (g k ≡ key)

-- what is found among the images of items is the image of an item that passes
image_on : {X : Type 0} (test : X → Bool) (h : X → X) (b : Bool) (x : X) (rest : Option X) (y : X) → test (h x) ≡ b → cond b (Some (h x)) rest ≡ Some y
    → (rest ≡ Some y → (x : X) × (test (h x) ≡ true)) → (x : X) × (test (h x) ≡ true)
image_on test h true x rest y e is below = (x, e)
image_on test h false x rest y e is below = below is

image_found : {X : Type 0} (test : X → Bool) (h : X → X) (xs : List X) (y : X) → find test (map h xs) ≡ Some y → (x : X) × (test (h x) ≡ true)
image_found test h [] y e = cc
image_found test h (x ∷ xs) y e = image_on test h (test (h x)) x (find test (map h xs)) y refl e (image_found test h xs y)

-- what is so of two look-ups at each image, and where neither finds anything, is so at each key, if they find nothing at other keys
module _ {K X : Type 0} (g : K → K) (look other : K → Option X) (R : Option X → Option X → Type 0)
    (nothing : R None None) (there : (k : K) → R (look (g k)) (other (g k)))
    (image : (key : K) (x : X) → look key ≡ Some x → IsImage g key) (other_image : (key : K) (x : X) → other key ≡ Some x → IsImage g key) where
  at_image : (key : K) → IsImage g key → R (look key) (other key)
  at_image key i = subst (λ k. R (look k) (other k)) i.1 (there i.0)

  everywhere_on : (key : K) (u v : Option X) → look key ≡ u → other key ≡ v → R (look key) (other key)
  everywhere_on key None None e h = subst (λ u. R u (other key)) (sym e) (subst (R None) (sym h) nothing)
  everywhere_on key (Some x) v e h = at_image key (image key x e)
  everywhere_on key None (Some y) e h = at_image key (other_image key y h)

  everywhere : (key : K) → R (look key) (other key)
  everywhere key = everywhere_on key (look key) (other key) refl refl

module _ (f : DeclId → DeclId) (p : IsRenaming f) where
  class_image : (a : Core) (id : TypeId) (c : Class) → class_in (renamed_core f a) id ≡ Some c → IsImage (renamed_type f) id
  class_image a id c e =
      let x : (c : Class) × (same_type (renamed_class f c).id id ≡ true) =
      image_found (λ c. same_type c.id id) (renamed_class f) a.classes c (sym (class_found (map (renamed_class f) a.classes) id) ∙ e) in
      (x.0.id, type_from_same (renamed_type f x.0.id) id x.1)

  body_image : (a : Core) (decl : DeclId) (b : Body) → body_in (renamed_core f a) decl ≡ Some b → IsImage f decl
  body_image a decl b e =
      let x : (b : Body) × (same_decl (renamed_body f b).decl decl ≡ true) =
      image_found (λ b. same_decl b.decl decl) (renamed_body f) a.bodies b (sym (body_found (map (renamed_body f) a.bodies) decl) ∙ e) in
      (x.0.decl, decl_from_same (f x.0.decl) decl x.1)

  -- ---- found methods

  found_renamed : (all : List (DeclId × DeclId)) (method : DeclId) → found_among (map (renamed_pair f) all) (f method) ≡ option_map f (found_among all method)
  found_renamed [] method = refl
  found_renamed (pair ∷ all) method = cond_image (option_map f) (Some pair.1) (found_among all method) (same_renamed f p pair.0 method) refl (found_renamed all method)

  found_on : (b : Bool) (x : DeclId × DeclId) (rest : Option DeclId) (key copy : DeclId) → same_decl (f x.0) key ≡ b → cond b (Some (f x.1)) rest ≡ Some copy
      → (rest ≡ Some copy → IsImage f key) → IsImage f key
  found_on true x rest key copy e is below = (x.0, decl_from_same (f x.0) key e)
  found_on false x rest key copy e is below = below is

  found_image : (all : List (DeclId × DeclId)) (key copy : DeclId) → found_among (map (renamed_pair f) all) key ≡ Some copy → IsImage f key
  found_image [] key copy e = cc
  found_image (x ∷ all) key copy e = found_on (same_decl (f x.0) key) x (found_among (map (renamed_pair f) all) key) key copy refl e (found_image all key copy)

  methods_same : (c d : List (DeclId × DeclId)) → ((method : DeclId) → found_among c method ≡ found_among d method)
      → (key : DeclId) → found_among (map (renamed_pair f) c) key ≡ found_among (map (renamed_pair f) d) key
  methods_same c d same = everywhere f (found_among (map (renamed_pair f) c)) (found_among (map (renamed_pair f) d)) (λ x y. x ≡ y) refl
      (λ k. found_renamed c k ∙ (ap (option_map f) (same k) ∙ sym (found_renamed d k)))
      (found_image c) (found_image d)

  -- ---- classes and bodies

  alike_renamed : (x y : Option Class) → AlikeClasses x y → AlikeClasses (option_map (renamed_class f) x) (option_map (renamed_class f) y)
  alike_renamed None None h = tt
  alike_renamed None (Some d) h = absurd h
  alike_renamed (Some c) None h = absurd h
  alike_renamed (Some c) (Some d) h = record {
    parent = ap (option_map (renamed_type f)) h.parent;
    faces = ap (map (renamed_type f)) h.faces;
    outer = ap (option_map (renamed_type f)) h.outer;
    members = ap (map f) h.members;
    found = methods_same c.found d.found h.found;
  }

  class_there : (a b : Core) → SameCore a b → (k : TypeId) → AlikeClasses (class_in (renamed_core f a) (renamed_type f k)) (class_in (renamed_core f b) (renamed_type f k))
  class_there a b same k =
      subst (λ x. AlikeClasses x (class_in (renamed_core f b) (renamed_type f k))) (sym (class_in_renamed f p a k))
      (subst (AlikeClasses (option_map (renamed_class f) (class_in a k))) (sym (class_in_renamed f p b k)) (alike_renamed (class_in a k) (class_in b k) (same.classes k)))

  pub core_renamed : (a b : Core) → SameCore a b → SameCore (renamed_core f a) (renamed_core f b)
  core_renamed a b same = record {
    classes = everywhere (renamed_type f) (class_in (renamed_core f a)) (class_in (renamed_core f b)) AlikeClasses tt (class_there a b same) (class_image a) (class_image b);
    bodies = everywhere f (body_in (renamed_core f a)) (body_in (renamed_core f b)) (λ x y. x ≡ y) refl
        (λ k. body_in_renamed f p a k ∙ (ap (option_map (renamed_body f)) (same.bodies k) ∙ sym (body_in_renamed f p b k)))
        (body_image a) (body_image b);
    count = length-map a.classes (renamed_class f) ∙ (same.count ∙ sym (length-map b.classes (renamed_class f)));
  }

  -- ---- a core that is the same as a renamed one

  pub printed_moved : (a b : Core) → SameCore (renamed_core f a) b → (start : DeclId) (n : ℕ) → printed_of b (f start) n ≡ printed_of a start n
  printed_moved a b same start n = sym (printed_same (renamed_core f a) b same (f start) n) ∙ printed_renamed f p a start n

  pub run_moved : (a b : Core) → SameCore (renamed_core f a) b → (start : DeclId) (n : ℕ) (ran : Ran) → IsRun a start n ran → IsRun b (f start) n (renamed_ran f ran)
  run_moved a b same start n ran h = run_same (renamed_core f a) b same (start_of (f start)) n (renamed_ran f ran) (answer_renamed f p a start n ran h)

pub moved_twice : (f g : DeclId → DeclId) → IsRenaming g → (a b c : Core) → SameCore (renamed_core f a) b → SameCore (renamed_core g b) c → SameCore (renamed_core (λ d. g (f d)) a) c
moved_twice f g q a b c h k =
    subst (λ x. SameCore x c) (twice_core f g a) (joined (renamed_core g (renamed_core f a)) (renamed_core g b) c (core_renamed g q (renamed_core f a) b h) k)
