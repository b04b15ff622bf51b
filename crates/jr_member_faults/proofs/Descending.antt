-- What goes down from types to their subtypes, and the packages whose types have subtypes outside.
use Rattle.std.proofs.Common.{◌≡◌, ◌⊎◌, refl, sym, ◌∙◌, ap, ap₂, subst, inl, inr, ⊎_elim, ℕ, Bool, true, false, List, [], ◌∷◌, ◌++◌, append-nil, length, Option, Some, None, option_map, Decides}
use Rattle.std.specs.List.{list_any}
use Rattle.std.proofs.lemmas.Bool.{false≢true}
use Rattle.std.proofs.lemmas.Bool.Decides.{Decides-eqb}
use Rattle.std.proofs.lemmas.Option.{none-some, same_Some}
use Rattle.jr_tree.specs.Rows.{Rows}
use Rattle.jr_defs.specs.Referents.{Table}
use Rattle.jr_defs.specs.Enclosing.{DeclaredIn}
use Rattle.jr_defs.specs.Packages.{SamePackage}
use Rattle.jr_defs.specs.Supertypes.{Super}
use Rattle.jr_plain.specs.Search.{has, Lists}
use Rattle.jr_plain.specs.Declarations.{is_interface}
use Rattle.jr_plain.proofs.Declared.{interface_tells}
use Rattle.jr_plain.proofs.Packaged.{same_package_tells}
use Rattle.jr_plain.proofs.Supertyped.{super_source}
use Rattle.jr_places.specs.declared.chains.Entry.{Entry}
use Rattle.jr_places.specs.Packages.{same_some}
use Rattle.jr_places.specs.Places.{package_number}
use Rattle.jr_places.proofs.Packing.{same_is}
use Rattle.jr_supers.specs.Above.{is_some_item}
use Rattle.jr_members.specs.declared.members.World.{World}
use Rattle.jr_members.specs.Keys.{entry_for, entry_list}
use Rattle.jr_members.specs.Named.{under, has_list}
use Rattle.jr_members.proofs.Each.{front_has}
use Rattle.jr_members.proofs.Heritage.{one_type}
use Rattle.jr_members.proofs.Keyed.{rows_last, none_listed, one_added}
use Rattle.jr_member_faults.specs.declared.descent.Descent.{Descent}
use Rattle.jr_member_faults.specs.Descent.{is_other_type, HasInterfacesAbove, InterfacesStandBelowInterfaces, StaysInside, IsUnder, KeepsUnder, IsOpen, Opens, IsOpening, OpensEach, IsOpenAbove, OpensAbove, AreOpening, AreOpenPackages, IsDescent}
use Rattle.jr_member_faults.specs.Views.{rows_of, table_of, IsRightWorld}
use Rattle.jr_member_faults.proofs.Chained.{refutes, unless}
use Rattle.jr_member_faults.proofs.Looped.{none_passes, IsToldOf, each_more, each_next, each_end}

-- ---- rows under a number

some_row : (xs : List ℕ) → is_some_item xs ≡ true → (d : ℕ) × (has xs d ≡ true)
some_row [] h = absurd (false≢true h)
some_row (x ∷ xs) h = (x, front_has x xs)

pub there_under : (all : List Entry) (x : ℕ) → has_list all x 0 ≡ true → IsUnder all x
there_under all x h = some_row (under all x 0) (sym (rows_last all x 0 (length all)) ∙ h)

pub none_under : (all : List Entry) (x : ℕ) → has_list all x 0 ≡ false → IsUnder all x → ⊥
none_under all x none h = none_listed all x 0 h.0 none h.1

module _ (old new : List Entry) (x r : ℕ) (is : new ≡ old ++ entry_for x 0 r ∷ []) where
  pub kept_under : KeepsUnder old new
  kept_under y h = (h.0, subst (λ l. has (under l y 0) h.0 ≡ true) (sym is) ((one_added old x 0 r y 0 h.0).1 (inl h.1)))

  pub put_under : IsUnder new x
  put_under = (r, subst (λ l. has (under l x 0) r ≡ true) (sym is) ((one_added old x 0 r x 0 r).1 (inr (refl, refl, refl))))

-- the direct supertypes of a type
pub direct_listed : (world : World) → IsRightWorld world → (c : ℕ) (all : List Entry) (rows : List ℕ) → all ≡ world.supers.now.direct.supers → rows ≡ under all c 0 → Lists rows (Super (rows_of world) (table_of world) c)
direct_listed world right c all rows same is = subst (λ xs. Lists xs (Super (rows_of world) (table_of world) c)) (sym (is ∙ ap (λ l. under l c 0) same)) (right.whole.world_is.seen.above.direct.each c)

-- ---- interfaces

module _ (p : Rows) (t : Table) (c : ℕ) where
  pub above_class : is_interface p c ≡ false → HasInterfacesAbove p t c
  above_class none s up is = absurd (refutes (interface_tells p c) none is)

  pub above_interface : (direct : List ℕ) (is : Bool) → Lists direct (Super p t c) → is ≡ list_any (is_other_type p) direct → is ≡ false → HasInterfacesAbove p t c
  above_interface direct is listed e none s up interface = (interface_tells p s).0 (unless (is_interface p s) (none_passes (is_other_type p) direct s (sym e ∙ none) ((listed s).1 up)))

-- ---- packages

opens_entry : (world : World) (c s : ℕ) (old new : List Entry) (number : Option ℕ) → package_number world.under.places.now s ≡ number → new ≡ old ++ entry_list (option_map (λ n. entry_for n 0 s) number) → Opens world c s old new
opens_entry world c s old new None none is = record { kept = λ x h. subst (λ l. IsUnder l x) (sym (is ∙ append-nil old)) h; told = inr (λ x e. absurd (none-some x (sym none ∙ e))) }
opens_entry world c s old new (Some n) some is = record { kept = kept_under old new n s is; told = inr (λ x e. subst (λ y. IsUnder new y) (same_Some n x (sym some ∙ e)) (put_under old new n s is)) }

pub opens_other : (world : World) (c s : ℕ) (old new : List Entry) (entry : Option Entry) → entry ≡ option_map (λ n. entry_for n 0 s) (package_number world.under.places.now s) → new ≡ old ++ entry_list entry → Opens world c s old new
opens_other world c s old new entry e is = opens_entry world c s old new (package_number world.under.places.now s) refl (is ∙ ap (λ o. old ++ entry_list o) e)

pub opens_none : (world : World) (c s : ℕ) (all : List Entry) → SamePackage (rows_of world) c s → Opens world c s all all
opens_none world c s all same = record { kept = λ x h. h; told = inl same }

module _ (world : World) (c : ℕ) where
  open_still : (s : ℕ) (old new : List Entry) → KeepsUnder old new → IsOpen world c s old → IsOpen world c s new
  open_still s old new kept (inl same) = inl same
  open_still s old new kept (inr told) = inr (λ x e. kept x (told x e))

  pub opening_start : (direct : List ℕ) (all : List Entry) → IsOpening world c direct all all direct
  opening_start direct all = record { kept = λ x h. h; told = λ s at. inr at }

  pub opening_next : (direct left more : List ℕ) (x : ℕ) (first old new : List Entry) → left ≡ x ∷ more → IsOpening world c direct first old left → Opens world c x old new → IsOpening world c direct first new more
  opening_next direct left more x first old new is before h = record {
    kept = λ y k. h.kept y (before.kept y k);
    told = each_next direct left more x (λ s. IsOpen world c s new) is h.told (each_more direct left (λ s. IsOpen world c s old) (λ s. IsOpen world c s new) (λ s k. open_still s old new h.kept k) before.told);
  }

  pub opening_end : (direct left : List ℕ) (first all : List Entry) → left ≡ [] → IsOpening world c direct first all left → OpensEach world c direct first all
  opening_end direct left first all none h = record { kept = h.kept; told = each_end direct left (λ s. IsOpen world c s all) none h.told }

  pub opened_above : (direct : List ℕ) (old new : List Entry) → Lists direct (Super (rows_of world) (table_of world) c) → OpensEach world c direct old new → OpensAbove world c old new
  opened_above direct old new listed h = record { kept = h.kept; told = λ s up. h.told s ((listed s).1 up) }

  still_above : (old new : List Entry) → KeepsUnder old new → IsOpenAbove world c old → IsOpenAbove world c new
  still_above old new kept h s up = open_still s old new kept (h s up)

module _ (world : World) where
  pub all_start : (order : List ℕ) (all : List Entry) → AreOpening world order all order
  all_start order all c at = inr at

  pub all_next : (order left more : List ℕ) (x : ℕ) (old new : List Entry) → left ≡ x ∷ more → AreOpening world order old left → OpensAbove world x old new → AreOpening world order new more
  all_next order left more x old new is before h = each_next order left more x (λ c. IsOpenAbove world c new) is h.told
      (each_more order left (λ c. IsOpenAbove world c old) (λ c. IsOpenAbove world c new) (λ c k. still_above world c old new h.kept k) before)

  -- the order has all types that have supertypes
  ordered : IsRightWorld world → (order : List ℕ) (c s : ℕ) → order ≡ world.supers.now.order.items → Super (rows_of world) (table_of world) c s → has order c ≡ true
  ordered right order c s is up = subst (λ xs. has xs c ≡ true) (sym is) (right.whole.world_is.seen.above.order.all c (super_source (rows_of world) (table_of world) right.whole.world_is.seen.above.well.headed c s up))

  pub all_end : IsRightWorld world → (order left : List ℕ) (all : List Entry) → order ≡ world.supers.now.order.items → left ≡ [] → AreOpening world order all left → AreOpenPackages world all
  all_end right order left all is none h c s up = each_end order left (λ e. IsOpenAbove world e all) none h c (ordered right order c s is up) s up

  pub interfaces_end : IsRightWorld world → (order left : List ℕ) → order ≡ world.supers.now.order.items → left ≡ [] → IsToldOf order left (HasInterfacesAbove (rows_of world) (table_of world)) → InterfacesStandBelowInterfaces (rows_of world) (table_of world)
  interfaces_end right order left is none h c s up = each_end order left (HasInterfacesAbove (rows_of world) (table_of world)) none h c (ordered right order c s is up) s up

-- ---- methods that stay in their package

module _ (world : World) (right : IsRightWorld world) where
  abbrev number : ℕ → Option ℕ
  number = package_number world.under.places.now

  numbers_tell : (a b : ℕ) → Decides (same_some (number a) (number b)) (SamePackage (rows_of world) a b)
  numbers_tell a b = let placed = right.whole.world_is.seen.placed in
      subst (λ e. Decides e (SamePackage (rows_of world) a b)) (sym (same_is (rows_of world) placed.local world.under.places.now.packages (placed.are.packages_are placed.local placed.packages) a b)) (same_package_tells (rows_of world) a b)

  one_number : (a b : Option ℕ) (x : ℕ) → same_some a b ≡ true → b ≡ Some x → a ≡ Some x
  one_number None b x h e = absurd (false≢true h)
  one_number (Some a) None x h e = absurd (none-some x e)
  one_number (Some a) (Some b) x h e = ap Some ((Decides-eqb a b).0 h) ∙ e

  both_number : (a b : Option ℕ) (x : ℕ) → a ≡ Some x → b ≡ Some x → same_some a b ≡ true
  both_number a b x e f = ap₂ same_some e f ∙ (Decides-eqb x x).1 refl

  pub stays_told : (descent : Descent) → IsDescent world descent → (c k x : ℕ) → DeclaredIn (rows_of world) c k → SamePackage (rows_of world) c k → number k ≡ Some x → (IsUnder descent.open_packages x → ⊥)
      → StaysInside (rows_of world) (table_of world) k
  stays_told descent is c k x declared same at apart = record {
    own = λ e own. subst (λ z. SamePackage (rows_of world) z k) (one_type (rows_of world) c e k declared own) same;
    down = λ a s up inside. let over = one_number (number s) (number k) x ((numbers_tell s k).1 inside) at in
        ⊎_elim (λ near. (numbers_tell a k).0 (both_number (number a) (number k) x (one_number (number a) (number s) x ((numbers_tell a s).1 near) over) at)) (λ told. absurd (apart (told x over))) (is.packages a s up);
  }
