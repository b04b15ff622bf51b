-- The tests of headers and sizes tell what they are to tell.
use Rattle.std.proofs.Common.{◌≡◌, ◌⊎◌, refl, sym, ◌∙◌, ap, ap₂, subst, inl, inr, ⊎_elim, arith, ℕ, ◌<◌, ◌≤◌, ◌^◌, Bool, true, false, not, ◌||◌, List, length, Option, Some, None, Decides}
use Rattle.std.specs.Prelude.{nat_lt}
use Rattle.std.specs.List.{AllByRecursion}
use Rattle.std.proofs.lemmas.Bool.{false≢true}
use Rattle.std.proofs.lemmas.Bool.Decides.{Decides-eqb, Decides-ltb, Decides-at}
use Rattle.std.proofs.lemmas.Option.{none-some, same_Some}
use Rattle.jr_tree.specs.declared.tree.Unit as declared_unit
use Rattle.jr_tree.specs.Shape.{IsShaped}
use Rattle.jr_tree.specs.declared.label.Label.{Label}
use Rattle.jr_tree.specs.declared.label.Label.TheVariants as is
use Rattle.jr_tree.specs.declared.label.NamePlace.TheVariants as place
use Rattle.jr_tree.specs.Rows.{Rows, label, parent, program_rows}
use Rattle.jr_defs.specs.Declarations.{IsObject}
use Rattle.jr_defs.specs.Supertypes.{IsSuperclassLabel, IsSuperinterfaceLabel}
use Rattle.jr_defs.specs.Headers.{NamesHeader}
use Rattle.jr_plain.specs.Search.{all_below}
use Rattle.jr_plain.specs.Declarations.{is_object}
use Rattle.jr_plain.specs.Headed.{IsHeaded}
use Rattle.jr_plain.proofs.Bounds.{bounded, type_below, label_past}
use Rattle.jr_plain.proofs.Declared.{object_tells}
use Rattle.jr_plain.proofs.Searches.{all, every, finds}
use Rattle.jr_plain.proofs.Tests.{itself, always, both, either, opposite, like}
use Rattle.jr_supers.specs.Above.{HasNoOtherObject}
use Rattle.jr_supers.specs.Direct.{header_place, object_row, SuperclassesStandFirst}
use Rattle.jr_supers.specs.Supers.{IsWellHeaded}
use Rattle.jr_supers.specs.Tabled.{dims_of, dims_made, IsSized}
use Rattle.jr_members.specs.Held.{ObjectIsBare}
use Rattle.jr_headed.specs.Heads.{HasBareObject, is_bare_by, is_bare_at, is_that, is_only, is_well_at, is_shallow_at, is_counted_at, is_sized_at}
use Rattle.jr_headed.proofs.Programs.{headed_programs}

-- a sum that fits, and one that does not
pub few_made : (n : ℕ) → n < 2 ^ 64 → true ≡ nat_lt n (2 ^ 64)
few_made n lt = sym ((Decides-ltb n (2 ^ 64)).1 lt)

pub many_made : (n : ℕ) → 2 ^ 64 ≤ n → false ≡ nat_lt n (2 ^ 64)
many_made n le = by (nat_lt n (2 ^ 64)) (Decides-ltb n (2 ^ 64)).0
  where
    by : (b : Bool) → (b ≡ true → n < 2 ^ 64) → false ≡ b
    by false f = refl
    by true f = absurd (let lt = f refl in omega arith)

abbrev IsHeaderLabel : Label → Type 0
IsHeaderLabel l = IsSuperclassLabel l ⊎ IsSuperinterfaceLabel l

bare_by_label : (l : Label) (b : Bool) → Decides (is_bare_by (header_place l) b) (IsHeaderLabel l → b ≡ true → ⊥)
bare_by_label (is.Name k place.Superclass q) b = like (opposite (itself b)) (λ h n. h) (λ h. h (inl tt))
bare_by_label (is.Name k place.Superinterface q) b = like (opposite (itself b)) (λ h n. h) (λ h. h (inr tt))
bare_by_label _ b = like always (λ h n. ⊎_elim (λ x. absurd x) (λ x. absurd x) n) (λ h. tt)

module _ (p : Rows) where
  abbrev IsBareAt : ℕ → Type 0
  IsBareAt n = IsHeaderLabel (label p n) → IsObject p (parent p n) → ⊥

  bare_tells : (n : ℕ) → Decides (is_bare_at p n) (IsBareAt n)
  bare_tells n = like (bare_by_label (label p n) (is_object p (parent p n))) (λ h l o. h l ((object_tells p (parent p n)).1 o)) (λ h l o. h l ((object_tells p (parent p n)).0 o))

  that_tells : (object : Option ℕ) (n : ℕ) → Decides (is_that object n) (object ≡ Some n)
  that_tells None n = (λ e. absurd (false≢true e), λ e. absurd (none-some n e))
  that_tells (Some x) n = like (Decides-eqb x n) (λ e. ap Some e) (λ e. same_Some x n e)

  abbrev IsOnlyAt : ℕ → Type 0
  IsOnlyAt n = IsObject p n → object_row p ≡ Some n

  only_tells : (n : ℕ) → Decides (is_only p (object_row p) n) (IsOnlyAt n)
  only_tells n = by (is_object p n) (object_tells p n)
    where
      by : (b : Bool) → Decides b (IsObject p n) → Decides (is_that (object_row p) n || not b) (IsOnlyAt n)
      by true d = like (either (that_tells (object_row p) n) (opposite (itself true))) (λ h o. ⊎_elim (λ e. e) (λ k. absurd (k refl)) h) (λ h. inl (h (d.0 refl)))
      by false d = like (either (that_tells (object_row p) n) (opposite (itself false))) (λ h o. absurd (false≢true (d.1 o))) (λ h. inr (λ e. false≢true e))

  header_below : (c n : ℕ) → NamesHeader p c n → (n < length p) × IsHeaderLabel (label p n) × (parent p n ≡ c)
  header_below c n (inl h) = (bounded IsSuperclassLabel (λ x. x) p n h.names, inl h.names, h.inside)
  header_below c n (inr h) = (bounded IsSuperinterfaceLabel (λ x. x) p n h.names, inr h.names, h.inside)

  names_header : (n : ℕ) → IsHeaderLabel (label p n) → NamesHeader p (parent p n) n
  names_header n (inl h) = inl (record { names = h; inside = refl })
  names_header n (inr h) = inr (record { names = h; inside = refl })

  found_object : (n : ℕ) → HasNoOtherObject p → IsObject p n → object_row p ≡ Some n
  found_object n one o = (finds (λ k. is_object p k) (IsObject p) (object_tells p) (length p) (λ k h. type_below p k h.type) one n).1 o

  heads_tell : length p < 2 ^ 32 → Decides (all_below (length p) (is_well_at p (object_row p))) (HasBareObject p)
  heads_tell few = like (all (is_well_at p (object_row p)) (λ n. IsBareAt n × IsOnlyAt n) (λ n. both (bare_tells n) (only_tells n)) (length p))
      (λ h. record {
        few = few;
        one = λ r s o k. same_Some r s (sym ((h r (type_below p r o.type)).1 o) ∙ (h s (type_below p s k.type)).1 k);
        bare = λ c n o name. let b = header_below c n name in (h n b.0).0 b.1 (subst (IsObject p) (sym b.2) o);
      })
      (λ h n lt. (λ l o. h.bare (parent p n) n o (names_header n l), λ o. found_object n h.one o))

  shallow_tells : (n : ℕ) → Decides (is_shallow_at p n) (dims_of (label p n) < 2 ^ 63)
  shallow_tells n = Decides-ltb (dims_of (label p n)) (2 ^ 63)

  past_shallow : (n : ℕ) → length p ≤ n → dims_of (label p n) < 2 ^ 63
  past_shallow n le = let e = ap dims_of (label_past p n le) in omega arith

  counted_tells : (n : ℕ) → Decides (is_counted_at p n) (dims_made (label p n) < 2 ^ 64)
  counted_tells n = Decides-ltb (dims_made (label p n)) (2 ^ 64)

  past_counted : (n : ℕ) → length p ≤ n → dims_made (label p n) < 2 ^ 64
  past_counted n le = let e = ap dims_made (label_past p n le) in omega arith

  sizes_tell : length p < 2 ^ 32 → Decides (all_below (length p) (is_sized_at p)) (IsSized p)
  sizes_tell few = like (every (length p) (is_sized_at p) (λ n. both (shallow_tells n) (counted_tells n)) (λ n le. (past_shallow n le, past_counted n le)))
      (λ h. record { few = few; shallow = λ n. (h n).0; counted = λ n. (h n).1 }) (λ h n. (h.shallow n, h.counted n))

-- with as many rows as are counted
pub heads_told : (p : Rows) (object : Option ℕ) (end : ℕ) (is : Bool) → end ≡ length p → length p < 2 ^ 32 → object ≡ object_row p → is ≡ all_below end (is_well_at p object) → Decides is (HasBareObject p)
heads_told p object end is all_rows few found told = Decides-at _ _ (told ∙ ap₂ (λ n o. all_below n (is_well_at p o)) all_rows found) (heads_tell p few)

pub sizes_told : (p : Rows) (end : ℕ) (is : Bool) → end ≡ length p → length p < 2 ^ 32 → is ≡ all_below end (is_sized_at p) → Decides is (IsSized p)
sizes_told p end is all_rows few told = Decides-at _ _ (told ∙ ap (λ n. all_below n (is_sized_at p)) all_rows) (sizes_tell p few)

pub well_headed : (p : Rows) (units : List declared_unit.Unit) → AllByRecursion IsShaped units → p ≡ program_rows units → HasBareObject p → IsWellHeaded p × ObjectIsBare p
well_headed p units shaped is h = let P = headed_programs units shaped in
    (record { headed = subst IsHeaded (sym is) P.0; one = h.one; first = subst SuperclassesStandFirst (sym is) P.1 }, h.bare)
