-- Definitions that reach uses on both sides of a change.
use Rattle.std.proofs.Common.{◌≡◌, inl, inr, ⊎_elim, refl, sym, ◌∙◌, ap, subst, arith, ℕ, ◌+◌, ◌<◌, Bool, true, false, List, [], ◌∷◌, ◌++◌, length, Option, Some, slice_get}
use Rattle.std.specs.List.{Contains}
use Rattle.std.proofs.lemmas.Bool.{false≢true, cases_lt}
use Rattle.std.proofs.lemmas.Option.{none-some, same_Some}
use Rattle.std.proofs.lemmas.List.Elements.{Contains-append_left, Contains-push, Contains-push_cases}
use Rattle.jr_places.specs.declared.stamps.Stamps.{Stamps}
use Rattle.jr_places.specs.Stamps.{is_stamped, IsEmptied, AddsStamp}
use Rattle.jr_flow_defs.specs.declared.point.Point.{Point}
use Rattle.jr_flow_defs.specs.declared.point.PointKind.{PointKind}
use Rattle.jr_flow_defs.specs.declared.point.PointKind.TheVariants as kind
use Rattle.jr_flow_defs.specs.Graphs.{ReachesByNumbers}
use Rattle.jr_flow.specs.Reached.{steps_of}
use Rattle.jr_kept.specs.declared.edges.Firsts.{Firsts}
use Rattle.jr_kept.specs.declared.flows.Flows.{Flows}
use Rattle.jr_kept.specs.declared.arriving.Uses.{Uses}
use Rattle.jr_kept.specs.declared.gathering.Originals.{Originals}
use Rattle.jr_kept.specs.declared.lists.Lists.{Lists}
use Rattle.jr_kept.specs.declared.handing.Handing.{Handing}
use Rattle.jr_kept.specs.Listed.{under_in}
use Rattle.jr_kept.specs.Named.{origin_in}
use Rattle.jr_kept.specs.Ordered.{Checks}
use Rattle.jr_kept.specs.Gathered.{use_in, AddsRow, AreOriginals, AreReached, IsFound, IsOriginalOf, Listed}
use Rattle.jr_kept.specs.Arrived.{old_use, use_from, IsSame, Compares, IsDone, AreDone, AreSame, KeepsUses}
use Rattle.jr_kept.proofs.Naming.{get_inside}
use Rattle.jr_kept.proofs.Searching.{none_in}

-- ---- a set that is filled

pub filled_more : (set added : Stamps) (bound : ℕ) (all : List ℕ) (x : ℕ) (is_new : Bool) → AddsStamp set added bound x is_new → ((n : ℕ) → is_stamped set n ≡ true → Contains all n) → (n : ℕ) → is_stamped added n ≡ true → Contains (all ++ x ∷ []) n
filled_more set added bound all x is_new adds h n s = ⊎_elim (λ early. Contains-append_left all (x ∷ []) n (h n early)) (λ same. subst (Contains (all ++ x ∷ [])) same (Contains-push all x)) (adds.out n s)

stamped_now : (set added : Stamps) (bound x : ℕ) (is_new : Bool) → AddsStamp set added bound x is_new → x < bound → is_stamped added x ≡ true
stamped_now set added bound x true adds lt = (adds.new_one refl).1
stamped_now set added bound x false adds lt = adds.kept x (adds.was lt refl)

pub filled_all : (set added : Stamps) (bound : ℕ) (all : List ℕ) (x : ℕ) (is_new : Bool) → AddsStamp set added bound x is_new → ((n : ℕ) → Contains all n → n < bound → is_stamped set n ≡ true)
    → (n : ℕ) → Contains (all ++ x ∷ []) n → n < bound → is_stamped added n ≡ true
filled_all set added bound all x is_new adds h n m lt = ⊎_elim (λ early. adds.kept n (h n early lt))
    (λ same. subst (λ k. is_stamped added k ≡ true) same (stamped_now set added bound x is_new adds (subst (λ k. k < bound) (sym same) lt))) (Contains-push_cases all x n m)

-- ---- old rows

pub no_originals : (originals : Originals) (bound : ℕ) → IsEmptied originals.met bound → originals.all.items ≡ [] → AreOriginals originals bound
no_originals originals bound empty none = record {
  counted = empty.counted;
  listed = λ n s. absurd (false≢true (sym (empty.none n) ∙ s));
  stamped = λ n m lt. absurd (none_in n (subst (λ xs. Contains xs n) none m));
}

pub original_added : (old new : Originals) (bound row : ℕ) (is_new : Bool) → AreOriginals old bound → AddsStamp old.met new.met bound row is_new → new.all.items ≡ old.all.items ++ row ∷ []
    → AreOriginals new bound × AddsRow old.all.items new.all.items (Some row)
original_added old new bound row is_new h adds is = (
  record {
    counted = adds.counted;
    listed = λ n s. subst (λ xs. Contains xs n) (sym is) (filled_more old.met new.met bound old.all.items row is_new adds h.listed n s);
    stamped = λ n m lt. filled_all old.met new.met bound old.all.items row is_new adds h.stamped n (subst (λ xs. Contains xs n) is m) lt;
  },
  record {
    out = λ n m. ⊎_elim (λ early. inl early) (λ same. inr (ap Some same)) (Contains-push_cases old.all.items row n (subst (λ xs. Contains xs n) is m));
    kept = λ n m. subst (λ xs. Contains xs n) (sym is) (Contains-append_left old.all.items (row ∷ []) n m);
    here = λ n e. subst (λ xs. Contains xs n) (sym is) (subst (Contains (old.all.items ++ row ∷ [])) (same_Some row n e) (Contains-push old.all.items row));
  },
)

-- ---- one use after the other

pub compares_still : (uses : Uses) (done : Stamps) (a : Firsts) → Compares uses done done a a
compares_still uses done a = record { kept = λ n s. s; checks = λ h. (h, λ all. all) }

pub compares_both : (uses : Uses) (r s t : Stamps) (a b c : Firsts) → Compares uses r s a b → Compares uses s t b c → Compares uses r t a c
compares_both uses r s t a b c first second = record {
  kept = λ n h. second.kept n (first.kept n h);
  checks = λ h. let later = second.checks h in let early = first.checks later.0 in (early.0, λ all. later.1 (early.1 all));
}

pub compares_known : (uses : Uses) (done added : Stamps) (a : Firsts) (bound used : ℕ) → used < bound → AddsStamp done added bound used false → Compares uses done added a a × (is_stamped added used ≡ true)
compares_known uses done added a bound used lt adds = (
  record { kept = adds.kept; checks = λ h. (h, λ all n old s o. ⊎_elim (λ early. all n old early o) (λ same. all n old (subst (λ k. is_stamped done k ≡ true) same before) o) (adds.out n s)) },
  adds.kept used before,
)
  where
    before : is_stamped done used ≡ true
    before = adds.was lt refl

pub compares_now : (uses : Uses) (done added : Stamps) (a b : Firsts) (bound used old : ℕ) → origin_in uses.origin.now used ≡ Some old → AddsStamp done added bound used true → Checks a b (IsSame uses used old) → Compares uses done added a b × (is_stamped added used ≡ true)
compares_now uses done added a b bound used old is adds checks = (
  record {
    kept = adds.kept;
    checks = λ h. let one = checks h in (
      one.0,
      λ all n from s o. ⊎_elim (λ early. all n from early o)
          (λ same. subst (λ k. IsSame uses k from) same (subst (IsSame uses used) (same_Some old from (sym is ∙ subst (λ k. origin_in uses.origin.now k ≡ Some from) (sym same) o)) one.1)) (adds.out n s),
    );
  },
  (adds.new_one refl).1,
)

use_from_out : (k : PointKind) (from : Option ℕ) (old : ℕ) → use_from k from ≡ Some old → from ≡ Some old
use_from_out (kind.Use local) from old e = e
use_from_out _ from old e = absurd (none-some old e)

pub old_use_out : (origin : ℕ → Option ℕ) (x : Point) (old : ℕ) → old_use origin x ≡ Some old → origin x.row ≡ Some old
old_use_out origin x old e = use_from_out x.kind (origin x.row) old e

pub done_more : (uses : Uses) (done more : Stamps) (points : List Point) (n : ℕ) (x : Point) → slice_get points n ≡ Some x → ((k : ℕ) → is_stamped done k ≡ true → is_stamped more k ≡ true) → AreDone uses done points n → IsDone uses more x → AreDone uses more points (n + 1)
done_more uses done more points n x at kept early now k y lt e old is = ⊎_elim
    (λ less. kept y.row (early k y less e old is))
    (λ past. let same : n ≡ k = omega (arith, lt, past) in let is_x : x ≡ y = same_Some x y (sym at ∙ ap (slice_get points) same ∙ e) in
    subst (λ z. is_stamped more z.row ≡ true) is_x (now old (subst (λ z. old_use (origin_in uses.origin.now) z ≡ Some old) (sym is_x) is)))
    (cases_lt k n)

pub all_done : (uses : Uses) (done last : Stamps) (bound : ℕ) (a b : Firsts) (points : List Point) → IsEmptied done bound → Compares uses done last a b → AreDone uses last points (length points) → Checks a b (AreSame uses points)
all_done uses done last bound a b points empty compares are h = let ok = compares.checks h in
    (ok.0, λ k x old e is. ok.1 (λ n from s o. absurd (false≢true (sym (empty.none n) ∙ s))) x.row old (are k x (get_inside points k x e) e old is) (old_use_out (origin_in uses.origin.now) x old is))

-- ---- by numbers

found_like : (R S : ℕ → ℕ → Type 0) (use_of : ℕ → Option ℕ) (used : ℕ) → ((d u : ℕ) → R d u → S d u) → (d : ℕ) → IsFound R use_of used d → IsFound S use_of used d
found_like R S use_of used like d (IsFound.first r) = IsFound.first (like d used r)
found_like R S use_of used like d (IsFound.on {d = b} {k = k} f u r) = IsFound.on (found_like R S use_of used like b f) u (like d k r)

original_like : (R S : ℕ → ℕ → Type 0) (use_of origin : ℕ → Option ℕ) (used n : ℕ) → ((d u : ℕ) → R d u → S d u) → IsOriginalOf R use_of origin used n → IsOriginalOf S use_of origin used n
original_like R S use_of origin used n like o = record { copy = o.copy; found = found_like R S use_of used like o.copy o.found; own = o.own; is_copy = o.is_copy }

module _ (flows : Flows) (before after : Lists) (handing : Handing) where
  abbrev Old : ℕ → ℕ → Type 0
  Old d u = ReachesByNumbers flows.before.now.points.items (steps_of flows.before.now) d u

  abbrev New : ℕ → ℕ → Type 0
  New d u = ReachesByNumbers flows.after.now.points.items (steps_of flows.after.now) d u

  abbrev OriginalOf : (ℕ → ℕ → Type 0) → ℕ → ℕ → Type 0
  OriginalOf R used n = IsOriginalOf R (use_in handing) (origin_in flows.origin.now) used n

  pub uses_kept : AreReached (under_in before) Old → AreReached (under_in after) New
      → ((k : ℕ) (x : Point) (old : ℕ) → slice_get flows.after.now.points.items k ≡ Some x → old_use (origin_in flows.origin.now) x ≡ Some old
      → (n : ℕ) → (Contains (under_in before old) n → OriginalOf (Listed (under_in after)) x.row n) × (OriginalOf (Listed (under_in after)) x.row n → Contains (under_in before old) n)) → KeepsUses flows (use_in handing)
  uses_kept old_are new_are h k x old e is n = let both = h k x old e is n in (
    λ r. original_like (Listed (under_in after)) New (use_in handing) (origin_in flows.origin.now) x.row n (λ d u c. (new_are d u).0 c) (both.0 ((old_are n old).1 r)),
    λ o. (old_are n old).0 (both.1 (original_like New (Listed (under_in after)) (use_in handing) (origin_in flows.origin.now) x.row n (λ d u r. (new_are d u).1 r) o)),
  )

  pub uses_listed : AreReached (under_in before) Old → AreReached (under_in after) New → KeepsUses flows (use_in handing)
      → (k : ℕ) (x : Point) (old : ℕ) → slice_get flows.after.now.points.items k ≡ Some x → old_use (origin_in flows.origin.now) x ≡ Some old
      → (n : ℕ) → (Contains (under_in before old) n → OriginalOf (Listed (under_in after)) x.row n) × (OriginalOf (Listed (under_in after)) x.row n → Contains (under_in before old) n)
  uses_listed old_are new_are h k x old e is n = let both = h k x old e is n in (
    λ m. original_like New (Listed (under_in after)) (use_in handing) (origin_in flows.origin.now) x.row n (λ d u r. (new_are d u).1 r) (both.0 ((old_are n old).0 m)),
    λ o. (old_are n old).1 (both.1 (original_like (Listed (under_in after)) New (use_in handing) (origin_in flows.origin.now) x.row n (λ d u c. (new_are d u).0 c) o)),
  )
