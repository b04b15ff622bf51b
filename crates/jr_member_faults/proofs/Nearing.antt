-- Methods that keep the rules over those right above them, as they are looked for, and what need not be listed then.
use Rattle.std.proofs.Common.{◌≡◌, ◌⊎◌, refl, sym, ◌∙◌, ap, subst, inl, inr, ⊎_elim, arith, ℕ, ◌+◌, ◌<◌, Bool, true, false, not, ◌&&◌, ◌||◌, codes, List, [], length, Some, Decides}
use Rattle.std.specs.List.{list_any}
use Rattle.std.proofs.lemmas.Bool.{false≢true, false_from_ne_true, cases_eq, and_parts, and_from, or_left}
use Rattle.std.proofs.lemmas.Bool.Decides.{Decides-eqb}
use Rattle.std.proofs.lemmas.Option.{same_Some}
use Rattle.jr_tree.specs.declared.label.Role.TheVariants as role
use Rattle.jr_tree.specs.Rows.{Rows, role_at}
use Rattle.jr_defs.specs.Referents.{Table}
use Rattle.jr_defs.specs.Declarations.{IsPrelude}
use Rattle.jr_defs.specs.Enclosing.{DeclaredIn}
use Rattle.jr_defs.specs.Supertypes.{AtOrAbove}
use Rattle.jr_defs.specs.Members.{SameMethods}
use Rattle.jr_defs.specs.MemberRules.{RedefinesMethod, IsOtherName}
use Rattle.jr_plain.specs.Headed.{IsHeaded}
use Rattle.jr_plain.specs.Search.{has, Lists}
use Rattle.jr_plain.specs.Declarations.{is_prelude}
use Rattle.jr_plain.specs.Supertypes.{declaration, is_at_or_above}
use Rattle.jr_plain.specs.Types.{is_same_signature}
use Rattle.jr_plain.proofs.Tests.{itself, both}
use Rattle.jr_plain.proofs.Searches.{any, some}
use Rattle.jr_plain.proofs.Bounds.{bounded, type_below}
use Rattle.jr_plain.proofs.Declared.{prelude_tells}
use Rattle.jr_plain.proofs.Supertyped.{at_or_above_tells}
use Rattle.jr_plain.proofs.Typed.{signature_tells}
use Rattle.jr_places.specs.Names.{name_row}
use Rattle.jr_places.specs.declared.chains.Entry.{Entry}
use Rattle.jr_places.proofs.Packing.{name_tells}
use Rattle.jr_members.specs.declared.declared.MemberKind.TheVariants as kinds
use Rattle.jr_members.specs.declared.members.World.{World}
use Rattle.jr_members.specs.Held.{IsHeldAs}
use Rattle.jr_members.specs.Keys.{signature_number}
use Rattle.jr_members.specs.Sources.{AreOfKind}
use Rattle.jr_member_rules.specs.Throwing.{is_thrown_name, is_below, declares_more}
use Rattle.jr_member_rules.proofs.Redefined.{method_row}
use Rattle.jr_member_rules.proofs.Thrown.{throws_tells}
use Rattle.jr_member_faults.specs.Nearest.{breaks_form, breaks, Keeps, breaks_same, KeepsAt, ThrowsThrowables, KeepsNear, IsSigned, AreKept, AreKeptTo, SetsApart, SetsNumberApart, IsKept, AreTelling}
use Rattle.jr_member_faults.specs.Descent.{IsUnder}
use Rattle.jr_member_faults.specs.Thrown.{is_other_class, throws_others}
use Rattle.jr_member_faults.specs.Views.{rows_of, table_of, IsRightWorld}
use Rattle.jr_member_faults.proofs.Chained.{refutes, unless}
use Rattle.jr_member_faults.proofs.Looped.{none_passes}
use Rattle.jr_member_faults.proofs.Overridden.{numbers_then, same_numbered}
use Rattle.jr_member_faults.proofs.Reached.{keeps_all}

pub not_so : (b : Bool) → not b ≡ true → b ≡ false
not_so true e = absurd (false≢true e)
not_so false e = refl

-- ---- one method over another

module _ (p : Rows) (t : Table) (m k : ℕ) where
  pub breaks_by_form : breaks_form p t m k ≡ true → true ≡ breaks p t m k
  breaks_by_form h = sym (or_left (breaks_form p t m k) _ h)

  pub breaks_by_throws : (is : Bool) → breaks_form p t m k ≡ false → is ≡ declares_more p t m k → is ≡ breaks p t m k
  breaks_by_throws is none e = e ∙ sym (ap (λ b. b || declares_more p t m k) none)

  pub same_not : is_same_signature p t m k ≡ false → false ≡ breaks_same p t m k
  same_not none = sym (ap (λ b. b && breaks p t m k) none)

  pub same_so : (is : Bool) → is_same_signature p t m k ≡ true → is ≡ breaks p t m k → is ≡ breaks_same p t m k
  same_so is same e = e ∙ sym (ap (λ b. b && breaks p t m k) same)

module _ (p : Rows) (t : Table) (headed : IsHeaded p) (m : ℕ) where
  -- over one of a list that none breaks a rule over
  pub kept_in : (all : List ℕ) (is : Bool) (k : ℕ) → is ≡ list_any (breaks_same p t m) all → is ≡ false → has all k ≡ true → SameMethods p t m k → Keeps p t m k
  kept_in all is k e none at same = sym (ap (λ b. b && breaks p t m k) ((signature_tells p t m k headed.tree).1 same.signature)) ∙ none_passes (breaks_same p t m) all k (sym e ∙ none) at

  pub kept_at : (s x : ℕ) (all : List ℕ) (is : Bool) → name_row p m ≡ x → Lists all (IsHeldAs p t kinds.Method s x) → is ≡ list_any (breaks_same p t m) all → is ≡ false → KeepsAt p t m s
  kept_at s x all is named listed e none k held same = kept_in all is k e none ((listed k).1 (record { of = record { role_is = same.second; named = (Decides-eqb (name_row p k) (name_row p m)).0 ((name_tells p k m).1 (sym same.signature.named)) ∙ named }; held = held })) same

  -- ---- thrown classes

  below_found : (c : ℕ) → Decides (is_below p t (codes "Throwable") c) ((s : ℕ) × (IsPrelude p (codes "Throwable") s × AtOrAbove p t c s))
  below_found c = some (λ s. is_prelude p (codes "Throwable") s && is_at_or_above p t c s) (λ s. IsPrelude p (codes "Throwable") s × AtOrAbove p t c s)
      (λ s. both (prelude_tells p (codes "Throwable") s) (at_or_above_tells p t headed c s)) (length p) (λ s h. type_below p s h.0.type)

  pub throws_told : throws_others p t m ≡ false → ThrowsThrowables p t m
  throws_told none n c h = let parts = and_parts (is_thrown_name p m n) (has (declaration (t n)) c) ((throws_tells p t m n c).1 h) in
      let lt : n < length p = bounded IsOtherName (λ h. h) p n h.named in
      let others = false_from_ne_true (is_other_class p t n) (λ e. refutes (any (λ n. is_thrown_name p m n && is_other_class p t n) (λ n. (is_thrown_name p m n && is_other_class p t n) ≡ true) (λ n. itself (is_thrown_name p m n && is_other_class p t n)) (length p)) none
      (n, lt, and_from (is_thrown_name p m n) (is_other_class p t n) parts.0 e)) in
      let found = (below_found c).0 (unless (is_below p t (codes "Throwable") c) (none_passes (λ c. not (is_below p t (codes "Throwable") c)) (declaration (t n)) c others parts.1)) in
      (found.0, found.1.0, found.1.1)

-- the members of a type under a name are methods
pub held_methods : (p : Rows) (t : Table) (s x : ℕ) (all : List ℕ) → Lists all (IsHeldAs p t kinds.Method s x) → AreOfKind p kinds.Method all
held_methods p t s x all listed = record { each = λ d at. let h = (listed d).0 at in h.of.role_is }

pub like_methods : (p : Rows) (t : Table) (o m : ℕ) (all : List ℕ) → Lists all (λ e. DeclaredIn p o e × SameMethods p t e m) → AreOfKind p kinds.Method all
like_methods p t o m all listed = record { each = λ d at. let h = (listed d).0 at in h.1.first }

-- ---- what is set apart

module _ (world : World) where
  pub apart_start : (apart : List Entry) → AreKeptTo world 0 apart
  apart_start apart m x lt = absurd (omega arith)

  pub apart_next : (n : ℕ) (old new : List Entry) → AreKeptTo world n old → SetsApart world n old new → AreKeptTo world (n + 1) new
  apart_next n old new before h m x lt signed apart = ⊎_elim (λ same. subst (λ k. KeepsNear (rows_of world) (table_of world) k) same (h.told x (subst (λ k. IsSigned world k x) (sym same) signed) apart))
      (λ other. let less : m < n = omega arith in before m x less signed (λ k. apart (h.kept x k))) (cases_eq n m)

  pub apart_end : (n : ℕ) (apart : List Entry) → n ≡ length (rows_of world) → AreKeptTo world n apart → AreKept world apart
  apart_end n apart whole h m x signed = let lt = method_row (rows_of world) m signed.method in h m x (omega arith) signed

  pub apart_none : (n : ℕ) (apart : List Entry) → (role_at (rows_of world) n ≡ role.Method → ⊥) → SetsApart world n apart apart
  apart_none n apart other = record { kept = λ x h. h; told = λ x signed. absurd (other signed.method) }

  pub apart_unsigned : (n : ℕ) (apart : List Entry) → ((x : ℕ) → signature_number world.members.now.callables.signatures n ≡ Some x → ⊥) → SetsApart world n apart apart
  apart_unsigned n apart none = record { kept = λ x h. h; told = λ x signed. absurd (none x signed.number) }

  pub apart_by : (x n : ℕ) (old new : List Entry) → signature_number world.members.now.callables.signatures n ≡ Some x → SetsNumberApart world x n old new → SetsApart world n old new
  apart_by x n old new is h = record { kept = h.kept; told = λ y signed apart. h.told (subst (λ z. IsUnder new z → ⊥) (same_Some y x (sym signed.number ∙ is)) apart) }

  pub number_there : (x n : ℕ) (apart : List Entry) → IsUnder apart x → SetsNumberApart world x n apart apart
  number_there x n apart there = record { kept = λ y h. h; told = λ free. absurd (free there) }

  pub number_keeps : (x n : ℕ) (apart : List Entry) → KeepsNear (rows_of world) (table_of world) n → SetsNumberApart world x n apart apart
  number_keeps x n apart keeps = record { kept = λ y h. h; told = λ free. keeps }

-- ---- what is enough

module _ (p : Rows) (t : Table) (m : ℕ) (all : List ℕ) where
  pub listed_telling : Lists all (RedefinesMethod p t m) → AreTelling p t m all
  listed_telling listed = record { part = λ k at. (listed k).0 at; rest = λ k h. inl ((listed k).1 h) }

  none_telling : all ≡ [] → ((k : ℕ) → RedefinesMethod p t m k → Keeps p t m k) → AreTelling p t m all
  none_telling none keeps = record { part = λ k at. absurd (false≢true (subst (λ xs. has xs k ≡ true) none at)); rest = λ k h. inr (keeps k h) }

pub kept_telling : (world : World) → IsRightWorld world → (apart : List Entry) → AreKept world apart → (m : ℕ) (all : List ℕ) → IsKept world apart m → all ≡ [] → AreTelling (rows_of world) (table_of world) m all
kept_telling world right apart are m all kept none = none_telling (rows_of world) (table_of world) m all none (keeps_all (rows_of world) (table_of world) headed right.whole.bare m each)
  where
    headed : IsHeaded (rows_of world)
    headed = right.whole.world_is.seen.above.well.headed

    each : (k : ℕ) → SameMethods (rows_of world) (table_of world) m k → KeepsNear (rows_of world) (table_of world) k
    each k same = let numbers = same_numbered (rows_of world) (table_of world) headed world.members.now.callables.signatures right.whole.world_is.members_are.signatures_are m same.first k same in
        are k kept.0 (record { method = same.second; number = numbers_then _ _ kept.0 kept.1 numbers }) kept.2
