-- What identifiers lead to, one after another.
use Rattle.std.proofs.Common.{◌≡◌, refl, sym, ◌∙◌, ap, subst, ℕ, ◌+◌, Bool, true, false, List, [], ◌∷◌, ◌++◌, drop, Option, Some, None, option_map, if◌then◌else◌, append_assoc, append-nil}
use Rattle.std.proofs.lemmas.Bool.{false≢true}
use Rattle.std.proofs.lemmas.Option.{none-some, same_Some}
use Rattle.jr_tree.specs.declared.label.NameKind.{NameKind}
use Rattle.jr_tree.specs.Rows.{name}
use Rattle.jr_defs.specs.declared.referent.Referent.{Referent}
use Rattle.jr_defs.specs.declared.referent.Referent.TheVariants as referent
use Rattle.jr_plain.specs.Declarations.{is_type}
use Rattle.jr_spelling_rules.specs.Naming.{Before, at_start, in_type, package_behind, next, look_up, qualify}
use Rattle.jr_spell.specs.declared.resolving.Before.{Before as Code}
use Rattle.jr_spell.specs.declared.resolving.Before.TheVariants as code
use Rattle.jr_spell.specs.declared.resolving.Qualifiers.{Qualifiers}
use Rattle.jr_spell.specs.declared.speller.Speller.{Speller}
use Rattle.jr_spell.specs.Packaging.{IsNumber, package_in, inside, IsPath, ArePaths}
use Rattle.jr_spell.specs.Spellers.{rows_of, table_of}
use Rattle.jr_spell.specs.Standing.{texts_of, StandsFor, BothStand, onward, LeadsOn, AreQualified}
use Rattle.jr_spell.proofs.Named.{stands_nothing, stands_package, stands_type}

-- ---- packages

pub package_alone : {s : Speller} {a : Code} {b : Before} (n : ℕ) → ArePaths (rows_of s) s.paths.now → StandsFor s a b → IsNumber (rows_of s) n → a ≡ code.Nothing → (found : Option ℕ) → found ≡ package_in s.paths.now 0 n
    → BothStand s (Some (code.Package found)) (package_behind b (name (rows_of s) n))
package_alone {s} {b = b} n paths stands number is found e = subst (λ q. BothStand s (Some (code.Package found)) (package_behind q (name (rows_of s) n))) (sym (stands_nothing stands is))
    (BothStand.some (StandsFor.of_package (subst (λ o. IsPath (rows_of s) s.paths.now o (name (rows_of s) n ∷ [])) (sym e) (paths.first n number))))

pub package_inside : {s : Speller} {a : Code} {b : Before} (n : ℕ) (number : Option ℕ) → ArePaths (rows_of s) s.paths.now → StandsFor s a b → IsNumber (rows_of s) n → a ≡ code.Package number → (found : Option ℕ) → found ≡ inside s.paths.now number n
    → BothStand s (Some (code.Package found)) (package_behind b (name (rows_of s) n))
package_inside {s} {b = b} n at paths stands number is found e = let q = stands_package at stands is in
    subst (λ q. BothStand s (Some (code.Package found)) (package_behind q (name (rows_of s) n))) (sym q.1)
    (BothStand.some (StandsFor.of_package (subst (λ o. IsPath (rows_of s) s.paths.now o (q.0 ++ name (rows_of s) n ∷ [])) (sym e) (paths.next at q.0 n q.2 number))))

pub package_of_type : {s : Speller} {a : Code} {b : Before} (n c : ℕ) → StandsFor s a b → a ≡ code.OfType c → BothStand s None (package_behind b (name (rows_of s) n))
package_of_type {s} n c stands is = subst (λ q. BothStand s None (package_behind q (name (rows_of s) n))) (sym (stands_type c stands is)) BothStand.none

-- ---- the next identifier

pub next_package : {s : Speller} (b : Before) (n : ℕ) {found : Referent} → found ≡ referent.Package → (o : Option Code) → BothStand s o (package_behind b (name (rows_of s) n)) → BothStand s o (next (rows_of s) b (name (rows_of s) n) found)
next_package {s} b n is o h = subst (λ f. BothStand s o (next (rows_of s) b (name (rows_of s) n) f)) (sym is) h

pub next_type : {s : Speller} (b : Before) (n : ℕ) {found : Referent} {d : ℕ} {level : Option ℕ} → found ≡ referent.Declared d level → (o : Option Code) → BothStand s o (if is_type (rows_of s) d then Some (in_type d) else None)
    → BothStand s o (next (rows_of s) b (name (rows_of s) n) found)
next_type {s} b n is o h = subst (λ f. BothStand s o (next (rows_of s) b (name (rows_of s) n) f)) (sym is) h

pub next_none : {s : Speller} (b : Before) (n : ℕ) (found : Referent) → (found ≡ referent.Package → ⊥) → ((d : ℕ) (level : Option ℕ) → found ≡ referent.Declared d level → ⊥) → BothStand s None (next (rows_of s) b (name (rows_of s) n) found)
next_none b n referent.Package away apart = absurd (away refl)
next_none b n (referent.Declared d level) away apart = absurd (apart d level refl)
next_none b n referent.Unbound away apart = BothStand.none
next_none b n referent.Ambiguous away apart = BothStand.none
next_none b n referent.ArrayLength away apart = BothStand.none

-- ---- what stands after a step

pub both_some : {s : Speller} {o : Option Code} {q : Option Before} (a : Code) → BothStand s o q → o ≡ Some a → (c : Before) × (q ≡ Some c) × StandsFor s a c
both_some a BothStand.none e = absurd (none-some a e)
both_some {s} a (BothStand.some {a = other} {b = b} h) e = (b, refl, subst (λ x. StandsFor s x b) (same_Some other a e) h)

pub both_none : {s : Speller} {o : Option Code} {q : Option Before} → BothStand s o q → o ≡ None → q ≡ None
both_none BothStand.none e = refl
both_none (BothStand.some {a = a} h) e = absurd (none-some a (sym e))

onward_nil : (o : Option (Before × List Referent)) → o ≡ onward [] o
onward_nil None = refl
onward_nil (Some q) = refl

onward_onward : (xs ys : List Referent) (o : Option (Before × List Referent)) → onward xs (onward ys o) ≡ onward (xs ++ ys) o
onward_onward xs ys None = refl
onward_onward xs ys (Some q) = ap (λ zs. Some (q.0, zs)) (sym (append_assoc xs ys q.1))

module _ (s : Speller) (place : ℕ) (k : NameKind) where
  abbrev look : Before → ℕ → Referent
  look b n = look_up (rows_of s) (table_of s) place b k (name (rows_of s) n)

  abbrev goes : Before → List ℕ → Option (Before × List Referent)
  goes b names = qualify (rows_of s) (table_of s) place k b (texts_of (rows_of s) names)

  abbrev step_by : Before → ℕ → List ℕ → Option Before → Option (Before × List Referent)
  step_by b n rest o = elim o as (λ _. Option (Before × List Referent)) [ Some c ↦ option_map (λ q. (q.0, look b n ∷ q.1)) (goes c rest) | None ↦ None ]

  goes_more : (b c : Before) (n : ℕ) (rest : List ℕ) → next (rows_of s) b (name (rows_of s) n) (look b n) ≡ Some c → goes b (n ∷ rest) ≡ onward (look b n ∷ []) (goes c rest)
  goes_more b c n rest e = ap (step_by b n rest) e

  goes_nowhere : (b : Before) (n : ℕ) (rest : List ℕ) → next (rows_of s) b (name (rows_of s) n) (look b n) ≡ None → goes b (n ∷ rest) ≡ None
  goes_nowhere b n rest e = ap (step_by b n rest) e

  pub lead_start : (names : List ℕ) → LeadsOn s place k names 0 code.Nothing []
  lead_start names = record { before = at_start; stands = StandsFor.nothing; rest = onward_nil (goes at_start names) }

  module _ (names : List ℕ) (i n : ℕ) (last : Code) (trace : List Referent) (so_far : LeadsOn s place k names i last trace) (follows : drop i names ≡ n ∷ drop (i + 1) names) (found : Referent)
      (looked : found ≡ look so_far.before n) (o : Option Code) (both : BothStand s o (next (rows_of s) so_far.before (name (rows_of s) n) found)) where
    abbrev b : Before
    b = so_far.before

    both_looked : BothStand s o (next (rows_of s) b (name (rows_of s) n) (look b n))
    both_looked = subst (λ f. BothStand s o (next (rows_of s) b (name (rows_of s) n) f)) looked both

    here : goes at_start names ≡ onward trace (goes b (n ∷ drop (i + 1) names))
    here = so_far.rest ∙ ap (λ ns. onward trace (goes b ns)) follows

    pub lead_more : (a : Code) → o ≡ Some a → (all : List Referent) → all ≡ trace ++ found ∷ [] → LeadsOn s place k names (i + 1) a all
    lead_more a e all pushed = let q = both_some a both_looked e in record {
      before = q.0;
      stands = q.2;
      rest = here ∙ ap (onward trace) (goes_more b q.0 n (drop (i + 1) names) q.1) ∙ onward_onward trace (look b n ∷ []) (goes q.0 (drop (i + 1) names))
          ∙ ap (λ f. onward (trace ++ f ∷ []) (goes q.0 (drop (i + 1) names))) (sym looked) ∙ ap (λ xs. onward xs (goes q.0 (drop (i + 1) names))) (sym pushed);
    }

    pub lead_nowhere : o ≡ None → AreQualified s None (goes at_start names)
    lead_nowhere e = subst (AreQualified s None) (sym (here ∙ ap (onward trace) (goes_nowhere b n (drop (i + 1) names) (both_none both_looked e)))) AreQualified.none

  pub lead_end : (names : List ℕ) (i : ℕ) (q : Qualifiers) → LeadsOn s place k names i q.last q.trace.items → drop i names ≡ [] → AreQualified s (Some q) (goes at_start names)
  lead_end names i q h none = subst (AreQualified s (Some q))
      (sym (h.rest ∙ ap (λ ns. onward q.trace.items (goes h.before ns)) none ∙ ap (λ xs. Some (h.before, xs)) (append-nil q.trace.items))) (AreQualified.some h.stands)

-- ---- a type

type_by : (s : Speller) (d : ℕ) (b : Bool) → b ≡ true → BothStand s (Some (code.OfType d)) (if b then Some (in_type d) else None)
type_by s d true e = BothStand.some StandsFor.of_type
type_by s d false e = absurd (false≢true e)

no_type_by : (s : Speller) (d : ℕ) (b : Bool) → b ≡ false → BothStand s None (if b then Some (in_type d) else None)
no_type_by s d true e = absurd (false≢true (sym e))
no_type_by s d false e = BothStand.none

pub type_stands : (s : Speller) (d : ℕ) → is_type (rows_of s) d ≡ true → BothStand s (Some (code.OfType d)) (if is_type (rows_of s) d then Some (in_type d) else None)
type_stands s d e = type_by s d (is_type (rows_of s) d) e

pub no_type_stands : (s : Speller) (d : ℕ) → is_type (rows_of s) d ≡ false → BothStand s None (if is_type (rows_of s) d then Some (in_type d) else None)
no_type_stands s d e = no_type_by s d (is_type (rows_of s) d) e

-- ---- all of them

pub qualified_some : {s : Speller} {o : Option Qualifiers} {g : Option (Before × List Referent)} (q : Qualifiers) → AreQualified s o g → o ≡ Some q → (b : Before) × (g ≡ Some (b, q.trace.items)) × StandsFor s q.last b
qualified_some q AreQualified.none e = absurd (none-some q e)
qualified_some {s} q (AreQualified.some {q = r} {b = b} h) e = let same = same_Some r q e in (b, ap (λ x. Some (b, x.trace.items)) same, subst (λ x. StandsFor s x.last b) same h)

pub qualified_none : {s : Speller} {o : Option Qualifiers} {g : Option (Before × List Referent)} → AreQualified s o g → o ≡ None → g ≡ None
qualified_none AreQualified.none e = refl
qualified_none (AreQualified.some {q = q} h) e = absurd (none-some q (sym e))
