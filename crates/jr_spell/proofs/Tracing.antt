-- What the last identifiers of the name of a type refer to is that of the definition.
use Rattle.std.proofs.Common.{◌≡◌, sym, ◌∙◌, ap, subst, ℕ, suc, ◌<◌, Bool, true, false, List, length, Option, Some, None, if◌then◌else◌}
use Rattle.std.proofs.lemmas.Option.{none-some, same_Some}
use Rattle.jr_tree.specs.declared.label.NameKind.{NameKind}
use Rattle.jr_tree.specs.Rows.{name}
use Rattle.jr_defs.specs.declared.referent.Referent.{Referent}
use Rattle.jr_plain.specs.Access.{is_accessible}
use Rattle.jr_places.specs.Names.{name_row}
use Rattle.jr_shapes.specs.declared.spelling.Suffix.{Suffix}
use Rattle.jr_shapes.specs.Names.{suffix}
use Rattle.jr_lookup.proofs.Looking.{named_first}
use Rattle.jr_spelling_rules.specs.Naming.{at_start, kind_before, look_up, qualify}
use Rattle.jr_spelling_rules.specs.Candidates as candidate
use Rattle.jr_spell.specs.declared.resolving.Resolved.{Resolved}
use Rattle.jr_spell.specs.declared.speller.Speller.{Speller}
use Rattle.jr_spell.specs.Packaging.{IsNumber, AreNumbers}
use Rattle.jr_spell.specs.Adding.{AreNumbersOf, traced, IsAdded}
use Rattle.jr_spell.specs.Spellers.{rows_of, table_of, IsSeenSpeller, IsWholeSpeller}
use Rattle.jr_spell.specs.Standing.{texts_of, AreResolved}
use Rattle.jr_spell.proofs.Packed.{is_number}
use Rattle.jr_spell.proofs.Suffixed.{suffix_none, suffix_some}

pub seen_of : {s : Speller} → IsWholeSpeller s → IsSeenSpeller s
seen_of whole = record { few = whole.sight_is.few; seen = whole.sight_is.world.seen }

module _ (s : Speller) (whole : IsWholeSpeller s) (o : ℕ) (inside : o < length (rows_of s)) (k : NameKind) (end : Suffix) (more : ℕ) (size : end.count ≡ suc more) (lt : end.of < length (rows_of s)) (names : List ℕ)
    (are : AreNumbersOf (rows_of s) (candidate.texts (rows_of s) (candidate.behind_first (suffix (rows_of s) end.count end.of))) names) (n : ℕ) (number : n ≡ name_row (rows_of s) end.of) (given : List ℕ) (found : Option Resolved)
    (resolved : AreNumbers (rows_of s) given → IsNumber (rows_of s) n → AreResolved s o k given n found) (same : given ≡ names) where
  is_resolved : AreResolved s o k names n found
  is_resolved = subst (λ xs. AreResolved s o k xs n found) same
      (resolved (subst (AreNumbers (rows_of s)) (sym same) are.numbers) (subst (IsNumber (rows_of s)) (sym number) (is_number (rows_of s) end.of lt)))

  spells : texts_of (rows_of s) names ≡ candidate.names_before (rows_of s) end.of more
  spells = are.spells ∙ ap (λ count. candidate.texts (rows_of s) (candidate.behind_first (suffix (rows_of s) count end.of))) size

  named : name (rows_of s) n ≡ name (rows_of s) end.of
  named = ap (name (rows_of s)) number ∙ named_first (rows_of s) end.of

  some_by : {r : Option Resolved} → AreResolved s o k names n r → (it : Resolved) → r ≡ Some it → (all : Option (List Referent)) → all ≡ traced (candidate.is_same_row (candidate.target it.found) end.of) it.trace.items it.found
      → all ≡ candidate.suffix_trace (rows_of s) (table_of s) o k end.of more
  some_by (AreResolved.none none) it e all is = absurd (none-some it e)
  some_by (AreResolved.some {r = r} {b = b} led looked) it e all is = let one = same_Some r it e in
      suffix_some (rows_of s) (table_of s) o k end.of more b r.trace.items r.found all (ap (qualify (rows_of s) (table_of s) o (kind_before k) at_start) (sym spells) ∙ led)
      (looked ∙ ap (look_up (rows_of s) (table_of s) o b k) named) (is ∙ ap (λ (q : Resolved). traced (candidate.is_same_row (candidate.target q.found) end.of) q.trace.items q.found) (sym one))

  none_by : {r : Option Resolved} → AreResolved s o k names n r → r ≡ None → None ≡ candidate.suffix_trace (rows_of s) (table_of s) o k end.of more
  none_by (AreResolved.none none) e = suffix_none (rows_of s) (table_of s) o k end.of more (ap (qualify (rows_of s) (table_of s) o (kind_before k) at_start) (sym spells) ∙ none)
  none_by (AreResolved.some {r = r} led looked) e = absurd (none-some r (sym e))

  pub traced_some : {it : Resolved} → found ≡ Some it → (all : Option (List Referent)) → all ≡ traced (candidate.is_same_row (candidate.target it.found) end.of) it.trace.items it.found
      → all ≡ candidate.suffix_trace (rows_of s) (table_of s) o k end.of more
  traced_some {it} e all is = some_by is_resolved it e all is

  pub traced_none : found ≡ None → None ≡ candidate.suffix_trace (rows_of s) (table_of s) o k end.of more
  traced_none e = none_by is_resolved e

-- ---- where the type is accessible

module _ (s : Speller) (o : ℕ) (k : NameKind) (c : ℕ) (b : Bool) (is : b ≡ is_accessible (rows_of s) (table_of s) c o None) where
  abbrev added_by : Bool → Option candidate.Added
  added_by reached = if reached then candidate.suffix_from (rows_of s) (table_of s) o k c 0 (candidate.name_length (rows_of s) c) else None

  pub added_if : b ≡ true → candidate.suffix_from (rows_of s) (table_of s) o k c 0 (candidate.name_length (rows_of s) c) ≡ candidate.added (rows_of s) (table_of s) o k c
  added_if e = sym (ap added_by (sym is ∙ e))

  pub added_unless : b ≡ false → IsAdded None (candidate.added (rows_of s) (table_of s) o k c)
  added_unless e = subst (IsAdded None) (sym (ap added_by (sym is ∙ e))) IsAdded.none
